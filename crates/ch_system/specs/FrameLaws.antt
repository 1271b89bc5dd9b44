-- What holds of every time code.
use Rattle.std.proofs.Common.{◌≡◌, ℕ, ◌/◌, ◌%◌, ◌<◌, Bool, true, false, cond, eqb, List, [], ◌∷◌, Option, Some, None, fold, ltb, refl, arith, inl, inr}
use Rattle.std.specs.Option.{is_some}
use Rattle.std.proofs.lemmas.Bool.{cases_Bool}
use Rattle.jm_cmds.specs.declared.commands.Command.{Command}
use Rattle.jm_cmds.specs.declared.commands.Command.TheVariants.{QuarterFrame}
use Rattle.jm_cmds.specs.declared.history.Sent.{Sent}
use Rattle.jm_cmds.specs.Command.{IsCommand}
use Rattle.jm_cmds.specs.Control.{is_reset}
use Rattle.jm_cmds.specs.History.{below}
use Rattle.jm_cmds.specs.HistoryLaws.{AllByRecursion-filter}
use Rattle.jm_cmds.specs.Sent.{packet_of}
use Rattle.ch_system.specs.declared.items.SystemItem.TheVariants.{Frames}
use Rattle.jm_cmds.specs.declared.frames.TimePart.{TimePart}
use Rattle.jm_cmds.specs.declared.frames.FrameEvent.{FrameEvent}
use Rattle.jm_cmds.specs.declared.frames.FrameEvent.TheVariants.{Framed, Cleared, Other}
use Rattle.ch_system.specs.Items.{is_frame, item_coded}
use Rattle.jm_cmds.specs.Frames.{frame_event, IsFrameEvent, time_code_from, restarted, advanced, is_next, framed_on, time_code_step, time_code_along, time_code_after, IsTimeCode}
use Rattle.ch_system.specs.StateLaws.{Lasts, coded_there}
use Rattle.ch_system.specs.Fresh.{AreCommands}

-- ## POINT is a type

within-cleared : (b : Bool) → IsFrameEvent (cond b Cleared Other)
within-cleared true = tt
within-cleared false = tt

IsFrameEvent-event : (command : Command) → IsCommand command → IsFrameEvent (frame_event command)
IsFrameEvent-event (QuarterFrame value) h = h
IsFrameEvent-event command h = within-cleared (is_reset command)

restarted-bound : (kind nibble : ℕ) (code : TimePart) → (restarted kind nibble code).point < 8
restarted-bound kind nibble code =
    elim (cases_Bool (eqb kind 0)) [
      | inl t ↦ rw t (omega arith)
      | inr f ↦ elim (cases_Bool (eqb kind 7)) [
        | inl s ↦ rw (f, s) (omega arith)
        | inr n ↦ elim (cases_Bool code.backward) [ inl b ↦ rw (f, n, b) (omega arith) | inr g ↦ rw (f, n, g) (omega arith) ]
      ]
    ]

advanced-bound : (kind nibble word : ℕ) (code : TimePart) → kind < 8 → (advanced kind nibble word code).point < 8
advanced-bound kind nibble word code h =
    elim (cases_Bool (eqb kind (cond code.backward 0 7))) [ inl t ↦ rw t h | inr f ↦ rw f h ]

framed-bound : (kind nibble : ℕ) (code : TimePart) (partial : Option ℕ) → kind < 8 → (framed_on kind nibble code partial).point < 8
framed-bound kind nibble code None h = restarted-bound kind nibble code
framed-bound kind nibble code (Some word) h =
    elim (cases_Bool (is_next kind code)) [
      | inl t ↦ rw t (advanced-bound kind nibble word code h)
      | inr f ↦ rw f (restarted-bound kind nibble code)
    ]

IsTimeCode-step : (state : Option TimePart) (event : FrameEvent) → IsTimeCode state → IsFrameEvent event → IsTimeCode (time_code_step state event)
IsTimeCode-step state (Framed value) h e =
    let code = time_code_from state in
    framed-bound (value / 16) (value % 16) code code.partial (omega (arith, e))
IsTimeCode-step state Cleared h e = tt
IsTimeCode-step state Other h e = h

IsTimeCode-fold : (state : Option TimePart) (sent : List Sent) → IsTimeCode state → AreCommands sent → IsTimeCode (fold time_code_along state sent)
IsTimeCode-fold state [] h a = h
IsTimeCode-fold state (x ∷ xs) h a =
    IsTimeCode-fold (time_code_along state x) xs
    (IsTimeCode-step state (frame_event x.command) h (IsFrameEvent-event x.command a.0)) a.1

pub IsTimeCode-after : (packet : ℕ) (sent : List Sent) → AreCommands sent → IsTimeCode (time_code_after (below packet_of packet sent))
unfolding time_code_after
IsTimeCode-after packet sent a =
    IsTimeCode-fold None (below packet_of packet sent) tt
    (AllByRecursion-filter (λ place. IsCommand place.command) (λ (place : Sent). ltb (packet_of place) packet) sent a)

-- ## It is there where the item is coded

made : (state : Option TimePart) (command : Command) → is_frame command ≡ true → is_some (time_code_step state (frame_event command)) ≡ true
made state (QuarterFrame value) e = refl
made state command e = absurd cc

kept-by : (b : Bool) (state : Option TimePart) → b ≡ false → is_some state ≡ true → is_some (time_code_step state (cond b Cleared Other)) ≡ true
kept-by true state b s = absurd cc
kept-by false state b s = s

kept : (state : Option TimePart) (command : Command) → is_reset command ≡ false → is_some state ≡ true → is_some (time_code_step state (frame_event command)) ≡ true
kept state (QuarterFrame value) r s = refl
kept state command r s = kept-by (is_reset command) state r s

pub time_code_lasts : Lasts Frames time_code_along
time_code_lasts = record {
  made = λ state (place : Sent) e. made state place.command e;
  kept = λ state (place : Sent) r s. kept state place.command r s;
}

pub time_code_there : (checkpoint packet : ℕ) (sent : List Sent) (x : Sent) (rest : List Sent) → item_coded Frames checkpoint packet sent ≡ x ∷ rest →
    is_some (time_code_after (below packet_of packet sent)) ≡ true
unfolding time_code_after
time_code_there checkpoint packet sent x rest e = coded_there Frames time_code_along time_code_lasts checkpoint packet sent x rest e
