-- What holds of every song position.
use Rattle.std.proofs.Common.{◌≡◌, ℕ, ◌<◌, Bool, true, false, cond, List, [], ◌∷◌, Option, Some, None, fold, ltb, refl, arith, inl, inr}
use Rattle.std.specs.Option.{is_some}
use Rattle.std.proofs.lemmas.Bool.{cases_Bool}
use Rattle.jm_cmds.specs.declared.commands.Command.{Command}
use Rattle.jm_cmds.specs.declared.commands.Command.TheVariants.{SongPosition, Clock, Start, Continue, Stop}
use Rattle.jm_cmds.specs.declared.history.Sent.{Sent}
use Rattle.jm_cmds.specs.Command.{IsCommand}
use Rattle.jm_cmds.specs.Control.{is_reset}
use Rattle.jm_cmds.specs.History.{below}
use Rattle.jm_cmds.specs.HistoryLaws.{AllByRecursion-filter}
use Rattle.jm_cmds.specs.Sent.{packet_of}
use Rattle.ch_system.specs.declared.items.SystemItem.TheVariants.{Sequence}
use Rattle.jm_cmds.specs.declared.sequencing.SequencerPart.{SequencerPart}
use Rattle.jm_cmds.specs.declared.sequencing.SequencerEvent.{SequencerEvent}
use Rattle.jm_cmds.specs.declared.sequencing.SequencerEvent.TheVariants.{Clocked, Started, Continued, Stopped, Located, Cleared, Other}
use Rattle.ch_system.specs.Items.{is_sequence, item_coded}
use Rattle.jm_cmds.specs.Sequencing.{sequencer_event, IsSequencerEvent, sequencer_from, clocked, sequencer_step, sequencer_along, sequencer_after, IsSequencer}
use Rattle.ch_system.specs.StateLaws.{Lasts, coded_there}
use Rattle.ch_system.specs.Fresh.{AreCommands}

-- ## The position is one modulo 2^19

within-cleared : (b : Bool) → IsSequencerEvent (cond b Cleared Other)
within-cleared true = tt
within-cleared false = tt

IsSequencerEvent-event : (command : Command) → IsCommand command → IsSequencerEvent (sequencer_event command)
IsSequencerEvent-event Clock h = tt
IsSequencerEvent-event Start h = tt
IsSequencerEvent-event Continue h = tt
IsSequencerEvent-event Stop h = tt
IsSequencerEvent-event (SongPosition value) h = h
IsSequencerEvent-event command h = within-cleared (is_reset command)

from-bound : (state : Option SequencerPart) → IsSequencer state → (sequencer_from state).position < 524288
from-bound None h = omega arith
from-bound (Some s) h = h

clocked-bound : (s : SequencerPart) → s.position < 524288 → (clocked s).position < 524288
clocked-bound s h =
    elim (cases_Bool s.running) [
      | inl t ↦ elim (cases_Bool s.downbeat) [ inl d ↦ rw (t, d) (omega arith) | inr n ↦ rw (t, n) h ]
      | inr f ↦ rw f h
    ]

IsSequencer-step : (state : Option SequencerPart) (event : SequencerEvent) → IsSequencer state → IsSequencerEvent event → IsSequencer (sequencer_step state event)
IsSequencer-step state Clocked h e = clocked-bound (sequencer_from state) (from-bound state h)
IsSequencer-step state Started h e = omega arith
IsSequencer-step state Continued h e = from-bound state h
IsSequencer-step state Stopped h e = from-bound state h
IsSequencer-step state (Located value) h e = omega (arith, e)
IsSequencer-step state Cleared h e = tt
IsSequencer-step state Other h e = h

IsSequencer-fold : (state : Option SequencerPart) (sent : List Sent) → IsSequencer state → AreCommands sent → IsSequencer (fold sequencer_along state sent)
IsSequencer-fold state [] h a = h
IsSequencer-fold state (x ∷ xs) h a =
    IsSequencer-fold (sequencer_along state x) xs
    (IsSequencer-step state (sequencer_event x.command) h (IsSequencerEvent-event x.command a.0)) a.1

pub IsSequencer-after : (packet : ℕ) (sent : List Sent) → AreCommands sent → IsSequencer (sequencer_after (below packet_of packet sent))
unfolding sequencer_after
IsSequencer-after packet sent a =
    IsSequencer-fold None (below packet_of packet sent) tt
    (AllByRecursion-filter (λ place. IsCommand place.command) (λ (place : Sent). ltb (packet_of place) packet) sent a)

-- ## It is there where the item is coded

made : (state : Option SequencerPart) (command : Command) → is_sequence command ≡ true → is_some (sequencer_step state (sequencer_event command)) ≡ true
made state Clock e = refl
made state Start e = refl
made state Continue e = refl
made state Stop e = refl
made state (SongPosition value) e = refl
made state command e = absurd cc

kept-by : (b : Bool) (state : Option SequencerPart) → b ≡ false → is_some state ≡ true → is_some (sequencer_step state (cond b Cleared Other)) ≡ true
kept-by true state b s = absurd cc
kept-by false state b s = s

kept : (state : Option SequencerPart) (command : Command) → is_reset command ≡ false → is_some state ≡ true → is_some (sequencer_step state (sequencer_event command)) ≡ true
kept state Clock r s = refl
kept state Start r s = refl
kept state Continue r s = refl
kept state Stop r s = refl
kept state (SongPosition value) r s = refl
kept state command r s = kept-by (is_reset command) state r s

pub position_lasts : Lasts Sequence sequencer_along
position_lasts = record {
  made = λ state (place : Sent) e. made state place.command e;
  kept = λ state (place : Sent) r s. kept state place.command r s;
}

pub position_there : (checkpoint packet : ℕ) (sent : List Sent) (x : Sent) (rest : List Sent) → item_coded Sequence checkpoint packet sent ≡ x ∷ rest →
    is_some (sequencer_after (below packet_of packet sent)) ≡ true
unfolding sequencer_after
position_there checkpoint packet sent x rest e = coded_there Sequence sequencer_along position_lasts checkpoint packet sent x rest e
