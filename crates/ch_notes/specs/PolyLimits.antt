-- How a command, and a later checkpoint, change the number of notes that Chapter A codes.
use Rattle.std.proofs.Common.{◌≡◌, ℕ, ◌+◌, ◌≤◌, Bool, true, false, cond, eqb, List, [], ◌∷◌, ◌++◌, Some, None, refl}
use Rattle.std.proofs.lemmas.Bool.{eq-eqb}
use Rattle.jm_cmds.specs.declared.commands.Command.{Command}
use Rattle.jm_cmds.specs.declared.commands.Command.TheVariants.{PolyPressure}
use Rattle.jm_cmds.specs.declared.history.Sent.{Sent}
use Rattle.jm_cmds.specs.Control.{ends_controllers}
use Rattle.jm_cmds.specs.Keys.{EndsKey, keys_push, keys_none, keys_met, keys_later, none_some}
use Rattle.jm_cmds.specs.Sent.{packet_of}
use Rattle.ch_notes.specs.declared.presses.PolyEvent.{PolyEvent}
use Rattle.ch_notes.specs.declared.presses.PolyEvent.TheVariants.{Pressed, Dropped, Other}
use Rattle.ch_notes.specs.PolyEvent.{poly_event, poly_at, poly_event_ends, poly_ends, poly_key, pressed_note, is_poly}
use Rattle.ch_notes.specs.ChapterA.{poly_count, has_poly}

meets : (a b : PolyEvent) (k : ℕ) → pressed_note a ≡ Some k → pressed_note b ≡ Some k → poly_event_ends a b ≡ true
meets (Pressed note value) (Pressed other next) k p q = eq-eqb note other (cc)
meets (Pressed note value) Dropped k p q = absurd (none_some k q)
meets (Pressed note value) Other k p q = absurd (none_some k q)
meets Dropped b k p q = absurd (none_some k p)
meets Other b k p q = absurd (none_some k p)

-- a pressure on a note ends the one before it
pub EndsKey-poly : (channel : ℕ) → EndsKey (poly_ends channel) (poly_key channel)
EndsKey-poly channel = λ x y k p q. meets (poly_at channel x) (poly_at channel y) k p q

-- ## The key of a command

-- a pressure presses its own note on its own channel
pub poly_key-own : (channel note value : ℕ) → pressed_note (poly_event channel (PolyPressure channel note value)) ≡ Some note
poly_key-own channel note value = rw (eq-eqb channel channel refl) refl

-- and none on another
pub poly_key-apart : (channel at note value : ℕ) → eqb at channel ≡ false → pressed_note (poly_event channel (PolyPressure at note value)) ≡ None
poly_key-apart channel at note value e = rw e refl

dropped-none : (b : Bool) → pressed_note (cond b Dropped Other) ≡ None
dropped-none true = refl
dropped-none false = refl

-- other commands press none
pub poly_key-other : (channel : ℕ) (command : Command) → is_poly command ≡ false → pressed_note (poly_event channel command) ≡ None
poly_key-other channel (PolyPressure at note value) e = absurd (let f : true ≡ false = e in cc)
poly_key-other channel command e = dropped-none (ends_controllers channel command)

-- ## One command more

-- One more command makes the coded notes at most one more.
pub poly_count-push : (channel checkpoint : ℕ) (sent : List Sent) (last : Sent) → checkpoint ≤ last.packet → poly_count channel checkpoint (sent ++ last ∷ []) ≤ poly_count channel checkpoint sent + 1
unfolding poly_count
poly_count-push channel checkpoint sent last l = keys_push (poly_ends channel) packet_of (poly_key channel) checkpoint sent last l

-- One that presses no key of the channel makes them no more.
pub poly_count-other : (channel checkpoint : ℕ) (sent : List Sent) (last : Sent) → checkpoint ≤ last.packet → poly_key channel last ≡ None → poly_count channel checkpoint (sent ++ last ∷ []) ≤ poly_count channel checkpoint sent
unfolding poly_count
poly_count-other channel checkpoint sent last l e = keys_none (poly_ends channel) packet_of (poly_key channel) checkpoint sent last l e

-- Nor does one on a note that is coded.
pub poly_count-met : (channel checkpoint note : ℕ) (sent : List Sent) (last : Sent) → checkpoint ≤ last.packet → poly_key channel last ≡ Some note → has_poly channel checkpoint note sent ≡ true → poly_count channel checkpoint (sent ++ last ∷ []) ≤ poly_count channel checkpoint sent
unfolding poly_count has_poly
poly_count-met channel checkpoint note sent last l e h = keys_met (poly_ends channel) packet_of (poly_key channel) (EndsKey-poly channel) checkpoint sent last note l e h

-- A later checkpoint makes them no more.
pub poly_count-later : (channel checkpoint later : ℕ) (sent : List Sent) → checkpoint ≤ later → poly_count channel later sent ≤ poly_count channel checkpoint sent
unfolding poly_count
poly_count-later channel checkpoint later sent l = keys_later (poly_ends channel) packet_of (poly_key channel) checkpoint later sent l

-- How the number of coded notes changes as commands are sent and the checkpoint grows.
pub record PolyLimits : Type 0 where
  pub one_more : (channel checkpoint : ℕ) (sent : List Sent) (last : Sent) → checkpoint ≤ last.packet → poly_count channel checkpoint (sent ++ last ∷ []) ≤ poly_count channel checkpoint sent + 1
  pub other : (channel checkpoint : ℕ) (sent : List Sent) (last : Sent) → checkpoint ≤ last.packet → poly_key channel last ≡ None → poly_count channel checkpoint (sent ++ last ∷ []) ≤ poly_count channel checkpoint sent
  pub met : (channel checkpoint note : ℕ) (sent : List Sent) (last : Sent) → checkpoint ≤ last.packet → poly_key channel last ≡ Some note → has_poly channel checkpoint note sent ≡ true → poly_count channel checkpoint (sent ++ last ∷ []) ≤ poly_count channel checkpoint sent
  pub fewer : (channel checkpoint later : ℕ) (sent : List Sent) → checkpoint ≤ later → poly_count channel later sent ≤ poly_count channel checkpoint sent
