-- No note, and one note more.
use Rattle.std.proofs.Common.{◌≡◌, ℕ, suc, ◌+◌, if◌then◌else◌, refl, arith}
use Rattle.std.specs.Prelude.{is_none}
use Rattle.jm_state.specs.declared.state.State.{State}
use Rattle.jm_state.specs.Parts.{note_of}
use Rattle.jm_jam.specs.Summary.{sounding_below}

pub sounding_none : (state : State) (channel : ℕ) → sounding_below state channel 0 ≡ 0
unfolding sounding_below
sounding_none state channel = refl

pub sounding_more : (state : State) (channel note : ℕ) → sounding_below state channel (note + 1) ≡ (if is_none (note_of state channel note) then sounding_below state channel note else sounding_below state channel note + 1)
unfolding sounding_below
sounding_more state channel note = let e : note + 1 ≡ suc note = omega arith in rw e refl
