-- What repair hands on tells a listener of parameters.
use Rattle.std.proofs.Common.{◌≡◌, ℕ, ◌+◌, ◌<◌, ◌≤◌, Bool, false, List}
use Rattle.jm_cmds.specs.declared.history.Sent.{Sent}
use Rattle.jm_cmds.specs.History.{below, InOrder}
use Rattle.jm_cmds.specs.Sent.{packet_of}
use Rattle.jm_state.specs.declared.state.State.{State}
use Rattle.jm_state.specs.Parts.{param_of}
use Rattle.jm_reader.specs.declared.logs.Log.{Log}
use Rattle.jm_reader.specs.WrittenJournal.{journal_logs}
use Rattle.jm_receiver.specs.Agreement.{is_crowded, Agrees}
use Rattle.jm_receiver.specs.FreshLogs.{fresh_of}
use Rattle.jm_receiver.specs.HeardLaw.{handed_on_by}
use Rattle.jm_receiver.specs.Listened.{listened}
use Rattle.jm_receiver.specs.Repair.{repaired}
use Rattle.jm_receiver.specs.Whole.{IsWhole}

-- The commands that repair of this state by these logs hands on, each applied in order to it, leave it with the parameters of the repaired
-- state, in each channel that these commands don't crowd.
abbrev pub ParamsAreTold : List Log → State → (time : ℕ) → List Sent → Type 0
ParamsAreTold logs s time sent =
    (channel : ℕ) (nrpn : Bool) (high low : ℕ) → channel < 16 → is_crowded channel sent ≡ false → param_of (listened s (handed_on_by logs s time)) channel nrpn high low ≡ param_of (repaired s logs) channel nrpn high low

-- So it is of a whole state that agrees with the packets before `next`, for a journal of which the checkpoint isn't later than that; and
-- by the fresh logs alone, where just one packet was lost.
pub record ParametersAreHeard : Type 0 where
  pub by_all : (checkpoint next packet tick time : ℕ) (sent : List Sent) (s : State) → InOrder packet_of sent → checkpoint ≤ next → next ≤ packet → IsWhole s → Agrees s (below packet_of next sent) →
      ParamsAreTold (journal_logs checkpoint packet tick sent) s time (below packet_of packet sent)
  pub by_fresh : (checkpoint last tick time : ℕ) (sent : List Sent) (s : State) → InOrder packet_of sent → checkpoint ≤ last → IsWhole s → Agrees s (below packet_of last sent) →
      ParamsAreTold (fresh_of (journal_logs checkpoint (last + 1) tick sent)) s time (below packet_of (last + 1) sent)
