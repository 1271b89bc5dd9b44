-- What repair hands on tells a listener of selections.
use Rattle.std.proofs.Common.{◌≡◌, ℕ, ◌+◌, ◌<◌, ◌≤◌, List}
use Rattle.jm_cmds.specs.declared.history.Sent.{Sent}
use Rattle.jm_cmds.specs.History.{below, InOrder}
use Rattle.jm_cmds.specs.Sent.{packet_of}
use Rattle.ch_sysex.specs.ChapterX.{sysex_logs}
use Rattle.jm_state.specs.declared.state.State.{State}
use Rattle.jm_state.specs.Parts.{selection_of}
use Rattle.jm_reader.specs.declared.logs.Log.{Log}
use Rattle.jm_reader.specs.Written.{AreCommands}
use Rattle.jm_reader.specs.WrittenJournal.{journal_logs}
use Rattle.jm_receiver.specs.Agreement.{Agrees}
use Rattle.jm_receiver.specs.FreshLogs.{fresh_of}
use Rattle.jm_receiver.specs.HeardLaw.{handed_on_by}
use Rattle.jm_receiver.specs.Listened.{listened}
use Rattle.jm_receiver.specs.Repair.{repaired}
use Rattle.jm_receiver.specs.Whole.{IsWhole}

-- The commands that repair of this state by these logs hands on, each applied in order to it, leave it with the selections of the repaired
-- state.
abbrev pub SelectionsAreTold : List Log → State → (time : ℕ) → Type 0
SelectionsAreTold logs s time = (channel : ℕ) → channel < 16 → selection_of (listened s (handed_on_by logs s time)) channel ≡ selection_of (repaired s logs) channel

-- So it is of a whole state that agrees with the packets before `next`, for a journal of which the checkpoint isn't later than that, and
-- by the fresh logs alone, where just one packet was lost: whatever parameters are handed on, since the selection is handed on after them.
-- The premises are those of `StatesAreRepaired`.
pub record SelectionsAreHeard : Type 0 where
  pub by_all : (checkpoint next packet tick time : ℕ) (sent : List Sent) (s : State) → AreCommands sent → InOrder packet_of sent → sysex_logs checkpoint (below packet_of packet sent) ≤ 128 → checkpoint ≤ next → next ≤ packet → IsWhole s → Agrees s (below packet_of next sent) →
      SelectionsAreTold (journal_logs checkpoint packet tick sent) s time
  pub by_fresh : (checkpoint last tick time : ℕ) (sent : List Sent) (s : State) → AreCommands sent → InOrder packet_of sent → sysex_logs checkpoint (below packet_of (last + 1) sent) ≤ 128 → checkpoint ≤ last → IsWhole s → Agrees s (below packet_of last sent) →
      SelectionsAreTold (fresh_of (journal_logs checkpoint (last + 1) tick sent)) s time
