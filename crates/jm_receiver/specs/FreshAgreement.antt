-- The law of repair for whole states, by the logs that a receiver uses: after one lost packet the fresh ones alone.
use Rattle.std.proofs.Common.{◌≡◌, ℕ, ◌+◌, ◌≤◌, Bool, true, false, List, subst, sym, arith}
use Rattle.jm_cmds.specs.declared.history.Sent.{Sent}
use Rattle.jm_cmds.specs.History.{below, within, InOrder}
use Rattle.jm_cmds.specs.Sent.{packet_of}
use Rattle.ch_sysex.specs.ChapterX.{sysex_logs}
use Rattle.jm_state.specs.declared.state.State.{State}
use Rattle.jm_state.specs.Entered.{halves_in}
use Rattle.jm_state.specs.Parts.{no_state, entered_of}
use Rattle.jm_state.specs.ReplayLaws.{state_behind}
use Rattle.jm_reader.specs.Written.{AreCommands}
use Rattle.jm_reader.specs.WrittenJournal.{journal_logs}
use Rattle.jm_receiver.specs.Repair.{repaired}
use Rattle.jm_receiver.specs.Agreement.{Agrees, ParamsAgree, few_of, holds_agrees, said_agrees, states_from}
use Rattle.jm_receiver.specs.FreshLaw.{song_by_fresh, sequencer_by_fresh, time_code_by_fresh, messages_by_fresh, program_by_fresh, control_by_fresh, toggles_by_fresh, selection_by_fresh, wheel_by_fresh, note_by_fresh, pressure_by_fresh, poly_by_fresh}
use Rattle.jm_receiver.specs.FreshLogs.{fresh_of}
use Rattle.jm_receiver.specs.FreshParams.{half_by_fresh}
use Rattle.jm_receiver.specs.KeptAgreement.{commands_agree, below_one}
use Rattle.jm_receiver.specs.ParamLaw.{read_half, same_halves}
use Rattle.jm_receiver.specs.ParamLogs.{param}
use Rattle.jm_receiver.specs.Whole.{IsWhole, repaired_whole}

-- Repair by the fresh logs alone of a state that agrees with the packets before the last one leaves one that agrees with the last one too:
-- wherever the checkpoint of the next packet's journal isn't later than the last one. The premises are those of `StatesAreRepaired`.
abbrev pub FreshLogsRepairStates : Type 0
FreshLogsRepairStates =
    (checkpoint last tick : ℕ) (sent : List Sent) (s : State) → AreCommands sent → InOrder packet_of sent → sysex_logs checkpoint (below packet_of (last + 1) sent) ≤ 128 → checkpoint ≤ last →
    IsWhole s → Agrees s (below packet_of last sent) → Agrees (repaired s (fresh_of (journal_logs checkpoint (last + 1) tick sent))) (below packet_of (last + 1) sent)

-- and then given the commands of the next packet it agrees with all packets up to that one
abbrev pub InStepByFresh : Type 0
InStepByFresh =
    (checkpoint last tick : ℕ) (sent : List Sent) (s : State) → AreCommands sent → InOrder packet_of sent → sysex_logs checkpoint (below packet_of (last + 1) sent) ≤ 128 → checkpoint ≤ last →
    IsWhole s → Agrees s (below packet_of last sent) →
    Agrees (state_behind (repaired s (fresh_of (journal_logs checkpoint (last + 1) tick sent))) (within packet_of (last + 1) sent)) (below packet_of (last + 1 + 1) sent)

params_fresh : (checkpoint last tick : ℕ) (sent : List Sent) (s : State) → InOrder packet_of sent → checkpoint ≤ last → IsWhole s → Agrees s (below packet_of last sent) →
    ParamsAgree (repaired s (fresh_of (journal_logs checkpoint (last + 1) tick sent))) (below packet_of (last + 1) sent)
params_fresh checkpoint last tick sent s o early is agrees channel nrpn high low l open_too =
    let p = param nrpn high low in
    let few = few_of channel (below packet_of (last + 1) sent) open_too in
    let after = repaired s (fresh_of (journal_logs checkpoint (last + 1) tick sent)) in
    let meant = state_behind no_state (below packet_of (last + 1) sent) in
    let one : (half : Bool) → read_half channel p half after ≡ read_half channel p half meant =
    λ half. half_by_fresh channel l p half checkpoint last tick sent o early s is.state few
    (holds_agrees channel l last last (last + 1) tick sent s o (omega arith) (omega arith) is agrees few)
    (said_agrees channel l last last (last + 1) tick sent s o (omega arith) (omega arith) is agrees few p half) in
    same_halves (halves_in (entered_of after channel) p) (halves_in (entered_of meant channel) p) (one true) (one false)

pub states_by_fresh : FreshLogsRepairStates
states_by_fresh checkpoint last tick sent s h o messages early is agrees =
    states_from s (fresh_of (journal_logs checkpoint (last + 1) tick sent)) (below packet_of last sent) (below packet_of (last + 1) sent)
    (record {
      song = song_by_fresh checkpoint last tick sent o early;
      sequencer = sequencer_by_fresh checkpoint last tick sent h o early;
      time_code = time_code_by_fresh checkpoint last tick sent h o early;
      sysex_count = messages_by_fresh checkpoint last tick sent o messages early;
      channels = λ channel l. record {
        program = program_by_fresh channel l checkpoint last tick sent o early;
        control = λ number n. control_by_fresh channel number l n checkpoint last tick sent o early;
        toggles = toggles_by_fresh channel l checkpoint last tick sent o early;
        selection = selection_by_fresh channel l checkpoint last tick sent o early;
        wheel = wheel_by_fresh channel l checkpoint last tick sent o early;
        note = λ note n. note_by_fresh channel note l n checkpoint last tick sent o early;
        pressure = pressure_by_fresh channel l checkpoint last tick sent o early;
        poly = λ note n. poly_by_fresh channel note l n checkpoint last tick sent o early;
      };
    })
    (params_fresh checkpoint last tick sent s o early is agrees)
    is agrees

pub in_step_by_fresh : InStepByFresh
in_step_by_fresh checkpoint last tick sent s h o messages early is agrees =
    let logs = fresh_of (journal_logs checkpoint (last + 1) tick sent) in
    subst (Agrees (state_behind (repaired s logs) (within packet_of (last + 1) sent))) (sym (below_one (last + 1) sent o))
    (commands_agree (below packet_of (last + 1) sent) (within packet_of (last + 1) sent) (repaired s logs) (repaired_whole s logs is)
    (states_by_fresh checkpoint last tick sent s h o messages early is agrees))
