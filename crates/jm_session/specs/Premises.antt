-- Sessions meet what the laws of repair ask, so those laws hold of them.
use Rattle.std.specs.Prelude.{ℕ, ◌≡◌, ◌+◌, ◌≤◌, ◌<◌, List, ◌++◌, length}
use Rattle.std.specs.List.{AllByRecursion}
use Rattle.jm_cmds.specs.declared.history.Sent.{Sent}
use Rattle.jm_cmds.specs.History.{below, InOrder}
use Rattle.jm_cmds.specs.Sent.{packet_of}
use Rattle.jm_journal.specs.Limits.{KeepsLimits}
use Rattle.jm_state.specs.declared.state.State.{State}
use Rattle.jm_state.specs.Parts.{no_state, song_of, sequencer_of, time_code_of, program_of, control_of, wheel_of, note_of, pressure_of, poly_of}
use Rattle.jm_state.specs.ReplayLaws.{state_behind}
use Rattle.jm_receiver.specs.Repair.{repaired}
use Rattle.jm_receiver.specs.Agreement.{Agrees}
use Rattle.jm_receiver.specs.FreshLogs.{fresh_of}
use Rattle.jm_receiver.specs.Whole.{IsWhole}
use Rattle.jm_book.specs.declared.steps.Config.{Config}
use Rattle.jm_book.specs.declared.steps.Step.{Step}
use Rattle.jm_book.specs.Stream.{stream_of, sent_of}
use Rattle.jm_book.specs.Session.{Session, session_of, checkpoint_of}
use Rattle.jm_book.specs.Legal.{IsLegal}
use Rattle.jm_book.specs.Commands.{HaveCommands, AreCommands}
use Rattle.jm_session.specs.Packets.{number_of, logs_of_cut}

-- all commands that were sent
abbrev pub sent_in : Session → List Sent
sent_in session = sent_of session.stream

-- What the laws of repair, and of reading, ask of the sent commands and of the journal of the packet that is cut next.
pub record MeetsPremises (session : Session) : Type 0 where
  pub in_order : InOrder packet_of (sent_in session)
  pub commands : AreCommands (sent_in session)
  pub limits : KeepsLimits (checkpoint_of session) (below packet_of (number_of session) (sent_in session))
  -- all of them are of packets before the next one
  pub before : below packet_of (number_of session) (sent_in session) ≡ sent_in session
  -- a joined participant that has the packets up to its mark, or further ones, lacks none before the checkpoint
  pub reaches : AllByRecursion (λ one. checkpoint_of session ≤ one.mark) session.members.joined

-- After legal steps, each play of which brings a command within its bounds, the premises are met. (Not: a command of the next
-- packet among the sent ones; a packet number that falls; a checkpoint past a joined participant's mark.)
abbrev pub SessionsMeetPremises : Type 0
SessionsMeetPremises = (config : Config) (steps : List Step) → IsLegal config steps → HaveCommands steps → MeetsPremises (session_of config steps)

-- What was sent in packets before this one stays so, whatever steps come: a state that has these packets is that of any
-- later list of steps. (Not: a cut that adds a command to a packet before.)
abbrev pub SentStays : Type 0
SentStays = (steps more : List Step) (next : ℕ) → next ≤ length (stream_of steps).packets
    → below packet_of next (sent_of (stream_of (steps ++ more))) ≡ below packet_of next (sent_of (stream_of steps))

-- Repair of the state behind the packets before `next`, by the logs of the packet that is cut next, leaves this part as the
-- state behind all sent commands has it: wherever the session's checkpoint isn't later than `next`.
abbrev pub RepairsInSessions : {V : Type 0} → (State → V) → Type 0
RepairsInSessions part =
    (config : Config) (steps : List Step) (next tick : ℕ) → IsLegal config steps → HaveCommands steps
    → checkpoint_of (session_of config steps) ≤ next → next ≤ number_of (session_of config steps)
    → part (repaired (state_behind no_state (below packet_of next (sent_in (session_of config steps)))) (logs_of_cut (session_of config steps) tick))
    ≡ part (state_behind no_state (sent_in (session_of config steps)))

-- Repair of a whole state that agrees with the packets before `next`, by the logs of the packet that is cut next, leaves one that agrees
-- with all sent commands: wherever the session's checkpoint isn't later than `next`.
abbrev pub RepairsStatesInSessions : Type 0
RepairsStatesInSessions =
    (config : Config) (steps : List Step) (next tick : ℕ) (s : State) → IsLegal config steps → HaveCommands steps
    → checkpoint_of (session_of config steps) ≤ next → next ≤ number_of (session_of config steps)
    → IsWhole s → Agrees s (below packet_of next (sent_in (session_of config steps)))
    → Agrees (repaired s (logs_of_cut (session_of config steps) tick)) (sent_in (session_of config steps))

-- The fresh logs alone do it where the state lacks just the last packet, and the session's checkpoint isn't later than that one.
abbrev pub FreshLogsRepairInSessions : Type 0
FreshLogsRepairInSessions =
    (config : Config) (steps : List Step) (last tick : ℕ) (s : State) → IsLegal config steps → HaveCommands steps
    → checkpoint_of (session_of config steps) ≤ last → number_of (session_of config steps) ≡ last + 1
    → IsWhole s → Agrees s (below packet_of last (sent_in (session_of config steps)))
    → Agrees (repaired s (fresh_of (logs_of_cut (session_of config steps) tick))) (sent_in (session_of config steps))

-- the parts that repair by all logs of a journal leaves as the sender has them, and whole states
pub record SessionsAreRepaired : Type 0 where
  pub programs : (channel : ℕ) → channel < 16 → RepairsInSessions (λ s. program_of s channel)
  pub controls : (channel control : ℕ) → channel < 16 → control < 128 → RepairsInSessions (λ s. control_of s channel control)
  pub wheels : (channel : ℕ) → channel < 16 → RepairsInSessions (λ s. wheel_of s channel)
  pub notes : (channel note : ℕ) → channel < 16 → note < 128 → RepairsInSessions (λ s. note_of s channel note)
  pub pressures : (channel : ℕ) → channel < 16 → RepairsInSessions (λ s. pressure_of s channel)
  pub key_pressures : (channel note : ℕ) → channel < 16 → note < 128 → RepairsInSessions (λ s. poly_of s channel note)
  pub song : RepairsInSessions song_of
  pub sequencer : RepairsInSessions sequencer_of
  pub time_code : RepairsInSessions time_code_of
  pub states : RepairsStatesInSessions
  pub states_by_fresh : FreshLogsRepairInSessions
