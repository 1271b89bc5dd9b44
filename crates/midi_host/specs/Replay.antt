-- What `replay` makes of a line: a script is a session's steps, each answered.
use Rattle.std.specs.Prelude.{ℕ, Bool, true, false, List, [], ◌∷◌, ◌++◌, if◌then◌else◌, Option, Some, None, Result, Ok, Err, codes}
use Rattle.jm_edge.specs.declared.Addr.{Addr}
use Rattle.jm_cmds.specs.declared.commands.Command.{Command}
use Rattle.apple_msg.specs.declared.message.Message.{Message}
use Rattle.apple_msg.specs.declared.message.MsgFault.{MsgFault}
use Rattle.apple_msg.specs.Reading.{read}
use Rattle.apple_session.specs.declared.answer.PortKind.{PortKind}
use Rattle.jm_book.specs.declared.steps.Config.{Config}
use Rattle.jm_book.specs.declared.steps.Step.{Step}
use Rattle.jm_book.specs.declared.steps.Step.TheVariants as step
use Rattle.jm_book.specs.declared.answers.Entered.{Entered}
use Rattle.jm_book.specs.declared.answers.Entered.TheVariants as entered
use Rattle.jm_book.specs.BookAnswers.{enter_answer, play_answer, cut_answer, ack_answer, join_answer, leave_answer, hear_answer, feedback_answer, feedback_list, say_answer}
use Rattle.jm_book.specs.Answers.{is_entered, is_accepted, is_packet, is_moved, is_joined, is_left, is_noted, is_given, is_said}
use Rattle.jm_book.specs.Session.{session_of}
use Rattle.jm_book.specs.Packet.{packet_of}
use Rattle.jm_script.specs.declared.answer.AnswerLine.{AnswerLine}
use Rattle.jm_script.specs.declared.answer.AnswerLine.TheVariants as answer
use Rattle.jm_script.specs.declared.answer.Refusal.TheVariants as refusal
use Rattle.jm_script.specs.declared.answer.ShownFault.TheVariants as shown
use Rattle.jm_script.specs.declared.answer.Cause.TheVariants as cause
use Rattle.jm_script.specs.declared.line.Line.{Line}
use Rattle.jm_script.specs.declared.line.Line.TheVariants.{Blank, Script, Session, Enter, EnterAs, Play, PlayAs, Cut, Ack, Join, Leave, Hear, Feedback, Message as MessageLine}
use Rattle.jm_script.specs.declared.line.LineKind.TheVariants as kinds
use Rattle.jm_script.specs.AnswerText.{answer_text}
use Rattle.jm_script.specs.Line.{line_of}
use Rattle.midi_host.specs.declared.players.NamedPlayer.{NamedPlayer}
use Rattle.midi_host.specs.declared.replay.Session.{Session as Live}
use Rattle.midi_host.specs.declared.replay.Replay.{Replay}
use Rattle.midi_host.specs.declared.replay.Replay.TheVariants.{Opening, Playing as Running}
use Rattle.midi_host.specs.Players.{player_named}
use Rattle.midi_host.specs.SessionAnswers.{entered_line, played_line, cutted_line, acked_line, joined_line, gone_line, heard_line, given_line, said_line}
use Rattle.midi_host.specs.Told.{Lined, taken, refused, lined_by}

-- A session behind its session line: the version of its script, its configuration, the steps that were taken, and the players
-- that entered by name.
pub record Playing : Type 0 where
  pub version : ℕ
  pub config : Config
  pub steps : List Step
  pub players : List NamedPlayer

-- Before the session line all that there is to know is the script's version.
pub data State : Type 0 where
  opening : (version : ℕ) → State
  within : Playing → State

-- one answer, and the session that is left
abbrev pub answered : AnswerLine → Playing → Lined Playing
answered line session = taken (answer_text line) session

-- the session with one more step, if it was taken
abbrev pub with_step : Bool → Step → Playing → Playing
with_step took step session = record session { steps = if took then session.steps ++ step ∷ [] else session.steps }

-- ## The lines that a session answers

abbrev pub entering : Playing → Lined Playing
entering session =
    let answer = enter_answer session.config session.steps in
    answered (entered_line answer) (with_step (is_entered answer) step.Enter session)

-- an answer of `enter` to a player of this name, who hadn't entered
abbrev pub entered_as : List ℕ → Entered → Playing → Lined Playing
entered_as name (entered.Player player) session =
    answered (answer.PlayerAs player name) (record session { steps = session.steps ++ step.Enter ∷ []; players = session.players ++ record { name = name; player = player } ∷ [] })
entered_as name other session = answered (entered_line other) session

abbrev pub entering_newly : List ℕ → Playing → Lined Playing
entering_newly name session = entered_as name (enter_answer session.config session.steps) session

-- a name enters once
abbrev pub entering_unless : List ℕ → Option ℕ → Playing → Lined Playing
entering_unless name (Some player) session = answered (answer.NameTaken name) session
entering_unless name None session = entering_newly name session

abbrev pub entering_as : List ℕ → Playing → Lined Playing
entering_as name session = entering_unless name (player_named name session.players) session

abbrev pub playing : (player tick : ℕ) → Command → Playing → Lined Playing
playing player tick command session =
    let answer = play_answer session.config session.steps player command tick in
    answered (played_line answer) (with_step (is_accepted answer) (step.Play player command tick) session)

-- a name that entered stands for its player's number
abbrev pub playing_by : Option ℕ → (tick : ℕ) → Command → Playing → Lined Playing
playing_by None tick command session = answered (answer.Refused refusal.UnknownPlayer) session
playing_by (Some player) tick command session = playing player tick command session

abbrev pub playing_as : List ℕ → (tick : ℕ) → Command → Playing → Lined Playing
playing_as name tick command session = playing_by (player_named name session.players) tick command session

abbrev pub cutting : (tick : ℕ) → Playing → Lined Playing
cutting tick session =
    let answer = cut_answer session.config session.steps in
    answered (cutted_line answer (packet_of (session_of session.config session.steps) tick)) (with_step (is_packet answer) (step.Cut tick) session)

abbrev pub acking : (ssrc seq : ℕ) → Playing → Lined Playing
acking ssrc seq session =
    let answer = ack_answer session.config session.steps ssrc seq in
    answered (acked_line answer) (with_step (is_moved answer) (step.Ack ssrc seq) session)

abbrev pub joining : (ssrc : ℕ) → Playing → Lined Playing
joining ssrc session =
    let answer = join_answer session.config session.steps ssrc in
    answered (joined_line answer) (with_step (is_joined answer) (step.Join ssrc) session)

abbrev pub leaving : (ssrc : ℕ) → Playing → Lined Playing
leaving ssrc session =
    let answer = leave_answer session.config session.steps ssrc in
    answered (gone_line answer) (with_step (is_left answer) (step.Leave ssrc) session)

abbrev pub hearing : (ssrc seq : ℕ) → Playing → Lined Playing
hearing ssrc seq session =
    let answer = hear_answer session.config session.steps ssrc in
    answered (heard_line answer) (with_step (is_noted answer) (step.Hear ssrc seq) session)

-- what is to be reported is told by the host's own number
abbrev pub reporting : Playing → Lined Playing
reporting session =
    let answer = feedback_answer session.config session.steps in
    answered (given_line session.config.ssrc answer (feedback_list session.config session.steps)) (with_step (is_given answer) step.Feedback session)

-- octets that are no message change nothing
abbrev pub saying : PortKind → Addr → (now : ℕ) → Result Message MsgFault → Playing → Lined Playing
saying port from now (Err fault) session = answered (answer.Fault (shown.Message fault)) session
saying port from now (Ok message) session =
    let answer = say_answer session.config session.steps port from message now in
    answered (said_line answer) (with_step (is_said answer) (step.Say port from message now) session)

-- A line behind the session line. Any other stands elsewhere.
abbrev pub played : Line → Playing → Lined Playing
played Blank session = taken [] session
played Enter session = entering session
played (EnterAs name) session = entering_as name session
played (Play player tick command) session = playing player tick command session
played (PlayAs name tick command) session = playing_as name tick command session
played (Cut tick) session = cutting tick session
played (Ack ssrc seq) session = acking ssrc seq session
played (Join ssrc) session = joining ssrc session
played (Leave ssrc) session = leaving ssrc session
played (Hear ssrc seq) session = hearing ssrc seq session
played Feedback session = reporting session
played (MessageLine port from now octets) session = saying port from now (read octets) session
played _ session = refused cause.Word

-- ## A script

abbrev pub version_of : State → ℕ
version_of (opening version) = version
version_of (within session) = session.version

abbrev pub is_started : State → Bool
is_started (opening version) = false
is_started (within session) = true

-- the session of a session line, in a script of this version
abbrev pub started : (version ssrc events : ℕ) → Playing
started version ssrc events = record {
  version = version;
  config = record { ssrc = ssrc; events = events; name = codes "midi_host" };
  steps = [];
  players = [];
}

-- a line before the session line, in a script that is of this version so far
abbrev pub opened : (version : ℕ) → Line → Lined State
opened version Blank = taken [] (opening version)
opened version Script = taken (answer_text answer.Script) (opening 2)
opened version (Session ssrc events) = taken (answer_text answer.Session) (within (started version ssrc events))
opened version _ = refused cause.Word

-- what a session made of a line, as the script's state
abbrev pub in_session : Lined Playing → Lined State
in_session (taken text session) = taken text (within session)
in_session (refused why) = refused why

abbrev pub scripted : State → Line → Lined State
scripted (opening version) line = opened version line
scripted (within session) line = in_session (played line session)

-- what `replay` makes of a line
abbrev pub replayed : State → List ℕ → Lined State
replayed state line = lined_by (scripted state) (line_of kinds.Session (version_of state) (is_started state) line)

-- ## What the program keeps

abbrev pub playing_of : Live → Playing
playing_of s = record { version = s.version; config = s.book.config; steps = s.book.steps; players = s.players }

abbrev pub state_of : Replay → State
state_of (Opening version) = opening version
state_of (Running session) = within (playing_of session)
