-- What the verb `repair` makes of a line: packets go to one receiver, whose state is shown.
use Rattle.std.specs.Prelude.{ℕ, false, List, [], ◌∷◌, ◌++◌, length, Option, Some, None, Result, Ok, Err}
use Rattle.jm_packet.specs.declared.reading.PacketFault.{PacketFault}
use Rattle.jm_packet.specs.Reading.{source_read}
use Rattle.jm_state.specs.Parts.{no_state}
use Rattle.jm_receiver.specs.declared.heard.Heard.{Heard}
use Rattle.jm_receiver.specs.declared.receiver.Took.{Took}
use Rattle.jm_receiver.specs.declared.opening.AcceptFault.{AcceptFault}
use Rattle.jm_receiver.specs.declared.opening.AcceptFault.TheVariants as fault
use Rattle.jm_receiver.specs.Receiver.{Received}
use Rattle.jm_receiver.specs.Accept.{accepted}
use Rattle.jm_script.specs.declared.answer.AnswerLine.TheVariants as answer
use Rattle.jm_script.specs.declared.answer.Cause.TheVariants as cause
use Rattle.jm_script.specs.declared.line.Line.{Line}
use Rattle.jm_script.specs.declared.line.Line.TheVariants.{Blank, RepairPacket, ShowState}
use Rattle.jm_script.specs.declared.line.LineKind.TheVariants as kinds
use Rattle.jm_script.specs.AnswerText.{answer_text}
use Rattle.jm_script.specs.Line.{line_of}
use Rattle.midi_host.specs.StateLines.{state_lines}
use Rattle.midi_host.specs.Told.{Lined, taken, refused, lined_by}

-- the lines of what was heard, in order
abbrev pub heard_lines : List Heard → List ℕ
heard_lines [] = []
heard_lines (one ∷ others) = answer_text (answer.HeardOne one.kind one.tick one.command) ++ heard_lines others

-- what was taken of a packet, and then what was heard
abbrev pub took_lines : Took → List ℕ
took_lines took = answer_text (answer.Took took.number took.gap (length took.heard)) ++ heard_lines took.heard

-- what a receiver took of a packet; where it took nothing, it is as it was
abbrev pub taken_by : Received → Result (Received × Took) AcceptFault → Lined (Option Received)
taken_by receiver (Ok took) = taken (took_lines took.1) (Some took.0)
taken_by receiver (Err why) = taken (answer_text (answer.NotTaken why)) (Some receiver)

-- A receiver of the first packet's source is made where none is. A packet whose header doesn't read makes none.
abbrev pub made_for : Result ℕ PacketFault → List ℕ → Lined (Option Received)
made_for (Ok source) octets =
    let receiver : Received = record { ssrc = source; last = None; state = no_state; unfinished = None } in
    taken_by receiver (accepted receiver octets)
made_for (Err why) octets = taken (answer_text (answer.NotTaken (fault.Packet why))) None

abbrev pub packet_to : Option Received → List ℕ → Lined (Option Received)
packet_to (Some receiver) octets = taken_by receiver (accepted receiver octets)
packet_to None octets = made_for (source_read octets) octets

-- the parts of a receiver's state, and their end
abbrev pub shown : Option Received → List ℕ
shown None = answer_text answer.End
shown (Some receiver) = state_lines receiver.state ++ answer_text answer.End

-- The answer of a line. Other lines are of other verbs.
abbrev pub repaired_line : Option Received → Line → Lined (Option Received)
repaired_line receiver Blank = taken [] receiver
repaired_line receiver (RepairPacket octets) = packet_to receiver octets
repaired_line receiver ShowState = taken (shown receiver) receiver
repaired_line receiver _ = refused cause.Word

-- what `repair` makes of a line
abbrev pub repair_lined : Option Received → List ℕ → Lined (Option Received)
repair_lined receiver line = lined_by (repaired_line receiver) (line_of kinds.Repair 1 false line)
