-- What the verb `read` makes of a line: each says what octets are, and leaves nothing behind.
use Rattle.std.specs.Prelude.{ℕ, false, List, [], length, drop, Option, Some, None, Result, Ok, Err}
use Rattle.jm_cmds.specs.declared.commands.Command.{Command}
use Rattle.jm_cmds.specs.declared.reading.CmdFault.{CmdFault}
use Rattle.jm_cmds.specs.Reading.{command_read}
use Rattle.jm_section.specs.declared.reading.SectionFault.{SectionFault}
use Rattle.jm_section.specs.Grammar.{Read as SectionRead}
use Rattle.jm_section.specs.Reading.{section_read}
use Rattle.jm_packet.specs.declared.reading.PacketFault.{PacketFault}
use Rattle.jm_packet.specs.Reading.{PacketRead, packet_read}
use Rattle.jm_reader.specs.declared.faults.JournalFault.{JournalFault}
use Rattle.jm_reader.specs.declared.journal.Report.{Report}
use Rattle.jm_reader.specs.Journal.{journal_read}
use Rattle.apple_msg.specs.declared.message.Message.{Message}
use Rattle.apple_msg.specs.declared.message.MsgFault.{MsgFault}
use Rattle.apple_msg.specs.Reading.{read as message_read}
use Rattle.jm_script.specs.declared.answer.AnswerLine.{AnswerLine}
use Rattle.jm_script.specs.declared.answer.AnswerLine.TheVariants as answer
use Rattle.jm_script.specs.declared.answer.ShownFault.TheVariants as shown
use Rattle.jm_script.specs.declared.answer.Cause.TheVariants as cause
use Rattle.jm_script.specs.declared.line.Line.{Line}
use Rattle.jm_script.specs.declared.line.Line.TheVariants.{Blank, ReadCommand, ReadSection, ReadPacket, ReadMessage}
use Rattle.jm_script.specs.declared.line.LineKind.TheVariants as kinds
use Rattle.jm_script.specs.AnswerText.{answer_text}
use Rattle.jm_script.specs.Line.{line_of}
use Rattle.midi_host.specs.Told.{Lined, taken, refused, lined_by}

-- the command at the front, and how many octets it has
abbrev pub command_line : Result (Command × ℕ) CmdFault → AnswerLine
command_line (Ok read) = answer.CommandRead read.1 read.0
command_line (Err fault) = answer.Fault (shown.Command fault)

abbrev pub section_line : Result SectionRead SectionFault → AnswerLine
section_line (Ok section) = answer.SectionRead section.items
section_line (Err fault) = answer.Fault (shown.Section fault)

-- a packet and what its journal says, if it has one
abbrev pub packet_with : PacketRead → Option (ℕ × ℕ) → AnswerLine
packet_with packet journal = answer.PacketRead packet.number packet.tick packet.ssrc (length packet.section.items) journal

abbrev pub journal_line : PacketRead → Result Report JournalFault → AnswerLine
journal_line packet (Ok report) = packet_with packet (Some (report.checkpoint, length report.logs))
journal_line packet (Err fault) = answer.Fault (shown.Journal fault)

-- the journal of a packet of these octets begins at this place, if there is one
abbrev pub journal_at : PacketRead → List ℕ → Option ℕ → AnswerLine
journal_at packet octets None = packet_with packet None
journal_at packet octets (Some place) = journal_line packet (journal_read (drop place octets))

abbrev pub packet_by : List ℕ → Result PacketRead PacketFault → AnswerLine
packet_by octets (Ok packet) = journal_at packet octets packet.journal
packet_by octets (Err fault) = answer.Fault (shown.Packet fault)

abbrev pub packet_line : List ℕ → AnswerLine
packet_line octets = packet_by octets (packet_read octets)

-- a message is printed as it is written
abbrev pub message_line : Result Message MsgFault → AnswerLine
message_line (Ok message) = answer.MessageRead message
message_line (Err fault) = answer.Fault (shown.Message fault)

abbrev pub told_of : AnswerLine → Lined (Unit {0})
told_of line = taken (answer_text line) tt

-- The answer of a line. Other lines are of other verbs.
abbrev pub read_out : Line → Lined (Unit {0})
read_out Blank = taken [] tt
read_out (ReadCommand octets) = told_of (command_line (command_read octets))
read_out (ReadSection octets) = told_of (section_line (section_read octets))
read_out (ReadPacket octets) = told_of (packet_line octets)
read_out (ReadMessage octets) = told_of (message_line (message_read octets))
read_out _ = refused cause.Word

-- what `read` makes of a line
abbrev pub read_lined : Unit {0} → List ℕ → Lined (Unit {0})
read_lined nothing line = lined_by read_out (line_of kinds.Read 1 false line)
