-- What is printed of faults: the words of each, and the place or the octet that shows it.
use Rattle.std.specs.Prelude.{ℕ, List, ◌++◌, codes, decimal}
use Rattle.jm_cmds.specs.declared.reading.CmdFault.{CmdFault}
use Rattle.jm_cmds.specs.declared.reading.CmdFault.TheVariants as commands
use Rattle.jm_section.specs.declared.reading.SectionFault.{SectionFault}
use Rattle.jm_section.specs.declared.reading.SectionFault.TheVariants as sections
use Rattle.jm_packet.specs.declared.reading.PacketFault.{PacketFault}
use Rattle.jm_packet.specs.declared.reading.PacketFault.TheVariants as packets
use Rattle.jm_reader.specs.declared.faults.JournalFault.{JournalFault}
use Rattle.jm_reader.specs.declared.faults.JournalFault.TheVariants as journals
use Rattle.jm_receiver.specs.declared.opening.AcceptFault.{AcceptFault}
use Rattle.jm_receiver.specs.declared.opening.AcceptFault.TheVariants as accepts
use Rattle.apple_msg.specs.declared.message.MsgFault.{MsgFault}
use Rattle.apple_msg.specs.declared.message.MsgFault.TheVariants as messages
use Rattle.jm_script.specs.declared.answer.ShownFault.{ShownFault}
use Rattle.jm_script.specs.declared.answer.ShownFault.TheVariants.{Command, Section, Packet, Journal, Message}

-- why octets begin with no command, and the octet or the place that shows it
unfoldable pub fault_words : CmdFault → List ℕ
fault_words commands.Empty = codes "empty"
fault_words commands.DataOctet = codes "data-octet"
fault_words (commands.BadStatus octet) = codes "bad-status " ++ decimal octet
fault_words (commands.BadData place) = codes "bad-data " ++ decimal place
fault_words commands.TooLong = codes "too-long"
fault_words commands.Short = codes "short"

-- why octets begin with no section: the place in the section stands before what is wrong there
unfoldable pub section_fault_words : SectionFault → List ℕ
section_fault_words sections.Short = codes "short"
section_fault_words (sections.NoStatus place) = codes "no-status " ++ decimal place
section_fault_words (sections.BadCommand place fault) = codes "bad-command " ++ decimal place ++ codes " " ++ fault_words fault
section_fault_words (sections.BadDelta place) = codes "bad-delta " ++ decimal place

-- why octets are no packet
unfoldable pub packet_fault_words : PacketFault → List ℕ
packet_fault_words packets.Short = codes "short"
packet_fault_words packets.Version = codes "version"
packet_fault_words packets.Padding = codes "padding"
packet_fault_words packets.Extension = codes "extension"
packet_fault_words packets.PayloadType = codes "payload-type"
packet_fault_words (packets.Section fault) = codes "section " ++ section_fault_words fault

-- why octets are no journal
unfoldable pub journal_fault_words : JournalFault → List ℕ
journal_fault_words (journals.Short place) = codes "short " ++ decimal place
journal_fault_words (journals.Inside place) = codes "inside " ++ decimal place

-- why octets are no message
unfoldable pub message_fault_words : MsgFault → List ℕ
message_fault_words messages.NotApple = codes "not-apple"
message_fault_words messages.UnknownVerb = codes "unknown-verb"
message_fault_words messages.Short = codes "short"
message_fault_words messages.Version = codes "version"
message_fault_words messages.NameNotEnded = codes "name-not-ended"

-- The fault of the outermost thing that was read has no word before its own.
unfoldable pub shown_fault_words : ShownFault → List ℕ
shown_fault_words (Command fault) = fault_words fault
shown_fault_words (Section fault) = section_fault_words fault
shown_fault_words (Packet fault) = packet_fault_words fault
shown_fault_words (Journal fault) = codes "journal " ++ journal_fault_words fault
shown_fault_words (Message fault) = message_fault_words fault

unfoldable pub fault_text : ShownFault → List ℕ
fault_text fault = codes "fault " ++ shown_fault_words fault ++ codes "\n"

-- why a receiver took nothing of a packet: one that isn't newer is no fault
unfoldable pub not_taken_text : AcceptFault → List ℕ
not_taken_text (accepts.Packet fault) = codes "fault " ++ packet_fault_words fault ++ codes "\n"
not_taken_text accepts.OtherSsrc = codes "fault other-ssrc\n"
not_taken_text (accepts.Journal fault) = codes "fault journal " ++ journal_fault_words fault ++ codes "\n"
not_taken_text (accepts.Older last) = codes "older " ++ decimal last ++ codes "\n"
