-- The lines of answers, each with its end.
use Rattle.std.specs.Prelude.{ℕ, Bool, List, ◌++◌, length, Option, Some, None, codes, decimal, if◌then◌else◌}
use Rattle.hex.specs.Hex.{encode_lower}
use Rattle.jm_wire.specs.Numbers.{be32}
use Rattle.jm_cmds.specs.Command.{spelling}
use Rattle.apple_msg.specs.declared.message.Message.{Message}
use Rattle.apple_msg.specs.Spelling.{text}
use Rattle.jm_section.specs.declared.item.Item.{Item}
use Rattle.jm_book.specs.declared.lists.FeedbackEntry.{FeedbackEntry}
use Rattle.jm_receiver.specs.declared.heard.HeardKind.{HeardKind}
use Rattle.jm_receiver.specs.declared.heard.HeardKind.TheVariants as kinds
use Rattle.jm_script.specs.declared.answer.AnswerLine.{AnswerLine}
use Rattle.jm_script.specs.declared.answer.AnswerLine.TheVariants.{Script, Session, Player, PlayerAs, NameTaken, Accepted, Packet, Mark, Joined, Left, Noted, Feedback, Said, Refused, CommandRead, SectionRead, PacketRead, MessageRead, Fault, Took, HeardOne, NotTaken, Part, End, BadScript}
use Rattle.jm_script.specs.declared.answer.Cause.{Cause}
use Rattle.jm_script.specs.declared.answer.Cause.TheVariants as cause
use Rattle.jm_script.specs.ListText.{items_text, reports_text}
use Rattle.jm_script.specs.FaultText.{fault_text, not_taken_text}
use Rattle.jm_script.specs.RefusalText.{refusal_text, act_text}
use Rattle.jm_script.specs.StateText.{part_text}

-- a cause as it is printed
abbrev pub cause_word : Cause → List ℕ
cause_word cause.Lines = codes "lines"
cause_word cause.TooLong = codes "too-long"
cause_word cause.Word = codes "word"
cause_word cause.Form = codes "form"
cause_word cause.Command = codes "command"

-- where a command that was heard comes from, behind the line's first word and before a space
abbrev pub heard_word : HeardKind → List ℕ
heard_word kinds.Sent = codes "heard sent "
heard_word kinds.Repaired = codes "heard repaired "
heard_word kinds.Late = codes "heard late "

-- whether a command will be repaired
abbrev pub kept_text : Bool → List ℕ
kept_text kept = if kept then codes " kept\n" else codes " unkept\n"

-- the reply that a message has, if there is one, and a space
unfoldable pub reply_text : Option Message → List ℕ
reply_text None = codes "no-reply "
reply_text (Some message) = codes "reply " ++ encode_lower (text message) ++ codes " "

-- what a packet's journal says: its checkpoint and how many logs it has
unfoldable pub journal_text : Option (ℕ × ℕ) → List ℕ
journal_text None = codes " no-journal\n"
journal_text (Some journal) = codes " journal " ++ decimal journal.0 ++ codes " " ++ decimal journal.1 ++ codes "\n"

-- the entries of a section that was read
abbrev pub section_text : List Item → List ℕ
section_text items = codes "section " ++ decimal (length items) ++ items_text items ++ codes "\n"

-- what the host of this SSRC is to report to whom
abbrev pub feedback_text : (ssrc : ℕ) → List FeedbackEntry → List ℕ
feedback_text ssrc entries = codes "feedback" ++ reports_text ssrc entries ++ codes "\n"

-- a message as it is written
abbrev pub message_text : Message → List ℕ
message_text message = codes "message " ++ encode_lower (text message) ++ codes "\n"

-- a packet's header, how many entries its section has, and what its journal says
abbrev pub packet_text : (number tick ssrc items : ℕ) → Option (ℕ × ℕ) → List ℕ
packet_text number tick ssrc items journal =
    codes "packet " ++ decimal number ++ codes " " ++ decimal tick ++ codes " " ++ encode_lower (be32 ssrc) ++ codes " " ++ decimal items ++ journal_text journal

-- The line that is printed of an answer.
unfoldable pub answer_text : AnswerLine → List ℕ
answer_text Script = codes "script 2\n"
answer_text Session = codes "session\n"
answer_text (Player player) = codes "player " ++ decimal player ++ codes "\n"
answer_text (PlayerAs player name) = codes "player " ++ decimal player ++ codes " " ++ name ++ codes "\n"
answer_text (NameTaken name) = codes "refused name-taken " ++ name ++ codes "\n"
answer_text (Accepted serial kept) = codes "accepted " ++ decimal serial ++ kept_text kept
answer_text (Packet number octets) = codes "packet " ++ decimal number ++ codes " " ++ encode_lower octets ++ codes "\n"
answer_text (Mark mark) = codes "mark " ++ decimal mark ++ codes "\n"
answer_text (Joined mark player) = codes "joined " ++ decimal mark ++ codes " " ++ decimal player ++ codes "\n"
answer_text Left = codes "left\n"
answer_text Noted = codes "noted\n"
answer_text (Feedback ssrc entries) = feedback_text ssrc entries
answer_text (Said reply act) = reply_text reply ++ act_text act
answer_text (Refused refusal) = refusal_text refusal
answer_text (CommandRead used command) = codes "command " ++ decimal used ++ codes " " ++ encode_lower (spelling command) ++ codes "\n"
answer_text (SectionRead items) = section_text items
answer_text (PacketRead number tick ssrc items journal) = packet_text number tick ssrc items journal
answer_text (MessageRead message) = message_text message
answer_text (Fault fault) = fault_text fault
answer_text (Took number gap count) = codes "took " ++ decimal number ++ codes " " ++ decimal gap ++ codes " " ++ decimal count ++ codes "\n"
answer_text (HeardOne kind tick command) = heard_word kind ++ decimal tick ++ codes " " ++ encode_lower (spelling command) ++ codes "\n"
answer_text (NotTaken fault) = not_taken_text fault
answer_text (Part part) = part_text part
answer_text End = codes "end\n"
answer_text (BadScript line cause) = codes "bad-script " ++ decimal line ++ codes " " ++ cause_word cause ++ codes "\n"
