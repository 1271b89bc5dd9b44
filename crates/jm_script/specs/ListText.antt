-- What is printed of the entries of sections, and of what is to be reported to whom.
use Rattle.std.specs.Prelude.{ℕ, List, [], ◌∷◌, ◌++◌, length, codes, decimal}
use Rattle.hex.specs.Hex.{encode_lower}
use Rattle.jm_wire.specs.Numbers.{be32}
use Rattle.jm_cmds.specs.Command.{spelling}
use Rattle.jm_section.specs.declared.item.Item.{Item}
use Rattle.jm_section.specs.declared.item.What.{What}
use Rattle.jm_section.specs.declared.item.What.TheVariants.{Whole, Part, Passed}
use Rattle.jm_section.specs.declared.item.PartKind.{PartKind}
use Rattle.jm_section.specs.declared.item.PartKind.TheVariants.{First, Middle, Last, Cancel}
use Rattle.jm_book.specs.declared.lists.FeedbackEntry.{FeedbackEntry}
use Rattle.apple_msg.specs.declared.message.Message.TheVariants.{Feedback}
use Rattle.apple_msg.specs.Spelling.{text}

-- which segment of a System Exclusive command it is
abbrev pub part_word : PartKind → List ℕ
part_word First = codes "part-first-"
part_word Middle = codes "part-middle-"
part_word Last = codes "part-last-"
part_word Cancel = codes "part-cancel-"

-- a command by its octets, a segment by the number of its data octets, and what is passed over by its first octet
unfoldable pub what_text : What → List ℕ
what_text (Whole command) = encode_lower (spelling command)
what_text (Part kind octets) = part_word kind ++ decimal (length octets)
what_text (Passed octet) = codes "passed-" ++ encode_lower (octet ∷ [])

-- an item with its delta time
unfoldable pub item_text : Item → List ℕ
item_text item = codes " " ++ decimal item.delta ++ codes ":" ++ what_text item.what

abbrev pub items_text : List Item → List ℕ
items_text [] = []
items_text (item ∷ items) = item_text item ++ items_text items

-- an address, and the message of the host of this SSRC that reports to it
unfoldable pub entry_text : (ssrc : ℕ) → FeedbackEntry → List ℕ
entry_text ssrc entry = codes " " ++ encode_lower (be32 entry.to.host) ++ codes ":" ++ decimal entry.to.port ++ codes "=" ++ encode_lower (text (Feedback ssrc entry.seq))

abbrev pub reports_text : (ssrc : ℕ) → List FeedbackEntry → List ℕ
reports_text ssrc [] = []
reports_text ssrc (entry ∷ entries) = entry_text ssrc entry ++ reports_text ssrc entries
