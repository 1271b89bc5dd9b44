-- The section that a list of commands is written as (RFC 6295, section 3).
use Rattle.std.specs.Prelude.{◌≡◌, ℕ, ◌+◌, ◌/◌, ◌%◌, ◌^◌, ◌<◌, ◌≤◌, Bool, false, not, List, [], ◌∷◌, ◌++◌, length, drop, map, nat_lt, Option, None, if◌then◌else◌, All, IsTrue}
use Rattle.jm_cmds.specs.declared.commands.Command.{Command}
use Rattle.jm_cmds.specs.Command.{spelling, status_of, is_long}
use Rattle.jm_cmds.specs.Data.{is_long_message}
use Rattle.jm_wire.specs.Delta.{delta}
use Rattle.jm_section.specs.declared.next.Place.{Place}
use Rattle.jm_section.specs.declared.next.Place.TheVariants.{First, Later}
use Rattle.jm_section.specs.declared.item.Item.{Item}
use Rattle.jm_section.specs.declared.item.What.{What}
use Rattle.jm_section.specs.declared.item.What.TheVariants.{Whole, Part, Passed}
use Rattle.jm_section.specs.declared.item.PartKind.{PartKind}
use Rattle.jm_section.specs.declared.item.PartKind.TheVariants as part
use Rattle.jm_section.specs.Grammar.{running_behind}
use Rattle.jm_section.specs.Running.{running_after, is_left_out}

-- a command, and the ticks since the command before it
pub record Timed : Type 0 where
  pub delta : ℕ
  pub command : Command

-- the octets of a command behind others that leave this running status
unfoldable pub command_text : Option ℕ → Command → List ℕ
command_text running command =
    if is_left_out running (status_of command) then drop 1 (spelling command) else spelling command

-- what a command adds to the list: the first one has neither delta field nor running status
unfoldable pub piece : Place → Timed → List ℕ
piece First t = spelling t.command
piece (Later running) t = delta t.delta ++ command_text running t.command

abbrev pub running_at : Place → Option ℕ
running_at First = None
running_at (Later running) = running

-- the place behind a command
abbrev pub place_after : Place → Command → Place
place_after place command = Later (running_after (running_at place) (status_of command))

-- the octets of commands that begin at this place
abbrev pub pieces : Place → List Timed → List ℕ
pieces place [] = []
pieces place (t ∷ ts) = piece place t ++ pieces (place_after place t.command) ts

-- the MIDI list of these commands
abbrev pub list_text : List Timed → List ℕ
list_text ts = pieces First ts

-- The flags B, J, Z and P and the length of the MIDI list: B says that the length has twelve bits, Z
-- that the first command has a delta field.
unfoldable pub header : ℕ → Bool → List ℕ
header len journal =
    let flag = if journal then 0x40 else 0 in
    if nat_lt len 16 then (flag + len) ∷ [] else (0x80 + flag + len / 256) ∷ (len % 256) ∷ []

-- the whole section
abbrev pub section_of : List Timed → Bool → List ℕ
section_of ts journal = header (length (list_text ts)) journal ++ list_text ts

-- ---- sections of items

-- The first octet and the last one of a segment (RFC 6295, section 3.2, Figure 5). A segment that calls the command off is also
-- read where it begins with F0.
abbrev pub segment_first : PartKind → ℕ
segment_first part.First = 0xf0
segment_first part.Middle = 0xf7
segment_first part.Last = 0xf7
segment_first part.Cancel = 0xf7

abbrev pub segment_last : PartKind → ℕ
segment_last part.First = 0xf0
segment_last part.Middle = 0xf0
segment_last part.Last = 0xf7
segment_last part.Cancel = 0xf4

-- a segment with these data octets
abbrev pub segment_text : PartKind → List ℕ → List ℕ
segment_text kind octets = segment_first kind ∷ (octets ++ segment_last kind ∷ [])

-- What is written of an item behind others that leave this running status. An octet that is passed over is never written.
unfoldable pub what_text : Option ℕ → What → List ℕ
what_text running (Whole command) = command_text running command
what_text running (Part kind octets) = segment_text kind octets
what_text running (Passed octet) = []

-- what an item adds to the list: the first one has neither delta field nor running status
unfoldable pub item_text : Place → Item → List ℕ
item_text First item = what_text None item.what
item_text (Later running) item = delta item.delta ++ what_text running item.what

-- the place behind an item
abbrev pub place_behind_item : Place → What → Place
place_behind_item place what = Later (running_behind (running_at place) what)

-- the octets of items that begin at this place
abbrev pub items_text : Place → List Item → List ℕ
items_text place [] = []
items_text place (item ∷ items) = item_text place item ++ items_text (place_behind_item place item.what) items

-- the section of these items
abbrev pub section : List Item → Bool → List ℕ
section items journal = header (length (items_text First items)) journal ++ items_text First items

-- the items of commands
abbrev pub item_of : Timed → Item
item_of t = record { delta = t.delta; what = Whole t.command }

abbrev pub items_of : List Timed → List Item
items_of ts = map item_of ts

-- What is written: a whole command that isn't long, and each segment of one, of no more data octets than a command that isn't
-- long has.
abbrev pub is_written : What → Bool
is_written (Whole command) = not (is_long command)
is_written (Part part.Cancel octets) = false
is_written (Part kind octets) = not (is_long_message octets)
is_written (Passed octet) = false

-- the items have a section: each is written, the first at delta 0, in a list of at most 4,095 octets
pub record IsWritable (items : List Item) : Type 0 where
  pub written : All (λ item. IsTrue (is_written item.what)) items
  pub first : (item : Item) (others : List Item) → items ≡ item ∷ others → item.delta ≡ 0
  pub deltas : All (λ item. item.delta < 2 ^ 28) items
  pub short : length (items_text First items) ≤ 4095
