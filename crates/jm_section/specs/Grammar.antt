-- The grammar of command sections (RFC 6295, section 3), apart from reading and writing: which items a
-- MIDI list spells, by its last item and the running status that stands before it.
use Rattle.std.specs.Prelude.{◌≡◌, ℕ, ◌+◌, ◌*◌, ◌%◌, ◌<◌, ◌≤◌, Bool, true, false, ◌||◌, ◌==◌, List, [], ◌∷◌, ◌++◌, length, drop, Option, Some, None, if◌then◌else◌, IsTrue}
use Rattle.jm_wire.specs.Heads.{is_set}
use Rattle.jm_cmds.specs.declared.commands.Command.{Command}
use Rattle.jm_cmds.specs.Command.{spelling, status_of, IsCommand}
use Rattle.jm_cmds.specs.Data.{IsData}
use Rattle.jm_wire.specs.Delta.{value, IsField}
use Rattle.jm_section.specs.declared.item.Item.{Item}
use Rattle.jm_section.specs.declared.item.What.{What}
use Rattle.jm_section.specs.declared.item.What.TheVariants.{Whole, Part, Passed}
use Rattle.jm_section.specs.declared.item.PartKind.{PartKind}
use Rattle.jm_section.specs.declared.item.PartKind.TheVariants.{First, Middle, Last, Cancel}
use Rattle.jm_section.specs.declared.header.Head.{Head}
use Rattle.jm_section.specs.Running.{running_after}

-- the octets that are passed over alone
abbrev pub is_passed : ℕ → Bool
is_passed octet = octet == 0xf4 || octet == 0xf5 || octet == 0xf9 || octet == 0xfd

-- the first and the last octet of a segment (RFC 6295, section 3.2, Figure 5)
pub data IsSegment : PartKind → (first last : ℕ) → Type 0 where
  first_part : IsSegment First 0xf0 0xf0
  middle_part : IsSegment Middle 0xf7 0xf0
  last_part : IsSegment Last 0xf7 0xf7
  cancel_first : IsSegment Cancel 0xf0 0xf4
  cancel_other : IsSegment Cancel 0xf7 0xf4

-- The octets of one item behind its delta field, under the running status before it. A channel command
-- with the running status may leave it out.
pub data SpellsWhat (running : Option ℕ) : List ℕ → What → Type 0 where
  with_status : (command : Command) → IsCommand command → SpellsWhat running (spelling command) (Whole command)
  without_status : (command : Command) → IsCommand command → status_of command < 0xf0 → running ≡ Some (status_of command) → SpellsWhat running (drop 1 (spelling command)) (Whole command)
  passed : (octet : ℕ) → IsTrue (is_passed octet) → SpellsWhat running (octet ∷ []) (Passed octet)
  segment : (kind : PartKind) (first last : ℕ) (octets : List ℕ) → IsSegment kind first last → IsData octets → SpellsWhat running (first ∷ (octets ++ last ∷ [])) (Part kind octets)

-- The running status behind an item: segments and F0 to F7 end it, F8 to FF leave it.
abbrev pub running_behind : Option ℕ → What → Option ℕ
running_behind running (Whole command) = running_after running (status_of command)
running_behind running (Part kind octets) = None
running_behind running (Passed octet) = running_after running octet

-- the running status behind items that begin under this one
abbrev pub running_from : Option ℕ → List Item → Option ℕ
running_from running [] = running
running_from running (item ∷ items) = running_from (running_behind running item.what) items

-- the running status behind the items of a list
abbrev pub running_of : List Item → Option ℕ
running_of items = running_from None items

-- Whether the next item behind these has a delta field: each has, but for the first one of a list whose
-- header leaves its field out.
abbrev pub has_field : Bool → List Item → Bool
has_field bare [] = if bare then false else true
has_field bare (item ∷ items) = true

-- what tells the delta of an item: a field, or nothing for 0
pub data SpellsDelta : (has_field : Bool) → List ℕ → (delta : ℕ) → Type 0 where
  no_field : SpellsDelta false [] 0
  field : (text : List ℕ) → IsField text → SpellsDelta true text (value text)

-- The octets spell these items, and end with the last one. A list is bare where its first item has no
-- delta field.
pub data Spells (bare : Bool) : List ℕ → List Item → Type 0 where
  nothing : Spells bare [] []
  one_more : (front : List ℕ) (before : List Item) (lead text : List ℕ) (delta : ℕ) (what : What) → Spells bare front before
      → SpellsDelta (has_field bare before) lead delta → SpellsWhat (running_of before) text what
      → Spells bare (front ++ (lead ++ text)) (before ++ record { delta = delta; what = what } ∷ [])

-- The whole MIDI list spells these items. It may end with a delta field (RFC 6295, section 3.1).
pub data SpellsList (bare : Bool) : List ℕ → List Item → Type 0 where
  ends_with_item : (octets : List ℕ) (items : List Item) → Spells bare octets items → SpellsList bare octets items
  ends_with_delta : (front text : List ℕ) (items : List Item) → Spells bare front items → IsTrue (has_field bare items) → IsField text
      → SpellsList bare (front ++ text) items

-- The header (RFC 6295, section 3, Figure 2): the flags B, J, Z and P, and the length of the MIDI list in
-- four bits, or in twelve where B is set. P says nothing of the octets.
pub data SpellsHead : List ℕ → Head → Type 0 where
  short_head : (first : ℕ) → first < 0x80
      → SpellsHead (first ∷ []) (record { size = 1; len = first % 16; journal = is_set 0x40 first; bare = if is_set 0x20 first then false else true })
  long_head : (first low : ℕ) → 0x80 ≤ first
      → SpellsHead (first ∷ low ∷ []) (record { size = 2; len = first % 16 * 256 + low; journal = is_set 0x40 first; bare = if is_set 0x20 first then false else true })

-- what a section holds, and the number of its octets
pub record Read : Type 0 where
  pub items : List Item
  pub journal : Bool
  pub used : ℕ

-- these octets begin with this section
pub record IsSection (octets : List ℕ) (section : Read) : Type 0 where
  pub head : Head
  pub head_text : List ℕ
  pub list : List ℕ
  pub rest : List ℕ
  pub split : octets ≡ head_text ++ (list ++ rest)
  pub headed : SpellsHead head_text head
  pub listed : SpellsList head.bare list section.items
  pub len_is : length list ≡ head.len
  pub journal_is : section.journal ≡ head.journal
  pub used_is : section.used ≡ length head_text + length list
