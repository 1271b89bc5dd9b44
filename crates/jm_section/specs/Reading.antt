-- Reading a section from left to right, with the first fault that is met. Places are counted from the
-- section's first octet.
use Rattle.std.specs.Prelude.{◌≡◌, ℕ, zero, suc, ◌+◌, ◌-◌, ◌*◌, ◌%◌, Bool, true, false, ◌||◌, ◌==◌, List, [], ◌∷◌, length, take, drop, slice_index, nat_lt, Option, Some, None, Result, Ok, Err, if◌then◌else◌}
use Rattle.jm_wire.specs.Heads.{is_set}
use Rattle.jm_cmds.specs.declared.commands.Command.{Command}
use Rattle.jm_cmds.specs.declared.reading.CmdFault.{CmdFault}
use Rattle.jm_cmds.specs.declared.reading.CmdFault.TheVariants as commands
use Rattle.jm_cmds.specs.declared.outcome.ReadError.{ReadError}
use Rattle.jm_cmds.specs.declared.outcome.ReadError.TheVariants as errors
use Rattle.jm_cmds.specs.Data.{data_len}
use Rattle.jm_cmds.specs.Reading.{command_read}
use Rattle.jm_wire.specs.Readers.{◌>>=◌}
use Rattle.jm_wire.specs.declared.delta.DeltaFault.{DeltaFault}
use Rattle.jm_wire.specs.Delta.{delta_at}
use Rattle.jm_section.specs.declared.item.Item.{Item}
use Rattle.jm_section.specs.declared.item.What.{What}
use Rattle.jm_section.specs.declared.item.What.TheVariants.{Whole, Part, Passed}
use Rattle.jm_section.specs.declared.item.PartKind.TheVariants.{First, Middle, Last, Cancel}
use Rattle.jm_section.specs.declared.reading.SectionFault.{SectionFault}
use Rattle.jm_section.specs.declared.reading.SectionFault.TheVariants.{Short, NoStatus, BadCommand, BadDelta}
use Rattle.jm_section.specs.Grammar.{is_passed, running_behind, Read}
use Rattle.jm_section.specs.declared.header.Head.{Head}
use Rattle.jm_section.specs.declared.reading.Section.{Section}

-- What a reader gave, seen by view, is what was meant, unless memory was refused.
abbrev pub GivesBy : {A B F : Type 0} → (A → B) → Result A (ReadError F) → Result B F → Type 0
GivesBy view (Ok x) meant = meant ≡ Ok (view x)
GivesBy view (Err errors.Memory) meant = Unit {0}
GivesBy view (Err (errors.Fault f)) meant = meant ≡ Err f

-- a whole command, or a fault of the command at this place
abbrev pub whole : ℕ → Result (Command × ℕ) CmdFault → Result (What × ℕ) SectionFault
whole place (Ok x) = Ok (Whole x.0, x.1)
whole place (Err f) = Err (BadCommand place f)

-- what a command is without its status octet: each place inside it is one less
abbrev pub place_less : CmdFault → CmdFault
place_less commands.Empty = commands.Empty
place_less commands.DataOctet = commands.DataOctet
place_less (commands.BadStatus s) = commands.BadStatus s
place_less (commands.BadData k) = commands.BadData (k - 1)
place_less commands.TooLong = commands.TooLong
place_less commands.Short = commands.Short

abbrev pub one_less : Result (Command × ℕ) CmdFault → Result (Command × ℕ) CmdFault
one_less (Ok x) = Ok (x.0, x.1 - 1)
one_less (Err f) = Err (place_less f)

-- a channel command under running status: it has one data octet or two
abbrev pub under_running : (place : ℕ) (running : Option ℕ) → List ℕ → Result (What × ℕ) SectionFault
under_running place None octets = Err (NoStatus place)
under_running place (Some status) octets = whole place (one_less (command_read (status ∷ take 2 octets)))

-- The item that begins with F0 or F7, has so many data octets, and ends with this octet.
abbrev pub exclusive_ended : (place : ℕ) → List ℕ → (first count last : ℕ) → Result (What × ℕ) SectionFault
exclusive_ended place octets first count last =
    let between = take count (drop 1 octets) in
    if last == 0xf4 then Ok (Part Cancel between, count + 2)
    else (if last == 0xf0 then Ok (Part (if first == 0xf0 then First else Middle) between, count + 2)
    else (if last == 0xf7 then (if first == 0xf7 then Ok (Part Last between, count + 2) else whole place (command_read octets))
    else Err (BadCommand place (commands.BadData (count + 1)))))

abbrev pub exclusive_read : ℕ → List ℕ → Result (What × ℕ) SectionFault
exclusive_read place octets =
    let rest = drop 1 octets in
    if data_len rest == length rest then Err (BadCommand place commands.Short)
    else exclusive_ended place octets (slice_index octets 0) (data_len rest) (slice_index rest (data_len rest))

-- What begins at this place under this running status, and the number of its octets.
unfoldable pub what_read : (place : ℕ) (running : Option ℕ) → List ℕ → Result (What × ℕ) SectionFault
what_read place running octets =
    let first = slice_index octets 0 in
    if nat_lt first 0x80 then under_running place running octets
    else (if first == 0xf0 || first == 0xf7 then exclusive_read place octets
    else (if is_passed first then Ok (Passed first, 1) else whole place (command_read octets)))

-- the delta at this place, and the number of octets of its field
abbrev pub field_read : ℕ → Result (ℕ × ℕ) DeltaFault → Result (ℕ × ℕ) SectionFault
field_read place (Ok x) = Ok x
field_read place (Err f) = Err (BadDelta place)

abbrev pub delta_read : (place : ℕ) (bare : Bool) → List ℕ → Result (ℕ × ℕ) SectionFault
delta_read place bare octets = if bare then Ok (0, 0) else field_read place (delta_at octets)

-- The next item and the number of its octets, or none where the list ends, which may be behind a delta
-- field.
unfoldable pub item_read : (place : ℕ) (bare : Bool) (running : Option ℕ) → List ℕ → Result (Option (Item × ℕ)) SectionFault
item_read place bare running octets =
    if length octets == 0 then Ok None else do
      delta ← delta_read place bare octets
      if length octets == delta.1 then Ok None else do
        what ← what_read (place + delta.1) running (drop delta.1 octets)
        Ok (Some (record { delta = delta.0; what = what.0 }, delta.1 + what.1))

-- an item before those that are read behind it
abbrev pub before_others : Option (Item × ℕ) → (Item × ℕ → Result (List Item) SectionFault) → Result (List Item) SectionFault
before_others None others = Ok []
before_others (Some x) others = others x >>= λ items. Ok (x.0 ∷ items)

-- the items of a list, which are at most n
unfoldable pub items_read : (most place : ℕ) (bare : Bool) (running : Option ℕ) → List ℕ → Result (List Item) SectionFault
items_read zero place bare running octets = Ok []
items_read (suc n) place bare running octets = do
  next ← item_read place bare running octets
  before_others next (λ x. items_read n (place + x.1) false (running_behind running x.0.what) (drop x.1 octets))

-- the header
abbrev pub head_of : (first size len : ℕ) → Head
head_of first size len = record { size = size; len = len; journal = is_set 0x40 first; bare = if is_set 0x20 first then false else true }

unfoldable pub head_read : List ℕ → Result Head SectionFault
head_read [] = Err Short
head_read (first ∷ []) = if nat_lt first 0x80 then Ok (head_of first 1 (first % 16)) else Err Short
head_read (first ∷ low ∷ rest) = if nat_lt first 0x80 then Ok (head_of first 1 (first % 16)) else Ok (head_of first 2 (first % 16 * 256 + low))

-- a section as it is read
abbrev pub section_view : Section → Read
section_view s = record { items = s.items.items; journal = s.journal; used = s.used }

-- the section at the front of octets
unfoldable pub section_read : List ℕ → Result Read SectionFault
section_read octets = do
  head ← head_read octets
  if nat_lt (length octets) (head.size + head.len) then Err Short else do
    items ← items_read head.len head.size head.bare None (take head.len (drop head.size octets))
    Ok (record { items = items; journal = head.journal; used = head.size + head.len })
