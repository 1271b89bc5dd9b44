-- What the laws of this crate say.
use Rattle.std.specs.Prelude.{◌≡◌, ℕ, Bool, List, ◌++◌, length, All, Ok}
use Rattle.jm_cmds.specs.Command.{IsCommand}
use Rattle.jm_cmds.specs.Data.{IsSysex}
use Rattle.jm_section.specs.declared.item.Item.{Item}
use Rattle.jm_section.specs.declared.item.What.{What}
use Rattle.jm_section.specs.declared.item.What.TheVariants.{Whole, Part, Passed}
use Rattle.jm_section.specs.Section.{IsWritable, section}
use Rattle.jm_section.specs.Grammar.{Read, IsSection}
use Rattle.jm_section.specs.Reading.{section_read}

-- octets begin with at most one section
abbrev pub OneSection : Type 0
OneSection = (octets : List ℕ) (a b : Read) → IsSection octets a → IsSection octets b → a ≡ b

-- The numbers of a command or a segment are within their bounds, as they are in each item of a program.
abbrev pub IsWhat : What → Type 0
IsWhat (Whole command) = IsCommand command
IsWhat (Part kind octets) = IsSysex octets
IsWhat (Passed octet) = Unit {0}

-- a section that is written
abbrev pub written : List Item → Bool → Read
written items journal = record { items = items; journal = journal; used = length (section items journal) }

-- what was written is the section at the front, and read again
pub record IsReadBack (items : List Item) (journal : Bool) (rest : List ℕ) : Type 0 where
  pub spelled : IsSection (section items journal ++ rest) (written items journal)
  pub again : section_read (section items journal ++ rest) ≡ Ok (written items journal)

abbrev pub SectionsReadBack : Type 0
SectionsReadBack = (items : List Item) (journal : Bool) (rest : List ℕ) → IsWritable items → All (λ item. IsWhat item.what) items → IsReadBack items journal rest
