-- The first fault of octets that begin with no section, apart from reading: what stands before its place
-- is as the grammar has it, and what stands there is not.
use Rattle.std.specs.Prelude.{◌≡◌, ◌≢◌, ℕ, ◌+◌, ◌<◌, ◌≤◌, Bool, true, false, List, [], ◌∷◌, ◌++◌, length, take, Option, Some, None, Err, ◌⊎◌}
use Rattle.jm_cmds.specs.declared.reading.CmdFault.{CmdFault}
use Rattle.jm_cmds.specs.declared.reading.CmdFault.TheVariants as commands
use Rattle.jm_cmds.specs.declared.outcome.ReadError.{ReadError}
use Rattle.jm_cmds.specs.declared.outcome.ReadError.TheVariants as errors
use Rattle.jm_cmds.specs.Data.{IsData}
use Rattle.jm_cmds.specs.Reading.{command_read}
use Rattle.jm_wire.specs.Delta.{IsField}
use Rattle.jm_section.specs.declared.item.Item.{Item}
use Rattle.jm_section.specs.declared.header.Head.{Head}
use Rattle.jm_section.specs.declared.reading.SectionFault.{SectionFault}
use Rattle.jm_section.specs.declared.reading.SectionFault.TheVariants.{Short, NoStatus, BadCommand, BadDelta}
use Rattle.jm_section.specs.Grammar.{is_passed, Spells, SpellsHead, SpellsDelta, has_field, running_of}
use Rattle.jm_section.specs.Reading.{place_less}

-- F0 or F7, by which a System Exclusive command or a segment of one begins
abbrev pub IsExclusive : ℕ → Type 0
IsExclusive octet = (octet ≡ 0xf0) ⊎ (octet ≡ 0xf7)

-- the octets that may end one
abbrev pub IsEnd : ℕ → Type 0
IsEnd octet = (octet ≡ 0xf0) ⊎ ((octet ≡ 0xf7) ⊎ (octet ≡ 0xf4))

-- These octets, which are not none, begin no command under this running status. The places inside the
-- fault are counted from the first of them. A message that is too long is one of over 65,536 data octets, for which the
-- twelve bits of LEN leave no room.
pub data IsBadCommand (running : Option ℕ) : List ℕ → CmdFault → Type 0 where
  unended : (first : ℕ) (octets : List ℕ) → IsExclusive first → IsData octets → IsBadCommand running (first ∷ octets) commands.Short
  ended_badly : (first last : ℕ) (octets more : List ℕ) → IsExclusive first → IsData octets → 128 ≤ last → (IsEnd last → ⊥)
      → IsBadCommand running (first ∷ (octets ++ last ∷ more)) (commands.BadData (length octets + 1))
  overlong : (octets more : List ℕ) → IsData octets → 65536 < length octets → IsBadCommand running (0xf0 ∷ (octets ++ 0xf7 ∷ more)) commands.TooLong
  of_status : (first : ℕ) (octets : List ℕ) (fault : CmdFault) → 128 ≤ first → (IsExclusive first → ⊥) → is_passed first ≡ false → command_read (first ∷ octets) ≡ Err fault
      → IsBadCommand running (first ∷ octets) fault
  under_status : (status first : ℕ) (octets : List ℕ) (fault : CmdFault) → first < 128 → running ≡ Some status → command_read (status ∷ take 2 (first ∷ octets)) ≡ Err fault
      → IsBadCommand running (first ∷ octets) (place_less fault)

-- Behind a header and items that are as they must be, at this place of the octets, the rest of the MIDI
-- list stands: whether its first item has a delta field, and the running status there.
pub record StandsAt (octets : List ℕ) (place : ℕ) (has : Bool) (running : Option ℕ) (left : List ℕ) : Type 0 where
  pub head : Head
  pub head_text : List ℕ
  pub front : List ℕ
  pub items : List Item
  pub behind : List ℕ
  pub split : octets ≡ head_text ++ ((front ++ left) ++ behind)
  pub headed : SpellsHead head_text head
  pub len_is : length (front ++ left) ≡ head.len
  pub spelled : Spells head.bare front items
  pub has_is : has ≡ has_field head.bare items
  pub running_is : running ≡ running_of items
  pub place_is : place ≡ length head_text + length front

-- no header stands at the front with as many octets behind it as it tells
abbrev pub IsShort : List ℕ → Type 0
IsShort octets = (head_text list behind : List ℕ) (head : Head) → octets ≡ head_text ++ (list ++ behind) → SpellsHead head_text head → length list ≢ head.len

-- the first fault of octets that begin with no section
pub data IsFault (octets : List ℕ) : SectionFault → Type 0 where
  is_short : IsShort octets → IsFault octets Short
  bad_delta : (place : ℕ) (running : Option ℕ) (left : List ℕ) → StandsAt octets place true running left → left ≢ []
      → ((text more : List ℕ) → left ≡ text ++ more → IsField text → ⊥) → IsFault octets (BadDelta place)
  no_status : (place : ℕ) (has : Bool) (lead : List ℕ) (delta first : ℕ) (more : List ℕ) → StandsAt octets place has None (lead ++ first ∷ more) → SpellsDelta has lead delta → first < 128
      → IsFault octets (NoStatus (place + length lead))
  bad_command : (place : ℕ) (has : Bool) (running : Option ℕ) (lead text : List ℕ) (delta : ℕ) (fault : CmdFault) → StandsAt octets place has running (lead ++ text) → SpellsDelta has lead delta
      → IsBadCommand running text fault → IsFault octets (BadCommand (place + length lead) fault)

-- what a reader told of octets, unless memory was refused
abbrev pub IsTold : List ℕ → ReadError SectionFault → Type 0
IsTold octets errors.Memory = Unit {0}
IsTold octets (errors.Fault fault) = IsFault octets fault
