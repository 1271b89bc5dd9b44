-- How a long System Exclusive command is divided into segments, which go out in successive packets (RFC 6295, section 3.2).
use Rattle.std.specs.Prelude.{ℕ, zero, suc, ◌≡◌, ◌≤◌, true, List, [], ◌∷◌, ◌++◌, length, take, drop, nat_le, Option, Some, None, if◌then◌else◌}
use Rattle.std.specs.List.{AllByRecursion, flat_map}
use Rattle.jm_cmds.specs.declared.commands.Command.{Command}
use Rattle.jm_cmds.specs.declared.commands.Command.TheVariants.{Sysex}
use Rattle.jm_cmds.specs.Command.{is_long}
use Rattle.jm_cmds.specs.Data.{is_long_message}
use Rattle.jm_section.specs.declared.item.What.{What}
use Rattle.jm_section.specs.declared.item.What.TheVariants.{Part}
use Rattle.jm_section.specs.declared.item.PartKind.{PartKind}
use Rattle.jm_section.specs.declared.item.PartKind.TheVariants.{First, Middle, Last}
use Rattle.jm_section.specs.Section.{segment_text}

-- a segment: which one it is of its command, and its data octets
pub record Segment : Type 0 where
  pub kind : PartKind
  pub octets : List ℕ

abbrev pub first_segment : List ℕ → Segment
first_segment octets = record { kind = First; octets = take 2046 octets }

abbrev pub middle_segment : List ℕ → Segment
middle_segment octets = record { kind = Middle; octets = take 2046 octets }

abbrev pub last_segment : List ℕ → Segment
last_segment octets = record { kind = Last; octets = octets }

-- the segments behind the first one: each has 2,046 data octets, but the last, which has the rest. There are fewer than `most`.
abbrev pub later_segments : (most : ℕ) → List ℕ → List Segment
later_segments zero octets = []
later_segments (suc most) octets =
    if nat_le (length octets) 2046 then last_segment octets ∷ []
    else middle_segment octets ∷ later_segments most (drop 2046 octets)

-- the segments of a long message with these data octets
abbrev pub segments_of : List ℕ → List Segment
segments_of octets = first_segment octets ∷ later_segments (length octets) (drop 2046 octets)

-- the data octets of a System Exclusive message; other commands have none here
abbrev pub message_of : Command → List ℕ
message_of (Sysex octets) = octets
message_of _ = []

-- the segments in which a command goes out: none where one packet holds it whole
abbrev pub segments_in : Command → List Segment
segments_in command = if is_long command then segments_of (message_of command) else []

-- the first one, where there is one
abbrev pub next_segment : List Segment → Option Segment
next_segment [] = None
next_segment (segment ∷ others) = Some segment

-- what it is in a MIDI list
abbrev pub part_of : Segment → What
part_of segment = Part segment.kind segment.octets

-- its octets there
abbrev pub text_of : Segment → List ℕ
text_of segment = segment_text segment.kind segment.octets

-- ---- what the division is

-- The segments of these data octets: a first one, middle ones and a last one, each with 2,046 data octets but the last, which has
-- the rest, at least 1. (Not: a last segment without data, or one of 2,047 octets.)
pub record AreSegments (whole : List ℕ) (segments : List Segment) : Type 0 where
  pub first : Segment
  pub middle : List Segment
  pub last : Segment
  pub parts : segments ≡ first ∷ (middle ++ last ∷ [])
  pub begins : first.kind ≡ First
  pub goes_on : AllByRecursion (λ (one : Segment). one.kind ≡ Middle) middle
  pub ends : last.kind ≡ Last
  pub full : AllByRecursion (λ (one : Segment). length one.octets ≡ 2046) (first ∷ middle)
  pub least : 1 ≤ length last.octets
  pub most : length last.octets ≤ 2046
  pub joined : flat_map (λ (one : Segment). one.octets) segments ≡ whole

abbrev pub DividesLong : Type 0
DividesLong = (octets : List ℕ) → is_long_message octets ≡ true → AreSegments octets (segments_of octets)
