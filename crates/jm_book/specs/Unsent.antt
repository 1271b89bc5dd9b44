-- What the buffer of a long command's data octets stands for.
use Rattle.std.proofs.Common.{refl}
use Rattle.std.specs.Prelude.{ℕ, ◌+◌, ◌<◌, ◌≤◌, ◌≡◌, ◌==◌, List, [], length, Option, Some, None, if◌then◌else◌}
use Rattle.jm_wire.specs.Octets.{Filled}
use Rattle.jm_book.specs.declared.waiting.Waiting.{Waiting}
use Rattle.jm_book.specs.Segments.{Segment, segments_of, later_segments}

-- the segments of these data octets, before which so many were sent
unfoldable pub segments_left : (sent : ℕ) → List ℕ → List Segment
segments_left sent octets =
    if length octets == 0 then []
    else if sent == 0 then segments_of octets
    else later_segments (length octets) octets

-- There is room for 65,536 octets in all. Before the first segment is sent the octets are those of a long message; later some are left.
pub record IsUnsent (buffer : Filled) (sent : ℕ) : Type 0 where
  pub whole : buffer.spare + length buffer.octets ≡ 65536
  pub long : sent ≡ 0 → 0 < length buffer.octets → 2046 < length buffer.octets
  pub within : 0 < sent → sent < length buffer.octets

-- the segment that is lent
abbrev pub told : Option Waiting → Option Segment
told None = None
told (Some one) = Some record { kind = one.kind; octets = one.octets.now }

abbrev pub IsShortPart : Option Waiting → Type 0
IsShortPart None = Unit {0}
IsShortPart (Some one) = length one.octets.now ≤ 2046

-- of a buffer without octets none are left
pub left_none : (sent : ℕ) (octets : List ℕ) → octets ≡ [] → segments_left sent octets ≡ []
unfolding segments_left
left_none sent octets none = rw none refl
