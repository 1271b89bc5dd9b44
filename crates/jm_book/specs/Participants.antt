-- Lists of joined participants: their marks and their slots.
use Rattle.std.specs.Prelude.{ℕ, zero, suc, ◌+◌, ◌-◌, ◌%◌, ◌≡◌, Bool, true, false, ◌==◌, ◌||◌, if◌then◌else◌, nat_le, nat_lt, List, [], ◌∷◌, ◌++◌, length, map, Option, Some, None, is_some}
use Rattle.std.specs.List.{list_any}
use Rattle.std.proofs.Common.{refl, arith}
use Rattle.jm_book.specs.declared.participants.Participant.{Participant}
use Rattle.jm_book.specs.declared.marks.Report.{Report}
use Rattle.jm_book.specs.declared.marks.Report.TheVariants as report

abbrev pub is_of : (ssrc : ℕ) → Participant → Bool
is_of ssrc one = one.ssrc == ssrc

-- the participant of an SSRC, if it is joined
abbrev pub find_joined : ℕ → List Participant → Option Participant
find_joined ssrc [] = None
find_joined ssrc (one ∷ others) = if one.ssrc == ssrc then Some one else find_joined ssrc others

abbrev pub is_member : ℕ → List Participant → Bool
is_member ssrc joined = is_some (find_joined ssrc joined)

-- ---- slots

-- a slot is one of 32, and each joined participant has one of its own
abbrev pub has_slot : List Participant → ℕ → Bool
has_slot joined slot = list_any (λ one. one.slot == slot) joined

-- the first slot from `slot` on, of so many, that no joined participant has
unfoldable pub free_from : (joined : List Participant) (left slot : ℕ) → ℕ
free_from joined zero slot = 0
free_from joined (suc left) slot = if has_slot joined slot then free_from joined left (slot + 1) else slot

-- the least free slot of 32
abbrev pub free_slot : List Participant → ℕ
free_slot joined = free_from joined 32 0

-- ---- one that changes, and one that leaves

-- the first participant of an SSRC, changed
abbrev pub changed : (Participant → Participant) → ℕ → List Participant → List Participant
changed change ssrc [] = []
changed change ssrc (one ∷ others) = if one.ssrc == ssrc then change one ∷ others else one ∷ changed change ssrc others

-- its mark moved
abbrev pub moved : (ssrc mark : ℕ) → List Participant → List Participant
moved ssrc mark joined = changed (λ one. record one { mark = mark }) ssrc joined

-- the number of the last packet that it received
abbrev pub noted : (ssrc seq : ℕ) → List Participant → List Participant
noted ssrc seq joined = changed (λ one. record one { heard = Some seq }) ssrc joined

-- those who are left where the first of an SSRC leaves
abbrev pub others_than : ℕ → List Participant → List Participant
others_than ssrc [] = []
others_than ssrc (one ∷ others) = if one.ssrc == ssrc then others else one ∷ others_than ssrc others

-- ---- marks

-- how far a 16-bit number is past a mark's low 16 bits
abbrev pub distance : (mark seq : ℕ) → ℕ
distance mark seq = (seq + (65536 - mark % 65536)) % 65536

abbrev pub least_mark : Participant → List Participant → Participant
least_mark best [] = best
least_mark best (one ∷ others) = if nat_lt one.mark best.mark then least_mark one others else least_mark best others

-- the first of the joined participants, in order, that has the least mark
abbrev pub slowest : List Participant → Option Participant
slowest [] = None
slowest (one ∷ others) = Some (least_mark one others)

abbrev pub mark_or : ℕ → Option Participant → ℕ
mark_or other None = other
mark_or other (Some one) = one.mark

-- the checkpoint: the least mark of the joined participants; with none joined the last packet that was sent, or 0
abbrev pub checkpoint_at : (packets : ℕ) (joined : List Participant) → ℕ
checkpoint_at packets joined = mark_or (packets - 1) (slowest joined)

-- ---- joining and reporting, where so many packets were sent

-- how many participants may be joined at once
abbrev pub most_joined : ℕ
most_joined = 32

-- a joiner's mark is the last packet that was sent, or 0
abbrev pub with_joiner : (packets ssrc : ℕ) → List Participant → List Participant
with_joiner packets ssrc joined = joined ++ record { ssrc = ssrc; mark = packets - 1; slot = free_slot joined; heard = None } ∷ []

-- the mark that a report of this number moves to
abbrev pub reaches : Participant → (seq : ℕ) → ℕ
reaches one seq = one.mark + distance one.mark seq

-- the last packet that was sent, if there is one
abbrev pub last_packet : (packets : ℕ) → Option ℕ
last_packet packets = if packets == 0 then None else Some (packets - 1)

-- what a report of this number comes to, of a joined participant: it is old where it isn't past the mark, or half a
-- round past it or more
abbrev pub report_of : (packets : ℕ) → Participant → (seq : ℕ) → Report
report_of packets one seq =
    if distance one.mark seq == 0 || nat_le 32768 (distance one.mark seq) then report.Old one.mark
    else if nat_le packets (reaches one seq) then report.NotSent (last_packet packets)
    else report.Moved (reaches one seq)

abbrev pub marked_by : Report → (ssrc : ℕ) → List Participant → List Participant
marked_by (report.Moved mark) ssrc joined = moved ssrc mark joined
marked_by _ ssrc joined = joined

abbrev pub with_report_of : (packets ssrc seq : ℕ) → List Participant → Option Participant → List Participant
with_report_of packets ssrc seq joined None = joined
with_report_of packets ssrc seq joined (Some one) = marked_by (report_of packets one seq) ssrc joined

-- a report moves the mark up to its number, unless it is old or of a packet that was not sent
abbrev pub with_report : (packets ssrc seq : ℕ) → List Participant → List Participant
with_report packets ssrc seq joined = with_report_of packets ssrc seq joined (find_joined ssrc joined)

-- the mark that a report moved to
abbrev pub MovesTo : Report → (to : ℕ) → Type 0
MovesTo (report.Moved mark) to = mark ≡ to
MovesTo _ to = Unit {0}

abbrev pub ssrcs_of : List Participant → List ℕ
ssrcs_of joined = map (λ (one : Participant). one.ssrc) joined

abbrev pub slots_of : List Participant → List ℕ
slots_of joined = map (λ (one : Participant). one.slot) joined

-- one slot is looked at
pub free_from_more : (joined : List Participant) (left more slot : ℕ) → more ≡ left + 1 → free_from joined more slot ≡ (if has_slot joined slot then free_from joined left (slot + 1) else slot)
unfolding free_from
free_from_more joined left zero slot e = absurd (omega arith)
free_from_more joined left (suc more) slot e = let same : more ≡ left = omega arith in rw same refl

pub free_from_none : (joined : List Participant) (slot : ℕ) → free_from joined 0 slot ≡ 0
unfolding free_from
free_from_none joined slot = refl

pub length_changed : (change : Participant → Participant) (ssrc : ℕ) (joined : List Participant) → length (changed change ssrc joined) ≡ length joined
length_changed change ssrc [] = refl
length_changed change ssrc (one ∷ others) = elim (one.ssrc == ssrc) as (λ b. length (if b then change one ∷ others else one ∷ changed change ssrc others) ≡ length (one ∷ others)) [
  | true ↦ refl
  | false ↦ omega (arith, length_changed change ssrc others)
]
