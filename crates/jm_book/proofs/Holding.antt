-- What a core does with the first segment that waits, if one does.
use Rattle.std.proofs.Common.{◌≡◌, refl, ℕ, Bool, List, [], ◌∷◌, length, Some, None}
use Rattle.jm_book.specs.declared.answers.PlayFault.TheVariants as refusal
use Rattle.jm_book.specs.Segments.{Segment, next_segment, text_of}
use Rattle.jm_book.specs.Answers.{cut_refusal}
use Rattle.jm_book.specs.Core.{list_or}

-- none waits
pub none_waits : (waiting : List Segment) → None ≡ next_segment waiting → waiting ≡ []
none_waits [] none = refl
none_waits (segment ∷ others) none = absurd cc

-- one waits, so that a play needs a cut
pub one_waits : (waiting : List Segment) (segment : Segment) (count size : ℕ) (behind : Bool) (pending octets delta : ℕ) → Some segment ≡ next_segment waiting → count ≡ length waiting → size ≡ length (text_of segment)
    → Some (refusal.NeedsCut count size 0) ≡ cut_refusal waiting behind pending octets delta
one_waits [] segment count size behind pending octets delta is all long = absurd cc
one_waits (first ∷ others) segment count size behind pending octets delta is all long =
    let same : segment ≡ first = cc in
    rw (all, long, same) refl

-- the list of the next packet
pub list_of_segment : (waiting : List Segment) (list : List ℕ) (segment : Segment) → Some segment ≡ next_segment waiting → list_or (next_segment waiting) list ≡ text_of segment
list_of_segment waiting list segment is = rw (← is) refl

pub list_of_pending : (waiting : List Segment) (list : List ℕ) → None ≡ next_segment waiting → list_or (next_segment waiting) list ≡ list
list_of_pending waiting list none = rw (← none) refl
