-- The checkpoint is the least mark, whatever the session.
use Rattle.std.proofs.Common.{ℕ, ◌-◌, ◌≤◌, ◌<◌, List, [], ◌∷◌, inl, inr, arith}
use Rattle.std.specs.Prelude.{nat_lt}
use Rattle.std.specs.List.{AllByRecursion}
use Rattle.std.proofs.lemmas.Bool.{cases_Bool, ltb-true, ltb-false}
use Rattle.jm_book.specs.declared.participants.Participant.{Participant}
use Rattle.jm_book.specs.Participants.{least_mark, slowest, mark_or, checkpoint_at}

pub least_mark_at_most_best : (best : Participant) (others : List Participant) → (least_mark best others).mark ≤ best.mark
least_mark_at_most_best best [] = omega arith
least_mark_at_most_best best (one ∷ others) = elim (cases_Bool (nat_lt one.mark best.mark)) [
  | inl t ↦ let less : one.mark < best.mark = ltb-true one.mark best.mark t in let rest = least_mark_at_most_best one others in rw t (omega arith)
  | inr f ↦ rw f (least_mark_at_most_best best others)
]

pub least_mark_at_most : (number : ℕ) (best : Participant) (others : List Participant) → number ≤ (least_mark best others).mark → AllByRecursion (λ one. number ≤ one.mark) others
least_mark_at_most number best [] h = tt
least_mark_at_most number best (one ∷ others) h = elim (cases_Bool (nat_lt one.mark best.mark)) [
  | inl t ↦
      let under : number ≤ (least_mark one others).mark = rw t at h in
      let least = least_mark_at_most_best one others in
      (omega arith, least_mark_at_most number one others under)
  | inr f ↦
      let under : number ≤ (least_mark best others).mark = rw f at h in
      let from : best.mark ≤ one.mark = ltb-false one.mark best.mark f in
      let least = least_mark_at_most_best best others in
      (omega arith, least_mark_at_most number best others under)
]

pub slowest_at_most : (other : ℕ) (joined : List Participant) → AllByRecursion (λ one. mark_or other (slowest joined) ≤ one.mark) joined
slowest_at_most other [] = tt
slowest_at_most other (one ∷ others) =
    (least_mark_at_most_best one others, least_mark_at_most (least_mark one others).mark one others (omega arith))

-- no joined participant's mark is passed
pub checkpoint_at_most : (packets : ℕ) (joined : List Participant) → AllByRecursion (λ one. checkpoint_at packets joined ≤ one.mark) joined
checkpoint_at_most packets joined = slowest_at_most (packets - 1) joined

pub least_mark_at_least : (number : ℕ) (best : Participant) (others : List Participant) → number ≤ best.mark → AllByRecursion (λ one. number ≤ one.mark) others → number ≤ (least_mark best others).mark
least_mark_at_least number best [] here h = here
least_mark_at_least number best (one ∷ others) here h = elim (cases_Bool (nat_lt one.mark best.mark)) [
  | inl t ↦ rw t (least_mark_at_least number one others h.0 h.1)
  | inr f ↦ rw f (least_mark_at_least number best others here h.1)
]

pub slowest_at_least : (number other : ℕ) (joined : List Participant) → number ≤ other → AllByRecursion (λ one. number ≤ one.mark) joined → number ≤ mark_or other (slowest joined)
slowest_at_least number other [] sent h = sent
slowest_at_least number other (one ∷ others) sent h = least_mark_at_least number one others h.0 h.1

-- what no mark and no sent packet is below, the checkpoint isn't either
pub checkpoint_at_least : (number packets : ℕ) (joined : List Participant) → number ≤ packets - 1 → AllByRecursion (λ one. number ≤ one.mark) joined → number ≤ checkpoint_at packets joined
checkpoint_at_least number packets joined sent h = slowest_at_least number (packets - 1) joined sent h

pub slowest_sent : (other : ℕ) (joined : List Participant) → AllByRecursion (λ one. one.mark ≤ other) joined → mark_or other (slowest joined) ≤ other
slowest_sent other [] h = omega arith
slowest_sent other (one ∷ others) h = let least = least_mark_at_most_best one others in omega (arith, h.0)

-- where no mark is past the last sent packet, the checkpoint isn't either
pub checkpoint_sent : (packets : ℕ) (joined : List Participant) → AllByRecursion (λ one. one.mark ≤ packets - 1) joined → checkpoint_at packets joined ≤ packets - 1
checkpoint_sent packets joined h = slowest_sent (packets - 1) joined h
