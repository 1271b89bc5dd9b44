-- The participants of a session: their marks, their SSRCs and their slots, where one changes, joins or leaves.
use Rattle.std.proofs.Common.{◌≢◌, ◌++◌, ℕ, zero, suc, ◌+◌, ◌<◌, ◌≤◌, ◌≡◌, refl, ap, true, false, List, [], ◌∷◌, Some, map, length, inl, inr, arith}
use Rattle.std.specs.Prelude.{nat_eq, nat_le, ◌==◌, is_some}
use Rattle.std.specs.List.{AllByRecursion, IsDistinct, filter, list_any}
use Rattle.std.specs.Cmp.{nat_eq_equiv}
use Rattle.std.proofs.lemmas.Bool.{cases_Bool, eqb-true}
use Rattle.std.proofs.lemmas.Bool.Decides.{nat_tests}
use Rattle.jm_book.specs.declared.participants.Participant.{Participant}
use Rattle.jm_book.specs.Participants.{find_joined, is_member, has_slot, free_from, free_slot, changed, moved, others_than, ssrcs_of, slots_of}

-- ---- one that changes

-- what all have still stands where the changed one has it
pub changed_all : (P : Participant → Type 0) (change : Participant → Participant) (ssrc : ℕ) (joined : List Participant) → ((one : Participant) → P one → P (change one)) → AllByRecursion P joined → AllByRecursion P (changed change ssrc joined)
changed_all P change ssrc [] keeps h = tt
changed_all P change ssrc (one ∷ others) keeps h = elim (cases_Bool (one.ssrc == ssrc)) [
  | inl t ↦ rw t (keeps one h.0, h.1)
  | inr f ↦ rw f (h.0, changed_all P change ssrc others keeps h.1)
]

-- a field that the change leaves
pub field_changed : (field : Participant → ℕ) (change : Participant → Participant) (ssrc : ℕ) (joined : List Participant) → ((one : Participant) → field (change one) ≡ field one) → map field (changed change ssrc joined) ≡ map field joined
field_changed field change ssrc [] keeps = refl
field_changed field change ssrc (one ∷ others) keeps = elim (cases_Bool (one.ssrc == ssrc)) [
  | inl t ↦ rw (t, keeps one) refl
  | inr f ↦ rw f (ap (λ (rest : List ℕ). field one ∷ rest) (field_changed field change ssrc others keeps))
]

-- what holds of all marks, and of the moved one
pub marks_moved : (P : ℕ → Type 0) (ssrc mark : ℕ) (joined : List Participant) → P mark → AllByRecursion (λ one. P one.mark) joined → AllByRecursion (λ one. P one.mark) (moved ssrc mark joined)
marks_moved P ssrc mark joined here h = changed_all (λ one. P one.mark) (λ one. record one { mark = mark }) ssrc joined (λ one old. here) h

-- a found participant has what all have
pub found_all : (P : Participant → Type 0) (ssrc : ℕ) (joined : List Participant) (one : Participant) → find_joined ssrc joined ≡ Some one → AllByRecursion P joined → P one
found_all P ssrc [] one found h = absurd cc
found_all P ssrc (first ∷ others) one found h = elim (cases_Bool (first.ssrc == ssrc)) [
  | inl t ↦ let same : Some first ≡ Some one = rw t at found in let is : first ≡ one = cc in rw (← is) h.0
  | inr f ↦ let later : find_joined ssrc others ≡ Some one = rw f at found in found_all P ssrc others one later h.1
]

-- the changed one is found, and others are as they were
pub find_changed : (change : Participant → Participant) (ssrc : ℕ) (joined : List Participant) (one : Participant) → ((other : Participant) → (change other).ssrc ≡ other.ssrc) → find_joined ssrc joined ≡ Some one → find_joined ssrc (changed change ssrc joined) ≡ Some (change one)
find_changed change ssrc [] one keeps found = absurd cc
find_changed change ssrc (first ∷ others) one keeps found = elim (cases_Bool (first.ssrc == ssrc)) [
  | inl t ↦
      let same : Some first ≡ Some one = rw t at found in
      let is : first ≡ one = cc in
      let still : ((change first).ssrc == ssrc) ≡ true = rw (keeps first) t in
      rw (t, still) (ap (λ (x : Participant). Some (change x)) is)
  | inr f ↦ let later : find_joined ssrc others ≡ Some one = rw f at found in rw (f, f) (find_changed change ssrc others one keeps later)
]

pub find_other : (change : Participant → Participant) (ssrc other : ℕ) (joined : List Participant) → ((one : Participant) → (change one).ssrc ≡ one.ssrc) → other ≢ ssrc → find_joined other (changed change ssrc joined) ≡ find_joined other joined
find_other change ssrc other [] keeps apart = refl
find_other change ssrc other (first ∷ others) keeps apart = elim (cases_Bool (first.ssrc == ssrc)) [
  | inl t ↦
      let same : first.ssrc ≡ ssrc = eqb-true first.ssrc ssrc t in
      let differs : (first.ssrc == other) ≡ false = grind (arith, nat_tests, same, apart) in
      rw (t, keeps first, differs) refl
  | inr f ↦ let later = find_other change ssrc other others keeps apart in elim (cases_Bool (first.ssrc == other)) [ inl t ↦ rw (f, t) refl | inr n ↦ rw (f, n) later ]
]

-- the same are joined
pub member_changed : (change : Participant → Participant) (ssrc other : ℕ) (joined : List Participant) → ((one : Participant) → (change one).ssrc ≡ one.ssrc) → is_member other (changed change ssrc joined) ≡ is_member other joined
member_changed change ssrc other [] keeps = refl
member_changed change ssrc other (first ∷ others) keeps = elim (cases_Bool (first.ssrc == ssrc)) [
  | inl t ↦ elim (cases_Bool (first.ssrc == other)) [ inl s ↦ rw (t, keeps first, s) refl | inr n ↦ rw (t, keeps first, n) refl ]
  | inr f ↦ let later = member_changed change ssrc other others keeps in elim (cases_Bool (first.ssrc == other)) [ inl s ↦ rw (f, s) refl | inr n ↦ rw (f, n) later ]
]

-- ---- one that leaves

pub others_all : (P : Participant → Type 0) (ssrc : ℕ) (joined : List Participant) → AllByRecursion P joined → AllByRecursion P (others_than ssrc joined)
others_all P ssrc [] h = tt
others_all P ssrc (one ∷ others) h = elim (cases_Bool (one.ssrc == ssrc)) [
  | inl t ↦ rw t h.1
  | inr f ↦ rw f (h.0, others_all P ssrc others h.1)
]

pub others_field : (P : ℕ → Type 0) (field : Participant → ℕ) (ssrc : ℕ) (joined : List Participant) → AllByRecursion P (map field joined) → AllByRecursion P (map field (others_than ssrc joined))
others_field P field ssrc [] h = tt
others_field P field ssrc (one ∷ others) h = elim (cases_Bool (one.ssrc == ssrc)) [
  | inl t ↦ rw t h.1
  | inr f ↦ rw f (h.0, others_field P field ssrc others h.1)
]

pub others_distinct : (field : Participant → ℕ) (ssrc : ℕ) (joined : List Participant) → IsDistinct nat_eq (map field joined) → IsDistinct nat_eq (map field (others_than ssrc joined))
unfolding IsDistinct
others_distinct field ssrc [] h = tt
others_distinct field ssrc (one ∷ others) h = elim (cases_Bool (one.ssrc == ssrc)) [
  | inl t ↦ rw t h.1
  | inr f ↦ rw f (others_field (λ key. nat_eq (field one) key ≡ false) field ssrc others h.0, others_distinct field ssrc others h.1)
]

pub others_length : (ssrc : ℕ) (joined : List Participant) → length (others_than ssrc joined) ≤ length joined
others_length ssrc [] = omega arith
others_length ssrc (one ∷ others) = elim (cases_Bool (one.ssrc == ssrc)) [
  | inl t ↦ rw t (omega arith)
  | inr f ↦ rw f (omega (arith, others_length ssrc others))
]

pub find_others : (ssrc other : ℕ) (joined : List Participant) → other ≢ ssrc → find_joined other (others_than ssrc joined) ≡ find_joined other joined
find_others ssrc other [] apart = refl
find_others ssrc other (first ∷ others) apart = elim (cases_Bool (first.ssrc == ssrc)) [
  | inl t ↦
      let same : first.ssrc ≡ ssrc = eqb-true first.ssrc ssrc t in
      let differs : (first.ssrc == other) ≡ false = grind (arith, nat_tests, same, apart) in
      rw (t, differs) refl
  | inr f ↦ let later = find_others ssrc other others apart in elim (cases_Bool (first.ssrc == other)) [ inl t ↦ rw (f, t) refl | inr n ↦ rw (f, n) later ]
]

-- ---- one that joins

pub member_push : (other : ℕ) (joined : List Participant) (one : Participant) → is_member other joined ≡ true → is_member other (joined ++ one ∷ []) ≡ true
member_push other [] one h = absurd cc
member_push other (first ∷ others) one h = elim (cases_Bool (first.ssrc == other)) [
  | inl t ↦ rw t refl
  | inr f ↦ let later : is_member other others ≡ true = rw f at h in rw f (member_push other others one later)
]

-- one that joins is found
pub find_push : (joined : List Participant) (one : Participant) → is_some (find_joined one.ssrc joined) ≡ false → find_joined one.ssrc (joined ++ one ∷ []) ≡ Some one
find_push [] one absent = let same : (one.ssrc == one.ssrc) ≡ true = nat_eq_equiv.refl one.ssrc in rw same refl
find_push (first ∷ others) one absent = elim (cases_Bool (first.ssrc == one.ssrc)) [
  | inl t ↦ let bad : true ≡ false = rw t at absent in absurd cc
  | inr f ↦ let later : is_some (find_joined one.ssrc others) ≡ false = rw f at absent in rw f (find_push others one later)
]

-- an SSRC that isn't found is none of theirs
pub ssrc_absent : (ssrc : ℕ) (joined : List Participant) → is_some (find_joined ssrc joined) ≡ false → list_any (nat_eq ssrc) (ssrcs_of joined) ≡ false
ssrc_absent ssrc [] h = refl
ssrc_absent ssrc (one ∷ others) h = elim (cases_Bool (one.ssrc == ssrc)) [
  | inl t ↦ let bad : true ≡ false = rw t at h in absurd cc
  | inr f ↦ let later : is_some (find_joined ssrc others) ≡ false = rw f at h in rw (nat_eq_equiv.symm ssrc one.ssrc, f) (ssrc_absent ssrc others later)
]

pub slot_absent : (slot : ℕ) (joined : List Participant) → has_slot joined slot ≡ false → list_any (nat_eq slot) (slots_of joined) ≡ false
slot_absent slot [] h = refl
slot_absent slot (one ∷ others) h = elim (cases_Bool (one.slot == slot)) [
  | inl t ↦ let bad : true ≡ false = rw t at h in absurd cc
  | inr f ↦ let later : has_slot others slot ≡ false = rw f at h in rw (nat_eq_equiv.symm slot one.slot, f) (slot_absent slot others later)
]

-- ---- a free slot

-- the participants that have this slot or a later one
abbrev pub slots_from : ℕ → List Participant → List Participant
slots_from slot joined = filter (λ one. nat_le slot one.slot) joined

slots_from_next : (slot : ℕ) (joined : List Participant) → length (slots_from (slot + 1) joined) ≤ length (slots_from slot joined)
slots_from_next slot [] = omega arith
slots_from_next slot (one ∷ others) =
    let rest = slots_from_next slot others in
    elim (cases_Bool (nat_le (slot + 1) one.slot)) [
      | inl t ↦ let too : nat_le slot one.slot ≡ true = grind (arith, nat_tests, t) in rw (t, too) (omega arith)
      | inr f ↦ elim (cases_Bool (nat_le slot one.slot)) [ inl t ↦ rw (f, t) (omega arith) | inr n ↦ rw (f, n) rest ]
    ]

-- where one has this slot, fewer have a later one
slots_from_taken : (slot : ℕ) (joined : List Participant) → has_slot joined slot ≡ true → length (slots_from (slot + 1) joined) < length (slots_from slot joined)
slots_from_taken slot [] h = absurd cc
slots_from_taken slot (one ∷ others) h = elim (cases_Bool (one.slot == slot)) [
  | inl t ↦
      let rest = slots_from_next slot others in
      let here : nat_le slot one.slot ≡ true = grind (arith, nat_tests, t) in
      let past : nat_le (slot + 1) one.slot ≡ false = grind (arith, nat_tests, t) in
      rw (here, past) (omega arith)
  | inr f ↦
      let later : has_slot others slot ≡ true = rw f at h in
      let rest = slots_from_taken slot others later in
      elim (cases_Bool (nat_le (slot + 1) one.slot)) [
        | inl t ↦ let too : nat_le slot one.slot ≡ true = grind (arith, nat_tests, t) in rw (t, too) (omega arith)
        | inr n ↦ elim (cases_Bool (nat_le slot one.slot)) [ inl t ↦ rw (n, t) (omega arith) | inr m ↦ rw (n, m) rest ]
      ]
]

slots_from_all : (joined : List Participant) → length (slots_from 0 joined) ≤ length joined
slots_from_all [] = omega arith
slots_from_all (one ∷ others) =
    let rest = slots_from_all others in
    elim (cases_Bool (nat_le 0 one.slot)) [ inl t ↦ rw t (omega arith) | inr f ↦ rw f (omega arith) ]

-- more slots are looked at than are taken, so a free one is found
free_from_free : (joined : List Participant) (left slot : ℕ) → length (slots_from slot joined) < left → (has_slot joined (free_from joined left slot) ≡ false) × (free_from joined left slot < slot + left)
unfolding free_from
free_from_free joined zero slot h = absurd (omega arith)
free_from_free joined (suc left) slot h = elim (cases_Bool (has_slot joined slot)) [
  | inl t ↦
      let fewer = slots_from_taken slot joined t in
      let later = free_from_free joined left (slot + 1) (omega arith) in
      rw t (later.0, omega (arith, later.1))
  | inr f ↦ let below : slot < slot + suc left = omega arith in rw f (f, below)
]

-- where fewer than 32 are joined, the free slot is one of 32 and nobody's
pub free_slot_free : (joined : List Participant) → length joined < 32 → (has_slot joined (free_slot joined) ≡ false) × (free_slot joined < 32)
free_slot_free joined few =
    let all = slots_from_all joined in
    let free = free_from_free joined 32 0 (omega arith) in
    (free.0, omega (arith, free.1))
