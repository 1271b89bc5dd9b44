-- Chapters with one log at most: what is written is read.
use Rattle.std.proofs.Common.{◌≡◌, ℕ, ◌<◌, Bool, true, false, List, [], ◌∷◌, ◌++◌, length, length-append, append-nil, Some, ltb, leb, refl, arith, inl, inr}
use Rattle.std.specs.List.{flat_map, AllByRecursion}
use Rattle.std.proofs.lemmas.Bool.{cases_Bool, lt-ltb}
use Rattle.jm_cmds.specs.History.{Unended, standing}
use Rattle.jm_cmds.specs.HistoryLaws.{AllByRecursion-filter, AllByRecursion-standing}
use Rattle.jm_cmds.specs.History.{coded, below}
use Rattle.jm_cmds.specs.OneItem.{replaced}
use Rattle.jm_cmds.specs.declared.history.Sent.{Sent}
use Rattle.jm_cmds.specs.Sent.{packet_of}
use Rattle.jm_journal.specs.Channel.{is_there}
use Rattle.jm_reader.specs.declared.logs.Log.{Log}
use Rattle.jm_reader.specs.Chapter.{Chapter}

-- What each place of such a chapter says: `item` where it has a log, `text` its octets, `said` what they say; and each
-- place that ends an item `touches` it.
pub record SaysOne {X : Type 0} (P : X → Type 0) (item touches : X → Bool) (text : X → List ℕ) (said : X → List Log) (read : List ℕ → Chapter) : Type 0 where
  pub silent : (x : X) → item x ≡ false → text x ≡ []
  pub unsaid : (x : X) → item x ≡ false → said x ≡ []
  pub told : (x : X) → item x ≡ true → 0 < length (text x)
  pub again : (x : X) (rest : List ℕ) → P x → item x ≡ true → read (text x ++ rest) ≡ Some (said x, length (text x))
  pub touching : (x : X) → touches x ≡ false → item x ≡ false

none_later : {X : Type 0} (P : X → Type 0) (item touches : X → Bool) (text : X → List ℕ) (said : X → List Log) (read : List ℕ → Chapter) → SaysOne P item touches text said read →
    (x : X) (xs : List X) → item x ≡ true → AllByRecursion (λ y. replaced item touches x y ≡ false) xs → (flat_map text xs ≡ []) × (flat_map said xs ≡ [])
none_later P item touches text said read s x [] i h = (refl, refl)
none_later P item touches text said read s x (y ∷ ys) i h =
    let t : touches y ≡ false = rw i at h.0 in
    let none = s.touching y t in
    rw (s.silent y none, s.unsaid y none) (none_later P item touches text said read s x ys i h.1)

pub one_again : {X : Type 0} (P : X → Type 0) (item touches : X → Bool) (text : X → List ℕ) (said : X → List Log) (read : List ℕ → Chapter) → SaysOne P item touches text said read →
    (xs : List X) → Unended (replaced item touches) xs → AllByRecursion P xs → is_there (flat_map text xs) ≡ true → (rest : List ℕ) →
    read (flat_map text xs ++ rest) ≡ Some (flat_map said xs, length (flat_map text xs))
one_again P item touches text said read s [] u h there rest = absurd (let f : false ≡ true = there in cc)
one_again P item touches text said read s (x ∷ xs) u h there rest =
    elim (cases_Bool (item x)) [
      | inl i ↦
          let none = none_later P item touches text said read s x xs i u.0 in
          rw (none.0, none.1, append-nil (text x), append-nil (said x)) (s.again x rest h.0 i)
      | inr n ↦
          let later : is_there (flat_map text xs) ≡ true = rw (s.silent x n) at there in
          rw (s.silent x n, s.unsaid x n) (one_again P item touches text said read s xs u.1 h.1 later rest)
    ]

pub one_none : {X : Type 0} (P : X → Type 0) (item touches : X → Bool) (text : X → List ℕ) (said : X → List Log) (read : List ℕ → Chapter) → SaysOne P item touches text said read →
    (xs : List X) → is_there (flat_map text xs) ≡ false → flat_map said xs ≡ []
one_none P item touches text said read s [] e = refl
one_none P item touches text said read s (x ∷ xs) e =
    elim (cases_Bool (item x)) [
      | inl i ↦
          let some = s.told x i in
          let there : is_there (text x ++ flat_map text xs) ≡ true = lt-ltb 0 (length (text x ++ flat_map text xs)) (omega (arith, some, length-append (text x) (flat_map text xs))) in
          absurd cc
      | inr n ↦
          let later : is_there (flat_map text xs) ≡ false = rw (s.silent x n) at e in
          rw (s.unsaid x n) (one_none P item touches text said read s xs later)
    ]

-- what holds of all places holds of the coded ones, and of those before a packet
pub all_coded : {X : Type 0} (P : X → Type 0) (ends : X → X → Bool) (at : X → ℕ) (checkpoint : ℕ) (xs : List X) → AllByRecursion P xs → AllByRecursion P (coded ends at checkpoint xs)
all_coded P ends at checkpoint xs h = AllByRecursion-filter P (λ x. leb checkpoint (at x)) (standing ends xs) (AllByRecursion-standing P ends xs h)

pub all_below : (P : Sent → Type 0) (packet : ℕ) (sent : List Sent) → AllByRecursion P sent → AllByRecursion P (below packet_of packet sent)
all_below P packet sent h = AllByRecursion-filter P (λ x. ltb (packet_of x) packet) sent h
