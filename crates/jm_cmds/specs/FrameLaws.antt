-- What quarter frames spell: a word of 32 bits, of which each frame has one nibble.
use Rattle.std.proofs.Common.{◌≡◌, ℕ, zero, suc, ◌-◌, ◌/◌, ◌%◌, ◌^◌, ◌<◌, Bool, true, false, ◌&&◌, cond, eqb, Option, Some, None, refl, sym, ◌∙◌, arith, inl, inr, subst}
use Rattle.std.specs.Option.{is_some}
use Rattle.std.proofs.lemmas.Bool.{cases_Bool, eqb-true, eqb-false, ne_eqb}
use Rattle.jm_cmds.specs.declared.frames.TimePart.{TimePart}
use Rattle.jm_cmds.specs.Frames.{nibble_weight, nibble_at, set_nibble, restarted, advanced, is_next, framed_on, framed}

-- the nibble of a type, of which type 0 has the high end
abbrev pub nibble_of : (word kind : ℕ) → ℕ
nibble_of word kind = word / 16 ^ (7 - kind) % 16

-- a word that differs from this one in the nibble of this type alone
pub record SetsNibble (kind nibble word after : ℕ) : Type 0 where
  pub own : nibble_of after kind ≡ nibble
  pub others : (other : ℕ) → other < 8 → (other ≡ kind → ⊥) → nibble_of after other ≡ nibble_of word other
  pub bits : after < 2 ^ 32

-- whether a frame of this type goes on with the word that is being spelled
abbrev pub goes_on : (kind : ℕ) → TimePart → Bool
goes_on kind code = is_some code.partial && is_next kind code

-- the type that ends a word
abbrev pub last_kind : TimePart → ℕ
last_kind code = cond code.backward 0 7

-- A frame that goes on with this word sets its own nibble. The last one makes the word complete.
pub record GoesOn (kind nibble word : ℕ) (code after : TimePart) : Type 0 where
  pub spelled : ℕ
  pub sets : SetsNibble kind nibble word spelled
  pub last : kind ≡ last_kind code → (after.complete ≡ Some spelled) × (after.partial ≡ None)
  pub between : (kind ≡ last_kind code → ⊥) → (after.complete ≡ code.complete) × (after.partial ≡ Some spelled)
  pub point : after.point ≡ kind
  pub backward : after.backward ≡ code.backward

-- A frame that begins anew leaves the other nibbles 0.
pub record BeginsAnew (kind nibble : ℕ) (code after : TimePart) : Type 0 where
  pub spelled : ℕ
  pub sets : SetsNibble kind nibble 0 spelled
  pub partial : after.partial ≡ Some spelled
  pub complete : after.complete ≡ code.complete
  pub point : after.point ≡ kind

-- Any other frame takes the partial word away.
pub record TakesAway (code after : TimePart) : Type 0 where
  pub partial : after.partial ≡ None
  pub complete : after.complete ≡ code.complete
  pub backward : after.backward ≡ code.backward
  pub point : after.point ≡ cond code.backward 0 7

pub record FramesSpell : Type 0 where
  pub next : (kind nibble word : ℕ) (code : TimePart) → kind < 8 → nibble < 16 → word < 2 ^ 32 → code.partial ≡ Some word → goes_on kind code ≡ true → GoesOn kind nibble word code (framed kind nibble code)
  pub forward : (nibble : ℕ) (code : TimePart) → nibble < 16 → goes_on 0 code ≡ false → BeginsAnew 0 nibble code (framed 0 nibble code) × ((framed 0 nibble code).backward ≡ false)
  pub backward : (nibble : ℕ) (code : TimePart) → nibble < 16 → goes_on 7 code ≡ false → BeginsAnew 7 nibble code (framed 7 nibble code) × ((framed 7 nibble code).backward ≡ true)
  pub other : (kind nibble : ℕ) (code : TimePart) → (kind ≡ 0 → ⊥) → (kind ≡ 7 → ⊥) → goes_on kind code ≡ false → TakesAway code (framed kind nibble code)

-- ## Each of the eight types

below8 : (P : ℕ → Type 0) → P 0 → P 1 → P 2 → P 3 → P 4 → P 5 → P 6 → P 7 → (n : ℕ) → n < 8 → P n
below8 P p0 p1 p2 p3 p4 p5 p6 p7 zero l = p0
below8 P p0 p1 p2 p3 p4 p5 p6 p7 (suc zero) l = p1
below8 P p0 p1 p2 p3 p4 p5 p6 p7 (suc (suc zero)) l = p2
below8 P p0 p1 p2 p3 p4 p5 p6 p7 (suc (suc (suc zero))) l = p3
below8 P p0 p1 p2 p3 p4 p5 p6 p7 (suc (suc (suc (suc zero)))) l = p4
below8 P p0 p1 p2 p3 p4 p5 p6 p7 (suc (suc (suc (suc (suc zero))))) l = p5
below8 P p0 p1 p2 p3 p4 p5 p6 p7 (suc (suc (suc (suc (suc (suc zero)))))) l = p6
below8 P p0 p1 p2 p3 p4 p5 p6 p7 (suc (suc (suc (suc (suc (suc (suc zero))))))) l = p7
below8 P p0 p1 p2 p3 p4 p5 p6 p7 (suc (suc (suc (suc (suc (suc (suc (suc n)))))))) l = absurd (omega arith)

others0 : (nibble word other : ℕ) → nibble < 16 → other < 8 → (other ≡ 0 → ⊥) → nibble_of (nibble_at word nibble 268435456) other ≡ nibble_of word other
others0 nibble word other h l apart =
    below8 (λ j. (j ≡ 0 → ⊥) → nibble_of (nibble_at word nibble 268435456) j ≡ nibble_of word j)
    (λ n. absurd (n refl)) (λ n. omega (arith, h)) (λ n. omega (arith, h)) (λ n. omega (arith, h)) (λ n. omega (arith, h)) (λ n. omega (arith, h)) (λ n. omega (arith, h)) (λ n. omega (arith, h)) other l apart

others1 : (nibble word other : ℕ) → nibble < 16 → other < 8 → (other ≡ 1 → ⊥) → nibble_of (nibble_at word nibble 16777216) other ≡ nibble_of word other
others1 nibble word other h l apart =
    below8 (λ j. (j ≡ 1 → ⊥) → nibble_of (nibble_at word nibble 16777216) j ≡ nibble_of word j)
    (λ n. omega (arith, h)) (λ n. absurd (n refl)) (λ n. omega (arith, h)) (λ n. omega (arith, h)) (λ n. omega (arith, h)) (λ n. omega (arith, h)) (λ n. omega (arith, h)) (λ n. omega (arith, h)) other l apart

others2 : (nibble word other : ℕ) → nibble < 16 → other < 8 → (other ≡ 2 → ⊥) → nibble_of (nibble_at word nibble 1048576) other ≡ nibble_of word other
others2 nibble word other h l apart =
    below8 (λ j. (j ≡ 2 → ⊥) → nibble_of (nibble_at word nibble 1048576) j ≡ nibble_of word j)
    (λ n. omega (arith, h)) (λ n. omega (arith, h)) (λ n. absurd (n refl)) (λ n. omega (arith, h)) (λ n. omega (arith, h)) (λ n. omega (arith, h)) (λ n. omega (arith, h)) (λ n. omega (arith, h)) other l apart

others3 : (nibble word other : ℕ) → nibble < 16 → other < 8 → (other ≡ 3 → ⊥) → nibble_of (nibble_at word nibble 65536) other ≡ nibble_of word other
others3 nibble word other h l apart =
    below8 (λ j. (j ≡ 3 → ⊥) → nibble_of (nibble_at word nibble 65536) j ≡ nibble_of word j)
    (λ n. omega (arith, h)) (λ n. omega (arith, h)) (λ n. omega (arith, h)) (λ n. absurd (n refl)) (λ n. omega (arith, h)) (λ n. omega (arith, h)) (λ n. omega (arith, h)) (λ n. omega (arith, h)) other l apart

others4 : (nibble word other : ℕ) → nibble < 16 → other < 8 → (other ≡ 4 → ⊥) → nibble_of (nibble_at word nibble 4096) other ≡ nibble_of word other
others4 nibble word other h l apart =
    below8 (λ j. (j ≡ 4 → ⊥) → nibble_of (nibble_at word nibble 4096) j ≡ nibble_of word j)
    (λ n. omega (arith, h)) (λ n. omega (arith, h)) (λ n. omega (arith, h)) (λ n. omega (arith, h)) (λ n. absurd (n refl)) (λ n. omega (arith, h)) (λ n. omega (arith, h)) (λ n. omega (arith, h)) other l apart

others5 : (nibble word other : ℕ) → nibble < 16 → other < 8 → (other ≡ 5 → ⊥) → nibble_of (nibble_at word nibble 256) other ≡ nibble_of word other
others5 nibble word other h l apart =
    below8 (λ j. (j ≡ 5 → ⊥) → nibble_of (nibble_at word nibble 256) j ≡ nibble_of word j)
    (λ n. omega (arith, h)) (λ n. omega (arith, h)) (λ n. omega (arith, h)) (λ n. omega (arith, h)) (λ n. omega (arith, h)) (λ n. absurd (n refl)) (λ n. omega (arith, h)) (λ n. omega (arith, h)) other l apart

others6 : (nibble word other : ℕ) → nibble < 16 → other < 8 → (other ≡ 6 → ⊥) → nibble_of (nibble_at word nibble 16) other ≡ nibble_of word other
others6 nibble word other h l apart =
    below8 (λ j. (j ≡ 6 → ⊥) → nibble_of (nibble_at word nibble 16) j ≡ nibble_of word j)
    (λ n. omega (arith, h)) (λ n. omega (arith, h)) (λ n. omega (arith, h)) (λ n. omega (arith, h)) (λ n. omega (arith, h)) (λ n. omega (arith, h)) (λ n. absurd (n refl)) (λ n. omega (arith, h)) other l apart

others7 : (nibble word other : ℕ) → nibble < 16 → other < 8 → (other ≡ 7 → ⊥) → nibble_of (nibble_at word nibble 1) other ≡ nibble_of word other
others7 nibble word other h l apart =
    below8 (λ j. (j ≡ 7 → ⊥) → nibble_of (nibble_at word nibble 1) j ≡ nibble_of word j)
    (λ n. omega (arith, h)) (λ n. omega (arith, h)) (λ n. omega (arith, h)) (λ n. omega (arith, h)) (λ n. omega (arith, h)) (λ n. omega (arith, h)) (λ n. omega (arith, h)) (λ n. absurd (n refl)) other l apart

SetsAt : (nibble word kind : ℕ) → Type 0
SetsAt nibble word kind = SetsNibble kind nibble word (nibble_at word nibble (nibble_weight kind))

sets : (nibble word kind : ℕ) → nibble < 16 → word < 2 ^ 32 → kind < 8 → SetsNibble kind nibble word (set_nibble word kind nibble)
unfolding set_nibble SetsAt
sets nibble word kind h w l =
    below8 (SetsAt nibble word)
    (record { own = omega (arith, h); others = λ j m n. others0 nibble word j h m n; bits = omega (arith, h, w) })
    (record { own = omega (arith, h); others = λ j m n. others1 nibble word j h m n; bits = omega (arith, h, w) })
    (record { own = omega (arith, h); others = λ j m n. others2 nibble word j h m n; bits = omega (arith, h, w) })
    (record { own = omega (arith, h); others = λ j m n. others3 nibble word j h m n; bits = omega (arith, h, w) })
    (record { own = omega (arith, h); others = λ j m n. others4 nibble word j h m n; bits = omega (arith, h, w) })
    (record { own = omega (arith, h); others = λ j m n. others5 nibble word j h m n; bits = omega (arith, h, w) })
    (record { own = omega (arith, h); others = λ j m n. others6 nibble word j h m n; bits = omega (arith, h, w) })
    (record { own = omega (arith, h); others = λ j m n. others7 nibble word j h m n; bits = omega (arith, h, w) })
    kind l

-- ## What a frame does

restart_on : (kind nibble : ℕ) (code : TimePart) (partial : Option ℕ) → (is_some partial && is_next kind code) ≡ false → framed_on kind nibble code partial ≡ restarted kind nibble code
restart_on kind nibble code None e = refl
restart_on kind nibble code (Some word) e = rw e refl

advances : (kind nibble word : ℕ) (code : TimePart) → kind < 8 → nibble < 16 → word < 2 ^ 32 → GoesOn kind nibble word code (advanced kind nibble word code)
advances kind nibble word code k h w =
    elim (cases_Bool (eqb kind (last_kind code))) [
      | inl t ↦ rw t (record {
        spelled = set_nibble word kind nibble;
        sets = sets nibble word kind h w k;
        last = λ e. (refl, refl);
        between = λ n. absurd (n (eqb-true kind (last_kind code) t));
        point = refl;
        backward = refl;
      })
      | inr f ↦ rw f (record {
        spelled = set_nibble word kind nibble;
        sets = sets nibble word kind h w k;
        last = λ e. absurd (eqb-false kind (last_kind code) f e);
        between = λ n. (refl, refl);
        point = refl;
        backward = refl;
      })
    ]

next_spells : (kind nibble word : ℕ) (code : TimePart) → kind < 8 → nibble < 16 → word < 2 ^ 32 → code.partial ≡ Some word → goes_on kind code ≡ true → GoesOn kind nibble word code (framed kind nibble code)
next_spells kind nibble word code k h w p g =
    let n : is_next kind code ≡ true = rw p at g in
    let step : framed kind nibble code ≡ advanced kind nibble word code = rw (p, n) refl in
    subst (λ (after : TimePart). GoesOn kind nibble word code after) (sym step) (advances kind nibble word code k h w)

forward_begins : (nibble : ℕ) (code : TimePart) → nibble < 16 → goes_on 0 code ≡ false → BeginsAnew 0 nibble code (framed 0 nibble code) × ((framed 0 nibble code).backward ≡ false)
forward_begins nibble code h g =
    subst (λ (after : TimePart). BeginsAnew 0 nibble code after × (after.backward ≡ false)) (sym (restart_on 0 nibble code code.partial g))
    (record { spelled = set_nibble 0 0 nibble; sets = sets nibble 0 0 h (omega arith) (omega arith); partial = refl; complete = refl; point = refl }, refl)

backward_begins : (nibble : ℕ) (code : TimePart) → nibble < 16 → goes_on 7 code ≡ false → BeginsAnew 7 nibble code (framed 7 nibble code) × ((framed 7 nibble code).backward ≡ true)
backward_begins nibble code h g =
    subst (λ (after : TimePart). BeginsAnew 7 nibble code after × (after.backward ≡ true)) (sym (restart_on 7 nibble code code.partial g))
    (record { spelled = set_nibble 0 7 nibble; sets = sets nibble 0 7 h (omega arith) (omega arith); partial = refl; complete = refl; point = refl }, refl)

other_takes : (kind nibble : ℕ) (code : TimePart) → (kind ≡ 0 → ⊥) → (kind ≡ 7 → ⊥) → goes_on kind code ≡ false → TakesAway code (framed kind nibble code)
other_takes kind nibble code zero_apart seven_apart g =
    let step : framed kind nibble code ≡ record code { partial = None; point = cond code.backward 0 7 } =
    restart_on kind nibble code code.partial g ∙ rw (ne_eqb kind 0 zero_apart, ne_eqb kind 7 seven_apart) refl
    in
    subst (λ (after : TimePart). TakesAway code after) (sym step) (record { partial = refl; complete = refl; backward = refl; point = refl })

pub frames_spell : FramesSpell
frames_spell = record { next = next_spells; forward = forward_begins; backward = backward_begins; other = other_takes }
