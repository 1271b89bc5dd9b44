-- A buffer of octets, and what each writer does to one.
use Rattle.std.specs.Prelude.{◌≡◌, ℕ, ◌+◌, List, [], ◌++◌, length}
use Rattle.std.proofs.Common.{refl, sym, ap, ◌∙◌, append_assoc, arith, length-append}
use Rattle.std.proofs.lemmas.List.{append-nil}

-- the octets of a buffer, and how many more it takes
pub record Filled : Type 0 where
  pub octets : List ℕ
  pub spare : ℕ

-- a writer appended this text, and took its room
pub record Appends (old new : Filled) (text : List ℕ) : Type 0 where
  pub octets : new.octets ≡ old.octets ++ text
  pub spare : old.spare ≡ new.spare + length text

-- what two writers append one after the other
pub joined : {a b c : Filled} {x y : List ℕ} → Appends a b x → Appends b c y → Appends a c (x ++ y)
joined {a} {b} {c} {x} {y} first second = record {
  octets = second.octets ∙ ap (λ (t : List ℕ). t ++ y) first.octets ∙ append_assoc a.octets x y;
  spare = omega (arith, length-append x y, first.spare, second.spare);
}

-- a buffer that nothing was appended to
pub unchanged : (a : Filled) → Appends a a []
unchanged a = record { octets = sym (append-nil a.octets); spare = omega arith }

-- a writer that is to append text, and has rest of it still to append
pub record Owes (start now : Filled) (text rest : List ℕ) : Type 0 where
  pub octets : now.octets ++ rest ≡ start.octets ++ text
  pub spare : start.spare + length rest ≡ now.spare + length text

pub owes_all : (a : Filled) (text : List ℕ) → Owes a a text text
owes_all a text = record { octets = refl; spare = refl }

pub owes_less : {a b c : Filled} {text x rest : List ℕ} → Owes a b text (x ++ rest) → Appends b c x → Owes a c text rest
owes_less {a} {b} {c} {text} {x} {rest} owed written = record {
  octets = ap (λ (t : List ℕ). t ++ rest) written.octets ∙ append_assoc b.octets x rest ∙ owed.octets;
  spare = omega (arith, length-append x rest, owed.spare, written.spare);
}

pub owes_nothing : {a b : Filled} {text : List ℕ} → Owes a b text [] → Appends a b text
owes_nothing {a} {b} {text} owed = record {
  octets = sym (append-nil b.octets) ∙ owed.octets;
  spare = omega (arith, owed.spare);
}
