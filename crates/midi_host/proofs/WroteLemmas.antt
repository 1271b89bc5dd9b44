-- Pieces of a text that are written one after another.
use Rattle.std.proofs.Common.{ℕ, ◌+◌, ◌≤◌, List, [], ◌++◌, length, take, drop, refl, sym, append_assoc}
use Rattle.std.proofs.lemmas.List.{append-nil, take_all, take-append-drop}
use Rattle.std.proofs.Math.Seq.{take-add}
use Rattle.std.specs.declared.option.Option.{Option}
use Rattle.std.specs.declared.option.Option.TheVariants.{None, Some}
use Rattle.midi_host.specs.Wrote.{Wrote, WrotePart}

-- nothing was written
pub Wrote-none : (old : Option (List ℕ)) → Wrote old old []
Wrote-none None = refl
Wrote-none (Some text) = rw (append-nil text) refl

-- one text after another
pub Wrote-next : (old mid new : Option (List ℕ)) (xs ys : List ℕ) → Wrote old mid xs → Wrote mid new ys → Wrote old new (xs ++ ys)
Wrote-next None mid new xs ys f g = rw (g, f) refl
Wrote-next (Some text) mid new xs ys f g = rw (g, f, append_assoc text xs ys) refl

-- a text, and a front of one after it
pub WrotePart-next : (old mid new : Option (List ℕ)) (xs ys : List ℕ) → Wrote old mid xs → WrotePart mid new ys → WrotePart old new (xs ++ ys)
WrotePart-next old mid new xs ys f g = record {
  front = xs ++ g.front;
  rest = g.rest;
  split = rw g.split (sym (append_assoc xs g.front g.rest));
  wrote = Wrote-next old mid new xs g.front f g.wrote;
}

-- the same, and more that wasn't written
pub WrotePart-more : (old mid new : Option (List ℕ)) (xs ys zs : List ℕ) → Wrote old mid xs → WrotePart mid new ys → WrotePart old new (xs ++ (ys ++ zs))
WrotePart-more old mid new xs ys zs f g = record {
  front = xs ++ g.front;
  rest = g.rest ++ zs;
  split = rw g.split (simp append_assoc refl);
  wrote = Wrote-next old mid new xs g.front f g.wrote;
}

pub WrotePart-front : (old new : Option (List ℕ)) (xs ys : List ℕ) → Wrote old new xs → WrotePart old new (xs ++ ys)
WrotePart-front old new xs ys f = record { front = xs; rest = ys; split = refl; wrote = f }

-- one more piece of a text
pub Wrote-piece : (old mid new : Option (List ℕ)) (text : List ℕ) (at count : ℕ) → Wrote old mid (take at text) → Wrote mid new (take count (drop at text)) → Wrote old new (take (at + count) text)
Wrote-piece old mid new text at count f g = rw (take-add at count text) (Wrote-next old mid new (take at text) (take count (drop at text)) f g)

pub Wrote-whole : (old new : Option (List ℕ)) (text : List ℕ) (at : ℕ) → length text ≤ at → Wrote old new (take at text) → Wrote old new text
Wrote-whole old new text at h f = rw (take_all at text h) at f

pub WrotePart-take : (old new : Option (List ℕ)) (text : List ℕ) (at : ℕ) → Wrote old new (take at text) → WrotePart old new text
WrotePart-take old new text at f = record { front = take at text; rest = drop at text; split = sym (take-append-drop at text); wrote = f }
