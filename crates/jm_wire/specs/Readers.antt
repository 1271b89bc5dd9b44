-- Reading one thing behind another.
use Rattle.std.specs.Prelude.{Result, Ok, Err}

-- what is read next, unless there was a fault before it: the first fault is the one that is told
infixl 10 ◌>>=◌
abbrev pub ◌>>=◌ : {A B F : Type 0} → Result A F → (A → Result B F) → Result B F
(Ok x) >>= f = f x
(Err e) >>= f = Err e
