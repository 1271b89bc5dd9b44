-- Legal lists of steps: their fronts are legal, and what each taken step keeps holds of them.
use Rattle.std.proofs.Common.{◌≡◌, refl, Bool, true, false, List, [], ◌∷◌, ◌++◌, append_assoc, append-nil}
use Rattle.jm_book.specs.declared.steps.Config.{Config}
use Rattle.jm_book.specs.declared.steps.Step.{Step}
use Rattle.jm_book.specs.Book.{Told, Takes}
use Rattle.jm_book.specs.Legal.{IsTaken, AreTaken, IsLegal}

pub taken_push : (config : Config) (before steps : List Step) (step : Step) → AreTaken config before steps → IsTaken config (before ++ steps) step → AreTaken config before (steps ++ step ∷ [])
taken_push config before [] step h taken = (rw (append-nil before) at taken, tt)
taken_push config before (first ∷ steps) step h taken =
    (h.0, taken_push config (before ++ first ∷ []) steps step h.1 (rw (append_assoc before (first ∷ []) steps) taken))

-- one more taken step keeps a list legal
pub legal_push : (config : Config) (steps : List Step) (step : Step) → IsLegal config steps → IsTaken config steps step → IsLegal config (steps ++ step ∷ [])
legal_push config steps step h taken = taken_push config [] steps step h taken

pub taken_apart : (config : Config) (before steps more : List Step) → AreTaken config before (steps ++ more) → AreTaken config before steps × AreTaken config (before ++ steps) more
taken_apart config before [] more h = (tt, rw (append-nil before) h)
taken_apart config before (first ∷ steps) more h =
    let apart = taken_apart config (before ++ first ∷ []) steps more h.1 in
    ((h.0, apart.0), rw (append_assoc before (first ∷ []) steps) at apart.1)

-- a legal list has a legal front, and the last step is taken after it
pub legal_pop : (config : Config) (steps : List Step) (step : Step) → IsLegal config (steps ++ step ∷ []) → IsLegal config steps × IsTaken config steps step
legal_pop config steps step h = let apart = taken_apart config [] steps (step ∷ []) h in (apart.0, apart.1.0)

-- what each taken step keeps is kept by taken steps
pub taken_keeps : (config : Config) (P : List Step → Type 0) → ((steps : List Step) (step : Step) → P steps → IsTaken config steps step → P (steps ++ step ∷ [])) → (before steps : List Step) → P before → AreTaken config before steps → P (before ++ steps)
taken_keeps config P more before [] p h = rw (append-nil before) p
taken_keeps config P more before (step ∷ steps) p h =
    rw (append_assoc before (step ∷ []) steps) at (taken_keeps config P more (before ++ step ∷ []) steps (more before step p h.0) h.1)

pub legal_keeps : (config : Config) (P : List Step → Type 0) → ((steps : List Step) (step : Step) → P steps → IsTaken config steps step → P (steps ++ step ∷ [])) → P [] → (steps : List Step) → IsLegal config steps → P steps
legal_keeps config P more none steps h = taken_keeps config P more [] steps none h

-- a call that takes just steps that are taken keeps a book's steps legal
pub call_keeps_legal : (old new : Told) (step : Step) (taken : Bool) → (taken ≡ true → IsTaken old.config old.steps step) → Takes old new taken step → IsLegal old.config old.steps → IsLegal new.config new.steps
call_keeps_legal old new step true is call legal = rw (call.config, call.steps) (legal_push old.config old.steps step legal (is refl))
call_keeps_legal old new step false is call legal = rw (call.config, call.steps) legal
