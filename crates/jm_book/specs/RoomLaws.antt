-- Steps that are taken where there is room, and no more than the tape takes, are legal.
use Rattle.std.proofs.Common.{◌+◌, ◌<◌, ◌≤◌, ◌≡◌, sym, subst, true, List, [], ◌∷◌, ◌++◌, length, length-append, arith}
use Rattle.std.proofs.lemmas.Bool.Decides.{nat_tests}
use Rattle.jm_book.specs.declared.steps.Config.{Config}
use Rattle.jm_book.specs.declared.steps.Step.{Step}
use Rattle.jm_book.specs.Session.{Session, session_of}
use Rattle.jm_book.specs.BookAnswers.{has_room}
use Rattle.jm_book.specs.Legal.{AreTakenFrom, AreTaken}
use Rattle.jm_book.specs.LegalJoined.{legal_fits}
use Rattle.jm_book.specs.StepLaws.{session_push}
use Rattle.jm_book.specs.TakenLaws.{taken_in}
use Rattle.jm_book.specs.MembersConduct.{IsLegalByRoom}

taken_with_room : (config : Config) (before steps : List Step) → AreTaken config before steps → AreTakenFrom config.events (session_of config before) steps
taken_with_room config before [] h = tt
taken_with_room config before (step ∷ steps) h =
    (taken_in config before step h.0, subst (λ (s : Session). AreTakenFrom config.events s steps) (session_push config before step) (taken_with_room config (before ++ step ∷ []) steps h.1))

taken_on_tape : (config : Config) (before steps : List Step) → length before + length steps ≤ config.events → AreTakenFrom config.events (session_of config before) steps → AreTaken config before steps
taken_on_tape config before [] fits h = tt
taken_on_tape config before (step ∷ steps) fits h =
    let more : length (before ++ step ∷ []) ≡ length before + 1 = length-append before (step ∷ []) in
    let below : length before < config.events = omega arith in
    let room : has_room config before ≡ true = grind (arith, nat_tests, below) in
    let next = subst (λ (s : Session). AreTakenFrom config.events s steps) (sym (session_push config before step)) h.1 in
    (rw room h.0, taken_on_tape config (before ++ step ∷ []) steps (omega arith) next)

pub is_legal_by_room : IsLegalByRoom
is_legal_by_room config steps = (
  λ legal. (taken_with_room config [] steps legal, legal_fits config steps legal),
  λ taken fits. taken_on_tape config [] steps (omega arith) taken,
)
