-- Which lists of steps can come about: each step is one that the answers after the steps before it take.
use Rattle.std.specs.Prelude.{ℕ, ◌≡◌, Bool, true, List, [], ◌∷◌, ◌++◌}
use Rattle.jm_book.specs.declared.steps.Config.{Config}
use Rattle.jm_book.specs.declared.steps.Step.{Step}
use Rattle.jm_book.specs.declared.steps.Step.TheVariants.{Enter, Play, Cut, Ack, Join, Leave, Hear, Feedback, Say}
use Rattle.jm_book.specs.Session.{Session, session_of, after, nothing}
use Rattle.jm_book.specs.Answers.{enter_in, play_in, cut_in, ack_in, join_in, leave_in, hear_in, feedback_in, say_in, is_entered, is_accepted, is_packet, is_moved, is_joined, is_left, is_noted, is_given, is_said}
use Rattle.jm_book.specs.BookAnswers.{has_room}

-- whether a step is taken in a session
abbrev pub takes : (room : Bool) (events : ℕ) → Session → Step → Bool
takes room events session Enter = is_entered (enter_in room events session)
takes room events session (Play player command tick) = is_accepted (play_in room events session player command tick)
takes room events session (Cut tick) = is_packet (cut_in room events session)
takes room events session (Ack ssrc seq) = is_moved (ack_in room events session ssrc seq)
takes room events session (Join ssrc) = is_joined (join_in room events session ssrc)
takes room events session (Leave ssrc) = is_left (leave_in room events session ssrc)
takes room events session (Hear ssrc seq) = is_noted (hear_in room events session ssrc)
takes room events session Feedback = is_given (feedback_in room events session)
takes room events session (Say port from message now) = is_said (say_in room events session port from message now)

-- ---- with room at each step

-- the step is taken where there is room for it
abbrev pub IsTakenIn : (events : ℕ) → Session → Step → Type 0
IsTakenIn events session step = takes true events session step ≡ true

-- steps are taken, one after another, from this session on
abbrev pub AreTakenFrom : (events : ℕ) → Session → List Step → Type 0
AreTakenFrom events session [] = Unit {0}
AreTakenFrom events session (step ∷ steps) = IsTakenIn events session step × AreTakenFrom events (after session step) steps

-- each step is taken after the steps before it, as if there were room at each
abbrev pub IsLegalWithRoom : Config → List Step → Type 0
IsLegalWithRoom config steps = AreTakenFrom config.events (nothing config) steps

-- ---- with the tape's length

-- a step is taken after these steps
abbrev pub IsTaken : Config → List Step → Step → Type 0
IsTaken config before step = takes (has_room config before) config.events (session_of config before) step ≡ true

-- steps are taken, one after another, after those before
abbrev pub AreTaken : Config → (before steps : List Step) → Type 0
AreTaken config before [] = Unit {0}
AreTaken config before (step ∷ steps) = IsTaken config before step × AreTaken config (before ++ step ∷ []) steps

-- each step is taken after the steps before it
abbrev pub IsLegal : Config → List Step → Type 0
IsLegal config steps = AreTaken config [] steps
