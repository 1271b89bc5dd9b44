-- Marks and commands woven together, with one more at the end of each.
use Rattle.std.proofs.Common.{ℕ, ◌+◌, ◌≡◌, ◌≤◌, List, [], ◌∷◌, ◌++◌, length, refl, ap, arith}
use Rattle.jm_cmds.specs.declared.history.Sent.{Sent}
use Rattle.jm_book.specs.declared.steps.Step.TheVariants as step
use Rattle.jm_book.specs.declared.tape.Bare.{Bare}
use Rattle.jm_book.specs.declared.tape.Bare.TheVariants as bare
use Rattle.jm_book.specs.declared.tape.Mark.{Mark}
use Rattle.jm_book.specs.declared.tape.Mark.TheVariants.{Play, Other}
use Rattle.jm_book.specs.Commands.{HasCommand, HaveCommands, AreCommands}
use Rattle.jm_book.specs.Tape.{bare_step, woven, plays}

pub plays_push_other : (marks : List Mark) (bare : Bare) → plays (marks ++ Other bare ∷ []) ≡ plays marks
plays_push_other [] bare = refl
plays_push_other (Other one ∷ marks) bare = plays_push_other marks bare
plays_push_other (Play player tick ∷ marks) bare = ap (λ n. n + 1) (plays_push_other marks bare)

pub plays_push_play : (marks : List Mark) (player tick : ℕ) → plays (marks ++ Play player tick ∷ []) ≡ plays marks + 1
plays_push_play [] player tick = refl
plays_push_play (Other one ∷ marks) player tick = plays_push_play marks player tick
plays_push_play (Play p t ∷ marks) player tick = ap (λ n. n + 1) (plays_push_play marks player tick)

pub woven_push_other : (marks : List Mark) (sent : List Sent) (bare : Bare) → plays marks ≤ length sent → woven (marks ++ Other bare ∷ []) sent ≡ woven marks sent ++ bare_step bare ∷ []
woven_push_other [] sent bare enough = refl
woven_push_other (Other one ∷ marks) sent bare enough = ap (λ steps. bare_step one ∷ steps) (woven_push_other marks sent bare enough)
woven_push_other (Play player tick ∷ marks) [] bare enough = absurd (omega arith)
woven_push_other (Play player tick ∷ marks) (one ∷ sent) bare enough =
    ap (λ steps. step.Play player one.command tick ∷ steps) (woven_push_other marks sent bare (omega arith))

pub woven_push_play : (marks : List Mark) (sent : List Sent) (player tick : ℕ) (last : Sent) → plays marks ≡ length sent → woven (marks ++ Play player tick ∷ []) (sent ++ last ∷ []) ≡ woven marks sent ++ step.Play player last.command tick ∷ []
woven_push_play [] [] player tick last all = refl
woven_push_play [] (one ∷ sent) player tick last all = absurd (omega arith)
woven_push_play (Other one ∷ marks) sent player tick last all = ap (λ steps. bare_step one ∷ steps) (woven_push_play marks sent player tick last all)
woven_push_play (Play p t ∷ marks) [] player tick last all = absurd (omega arith)
woven_push_play (Play p t ∷ marks) (one ∷ sent) player tick last all =
    ap (λ steps. step.Play p one.command t ∷ steps) (woven_push_play marks sent player tick last (omega arith))

pub length_woven : (marks : List Mark) (sent : List Sent) → plays marks ≤ length sent → length (woven marks sent) ≡ length marks
length_woven [] sent enough = refl
length_woven (Other one ∷ marks) sent enough = omega (arith, length_woven marks sent enough)
length_woven (Play player tick ∷ marks) [] enough = absurd (omega arith)
length_woven (Play player tick ∷ marks) (one ∷ sent) enough =
    let few : plays marks ≤ length sent = omega arith in omega (arith, length_woven marks sent few)

bare_has : (bare : Bare) → HasCommand (bare_step bare)
bare_has bare.Enter = tt
bare_has (bare.Cut tick) = tt
bare_has (bare.Ack ssrc seq) = tt
bare_has (bare.Join ssrc) = tt
bare_has (bare.Leave ssrc) = tt
bare_has (bare.Hear ssrc seq) = tt
bare_has bare.Feedback = tt
bare_has (bare.Say port from message now) = tt

-- plays woven with commands within their bounds bring these
pub woven_have : (marks : List Mark) (sent : List Sent) → AreCommands sent → HaveCommands (woven marks sent)
woven_have [] sent are = tt
woven_have (Other one ∷ marks) sent are = (bare_has one, woven_have marks sent are)
woven_have (Play player tick ∷ marks) [] are = tt
woven_have (Play player tick ∷ marks) (one ∷ sent) are = (are.0, woven_have marks sent are.1)
