-- The line that a call ends with.
use Rattle.std.specs.Prelude.{ℕ, List, ◌++◌, codes, decimal}
use Rattle.apple_invite.specs.declared.dialed.Phase.{Phase}
use Rattle.apple_invite.specs.declared.dialed.Phase.TheVariants.{Fresh, AskCtl, AskRtp, Open, Closed}
use Rattle.apple_invite.specs.declared.dialed.EndCause.TheVariants.{NoAnswer, Rejected, Bye, Ours}

-- how far an invitation came (nobody closes it here while it has turns, so `closed ours` is never said)
abbrev pub phase_text : Phase → List ℕ
phase_text Fresh = codes "fresh"
phase_text AskCtl = codes "asking"
phase_text AskRtp = codes "asking"
phase_text Open = codes "open"
phase_text (Closed NoAnswer) = codes "closed no-answer"
phase_text (Closed Rejected) = codes "closed rejected"
phase_text (Closed Bye) = codes "closed bye"
phase_text (Closed Ours) = codes "closed ours"

-- `ended PHASE clocks N`
unfoldable pub ended_line : Phase → (clocks : ℕ) → List ℕ
ended_line phase clocks = codes "ended " ++ phase_text phase ++ codes " clocks " ++ decimal clocks ++ codes "\n"
