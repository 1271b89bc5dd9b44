-- A session of which the law on long commands speaks: a long message goes out in two packets, and a receiver takes both.
use Rattle.std.specs.Prelude.{ℕ, ◌≡◌, ◌≤◌, true, List, [], ◌∷◌, length}
use Rattle.jm_cmds.specs.declared.commands.Command.TheVariants.{Sysex}
use Rattle.jm_cmds.specs.Data.{IsSysex, is_long_message}
use Rattle.jm_receiver.specs.declared.heard.Heard.{Heard}
use Rattle.jm_receiver.specs.declared.heard.HeardKind.TheVariants.{Sent}
use Rattle.jm_receiver.specs.SegmentsHeard.{TakesAll}
use Rattle.jm_book.specs.declared.steps.Step.{Step}
use Rattle.jm_book.specs.declared.steps.Step.TheVariants.{Enter, Play, Cut}
use Rattle.jm_book.specs.Segments.{segments_in}
use Rattle.jm_book.specs.StreamConduct.{cut_count}
use Rattle.jm_book.specs.Legal.{IsLegal}
use Rattle.jm_book.specs.Commands.{HaveCommands}
use Rattle.jm_session.specs.LongHeard.{packets_with}
use Rattle.jm_session.specs.SomeSession.{host, listener}

-- two packets are cut behind the play
abbrev pub two_cuts : List Step
two_cuts = Cut 10 ∷ Cut 20 ∷ []

-- The premises are met: the steps are legal, and both segments are sent. A receiver that took no packet before takes both, and hears the
-- message.
pub record IsHeardInTwo (octets : List ℕ) : Type 0 where
  pub legal : IsLegal host (Enter ∷ Play 0 (Sysex octets) 10 ∷ two_cuts)
  pub commands : HaveCommands (Enter ∷ Play 0 (Sysex octets) 10 ∷ two_cuts)
  pub sent : length (segments_in (Sysex octets)) ≤ cut_count two_cuts
  pub heard : List Heard
  pub takes : TakesAll listener (packets_with host (Enter ∷ []) 0 (Sysex octets) 10 two_cuts) heard
  pub hears : heard ≡ record { command = Sysex octets; tick = 10; kind = Sent } ∷ []

-- so it is of each message of 2,047 to 4,092 data octets
abbrev pub SomeLongCommandsAreHeard : Type 0
SomeLongCommandsAreHeard = (octets : List ℕ) → IsSysex octets → is_long_message octets ≡ true → length octets ≤ 4092 → IsHeardInTwo octets
