-- The limits of what the journal codes, of a session.
use Rattle.std.specs.Prelude.{◌++◌}
use Rattle.jm_journal.specs.Limits.{KeepsLimits}
use Rattle.jm_book.specs.Stream.{sent_of, pending_of}
use Rattle.jm_book.specs.Session.{Session, checkpoint_of}

-- what is coded of the sent commands, and of these with the pending ones as if they were sent
pub record KeepsBoth (s : Session) : Type 0 where
  pub sent : KeepsLimits (checkpoint_of s) (sent_of s.stream)
  pub all : KeepsLimits (checkpoint_of s) (sent_of s.stream ++ pending_of s.stream)
