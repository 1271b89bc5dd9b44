-- How a step moves or makes the mark of a participant.
use Rattle.std.specs.Prelude.{ℕ, ◌+◌, ◌%◌, ◌≡◌, ◌≢◌, ◌<◌, ◌≤◌, Some}
use Rattle.jm_book.specs.declared.participants.Participant.{Participant}
use Rattle.jm_book.specs.Participants.{find_joined}
use Rattle.jm_book.specs.Stream.{last_sent}
use Rattle.jm_book.specs.Session.{Session}

-- The mark of an SSRC moves to a later packet that was sent, less than half a round of 16 bits on, whose
-- number has these low 16 bits.
pub record Advances (old new : Session) (ssrc seq : ℕ) : Type 0 where
  pub one : Participant
  pub mark : ℕ
  pub was : find_joined ssrc old.members.joined ≡ Some one
  pub is : find_joined ssrc new.members.joined ≡ Some (record one { mark = mark })
  pub low : mark % 65536 ≡ seq
  pub past : one.mark < mark
  pub near : mark < one.mark + 32768
  pub sent : mark ≤ last_sent new.stream
  pub others : (other : ℕ) → other ≢ ssrc → find_joined other new.members.joined ≡ find_joined other old.members.joined

-- a participant is joined whose mark is the last sent packet, or 0 where none was sent
pub record Enters (new : Session) (ssrc : ℕ) : Type 0 where
  pub one : Participant
  pub is : find_joined ssrc new.members.joined ≡ Some one
  pub mark : one.mark ≡ last_sent new.stream
