-- What the laws say of the peers of a session: whence they come, and how long they take part.
use Rattle.std.specs.Prelude.{ℕ, ◌≡◌, ◌≢◌, true, false, List, [], ◌∷◌, ◌++◌, All, None}
use Rattle.apple_session.specs.Conduct.{Call, heard, dropped, peers_after, takes_part, CameByInvitation}
use Rattle.apple_session.specs.Peers.{peer_of}
use Rattle.jm_book.specs.declared.steps.Config.{Config}
use Rattle.jm_book.specs.declared.steps.Step.{Step}
use Rattle.jm_book.specs.declared.steps.Step.TheVariants.{Leave, Say}
use Rattle.jm_book.specs.Participants.{is_member}
use Rattle.jm_book.specs.Members.{has_room_for}
use Rattle.jm_book.specs.Session.{Session, session_of, members_of, after, nothing}
use Rattle.jm_book.specs.Legal.{IsTaken, IsLegal}
use Rattle.jm_book.specs.MembersConduct.{takes_out, NeverLeaves, TakesPart}

-- ---- whence they come

-- what a step is to the machine of invitations: a message that it hears, or a peer that is dropped
abbrev pub call_of : Session → Step → List Call
call_of session (Say port from message now) = heard (has_room_for message session.members.joined) port from message now ∷ []
call_of session (Leave ssrc) = dropped ssrc ∷ []
call_of session _ = []

abbrev pub calls_from : Session → List Step → List Call
calls_from session [] = []
calls_from session (step ∷ steps) = call_of session step ++ calls_from (after session step) steps

-- the calls of a list of steps, in order
abbrev pub calls_of : Config → List Step → List Call
calls_of config steps = calls_from (nothing config) steps

-- The host keeps its SSRC and its name, and its peers are those that the machine of invitations has after the messages
-- and the departures among the steps. So each of them was invited on the control port, and each joined one after that on
-- the data port, with one token. (Not: a join of a local caller that makes a peer; a message that is answered and
-- forgotten.)
pub record ComeByInvitation (config : Config) (steps : List Step) : Type 0 where
  pub ssrc : (members_of config steps).host.ssrc ≡ config.ssrc
  pub name : (members_of config steps).host.name ≡ config.name
  pub peers : (members_of config steps).host.peers ≡ peers_after config.ssrc config.name (calls_of config steps)
  pub came : All (CameByInvitation (calls_of config steps)) (members_of config steps).host.peers

abbrev pub PeersCome : Type 0
PeersCome = (config : Config) (steps : List Step) → ComeByInvitation config steps

-- ---- how long they take part

-- One that takes part goes on taking part until a step takes it out. (Not: a feedback or a clock exchange that drops a
-- peer; another's departure that does.)
abbrev pub PartsStay : Type 0
PartsStay = (config : Config) (before later : List Step) (ssrc : ℕ) → IsLegal config (before ++ later)
    → TakesPart ssrc (session_of config before) → NeverLeaves config.events ssrc (session_of config before) later
    → TakesPart ssrc (session_of config (before ++ later))

-- it is neither a joined peer nor a joined participant
pub record IsOut (ssrc : ℕ) (session : Session) : Type 0 where
  pub peer : takes_part ssrc session.members.host.peers ≡ false
  pub participant : is_member ssrc session.members.joined ≡ false

-- A step that takes a participant out leaves neither the joined peer nor the participant. (Not: a bye after which the
-- mark still counts; a departure after which reports still come.)
abbrev pub LeaversGo : Type 0
LeaversGo = (config : Config) (steps : List Step) (step : Step) (ssrc : ℕ) → IsLegal config steps → IsTaken config steps step
    → takes_out config.events ssrc (session_of config steps) step ≡ true → IsOut ssrc (session_of config (steps ++ step ∷ []))

-- A departure leaves no peer of its SSRC, and every other peer as it was. (Not: a departure after which the same
-- invitation would be taken as one that goes on.)
pub record DropsPeer (ssrc : ℕ) (old new : Session) : Type 0 where
  pub gone : peer_of ssrc new.members.host.peers ≡ None
  pub others : (other : ℕ) → other ≢ ssrc → peer_of other new.members.host.peers ≡ peer_of other old.members.host.peers

abbrev pub LeaveDropsPeer : Type 0
LeaveDropsPeer = (config : Config) (steps : List Step) (ssrc : ℕ) → DropsPeer ssrc (session_of config steps) (session_of config (steps ++ Leave ssrc ∷ []))
