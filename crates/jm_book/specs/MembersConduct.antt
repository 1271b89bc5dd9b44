-- What the laws say of the members after a list of steps: who is joined, where the marks are, which slots are given, and
-- which peers take part.
use Rattle.std.specs.Prelude.{ℕ, zero, suc, ◌+◌, ◌%◌, ◌-◌, ◌≡◌, ◌≤◌, ◌<◌, Bool, true, false, ◌==◌, ◌&&◌, List, [], ◌∷◌, ◌++◌, length, fold, Option, Some, None}
use Rattle.std.specs.List.{AllByRecursion}
use Rattle.jm_edge.specs.declared.Addr.{Addr}
use Rattle.apple_msg.specs.declared.message.Message.{Message}
use Rattle.apple_session.specs.declared.answer.PortKind.{PortKind}
use Rattle.apple_session.specs.declared.answer.Act.TheVariants as act
use Rattle.apple_session.specs.Conduct.{ssrc_of, takes_part}
use Rattle.jm_book.specs.declared.participants.Participant.{Participant}
use Rattle.jm_book.specs.declared.answers.Acked.TheVariants as acked
use Rattle.jm_book.specs.declared.answers.Acted.{Acted}
use Rattle.jm_book.specs.declared.answers.Acted.TheVariants as acted
use Rattle.jm_book.specs.declared.answers.Cutted.{Cutted}
use Rattle.jm_book.specs.declared.answers.Cutted.TheVariants as cutted
use Rattle.jm_book.specs.declared.answers.Entered.TheVariants as entered
use Rattle.jm_book.specs.declared.answers.Gone.TheVariants as gone
use Rattle.jm_book.specs.declared.answers.Heard.TheVariants as heard
use Rattle.jm_book.specs.declared.answers.Joined.TheVariants as joined
use Rattle.jm_book.specs.declared.answers.Said.{Said}
use Rattle.jm_book.specs.declared.answers.Said.TheVariants as said
use Rattle.jm_book.specs.declared.steps.Config.{Config}
use Rattle.jm_book.specs.declared.steps.Step.{Step}
use Rattle.jm_book.specs.declared.steps.Step.TheVariants.{Enter, Play, Cut, Ack, Join, Leave, Hear, Feedback, Say}
use Rattle.jm_book.specs.Participants.{find_joined, is_member, has_slot}
use Rattle.jm_book.specs.Stream.{stream_of, last_sent}
use Rattle.jm_book.specs.Members.{outcome_of}
use Rattle.jm_book.specs.Session.{Session, session_of, members_of, after, checkpoint_of}
use Rattle.jm_book.specs.Core.{PeersTakePart}
use Rattle.jm_book.specs.Answers.{cut_in, ack_in, say_in}
use Rattle.jm_book.specs.BookAnswers.{enter_answer, cut_answer, ack_answer, join_answer, leave_answer, hear_answer, say_answer}
use Rattle.jm_book.specs.Legal.{AreTakenFrom, IsLegal, IsLegalWithRoom}

-- ---- local players

-- how many of these steps are players that enter
abbrev pub enter_count : List Step → ℕ
enter_count [] = 0
enter_count (Enter ∷ steps) = enter_count steps + 1
enter_count (_ ∷ steps) = enter_count steps

-- As many local players entered as steps say so; a new player's number is how many entered before, and there are at most
-- 64. (Not: a 65th player, whose number would be that of the first participant; a refused one that is counted.)
abbrev pub CountsPlayers : Type 0
CountsPlayers = (config : Config) (steps : List Step)
    → ((members_of config steps).entered ≡ enter_count steps)
    × (IsLegal config steps → enter_count steps ≤ 64)
    × ((player : ℕ) → enter_answer config steps ≡ entered.Player player → (player ≡ enter_count steps) × (player < 64))

-- ---- who is joined, and where the marks are

-- steps that are of no participant
abbrev pub is_of_none : Step → Bool
is_of_none Enter = true
is_of_none (Play player command tick) = true
is_of_none (Cut tick) = true
is_of_none Feedback = true
is_of_none _ = false

-- A player that enters, a play, a cut and a feedback leave the participants as they were, with their marks. (Not: a
-- cut that moves marks on, or forgets who is joined.)
abbrev pub KeepsJoined : Type 0
KeepsJoined = (config : Config) (steps : List Step) (step : Step) → is_of_none step ≡ true → (members_of config (steps ++ step ∷ [])).joined ≡ (members_of config steps).joined

-- One that joins was not joined, and stands behind the others, which are as they were. Its mark is the last packet that was sent, or 0
-- before the first; its player number is 64 and the least slot that none of the others has.
pub record JoinsBehind (packets ssrc mark player : ℕ) (old new : List Participant) : Type 0 where
  pub absent : is_member ssrc old ≡ false
  pub slot : ℕ
  pub is : new ≡ old ++ record { ssrc = ssrc; mark = mark; slot = slot; heard = None } ∷ []
  pub last : mark ≡ packets - 1
  pub player_is : player ≡ 64 + slot
  pub below : slot < 32
  pub free : has_slot old slot ≡ false
  pub least : (other : ℕ) → other < slot → has_slot old other ≡ true

-- The mark of this SSRC alone moves on, to a packet that was sent: the others, and their order, are as they were.
pub record MovesAlone (packets ssrc mark : ℕ) (old new : List Participant) : Type 0 where
  pub front : List Participant
  pub one : Participant
  pub rest : List Participant
  pub own : one.ssrc ≡ ssrc
  pub was : old ≡ front ++ one ∷ rest
  pub is : new ≡ front ++ record one { mark = mark } ∷ rest
  pub on : one.mark < mark
  pub sent : mark < packets

-- The number heard of this SSRC alone is another.
pub record HearsAlone (ssrc seq : ℕ) (old new : List Participant) : Type 0 where
  pub front : List Participant
  pub one : Participant
  pub rest : List Participant
  pub own : one.ssrc ≡ ssrc
  pub was : old ≡ front ++ one ∷ rest
  pub is : new ≡ front ++ record one { heard = Some seq } ∷ rest

-- The participant of this SSRC alone is gone.
pub record LeavesAlone (ssrc : ℕ) (old new : List Participant) : Type 0 where
  pub front : List Participant
  pub one : Participant
  pub rest : List Participant
  pub own : one.ssrc ≡ ssrc
  pub was : old ≡ front ++ one ∷ rest
  pub is : new ≡ front ++ rest

-- A join that is answered with a mark and a player puts just that participant behind the others. (Not: a joiner with
-- the least mark, which would lower the checkpoint; one with a slot that is taken, or past a free one.)
abbrev pub JoinsOne : Type 0
JoinsOne = (config : Config) (steps : List Step) (ssrc mark player : ℕ) → join_answer config steps ssrc ≡ joined.At mark player
    → JoinsBehind (length (stream_of steps).packets) ssrc mark player (members_of config steps).joined (members_of config (steps ++ Join ssrc ∷ [])).joined

-- A report that is answered with a mark moves just its own participant's mark there, which is forward. (Not: a report
-- that moves another's mark, moves one back, or moves it past the last packet.)
abbrev pub ReportsOne : Type 0
ReportsOne = (config : Config) (steps : List Step) (ssrc seq mark : ℕ) → ack_answer config steps ssrc seq ≡ acked.Moved mark
    → MovesAlone (length (stream_of steps).packets) ssrc mark (members_of config steps).joined (members_of config (steps ++ Ack ssrc seq ∷ [])).joined

-- Where there is room, a report of a packet that was sent, past its participant's mark and less than half a round of 16
-- bits on, moves the mark there. (Not: a report that is taken for an old one at a distance of 32,767; one that is taken
-- for a packet that was not sent where it is the last one.)
abbrev pub ReportsMove : Type 0
ReportsMove = (events : ℕ) (session : Session) (ssrc mark : ℕ) (one : Participant) → find_joined ssrc session.members.joined ≡ Some one
    → one.mark < mark → mark < one.mark + 32768 → mark < length session.stream.packets
    → ack_in true events session ssrc (mark % 65536) ≡ acked.Moved mark

-- A departure takes out just its own participant. (Not: a departure that keeps the mark, for which the checkpoint would
-- wait for ever; one that brings the others into another order.)
abbrev pub LeavesOne : Type 0
LeavesOne = (config : Config) (steps : List Step) (ssrc : ℕ) → leave_answer config steps ssrc ≡ gone.Left
    → LeavesAlone ssrc (members_of config steps).joined (members_of config (steps ++ Leave ssrc ∷ [])).joined

-- A number that is heard is kept of its own participant, and changes nothing else. (Not: a number that is taken for a
-- mark.)
abbrev pub HearsOne : Type 0
HearsOne = (config : Config) (steps : List Step) (ssrc seq : ℕ) → hear_answer config steps ssrc ≡ heard.Noted
    → HearsAlone ssrc seq (members_of config steps).joined (members_of config (steps ++ Hear ssrc seq ∷ [])).joined

-- this holds of the SSRC that a message names
pub record OfNamed (message : Message) (P : ℕ → Type 0) : Type 0 where
  pub ssrc : ℕ
  pub named : ssrc_of message ≡ Some ssrc
  pub holds : P ssrc

-- what a message makes of the participants, by what it came to
abbrev pub SaidMakes : (packets : ℕ) → Message → (old new : List Participant) → Acted → Type 0
SaidMakes packets message old new (acted.Joined mark player) = OfNamed message (λ ssrc. JoinsBehind packets ssrc mark player old new)
SaidMakes packets message old new acted.Left = OfNamed message (λ ssrc. LeavesAlone ssrc old new)
SaidMakes packets message old new (acted.Moved mark) = OfNamed message (λ ssrc. MovesAlone packets ssrc mark old new)
SaidMakes packets message old new _ = new ≡ old

-- A message by which someone joins, leaves or reports does to the participants just what a join, a departure or a report
-- of the SSRC that it names does; any other leaves them as they were. (Not: a message that joins one who has joined
-- already, or a clock exchange that moves a mark.)
abbrev pub SaysOne : Type 0
SaysOne = (config : Config) (steps : List Step) (port : PortKind) (from : Addr) (message : Message) (now : ℕ) (reply : Option Message) (act : Acted)
    → say_answer config steps port from message now ≡ said.Done reply act
    → SaidMakes (length (stream_of steps).packets) message (members_of config steps).joined (members_of config (steps ++ Say port from message now ∷ [])).joined act

-- After legal steps at most 32 participants are joined. (Not: an invitation for which the list is not looked at.)
abbrev pub JoinsFew : Type 0
JoinsFew = (config : Config) (steps : List Step) → IsLegal config steps → length (members_of config steps).joined ≤ 32

-- ---- the checkpoint

-- The first of the participants, in order of joining, that has the least mark.
pub record IsFirstLeast (one : Participant) (joined : List Participant) : Type 0 where
  pub front : List Participant
  pub rest : List Participant
  pub was : joined ≡ front ++ one ∷ rest
  pub before : AllByRecursion (λ other. one.mark < other.mark) front
  pub behind : AllByRecursion (λ other. one.mark ≤ other.mark) rest

-- the first with the least mark has this one, or no one is joined
pub record HasLeast (mark : ℕ) (joined : List Participant) : Type 0 where
  pub one : Participant
  pub first : IsFirstLeast one joined
  pub mark_is : one.mark ≡ mark

abbrev pub LeastOrLast : (last checkpoint : ℕ) → List Participant → Type 0
LeastOrLast last checkpoint [] = checkpoint ≡ last
LeastOrLast last checkpoint (one ∷ others) = HasLeast checkpoint (one ∷ others)

-- The checkpoint is the least of the marks, and with no one joined the last packet that was sent, or 0. (Not: the
-- second least mark; a checkpoint of 0 once all have left.)
abbrev pub IsLeastMark : Type 0
IsLeastMark = (config : Config) (steps : List Step) → LeastOrLast (last_sent (stream_of steps)) (checkpoint_of (session_of config steps)) (members_of config steps).joined

-- The participant that `Behind` names: the next packet would be 32,767 or more past its mark.
pub record NamesLeast (packets ssrc mark : ℕ) (joined : List Participant) : Type 0 where
  pub one : Participant
  pub first : IsFirstLeast one joined
  pub ssrc_is : one.ssrc ≡ ssrc
  pub mark_is : one.mark ≡ mark
  pub far : mark + 32767 ≤ packets

-- A cut that is refused names the first participant, in order of joining, with the least mark, and the next packet would
-- be 32,767 or more past it. (Not: the last of those that have it; a refusal at 32,766.)
abbrev pub NamesSlowest : Type 0
NamesSlowest = (config : Config) (steps : List Step) (ssrc mark : ℕ) → cut_answer config steps ≡ cutted.Behind ssrc mark → NamesLeast (length (stream_of steps).packets) ssrc mark (members_of config steps).joined

-- A packet that a cut makes has the number of the packets before it, less than 32,767 past the checkpoint, which 16 bits
-- can name. (Not: a cut that goes on to 32,767 or past it; numbers from 1.)
abbrev pub StaysNear : Type 0
StaysNear = (config : Config) (steps : List Step) (number : ℕ) → cut_answer config steps ≡ cutted.Packet number
    → (number ≡ length (stream_of steps).packets) × (number < checkpoint_of (session_of config steps) + 32767)

-- ---- departures of those that are named

abbrev pub is_behind_answer : Cutted → Bool
is_behind_answer (cutted.Behind ssrc mark) = true
is_behind_answer _ = false

-- what follows a refused cut
abbrev pub of_named : Cutted → (ℕ → List Step) → List Step
of_named (cutted.Behind ssrc mark) steps = steps ssrc
of_named _ steps = []

-- a cut is tried, and the participant that its refusal names leaves; and so on, so many times at most
abbrev pub departures : (events most : ℕ) → Session → List Step
departures events zero session = []
departures events (suc most) session = of_named (cut_in true events session) (λ ssrc. Leave ssrc ∷ departures events most (after session (Leave ssrc)))

-- After as many departures of the named participants as are joined, or fewer, a cut isn't refused for one that is behind;
-- each of the departures is taken. (Not: a departure whose mark still counts.)
abbrev pub DeparturesFree : Type 0
DeparturesFree = (events : ℕ) (session : Session)
    → AreTakenFrom events session (departures events (length session.members.joined) session)
    × (length (departures events (length session.members.joined) session) ≤ length session.members.joined)
    × (is_behind_answer (cut_in true events (fold after session (departures events (length session.members.joined) session))) ≡ false)

-- ---- peers

-- After legal steps each joined peer is a joined participant, so a report that the machine of invitations passes on is
-- always one of a joined participant. (Not: a departure that forgets the peer; a peer that joins where 32 participants
-- are.)
abbrev pub PeersAreJoined : Type 0
PeersAreJoined = (config : Config) (steps : List Step) → IsLegal config steps
    → PeersTakePart (members_of config steps)
    × ((port : PortKind) (from : Addr) (message : Message) (now ssrc seq : ℕ) → (outcome_of (members_of config steps) port from message now).answer.act ≡ act.Ack ssrc seq → is_member ssrc (members_of config steps).joined ≡ true)

abbrev pub names : ℕ → Option ℕ → Bool
names ssrc None = false
names ssrc (Some other) = other == ssrc

abbrev pub is_left_answer : Said → Bool
is_left_answer (said.Done reply acted.Left) = true
is_left_answer _ = false

-- whether this step takes the participant of this SSRC out: by a departure of its own, or by a message of it
abbrev pub takes_out : (events ssrc : ℕ) → Session → Step → Bool
takes_out events ssrc session (Leave other) = other == ssrc
takes_out events ssrc session (Say port from message now) = names ssrc (ssrc_of message) && is_left_answer (say_in true events session port from message now)
takes_out events ssrc session _ = false

-- none of these steps does
abbrev pub NeverLeaves : (events ssrc : ℕ) → Session → List Step → Type 0
NeverLeaves events ssrc session [] = Unit {0}
NeverLeaves events ssrc session (step ∷ steps) = (takes_out events ssrc session step ≡ false) × NeverLeaves events ssrc (after session step) steps

-- it is a joined peer and a joined participant
pub record TakesPart (ssrc : ℕ) (session : Session) : Type 0 where
  pub peer : takes_part ssrc session.members.host.peers ≡ true
  pub participant : is_member ssrc session.members.joined ≡ true

-- One that joined by an invitation and hasn't left by any step since is a joined peer and a joined participant,
-- whatever else came. (Not: a first invitation for which a joined peer gives way; a message of another that drops it.)
abbrev pub InvitedStay : Type 0
InvitedStay = (config : Config) (before : List Step) (port : PortKind) (from : Addr) (message : Message) (now ssrc mark player : ℕ) (reply : Option Message) (later : List Step)
    → IsLegal config (before ++ Say port from message now ∷ later)
    → say_answer config before port from message now ≡ said.Done reply (acted.Joined mark player)
    → ssrc_of message ≡ Some ssrc
    → NeverLeaves config.events ssrc (session_of config (before ++ Say port from message now ∷ [])) later
    → TakesPart ssrc (session_of config (before ++ Say port from message now ∷ later))

-- ---- room for each step

-- Steps are legal just where each is taken as if there were room and they are no more than the tape takes.
-- (Not: a step that is taken past the tape's length; one that is refused though the tape has room for it.)
abbrev pub IsLegalByRoom : Type 0
IsLegalByRoom = (config : Config) (steps : List Step)
    → (IsLegal config steps → IsLegalWithRoom config steps × (length steps ≤ config.events))
    × (IsLegalWithRoom config steps → length steps ≤ config.events → IsLegal config steps)
