-- Who takes part in a session, as far as it takes to tell who joins and who leaves.
use Rattle.std.specs.Prelude.{◌≡◌, ℕ, Bool, false, ◌||◌, if◌then◌else◌, nat_lt, List, [], ◌∷◌, ◌++◌, length, map, Option, Some, None}
use Rattle.jm_edge.specs.declared.Addr.{Addr}
use Rattle.apple_msg.specs.declared.message.Message.{Message}
use Rattle.apple_session.specs.declared.answer.Act.{Act}
use Rattle.apple_session.specs.declared.answer.Act.TheVariants as act
use Rattle.apple_session.specs.declared.answer.PortKind.{PortKind}
use Rattle.apple_session.specs.Conduct.{ssrc_of}
use Rattle.apple_session.specs.Host.{Host}
use Rattle.apple_session.specs.Machine.{Outcome, step}
use Rattle.apple_session.specs.Peers.{without}
use Rattle.jm_book.specs.declared.participants.Participant.{Participant}
use Rattle.jm_book.specs.declared.steps.Step.{Step}
use Rattle.jm_book.specs.declared.steps.Step.TheVariants.{Join, Leave, Say}
use Rattle.jm_book.specs.Members.{Members}
use Rattle.midi_host.specs.declared.change.Change.{Change}
use Rattle.midi_host.specs.declared.change.Change.TheVariants.{Joins, Leaves, Neither}
use Rattle.midi_host.specs.SsrcList.{has_ssrc, without_first}

-- the host with its peers, and the SSRCs of those who joined, in that order
pub record Attending : Type 0 where
  pub host : Host
  pub joined : List ℕ

abbrev pub ssrcs_of : List Participant → List ℕ
ssrcs_of [] = []
ssrcs_of (one ∷ others) = one.ssrc ∷ ssrcs_of others

-- this is who takes part
pub record Attends (members : Members) (attending : Attending) : Type 0 where
  pub host_is : attending.host ≡ members.host
  pub joined_are : attending.joined ≡ ssrcs_of members.joined

-- ---- after a step, with what it changes

abbrev pub is_named : Option ℕ → List ℕ → Bool
is_named None joined = false
is_named (Some ssrc) joined = has_ssrc ssrc joined

abbrev pub has_room_for : Message → List ℕ → Bool
has_room_for message joined = is_named (ssrc_of message) joined || nat_lt (length joined) 32

abbrev pub joined_after : Act → List ℕ → List ℕ
joined_after (act.Join ssrc) joined = if has_ssrc ssrc joined then joined else joined ++ ssrc ∷ []
joined_after (act.Leave ssrc) joined = without_first ssrc joined
joined_after _ joined = joined

abbrev pub change_after : Act → List ℕ → Change
change_after (act.Join ssrc) joined = if has_ssrc ssrc joined then Neither else Joins
change_after (act.Leave ssrc) joined = if has_ssrc ssrc joined then Leaves else Neither
change_after _ joined = Neither

abbrev pub said_by : Outcome → Attending → Attending × Change
said_by outcome attending = (record { host = record attending.host { peers = outcome.peers }; joined = joined_after outcome.answer.act attending.joined }, change_after outcome.answer.act attending.joined)

abbrev pub followed : Attending → Step → Attending × Change
followed attending (Join ssrc) = (record attending { joined = attending.joined ++ ssrc ∷ [] }, Joins)
followed attending (Leave ssrc) = (record { host = record attending.host { peers = without ssrc attending.host.peers }; joined = without_first ssrc attending.joined }, Leaves)
followed attending (Say port from message now) = said_by (step attending.host (has_room_for message attending.joined) port from message now) attending
followed attending _ = (attending, Neither)
