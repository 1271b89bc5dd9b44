-- The members of a session: the host with its peers, the local players, and the joined participants.
use Rattle.std.specs.Prelude.{ℕ, ◌+◌, Bool, false, ◌||◌, if◌then◌else◌, nat_lt, List, [], length, Option, Some, None}
use Rattle.jm_edge.specs.declared.Addr.{Addr}
use Rattle.apple_msg.specs.declared.message.Message.{Message}
use Rattle.apple_session.specs.declared.answer.PortKind.{PortKind}
use Rattle.apple_session.specs.declared.answer.Act.{Act}
use Rattle.apple_session.specs.declared.answer.Act.TheVariants as act
use Rattle.apple_session.specs.Conduct.{ssrc_of}
use Rattle.apple_session.specs.Host.{Host}
use Rattle.apple_session.specs.Machine.{Outcome, step}
use Rattle.apple_session.specs.Peers.{without}
use Rattle.jm_book.specs.declared.participants.Participant.{Participant}
use Rattle.jm_book.specs.declared.steps.Config.{Config}
use Rattle.jm_book.specs.declared.steps.Step.{Step}
use Rattle.jm_book.specs.declared.steps.Step.TheVariants.{Enter, Join, Leave, Ack, Hear, Say}
use Rattle.jm_book.specs.Participants.{is_member, most_joined, with_joiner, with_report, noted, others_than}

-- the host: its SSRC, its name and its peers; how many local players entered; and the joined participants,
-- in the order of joining
pub record Members : Type 0 where
  pub host : Host
  pub entered : ℕ
  pub joined : List Participant

-- the host alone
abbrev pub no_members : Config → Members
no_members config = record { host = record { ssrc = config.ssrc; name = config.name; peers = [] }; entered = 0; joined = [] }

-- ---- a message

abbrev pub is_named_member : Option ℕ → List Participant → Bool
is_named_member None joined = false
is_named_member (Some ssrc) joined = is_member ssrc joined

-- whether there is room for who sent a message: it is joined, or fewer participants are joined than may be
abbrev pub has_room_for : Message → List Participant → Bool
has_room_for message joined = is_named_member (ssrc_of message) joined || nat_lt (length joined) most_joined

-- what the machine of invitations makes of a message
abbrev pub outcome_of : Members → PortKind → Addr → Message → (now : ℕ) → Outcome
outcome_of members port from message now = step members.host (has_room_for message members.joined) port from message now

-- the participants after an act
abbrev pub carried_out : (packets : ℕ) → List Participant → Act → List Participant
carried_out packets joined (act.Join ssrc) = if is_member ssrc joined then joined else with_joiner packets ssrc joined
carried_out packets joined (act.Leave ssrc) = others_than ssrc joined
carried_out packets joined (act.Ack ssrc seq) = with_report packets ssrc seq joined
carried_out packets joined _ = joined

abbrev pub said_outcome : (packets : ℕ) → Members → Outcome → Members
said_outcome packets members outcome = record members {
  host = record members.host { peers = outcome.peers };
  joined = carried_out packets members.joined outcome.answer.act;
}

-- ---- steps

-- the members after a step that was taken, where so many packets were sent before it
abbrev pub members_after : (packets : ℕ) → Members → Step → Members
members_after packets members Enter = record members { entered = members.entered + 1 }
members_after packets members (Join ssrc) = record members { joined = with_joiner packets ssrc members.joined }
members_after packets members (Leave ssrc) = record members {
  host = record members.host { peers = without ssrc members.host.peers };
  joined = others_than ssrc members.joined;
}
members_after packets members (Ack ssrc seq) = record members { joined = with_report packets ssrc seq members.joined }
members_after packets members (Hear ssrc seq) = record members { joined = noted ssrc seq members.joined }
members_after packets members (Say port from message now) = said_outcome packets members (outcome_of members port from message now)
members_after packets members _ = members
