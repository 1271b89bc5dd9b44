-- An inviter and a host, with what went between them: any message that was sent may come late, again, out of order or
-- never, and strangers may send the host anything.
use Rattle.std.specs.Prelude.{◌≡◌, ℕ, Bool, true, List, [], ◌∷◌, ◌++◌, fold, Contains, Option, Some, None, ◌||◌, if◌then◌else◌, ⊤}
use Rattle.jm_edge.specs.declared.Addr.{Addr}
use Rattle.apple_msg.specs.declared.message.Message.{Message}
use Rattle.apple_msg.specs.declared.message.Message.TheVariants.{Invite, Accept, Reject, Bye, Clock, Feedback, RateLimit}
use Rattle.apple_session.specs.declared.peer.Peer.{Peer}
use Rattle.apple_session.specs.declared.answer.PortKind.{PortKind}
use Rattle.apple_session.specs.declared.answer.PortKind.TheVariants.{Ctl, Rtp}
use Rattle.apple_session.specs.Host.{Host}
use Rattle.apple_session.specs.Peers.{is_joined, peer_of, without}
use Rattle.apple_session.specs.Machine as machine
use Rattle.apple_invite.specs.Caller.{Caller, address_of}
use Rattle.apple_invite.specs.Machine.{is_addr, Call, ticks, hears, reports, closes, step}

-- `asked` is all that the inviter has sent to the host, and `told` all that the host has sent to the inviter, each with the
-- port that it goes to and comes from.
pub record World : Type 0 where
  pub host : Host
  pub caller : Caller
  pub asked : List (PortKind × Message)
  pub told : List (PortKind × Message)

-- nothing was sent yet
abbrev pub begins : Host → Caller → World
begins host caller = record { host = host; caller = caller; asked = []; told = [] }

pub data Event : Type 0 where
  -- a call of the inviter
  dials : Call → Event
  -- a message comes to a port of the host, which says whether one more may take part
  reaches : (room : Bool) (port : PortKind) (from : Addr) (message : Message) (now : ℕ) → Event
  -- the host sends the inviter something of its own accord
  tells : (port : PortKind) (message : Message) → Event
  -- the host drops a peer
  drops : (ssrc : ℕ) → Event

-- The address of the inviter at each of its two ports is `here`.
abbrev pub is_ours : (here : PortKind → Addr) → Addr → Bool
is_ours here from = is_addr from (here Ctl) || is_addr from (here Rtp)

-- ---- what each event does

-- a message that is to be sent joins those that were
abbrev pub posted : List (PortKind × Message) → Option (PortKind × Message) → List (PortKind × Message)
posted sent (Some letter) = sent ++ letter ∷ []
posted sent None = sent

abbrev pub through : PortKind → Option Message → Option (PortKind × Message)
through port (Some message) = Some (port, message)
through port None = None

-- a reply goes out of the port that the message came to
abbrev pub after_event : (here : PortKind → Addr) → World → Event → World
after_event here world (dials call) = record world {
  caller = (step world.caller call).caller;
  asked = posted world.asked (step world.caller call).dialed.send;
}
after_event here world (reaches room port from message now) = record world {
  host = record world.host { peers = (machine.step world.host room port from message now).peers };
  told = if is_ours here from then posted world.told (through port (machine.step world.host room port from message now).answer.reply) else world.told;
}
after_event here world (tells port message) = record world { told = posted world.told (Some (port, message)) }
after_event here world (drops ssrc) = record world { host = record world.host { peers = without ssrc world.host.peers } }

abbrev pub run : (here : PortKind → Addr) → World → List Event → World
run here world events = fold (after_event here) world events

-- ---- which events may come

-- from the host's addresses the inviter hears only what the host sent to it
abbrev pub IsHeard : World → Call → Type 0
IsHeard world (hears port from message now) = from ≡ address_of world.caller.to port → Contains world.told (port, message)
IsHeard world (ticks now) = ⊤
IsHeard world (reports seq) = ⊤
IsHeard world closes = ⊤

-- what comes from the inviter's addresses it sent to this port
pub record IsSent (here : PortKind → Addr) (world : World) (port : PortKind) (from : Addr) (message : Message) : Type 0 where
  pub its_address : from ≡ here port
  pub sent : Contains world.asked (port, message)

-- a host says OK in reply alone
abbrev pub IsNoOk : Message → Type 0
IsNoOk (Accept token ssrc name) = ⊥
IsNoOk (Invite token ssrc name) = ⊤
IsNoOk (Reject token ssrc name) = ⊤
IsNoOk (Bye token ssrc) = ⊤
IsNoOk (Clock ssrc count times) = ⊤
IsNoOk (Feedback ssrc seq) = ⊤
IsNoOk RateLimit = ⊤

abbrev pub MayCome : (here : PortKind → Addr) → World → Event → Type 0
MayCome here world (dials call) = IsHeard world call
MayCome here world (reaches room port from message now) = is_ours here from ≡ true → IsSent here world port from message
MayCome here world (tells port message) = IsNoOk message
MayCome here world (drops ssrc) = ⊤

-- each event may come after those before it
abbrev pub IsAllowed : (here : PortKind → Addr) → World → List Event → Type 0
IsAllowed here world [] = Unit {0}
IsAllowed here world (event ∷ events) = MayCome here world event × IsAllowed here (after_event here world event) events

-- ---- the host holds the inviter

-- its SSRC is listed with this token, and takes part
pub record IsHeld (host : Host) (ssrc token : ℕ) : Type 0 where
  pub peer : Peer
  pub listed : peer_of ssrc host.peers ≡ Some peer
  pub its_token : peer.token ≡ token
  pub joined : is_joined peer ≡ true

-- it was held so before one of these events
pub record WasHeld (here : PortKind → Addr) (start : World) (events : List Event) (ssrc token : ℕ) : Type 0 where
  pub earlier : List Event
  pub next : Event
  pub later : List Event
  pub parts : events ≡ earlier ++ (next ∷ later)
  pub held : IsHeld (run here start earlier).host ssrc token
