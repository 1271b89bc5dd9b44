-- What a call of an inviter answers, and the inviter after it.
use Rattle.std.specs.Prelude.{◌≡◌, ℕ, ◌+◌, Bool, false, List, [], ◌∷◌, slice_index, Option, Some, None, nat_lt, ◌==◌, ◌&&◌, if◌then◌else◌}
use Rattle.jm_edge.specs.declared.Addr.{Addr}
use Rattle.apple_msg.specs.declared.message.Message.{Message}
use Rattle.apple_msg.specs.declared.message.Message.TheVariants.{Invite, Accept, Reject, Bye, Clock, Feedback}
use Rattle.apple_session.specs.declared.answer.PortKind.{PortKind}
use Rattle.apple_session.specs.declared.answer.PortKind.TheVariants.{Ctl, Rtp}
use Rattle.apple_session.specs.Machine.{offset}
use Rattle.apple_invite.specs.declared.dialed.Dialed.{Dialed}
use Rattle.apple_invite.specs.declared.dialed.DialAct.{DialAct}
use Rattle.apple_invite.specs.declared.dialed.DialAct.TheVariants.{Plain, Opened, Ended, Clocked, Ignored}
use Rattle.apple_invite.specs.declared.dialed.EndCause.{EndCause}
use Rattle.apple_invite.specs.declared.dialed.EndCause.TheVariants as cause
use Rattle.apple_invite.specs.declared.stage.Stage.{Stage}
use Rattle.apple_invite.specs.declared.stage.Stage.TheVariants.{Fresh, AskCtl, AskRtp, Open, Closed}
use Rattle.apple_invite.specs.Caller.{Caller, address_of}

-- what a call answers, and the inviter after it
pub record Outcome : Type 0 where
  pub dialed : Dialed
  pub caller : Caller

-- ---- the kinds of outcome

abbrev pub at : Caller → Stage → Caller
at caller stage = record caller { stage = stage }

-- nothing is sent and nothing changes
abbrev pub unmoved : Caller → DialAct → Outcome
unmoved caller act = record { dialed = record { send = None; act = act }; caller = caller }

abbrev pub sends : Caller → PortKind → Message → DialAct → Stage → Outcome
sends caller port message act stage = record { dialed = record { send = Some (port, message); act = act }; caller = at caller stage }

abbrev pub ended : Caller → EndCause → Outcome
ended caller cause = record { dialed = record { send = None; act = Ended cause }; caller = at caller (Closed cause) }

abbrev pub invitation : Caller → Message
invitation caller = Invite caller.token caller.ssrc caller.name

-- a port is asked for the so manieth time, and again a second later
abbrev pub asks_control : Caller → (tries now : ℕ) → Outcome
asks_control caller tries now = sends caller Ctl (invitation caller) Plain (AskCtl tries (now + 10000))

abbrev pub asks_data : Caller → (host tries now : ℕ) → Outcome
asks_data caller host tries now = sends caller Rtp (invitation caller) Plain (AskRtp host tries (now + 10000))

-- the host is asked for its clock, and again ten seconds later
abbrev pub asks_clock : Caller → (host now : ℕ) → DialAct → Outcome
asks_clock caller host now act = sends caller Rtp (Clock caller.ssrc 0 (now ∷ 0 ∷ 0 ∷ [])) act (Open host (now + 100000) (Some now))

-- ---- time goes by

-- once it is due a port is asked again, but no more than twelve times in all
abbrev pub waits : Caller → (tries due now : ℕ) → (again : Outcome) → Outcome
waits caller tries due now again =
    if nat_lt now due then unmoved caller Plain
    else (if nat_lt tries 12 then again else ended caller cause.NoAnswer)

abbrev pub on_time : Caller → Stage → (now : ℕ) → Outcome
on_time caller Fresh now = asks_control caller 1 now
on_time caller (AskCtl tries due) now = waits caller tries due now (asks_control caller (tries + 1) now)
on_time caller (AskRtp host tries due) now = waits caller tries due now (asks_data caller host (tries + 1) now)
on_time caller (Open host due asked) now = if nat_lt now due then unmoved caller Plain else asks_clock caller host now Plain
on_time caller (Closed cause) now = unmoved caller Plain

-- ---- a message from the host

abbrev pub ignored : Caller → Outcome
ignored caller = unmoved caller Ignored

-- the control port was asked
abbrev pub asked_control : Caller → PortKind → Message → (now : ℕ) → Outcome
asked_control caller Ctl (Accept token host name) now = if token == caller.token then asks_data caller host 1 now else ignored caller
asked_control caller Ctl (Reject token host name) now = if token == caller.token then ended caller cause.Rejected else ignored caller
asked_control caller port message now = ignored caller

-- the data port was asked, after an OK of this host
abbrev pub asked_data : Caller → (host : ℕ) → PortKind → Message → (now : ℕ) → Outcome
asked_data caller host Rtp (Accept token ssrc name) now =
    if token == caller.token && ssrc == host then asks_clock caller host now Opened else ignored caller
asked_data caller host Rtp (Reject token ssrc name) now = if token == caller.token then ended caller cause.Rejected else ignored caller
asked_data caller host port (Bye token ssrc) now = if ssrc == host then ended caller cause.Bye else ignored caller
asked_data caller host port message now = ignored caller

-- whether this is the moment of the question that was not answered yet
abbrev pub is_asked : Option ℕ → (time : ℕ) → Bool
is_asked (Some asked) time = time == asked
is_asked None time = false

-- the host's clock: the exchange is told to the host, and the question counts as answered
abbrev pub clocked : Caller → (host due : ℕ) → (times : List ℕ) → Outcome
clocked caller host due times = sends caller Rtp (Clock caller.ssrc 2 times) (Clocked (offset times)) (Open host due None)

-- both ports said OK
abbrev pub in_session : Caller → (host due : ℕ) → (asked : Option ℕ) → PortKind → Message → (now : ℕ) → Outcome
in_session caller host due asked Rtp (Clock ssrc count times) now =
    if ssrc == host && count == 1 && is_asked asked (slice_index times 0)
    then clocked caller host due (slice_index times 0 ∷ slice_index times 1 ∷ now ∷ []) else ignored caller
in_session caller host due asked port (Bye token ssrc) now = if ssrc == host then ended caller cause.Bye else ignored caller
in_session caller host due asked port message now = ignored caller

abbrev pub heard : Caller → Stage → PortKind → Message → (now : ℕ) → Outcome
heard caller Fresh port message now = ignored caller
heard caller (AskCtl tries due) port message now = asked_control caller port message now
heard caller (AskRtp host tries due) port message now = asked_data caller host port message now
heard caller (Open host due asked) port message now = in_session caller host due asked port message now
heard caller (Closed cause) port message now = ignored caller

abbrev pub is_addr : Addr → Addr → Bool
is_addr this that = this.host == that.host && this.port == that.port

-- messages count only from the host's address of their port
abbrev pub on_message : Caller → PortKind → Addr → Message → (now : ℕ) → Outcome
on_message caller port from message now =
    if is_addr from (address_of caller.to port) then heard caller caller.stage port message now else ignored caller

-- ---- the caller's own acts

-- the number of the last packet that was received is told
abbrev pub on_feedback : Caller → Stage → (seq : ℕ) → Outcome
on_feedback caller (Open host due asked) seq = sends caller Ctl (Feedback caller.ssrc seq) Plain caller.stage
on_feedback caller stage seq = ignored caller

abbrev pub says_bye : Caller → Outcome
says_bye caller = sends caller Ctl (Bye caller.token caller.ssrc) (Ended cause.Ours) (Closed cause.Ours)

abbrev pub on_close : Caller → Stage → Outcome
on_close caller Fresh = ignored caller
on_close caller (AskCtl tries due) = says_bye caller
on_close caller (AskRtp host tries due) = says_bye caller
on_close caller (Open host due asked) = says_bye caller
on_close caller (Closed cause) = ignored caller

-- ---- any call

pub data Call : Type 0 where
  ticks : (now : ℕ) → Call
  hears : (port : PortKind) (from : Addr) (message : Message) (now : ℕ) → Call
  reports : (seq : ℕ) → Call
  closes : Call

unfoldable pub step : Caller → Call → Outcome
step caller (ticks now) = on_time caller caller.stage now
step caller (hears port from message now) = on_message caller port from message now
step caller (reports seq) = on_feedback caller caller.stage seq
step caller closes = on_close caller caller.stage

-- what a call returned and left is this outcome
pub record Gives (old new : Caller) (dialed : Dialed) (outcome : Outcome) : Type 0 where
  pub dialed_is : dialed ≡ outcome.dialed
  pub caller_is : new ≡ outcome.caller
