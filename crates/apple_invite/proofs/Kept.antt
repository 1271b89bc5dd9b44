-- A call changes nothing but how far the invitation has come, and invites for the caller alone.
use Rattle.std.proofs.Common.{◌≡◌, ℕ, ◌+◌, Bool, true, false, cond, eqb, ltb, [], ◌∷◌, Option, Some, None, refl, ◌&&◌}
use Rattle.std.specs.Prelude.{slice_index, ⊤}
use Rattle.apple_msg.specs.declared.message.Message.{Message}
use Rattle.apple_msg.specs.declared.message.Message.TheVariants.{Invite, Accept, Reject, Bye, Clock}
use Rattle.apple_session.specs.declared.answer.PortKind.{PortKind}
use Rattle.apple_session.specs.declared.answer.PortKind.TheVariants.{Ctl, Rtp}
use Rattle.apple_invite.specs.declared.dialed.DialAct.{DialAct}
use Rattle.apple_invite.specs.declared.dialed.DialAct.TheVariants.{Plain, Opened, Ignored}
use Rattle.apple_invite.specs.declared.dialed.EndCause.{EndCause}
use Rattle.apple_invite.specs.declared.dialed.EndCause.TheVariants as cause
use Rattle.apple_invite.specs.declared.stage.Stage.{Stage}
use Rattle.apple_invite.specs.declared.stage.Stage.TheVariants.{Fresh, AskCtl, AskRtp, Open, Closed}
use Rattle.apple_invite.specs.Caller.{Caller, address_of}
use Rattle.apple_invite.specs.Machine.{Outcome, at, unmoved, ended, waits, on_time, on_feedback, on_close, asks_control, asks_data, asks_clock, asked_control, asked_data, is_asked, clocked, in_session, heard, is_addr, Call, ticks, hears, reports, closes, step}

-- an invitation is of this SSRC and this token
abbrev pub IsOwn : (ssrc token : ℕ) → PortKind × Message → Type 0
IsOwn ssrc token (port, Invite its_token its_ssrc name) = (its_token ≡ token) × (its_ssrc ≡ ssrc)
IsOwn ssrc token (port, message) = ⊤

abbrev pub IsOwnIfAny : (ssrc token : ℕ) → Option (PortKind × Message) → Type 0
IsOwnIfAny ssrc token (Some letter) = IsOwn ssrc token letter
IsOwnIfAny ssrc token None = ⊤

pub record IsKept (caller : Caller) (outcome : Outcome) : Type 0 where
  pub same : outcome.caller ≡ at caller outcome.caller.stage
  pub own : IsOwnIfAny caller.ssrc caller.token outcome.dialed.send

kept_unmoved : (caller : Caller) (act : DialAct) → IsKept caller (unmoved caller act)
kept_unmoved caller act = record { same = refl; own = tt }

kept_ended : (caller : Caller) (why : EndCause) → IsKept caller (ended caller why)
kept_ended caller why = record { same = refl; own = tt }

kept_control : (caller : Caller) (tries now : ℕ) → IsKept caller (asks_control caller tries now)
kept_control caller tries now = record { same = refl; own = (refl, refl) }

kept_data : (caller : Caller) (host tries now : ℕ) → IsKept caller (asks_data caller host tries now)
kept_data caller host tries now = record { same = refl; own = (refl, refl) }

kept_clock : (caller : Caller) (host now : ℕ) (act : DialAct) → IsKept caller (asks_clock caller host now act)
kept_clock caller host now act = record { same = refl; own = tt }

kept_if : (caller : Caller) (test : Bool) (outcome : Outcome) (act : DialAct) → IsKept caller outcome → IsKept caller (cond test outcome (unmoved caller act))
kept_if caller true outcome act kept = kept
kept_if caller false outcome act kept = kept_unmoved caller act

kept_waits : (caller : Caller) (tries due now : ℕ) (again : Outcome) → IsKept caller again → IsKept caller (waits caller tries due now again)
kept_waits caller tries due now again kept =
    elim (ltb now due) as (λ (b : Bool). IsKept caller (cond b (unmoved caller Plain) (cond (ltb tries 12) again (ended caller cause.NoAnswer)))) [
      | true ↦ kept_unmoved caller Plain
      | false ↦ elim (ltb tries 12) as (λ (b : Bool). IsKept caller (cond b again (ended caller cause.NoAnswer))) [
        | true ↦ kept
        | false ↦ kept_ended caller cause.NoAnswer
      ]
    ]

kept_time : (caller : Caller) (stage : Stage) (now : ℕ) → IsKept caller (on_time caller stage now)
kept_time caller Fresh now = kept_control caller 1 now
kept_time caller (AskCtl tries due) now = kept_waits caller tries due now (asks_control caller (tries + 1) now) (kept_control caller (tries + 1) now)
kept_time caller (AskRtp host tries due) now = kept_waits caller tries due now (asks_data caller host (tries + 1) now) (kept_data caller host (tries + 1) now)
kept_time caller (Open host due asked) now =
    elim (ltb now due) as (λ (b : Bool). IsKept caller (cond b (unmoved caller Plain) (asks_clock caller host now Plain))) [
      | true ↦ kept_unmoved caller Plain
      | false ↦ kept_clock caller host now Plain
    ]
kept_time caller (Closed why) now = kept_unmoved caller Plain

kept_asked_control : (caller : Caller) (port : PortKind) (message : Message) (now : ℕ) → IsKept caller (asked_control caller port message now)
kept_asked_control caller Ctl (Accept token host name) now = kept_if caller (eqb token caller.token) (asks_data caller host 1 now) Ignored (kept_data caller host 1 now)
kept_asked_control caller Ctl (Reject token host name) now = kept_if caller (eqb token caller.token) (ended caller cause.Rejected) Ignored (kept_ended caller cause.Rejected)
kept_asked_control caller port message now = kept_unmoved caller Ignored

kept_asked_data : (caller : Caller) (host : ℕ) (port : PortKind) (message : Message) (now : ℕ) → IsKept caller (asked_data caller host port message now)
kept_asked_data caller host Rtp (Accept token ssrc name) now = kept_if caller (eqb token caller.token && eqb ssrc host) (asks_clock caller host now Opened) Ignored (kept_clock caller host now Opened)
kept_asked_data caller host Rtp (Reject token ssrc name) now = kept_if caller (eqb token caller.token) (ended caller cause.Rejected) Ignored (kept_ended caller cause.Rejected)
kept_asked_data caller host port (Bye token ssrc) now = kept_if caller (eqb ssrc host) (ended caller cause.Bye) Ignored (kept_ended caller cause.Bye)
kept_asked_data caller host port message now = kept_unmoved caller Ignored

kept_session : (caller : Caller) (host due : ℕ) (asked : Option ℕ) (port : PortKind) (message : Message) (now : ℕ) → IsKept caller (in_session caller host due asked port message now)
kept_session caller host due asked Rtp (Clock ssrc count times) now =
    kept_if caller (eqb ssrc host && eqb count 1 && is_asked asked (slice_index times 0)) (clocked caller host due (slice_index times 0 ∷ slice_index times 1 ∷ now ∷ [])) Ignored (record { same = refl; own = tt })
kept_session caller host due asked port (Bye token ssrc) now = kept_if caller (eqb ssrc host) (ended caller cause.Bye) Ignored (kept_ended caller cause.Bye)
kept_session caller host due asked port message now = kept_unmoved caller Ignored

kept_heard : (caller : Caller) (stage : Stage) (port : PortKind) (message : Message) (now : ℕ) → IsKept caller (heard caller stage port message now)
kept_heard caller Fresh port message now = kept_unmoved caller Ignored
kept_heard caller (AskCtl tries due) port message now = kept_asked_control caller port message now
kept_heard caller (AskRtp host tries due) port message now = kept_asked_data caller host port message now
kept_heard caller (Open host due asked) port message now = kept_session caller host due asked port message now
kept_heard caller (Closed why) port message now = kept_unmoved caller Ignored

kept_feedback : (caller : Caller) (stage : Stage) (seq : ℕ) → caller.stage ≡ stage → IsKept caller (on_feedback caller stage seq)
kept_feedback caller (Open host due asked) seq is = record { same = refl; own = tt }
kept_feedback caller Fresh seq is = kept_unmoved caller Ignored
kept_feedback caller (AskCtl tries due) seq is = kept_unmoved caller Ignored
kept_feedback caller (AskRtp host tries due) seq is = kept_unmoved caller Ignored
kept_feedback caller (Closed why) seq is = kept_unmoved caller Ignored

kept_close : (caller : Caller) (stage : Stage) → IsKept caller (on_close caller stage)
kept_close caller Fresh = kept_unmoved caller Ignored
kept_close caller (AskCtl tries due) = record { same = refl; own = tt }
kept_close caller (AskRtp host tries due) = record { same = refl; own = tt }
kept_close caller (Open host due asked) = record { same = refl; own = tt }
kept_close caller (Closed why) = kept_unmoved caller Ignored

pub step_kept : (caller : Caller) (call : Call) → IsKept caller (step caller call)
unfolding step
step_kept caller (ticks now) = kept_time caller caller.stage now
step_kept caller (hears port from message now) = kept_if caller (is_addr from (address_of caller.to port)) (heard caller caller.stage port message now) Ignored (kept_heard caller caller.stage port message now)
step_kept caller (reports seq) = kept_feedback caller caller.stage seq refl
step_kept caller closes = kept_close caller caller.stage
