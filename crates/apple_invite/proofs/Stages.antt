-- How far an invitation can come by one call.
use Rattle.std.proofs.Common.{◌≡◌, ◌≢◌, ℕ, ◌+◌, Bool, true, false, cond, eqb, ltb, List, [], ◌∷◌, Option, Some, None, eq-eqb, refl, ap, subst, sym, ◌∙◌, ◌&&◌}
use Rattle.std.specs.Prelude.{slice_index}
use Rattle.std.proofs.lemmas.Bool.{eqb-true, eqb-false}
use Rattle.std.specs.Cmp.Derive.{both_true}
use Rattle.jm_edge.specs.declared.Addr.{Addr}
use Rattle.apple_msg.specs.declared.message.Message.{Message}
use Rattle.apple_msg.specs.declared.message.Message.TheVariants.{Accept, Reject, Bye, Clock}
use Rattle.apple_session.specs.declared.answer.PortKind.{PortKind}
use Rattle.apple_session.specs.declared.answer.PortKind.TheVariants.{Ctl, Rtp}
use Rattle.apple_invite.specs.declared.dialed.DialAct.TheVariants.{Plain, Opened}
use Rattle.apple_invite.specs.declared.dialed.EndCause.{EndCause}
use Rattle.apple_invite.specs.declared.dialed.EndCause.TheVariants as cause
use Rattle.apple_invite.specs.declared.stage.Stage.{Stage}
use Rattle.apple_invite.specs.declared.stage.Stage.TheVariants.{Fresh, AskCtl, AskRtp, Open, Closed}
use Rattle.apple_invite.specs.Caller.{Caller, address_of}
use Rattle.apple_invite.specs.Machine.{Outcome, unmoved, ignored, ended, waits, on_message, asks_control, asks_data, asks_clock, asked_control, asked_data, is_asked, clocked, in_session, heard, is_addr, Call, ticks, hears, reports, closes, step}
use Rattle.apple_invite.specs.Calls.{Ends}

-- ---- addresses

pub addr_is : (this that : Addr) → is_addr this that ≡ true → this ≡ that
addr_is this that =
    elim (eqb this.host that.host) as (λ (b : Bool). eqb this.host that.host ≡ b → (b && eqb this.port that.port) ≡ true → this ≡ that) [
      | false ↦ λ _ e. absurd cc
      | true ↦ λ h e.
          let same_host : this.host ≡ that.host = eqb-true this.host that.host h in
          let same_port : this.port ≡ that.port = eqb-true this.port that.port e in
          ap (λ (k : ℕ). let a : Addr = record { host = k; port = this.port } in a) same_host ∙ ap (λ (k : ℕ). let a : Addr = record { host = that.host; port = k } in a) same_port
    ] refl

not_addr : (this that : Addr) → is_addr this that ≡ false → this ≢ that
not_addr this that e same =
    let itself : is_addr this this ≡ true = both_true (eq-eqb this.host this.host refl) (eq-eqb this.port this.port refl) in
    let both : is_addr this this ≡ false = subst (λ (a : Addr). is_addr this a ≡ false) (sym same) e in
    absurd cc

-- ---- the cases of a call

abbrev made : (ssrc token : ℕ) (name : List ℕ) → Addr → Stage → Caller
made ssrc token name to stage = record { ssrc = ssrc; token = token; name = name; to = to; stage = stage }

-- what has to hold of each stage that a call may leave
pub record StageCases (Q : Stage → Type 0) (caller : Caller) (call : Call) : Type 0 where
  pub fresh : Q Fresh
  pub asking : (tries due : ℕ) → Q (AskCtl tries due)
  pub closed : (why : EndCause) → Q (Closed why)
  -- the control port says OK
  pub taken : (host : ℕ) (name : List ℕ) (now due : ℕ) → call ≡ hears Ctl (address_of caller.to Ctl) (Accept caller.token host name) now → Q (AskRtp host 1 due)
  -- the data port is asked, and was before
  pub waiting : (host tries due tries' due' : ℕ) → caller.stage ≡ AskRtp host tries due → Q (AskRtp host tries' due')
  -- it says OK
  pub opened : (host tries due : ℕ) (name : List ℕ) (now due' : ℕ) (asked : Option ℕ) → caller.stage ≡ AskRtp host tries due → call ≡ hears Rtp (address_of caller.to Rtp) (Accept caller.token host name) now → Q (Open host due' asked)
  -- it was open, and the call is no end
  pub open_on : (host due : ℕ) (asked : Option ℕ) (due' : ℕ) (asked' : Option ℕ) → caller.stage ≡ Open host due asked → (Ends caller.to host call → ⊥) → Q (Open host due' asked')

abbrev Leaves : (Stage → Type 0) → Outcome → Type 0
Leaves Q outcome = Q outcome.caller.stage

-- a port that was asked
waits_by : (Q : Stage → Type 0) (caller : Caller) (tries due now : ℕ) (again : Outcome) → Q caller.stage → Q (Closed cause.NoAnswer) → Leaves Q again → Leaves Q (waits caller tries due now again)
waits_by Q caller tries due now again same end more =
    elim (ltb now due) as (λ (b : Bool). Leaves Q (cond b (unmoved caller Plain) (cond (ltb tries 12) again (ended caller cause.NoAnswer)))) [
      | true ↦ same
      | false ↦ elim (ltb tries 12) as (λ (b : Bool). Leaves Q (cond b again (ended caller cause.NoAnswer))) [
        | true ↦ more
        | false ↦ end
      ]
    ]

-- a message counts where it comes from the host's address of its port
counted_by : (Q : Stage → Type 0) (caller : Caller) (port : PortKind) (from : Addr) (message : Message) (now : ℕ)
    → (is_addr from (address_of caller.to port) ≡ false → Q caller.stage)
    → (from ≡ address_of caller.to port → Leaves Q (heard caller caller.stage port message now))
    → Leaves Q (on_message caller port from message now)
counted_by Q caller port from message now stranger own =
    elim (is_addr from (address_of caller.to port)) as (λ (b : Bool). is_addr from (address_of caller.to port) ≡ b → Leaves Q (cond b (heard caller caller.stage port message now) (ignored caller))) [
      | true ↦ λ e. own (addr_is from (address_of caller.to port) e)
      | false ↦ λ e. stranger e
    ] refl

control_by : (Q : Stage → Type 0) (caller : Caller) (port : PortKind) (from : Addr) (message : Message) (now : ℕ)
    → StageCases Q caller (hears port from message now) → from ≡ address_of caller.to port → Q caller.stage → Leaves Q (asked_control caller port message now)
control_by Q caller Ctl from (Accept token host name) now c at same =
    elim (eqb token caller.token) as (λ (b : Bool). eqb token caller.token ≡ b → Leaves Q (cond b (asks_data caller host 1 now) (ignored caller))) [
      | true ↦ λ t. c.taken host name now (now + 10000) (ap (λ (a : Addr). hears Ctl a (Accept token host name) now) at ∙ ap (λ (k : ℕ). hears Ctl (address_of caller.to Ctl) (Accept k host name) now) (eqb-true token caller.token t))
      | false ↦ λ _. same
    ] refl
control_by Q caller Ctl from (Reject token host name) now c at same =
    elim (eqb token caller.token) as (λ (b : Bool). Leaves Q (cond b (ended caller cause.Rejected) (ignored caller))) [
      | true ↦ c.closed cause.Rejected
      | false ↦ same
    ]
control_by Q caller port from message now c at same = same

data_by : (Q : Stage → Type 0) (caller : Caller) (host tries due : ℕ) (port : PortKind) (from : Addr) (message : Message) (now : ℕ)
    → StageCases Q caller (hears port from message now) → caller.stage ≡ AskRtp host tries due → from ≡ address_of caller.to port → Q caller.stage → Leaves Q (asked_data caller host port message now)
data_by Q caller host tries due Rtp from (Accept token ssrc name) now c asks at same =
    elim (eqb token caller.token) as (λ (b : Bool). eqb token caller.token ≡ b → Leaves Q (cond (b && eqb ssrc host) (asks_clock caller host now Opened) (ignored caller))) [
      | false ↦ λ _. same
      | true ↦ λ t. elim (eqb ssrc host) as (λ (b : Bool). eqb ssrc host ≡ b → Leaves Q (cond b (asks_clock caller host now Opened) (ignored caller))) [
        | false ↦ λ _. same
        | true ↦ λ h. c.opened host tries due name now (now + 100000) (Some now) asks
            (ap (λ (a : Addr). hears Rtp a (Accept token ssrc name) now) at
            ∙ ap (λ (k : ℕ). hears Rtp (address_of caller.to Rtp) (Accept k ssrc name) now) (eqb-true token caller.token t)
            ∙ ap (λ (k : ℕ). hears Rtp (address_of caller.to Rtp) (Accept caller.token k name) now) (eqb-true ssrc host h))
      ] refl
    ] refl
data_by Q caller host tries due Rtp from (Reject token ssrc name) now c asks at same =
    elim (eqb token caller.token) as (λ (b : Bool). Leaves Q (cond b (ended caller cause.Rejected) (ignored caller))) [
      | true ↦ c.closed cause.Rejected
      | false ↦ same
    ]
data_by Q caller host tries due port from (Bye token ssrc) now c asks at same =
    elim (eqb ssrc host) as (λ (b : Bool). Leaves Q (cond b (ended caller cause.Bye) (ignored caller))) [
      | true ↦ c.closed cause.Bye
      | false ↦ same
    ]
data_by Q caller host tries due port from message now c asks at same = same

-- in a session only a bye ends it
session_by : (Q : Stage → Type 0) (caller : Caller) (host due : ℕ) (asked : Option ℕ) (port : PortKind) (from : Addr) (message : Message) (now : ℕ)
    → Q (Closed cause.Bye)
    → ((due' : ℕ) (asked' : Option ℕ) → (Ends caller.to host (hears port from message now) → ⊥) → Q (Open host due' asked'))
    → caller.stage ≡ Open host due asked
    → Leaves Q (in_session caller host due asked port message now)
session_by Q caller host due asked Rtp from (Clock ssrc count times) now bye on is =
    let same : Q caller.stage = subst Q (sym is) (on due asked (λ ends. ends.1)) in
    elim (eqb ssrc host && eqb count 1 && is_asked asked (slice_index times 0)) as (λ (b : Bool). Leaves Q (cond b (clocked caller host due (slice_index times 0 ∷ slice_index times 1 ∷ now ∷ [])) (ignored caller))) [
      | true ↦ on due None (λ ends. ends.1)
      | false ↦ same
    ]
session_by Q caller host due asked port from (Bye token ssrc) now bye on is =
    elim (eqb ssrc host) as (λ (b : Bool). eqb ssrc host ≡ b → Leaves Q (cond b (ended caller cause.Bye) (ignored caller))) [
      | true ↦ λ _. bye
      | false ↦ λ other. subst Q (sym is) (on due asked (λ ends. eqb-false ssrc host other ends.1))
    ] refl
session_by Q caller host due asked port from message now bye on is = subst Q (sym is) (on due asked (λ ends. ends.1))

-- ---- any call

-- from the parts of a caller, by its stage and the call
by_parts : (Q : Stage → Type 0) (ssrc token : ℕ) (name : List ℕ) (to : Addr) (stage : Stage) (call : Call)
    → StageCases Q (made ssrc token name to stage) call → Leaves Q (step (made ssrc token name to stage) call)
unfolding step
by_parts Q ssrc token name to Fresh (ticks now) c = c.asking 1 (now + 10000)
by_parts Q ssrc token name to Fresh (hears port from message now) c = counted_by Q (made ssrc token name to Fresh) port from message now (λ _. c.fresh) (λ _. c.fresh)
by_parts Q ssrc token name to Fresh (reports seq) c = c.fresh
by_parts Q ssrc token name to Fresh closes c = c.fresh
by_parts Q ssrc token name to (AskCtl tries due) (ticks now) c =
    let caller : Caller = made ssrc token name to (AskCtl tries due) in
    waits_by Q caller tries due now (asks_control caller (tries + 1) now) (c.asking tries due) (c.closed cause.NoAnswer) (c.asking (tries + 1) (now + 10000))
by_parts Q ssrc token name to (AskCtl tries due) (hears port from message now) c =
    let caller : Caller = made ssrc token name to (AskCtl tries due) in
    counted_by Q caller port from message now (λ _. c.asking tries due) (λ at. control_by Q caller port from message now c at (c.asking tries due))
by_parts Q ssrc token name to (AskCtl tries due) (reports seq) c = c.asking tries due
by_parts Q ssrc token name to (AskCtl tries due) closes c = c.closed cause.Ours
by_parts Q ssrc token name to (AskRtp host tries due) (ticks now) c =
    let caller : Caller = made ssrc token name to (AskRtp host tries due) in
    waits_by Q caller tries due now (asks_data caller host (tries + 1) now) (c.waiting host tries due tries due refl) (c.closed cause.NoAnswer) (c.waiting host tries due (tries + 1) (now + 10000) refl)
by_parts Q ssrc token name to (AskRtp host tries due) (hears port from message now) c =
    let caller : Caller = made ssrc token name to (AskRtp host tries due) in
    let same : Q (AskRtp host tries due) = c.waiting host tries due tries due refl in
    counted_by Q caller port from message now (λ _. same) (λ at. data_by Q caller host tries due port from message now c refl at same)
by_parts Q ssrc token name to (AskRtp host tries due) (reports seq) c = c.waiting host tries due tries due refl
by_parts Q ssrc token name to (AskRtp host tries due) closes c = c.closed cause.Ours
by_parts Q ssrc token name to (Open host due asked) (ticks now) c =
    let caller : Caller = made ssrc token name to (Open host due asked) in
    elim (ltb now due) as (λ (b : Bool). Leaves Q (cond b (unmoved caller Plain) (asks_clock caller host now Plain))) [
      | true ↦ c.open_on host due asked due asked refl (λ ends. ends)
      | false ↦ c.open_on host due asked (now + 100000) (Some now) refl (λ ends. ends)
    ]
by_parts Q ssrc token name to (Open host due asked) (hears port from message now) c =
    let caller : Caller = made ssrc token name to (Open host due asked) in
    counted_by Q caller port from message now
    (λ stranger. c.open_on host due asked due asked refl (λ ends. not_addr from (address_of to port) stranger ends.0))
    (λ _. session_by Q caller host due asked port from message now (c.closed cause.Bye) (λ due' asked' on. c.open_on host due asked due' asked' refl on) refl)
by_parts Q ssrc token name to (Open host due asked) (reports seq) c = c.open_on host due asked due asked refl (λ ends. ends)
by_parts Q ssrc token name to (Open host due asked) closes c = c.closed cause.Ours
by_parts Q ssrc token name to (Closed why) (ticks now) c = c.closed why
by_parts Q ssrc token name to (Closed why) (hears port from message now) c = counted_by Q (made ssrc token name to (Closed why)) port from message now (λ _. c.closed why) (λ _. c.closed why)
by_parts Q ssrc token name to (Closed why) (reports seq) c = c.closed why
by_parts Q ssrc token name to (Closed why) closes c = c.closed why

-- what holds in each case of each stage that a call may leave holds of the stage that it leaves
pub stage_by : (Q : Stage → Type 0) (caller : Caller) (call : Call) → StageCases Q caller call → Q (step caller call).caller.stage
stage_by Q caller call c = by_parts Q caller.ssrc caller.token caller.name caller.to caller.stage call c
