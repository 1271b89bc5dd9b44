-- What opens an invitation, along any calls.
use Rattle.std.proofs.Common.{◌≡◌, ℕ, List, [], ◌∷◌, ◌++◌, refl, sym, ap, subst, ◌∙◌, append_assoc, arith}
use Rattle.std.specs.Prelude.{⊤, fold, All}
use Rattle.std.proofs.lemmas.List.{append-nil}
use Rattle.std.proofs.lemmas.List.Elements.{All-push}
use Rattle.jm_edge.specs.declared.Addr.{Addr}
use Rattle.apple_msg.specs.declared.message.Message.TheVariants.{Accept}
use Rattle.apple_session.specs.declared.answer.PortKind.TheVariants.{Ctl, Rtp}
use Rattle.apple_invite.specs.declared.stage.Stage.{Stage}
use Rattle.apple_invite.specs.declared.stage.Stage.TheVariants.{Fresh, AskCtl, AskRtp, Open, Closed}
use Rattle.apple_invite.specs.Caller.{Caller, address_of, fresh}
use Rattle.apple_invite.specs.Machine.{Call, hears, step}
use Rattle.apple_invite.specs.Calls.{after_call, WasTaken, Ends, WasOpened}
use Rattle.apple_invite.specs.Laws.{OpenWasTakenTwice}
use Rattle.apple_invite.proofs.Stages.{stage_by}
use Rattle.apple_invite.proofs.Kept.{step_kept}

-- what was heard where the invitation has come so far
abbrev Stands : Addr → (token : ℕ) → List Call → Stage → Type 0
Stands to token calls Fresh = ⊤
Stands to token calls (AskCtl tries due) = ⊤
Stands to token calls (AskRtp host tries due) = WasTaken to token host calls
Stands to token calls (Open host due asked) = WasOpened to token host calls
Stands to token calls (Closed why) = ⊤

-- ---- one more call

taken_on : (to : Addr) (token host : ℕ) (calls : List Call) (call : Call) → WasTaken to token host calls → WasTaken to token host (calls ++ call ∷ [])
taken_on to token host calls call w = record {
  earlier = w.earlier;
  later = w.later ++ call ∷ [];
  name = w.name;
  now = w.now;
  parts = ap (λ (x : List Call). x ++ call ∷ []) w.parts ∙ append_assoc w.earlier (hears Ctl (address_of to Ctl) (Accept token host w.name) w.now ∷ w.later) (call ∷ []);
}

opened_on : (to : Addr) (token host : ℕ) (calls : List Call) (call : Call) → WasOpened to token host calls → (Ends to host call → ⊥) → WasOpened to token host (calls ++ call ∷ [])
opened_on to token host calls call w on = record {
  earlier = w.earlier;
  later = w.later ++ call ∷ [];
  name = w.name;
  now = w.now;
  parts = ap (λ (x : List Call). x ++ call ∷ []) w.parts ∙ append_assoc w.earlier (hears Rtp (address_of to Rtp) (Accept token host w.name) w.now ∷ w.later) (call ∷ []);
  taken = w.taken;
  since = All-push (λ (c : Call). Ends to host c → ⊥) w.later call w.since on;
}

no_call : (P : Call → Type 0) → All P []
no_call P = λ k d h. absurd (omega arith)

stands_on : (caller : Caller) (calls : List Call) (call : Call) → Stands caller.to caller.token calls caller.stage → Stands caller.to caller.token (calls ++ call ∷ []) (step caller call).caller.stage
stands_on caller calls call h =
    let to : Addr = caller.to in
    let token : ℕ = caller.token in
    stage_by (Stands to token (calls ++ call ∷ [])) caller call (record {
      fresh = tt;
      asking = λ tries due. tt;
      closed = λ why. tt;
      taken = λ host name now due is. record { earlier = calls; later = []; name = name; now = now; parts = ap (λ (x : Call). calls ++ x ∷ []) is };
      waiting = λ host tries due tries' due' is. taken_on to token host calls call (subst (Stands to token calls) is h);
      opened = λ host tries due name now due' asked is says.
          record {
            earlier = calls;
            later = [];
            name = name;
            now = now;
            parts = ap (λ (x : Call). calls ++ x ∷ []) says;
            taken = subst (Stands to token calls) is h;
            since = no_call (λ (c : Call). Ends to host c → ⊥);
          };
      open_on = λ host due asked due' asked' is on. opened_on to token host calls call (subst (Stands to token calls) is h) on;
    })

-- ---- any calls

-- the address and the token stay
stands_along : (to : Addr) (token : ℕ) (calls before : List Call) (caller : Caller) → caller.to ≡ to → caller.token ≡ token
    → Stands to token before caller.stage → Stands to token (before ++ calls) (fold after_call caller calls).stage
stands_along to token [] before caller a t h = subst (λ (x : List Call). Stands to token x caller.stage) (sym (append-nil before)) h
stands_along to token (call ∷ calls) before caller a t h =
    let next : Caller = (step caller call).caller in
    let its_address : next.to ≡ to = ap (λ (c : Caller). c.to) (step_kept caller call).same ∙ a in
    let its_token : next.token ≡ token = ap (λ (c : Caller). c.token) (step_kept caller call).same ∙ t in
    let own : Stands caller.to caller.token before caller.stage = subst (λ (x : Addr). Stands x caller.token before caller.stage) (sym a) (subst (λ (k : ℕ). Stands to k before caller.stage) (sym t) h) in
    let one : Stands caller.to caller.token (before ++ call ∷ []) next.stage = stands_on caller before call own in
    let here : Stands to token (before ++ call ∷ []) next.stage = subst (λ (x : Addr). Stands x token (before ++ call ∷ []) next.stage) a (subst (λ (k : ℕ). Stands caller.to k (before ++ call ∷ []) next.stage) t one) in
    subst (λ (x : List Call). Stands to token x (fold after_call next calls).stage) (append_assoc before (call ∷ []) calls)
    (stands_along to token calls (before ++ call ∷ []) next its_address its_token here)

pub open_was_taken_twice : OpenWasTakenTwice
open_was_taken_twice ssrc token name to calls host due asked is =
    subst (Stands to token calls) is (stands_along to token calls [] (fresh ssrc token name to) refl refl tt)
