-- The answers of `accept` keep a receiver in step.
use Rattle.std.proofs.Common.{◌≡◌, ℕ, ◌+◌, List, ◌++◌, Option, Some, sym, ap, subst, ◌∙◌, arith}
use Rattle.std.specs.Prelude.{Result, Ok, Err}
use Rattle.jm_cmds.specs.declared.history.Sent.{Sent}
use Rattle.jm_cmds.specs.declared.outcome.ReadError.{ReadError}
use Rattle.jm_cmds.specs.declared.outcome.ReadError.TheVariants as errors
use Rattle.jm_cmds.specs.History.{below, since, InOrder}
use Rattle.jm_cmds.specs.HistoryLaws.{InOrder-filter}
use Rattle.jm_cmds.specs.Sent.{packet_of}
use Rattle.jm_state.specs.Replay.{in_two}
use Rattle.jm_receiver.specs.declared.opening.AcceptFault.{AcceptFault}
use Rattle.jm_receiver.specs.declared.receiver.Took.{Took}
use Rattle.jm_receiver.specs.Receiver.{Received}
use Rattle.jm_receiver.specs.Accept.{accepted, Accepts}
use Rattle.jm_receiver.specs.Agreement.{Agrees}
use Rattle.jm_receiver.specs.InStep.{first_lacking, IsLongBegun, IsTaken}
use Rattle.jm_receiver.specs.Repairs.{below_next}
use Rattle.jm_receiver.specs.StaysInStep.{commands_of, IsInStep, IsStep, TakesInStep, StaysInStep}
use Rattle.jm_receiver.specs.Whole.{accepted_whole, ok_value}
use Rattle.jm_receiver.proofs.InStepLaws.{receivers_come_in_step}

-- the packets before this one with its own commands
pub with_own : (packet : ℕ) (sent : List Sent) → InOrder packet_of sent → below packet_of packet sent ++ commands_of packet sent ≡ below packet_of (packet + 1) sent
with_own packet sent o =
    let all = below packet_of (packet + 1) sent in
    ap (λ (front : List Sent). front ++ since packet_of packet all) (sym (below_next packet (packet + 1) sent (omega arith)))
    ∙ sym (in_two packet_of packet all (InOrder-filter packet_of _ sent o))

step_taken : (r : Received) (octets : List ℕ) (packet : ℕ) (sent : List Sent) (took : Took) (after : Received) → InOrder packet_of sent → IsInStep r sent → accepted r octets ≡ Ok (after, took) →
    IsTaken r octets packet (below packet_of packet sent) (commands_of packet sent) → IsStep r packet sent took after
step_taken r octets packet sent took after o in_step answer t =
    let both = ok_value {E = AcceptFault} (t.after, t.took) (after, took) (sym t.taken ∙ answer) in
    let same_after : t.after ≡ after = ap (λ (p : Received × Took). p.0) both in
    let same_took : t.took ≡ took = ap (λ (p : Received × Took). p.1) both in
    let number : after.last ≡ Some packet = ap (λ (x : Received). x.last) (sym same_after) ∙ t.number in
    record {
      ssrc = ap (λ (x : Received). x.ssrc) (sym same_after) ∙ t.ssrc;
      number = number;
      told = ap (λ (x : Took). x.number) (sym same_took) ∙ t.told;
      missed = λ last some. ap (λ (x : Took). last + 1 + x.gap) (sym same_took) ∙ t.missed last some;
      in_step = record {
        received = accepted_whole r octets after took in_step.received answer;
        unfinished = subst (λ (x : Received). IsLongBegun x.unfinished) same_after t.unfinished;
        agrees =
            let up_to : below packet_of packet sent ++ commands_of packet sent ≡ below packet_of (first_lacking after.last) sent =
            with_own packet sent o ∙ ap (λ (last : Option ℕ). below packet_of (first_lacking last) sent) (sym number) in
            subst (λ (list : List Sent). Agrees after.state list) up_to (subst (λ (x : Received). Agrees x.state (below packet_of packet sent ++ commands_of packet sent)) same_after t.in_step);
      };
    }

refused : (r : Received) (octets : List ℕ) (packet : ℕ) (before own : List Sent) (fault : AcceptFault) → accepted r octets ≡ Err fault → IsTaken r octets packet before own → ⊥
refused r octets packet before own fault h t =
    let both : ◌≡◌ {A = Result (Received × Took) AcceptFault} (Ok (t.after, t.took)) (Err fault) = sym t.taken ∙ h in cc

-- What `accept` answers keeps a receiver in step.
pub stays_in_step : (r : Received) (octets : List ℕ) (result : Result Took (ReadError AcceptFault)) (after : Received) → Accepts result after (accepted r octets) → StaysInStep r octets result after
unfolding StaysInStep
stays_in_step r octets result after h checkpoint packet sent stands session early tells in_step =
    let taken = receivers_come_in_step r octets stands.read checkpoint packet stands.tick sent (commands_of packet sent) stands.opens stands.says session.commands session.ordered session.few early tells in_step.received in_step.unfinished in_step.agrees in
    by_answer result h taken
  where
    by_answer : (result : Result Took (ReadError AcceptFault)) → Accepts result after (accepted r octets) → IsTaken r octets packet (below packet_of packet sent) (commands_of packet sent) → TakesInStep r packet sent result after
    by_answer (Ok took) h taken = step_taken r octets packet sent took after session.ordered in_step h taken
    by_answer (Err errors.Memory) h taken = tt
    by_answer (Err (errors.Fault fault)) h taken = refused r octets packet (below packet_of packet sent) (commands_of packet sent) fault h taken
