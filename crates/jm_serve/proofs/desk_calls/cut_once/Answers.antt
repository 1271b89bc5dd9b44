use Rattle.std.proofs.Common.{[], refl}
use Rattle.jm_book.specs.declared.steps.Step.TheVariants as step
use Rattle.jm_book.specs.declared.answers.Cutted.TheVariants as cutted
use Rattle.jm_desk.specs.declared.turn.Outcome.TheVariants as outcome
use Rattle.jm_desk.specs.History.{before_last}
use Rattle.jm_desk.specs.Sharing.{config_of}
use Rattle.jm_serve.specs.Pump.{packet_letters}
use Rattle.jm_serve.proofs.Joins.{works_call, posts_nothing}
use Rattle.jm_serve.proofs.Departing.{packet_posts}
use Rattle.jm_serve.proofs.desk_calls.cut_once.Goals as goal

pub returns-in-Err-clause-cuts : goal.returns-in-Err-clause-cuts
returns-in-Err-clause-cuts g c =
    let wire = g.P.Port.wire c.args.port.now in
    record {
      before = before_last c.cut-came.new.pass.view.seen;
      works = works_call c.args.desk.now c.args.pass.now c.cut-came.new.pass (step.Cut c.args.now) outcome.NoMemory [] wire wire c.args.call.now _ c.args.faults.now c.args.faults.now
          c.in-Err.ensures.turn (posts_nothing c.args.faults.now wire) refl;
    }

pub returns-in-RecordFull-clause-cuts : goal.returns-in-RecordFull-clause-cuts
returns-in-RecordFull-clause-cuts g c =
    let wire = g.P.Port.wire c.args.port.now in
    record {
      before = before_last c.cut-came.new.pass.view.seen;
      works = works_call c.args.desk.now c.args.pass.now c.cut-came.new.pass (step.Cut c.args.now) (outcome.Cut (cutted.RecordFull c.in-RecordFull.events)) [] wire wire c.args.call.now _ c.args.faults.now c.args.faults.now
          (rw c.in-RecordFull.is at c.in-Ok.ensures.turn) (posts_nothing c.args.faults.now wire) refl;
    }

pub returns-in-Behind-clause-cuts : goal.returns-in-Behind-clause-cuts
returns-in-Behind-clause-cuts g c =
    let wire = g.P.Port.wire c.args.port.now in
    record {
      before = before_last c.cut-came.new.pass.view.seen;
      works = works_call c.args.desk.now c.args.pass.now c.cut-came.new.pass (step.Cut c.args.now) (outcome.Cut (cutted.Behind c.in-Behind.ssrc c.in-Behind.mark)) [] wire wire c.args.call.now _ c.args.faults.now c.args.faults.now
          (rw c.in-Behind.is at c.in-Ok.ensures.turn) (posts_nothing c.args.faults.now wire) refl;
    }

pub returns-in-Packet-clause-cuts : goal.returns-in-Packet-clause-cuts
returns-in-Packet-clause-cuts g c =
    let wire = g.P.Port.wire c.args.port.now in
    let wire' = g.P.Port.wire c.send_each.new.port in
    let before = before_last c.cut-came.new.pass.view.seen in
    record {
      before = before;
      works = works_call c.args.desk.now c.args.pass.now c.cut-came.new.pass (step.Cut c.args.now) (outcome.Cut (cutted.Packet c.in-Packet.number)) (packet_letters (config_of c.args.desk.now) before c.args.now) wire wire' c.args.call.now _ c.args.faults.now c.send_each.new.faults
          (rw c.in-Packet.is at c.in-Ok.ensures.turn)
          (packet_posts (config_of c.args.desk.now) before c.args.now c.clear.new.self c.cut-came.new.out c.cut-came.new.to c.as_slice-in-Packet.result.now c.as_slice.result.now c.args.faults.now c.send_each.new.faults wire wire' c.clear.ensures.octets
          ((rw c.in-Packet.is at c.in-Ok.ensures.packet) refl) ((rw c.in-Packet.is at c.in-Ok.ensures.addresses) refl) c.as_slice-in-Packet.ensures c.as_slice.ensures c.send_each.ensures.posts)
          refl;
    }
