use Rattle.std.proofs.Common.{refl, true, false}
use Rattle.jm_serve.specs.Acts.{Scene}
use Rattle.jm_serve.proofs.Departing.{ended_packet, ended_full, ended_no_memory, departs, ended_full_then, ended_no_memory_then}
use Rattle.jm_serve.proofs.pumping.part_once.Goals as goal

pub returns-in-Err-clause-parts : goal.returns-in-Err-clause-parts
returns-in-Err-clause-parts g c = λ departures few. ended_no_memory _ _ departures _ _ _ c.in-Err.ensures.cuts

pub returns-in-Packet-clause-parts : goal.returns-in-Packet-clause-parts
returns-in-Packet-clause-parts g c = λ departures few. ended_packet _ _ _ departures _ _ (rw c.in-Packet.is at c.in-Ok.ensures.cuts)

pub returns-in-RecordFull-clause-parts : goal.returns-in-RecordFull-clause-parts
returns-in-RecordFull-clause-parts g c = λ departures few. ended_full _ _ _ departures _ _ (rw c.in-RecordFull.is at c.in-Ok.ensures.cuts)

pub returns-in-Err-leave_once-clause-parts : goal.returns-in-Err-leave_once-clause-parts
returns-in-Err-leave_once-clause-parts g c =
    let start : Scene = record { pass = c.args.pass.now; wire = g.P.Port.wire c.args.port.now; call = c.args.call.now; faults = c.args.faults.now } in
    let middle : Scene = record { pass = c.cut_once.new.pass; wire = g.P.Port.wire c.cut_once.new.port; call = c.cut_once.new.call; faults = c.cut_once.new.faults } in
    let now : Scene = record { pass = c.leave_once.new.pass; wire = g.P.Port.wire c.cut_once.new.port; call = c.leave_once.new.call; faults = c.cut_once.new.faults } in
    λ departures few. ended_no_memory_then c.args.desk.now c.args.now c.in-Behind.ssrc c.in-Behind._mark start middle now (rw c.in-Behind.is at c.in-Ok.ensures.cuts) refl refl c.in-Err-leave_once.none departures few c.in-Err-leave_once.ensures.leaves

pub returns-in-RecordFull-gone-clause-parts : goal.returns-in-RecordFull-gone-clause-parts
returns-in-RecordFull-gone-clause-parts g c =
    let start : Scene = record { pass = c.args.pass.now; wire = g.P.Port.wire c.args.port.now; call = c.args.call.now; faults = c.args.faults.now } in
    let middle : Scene = record { pass = c.cut_once.new.pass; wire = g.P.Port.wire c.cut_once.new.port; call = c.cut_once.new.call; faults = c.cut_once.new.faults } in
    let now : Scene = record { pass = c.leave_once.new.pass; wire = g.P.Port.wire c.cut_once.new.port; call = c.leave_once.new.call; faults = c.cut_once.new.faults } in
    λ departures few. ended_full_then c.args.desk.now c.args.now c.in-Behind.ssrc c.in-Behind._mark start middle now (rw c.in-Behind.is at c.in-Ok.ensures.cuts) refl refl c.in-RecordFull-gone.events departures few (rw c.in-RecordFull-gone.is at c.in-Ok-leave_once.ensures.leaves)

pub returns-in-Left-clause-parts : goal.returns-in-Left-clause-parts
returns-in-Left-clause-parts g c =
    let start : Scene = record { pass = c.args.pass.now; wire = g.P.Port.wire c.args.port.now; call = c.args.call.now; faults = c.args.faults.now } in
    let middle : Scene = record { pass = c.cut_once.new.pass; wire = g.P.Port.wire c.cut_once.new.port; call = c.cut_once.new.call; faults = c.cut_once.new.faults } in
    let now : Scene = record { pass = c.leave_once.new.pass; wire = g.P.Port.wire c.cut_once.new.port; call = c.leave_once.new.call; faults = c.cut_once.new.faults } in
    departs c.args.desk.now c.args.now c.in-Behind.ssrc c.in-Behind._mark start middle now (rw c.in-Behind.is at c.in-Ok.ensures.cuts) refl refl true (rw c.in-Left.is at c.in-Ok-leave_once.ensures.leaves)

pub returns-in-UnknownSsrc-clause-parts : goal.returns-in-UnknownSsrc-clause-parts
returns-in-UnknownSsrc-clause-parts g c =
    let start : Scene = record { pass = c.args.pass.now; wire = g.P.Port.wire c.args.port.now; call = c.args.call.now; faults = c.args.faults.now } in
    let middle : Scene = record { pass = c.cut_once.new.pass; wire = g.P.Port.wire c.cut_once.new.port; call = c.cut_once.new.call; faults = c.cut_once.new.faults } in
    let now : Scene = record { pass = c.leave_once.new.pass; wire = g.P.Port.wire c.cut_once.new.port; call = c.leave_once.new.call; faults = c.cut_once.new.faults } in
    departs c.args.desk.now c.args.now c.in-Behind.ssrc c.in-Behind._mark start middle now (rw c.in-Behind.is at c.in-Ok.ensures.cuts) refl refl false (rw c.in-UnknownSsrc.is at c.in-Ok-leave_once.ensures.leaves)
