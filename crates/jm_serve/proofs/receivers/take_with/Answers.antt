use Rattle.jm_serve.specs.Receivers.{was_taken}
use Rattle.jm_serve.proofs.Taking.{with_fault, with_no_memory}
use Rattle.jm_serve.proofs.receivers.take_with.Goals as goal

pub returns-in-Err-Memory : goal.returns-in-Err-Memory
returns-in-Err-Memory c = with_no_memory c.args.place c.args.octets.now c.args.slot.now c.accept.new.self (record {}) c.in-Err-Memory.ensures.unchanged

pub returns-in-Err-Fault : goal.returns-in-Err-Fault
returns-in-Err-Fault c =
    with_fault c.args.place c.args.octets.now c.args.slot.now c.accept.new.self c.in-Err-Fault._fault c.in-Err-Fault.ensures.unchanged (rw c.in-Err-Fault.field-0-is at c.in-Err-Fault.ensures.accepts)

pub returns-in-Ok : goal.returns-in-Ok
returns-in-Ok c = was_taken c.accept.new.self c.in-Ok.took c.in-Ok.ensures.accepts
