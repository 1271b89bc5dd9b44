use Rattle.std.proofs.Common.{length, ap, Option, Result, Ok, List}
use Rattle.jm_cmds.specs.declared.commands.Command.{Command}
use Rattle.jm_smf.specs.declared.fault.FileFault.{FileFault}
use Rattle.jm_smf.proofs.Loops.{one_command, no_command, all_commands, too_many, none_left, some_left}
use Rattle.jm_smf.proofs.escape.read_commands.Goals as goal

abbrev told : Option (List Command) → Result (Option (List Command)) FileFault
told read = Ok read

pub returns-then-is_empty : goal.returns-then-is_empty
returns-then-is_empty c =
    ap told (all_commands _ c.loop.commands (length c.args.text.now) c.loop.counter c.loop.rest.now (none_left _ c.loop.rest.now c.is_empty.ensures c.if-is_empty.true) c.loop.invariant)

pub returns-in-Err-Fault : goal.returns-in-Err-Fault
returns-in-Err-Fault c =
    ap told (no_command _ c.loop.commands (length c.args.text.now) c.loop.counter c.loop.rest.now c.in-Err-Fault.field-0-0 c.loop-test.true (some_left _ c.loop.rest.now c.is_empty.ensures c.if-is_empty.false) (rw c.in-Err-Fault.field-0-is at c.in-Err-Fault.ensures.answer) c.loop.invariant)

pub loop-preserved : goal.loop-preserved
loop-preserved c =
    rw (c.in_ok-push-in-Ok.ensures, c.behind-rest.ensures)
    (one_command _ c.loop.commands (length c.args.text.now) c.loop.counter c.loop.rest.now c.in-Ok.command c.in-Ok.used c.loop-test.true (some_left _ c.loop.rest.now c.is_empty.ensures c.if-is_empty.false) c.in-Ok.ensures.answer c.loop.invariant)

pub returns-then-is_empty-2 : goal.returns-then-is_empty-2
returns-then-is_empty-2 c =
    ap told (all_commands _ c.loop.commands (length c.args.text.now) c.loop.counter c.loop.rest.now (none_left _ c.loop.rest.now c.is_empty-2.ensures c.if-is_empty-2.true) c.loop.invariant)

pub returns : goal.returns
returns c =
    ap told (too_many _ c.loop.commands (length c.args.text.now) c.loop.counter c.loop.rest.now c.loop-test.false (some_left _ c.loop.rest.now c.is_empty-2.ensures c.if-is_empty-2.false) c.loop.invariant)
