use Rattle.std.proofs.Common.{rules, ◌≡◌}
use Rattle.jm_cmds.specs.SysexMade.{unmarked}
use Rattle.jm_cmds.specs.DataLaws.{IsSysex-unmarked}
use Rattle.jm_cmds.proofs.system_exclusive.Sysex.of_marked.Goals as goal

pub invariant_of-result : goal.invariant_of-result
invariant_of-result c =
    let made : c.in_ok-collect.field-0.items ≡ unmarked c.args.octets.now = search rules in
    rw made (IsSysex-unmarked c.args.octets.now c.requires)
