use Rattle.std.proofs.Common.{length}
use Rattle.jm_wire.specs.Octets.{Owes}
use Rattle.jm_cmds.specs.History.{standing}
use Rattle.jm_chapter.specs.Logs.{texts}
use Rattle.jm_chapter.proofs.listed.write_logs.Given as goal

abbrev pub invariant-loop-place : goal.invariant-loop-place
invariant-loop-place g l =
    let ends = g.C.Items.ends l.chapter in
    let logs_at = g.C.Listed.logs l.chapter l.session in
    Owes l.initial.out l.out (texts logs_at l.packet (standing ends l.places)) (texts logs_at l.packet (standing ends l.rest))

abbrev pub decreases-loop-place : goal.decreases-loop-place
decreases-loop-place g l = length l.rest
