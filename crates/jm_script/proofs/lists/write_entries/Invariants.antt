-- Those so far are written, and those from here on are still to be.
use Rattle.std.proofs.Common.{drop}
use Rattle.jm_wire.specs.Octets.{Owes}
use Rattle.jm_script.specs.ListText.{reports_text}
use Rattle.jm_script.proofs.lists.write_entries.Given as goal

abbrev pub invariant-loop-entry : goal.invariant-loop-entry
invariant-loop-entry l = Owes l.initial.out l.out (reports_text l.ssrc l.entries) (reports_text l.ssrc (drop l.entry-index l.entries))
