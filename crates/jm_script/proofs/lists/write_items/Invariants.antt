-- Those so far are written, and those from here on are still to be.
use Rattle.std.proofs.Common.{drop}
use Rattle.jm_wire.specs.Octets.{Owes}
use Rattle.jm_script.specs.ListText.{items_text}
use Rattle.jm_script.proofs.lists.write_items.Given as goal

abbrev pub invariant-loop-item : goal.invariant-loop-item
invariant-loop-item l = Owes l.initial.out l.out (items_text l.items) (items_text (drop l.item-index l.items))
