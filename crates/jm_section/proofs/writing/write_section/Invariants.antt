use Rattle.std.proofs.Common.{drop}
use Rattle.jm_wire.specs.Octets.{Owes}
use Rattle.jm_section.specs.Section.{section, items_text}
use Rattle.jm_section.proofs.writing.write_section.Given as goal

abbrev pub invariant-loop-item : goal.invariant-loop-item
invariant-loop-item l =
    Owes l.fn.out l.out (section l.list l.journal) (items_text l.place (drop l.item-index l.list))
