use Rattle.std.proofs.Common.{◌≡◌, ◌+◌, length, drop}
use Rattle.jm_section.specs.declared.next.Place.TheVariants.{First}
use Rattle.jm_section.specs.Section.{items_text}
use Rattle.jm_section.proofs.writing.list_len.Given as goal

abbrev pub invariant-loop-item : goal.invariant-loop-item
invariant-loop-item l =
    l.len + length (items_text l.place (drop l.item-index l.list)) ≡ length (items_text First l.list)
