use Rattle.std.proofs.Common.{List, get_or, refl, sym, ap, subst, ◌∙◌}
use Rattle.std.specs.Prelude.{slice_set}
use Rattle.jm_serve.specs.declared.receivers.Slot.{Slot}
use Rattle.std.proofs.lemmas.Option.{slice_get_read}
use Rattle.jm_serve.specs.Receivers.{TakesAt}
use Rattle.jm_serve.proofs.Taking.{takes_at}
use Rattle.jm_serve.proofs.receivers.Receivers.take_at.Goals as goal

pub returns-clause-takes : goal.returns-clause-takes
returns-clause-takes c =
    let slot = c.index_mut.result.now in
    let there = c.index_mut.ensures.value ∙ ap (λ (k : List Slot). get_or k c.args.place slot) c.self.view_is in
    let at = slice_get_read c.args.self.now _ c.args.place slot refl c.requires there in
    subst (λ (k : List Slot). TakesAt c.args.place c.args.octets.now c.args.self.now c.take_with.result (slice_set k c.args.place c.take_with.new.slot)) (sym c.self.view_is)
    (takes_at c.args.place c.args.octets.now c.args.self.now slot c.take_with.new.slot c.take_with.result at c.take_with.ensures)
