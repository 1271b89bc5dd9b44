use Rattle.std.proofs.Common.{refl, ◌∙◌}
use Rattle.jm_book.specs.SoundLaws.{said_after}
use Rattle.jm_book.proofs.keeper.Core.say.Goals as goal

pub returns-clause-after : goal.returns-clause-after
returns-clause-after c =
    let roster = c.self.inside.roster in
    let after = c.say.ensures.after ∙ said_after c.self.inside.packets roster c.args.port c.args.from c.args.m.now c.args.now in
    rw (← c.self.view_is, c.say.ensures.answer, after) refl
