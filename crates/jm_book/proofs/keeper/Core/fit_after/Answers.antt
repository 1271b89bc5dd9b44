use Rattle.std.proofs.Common.{refl}
use Rattle.jm_journal.specs.LimitLaws.{told_kept}
use Rattle.jm_book.specs.Participants.{checkpoint_at}
use Rattle.jm_book.proofs.keeper.Core.fit_after.Goals as goal

pub returns : goal.returns
returns c =
    let whole = told_kept (checkpoint_at c.args.self.now.packets c.args.self.now.members.joined) c.args.commands.now c.args.command.now c.requires.limits in
    rw (c.plain_fits.ensures, c.checkpoint.ensures, whole) refl
