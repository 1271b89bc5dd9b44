use Rattle.jm_journal.specs.LimitLaws.{limits_none, limits_push, limits_later, told_whole}
use Rattle.jm_journal.proofs.laws.keeps_what_fits.Goals as goal

pub returns : goal.returns
returns c = record { nothing = limits_none; one_more = limits_push; later = limits_later; whole = told_whole }
