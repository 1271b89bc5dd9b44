use Rattle.ch_control.specs.FreshLaws.{fresh_c-shows}
use Rattle.ch_control.proofs.laws.fresh_shows.Goals as goal

pub returns : goal.returns
returns c = fresh_c-shows
