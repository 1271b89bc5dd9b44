use Rattle.ch_param.specs.FreshLaws.{fresh_m-shows}
use Rattle.ch_param.proofs.laws.fresh_shows.Goals as goal

pub returns : goal.returns
returns c = fresh_m-shows
