use Rattle.ch_notes.specs.FreshLaws.{fresh_n-shows}
use Rattle.ch_notes.proofs.laws.fresh_shows.Goals as goal

pub returns : goal.returns
returns c = fresh_n-shows
