use Rattle.ch_notes.specs.ExtraLaws.{fresh_e-shows}
use Rattle.ch_notes.proofs.laws.extra_shows.Goals as goal

pub returns : goal.returns
returns c = fresh_e-shows
