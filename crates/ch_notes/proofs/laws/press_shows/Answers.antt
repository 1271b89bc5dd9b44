use Rattle.ch_notes.specs.PressLaws.{fresh_a-shows}
use Rattle.ch_notes.proofs.laws.press_shows.Goals as goal

pub returns : goal.returns
returns c = fresh_a-shows
