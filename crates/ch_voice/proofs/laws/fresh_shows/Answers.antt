use Rattle.ch_voice.specs.FreshLaws.{fresh_p-shows, fresh_w-shows, fresh_t-shows}
use Rattle.ch_voice.proofs.laws.fresh_shows.Goals as goal

pub returns-clause-program : goal.returns-clause-program
returns-clause-program c = fresh_p-shows

pub returns-clause-wheel : goal.returns-clause-wheel
returns-clause-wheel c = fresh_w-shows

pub returns-clause-pressure : goal.returns-clause-pressure
returns-clause-pressure c = fresh_t-shows
