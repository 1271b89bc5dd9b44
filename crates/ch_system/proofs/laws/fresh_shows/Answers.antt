use Rattle.ch_system.specs.FreshLaws.{fresh_d-shows, fresh_v-shows, fresh_q-shows, fresh_f-shows}
use Rattle.ch_system.proofs.laws.fresh_shows.Goals as goal

pub returns-clause-d : goal.returns-clause-d
returns-clause-d c = fresh_d-shows

pub returns-clause-v : goal.returns-clause-v
returns-clause-v c = fresh_v-shows

pub returns-clause-q : goal.returns-clause-q
returns-clause-q c = fresh_q-shows

pub returns-clause-f : goal.returns-clause-f
returns-clause-f c = fresh_f-shows
