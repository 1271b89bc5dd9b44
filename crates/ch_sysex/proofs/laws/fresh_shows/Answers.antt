use Rattle.ch_sysex.specs.FreshLaws.{chapter_x-logs, fresh_x-shows, each_x-shows}
use Rattle.ch_sysex.proofs.laws.fresh_shows.Goals as goal

pub returns-clause-logs : goal.returns-clause-logs
returns-clause-logs c = chapter_x-logs

pub returns-clause-shows : goal.returns-clause-shows
returns-clause-shows c = fresh_x-shows

pub returns-clause-each : goal.returns-clause-each
returns-clause-each c = each_x-shows
