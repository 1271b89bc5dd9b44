use Rattle.ch_sysex.specs.ChapterLaws.{coded-ended, coded-left}
use Rattle.ch_sysex.proofs.coded.coded_event.Goals as goal

pub returns-then-is_called_off : goal.returns-then-is_called_off
returns-then-is_called_off c =
    coded-ended c.args.checkpoint c.args.place.now c.args.later.now c.sysex_event-event.result c.is_called_off.result c.sysex_event-event.ensures c.is_called_off.ensures c.if-is_called_off.true

pub returns : goal.returns
returns c =
    coded-left c.args.checkpoint c.args.place.now c.args.later.now c.sysex_event-event.result c.is_called_off.result c.sysex_event-event.ensures c.is_called_off.ensures c.if-is_called_off.false c.if-place-checkpoint.false
