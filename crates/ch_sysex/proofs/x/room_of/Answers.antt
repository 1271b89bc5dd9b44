use Rattle.std.proofs.Common.{ap, arith, length}
use Rattle.std.specs.Prelude.{count_by}
use Rattle.ch_sysex.specs.ChapterX.{coded_sysex, has_log}
use Rattle.ch_sysex.specs.ChapterLaws.{octets_more, logs_more}
use Rattle.ch_sysex.proofs.x.room_of.Goals as goal
use Rattle.ch_sysex.proofs.x.room_of.Goals.{then-is_logged, else-is_logged}

pub loop-place-preserved : goal.loop-place-preserved
loop-place-preserved c =
    let checkpoint = c.args.checkpoint in
    let place = c.in-Some.place.now in
    let rest = c.loop-place.rest.now in
    let later = c.in-Some.later.now in
    let event = c.coded_event-event.result in
    let logs = logs_more checkpoint c.loop-place.logs (count_by has_log (coded_sysex checkpoint c.args.places.now)) c.is_logged.result event place rest later c.loop-place.invariant.0 c.in-Some.ensures c.coded_event-event.ensures c.is_logged.ensures in
    let octets = octets_more checkpoint c.event_len.result event c.data_of.result.now place rest later c.in-Some.ensures c.coded_event-event.ensures c.data_of.ensures.octets c.event_len.ensures.number in
    let size = ap length c.in-Some.ensures in
    elim c.if-is_logged.branch [
      | then-is_logged w ↦ (rw (w.logs-is) (rw w.if-is_logged.true at logs), omega (arith, octets), omega arith, omega arith)
      | else-is_logged w ↦ (rw (w.logs-is) (omega (arith, rw w.if-is_logged.false at logs)), omega (arith, octets), omega arith, omega arith)
    ]
