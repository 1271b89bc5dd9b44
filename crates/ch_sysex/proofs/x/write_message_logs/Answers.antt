use Rattle.std.proofs.Common.{◌++◌, List, ℕ, ap, subst, arith, length, length-append}
use Rattle.std.specs.List.{flat_map}
use Rattle.jm_wire.specs.Octets.{Owes, owes_less}
use Rattle.ch_sysex.specs.SysexEvent.{count_step}
use Rattle.ch_sysex.specs.ChapterX.{sysex_log, coded_counted, event_text}
use Rattle.ch_sysex.specs.ChapterLaws.{text_more, length-event_text, count-small}
use Rattle.ch_sysex.proofs.x.write_message_logs.Goals as goal

pub write_event-requires-clause-spare : goal.write_event-requires-clause-spare
write_event-requires-clause-spare c =
    let a = c.args in
    let event = c.coded_event-event.result in
    let octets = c.data_of.result.now in
    let place = c.in-Some.place.now in
    let later = flat_map (sysex_log a.packet) (coded_counted a.checkpoint (count_step c.loop-place.count place) c.in-Some.later.now) in
    let split = ap length (text_more a.checkpoint a.packet c.loop-place.count c.s_bit.result event octets place c.loop-place.rest.now c.in-Some.later.now c.in-Some.ensures c.s_bit.ensures.bit c.coded_event-event.ensures c.data_of.ensures.octets) in
    let one = length-event_text c.s_bit.result c.loop-place.count event octets in
    let both = length-append (event_text c.s_bit.result c.loop-place.count event octets) later in
    let owed = c.loop-place.invariant.0.spare in
    omega (arith, split, one, both, owed, c.requires)

pub loop-place-preserved : goal.loop-place-preserved
loop-place-preserved c =
    let a = c.args in
    let event = c.coded_event-event.result in
    let octets = c.data_of.result.now in
    let place = c.in-Some.place.now in
    let text = event_text c.s_bit.result c.loop-place.count event octets in
    let whole = flat_map (sysex_log a.packet) (coded_counted a.checkpoint 0 a.places.now) in
    let left = flat_map (sysex_log a.packet) (coded_counted a.checkpoint (count_step c.loop-place.count place) c.in-Some.later.now) in
    let split = text_more a.checkpoint a.packet c.loop-place.count c.s_bit.result event octets place c.loop-place.rest.now c.in-Some.later.now c.in-Some.ensures c.s_bit.ensures.bit c.coded_event-event.ensures c.data_of.ensures.octets in
    let owed : Owes a.out.now c.loop-place.out whole (text ++ left) = subst (λ (t : List ℕ). Owes a.out.now c.loop-place.out whole t) split c.loop-place.invariant.0 in
    let done : Owes a.out.now c.write_event.new.out whole left = owes_less owed c.write_event.ensures in
    let size = ap length c.in-Some.ensures in
    let small = count-small c.loop-place.count c.sysex_event.result in (
      rw (c.count_after-count.ensures, c.sysex_event.ensures) done,
      rw c.count_after-count.ensures (omega (arith, size, small, c.loop-place.invariant.1)),
    )
