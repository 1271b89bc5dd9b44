use Rattle.std.proofs.Common.{◌≡◌, ◌∙◌, true, false, List, length, ap, arith, length-append}
use Rattle.std.specs.List.{flat_map}
use Rattle.jm_cmds.specs.Sent.{s_bit}
use Rattle.ch_param.specs.Event.{placed}
use Rattle.ch_param.specs.ChapterM.{Entered, coded_half, entered, entered_log, param_log, session_places}
use Rattle.ch_param.specs.LogLaws.{logs_short, same_log}
use Rattle.ch_param.proofs.logs.logs_len.Goals as goal

pub overflow_add-len : goal.overflow_add-len
overflow_add-len c =
    let a = c.args in
    let places = session_places a.channel a.history.now in
    omega (arith, c.loop-param.invariant 0, logs_short a.channel a.checkpoint 0 places (entered a.channel a.checkpoint places), c.requires, c.len-len.ensures.bound)

pub loop-param-preserved : goal.loop-param-preserved
loop-param-preserved c packet =
    let a = c.args in
    let places = session_places a.channel a.history.now in
    let text = entered_log a.channel a.checkpoint packet places in
    let e : Entered = record { param = c.in-Some.param; latest = c.in-Some.field-0-1.now } in
    let later = entered a.channel a.checkpoint (placed a.channel c.in-Some.behind c.in-Some.later.now) in
    let s = s_bit packet c.in-Some.field-0-1.now in
    let log = c.of.result in
    let number : c.len-len.result ≡ length (param_log s log.param log.high log.low) = c.len-len.ensures.number s in
    let same = same_log s log.param c.in-Some.param log.high log.low (coded_half a.channel a.checkpoint places c.in-Some.param true) (coded_half a.channel a.checkpoint places c.in-Some.param false) c.of.ensures.param c.of.ensures.high c.of.ensures.low in
    let size : c.len-len.result ≡ length (text e) = number ∙ ap length same in
    let all = ap (λ (es : List Entered). length (flat_map text es)) c.in-Some.ensures.next in
    omega (arith, size, all, length-append (text e) (flat_map text later), c.loop-param.invariant packet)

pub returns-clause-bound : goal.returns-clause-bound
returns-clause-bound c =
    let a = c.args in
    let places = session_places a.channel a.history.now in
    omega (arith, c.loop-param.invariant 0, logs_short a.channel a.checkpoint 0 places (entered a.channel a.checkpoint places), c.requires)
