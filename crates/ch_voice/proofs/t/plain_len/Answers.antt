use Rattle.std.proofs.Common.{◌∙◌, sym, ap, length}
use Rattle.jm_cmds.specs.Sent.{s_bit}
use Rattle.ch_voice.specs.ChapterT.{pressure_octets}
use Rattle.ch_voice.specs.ItemLaws.{t_one}
use Rattle.ch_voice.proofs.t.plain_len.Goals as goal

pub returns-in-Some-clause-number : goal.returns-in-Some-clause-number
returns-in-Some-clause-number c =
    let a = c.args in
    let place = c.in-Some.place.now in
    let s = s_bit a.packet place in
    c.log_len.ensures.number s
    ∙ ap (λ event. length (pressure_octets s event)) c.pressure_event.ensures
    ∙ sym (ap length (t_one a.channel a.checkpoint a.packet a.list.now place c.in-Some.ensures))
