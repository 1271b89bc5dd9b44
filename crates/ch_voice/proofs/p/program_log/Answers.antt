use Rattle.std.proofs.Common.{ap, ◌∙◌, None, fold}
use Rattle.jm_cmds.specs.History.{scanned}
use Rattle.ch_voice.specs.Bank.{no_bank, bank_step}
use Rattle.ch_voice.specs.KeptProgram.{program_step, program_text, program_fresh}
use Rattle.ch_voice.specs.ProgramLaws.{chapter_p-kept, fresh_p-kept}
use Rattle.ch_voice.proofs.p.program_log.Goals as goal

pub returns-clause-octets : goal.returns-clause-octets
returns-clause-octets c =
    let a = c.args in
    ap program_text (c.kept_program.ensures ∙ ap (λ places. fold (program_step a.channel a.checkpoint a.packet) None (scanned (bank_step a.channel) no_bank places)) c.session_history.ensures.history)
    ∙ chapter_p-kept a.channel a.checkpoint a.packet a.list.now

pub returns-clause-fresh : goal.returns-clause-fresh
returns-clause-fresh c =
    let a = c.args in
    ap program_fresh (c.kept_program.ensures ∙ ap (λ places. fold (program_step a.channel a.checkpoint a.packet) None (scanned (bank_step a.channel) no_bank places)) c.session_history.ensures.history)
    ∙ fresh_p-kept a.channel a.checkpoint a.packet a.list.now
