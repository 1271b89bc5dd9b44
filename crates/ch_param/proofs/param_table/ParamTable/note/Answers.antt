use Rattle.ch_param.specs.ParamTableLaws.{params_push}
use Rattle.ch_param.proofs.param_table.ParamTable.note.Goals as goal

pub returns-clause-stands : goal.returns-clause-stands
returns-clause-stands c = λ channel from sent e h l.
    rw (c.change.ensures, c.param_command.ensures, c.own_channel.ensures, e)
    (params_push channel from c.args.packet c.args.tick c.args.command.now sent h l)
