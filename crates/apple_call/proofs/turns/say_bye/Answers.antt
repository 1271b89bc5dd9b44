use Rattle.apple_call.proofs.Joins.{does_close}
use Rattle.apple_call.proofs.turns.say_bye.Goals as goal

pub returns-clause-does : goal.returns-clause-does
returns-clause-does g c =
    does_close c.args.to c.args.inviter.now c.close-dialed.new.self c.close-dialed.result
    (g.P.Port.wire c.args.control.now) (g.P.Port.wire c.carry_out-clocks.new.control) (g.P.Port.wire c.args.data_port.now) (g.P.Port.wire c.carry_out-clocks.new.data_port)
    c.close-dialed.ensures.dialed c.close-dialed.ensures.caller c.carry_out-clocks.ensures.on_control c.carry_out-clocks.ensures.on_data
