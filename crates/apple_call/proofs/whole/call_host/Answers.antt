use Rattle.apple_call.specs.Turns.{Scene}
use Rattle.apple_call.proofs.Wholes.{call_ends}
use Rattle.apple_call.proofs.whole.call_host.Goals as goal

pub returns-clause-ends : goal.returns-clause-ends
returns-clause-ends g c =
    let start : Scene = record { caller = c.args.inviter; control = g.P.Port.wire c.args.control.now; rtp = g.P.Port.wire c.args.data_port.now; coming = g.C.Ticker.coming c.args.clock.now } in
    let middle : Scene = record { caller = c.call_turns-called.new.inviter; control = g.P.Port.wire c.call_turns-called.new.control; rtp = g.P.Port.wire c.call_turns-called.new.data_port; coming = g.C.Ticker.coming c.call_turns-called.new.clock } in
    rw c.phase-phase.ensures (call_ends c.call_turns-called.result.end c.args.turns c.call_turns-called.result.clocks c.args.to start middle c.hang_up.new.inviter (g.P.Port.wire c.hang_up.new.control) (g.P.Port.wire c.hang_up.new.data_port) c.call_turns-called.ensures.comes c.hang_up.ensures.does)
