use Rattle.std.proofs.Common.{subst, arith}
use Rattle.apple_call.specs.declared.turns.TurnsEnd.{TurnsEnd}
use Rattle.apple_call.specs.Turns.{Scene, MadeAll, ControlBroke, DataBroke, Comes}
use Rattle.apple_call.proofs.Joins.{none_made, made-then, control_broke-then, data_broke-then}
use Rattle.apple_call.proofs.turns.call_turns.Goals as goal

pub loop-made-init : goal.loop-made-init
loop-made-init g c = record {
  all_made = none_made c.args.to (record { caller = c.args.inviter.now; control = g.P.Port.wire c.args.control.now; rtp = g.P.Port.wire c.args.data_port.now; coming = g.C.Ticker.coming c.args.clock.now });
  few = omega arith;
  buf = c.requires.buf;
  room = c.requires.room;
}

pub loop-made-preserved : goal.loop-made-preserved
loop-made-preserved g c =
    let start : Scene = record { caller = c.args.inviter.now; control = g.P.Port.wire c.args.control.now; rtp = g.P.Port.wire c.args.data_port.now; coming = g.C.Ticker.coming c.args.clock.now } in
    let before : Scene = record { caller = c.loop-made.inviter; control = g.P.Port.wire c.loop-made.control; rtp = g.P.Port.wire c.loop-made.data_port; coming = g.C.Ticker.coming c.loop-made.clock } in
    let now : Scene = record { caller = c.take_turn-turn.new.inviter; control = g.P.Port.wire c.take_turn-turn.new.control; rtp = g.P.Port.wire c.take_turn-turn.new.data_port; coming = g.C.Ticker.coming c.take_turn-turn.new.clock } in
    let turn : MadeAll 1 c.take_turn-turn.result.clocks c.args.to before now = subst (λ (e : TurnsEnd). Comes e 1 c.take_turn-turn.result.clocks c.args.to before now) c.in-Made.is c.take_turn-turn.ensures.comes in
    record {
      all_made = made-then c.loop-made._made 1 c.loop-made.clocks c.take_turn-turn.result.clocks c.args.to start before now c.loop-made.invariant.all_made turn;
      few = omega (arith, c.loop-made.invariant.few, c.take_turn-turn.ensures.few);
      buf = c.take_turn-turn.ensures.buf;
      room = c.take_turn-turn.ensures.room;
    }

pub returns-in-ControlFailed : goal.returns-in-ControlFailed
returns-in-ControlFailed g c =
    let start : Scene = record { caller = c.args.inviter.now; control = g.P.Port.wire c.args.control.now; rtp = g.P.Port.wire c.args.data_port.now; coming = g.C.Ticker.coming c.args.clock.now } in
    let before : Scene = record { caller = c.loop-made.inviter; control = g.P.Port.wire c.loop-made.control; rtp = g.P.Port.wire c.loop-made.data_port; coming = g.C.Ticker.coming c.loop-made.clock } in
    let now : Scene = record { caller = c.take_turn-turn.new.inviter; control = g.P.Port.wire c.take_turn-turn.new.control; rtp = g.P.Port.wire c.take_turn-turn.new.data_port; coming = g.C.Ticker.coming c.take_turn-turn.new.clock } in
    let turn : ControlBroke 1 c.take_turn-turn.result.clocks c.args.to before now = subst (λ (e : TurnsEnd). Comes e 1 c.take_turn-turn.result.clocks c.args.to before now) c.in-ControlFailed.is c.take_turn-turn.ensures.comes in
    record {
      buf = c.take_turn-turn.ensures.buf;
      room = c.take_turn-turn.ensures.room;
      comes = control_broke-then c.loop-made._made 1 c.args.turns c.loop-made.clocks c.take_turn-turn.result.clocks c.args.to start before now (omega arith) c.loop-made.invariant.all_made turn;
    }

pub returns-in-DataFailed : goal.returns-in-DataFailed
returns-in-DataFailed g c =
    let start : Scene = record { caller = c.args.inviter.now; control = g.P.Port.wire c.args.control.now; rtp = g.P.Port.wire c.args.data_port.now; coming = g.C.Ticker.coming c.args.clock.now } in
    let before : Scene = record { caller = c.loop-made.inviter; control = g.P.Port.wire c.loop-made.control; rtp = g.P.Port.wire c.loop-made.data_port; coming = g.C.Ticker.coming c.loop-made.clock } in
    let now : Scene = record { caller = c.take_turn-turn.new.inviter; control = g.P.Port.wire c.take_turn-turn.new.control; rtp = g.P.Port.wire c.take_turn-turn.new.data_port; coming = g.C.Ticker.coming c.take_turn-turn.new.clock } in
    let turn : DataBroke 1 c.take_turn-turn.result.clocks c.args.to before now = subst (λ (e : TurnsEnd). Comes e 1 c.take_turn-turn.result.clocks c.args.to before now) c.in-DataFailed.is c.take_turn-turn.ensures.comes in
    record {
      buf = c.take_turn-turn.ensures.buf;
      room = c.take_turn-turn.ensures.room;
      comes = data_broke-then c.loop-made._made 1 c.args.turns c.loop-made.clocks c.take_turn-turn.result.clocks c.args.to start before now (omega arith) c.loop-made.invariant.all_made turn;
    }
