use Rattle.std.proofs.Common.{◌≡◌, ◌+◌, ◌*◌, ◌≤◌, length}
use Rattle.apple_call.specs.Turns.{MadeAll}
use Rattle.apple_call.proofs.turns.call_turns.Given as goal

abbrev pub invariant-loop-made : goal.invariant-loop-made
invariant-loop-made g l = record {
  all_made : MadeAll l._made l.clocks l.to
      (record { caller = l.initial.inviter; control = g.P.Port.wire l.initial.control; rtp = g.P.Port.wire l.initial.data_port; coming = g.C.Ticker.coming l.initial.clock })
      (record { caller = l.inviter; control = g.P.Port.wire l.control; rtp = g.P.Port.wire l.data_port; coming = g.C.Ticker.coming l.clock });
  few : l.clocks ≤ 3 * l._made;
  buf : length l.buf ≡ 65536;
  room : 80 ≤ l.out.spare + length l.out.octets;
}
