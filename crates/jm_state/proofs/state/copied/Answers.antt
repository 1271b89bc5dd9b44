use Rattle.std.proofs.Common.{◌≡◌, ◌<◌, length, arith}
use Rattle.std.proofs.lemmas.List.{ext_get_or}
use Rattle.jm_state.specs.Parts.{no_channel}
use Rattle.jm_state.proofs.state.copied.Goals as goal

-- src/state.rt:43:1
pub returns : goal.returns
returns c =
    let same : length c.loop-i.copied ≡ length c.args.channels.now = omega (arith, c.loop-i.invariant.0) in
    ext_get_or no_channel c.loop-i.copied c.args.channels.now same
    (λ i h. let done : i < c.loop-i.i = omega (arith, h, same) in c.loop-i.invariant.1 i no_channel done)
