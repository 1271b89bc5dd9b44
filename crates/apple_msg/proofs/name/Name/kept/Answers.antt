use Rattle.std.proofs.Common.{◌≡◌, ◌≤◌, length, sym, ◌∙◌, arith}
use Rattle.std.proofs.lemmas.List.{take_all}
use Rattle.apple_msg.proofs.name.Name.kept.Goals as goal

pub returns-clause-front : goal.returns-clause-front
returns-clause-front c =
    let octets = c.args.octets.now in
    let few : length octets ≤ 63 = omega (arith, c.loop-octet.invariant.few) in
    let all : c.loop-octet.kept.items ≡ octets = c.loop-octet.invariant.so_far ∙ take_all _ octets (omega arith) in
    all ∙ sym (take_all 63 octets few)
