use Rattle.std.proofs.Common.{◌+◌, ◌-◌, ◌∷◌, [], ◌++◌, List, ℕ, map, ap, arith, subst}
use Rattle.std.specs.List.{range_with_len}
use Rattle.std.proofs.lemmas.List.FromFn.{length-map-range_with_len}
use Rattle.jm_wire.specs.Octets.{owes_less, Owes, Appends}
use Rattle.ch_notes.specs.BitLaws.{range-step}
use Rattle.ch_notes.specs.Shape.{mark_octet, mark_octets, span}
use Rattle.ch_notes.proofs.shape.Shape.write_bits.Goals as goal

pub push-requires : goal.push-requires
push-requires c =
    let s = c.args.self.now in
    let k = c.loop-k.k in
    let whole = length-map-range_with_len (mark_octet s.released) s.low (span s) in
    let rest = length-map-range_with_len (mark_octet s.released) k (s.high + 1 - k) in
    omega (arith, c.loop-k.invariant.spare, whole, rest)

pub loop-k-preserved : goal.loop-k-preserved
loop-k-preserved c =
    let s = c.args.self.now in
    let k = c.loop-k.k in
    let f = mark_octet s.released in
    let split = ap (map f) (range-step k s.high (omega arith)) in
    let pushed : Appends c.loop-k.out c.push.new.self (f k ∷ []) = subst (λ (o : ℕ). Appends c.loop-k.out c.push.new.self (o ∷ [])) c.octet.ensures c.push.ensures in
    let owed : Owes c.args.out.now c.loop-k.out (mark_octets s) ((f k ∷ []) ++ map f (range_with_len (k + 1) (s.high + 1 - (k + 1)))) = subst (λ (t : List ℕ). Owes c.args.out.now c.loop-k.out (mark_octets s) t) split c.loop-k.invariant in
    owes_less owed pushed
