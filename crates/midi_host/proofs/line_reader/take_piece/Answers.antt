-- The pieces of one octet each join to the whole piece.
use Rattle.std.proofs.Common.{◌+◌, ◌∷◌, [], take, drop, get_or, arith}
use Rattle.std.proofs.lemmas.List.{take_more}
use Rattle.midi_host.proofs.LineReaderLemmas.{Goes-none, Goes-next, Stops-next, piece_split}
use Rattle.midi_host.proofs.line_reader.take_piece.Goals as goal

pub loop-octet-init : goal.loop-octet-init
loop-octet-init g c = record {
  kept = c.requires;
  goes = Goes-none _ c.args.reader.now.answers c.args.reader.now.line.items;
  near = omega arith;
}

pub returns-in-Stop-clause-fed : goal.returns-in-Stop-clause-fed
returns-in-Stop-clause-fed g c =
    let before = c.loop-octet.reader in
    let octet = get_or c.args.piece.now c.loop-octet.octet-index 0 in
    let fed = rw c.in-Stop.is at c.in_ok-take_octet.ensures.fed in
    rw (piece_split c.args.piece.now c.loop-octet.octet-index c.loop-octet-test.true)
    (Stops-next _ _ c.args.reader.now.answers before.answers c.take_octet.new.reader.answers c.args.reader.now.line.items before.line.items (take c.loop-octet.octet-index c.args.piece.now) (octet ∷ []) (drop (c.loop-octet.octet-index + 1) c.args.piece.now) c.loop-octet.invariant.goes fed)

pub loop-octet-preserved : goal.loop-octet-preserved
loop-octet-preserved g c =
    let before = c.loop-octet.reader in
    let octet = get_or c.args.piece.now c.loop-octet.octet-index 0 in
    let fed = rw c.in-On.is at c.in_ok-take_octet.ensures.fed in
    let nears = rw c.in-On.is at c.in_ok-take_octet.ensures.nears in
    record {
      kept = nears.0;
      goes = rw (take_more c.args.piece.now c.loop-octet.octet-index 0 c.loop-octet-test.true)
          (Goes-next _ _ _ c.args.reader.now.answers before.answers c.take_octet.new.reader.answers c.args.reader.now.line.items before.line.items c.take_octet.new.reader.line.items (take c.loop-octet.octet-index c.args.piece.now) (octet ∷ []) c.loop-octet.invariant.goes fed);
      near = omega (arith, nears.1);
    }
