use Rattle.std.proofs.Common.{◌≡◌, ◌+◌, ◌*◌, ◌++◌, drop}
use Rattle.jm_reader.specs.ChapterN.{off_logs}
use Rattle.jm_reader.proofs.n.Released.push_all.Given as goal

abbrev pub invariant-loop-octet : goal.invariant-loop-octet
invariant-loop-octet l = record {
  at : l.note ≡ l.first + 8 * l.octet-index;
  so_far : l.logs ++ off_logs l.self.channel l.self.fresh l.note (drop l.octet-index l.octets)
      ≡ l.initial.logs ++ off_logs l.self.channel l.self.fresh l.first l.octets;
}
