use Rattle.std.proofs.Common.{◌≡◌, ◌≤◌, ◌++◌, drop, length, take}
use Rattle.jm_reader.specs.ChapterM.{known, params_read}
use Rattle.jm_reader.proofs.Params.{kept}
use Rattle.jm_reader.proofs.m.read_params.Given as goal

abbrev pub invariant-loop : goal.invariant-loop
invariant-loop l = record {
  grown : length l.initial.logs ≤ length l.logs;
  before : take (length l.initial.logs) l.logs ≡ l.initial.logs;
  so_far : kept l.initial.logs l.logs (params_read l.channel (drop l.index l.octets) l.rest)
      ≡ l.initial.logs ++ known (params_read l.channel l.octets l.octets);
}
