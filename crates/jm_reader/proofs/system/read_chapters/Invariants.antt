use Rattle.std.proofs.Common.{◌≡◌, ◌+◌, ◌≤◌, drop, length}
use Rattle.jm_reader.specs.SystemJournal.{in_order, chapters_read}
use Rattle.jm_reader.proofs.system.read_chapters.Given as goal

abbrev pub invariant-loop-letter : goal.invariant-loop-letter
invariant-loop-letter l = record {
  gives : chapters_read (drop l.letter-index in_order) l.head l.at l.logs l.rest ≡ chapters_read in_order l.head l.place l.fn.logs l.body;
  inside : l.at + length l.rest ≡ l.place + length l.body;
  few : length l.rest ≤ 1023;
}
