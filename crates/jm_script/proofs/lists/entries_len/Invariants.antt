-- What was counted so far and those from here on come to all.
use Rattle.std.proofs.Common.{◌≡◌, ◌+◌, ◌-◌, ◌^◌, ◌≤◌, length, drop}
use Rattle.jm_script.specs.Piece.{counted}
use Rattle.jm_script.specs.ListText.{reports_text}
use Rattle.jm_script.proofs.lists.entries_len.Given as goal

abbrev pub invariant-loop-entry : goal.invariant-loop-entry
invariant-loop-entry l = record {
  so_far : counted (l.total + length (reports_text l.ssrc (drop l.entry-index l.entries))) ≡ counted (length (reports_text l.ssrc l.entries));
  bound : l.total ≤ 2 ^ 64 - 1;
}
