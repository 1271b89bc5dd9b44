-- What was counted so far and the pieces from here on come to all.
use Rattle.std.proofs.Common.{◌≡◌, ◌+◌, ◌-◌, ◌^◌, ◌≤◌, length, drop}
use Rattle.jm_script.specs.Piece.{pieces_text, counted}
use Rattle.jm_script.proofs.measuring.pieces_len.Given as goal

abbrev pub invariant-loop-piece : goal.invariant-loop-piece
invariant-loop-piece l = record {
  so_far : counted (l.total + length (pieces_text (drop l.piece-index l.pieces))) ≡ counted (length (pieces_text l.pieces));
  bound : l.total ≤ 2 ^ 64 - 1;
}
