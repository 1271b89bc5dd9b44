-- The pieces so far are written, and those from here on are still to be.
use Rattle.std.proofs.Common.{drop}
use Rattle.jm_wire.specs.Octets.{Owes}
use Rattle.jm_script.specs.Piece.{pieces_text}
use Rattle.jm_script.proofs.writing.write_pieces.Given as goal

abbrev pub invariant-loop-piece : goal.invariant-loop-piece
invariant-loop-piece l = Owes l.initial.out l.out (pieces_text l.pieces) (pieces_text (drop l.piece-index l.pieces))
