-- The octets so far are written, and those from here on are still to be.
use Rattle.std.proofs.Common.{drop}
use Rattle.hex.specs.Hex.{encode_lower}
use Rattle.jm_wire.specs.Octets.{Owes}
use Rattle.jm_script.proofs.writing.write_hex.Given as goal

abbrev pub invariant-loop-octet : goal.invariant-loop-octet
invariant-loop-octet l = Owes l.initial.out l.out (encode_lower l.octets) (encode_lower (drop l.octet-index l.octets))
