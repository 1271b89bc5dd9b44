use Rattle.std.proofs.Common.{◌≡◌, ◌≤◌, take}
use Rattle.apple_msg.proofs.name.Name.kept.Given as goal

abbrev pub invariant-loop-octet : goal.invariant-loop-octet
invariant-loop-octet l = record { so_far : l.kept.items ≡ take l.octet-index l.octets; few : l.octet-index ≤ 63 }
