-- The data octets of a message stand between F0 and F7.
use Rattle.std.proofs.Common.{◌≡◌, ◌≤◌, ◌+◌, ℕ, List, [], ◌∷◌, ◌++◌, length, ap, arith, length-append}
use Rattle.jm_wire.specs.Octets.{joined}
use Rattle.hex.specs.Hex.{encode_lower}
use Rattle.jm_cmds.specs.Command.{spelling}
use Rattle.jm_script.proofs.HexLemmas.{encode-message, hex_length}
use Rattle.jm_script.proofs.writing.write_spelled.Goals as goal

-- the room for a message is that for its data octets and two more
room : (octets spelled : List ℕ) (spare : ℕ) → 0xf0 ∷ (octets ++ 0xf7 ∷ []) ≡ spelled → length (encode_lower spelled) ≤ spare → length (encode_lower octets) + 4 ≤ spare
room octets spelled spare same fits =
    let all = hex_length spelled in
    let some = hex_length octets in
    let count = ap length same in
    omega (arith, length-append octets (0xf7 ∷ []))

pub write_octet-requires : goal.write_octet-requires
write_octet-requires c =
    let fits = room c.in-Message.octets.now (spelling c.args.command.now) c.args.out.now.spare c.in-Message.ensures.octets c.requires in
    omega arith

pub write_hex-requires-in-Message : goal.write_hex-requires-in-Message
write_hex-requires-in-Message c =
    let fits = room c.in-Message.octets.now (spelling c.args.command.now) c.args.out.now.spare c.in-Message.ensures.octets c.requires in
    let one = hex_length (0xf0 ∷ []) in
    omega (arith, c.write_octet.ensures.spare)

pub write_octet-requires-in-Message : goal.write_octet-requires-in-Message
write_octet-requires-in-Message c =
    let fits = room c.in-Message.octets.now (spelling c.args.command.now) c.args.out.now.spare c.in-Message.ensures.octets c.requires in
    let one = hex_length (0xf0 ∷ []) in
    omega (arith, c.write_octet.ensures.spare, c.write_hex-in-Message.ensures.spare)

pub returns-in-Message : goal.returns-in-Message
returns-in-Message c =
    rw (← c.in-Message.ensures.octets, encode-message c.in-Message.octets.now)
    (joined c.write_octet.ensures (joined c.write_hex-in-Message.ensures c.write_octet-in-Message.ensures))
