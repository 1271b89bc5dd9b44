-- How many octets a command has that was read, and how much room writers leave.
use Rattle.std.proofs.Common.{◌≡◌, ℕ, ◌+◌, ◌≤◌, List, ◌++◌, length, drop, Ok, ap, arith, length-append}
use Rattle.jm_wire.specs.Octets.{Filled, Appends}
use Rattle.jm_cmds.specs.declared.commands.Command.{Command}
use Rattle.jm_cmds.specs.Command.{spelling}
use Rattle.jm_cmds.specs.Reading.{command_read}
use Rattle.jm_cmds.specs.CommandLaws.{BeginsWith-command_read}

pub read_within : (octets : List ℕ) (command : Command) (used : ℕ) → command_read octets ≡ Ok (command, used) → used ≤ length octets
read_within octets command used e =
    let b = BeginsWith-command_read octets command used e in
    let l : length octets ≡ length (spelling command ++ drop used octets) = ap length b.split in
    omega (arith, l, b.whole, length-append (spelling command) (drop used octets))

-- what a writer appends it takes of the room
pub same_room : {a b : Filled} {text : List ℕ} → Appends a b text → b.spare + length b.octets ≡ a.spare + length a.octets
same_room {a} {b} {text} w =
    let l : length b.octets ≡ length (a.octets ++ text) = ap length w.octets in
    omega (arith, l, w.spare, length-append a.octets text)
