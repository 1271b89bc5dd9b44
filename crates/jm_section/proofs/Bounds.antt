-- A command that was read stands inside the octets.
use Rattle.std.proofs.Common.{◌≡◌, ℕ, ◌≤◌, List, length, drop, Result, Ok, Err, ap, arith, length-append}
use Rattle.std.specs.Prelude.{IfOk}
use Rattle.jm_cmds.specs.declared.commands.Command.{Command}
use Rattle.jm_cmds.specs.declared.reading.CmdFault.{CmdFault}
use Rattle.jm_cmds.specs.declared.outcome.ReadError.{ReadError}
use Rattle.jm_cmds.specs.Command.{spelling}
use Rattle.jm_cmds.specs.Gives.{Gives}
use Rattle.jm_cmds.specs.Reading.{command_read}
use Rattle.jm_cmds.specs.CommandLaws.{BeginsWith-command_read}

pub command_within : (octets : List ℕ) (command : Command) (size : ℕ) → command_read octets ≡ Ok (command, size) → size ≤ length octets
command_within octets command size e =
    let b = BeginsWith-command_read octets command size e in
    omega (arith, b.whole, length-append (spelling command) (drop size octets), ap length b.split)

pub read_within : (octets : List ℕ) (most : ℕ) (r : Result (Command × ℕ) (ReadError CmdFault)) → Gives r (command_read octets) → length octets ≤ most → IfOk r (λ x. x.1 ≤ most)
read_within octets most (Ok x) given few = omega (arith, command_within octets x.0 x.1 given)
read_within octets most (Err e) given few = tt
