use Rattle.std.proofs.Common.{◌≡◌, ◌-◌, length}
use Rattle.jm_smf.specs.Reading.{commands_read}
use Rattle.jm_smf.proofs.Loops.{behind_others}
use Rattle.jm_smf.proofs.escape.read_commands.Given as goal

abbrev pub invariant-loop : goal.invariant-loop
invariant-loop l = behind_others l.commands (commands_read (length l.text - l.counter) l.rest) ≡ commands_read (length l.text) l.text
