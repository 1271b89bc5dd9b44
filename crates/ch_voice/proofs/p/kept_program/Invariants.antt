use Rattle.std.proofs.Common.{◌≡◌, None, fold, length}
use Rattle.jm_cmds.specs.History.{scanned}
use Rattle.ch_voice.specs.Bank.{no_bank, bank_step}
use Rattle.ch_voice.specs.KeptProgram.{program_step}
use Rattle.ch_voice.proofs.p.kept_program.Given as goal

abbrev pub invariant-loop-place : goal.invariant-loop-place
invariant-loop-place l =
    fold (program_step l.channel l.checkpoint l.packet) l.kept (scanned (bank_step l.channel) l.bank l.rest)
    ≡ fold (program_step l.channel l.checkpoint l.packet) None (scanned (bank_step l.channel) no_bank l.places)

abbrev pub decreases-loop-place : goal.decreases-loop-place
decreases-loop-place l = length l.rest
