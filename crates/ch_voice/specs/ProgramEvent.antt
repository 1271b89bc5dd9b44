-- What a command means for the program and the bank of one channel (RFC 6295, A.1 and A.2).
use Rattle.std.specs.Prelude.{ℕ, Bool, true, false, ◌==◌, if◌then◌else◌}
use Rattle.jm_cmds.specs.declared.commands.Command.{Command}
use Rattle.jm_cmds.specs.declared.commands.Command.TheVariants.{Program, Control}
use Rattle.jm_cmds.specs.declared.history.Sent.{Sent}
use Rattle.jm_cmds.specs.Control.{is_reset}
use Rattle.ch_voice.specs.declared.events.ProgramEvent.{ProgramEvent}
use Rattle.ch_voice.specs.declared.events.ProgramEvent.TheVariants.{Chosen, BankHigh, BankLow, SetBack, Reset, Other}

-- what a controller of the channel means
abbrev pub bank_event : (number value : ℕ) → ProgramEvent
bank_event number value =
    if number == 0 then BankHigh value
    else (if number == 32 then BankLow value
    else (if number == 121 then SetBack else Other))

abbrev pub program_event : (channel : ℕ) → Command → ProgramEvent
program_event channel (Program at program) = if at == channel then Chosen program else Other
program_event channel (Control at number value) = if at == channel then bank_event number value else Other
program_event channel command = if is_reset command then Reset else Other

-- the event of a place of the history
abbrev pub program_at : (channel : ℕ) → Sent → ProgramEvent
program_at channel place = program_event channel place.command

-- whether it chooses a program
abbrev pub is_chosen : ProgramEvent → Bool
is_chosen (Chosen program) = true
is_chosen (BankHigh value) = false
is_chosen (BankLow value) = false
is_chosen SetBack = false
is_chosen Reset = false
is_chosen Other = false

-- whether an earlier program doesn't last behind it
abbrev pub ends_program : ProgramEvent → Bool
ends_program (Chosen program) = true
ends_program (BankHigh value) = false
ends_program (BankLow value) = false
ends_program SetBack = false
ends_program Reset = true
ends_program Other = false
