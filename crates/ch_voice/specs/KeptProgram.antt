-- The program that is kept while the history is gone along.
use Rattle.std.specs.Prelude.{ℕ, ◌+◌, Bool, false, List, [], ◌∷◌, Option, Some, None, nat_le, if◌then◌else◌}
use Rattle.jm_cmds.specs.Sent.{is_fresh, s_of}
use Rattle.ch_voice.specs.declared.bank.Bank.{Bank}
use Rattle.ch_voice.specs.declared.events.ProgramEvent.{ProgramEvent}
use Rattle.ch_voice.specs.declared.events.ProgramEvent.TheVariants.{Chosen, BankHigh, BankLow, SetBack, Reset, Other}
use Rattle.ch_voice.specs.declared.program.ProgramLog.{ProgramLog}
use Rattle.ch_voice.specs.Bank.{high_octet, low_octet}
use Rattle.ch_voice.specs.ChapterP.{Banked, banked_event, banked_packet}

-- the log of a program, where it is of a packet from the checkpoint on
abbrev pub program_of : Bank → ℕ → Bool → Bool → Option ProgramLog
program_of bank program fresh recent = if recent then Some (record { fresh = fresh; program = program; high = high_octet bank; low = low_octet bank }) else None

abbrev pub program_after : Option ProgramLog → ProgramEvent → Bank → Bool → Bool → Option ProgramLog
program_after kept (Chosen program) bank fresh recent = program_of bank program fresh recent
program_after kept (BankHigh value) bank fresh recent = kept
program_after kept (BankLow value) bank fresh recent = kept
program_after kept SetBack bank fresh recent = kept
program_after kept Reset bank fresh recent = None
program_after kept Other bank fresh recent = kept

abbrev pub program_step : (channel checkpoint packet : ℕ) → Option ProgramLog → Banked → Option ProgramLog
program_step channel checkpoint packet kept place = program_after kept (banked_event channel place) place.0 (is_fresh packet place.1) (nat_le checkpoint (banked_packet place))

-- its octets
abbrev pub program_text : Option ProgramLog → List ℕ
program_text None = []
program_text (Some log) = (s_of log.fresh + log.program) ∷ log.high ∷ log.low ∷ []

-- whether it is of the packet before
abbrev pub program_fresh : Option ProgramLog → Bool
program_fresh None = false
program_fresh (Some log) = log.fresh
