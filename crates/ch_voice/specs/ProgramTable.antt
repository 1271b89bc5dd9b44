-- What the table of Chapter P keeps.
use Rattle.std.specs.Prelude.{ℕ, ◌+◌, Bool, List, [], ◌∷◌, fold}
use Rattle.std.specs.List.{flat_map}
use Rattle.jm_cmds.specs.declared.history.Sent.{Sent}
use Rattle.jm_cmds.specs.History.{scanned}
use Rattle.jm_cmds.specs.KeptItem.{kept, kept_fresh, kept_since}
use Rattle.jm_cmds.specs.Sent.{s_of}
use Rattle.ch_voice.specs.declared.bank.Bank.{Bank}
use Rattle.ch_voice.specs.declared.events.ProgramEvent.{ProgramEvent}
use Rattle.ch_voice.specs.declared.events.ProgramEvent.TheVariants.{Chosen, BankHigh, BankLow, SetBack, Reset, Other}
use Rattle.ch_voice.specs.declared.program.ProgramChoice.{ProgramChoice}
use Rattle.ch_voice.specs.ProgramEvent.{is_chosen, ends_program}
use Rattle.ch_voice.specs.Bank.{no_bank, bank_after, bank_step, high_octet, low_octet}
use Rattle.ch_voice.specs.ChapterP.{Banked, banked_event, banked_packet}

-- The bank that the whole session left, and the program that a journal codes, with its packet.
pub record ProgramsKept : Type 0 where
  pub bank : Bank
  pub kept : List (ℕ × ProgramChoice)

-- a program with the bank before it
abbrev pub choice_of : Bank → ProgramEvent → ProgramChoice
choice_of bank (Chosen program) = record { program = program; high = high_octet bank; low = low_octet bank }
choice_of bank (BankHigh value) = record { program = 0; high = 0; low = 0 }
choice_of bank (BankLow value) = record { program = 0; high = 0; low = 0 }
choice_of bank SetBack = record { program = 0; high = 0; low = 0 }
choice_of bank Reset = record { program = 0; high = 0; low = 0 }
choice_of bank Other = record { program = 0; high = 0; low = 0 }

abbrev pub choice_at : (channel : ℕ) → Banked → ProgramChoice
choice_at channel place = choice_of place.0 (banked_event channel place)

abbrev pub is_chosen_at : (channel : ℕ) → Banked → Bool
is_chosen_at channel place = is_chosen (banked_event channel place)

abbrev pub ends_program_at : (channel : ℕ) → Banked → Bool
ends_program_at channel place = ends_program (banked_event channel place)

-- What is kept behind these commands, with this checkpoint: it trims the program, and never the bank.
unfoldable pub program_kept : (channel checkpoint : ℕ) → List Sent → ProgramsKept
program_kept channel checkpoint sent = record {
  bank = fold (bank_step channel) no_bank sent;
  kept = kept (is_chosen_at channel) (ends_program_at channel) banked_packet (choice_at channel) checkpoint (scanned (bank_step channel) no_bank sent);
}

-- one command more: the bank before it goes with a program
abbrev pub choice_noted : Bank → ProgramEvent → (packet : ℕ) → List (ℕ × ProgramChoice) → List (ℕ × ProgramChoice)
choice_noted bank (Chosen program) packet ks = (packet, choice_of bank (Chosen program)) ∷ []
choice_noted bank (BankHigh value) packet ks = ks
choice_noted bank (BankLow value) packet ks = ks
choice_noted bank SetBack packet ks = ks
choice_noted bank Reset packet ks = []
choice_noted bank Other packet ks = ks

abbrev pub program_noted : ProgramEvent → (packet : ℕ) → ProgramsKept → ProgramsKept
program_noted event packet table = record { bank = bank_after table.bank event; kept = choice_noted table.bank event packet table.kept }

-- a later checkpoint trims the program
abbrev pub program_cut : (packet : ℕ) → ProgramsKept → ProgramsKept
program_cut packet table = record { bank = table.bank; kept = kept_since packet table.kept }

-- its octets in a packet's journal
abbrev pub choice_text : (packet : ℕ) → ℕ × ProgramChoice → List ℕ
choice_text packet k = (s_of (kept_fresh packet k) + k.1.program) ∷ k.1.high ∷ k.1.low ∷ []

abbrev pub programs_text : (packet : ℕ) → List (ℕ × ProgramChoice) → List ℕ
programs_text packet ks = flat_map (choice_text packet) ks
