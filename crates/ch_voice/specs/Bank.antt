-- The bank of a channel, told from all commands since the last Reset State command (RFC 6295, A.2). That a Control 32 which stands
-- before the Control 0 counts is this project's own.
use Rattle.std.specs.Prelude.{ℕ, ◌+◌, Bool, true, false, List, [], ◌∷◌, Option, Some, None, if◌then◌else◌}
use Rattle.jm_cmds.specs.declared.history.Sent.{Sent}
use Rattle.ch_voice.specs.declared.events.ProgramEvent.{ProgramEvent}
use Rattle.ch_voice.specs.declared.events.ProgramEvent.TheVariants.{Chosen, BankHigh, BankLow, SetBack, Reset, Other}
use Rattle.ch_voice.specs.declared.bank.Bank.{Bank}
use Rattle.ch_voice.specs.ProgramEvent.{program_at}

abbrev pub no_bank : Bank
no_bank = record { high = None; low = None; set_back = false }

-- The bank behind this event: the last Control 0 and 32, and whether a Control 121 came after that
-- Control 0. A Reset State command drops all of it.
abbrev pub bank_after : Bank → ProgramEvent → Bank
bank_after bank (Chosen program) = bank
bank_after bank (BankHigh value) = record bank { high = Some value; set_back = false }
bank_after bank (BankLow value) = record bank { low = Some value }
bank_after bank SetBack = record bank { set_back = true }
bank_after bank Reset = no_bank
bank_after bank Other = bank

abbrev pub bank_step : (channel : ℕ) → Bank → Sent → Bank
bank_step channel bank place = bank_after bank (program_at channel place)

-- ## Its octets

-- B BANK-MSB
abbrev pub high_field : Option ℕ → ℕ
high_field None = 0
high_field (Some high) = 128 + high

-- the low half, 0 where it was never told
abbrev pub half_of : Option ℕ → ℕ
half_of None = 0
half_of (Some low) = low

-- X BANK-LSB, all 0 without a high half
abbrev pub low_field : Option ℕ → Option ℕ → Bool → ℕ
low_field None low set_back = 0
low_field (Some high) low set_back = (if set_back then 128 else 0) + half_of low

abbrev pub high_octet : Bank → ℕ
high_octet bank = high_field bank.high

abbrev pub low_octet : Bank → ℕ
low_octet bank = low_field bank.high bank.low bank.set_back

abbrev pub bank_octets : Bank → List ℕ
bank_octets bank = high_octet bank ∷ low_octet bank ∷ []
