-- Chapter P of a channel (RFC 6295, A.2, Figure A.2.1).
use Rattle.std.specs.Prelude.{ℕ, ◌+◌, Bool, ◌&&◌, List, [], ◌∷◌}
use Rattle.std.specs.List.{list_any, flat_map}
use Rattle.jm_cmds.specs.declared.history.Sent.{Sent}
use Rattle.jm_cmds.specs.History.{coded, below, scanned}
use Rattle.jm_cmds.specs.Sent.{packet_of, is_fresh, s_bit}
use Rattle.ch_voice.specs.declared.events.ProgramEvent.{ProgramEvent}
use Rattle.ch_voice.specs.declared.events.ProgramEvent.TheVariants.{Chosen, BankHigh, BankLow, SetBack, Reset, Other}
use Rattle.ch_voice.specs.declared.bank.Bank.{Bank}
use Rattle.ch_voice.specs.ProgramEvent.{program_at, is_chosen, ends_program}
use Rattle.ch_voice.specs.Bank.{no_bank, bank_step, bank_octets}

-- S PROGRAM, and the bank, where a program is chosen
abbrev pub program_octets : (s : ℕ) → Bank → ProgramEvent → List ℕ
program_octets s bank (Chosen program) = (s + program) ∷ bank_octets bank
program_octets s bank (BankHigh value) = []
program_octets s bank (BankLow value) = []
program_octets s bank SetBack = []
program_octets s bank Reset = []
program_octets s bank Other = []

-- a place with the bank before it
abbrev pub Banked : Type 0
Banked = Bank × Sent

abbrev pub banked_packet : Banked → ℕ
banked_packet place = packet_of place.1

abbrev pub banked_event : (channel : ℕ) → Banked → ProgramEvent
banked_event channel place = program_at channel place.1

-- the log of a place
abbrev pub program_log : (channel packet : ℕ) → Banked → List ℕ
program_log channel packet place = program_octets (s_bit packet place.1) place.0 (banked_event channel place)

-- what ends what: the last program that is active stands
abbrev pub program_ends : (channel : ℕ) → Banked → Banked → Bool
program_ends channel place later = is_chosen (banked_event channel place) && ends_program (banked_event channel later)

-- the places that the chapter codes in this packet's journal, each with the bank that the whole session
-- left before it
abbrev pub coded_program : (channel checkpoint packet : ℕ) → List Sent → List Banked
coded_program channel checkpoint packet sent = coded (program_ends channel) banked_packet checkpoint (scanned (bank_step channel) no_bank (below packet_of packet sent))

-- Chapter P of this channel in the journal of this packet, with this checkpoint.
unfoldable pub chapter_p : (channel checkpoint packet : ℕ) → List Sent → List ℕ
chapter_p channel checkpoint packet sent = flat_map (program_log channel packet) (coded_program channel checkpoint packet sent)

-- whether its S is 0
unfoldable pub fresh_p : (channel checkpoint packet : ℕ) → List Sent → Bool
fresh_p channel checkpoint packet sent = list_any (λ place. is_chosen (banked_event channel place) && is_fresh packet place.1) (coded_program channel checkpoint packet sent)
