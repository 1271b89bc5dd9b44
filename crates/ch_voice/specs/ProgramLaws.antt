-- Chapter P by the program that is kept.
use Rattle.std.proofs.Common.{◌≡◌, ℕ, Bool, true, false, cond, ◌&&◌, leb, List, [], Option, None, fold, refl, sym, ap, ◌∙◌}
use Rattle.jm_cmds.specs.declared.history.Sent.{Sent}
use Rattle.jm_cmds.specs.History.{standing, scanned, below}
use Rattle.jm_cmds.specs.Sent.{packet_of, is_fresh, s_of}
use Rattle.jm_cmds.specs.OneItem.{KeepsLast, text-kept, fresh-kept, mark, flat_map-since, any-since}
use Rattle.ch_voice.specs.declared.bank.Bank.{Bank}
use Rattle.ch_voice.specs.declared.events.ProgramEvent.{ProgramEvent}
use Rattle.ch_voice.specs.declared.events.ProgramEvent.TheVariants.{Chosen, BankHigh, BankLow, SetBack, Reset, Other}
use Rattle.ch_voice.specs.declared.program.ProgramLog.{ProgramLog}
use Rattle.ch_voice.specs.ProgramEvent.{is_chosen, ends_program}
use Rattle.ch_voice.specs.Bank.{no_bank, bank_step}
use Rattle.ch_voice.specs.ChapterP.{Banked, banked_event, banked_packet, program_ends, chapter_p, fresh_p, program_octets, program_log}
use Rattle.ch_voice.specs.KeptProgram.{program_after, program_of, program_step, program_text, program_fresh}

pub passes : (kept : Option ProgramLog) (event : ProgramEvent) (bank : Bank) (fresh recent : Bool) → ends_program event ≡ false → program_after kept event bank fresh recent ≡ kept
passes kept (Chosen program) bank fresh recent h = cc
passes kept (BankHigh value) bank fresh recent h = refl
passes kept (BankLow value) bank fresh recent h = refl
passes kept SetBack bank fresh recent h = refl
passes kept Reset bank fresh recent h = cc
passes kept Other bank fresh recent h = refl

text-program_of : (bank : Bank) (program : ℕ) (fresh recent : Bool) → program_text (program_of bank program fresh recent) ≡ cond recent (program_octets (s_of fresh) bank (Chosen program)) []
text-program_of bank program fresh true = refl
text-program_of bank program fresh false = refl

fresh-program_of : (bank : Bank) (program : ℕ) (fresh recent : Bool) → program_fresh (program_of bank program fresh recent) ≡ (recent && fresh)
fresh-program_of bank program fresh true = refl
fresh-program_of bank program fresh false = refl

abbrev silence : List ℕ
silence = []

nothing : (b : Bool) → silence ≡ cond b silence silence
nothing true = refl
nothing false = refl

never : (b : Bool) → false ≡ (b && false)
never true = refl
never false = refl

takes : (kept : Option ProgramLog) (event : ProgramEvent) (bank : Bank) (fresh recent : Bool) → ends_program event ≡ true → program_text (program_after kept event bank fresh recent) ≡ cond recent (program_octets (s_of fresh) bank event) []
takes kept (Chosen program) bank fresh recent h = text-program_of bank program fresh recent
takes kept (BankHigh value) bank fresh recent h = cc
takes kept (BankLow value) bank fresh recent h = cc
takes kept SetBack bank fresh recent h = cc
takes kept Reset bank fresh recent h = nothing recent
takes kept Other bank fresh recent h = cc

takes_fresh : (kept : Option ProgramLog) (event : ProgramEvent) (bank : Bank) (fresh recent : Bool) → ends_program event ≡ true → program_fresh (program_after kept event bank fresh recent) ≡ (recent && (is_chosen event && fresh))
takes_fresh kept (Chosen program) bank fresh recent h = fresh-program_of bank program fresh recent
takes_fresh kept (BankHigh value) bank fresh recent h = cc
takes_fresh kept (BankLow value) bank fresh recent h = cc
takes_fresh kept SetBack bank fresh recent h = cc
takes_fresh kept Reset bank fresh recent h = never recent
takes_fresh kept Other bank fresh recent h = cc

silent : (s : ℕ) (bank : Bank) (event : ProgramEvent) (recent : Bool) → is_chosen event ≡ false → cond recent (program_octets s bank event) [] ≡ []
silent s bank (Chosen program) recent h = cc
silent s bank (BankHigh value) recent h = sym (nothing recent)
silent s bank (BankLow value) recent h = sym (nothing recent)
silent s bank SetBack recent h = sym (nothing recent)
silent s bank Reset recent h = sym (nothing recent)
silent s bank Other recent h = sym (nothing recent)

silent_fresh : (event : ProgramEvent) (fresh recent : Bool) → is_chosen event ≡ false → mark (recent && (is_chosen event && fresh)) ≡ []
silent_fresh event fresh recent h = ap (λ b. mark (recent && (b && fresh))) h ∙ ap mark (sym (never recent))

touching : (event : ProgramEvent) → is_chosen event ≡ true → ends_program event ≡ true
touching (Chosen program) h = refl
touching (BankHigh value) h = cc
touching (BankLow value) h = cc
touching SetBack h = cc
touching Reset h = cc
touching Other h = cc

-- a place's octets, where it is of a packet from the checkpoint on
abbrev recent_log : (channel checkpoint packet : ℕ) → Banked → List ℕ
recent_log channel checkpoint packet place = cond (leb checkpoint (banked_packet place)) (program_log channel packet place) []

abbrev recent_fresh : (channel checkpoint packet : ℕ) → Banked → Bool
recent_fresh channel checkpoint packet place = leb checkpoint (banked_packet place) && (is_chosen (banked_event channel place) && is_fresh packet place.1)

abbrev item_of : ℕ → Banked → Bool
item_of channel place = is_chosen (banked_event channel place)

abbrev ends_of : ℕ → Banked → Bool
ends_of channel place = ends_program (banked_event channel place)

keeps_program : (channel checkpoint packet : ℕ) → KeepsLast (item_of channel) (ends_of channel) (program_step channel checkpoint packet) program_text (recent_log channel checkpoint packet)
keeps_program channel checkpoint packet = record {
  passes = λ s x h. passes s (banked_event channel x) x.0 (is_fresh packet x.1) (leb checkpoint (banked_packet x)) h;
  takes = λ s x h. takes s (banked_event channel x) x.0 (is_fresh packet x.1) (leb checkpoint (banked_packet x)) h;
  silent = λ x h. silent (s_of (is_fresh packet x.1)) x.0 (banked_event channel x) (leb checkpoint (banked_packet x)) h;
  touching = λ x h. touching (banked_event channel x) h;
}

keeps_program_fresh : (channel checkpoint packet : ℕ) → KeepsLast (item_of channel) (ends_of channel) (program_step channel checkpoint packet) (λ s. mark (program_fresh s)) (λ x. mark (recent_fresh channel checkpoint packet x))
keeps_program_fresh channel checkpoint packet = record {
  passes = λ s x h. passes s (banked_event channel x) x.0 (is_fresh packet x.1) (leb checkpoint (banked_packet x)) h;
  takes = λ s x h. ap mark (takes_fresh s (banked_event channel x) x.0 (is_fresh packet x.1) (leb checkpoint (banked_packet x)) h);
  silent = λ x h. silent_fresh (banked_event channel x) (is_fresh packet x.1) (leb checkpoint (banked_packet x)) h;
  touching = λ x h. touching (banked_event channel x) h;
}

-- the places of the session history, each with the bank before it, leave the program that the chapter codes
pub chapter_p-kept : (channel checkpoint packet : ℕ) (sent : List Sent) →
    program_text (fold (program_step channel checkpoint packet) None (scanned (bank_step channel) no_bank (below packet_of packet sent))) ≡ chapter_p channel checkpoint packet sent
unfolding chapter_p
chapter_p-kept channel checkpoint packet sent =
    let places = scanned (bank_step channel) no_bank (below packet_of packet sent) in
    text-kept (item_of channel) (ends_of channel) (program_step channel checkpoint packet) program_text (recent_log channel checkpoint packet) (keeps_program channel checkpoint packet) None places refl
    ∙ sym (flat_map-since banked_packet checkpoint (program_log channel packet) (standing (program_ends channel) places))

pub fresh_p-kept : (channel checkpoint packet : ℕ) (sent : List Sent) →
    program_fresh (fold (program_step channel checkpoint packet) None (scanned (bank_step channel) no_bank (below packet_of packet sent))) ≡ fresh_p channel checkpoint packet sent
unfolding fresh_p
fresh_p-kept channel checkpoint packet sent =
    let places = scanned (bank_step channel) no_bank (below packet_of packet sent) in
    fresh-kept (item_of channel) (ends_of channel) (program_step channel checkpoint packet) program_fresh (recent_fresh channel checkpoint packet) (keeps_program_fresh channel checkpoint packet) None places refl
    ∙ sym (any-since banked_packet checkpoint (λ place. is_chosen (banked_event channel place) && is_fresh packet place.1) (standing (program_ends channel) places))
