-- The tables of Chapters P, W and T stand for what the chapters code.
use Rattle.std.proofs.Common.{◌≡◌, ℕ, ◌+◌, ◌<◌, ◌≤◌, true, false, cond, ◌&&◌, List, [], ◌∷◌, ◌++◌, refl, sym, ap, ◌∙◌, fold}
use Rattle.std.proofs.lemmas.List.Sums.{fold-append}
use Rattle.std.specs.List.{flat_map, list_any, AllByRecursion}
use Rattle.jm_cmds.specs.declared.commands.Command.{Command}
use Rattle.jm_cmds.specs.declared.commands.Command.TheVariants as commands
use Rattle.jm_cmds.specs.declared.history.Sent.{Sent}
use Rattle.jm_cmds.specs.Channels.{own_channel, IsForChannel, SystemMeansOne, own-event}
use Rattle.jm_cmds.specs.History.{coded, scanned}
use Rattle.jm_cmds.specs.HistoryLaws.{scanned-push}
use Rattle.jm_cmds.specs.KeptItem.{kept, kept_fresh, kept_since, all_below, kept-push, kept-later, kept-text, kept-any}
use Rattle.jm_cmds.specs.OneItem.{replaced}
use Rattle.jm_cmds.specs.Sent.{packet_of, is_fresh, s_of, s_bit}
use Rattle.ch_voice.specs.declared.bank.Bank.{Bank}
use Rattle.ch_voice.specs.declared.events.WheelEvent.{WheelEvent}
use Rattle.ch_voice.specs.declared.events.WheelEvent.TheVariants as wheels
use Rattle.ch_voice.specs.declared.events.PressureEvent.{PressureEvent}
use Rattle.ch_voice.specs.declared.events.PressureEvent.TheVariants as pressures
use Rattle.ch_voice.specs.declared.events.ProgramEvent.{ProgramEvent}
use Rattle.ch_voice.specs.declared.events.ProgramEvent.TheVariants as programs
use Rattle.ch_voice.specs.declared.program.ProgramChoice.{ProgramChoice}
use Rattle.ch_voice.specs.declared.item.VoiceItem.TheVariants.{Wheel, Pressure}
use Rattle.ch_voice.specs.WheelEvent.{wheel_event, wheel_at, is_moved, ends_wheel}
use Rattle.ch_voice.specs.PressureEvent.{pressure_event, pressure_at, is_pressed, ends_pressure}
use Rattle.ch_voice.specs.ProgramEvent.{program_event, is_chosen, ends_program}
use Rattle.ch_voice.specs.VoiceItem.{tells_at, touches_at}
use Rattle.ch_voice.specs.ItemLaws.{touching, wheel_silent, pressure_silent}
use Rattle.ch_voice.specs.Bank.{no_bank, bank_step}
use Rattle.ch_voice.specs.ChapterP.{Banked, banked_event, banked_packet, program_log, program_octets, chapter_p, fresh_p}
use Rattle.ch_voice.specs.ChapterW.{chapter_w, fresh_w, wheel_octets, wheel_log}
use Rattle.ch_voice.specs.ChapterT.{chapter_t, fresh_t, pressure_octets, pressure_log}
use Rattle.ch_voice.specs.WheelTable.{wheel_kept, wheel_noted, wheel_text}
use Rattle.ch_voice.specs.PressureTable.{pressure_kept, pressure_noted, pressure_text}
use Rattle.ch_voice.specs.ProgramTable.{choice_of, choice_at, is_chosen_at, ends_program_at, program_kept, choice_noted, program_noted, program_cut, choice_text, programs_text}

-- ## The wheel

wheel_system : SystemMeansOne wheel_event
wheel_system commands.TuneRequest h a b = refl
wheel_system commands.Clock h a b = refl
wheel_system commands.Start h a b = refl
wheel_system commands.Continue h a b = refl
wheel_system commands.Stop h a b = refl
wheel_system commands.ActiveSensing h a b = refl
wheel_system commands.SystemReset h a b = refl
wheel_system (commands.QuarterFrame value) h a b = refl
wheel_system (commands.SongPosition value) h a b = refl
wheel_system (commands.SongSelect song) h a b = refl
wheel_system (commands.Sysex octets) h a b = refl
wheel_system (commands.NoteOff channel note velocity) h a b = absurd cc
wheel_system (commands.NoteOn channel note velocity) h a b = absurd cc
wheel_system (commands.PolyPressure channel note value) h a b = absurd cc
wheel_system (commands.Control channel number value) h a b = absurd cc
wheel_system (commands.Program channel program) h a b = absurd cc
wheel_system (commands.Pressure channel value) h a b = absurd cc
wheel_system (commands.Wheel channel first second) h a b = absurd cc

wheel_by_event : (event : WheelEvent) (packet : ℕ) (ks : List (ℕ × WheelEvent)) → cond (ends_wheel event) (cond (is_moved event) ((packet, event) ∷ []) []) ks ≡ wheel_noted event packet ks
wheel_by_event (wheels.Moved first second) packet ks = refl
wheel_by_event wheels.Cleared packet ks = refl
wheel_by_event wheels.Other packet ks = refl

pub wheel_push : (channel from packet tick : ℕ) (command : Command) (sent : List Sent) → IsForChannel channel command → from ≤ packet →
    wheel_noted (wheel_event (own_channel command) command) packet (wheel_kept channel from sent) ≡ wheel_kept channel from (sent ++ record { packet = packet; tick = tick; command = command } ∷ [])
unfolding wheel_kept
wheel_push channel from packet tick command sent h l =
    let y : Sent = record { packet = packet; tick = tick; command = command } in
    ap (λ event. wheel_noted event packet (wheel_kept channel from sent)) (own-event wheel_event wheel_system channel command h)
    ∙ sym (wheel_by_event (wheel_event channel command) packet (wheel_kept channel from sent))
    ∙ sym (kept-push (tells_at Wheel channel) (touches_at Wheel channel) packet_of (wheel_at channel) (touching Wheel channel) from sent y l)

pub wheel_later : (channel from later : ℕ) (sent : List Sent) → from ≤ later → wheel_kept channel later sent ≡ kept_since later (wheel_kept channel from sent)
unfolding wheel_kept
wheel_later channel from later sent l = kept-later (tells_at Wheel channel) (touches_at Wheel channel) packet_of (wheel_at channel) from later sent l

pub wheel_coded : (channel from packet : ℕ) (sent : List Sent) → AllByRecursion (λ place. packet_of place < packet) sent → wheel_text packet (wheel_kept channel from sent) ≡ chapter_w channel from packet sent
unfolding wheel_kept chapter_w
wheel_coded channel from packet sent h =
    sym (ap (λ (places : List Sent). flat_map (wheel_log channel packet) (coded (replaced (tells_at Wheel channel) (touches_at Wheel channel)) packet_of from places)) (all_below packet_of packet sent h)
    ∙ kept-text (tells_at Wheel channel) (touches_at Wheel channel) packet_of (wheel_at channel) (wheel_log channel packet) (λ k. wheel_octets (s_of (kept_fresh packet k)) k.1)
    (λ x t. refl) (λ x f. wheel_silent (s_bit packet x) (wheel_at channel x) f) from sent)

pub wheel_fresh : (channel from packet : ℕ) (sent : List Sent) → AllByRecursion (λ place. packet_of place < packet) sent → list_any (kept_fresh packet) (wheel_kept channel from sent) ≡ fresh_w channel from packet sent
unfolding wheel_kept fresh_w
wheel_fresh channel from packet sent h =
    sym (ap (λ (places : List Sent). list_any (λ place. tells_at Wheel channel place && is_fresh packet place) (coded (replaced (tells_at Wheel channel) (touches_at Wheel channel)) packet_of from places)) (all_below packet_of packet sent h)
    ∙ kept-any (tells_at Wheel channel) (touches_at Wheel channel) packet_of (wheel_at channel) packet from sent)

pub wheel_none : (channel : ℕ) → wheel_kept channel 0 [] ≡ []
unfolding wheel_kept
wheel_none channel = refl

-- ## The pressure

pressure_system : SystemMeansOne pressure_event
pressure_system commands.TuneRequest h a b = refl
pressure_system commands.Clock h a b = refl
pressure_system commands.Start h a b = refl
pressure_system commands.Continue h a b = refl
pressure_system commands.Stop h a b = refl
pressure_system commands.ActiveSensing h a b = refl
pressure_system commands.SystemReset h a b = refl
pressure_system (commands.QuarterFrame value) h a b = refl
pressure_system (commands.SongPosition value) h a b = refl
pressure_system (commands.SongSelect song) h a b = refl
pressure_system (commands.Sysex octets) h a b = refl
pressure_system (commands.NoteOff channel note velocity) h a b = absurd cc
pressure_system (commands.NoteOn channel note velocity) h a b = absurd cc
pressure_system (commands.PolyPressure channel note value) h a b = absurd cc
pressure_system (commands.Control channel number value) h a b = absurd cc
pressure_system (commands.Program channel program) h a b = absurd cc
pressure_system (commands.Pressure channel value) h a b = absurd cc
pressure_system (commands.Wheel channel first second) h a b = absurd cc

pressure_by_event : (event : PressureEvent) (packet : ℕ) (ks : List (ℕ × PressureEvent)) → cond (ends_pressure event) (cond (is_pressed event) ((packet, event) ∷ []) []) ks ≡ pressure_noted event packet ks
pressure_by_event (pressures.Pressed value) packet ks = refl
pressure_by_event pressures.Cleared packet ks = refl
pressure_by_event pressures.Other packet ks = refl

pub pressure_push : (channel from packet tick : ℕ) (command : Command) (sent : List Sent) → IsForChannel channel command → from ≤ packet →
    pressure_noted (pressure_event (own_channel command) command) packet (pressure_kept channel from sent) ≡ pressure_kept channel from (sent ++ record { packet = packet; tick = tick; command = command } ∷ [])
unfolding pressure_kept
pressure_push channel from packet tick command sent h l =
    let y : Sent = record { packet = packet; tick = tick; command = command } in
    ap (λ event. pressure_noted event packet (pressure_kept channel from sent)) (own-event pressure_event pressure_system channel command h)
    ∙ sym (pressure_by_event (pressure_event channel command) packet (pressure_kept channel from sent))
    ∙ sym (kept-push (tells_at Pressure channel) (touches_at Pressure channel) packet_of (pressure_at channel) (touching Pressure channel) from sent y l)

pub pressure_later : (channel from later : ℕ) (sent : List Sent) → from ≤ later → pressure_kept channel later sent ≡ kept_since later (pressure_kept channel from sent)
unfolding pressure_kept
pressure_later channel from later sent l = kept-later (tells_at Pressure channel) (touches_at Pressure channel) packet_of (pressure_at channel) from later sent l

pub pressure_coded : (channel from packet : ℕ) (sent : List Sent) → AllByRecursion (λ place. packet_of place < packet) sent → pressure_text packet (pressure_kept channel from sent) ≡ chapter_t channel from packet sent
unfolding pressure_kept chapter_t
pressure_coded channel from packet sent h =
    sym (ap (λ (places : List Sent). flat_map (pressure_log channel packet) (coded (replaced (tells_at Pressure channel) (touches_at Pressure channel)) packet_of from places)) (all_below packet_of packet sent h)
    ∙ kept-text (tells_at Pressure channel) (touches_at Pressure channel) packet_of (pressure_at channel) (pressure_log channel packet) (λ k. pressure_octets (s_of (kept_fresh packet k)) k.1)
    (λ x t. refl) (λ x f. pressure_silent (s_bit packet x) (pressure_at channel x) f) from sent)

pub pressure_fresh : (channel from packet : ℕ) (sent : List Sent) → AllByRecursion (λ place. packet_of place < packet) sent → list_any (kept_fresh packet) (pressure_kept channel from sent) ≡ fresh_t channel from packet sent
unfolding pressure_kept fresh_t
pressure_fresh channel from packet sent h =
    sym (ap (λ (places : List Sent). list_any (λ place. tells_at Pressure channel place && is_fresh packet place) (coded (replaced (tells_at Pressure channel) (touches_at Pressure channel)) packet_of from places)) (all_below packet_of packet sent h)
    ∙ kept-any (tells_at Pressure channel) (touches_at Pressure channel) packet_of (pressure_at channel) packet from sent)

pub pressure_none : (channel : ℕ) → pressure_kept channel 0 [] ≡ []
unfolding pressure_kept
pressure_none channel = refl

-- ## The program

program_system : SystemMeansOne program_event
program_system commands.TuneRequest h a b = refl
program_system commands.Clock h a b = refl
program_system commands.Start h a b = refl
program_system commands.Continue h a b = refl
program_system commands.Stop h a b = refl
program_system commands.ActiveSensing h a b = refl
program_system commands.SystemReset h a b = refl
program_system (commands.QuarterFrame value) h a b = refl
program_system (commands.SongPosition value) h a b = refl
program_system (commands.SongSelect song) h a b = refl
program_system (commands.Sysex octets) h a b = refl
program_system (commands.NoteOff channel note velocity) h a b = absurd cc
program_system (commands.NoteOn channel note velocity) h a b = absurd cc
program_system (commands.PolyPressure channel note value) h a b = absurd cc
program_system (commands.Control channel number value) h a b = absurd cc
program_system (commands.Program channel program) h a b = absurd cc
program_system (commands.Pressure channel value) h a b = absurd cc
program_system (commands.Wheel channel first second) h a b = absurd cc

choosing : (event : ProgramEvent) → is_chosen event ≡ true → ends_program event ≡ true
choosing (programs.Chosen program) h = refl
choosing (programs.BankHigh value) h = cc
choosing (programs.BankLow value) h = cc
choosing programs.SetBack h = cc
choosing programs.Reset h = cc
choosing programs.Other h = cc

choice_by_event : (bank : Bank) (event : ProgramEvent) (packet : ℕ) (ks : List (ℕ × ProgramChoice)) → cond (ends_program event) (cond (is_chosen event) ((packet, choice_of bank event) ∷ []) []) ks ≡ choice_noted bank event packet ks
choice_by_event bank (programs.Chosen program) packet ks = refl
choice_by_event bank (programs.BankHigh value) packet ks = refl
choice_by_event bank (programs.BankLow value) packet ks = refl
choice_by_event bank programs.SetBack packet ks = refl
choice_by_event bank programs.Reset packet ks = refl
choice_by_event bank programs.Other packet ks = refl

choice_silent : (s : ℕ) (bank : Bank) (event : ProgramEvent) → is_chosen event ≡ false → program_octets s bank event ≡ []
choice_silent s bank (programs.Chosen program) h = cc
choice_silent s bank (programs.BankHigh value) h = refl
choice_silent s bank (programs.BankLow value) h = refl
choice_silent s bank programs.SetBack h = refl
choice_silent s bank programs.Reset h = refl
choice_silent s bank programs.Other h = refl

choice_agrees : (s : ℕ) (bank : Bank) (event : ProgramEvent) → is_chosen event ≡ true → program_octets s bank event ≡ (s + (choice_of bank event).program) ∷ (choice_of bank event).high ∷ (choice_of bank event).low ∷ []
choice_agrees s bank (programs.Chosen program) h = refl
choice_agrees s bank (programs.BankHigh value) h = cc
choice_agrees s bank (programs.BankLow value) h = cc
choice_agrees s bank programs.SetBack h = cc
choice_agrees s bank programs.Reset h = cc
choice_agrees s bank programs.Other h = cc

pub program_push : (channel from packet tick : ℕ) (command : Command) (sent : List Sent) → IsForChannel channel command → from ≤ packet →
    program_noted (program_event (own_channel command) command) packet (program_kept channel from sent) ≡ program_kept channel from (sent ++ record { packet = packet; tick = tick; command = command } ∷ [])
unfolding program_kept
program_push channel from packet tick command sent h l =
    let y : Sent = record { packet = packet; tick = tick; command = command } in
    let bank = fold (bank_step channel) no_bank sent in
    let places = scanned (bank_step channel) no_bank sent in
    let old = kept (is_chosen_at channel) (ends_program_at channel) banked_packet (choice_at channel) from places in
    let one : kept (is_chosen_at channel) (ends_program_at channel) banked_packet (choice_at channel) from (scanned (bank_step channel) no_bank (sent ++ y ∷ [])) ≡ choice_noted bank (program_event channel command) packet old =
    ap (λ (ps : List Banked). kept (is_chosen_at channel) (ends_program_at channel) banked_packet (choice_at channel) from ps) (scanned-push (bank_step channel) no_bank sent y)
    ∙ kept-push (is_chosen_at channel) (ends_program_at channel) banked_packet (choice_at channel) (λ x t. choosing (banked_event channel x) t) from places (bank, y) l
    ∙ choice_by_event bank (program_event channel command) packet old in
    ap (λ event. program_noted event packet (program_kept channel from sent)) (own-event program_event program_system channel command h)
    ∙ sym (rw (fold-append (bank_step channel) no_bank sent (y ∷ []), one) refl)

pub program_later : (channel from later : ℕ) (sent : List Sent) → from ≤ later → program_kept channel later sent ≡ program_cut later (program_kept channel from sent)
unfolding program_kept
program_later channel from later sent l =
    rw (kept-later (is_chosen_at channel) (ends_program_at channel) banked_packet (choice_at channel) from later (scanned (bank_step channel) no_bank sent) l) refl

pub program_coded : (channel from packet : ℕ) (sent : List Sent) → AllByRecursion (λ place. packet_of place < packet) sent → programs_text packet (program_kept channel from sent).kept ≡ chapter_p channel from packet sent
unfolding program_kept chapter_p
program_coded channel from packet sent h =
    sym (ap (λ (places : List Sent). flat_map (program_log channel packet) (coded (replaced (is_chosen_at channel) (ends_program_at channel)) banked_packet from (scanned (bank_step channel) no_bank places))) (all_below packet_of packet sent h)
    ∙ kept-text (is_chosen_at channel) (ends_program_at channel) banked_packet (choice_at channel) (program_log channel packet) (choice_text packet)
    (λ x t. choice_agrees (s_bit packet x.1) x.0 (banked_event channel x) t) (λ x f. choice_silent (s_bit packet x.1) x.0 (banked_event channel x) f) from (scanned (bank_step channel) no_bank sent))

pub program_fresh_kept : (channel from packet : ℕ) (sent : List Sent) → AllByRecursion (λ place. packet_of place < packet) sent → list_any (kept_fresh packet) (program_kept channel from sent).kept ≡ fresh_p channel from packet sent
unfolding program_kept fresh_p
program_fresh_kept channel from packet sent h =
    sym (ap (λ (places : List Sent). list_any (λ place. is_chosen (banked_event channel place) && is_fresh packet place.1) (coded (replaced (is_chosen_at channel) (ends_program_at channel)) banked_packet from (scanned (bank_step channel) no_bank places))) (all_below packet_of packet sent h)
    ∙ kept-any (is_chosen_at channel) (ends_program_at channel) banked_packet (choice_at channel) packet from (scanned (bank_step channel) no_bank sent))

pub program_none : (channel : ℕ) → program_kept channel 0 [] ≡ record { bank = no_bank; kept = [] }
unfolding program_kept
program_none channel = refl
