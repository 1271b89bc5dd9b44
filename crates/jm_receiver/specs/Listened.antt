-- What a listener makes of what it hears: each command is applied, in order.
use Rattle.std.proofs.Common.{◌≡◌, ℕ, Bool, cond, eqb, List, [], ◌∷◌, length, Option, Some, None, fold, sym, ap, ◌∙◌, inl, inr}
use Rattle.std.proofs.lemmas.Bool.{cases_Bool}
use Rattle.std.proofs.lemmas.List.Sums.{fold-append}
use Rattle.jm_cmds.specs.declared.commands.Command.{Command}
use Rattle.jm_cmds.specs.declared.commands.Command.TheVariants as commands
use Rattle.jm_cmds.specs.declared.selection.Selection.{Selection}
use Rattle.jm_cmds.specs.Control.{is_reset_message}
use Rattle.jm_state.specs.declared.state.State.{State}
use Rattle.jm_state.specs.Apply.{applied}
use Rattle.jm_state.specs.Parts.{control_of, program_of, param_of, selection_of}
use Rattle.jm_state.specs.Sameness.{same_states}
use Rattle.jm_reader.specs.declared.logs.Log.{Log}
use Rattle.jm_reader.specs.declared.logs.LogKind.{LogKind}
use Rattle.jm_reader.specs.declared.logs.LogKind.TheVariants as kinds
use Rattle.jm_receiver.specs.declared.group.Group.{Group}
use Rattle.jm_receiver.specs.declared.group.Group.TheVariants.{Programs, Params, Controls, Wheels, Released, Struck, Pressures, Polys}
use Rattle.jm_receiver.specs.declared.heard.Heard.{Heard}
use Rattle.jm_receiver.specs.declared.heard.HeardKind.{HeardKind}
use Rattle.jm_receiver.specs.declared.heard.HeardKind.TheVariants.{Repaired}
use Rattle.jm_receiver.specs.declared.heard.Hearing.{Hearing}
use Rattle.jm_receiver.specs.Group.{is_of, command_of, all_channels}
use Rattle.jm_receiver.specs.Heard.{heard_also}
use Rattle.jm_receiver.specs.HandedOn.{handed_on_if_new, handed_on, control_handed_on, half_handed_on, reset_handed_on, resets_handed_on, message_handed_on, message_handed_on_if_counting, messages_handed_on, song_handed_on, songs_handed_on, value_or_zero, low_bank_handed_on_if_new, bank_handed_on, program_is, program_handed_on_if_new, halves_are, param_handed_on_if_new, rpn_handed_on, nrpn_handed_on, selection_handed_on, selection_handed_on_after_params, kind_of, command_handed_on_if_new, log_handed_on, log_handed_on_of, group_handed_on, controls_handed_on, channel_handed_on, repair_handed_on}
use Rattle.jm_receiver.specs.Repair.{has_reset, counts}

-- the state of a listener that had this one and hears these, in order
abbrev pub listened : State → List Heard → State
listened s heard = fold (λ t one. applied t one.command) s heard

-- What holds of a hearing and stays so whenever one more command is heard holds of it behind all that repair hands on.
module _ (Holds : Hearing → Type 0) (also : (h : Hearing) (command : Command) (kind : HeardKind) → Holds h → Holds (heard_also h command kind)) where
  if_new : (h : Hearing) (command : Command) (kind : HeardKind) → Holds h → Holds (handed_on_if_new h command kind)
  unfolding handed_on_if_new
  if_new h command kind k = elim (cases_Bool (same_states (applied h.state command) h.state)) [ inl t ↦ rw t k | inr f ↦ rw f (also h command kind k) ]

  one_more : (h : Hearing) (command : Command) → Holds h → Holds (handed_on h command)
  unfolding handed_on
  one_more h command k = also h command Repaired k

  half : (h : Hearing) (channel number : ℕ) (value : Option ℕ) → Holds h → Holds (half_handed_on h channel number value)
  half h channel number None k = k
  half h channel number (Some value) k = one_more h (commands.Control channel number value) k

  folded : {X : Type 0} (step : Hearing → X → Hearing) → ((h : Hearing) (x : X) → Holds h → Holds (step h x)) → (h : Hearing) (xs : List X) → Holds h → Holds (fold step h xs)
  folded step keeps h [] k = k
  folded step keeps h (x ∷ xs) k = folded step keeps (step h x) xs (keeps h x k)

  reset : (h : Hearing) (log : LogKind) → Holds h → Holds (reset_handed_on h log)
  reset h (kinds.Reset count) k = if_new h commands.SystemReset Repaired k
  reset h (kinds.Sysex count octets) k = elim (cases_Bool (is_reset_message octets)) [ inl t ↦ rw t (if_new h (commands.Sysex octets) Repaired k) | inr f ↦ rw f k ]
  reset h log k = k

  message : (h : Hearing) (log : LogKind) → Holds h → Holds (message_handed_on h log)
  message h (kinds.Sysex count octets) k = one_more h (commands.Sysex octets) k
  message h log k = k

  message_if : (reset : Bool) (before : ℕ) (h : Hearing) (log : Log) → Holds h → Holds (message_handed_on_if_counting reset before h log)
  message_if reset before h log k = elim (cases_Bool (counts reset before log.what)) [ inl t ↦ rw t (message h log.what k) | inr f ↦ rw f k ]

  song : (h : Hearing) (log : LogKind) → Holds h → Holds (song_handed_on h log)
  song h (kinds.Song value) k = if_new h (commands.SongSelect value) Repaired k
  song h log k = k

  low_bank : (h : Hearing) (channel low : ℕ) → Holds h → Holds (low_bank_handed_on_if_new h channel low)
  low_bank h channel low k =
      elim (cases_Bool (eqb (value_or_zero (control_of h.state channel 32)) low)) [ inl t ↦ rw t k | inr f ↦ rw f (one_more h (commands.Control channel 32 low) k) ]

  bank : (h : Hearing) (channel : ℕ) (value : Option (ℕ × ℕ)) → Holds h → Holds (bank_handed_on h channel value)
  bank h channel None k = k
  bank h channel (Some value) k = low_bank (control_handed_on h channel 0 value.0) channel value.1 (one_more h (commands.Control channel 0 value.0) k)

  program : (h : Hearing) (channel number : ℕ) (value : Option (ℕ × ℕ)) → Holds h → Holds (program_handed_on_if_new h channel number value)
  unfolding program_handed_on_if_new
  program h channel number value k =
      elim (cases_Bool (program_is (program_of h.state channel) number value)) [
        | inl t ↦ rw t k
        | inr f ↦ rw f (one_more (bank_handed_on h channel value) (commands.Program channel number) (bank h channel value k))
      ]

  param : (h : Hearing) (channel : ℕ) (nrpn : Bool) (high low : ℕ) (entry_high entry_low : Option ℕ) → Holds h → Holds (param_handed_on_if_new h channel nrpn high low entry_high entry_low)
  unfolding param_handed_on_if_new
  param h channel nrpn high low entry_high entry_low k =
      let one = control_handed_on h channel (cond nrpn 99 101) high in
      let two = control_handed_on one channel (cond nrpn 98 100) low in
      elim (cases_Bool (halves_are (param_of h.state channel nrpn high low) entry_high entry_low)) [
        | inl t ↦ rw t k
        | inr f ↦ rw f
            (half (half_handed_on two channel 6 entry_high) channel 38 entry_low
            (half two channel 6 entry_high (one_more one (commands.Control channel (cond nrpn 98 100) low) (one_more h (commands.Control channel (cond nrpn 99 101) high) k))))
      ]

  rpn : (h : Hearing) (channel : ℕ) (s : Selection) → Holds h → Holds (rpn_handed_on h channel s)
  rpn h channel s k = half (half_handed_on h channel 101 s.rpn_high) channel 100 s.rpn_low (half h channel 101 s.rpn_high k)

  nrpn_both : (h : Hearing) (channel : ℕ) (s : Selection) → Holds h → Holds (nrpn_handed_on h channel s)
  nrpn_both h channel s k = half (half_handed_on h channel 99 s.nrpn_high) channel 98 s.nrpn_low (half h channel 99 s.nrpn_high k)

  selection : (h : Hearing) (channel : ℕ) (s : Option Selection) → Holds h → Holds (selection_handed_on h channel s)
  unfolding selection_handed_on
  selection h channel None k = k
  selection h channel (Some s) k =
      elim (cases_Bool s.nrpn) [
        | inl t ↦ rw t (nrpn_both (rpn_handed_on h channel s) channel s (rpn h channel s k))
        | inr f ↦ rw f (rpn (nrpn_handed_on h channel s) channel s (nrpn_both h channel s k))
      ]

  after_params : (before after : ℕ) (h : Hearing) (channel : ℕ) (s : Option Selection) → Holds h → Holds (selection_handed_on_after_params before after h channel s)
  after_params before after h channel s k = elim (cases_Bool (eqb before after)) [ inl t ↦ rw t k | inr f ↦ rw f (selection h channel s k) ]

  command : (h : Hearing) (one : Option Command) (kind : HeardKind) → Holds h → Holds (command_handed_on_if_new h one kind)
  command h None kind k = k
  command h (Some one) kind k = if_new h one kind k

  log_held : (h : Hearing) (log : LogKind) → Holds h → Holds (log_handed_on h log)
  log_held h (kinds.Program channel number value) k = program h channel number value k
  log_held h (kinds.Param channel nrpn high low entry_high entry_low) k = param h channel nrpn high low entry_high entry_low k
  log_held h (kinds.Toggle channel count) k = k
  log_held h log k = command h (command_of log) (kind_of log) k

  group : (logs : List Log) (channel : ℕ) (h : Hearing) (own : Group) → Holds h → Holds (group_handed_on logs channel h own)
  unfolding group_handed_on
  group logs channel h own k = folded (log_handed_on_of own channel) one h logs k
    where
      one : (h : Hearing) (log : Log) → Holds h → Holds (log_handed_on_of own channel h log)
      one h log k = elim (cases_Bool (is_of own channel log.what)) [ inl t ↦ rw t (log_held h log.what k) | inr f ↦ rw f k ]

  controls : (logs : List Log) (whole : State) (channel : ℕ) (h : Hearing) → Holds h → Holds (controls_handed_on logs whole channel h)
  unfolding controls_handed_on
  controls logs whole channel h k =
      let entered = group_handed_on logs channel h Params in
      after_params (length h.heard) (length entered.heard) (group_handed_on logs channel entered Controls) channel (selection_of whole channel)
      (group logs channel entered Controls (group logs channel h Params k))

  channel_held : (logs : List Log) (whole : State) (h : Hearing) (channel : ℕ) → Holds h → Holds (channel_handed_on logs whole h channel)
  unfolding channel_handed_on
  channel_held logs whole h channel k =
      let c = controls_handed_on logs whole channel (group_handed_on logs channel h Programs) in
      let w = group_handed_on logs channel c Wheels in
      let r = group_handed_on logs channel w Released in
      let n = group_handed_on logs channel r Struck in
      let p = group_handed_on logs channel n Pressures in
      group logs channel p Polys (group logs channel n Pressures (group logs channel r Struck (group logs channel w Released
      (group logs channel c Wheels (controls logs whole channel (group_handed_on logs channel h Programs) (group logs channel h Programs k))))))

  pub repair_held : (logs : List Log) (whole : State) (h : Hearing) → Holds h → Holds (repair_handed_on logs whole h)
  unfolding repair_handed_on resets_handed_on messages_handed_on songs_handed_on
  repair_held logs whole h k =
      let resets = resets_handed_on logs h in
      let messages = messages_handed_on logs resets in
      folded (channel_handed_on logs whole) (channel_held logs whole) (songs_handed_on logs messages) all_channels
      (folded (λ g log. song_handed_on g log.what) (λ g log. song g log.what) messages logs
      (folded (message_handed_on_if_counting (has_reset logs) resets.state.sysex_count) (message_if (has_reset logs) resets.state.sysex_count) resets logs
      (folded (λ g log. reset_handed_on g log.what) (λ g log. reset g log.what) h logs k)))

-- the hearing's state is what a listener that began with this one makes of what was heard
abbrev pub IsListened : State → Hearing → Type 0
IsListened s h = h.state ≡ listened s h.heard

one_listened : (s : State) (h : Hearing) (command : Command) (kind : HeardKind) → IsListened s h → IsListened s (heard_also h command kind)
one_listened s h command kind e =
    ap (λ t. applied t command) e
    ∙ sym (fold-append (λ (t : State) (one : Heard). applied t one.command) s h.heard (record { command = command; tick = h.tick; kind = kind } ∷ []))

pub repair_listened : (s : State) (logs : List Log) (whole : State) (h : Hearing) → IsListened s h → IsListened s (repair_handed_on logs whole h)
repair_listened s logs whole h e = repair_held (IsListened s) (one_listened s) logs whole h e
