-- Repair of the parts of the whole session.
use Rattle.std.proofs.Common.{◌≡◌, ℕ, Bool, false, List, [], ◌∷◌, ◌++◌, Option, Some, None, fold, refl, ap, ◌∙◌, inl, inr}
use Rattle.std.specs.List.{flat_map}
use Rattle.std.proofs.lemmas.Bool.{cases_Bool}
use Rattle.jm_cmds.specs.declared.history.Sent.{Sent}
use Rattle.jm_cmds.specs.HistoryLaws.{AllByRecursion-weaker}
use Rattle.jm_state.specs.declared.state.State.{State}
use Rattle.jm_state.specs.Parts.{no_state, song_of, sequencer_of, time_code_of, sysex_count_of, with_sysex_count}
use Rattle.jm_state.specs.Says.{said, ended}
use Rattle.jm_state.specs.Replay.{over, said-over}
use Rattle.jm_state.specs.Final.{final, fold-part, final-append, final-none}
use Rattle.jm_reader.specs.declared.logs.Log.{Log}
use Rattle.jm_reader.specs.declared.logs.LogKind.{LogKind}
use Rattle.jm_reader.specs.declared.logs.LogKind.TheVariants as kinds
use Rattle.jm_reader.specs.WrittenD.{d_said}
use Rattle.jm_reader.specs.WrittenV.{v_said}
use Rattle.jm_reader.specs.WrittenQ.{q_said}
use Rattle.jm_reader.specs.WrittenF.{f_said}
use Rattle.jm_reader.specs.WrittenX.{x_said}
use Rattle.jm_reader.specs.WrittenSystem.{system_logs}
use Rattle.jm_reader.specs.WrittenJournal.{journal_logs, channels_logs}
use Rattle.jm_receiver.specs.Group.{all_channels}
use Rattle.jm_receiver.specs.Repair.{has_reset, cleared, counts, with_message, messages_repaired, with_session_log, high_entered, low_entered, with_channel_log, repaired}
use Rattle.jm_receiver.specs.Order.{in_order, with_log, log_says, session_done, repaired-fold}
use Rattle.jm_receiver.specs.Chapters.{is_session, channels_of_channels}

-- the parts of the whole session are the same
pub record SameSession (s t : State) : Type 0 where
  pub song : song_of t ≡ song_of s
  pub sequencer : sequencer_of t ≡ sequencer_of s
  pub time_code : time_code_of t ≡ time_code_of s
  pub sysex_count : sysex_count_of t ≡ sysex_count_of s

same_session : (s : State) → SameSession s s
same_session s = record { song = refl; sequencer = refl; time_code = refl; sysex_count = refl }

then : (s t u : State) → SameSession s t → SameSession t u → SameSession s u
then s t u a b = record { song = b.song ∙ a.song; sequencer = b.sequencer ∙ a.sequencer; time_code = b.time_code ∙ a.time_code; sysex_count = b.sysex_count ∙ a.sysex_count }

high_left : (s : State) (channel : ℕ) (nrpn : Bool) (high low : ℕ) (value : Option ℕ) → SameSession s (high_entered s channel nrpn high low value)
high_left s channel nrpn high low None = same_session s
high_left s channel nrpn high low (Some value) = record { song = refl; sequencer = refl; time_code = refl; sysex_count = refl }

low_left : (s : State) (channel : ℕ) (nrpn : Bool) (high low : ℕ) (value : Option ℕ) → SameSession s (low_entered s channel nrpn high low value)
low_left s channel nrpn high low None = same_session s
low_left s channel nrpn high low (Some value) = record { song = refl; sequencer = refl; time_code = refl; sysex_count = refl }

-- the log of a channel leaves them
pub channel_log_left : (s : State) (log : LogKind) → SameSession s (with_channel_log s log)
channel_log_left s (kinds.Param channel nrpn high low entry_high entry_low) =
    then s (high_entered s channel nrpn high low entry_high) (low_entered (high_entered s channel nrpn high low entry_high) channel nrpn high low entry_low)
    (high_left s channel nrpn high low entry_high) (low_left (high_entered s channel nrpn high low entry_high) channel nrpn high low entry_low)
channel_log_left s (kinds.Program channel program bank) = record { song = refl; sequencer = refl; time_code = refl; sysex_count = refl }
channel_log_left s (kinds.Toggle channel count) = record { song = refl; sequencer = refl; time_code = refl; sysex_count = refl }
channel_log_left s (kinds.Control channel number value) = record { song = refl; sequencer = refl; time_code = refl; sysex_count = refl }
channel_log_left s (kinds.Count channel number count) = record { song = refl; sequencer = refl; time_code = refl; sysex_count = refl }
channel_log_left s (kinds.Wheel channel first second) = record { song = refl; sequencer = refl; time_code = refl; sysex_count = refl }
channel_log_left s (kinds.NoteOff channel note) = record { song = refl; sequencer = refl; time_code = refl; sysex_count = refl }
channel_log_left s (kinds.NoteOn channel note velocity soon) = record { song = refl; sequencer = refl; time_code = refl; sysex_count = refl }
channel_log_left s (kinds.Pressure channel value) = record { song = refl; sequencer = refl; time_code = refl; sysex_count = refl }
channel_log_left s (kinds.Poly channel note value) = record { song = refl; sequencer = refl; time_code = refl; sysex_count = refl }
channel_log_left s log = same_session s

logs_left : (s : State) (logs : List Log) → SameSession s (fold with_log s logs)
logs_left s [] = same_session s
logs_left s (log ∷ logs) = then s (with_log s log) (fold with_log (with_log s log) logs) (channel_log_left s log.what) (logs_left (with_log s log) logs)

-- the channels are repaired behind the session, whose parts they leave
pub session_stays : (s : State) (logs : List Log) → SameSession (session_done s logs) (repaired s logs)
session_stays s logs = rw (repaired-fold s logs) (logs_left (session_done s logs) (flat_map (λ channel. in_order channel logs) all_channels))

-- What the logs say of a part of the session that isn't the number of messages.
pub record IsSessionPart {V : Type 0} (part : State → Option V) (says : LogKind → Option (Option V)) : Type 0 where
  pub absent : part no_state ≡ None
  pub counted : (s : State) (count : ℕ) → part (with_sysex_count s count) ≡ part s
  pub set : (s : State) (log : LogKind) → part (with_session_log s log) ≡ said (says log) (part s)
  pub stays : (s t : State) → SameSession s t → part t ≡ part s
  pub silent : (log : LogKind) → is_session log ≡ false → says log ≡ None

module _ {V : Type 0} (part : State → Option V) (says : LogKind → Option (Option V)) (is_part : IsSessionPart part says) where
  counted_left : (reset : Bool) (before : ℕ) (s : State) (logs : List Log) → part (fold (with_message reset before) s logs) ≡ part s
  counted_left reset before s [] = refl
  counted_left reset before s (log ∷ logs) =
      counted_left reset before (with_message reset before s log) logs
      ∙ elim (cases_Bool (counts reset before log.what)) [
        | inl c ↦ rw c (is_part.counted s _)
        | inr n ↦ rw n refl
      ]

  pub session_part : (s : State) (logs : List Log) → part (repaired s logs) ≡ said (over (final (log_says says) logs) (ended (has_reset logs))) (part s)
  session_part s logs =
      let begins = cleared logs s in
      let cleared_part : part begins ≡ said (ended (has_reset logs)) (part s) = elim (cases_Bool (has_reset logs)) [ inl t ↦ rw t is_part.absent | inr f ↦ rw f refl ] in
      is_part.stays (session_done s logs) (repaired s logs) (session_stays s logs)
      ∙ fold-part (λ t. Unit {0}) (λ t log. with_session_log t log.what) part (log_says says) (λ t log w. tt) (λ t log w. is_part.set t log.what) (messages_repaired logs begins) logs tt
      ∙ ap (said (final (log_says says) logs)) (counted_left (has_reset logs) begins.sysex_count begins logs ∙ cleared_part)
      ∙ said-over (final (log_says says) logs) (ended (has_reset logs)) (part s)

  -- what the logs of a journal say is what its system chapters say
  pub system_heard : (checkpoint packet tick : ℕ) (sent : List Sent) → final (log_says says) (journal_logs checkpoint packet tick sent) ≡ final (log_says says) (system_logs checkpoint packet sent)
  unfolding journal_logs
  system_heard checkpoint packet tick sent =
      let channels = channels_logs checkpoint packet tick sent in
      final-append (log_says says) (system_logs checkpoint packet sent) channels
      ∙ rw (final-none (log_says says) channels (AllByRecursion-weaker (λ log. is_session log.what ≡ false) (λ log. log_says says log ≡ None) (λ log h. is_part.silent log.what h) channels (channels_of_channels checkpoint packet tick sent))) refl

  pub chapters_heard : (checkpoint packet : ℕ) (sent : List Sent) →
      final (log_says says) (system_logs checkpoint packet sent)
      ≡ over (final (log_says says) (x_said checkpoint packet sent)) (over (final (log_says says) (f_said checkpoint packet sent))
      (over (final (log_says says) (q_said checkpoint packet sent)) (over (final (log_says says) (v_said checkpoint packet sent)) (final (log_says says) (d_said checkpoint packet sent)))))
  unfolding system_logs
  chapters_heard checkpoint packet sent =
      let split = final-append (log_says says) in
      let d = d_said checkpoint packet sent in
      let v = v_said checkpoint packet sent in
      let q = q_said checkpoint packet sent in
      let f = f_said checkpoint packet sent in
      split (d ++ v ++ q ++ f) (x_said checkpoint packet sent)
      ∙ rw (split (d ++ v ++ q) f, split (d ++ v) q, split d v) refl
