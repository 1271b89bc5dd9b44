-- What repair hands on of a journal's logs tells a listener the programs with their banks, too, and all controls.
use Rattle.std.proofs.Common.{◌≡◌, ℕ, zero, suc, ◌+◌, ◌<◌, ◌≤◌, Bool, true, false, eqb, List, ◌++◌, Option, fold, refl, ap, subst, ◌∙◌, inl, inr, arith}
use Rattle.std.specs.List.{AllByRecursion, range_with_len}
use Rattle.std.proofs.lemmas.Bool.{cases_Bool, ne_eqb}
use Rattle.jm_cmds.specs.declared.commands.Command.{Command}
use Rattle.jm_cmds.specs.declared.commands.Command.TheVariants as commands
use Rattle.jm_cmds.specs.declared.history.Sent.{Sent}
use Rattle.jm_cmds.specs.Control.{is_reset_message}
use Rattle.jm_cmds.specs.Data.{is_kept_message}
use Rattle.jm_cmds.specs.History.{below, InOrder}
use Rattle.jm_cmds.specs.HistoryLaws.{AllByRecursion-append, AllByRecursion-filter, AllByRecursion-weaker, filter-swap}
use Rattle.jm_cmds.specs.Sent.{packet_of, is_fresh}
use Rattle.ch_sysex.specs.ChapterX.{sysex_logs, coded_counted}
use Rattle.ch_sysex.specs.SysexEvent.{sysex_event, data_of}
use Rattle.jm_state.specs.declared.state.State.{State}
use Rattle.jm_state.specs.Final.{fold-part}
use Rattle.jm_state.specs.Kept.{IsState}
use Rattle.jm_state.specs.Parts.{program_of, control_of}
use Rattle.jm_state.specs.Says.{said}
use Rattle.jm_state.specs.SettingLaws.{Touched, nothing, SameBut}
use Rattle.jm_reader.specs.declared.logs.Log.{Log}
use Rattle.jm_reader.specs.declared.logs.LogKind.{LogKind}
use Rattle.jm_reader.specs.declared.logs.LogKind.TheVariants as kinds
use Rattle.jm_reader.specs.Written.{AreCommands}
use Rattle.jm_reader.specs.WrittenD.{d_said}
use Rattle.jm_reader.specs.WrittenF.{f_said}
use Rattle.jm_reader.specs.WrittenJournal.{journal_logs, channels_logs}
use Rattle.jm_reader.specs.WrittenQ.{q_said}
use Rattle.jm_reader.specs.WrittenSystem.{system_logs}
use Rattle.jm_reader.specs.WrittenV.{v_said}
use Rattle.jm_reader.specs.WrittenX.{x_said, event_said, sysex_said}
use Rattle.jm_receiver.specs.declared.group.Group.{Group}
use Rattle.jm_receiver.specs.declared.group.Group.TheVariants.{Programs, Controls}
use Rattle.jm_receiver.specs.declared.heard.Hearing.{Hearing}
use Rattle.jm_receiver.specs.Agreement.{Agrees, states_repaired}
use Rattle.jm_receiver.specs.BankHeard.{no_programs, no_controls, IsBefore, channel_heard}
use Rattle.jm_receiver.specs.Chapters.{is_session, channels_of_channels, group_logs, group_of_journal}
use Rattle.jm_receiver.specs.ControlLaw.{control_is, control_log_says, control_groups}
use Rattle.jm_receiver.specs.Follows.{Follows, self_follows, AreKept, is_kept_log, all_programs, session_follows}
use Rattle.jm_receiver.specs.FreshAgreement.{states_by_fresh}
use Rattle.jm_receiver.specs.FreshLogs.{fresh_of, group_fresh, reset_fresh}
use Rattle.jm_receiver.specs.Group.{is_of, all_channels}
use Rattle.jm_receiver.specs.HandedOn.{channel_handed_on, resets_handed_on, messages_handed_on, songs_handed_on, repair_handed_on}
use Rattle.jm_receiver.specs.HeardLaw.{listening, handed_on_by}
use Rattle.jm_receiver.specs.Listened.{listened, repair_listened}
use Rattle.jm_receiver.specs.Order.{IsPart, in_order, of_group, log_says, with_log, session_done, channel-fold, session_left, silent_elsewhere, channel_log_is}
use Rattle.jm_receiver.specs.ProgramLaw.{program_is, program_log_says, program_groups}
use Rattle.jm_receiver.specs.ProgramHeard.{HasOwn}
use Rattle.jm_receiver.specs.Resets.{reset_of_journal}
use Rattle.jm_receiver.specs.Repair.{cleared, channel_repaired, repaired}
use Rattle.jm_receiver.specs.SystemLogs.{d_all, v_all, q_all, f_all, all_flat}
use Rattle.jm_receiver.specs.Whole.{IsWhole}

-- the parts of which this law says nothing: song position, time code and the pedal's toggles, of which no command tells, and
-- selections and parameters
abbrev pub untold : Touched
untold = record nothing { sequencer = true; time_code = true; toggles = all_programs; selection = all_programs; params = all_programs }

-- Of a whole state that agrees with the packets before `next`, repaired by the journal of a packet of which it lacks those from `next` on: the
-- commands that repair hands on, each applied in order to the old state, leave it with the programs and their banks, all
-- controls, the song, the number of messages, the wheels, the sounding notes and the pressures of the repaired state. The
-- premises are those of `StatesAreRepaired`. It excludes that a program is handed on without its bank, that one without a
-- bank goes to a listener whose Control 0 would give it one, and that Control 32 is compared to an absent one as different.
abbrev pub StatesAreHeard : Type 0
StatesAreHeard =
    (checkpoint next packet tick time : ℕ) (sent : List Sent) (s : State) → AreCommands sent → InOrder packet_of sent → sysex_logs checkpoint (below packet_of packet sent) ≤ 128 → checkpoint ≤ next → next ≤ packet →
    IsWhole s → Agrees s (below packet_of next sent) →
    SameBut untold (repaired s (journal_logs checkpoint packet tick sent)) (listened s (handed_on_by (journal_logs checkpoint packet tick sent) s time))

-- The same where just one packet was lost, by the fresh logs alone of the next one's journal.
abbrev pub StatesAreHeardByFresh : Type 0
StatesAreHeardByFresh =
    (checkpoint last tick time : ℕ) (sent : List Sent) (s : State) → AreCommands sent → InOrder packet_of sent → sysex_logs checkpoint (below packet_of (last + 1) sent) ≤ 128 → checkpoint ≤ last →
    IsWhole s → Agrees s (below packet_of last sent) →
    SameBut untold (repaired s (fresh_of (journal_logs checkpoint (last + 1) tick sent))) (listened s (handed_on_by (fresh_of (journal_logs checkpoint (last + 1) tick sent)) s time))

-- ## Messages of a journal

kept_event : (fresh : Bool) (count : ℕ) (command : Command) → AllByRecursion (λ (log : Log). is_kept_log log.what ≡ true) (event_said fresh count (sysex_event command) (data_of command))
kept_event fresh count (commands.Sysex octets) =
    elim (cases_Bool (is_reset_message octets)) [
      | inl t ↦ rw t (rw t refl, tt)
      | inr f ↦ elim (cases_Bool (is_kept_message octets)) [
        | inl k ↦ rw (f, k) (rw (f, k) refl, tt)
        | inr n ↦ rw (f, n) tt
      ]
    ]
kept_event fresh count commands.SystemReset = tt
kept_event fresh count command = tt

x_kept : (checkpoint packet : ℕ) (sent : List Sent) → AreKept (x_said checkpoint packet sent)
unfolding x_said
x_kept checkpoint packet sent =
    all_flat (λ log. is_kept_log log.what ≡ true) (sysex_said packet) (λ x. kept_event (is_fresh packet x.1) x.0 x.1.command) (coded_counted checkpoint 0 (below packet_of packet sent))

channel_kept : (log : LogKind) → is_session log ≡ false → is_kept_log log ≡ true
channel_kept (kinds.Sysex count octets) h = absurd (let f : true ≡ false = h in cc)
channel_kept log h = refl

pub journal_kept : (checkpoint packet tick : ℕ) (sent : List Sent) → AreKept (journal_logs checkpoint packet tick sent)
unfolding journal_logs system_logs
journal_kept checkpoint packet tick sent =
    let joined = AllByRecursion-append (λ (log : Log). is_kept_log log.what ≡ true) in
    let channels = channels_logs checkpoint packet tick sent in
    let d = d_said checkpoint packet sent in
    let v = v_said checkpoint packet sent in
    let q = q_said checkpoint packet sent in
    let f = f_said checkpoint packet sent in
    let x = x_said checkpoint packet sent in
    joined (d ++ v ++ q ++ f ++ x) channels
    (joined (d ++ v ++ q ++ f) x
    (joined (d ++ v ++ q) f (joined (d ++ v) q (joined d v (d_all (λ what. is_kept_log what ≡ true) (λ n. refl) (λ n. refl) (λ n. refl) checkpoint packet sent)
    (v_all (λ what. is_kept_log what ≡ true) (λ n. refl) checkpoint packet sent)) (q_all (λ what. is_kept_log what ≡ true) (λ r d p. refl) checkpoint packet sent)) (f_all (λ what. is_kept_log what ≡ true) (λ c p b n. refl) checkpoint packet sent))
    (x_kept checkpoint packet sent))
    (AllByRecursion-weaker (λ log. is_session log.what ≡ false) (λ log. is_kept_log log.what ≡ true) (λ log h. channel_kept log.what h) channels (channels_of_channels checkpoint packet tick sent))

-- ## The channels, one after the other

left_elsewhere : {V : Type 0} (channel other : ℕ) (groups : Group → Bool) (part : State → Option V) (says : LogKind → Option (Option V)) → IsPart channel groups part says → (logs : List Log) (u : State) → IsState u → eqb channel other ≡ false →
    part (channel_repaired logs u other) ≡ part u
left_elsewhere channel other groups part says is_part logs u is apart =
    ap part (channel-fold logs u other)
    ∙ fold-part IsState with_log part (log_says says) (λ t log w. channel_log_is t log.what w) (λ t log w. is_part.set t log.what w) u (in_order other logs) is
    ∙ ap (λ w. said w (part u)) (silent_elsewhere channel groups part says is_part logs other apart)

module _ (checkpoint next packet : ℕ) (sent : List Sent) (s : State) (logs : List Log) (o : InOrder packet_of sent) (early : checkpoint ≤ next) (late : next ≤ packet) (is : IsState s)
    (has : (channel : ℕ) → channel < 16 → HasOwn channel checkpoint packet sent logs) (kept : AreKept logs) (agrees : Agrees s (below packet_of next sent)) (whole : Agrees (repaired s logs) (below packet_of packet sent)) where
  -- the channels from this one on aren't repaired yet
  abbrev Untouched : ℕ → State → Type 0
  Untouched first u = (channel : ℕ) → channel < 16 → first ≤ channel → IsBefore channel u (cleared logs s)

  session_untouched : Untouched 0 (session_done s logs)
  session_untouched channel l m = record {
    program = session_left channel program_groups (λ t. program_of t channel) (program_log_says channel) (program_is channel l) s logs;
    high = session_left channel control_groups (λ t. control_of t channel 0) (control_log_says channel 0) (control_is channel 0 l (omega arith)) s logs;
    low = session_left channel control_groups (λ t. control_of t channel 32) (control_log_says channel 32) (control_is channel 32 l (omega arith)) s logs;
  }

  next_untouched : (first : ℕ) (u : State) → IsState u → Untouched first u → Untouched (first + 1) (channel_repaired logs u first)
  next_untouched first u w before channel l m =
      let apart : eqb channel first ≡ false = ne_eqb channel first (λ e. omega (arith, e, m)) in
      let b = before channel l (omega (arith, m)) in
      record {
        program = left_elsewhere channel first program_groups (λ t. program_of t channel) (program_log_says channel) (program_is channel l) logs u w apart ∙ b.program;
        high = left_elsewhere channel first control_groups (λ t. control_of t channel 0) (control_log_says channel 0) (control_is channel 0 l (omega arith)) logs u w apart ∙ b.high;
        low = left_elsewhere channel first control_groups (λ t. control_of t channel 32) (control_log_says channel 32) (control_is channel 32 l (omega arith)) logs u w apart ∙ b.low;
      }

  channels_heard : (first n : ℕ) (h : Hearing) (u : State) → first + n ≤ 16 → Untouched first u → Follows no_programs no_controls h.state u →
      Follows no_programs no_controls (fold (channel_handed_on logs (repaired s logs)) h (range_with_len first n)).state (fold (channel_repaired logs) u (range_with_len first n))
  channels_heard first zero h u few before f = f
  channels_heard first (suc n) h u few before f =
      let l : first < 16 = omega (arith, few) in
      channels_heard (first + 1) n (channel_handed_on logs (repaired s logs) h first) (channel_repaired logs u first) (omega (arith, few)) (next_untouched first u f.right before)
      (channel_heard first l checkpoint next packet sent s logs o early late is (has first l) agrees whole h u f (before first l (omega arith)))

  pub all_heard : (time : ℕ) → Follows no_programs no_controls (repair_handed_on logs (repaired s logs) (listening s time)).state (repaired s logs)
  unfolding repair_handed_on repaired all_channels
  all_heard time =
      let h = listening s time in
      channels_heard 0 16 (songs_handed_on logs (messages_handed_on logs (resets_handed_on logs h))) (session_done s logs) (omega arith) session_untouched
      (session_follows no_programs no_controls logs h s kept (self_follows no_programs no_controls s is))

pub all_followed : (t s : State) → Follows no_programs no_controls t s → SameBut untold s t
all_followed t s f = record {
  song = λ n. f.song;
  sequencer = λ n. absurd (let b : true ≡ false = n in cc);
  time_code = λ n. absurd (let b : true ≡ false = n in cc);
  sysex_count = λ n. f.sysex_count;
  program = λ channel l n. f.program channel l refl;
  control = λ channel number l k n. f.control channel number l k refl;
  toggles = λ channel l n. absurd (let b : true ≡ false = n in cc);
  selection = λ channel l n. absurd (let b : true ≡ false = n in cc);
  param = λ channel nrpn high low l n. absurd (let b : true ≡ false = n in cc);
  wheel = λ channel l n. f.wheel channel l;
  note = λ channel note l k n. f.note channel note l k;
  pressure = λ channel l n. f.pressure channel l;
  poly = λ channel note l k n. f.poly channel note l k;
}

journal_own : (checkpoint packet tick : ℕ) (sent : List Sent) → InOrder packet_of sent → (channel : ℕ) → channel < 16 → HasOwn channel checkpoint packet sent (journal_logs checkpoint packet tick sent)
journal_own checkpoint packet tick sent o channel l = record {
  programs = group_of_journal Programs channel checkpoint packet tick sent l;
  controls = group_of_journal Controls channel checkpoint packet tick sent l;
  reset = reset_of_journal checkpoint packet tick sent o;
}

pub journal_follows : (checkpoint next packet tick time : ℕ) (sent : List Sent) (s : State) → AreCommands sent → InOrder packet_of sent → sysex_logs checkpoint (below packet_of packet sent) ≤ 128 → checkpoint ≤ next → next ≤ packet →
    IsWhole s → Agrees s (below packet_of next sent) →
    Follows no_programs no_controls (repair_handed_on (journal_logs checkpoint packet tick sent) (repaired s (journal_logs checkpoint packet tick sent)) (listening s time)).state (repaired s (journal_logs checkpoint packet tick sent))
journal_follows checkpoint next packet tick time sent s h o messages early late is agrees =
    all_heard checkpoint next packet sent s (journal_logs checkpoint packet tick sent) o early late is.state (journal_own checkpoint packet tick sent o) (journal_kept checkpoint packet tick sent) agrees
    (states_repaired checkpoint next packet tick sent s h o messages early late is agrees) time

pub states_heard : StatesAreHeard
states_heard checkpoint next packet tick time sent s h o messages early late is agrees =
    let logs = journal_logs checkpoint packet tick sent in
    let whole = repaired s logs in
    subst (λ (t : State). SameBut untold whole t) (repair_listened s logs whole (listening s time) refl)
    (all_followed (repair_handed_on logs whole (listening s time)).state whole (journal_follows checkpoint next packet tick time sent s h o messages early late is agrees))

-- ## The fresh logs

fresh_own : (checkpoint last tick : ℕ) (sent : List Sent) → InOrder packet_of sent → checkpoint ≤ last → (channel : ℕ) → channel < 16 → HasOwn channel last (last + 1) sent (fresh_of (journal_logs checkpoint (last + 1) tick sent))
fresh_own checkpoint last tick sent o early channel l =
    let swapped : (group : Group) → of_group group channel (fresh_of (journal_logs checkpoint (last + 1) tick sent)) ≡ fresh_of (group_logs group channel checkpoint (last + 1) tick sent) = λ group.
    filter-swap (λ log. is_of group channel log.what) (λ log. log.fresh) (journal_logs checkpoint (last + 1) tick sent) ∙ ap fresh_of (group_of_journal group channel checkpoint (last + 1) tick sent l) in
    record {
      programs = swapped Programs ∙ group_fresh checkpoint last sent early Programs channel tick refl;
      controls = swapped Controls ∙ group_fresh checkpoint last sent early Controls channel tick refl;
      reset = reset_fresh checkpoint last sent early tick ∙ reset_of_journal last (last + 1) tick sent o;
    }

pub fresh_follows : (checkpoint last tick time : ℕ) (sent : List Sent) (s : State) → AreCommands sent → InOrder packet_of sent → sysex_logs checkpoint (below packet_of (last + 1) sent) ≤ 128 → checkpoint ≤ last →
    IsWhole s → Agrees s (below packet_of last sent) →
    Follows no_programs no_controls (repair_handed_on (fresh_of (journal_logs checkpoint (last + 1) tick sent)) (repaired s (fresh_of (journal_logs checkpoint (last + 1) tick sent))) (listening s time)).state (repaired s (fresh_of (journal_logs checkpoint (last + 1) tick sent)))
fresh_follows checkpoint last tick time sent s h o messages early is agrees =
    let journal = journal_logs checkpoint (last + 1) tick sent in
    all_heard last last (last + 1) sent s (fresh_of journal) o (omega arith) (omega arith) is.state (fresh_own checkpoint last tick sent o early)
    (AllByRecursion-filter (λ log. is_kept_log log.what ≡ true) (λ log. log.fresh) journal (journal_kept checkpoint (last + 1) tick sent)) agrees
    (states_by_fresh checkpoint last tick sent s h o messages early is agrees) time

pub states_heard_by_fresh : StatesAreHeardByFresh
states_heard_by_fresh checkpoint last tick time sent s h o messages early is agrees =
    let logs = fresh_of (journal_logs checkpoint (last + 1) tick sent) in
    let whole = repaired s logs in
    subst (λ (t : State). SameBut untold whole t) (repair_listened s logs whole (listening s time) refl)
    (all_followed (repair_handed_on logs whole (listening s time)).state whole (fresh_follows checkpoint last tick time sent s h o messages early is agrees))
