-- What the law of repair says of a part, and how the parts of a channel come to it.
use Rattle.std.proofs.Common.{◌≡◌, ℕ, ◌≤◌, ◌<◌, Bool, true, false, cond, eqb, ltb, List, Option, Some, None, refl, sym, ap, ◌∙◌, inl, inr, arith}
use Rattle.std.specs.List.{filter, AllByRecursion}
use Rattle.std.proofs.lemmas.Bool.{cases_Bool, ltb-true, lt-ltb, eq-eqb}
use Rattle.jm_cmds.specs.declared.commands.Command.{Command}
use Rattle.jm_cmds.specs.declared.history.Sent.{Sent}
use Rattle.jm_cmds.specs.History.{below, since, InOrder}
use Rattle.jm_cmds.specs.HistoryLaws.{filter-filter, InOrder-filter, AllByRecursion-weaker}
use Rattle.jm_cmds.specs.Sent.{packet_of}
use Rattle.ch_sysex.specs.SysexEvent.{resets}
use Rattle.jm_state.specs.declared.state.State.{State}
use Rattle.jm_state.specs.declared.channel.ProgramPart.{ProgramPart}
use Rattle.jm_state.specs.Parts.{no_state, with_program, with_toggles, with_param_high, with_param_low}
use Rattle.jm_state.specs.Apply.{applied}
use Rattle.jm_state.specs.Says.{said, ended}
use Rattle.jm_state.specs.Kept.{IsState}
use Rattle.jm_state.specs.KeptLaws.{no_state_is}
use Rattle.jm_state.specs.Replay.{over}
use Rattle.jm_state.specs.ReplayLaws.{state_behind, behind_is, part_behind}
use Rattle.jm_state.specs.Final.{final, final-flat_map, final-filter, final-same, final-none, final-ended, latest-final, repaired_by}
use Rattle.jm_reader.specs.declared.logs.Log.{Log}
use Rattle.jm_reader.specs.declared.logs.LogKind.{LogKind}
use Rattle.jm_reader.specs.declared.logs.LogKind.TheVariants as kinds
use Rattle.jm_reader.specs.WrittenJournal.{journal_logs}
use Rattle.jm_receiver.specs.declared.group.Group.{Group}
use Rattle.jm_receiver.specs.Group.{command_of, all_groups}
use Rattle.jm_receiver.specs.Repair.{has_reset, with_session_log, with_channel_log, applied_if, high_entered, low_entered, repaired}
use Rattle.jm_receiver.specs.Order.{in_order, tag, concerns_tag, IsPart, log_says, part_repaired, high_is}
use Rattle.jm_receiver.specs.Chapters.{group_logs, group_tagged, in_order_of_journal}
use Rattle.jm_receiver.specs.Resets.{reset_of_journal}

-- what a command does to this part goes by what it says of it
abbrev pub LastSays : {V : Type 0} → (State → Option V) → (Command → Option (Option V)) → Type 0
LastSays part says = (s : State) (command : Command) → IsState s → part (applied s command) ≡ said (says command) (part s)

-- Repair of the state behind the packets before `next`, by the logs of the journal of a packet that isn't earlier, leaves this part as
-- the state behind all packets before that one has it: wherever the journal's checkpoint isn't later than `next`. With `next` 0 the
-- state is the empty one, which a receiver has before any packet. The commands stand in the order of their packets.
abbrev pub Repairs : {V : Type 0} → (State → V) → Type 0
Repairs part =
    (checkpoint next packet tick : ℕ) (sent : List Sent) → InOrder packet_of sent → checkpoint ≤ next → next ≤ packet →
    part (repaired (state_behind no_state (below packet_of next sent)) (journal_logs checkpoint packet tick sent)) ≡ part (state_behind no_state (below packet_of packet sent))

-- what the logs of this journal say of a part, in the order of repair behind the resets
abbrev pub journal_says : {V : Type 0} → (LogKind → Option (Option V)) → (channel checkpoint packet tick : ℕ) → List Sent → Option (Option V)
journal_says says channel checkpoint packet tick sent =
    over (final (log_says says) (in_order channel (journal_logs checkpoint packet tick sent))) (ended (has_reset (journal_logs checkpoint packet tick sent)))

-- the places that a journal may code
abbrev pub seen_since : (checkpoint packet : ℕ) → List Sent → List Sent
seen_since checkpoint packet sent = since packet_of checkpoint (below packet_of packet sent)

-- what a place says
abbrev pub place_says : {V : Type 0} → (Command → Option (Option V)) → Sent → Option (Option V)
place_says says place = says place.command

pub below_next : (next packet : ℕ) (sent : List Sent) → next ≤ packet → below packet_of next (below packet_of packet sent) ≡ below packet_of next sent
below_next next packet sent l =
    filter-filter (λ x. ltb (packet_of x) packet) (λ x. ltb (packet_of x) next)
    (λ x h. let under : packet_of x < next = ltb-true (packet_of x) next h in lt-ltb (packet_of x) packet (omega (arith, under, l))) sent

-- Where the logs of a journal say what the commands from the checkpoint on say, repair by them is right.
pub repairs : {V : Type 0} (channel : ℕ) (groups : Group → Bool) (part : State → Option V) (says : LogKind → Option (Option V)) (commands : Command → Option (Option V)) →
    channel < 16 → IsPart channel groups part says → LastSays part commands →
    ((checkpoint packet tick : ℕ) (sent : List Sent) → InOrder packet_of sent → journal_says says channel checkpoint packet tick sent ≡ final (place_says commands) (seen_since checkpoint packet sent)) →
    Repairs part
repairs channel groups part says commands l is_part last same checkpoint next packet tick sent o early late =
    let seen = below packet_of packet sent in
    let before = below packet_of next sent in
    let journal = journal_says says channel checkpoint packet tick sent in
    let old = state_behind no_state before in
    let behind : (places : List Sent) → part (state_behind no_state places) ≡ said (final (place_says commands) places) (part no_state) =
    λ places. part_behind part commands last no_state places no_state_is ∙ latest-final (place_says commands) (part no_state) places in
    part_repaired channel groups part says is_part old (journal_logs checkpoint packet tick sent) l (behind_is no_state before no_state_is)
    ∙ ap (said journal) (behind before ∙ ap (λ (places : List Sent). said (final (place_says commands) places) (part no_state)) (sym (below_next next packet sent late)))
    ∙ repaired_by (place_says commands) packet_of checkpoint next (part no_state) seen journal (InOrder-filter packet_of _ sent o) early (same checkpoint packet tick sent o)
    ∙ sym (behind seen)

-- ## The logs by groups

channel_self : (channel : ℕ) → eqb channel channel ≡ true
channel_self channel = eq-eqb channel channel refl

pub group_silent : {V : Type 0} (channel : ℕ) (groups : Group → Bool) (part : State → Option V) (says : LogKind → Option (Option V)) → IsPart channel groups part says → (group : Group) → groups group ≡ false → (logs : List Log) →
    AllByRecursion (λ log. tag log.what ≡ Some (group, channel)) logs → final (log_says says) logs ≡ None
group_silent channel groups part says is_part group none logs tagged =
    final-none (log_says says) logs
    (AllByRecursion-weaker (λ log. tag log.what ≡ Some (group, channel)) (λ log. log_says says log ≡ None)
    (λ log h. is_part.silent log.what (ap (concerns_tag groups channel) h ∙ rw none refl)) logs tagged)

-- Only the groups that a part is of have something to say of it.
pub groups_heard : {V : Type 0} (channel : ℕ) (groups : Group → Bool) (part : State → Option V) (says : LogKind → Option (Option V)) → channel < 16 → IsPart channel groups part says → (checkpoint packet tick : ℕ) (sent : List Sent) →
    final (log_says says) (in_order channel (journal_logs checkpoint packet tick sent)) ≡ final (λ group. final (log_says says) (group_logs group channel checkpoint packet tick sent)) (filter groups all_groups)
groups_heard channel groups part says l is_part checkpoint packet tick sent =
    let heard : Group → Option (Option _) = λ group. final (log_says says) (group_logs group channel checkpoint packet tick sent) in
    ap (final (log_says says)) (in_order_of_journal channel checkpoint packet tick sent l)
    ∙ final-flat_map (log_says says) (λ group. group_logs group channel checkpoint packet tick sent) all_groups
    ∙ final-same heard (λ group. cond (groups group) (heard group) None)
    (λ group. elim (cases_Bool (groups group)) [
      | inl t ↦ rw t refl
      | inr f ↦ rw f (group_silent channel groups part says is_part group f (group_logs group channel checkpoint packet tick sent) (group_tagged group channel checkpoint packet tick sent))
    ]) all_groups
    ∙ sym (final-filter heard groups all_groups)

-- the resets of a journal say of a part what the Reset State commands say
pub resets_heard : {V : Type 0} (checkpoint packet tick : ℕ) (sent : List Sent) → InOrder packet_of sent → ended {X = V} (has_reset (journal_logs checkpoint packet tick sent)) ≡ final (λ place. ended (resets place)) (seen_since checkpoint packet sent)
resets_heard checkpoint packet tick sent o =
    ap (λ b. ended b) (reset_of_journal checkpoint packet tick sent o) ∙ sym (final-ended resets (seen_since checkpoint packet sent))

-- ## Parts whose logs are commands

-- what a command says, if there is one
abbrev pub says_of : {V : Type 0} → (Command → Option (Option V)) → Option Command → Option (Option V)
says_of says None = None
says_of says (Some command) = says command

-- A log says what the command says that it stands for.
abbrev pub command_says : {V : Type 0} → (Command → Option (Option V)) → LogKind → Option (Option V)
command_says says log = says_of says (command_of log)

-- what leaves a part of a channel as it is
pub record IsLeft {V : Type 0} (part : State → Option V) : Type 0 where
  pub program : (s : State) (at : ℕ) (value : Option ProgramPart) → IsState s → part (with_program s at value) ≡ part s
  pub toggles : (s : State) (at count : ℕ) → IsState s → part (with_toggles s at count) ≡ part s
  pub high : (s : State) (at : ℕ) (nrpn : Bool) (high low : ℕ) (value : Option ℕ) → IsState s → part (with_param_high s at nrpn high low value) ≡ part s
  pub low : (s : State) (at : ℕ) (nrpn : Bool) (high low : ℕ) (value : Option ℕ) → IsState s → part (with_param_low s at nrpn high low value) ≡ part s

module _ {V : Type 0} (part : State → Option V) (commands : Command → Option (Option V)) (last : LastSays part commands) (left : IsLeft part) where
  applied_part : (s : State) (command : Option Command) → IsState s → part (applied_if s command) ≡ said (says_of commands command) (part s)
  applied_part s None is = refl
  applied_part s (Some command) is = last s command is

  high_part : (s : State) (channel : ℕ) (nrpn : Bool) (high low : ℕ) (value : Option ℕ) → IsState s → part (high_entered s channel nrpn high low value) ≡ part s
  high_part s channel nrpn high low None is = refl
  high_part s channel nrpn high low (Some value) is = left.high s channel nrpn high low (Some value) is

  low_part : (s : State) (channel : ℕ) (nrpn : Bool) (high low : ℕ) (value : Option ℕ) → IsState s → part (low_entered s channel nrpn high low value) ≡ part s
  low_part s channel nrpn high low None is = refl
  low_part s channel nrpn high low (Some value) is = left.low s channel nrpn high low (Some value) is

  pub command_set : (s : State) (log : LogKind) → IsState s → part (with_channel_log s log) ≡ said (command_says commands log) (part s)
  command_set s (kinds.Program channel program bank) is = left.program s channel _ is
  command_set s (kinds.Param channel nrpn high low entry_high entry_low) is =
      low_part (high_entered s channel nrpn high low entry_high) channel nrpn high low entry_low (high_is s channel nrpn high low entry_high is)
      ∙ high_part s channel nrpn high low entry_high is
  command_set s (kinds.Toggle channel count) is = left.toggles s channel _ is
  command_set s log is = applied_part s (command_of log) is

-- a part of a channel is none of the session's
pub session_channels : (s : State) (log : LogKind) → (with_session_log s log).channels ≡ s.channels
session_channels s (kinds.Song song) = refl
session_channels s (kinds.Sequencer running downbeat position) = refl
session_channels s (kinds.TimeCode complete partial backward point) = refl
session_channels s log = refl
