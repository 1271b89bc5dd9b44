-- The logs in the order of repair, and what they say of a part of a channel.
use Rattle.std.proofs.Common.{◌≡◌, ℕ, ◌+◌, ◌%◌, ◌<◌, Bool, true, false, ◌&&◌, eqb, List, [], ◌∷◌, Option, Some, None, fold, refl, sym, ap, ◌∙◌, inl, inr, arith}
use Rattle.std.specs.List.{flat_map, list_any, filter, AllByRecursion}
use Rattle.std.proofs.lemmas.Bool.{cases_Bool, eqb-true}
use Rattle.std.proofs.lemmas.Bool.Decides.{nat_tests}
use Rattle.std.proofs.lemmas.List.Sums.{fold-append}
use Rattle.jm_cmds.specs.declared.commands.Command.{Command}
use Rattle.jm_reader.specs.declared.logs.Log.{Log}
use Rattle.jm_reader.specs.declared.logs.LogKind.{LogKind}
use Rattle.jm_reader.specs.declared.logs.LogKind.TheVariants as kinds
use Rattle.jm_state.specs.declared.state.State.{State}
use Rattle.jm_state.specs.Parts.{no_state, with_sysex_count, half_put}
use Rattle.jm_state.specs.Kept.{IsState}
use Rattle.jm_state.specs.KeptLaws.{no_state_is, state_after_is, with_channel_is}
use Rattle.jm_state.specs.Says.{said, ended}
use Rattle.jm_state.specs.Replay.{over, said-over}
use Rattle.jm_state.specs.Final.{final, fold-part, final-flat_map, final-none, final-one}
use Rattle.jm_receiver.specs.declared.group.Group.{Group}
use Rattle.jm_receiver.specs.declared.group.Group.TheVariants.{Programs, Params, Controls, Wheels, Released, Struck, Pressures, Polys}
use Rattle.jm_receiver.specs.Group.{is_of, command_of, all_groups, all_channels}
use Rattle.jm_receiver.specs.Repair.{has_reset, cleared, counts, with_message, messages_repaired, with_session_log, session_repaired, applied_if, high_entered, low_entered, with_channel_log, with_log_of, group_repaired, channel_repaired, repaired}

-- ## The order

-- the logs of this group and channel
abbrev pub of_group : Group → (channel : ℕ) → List Log → List Log
of_group group channel logs = filter (λ log. is_of group channel log.what) logs

-- The logs of a channel in the order in which repair takes them.
unfoldable pub in_order : (channel : ℕ) → List Log → List Log
in_order channel logs = flat_map (λ group. of_group group channel logs) all_groups

-- the state with what a log of a channel has
abbrev pub with_log : State → Log → State
with_log s log = with_channel_log s log.what

of_group-fold : (group : Group) (channel : ℕ) (s : State) (logs : List Log) → fold (with_log_of group channel) s logs ≡ fold with_log s (of_group group channel logs)
of_group-fold group channel s [] = refl
of_group-fold group channel s (log ∷ more) =
    elim (cases_Bool (is_of group channel log.what)) [
      | inl t ↦ rw t (of_group-fold group channel (with_log s log) more)
      | inr f ↦ rw f (of_group-fold group channel s more)
    ]

-- a fold of folds is a fold of the lists one behind the other
folds : {S X Y : Type 0} (whole : S → X → S) (step : S → Y → S) (list : X → List Y) → ((s : S) (x : X) → whole s x ≡ fold step s (list x)) → (s : S) (xs : List X) → fold whole s xs ≡ fold step s (flat_map list xs)
folds whole step list same s [] = refl
folds whole step list same s (x ∷ xs) =
    ap (λ (t : _). fold whole t xs) (same s x)
    ∙ folds whole step list same (fold step s (list x)) xs
    ∙ sym (fold-append step s (list x) (flat_map list xs))

pub group-fold : (logs : List Log) (channel : ℕ) (s : State) (group : Group) → group_repaired logs channel s group ≡ fold with_log s (of_group group channel logs)
unfolding group_repaired
group-fold logs channel s group = of_group-fold group channel s logs

-- a channel is repaired by its logs in their order
pub channel-fold : (logs : List Log) (s : State) (channel : ℕ) → channel_repaired logs s channel ≡ fold with_log s (in_order channel logs)
unfolding channel_repaired in_order
channel-fold logs s channel = folds (group_repaired logs channel) with_log (λ group. of_group group channel logs) (group-fold logs channel) s all_groups

-- the state before the logs of channels
abbrev pub session_done : State → List Log → State
session_done s logs = session_repaired logs (messages_repaired logs (cleared logs s))

-- and so are all channels, one after the other
pub repaired-fold : (s : State) (logs : List Log) → repaired s logs ≡ fold with_log (session_done s logs) (flat_map (λ channel. in_order channel logs) all_channels)
unfolding repaired
repaired-fold s logs = folds (channel_repaired logs) with_log (λ channel. in_order channel logs) (channel-fold logs) (session_done s logs) all_channels

-- ## A state stays whole

pub session_log_is : (s : State) (log : LogKind) → IsState s → IsState (with_session_log s log)
session_log_is s (kinds.Song song) is = record { sixteen = is.sixteen; channels = is.channels }
session_log_is s (kinds.Sequencer running downbeat position) is = record { sixteen = is.sixteen; channels = is.channels }
session_log_is s (kinds.TimeCode complete partial backward point) is = record { sixteen = is.sixteen; channels = is.channels }
session_log_is s log is = is

pub message_is : (reset : Bool) (before : ℕ) (s : State) (log : Log) → IsState s → IsState (with_message reset before s log)
message_is reset before s log is =
    elim (cases_Bool (counts reset before log.what)) [
      | inl t ↦ rw t (record { sixteen = is.sixteen; channels = is.channels })
      | inr f ↦ rw f is
    ]

applied_if_is : (s : State) (command : Option Command) → IsState s → IsState (applied_if s command)
applied_if_is s None is = is
applied_if_is s (Some command) is = state_after_is s command is

pub high_is : (s : State) (channel : ℕ) (nrpn : Bool) (high low : ℕ) (value : Option ℕ) → IsState s → IsState (high_entered s channel nrpn high low value)
high_is s channel nrpn high low None is = is
high_is s channel nrpn high low (Some value) is =
    with_channel_is s channel (half_put true (record { nrpn = nrpn; high = high; low = low }) (Some value)) is (λ c w. record { controls = w.controls; notes = w.notes; polys = w.polys })

low_is : (s : State) (channel : ℕ) (nrpn : Bool) (high low : ℕ) (value : Option ℕ) → IsState s → IsState (low_entered s channel nrpn high low value)
low_is s channel nrpn high low None is = is
low_is s channel nrpn high low (Some value) is =
    with_channel_is s channel (half_put false (record { nrpn = nrpn; high = high; low = low }) (Some value)) is (λ c w. record { controls = w.controls; notes = w.notes; polys = w.polys })

pub channel_log_is : (s : State) (log : LogKind) → IsState s → IsState (with_channel_log s log)
channel_log_is s (kinds.Program channel program bank) is =
    with_channel_is s channel (λ c. record c { program = Some (record { program = program; bank = bank }) }) is (λ c w. record { controls = w.controls; notes = w.notes; polys = w.polys })
channel_log_is s (kinds.Param channel nrpn high low entry_high entry_low) is =
    low_is (high_entered s channel nrpn high low entry_high) channel nrpn high low entry_low (high_is s channel nrpn high low entry_high is)
channel_log_is s (kinds.Toggle channel count) is =
    with_channel_is s channel (λ c. record c { toggles = count % 64 }) is (λ c w. record { controls = w.controls; notes = w.notes; polys = w.polys })
channel_log_is s log is = applied_if_is s (command_of log) is

pub cleared_is : (s : State) (logs : List Log) → IsState s → IsState (cleared logs s)
cleared_is s logs is = elim (cases_Bool (has_reset logs)) [ inl t ↦ rw t no_state_is | inr f ↦ rw f is ]

fold_is : {X : Type 0} (step : State → X → State) → ((s : State) (x : X) → IsState s → IsState (step s x)) → (s : State) (xs : List X) → IsState s → IsState (fold step s xs)
fold_is step keeps s [] is = is
fold_is step keeps s (x ∷ xs) is = fold_is step keeps (step s x) xs (keeps s x is)

pub messages_is : (s : State) (logs : List Log) → IsState s → IsState (messages_repaired logs s)
messages_is s logs is = fold_is (with_message (has_reset logs) s.sysex_count) (message_is (has_reset logs) s.sysex_count) s logs is

pub session_is : (s : State) (logs : List Log) → IsState s → IsState (session_done s logs)
session_is s logs is =
    fold_is (λ t log. with_session_log t log.what) (λ t log w. session_log_is t log.what w) (messages_repaired logs (cleared logs s)) logs (messages_is (cleared logs s) logs (cleared_is s logs is))

pub repaired_is : (s : State) (logs : List Log) → IsState s → IsState (repaired s logs)
repaired_is s logs is =
    rw (repaired-fold s logs) (fold_is with_log (λ t log w. channel_log_is t log.what w) (session_done s logs) (flat_map (λ channel. in_order channel logs) all_channels) (session_is s logs is))

-- ## What a log is of

-- the group of a log and its channel
abbrev pub tag : LogKind → Option (Group × ℕ)
tag (kinds.Program channel program bank) = Some (Programs, channel)
tag (kinds.Param channel nrpn high low entry_high entry_low) = Some (Params, channel)
tag (kinds.Control channel number value) = Some (Controls, channel)
tag (kinds.Toggle channel count) = Some (Controls, channel)
tag (kinds.Count channel number count) = Some (Controls, channel)
tag (kinds.Wheel channel first second) = Some (Wheels, channel)
tag (kinds.NoteOff channel note) = Some (Released, channel)
tag (kinds.NoteOn channel note velocity soon) = Some (Struck, channel)
tag (kinds.Pressure channel value) = Some (Pressures, channel)
tag (kinds.Poly channel note value) = Some (Polys, channel)
tag _ = None

-- the place of a group in the order of repair
abbrev pub rank : Group → ℕ
rank Programs = 0
rank Params = 1
rank Controls = 2
rank Wheels = 3
rank Released = 4
rank Struck = 5
rank Pressures = 6
rank Polys = 7

abbrev pub is_tagged : Group → ℕ → Option (Group × ℕ) → Bool
is_tagged group channel None = false
is_tagged group channel (Some tagged) = eqb (rank group) (rank tagged.0) && eqb tagged.1 channel

pub is_of-tag : (group : Group) (channel : ℕ) (log : LogKind) → is_of group channel log ≡ is_tagged group channel (tag log)
is_of-tag Programs channel (kinds.Program at program bank) = refl
is_of-tag Programs channel log = refl
is_of-tag Params channel (kinds.Param at nrpn high low entry_high entry_low) = refl
is_of-tag Params channel log = refl
is_of-tag Controls channel (kinds.Control at number value) = refl
is_of-tag Controls channel log = refl
is_of-tag Wheels channel (kinds.Wheel at first second) = refl
is_of-tag Wheels channel log = refl
is_of-tag Released channel (kinds.NoteOff at note) = refl
is_of-tag Released channel log = refl
is_of-tag Struck channel (kinds.NoteOn at note velocity soon) = refl
is_of-tag Struck channel log = refl
is_of-tag Pressures channel (kinds.Pressure at value) = refl
is_of-tag Pressures channel log = refl
is_of-tag Polys channel (kinds.Poly at note value) = refl
is_of-tag Polys channel log = refl

-- ## A part of a channel

-- whether a log of these groups of the channel
abbrev pub concerns_tag : (Group → Bool) → (channel : ℕ) → Option (Group × ℕ) → Bool
concerns_tag groups channel None = false
concerns_tag groups channel (Some tagged) = groups tagged.0 && eqb tagged.1 channel

abbrev pub concerns : (Group → Bool) → (channel : ℕ) → LogKind → Bool
concerns groups channel log = concerns_tag groups channel (tag log)

-- What the logs of these groups of a channel say of a part of the state, of which no others say anything.
pub record IsPart {V : Type 0} (channel : ℕ) (groups : Group → Bool) (part : State → Option V) (says : LogKind → Option (Option V)) : Type 0 where
  pub absent : part no_state ≡ None
  pub counted : (s : State) (count : ℕ) → part (with_sysex_count s count) ≡ part s
  pub session : (s : State) (log : LogKind) → part (with_session_log s log) ≡ part s
  pub set : (s : State) (log : LogKind) → IsState s → part (with_channel_log s log) ≡ said (says log) (part s)
  pub silent : (log : LogKind) → concerns groups channel log ≡ false → says log ≡ None

-- what a log says
abbrev pub log_says : {V : Type 0} → (LogKind → Option (Option V)) → Log → Option (Option V)
log_says says log = says log.what

fold_kept : {S X V : Type 0} (step : S → X → S) (part : S → V) → ((s : S) (x : X) → part (step s x) ≡ part s) → (s : S) (xs : List X) → part (fold step s xs) ≡ part s
fold_kept step part same s [] = refl
fold_kept step part same s (x ∷ xs) = fold_kept step part same (step s x) xs ∙ same s x

pub final-filter_none : {X V : Type 0} (says : X → Option (Option V)) (p : X → Bool) → ((x : X) → p x ≡ true → says x ≡ None) → (xs : List X) → final says (filter p xs) ≡ None
final-filter_none says p h [] = refl
final-filter_none says p h (x ∷ xs) =
    elim (cases_Bool (p x)) [ inl t ↦ rw (t, h x t, final-filter_none says p h xs) refl | inr f ↦ rw f (final-filter_none says p h xs) ]

pub all_of : {X : Type 0} (P : X → Type 0) → ((x : X) → P x) → (xs : List X) → AllByRecursion P xs
all_of P h [] = tt
all_of P h (x ∷ xs) = (h x, all_of P h xs)

other_tag : (groups : Group → Bool) (group : Group) (channel other : ℕ) (t : Option (Group × ℕ)) → eqb channel other ≡ false → is_tagged group other t ≡ true → concerns_tag groups channel t ≡ false
other_tag groups group channel other None apart h = refl
other_tag groups group channel other (Some t) apart h =
    elim (cases_Bool (eqb t.1 channel)) [
      | inl e ↦
          let here : t.1 ≡ channel = eqb-true t.1 channel e in
          elim (cases_Bool (eqb t.1 other)) [
            | inl o ↦ absurd (let both : eqb t.1 other ≡ false = rw here apart in let f : true ≡ false = sym o ∙ both in cc)
            | inr n ↦ absurd (let f : false ≡ true = sym (last (eqb (rank group) (rank t.0))) ∙ (rw n at h) in cc)
          ]
      | inr n ↦ rw n (last (groups t.0))
    ]
  where
    last : (b : Bool) → (b && false) ≡ false
    last true = refl
    last false = refl

channel_in_16 : (channel : ℕ) → channel < 16 → list_any (λ k. eqb channel k) all_channels ≡ true
unfolding all_channels
channel_in_16 channel l = grind (arith, nat_tests)

module _ {V : Type 0} (channel : ℕ) (groups : Group → Bool) (part : State → Option V) (says : LogKind → Option (Option V)) (is_part : IsPart channel groups part says) where
  pub session_left : (s : State) (logs : List Log) → part (session_done s logs) ≡ part (cleared logs s)
  session_left s logs =
      fold_kept (λ t log. with_session_log t log.what) part (λ t log. is_part.session t log.what) (messages_repaired logs (cleared logs s)) logs
      ∙ fold_kept (with_message (has_reset logs) (cleared logs s).sysex_count) part counted (cleared logs s) logs
    where
      counted : (t : State) (log : Log) → part (with_message (has_reset logs) (cleared logs s).sysex_count t log) ≡ part t
      counted t log =
          elim (cases_Bool (counts (has_reset logs) (cleared logs s).sysex_count log.what)) [
            | inl c ↦ rw c (is_part.counted t ((t.sysex_count + 1) % 256))
            | inr n ↦ rw n refl
          ]

  pub cleared_part : (s : State) (logs : List Log) → part (cleared logs s) ≡ said (ended (has_reset logs)) (part s)
  cleared_part s logs = elim (cases_Bool (has_reset logs)) [ inl t ↦ rw t is_part.absent | inr f ↦ rw f refl ]

  pub silent_elsewhere : (logs : List Log) (other : ℕ) → eqb channel other ≡ false → final (log_says says) (in_order other logs) ≡ None
  unfolding in_order
  silent_elsewhere logs other apart =
      final-flat_map (log_says says) (λ group. of_group group other logs) all_groups
      ∙ final-none (λ group. final (log_says says) (of_group group other logs)) all_groups
      (all_of (λ group. final (log_says says) (of_group group other logs) ≡ None)
      (λ group. final-filter_none (log_says says) (λ log. is_of group other log.what)
      (λ log h. is_part.silent log.what (other_tag groups group channel other (tag log.what) apart (sym (is_of-tag group other log.what) ∙ h))) logs) all_groups)

  -- Repair of a part of a channel is what the logs of the channel say in the order of repair, behind the resets.
  pub part_repaired : (s : State) (logs : List Log) → channel < 16 → IsState s →
      part (repaired s logs) ≡ said (over (final (log_says says) (in_order channel logs)) (ended (has_reset logs))) (part s)
  part_repaired s logs l is =
      let begins = session_done s logs in
      let all = flat_map (λ k. in_order k logs) all_channels in
      let own : final (log_says says) all ≡ final (log_says says) (in_order channel logs) =
      final-flat_map (log_says says) (λ k. in_order k logs) all_channels
      ∙ final-one (λ k. final (log_says says) (in_order k logs)) channel all_channels (silent_elsewhere logs)
      (λ k e. let same : channel ≡ k = eqb-true channel k e in ap (λ (n : ℕ). final (log_says says) (in_order n logs)) (sym same)) (channel_in_16 channel l) in
      ap part (repaired-fold s logs)
      ∙ fold-part IsState with_log part (log_says says) (λ t log w. channel_log_is t log.what w) (λ t log w. is_part.set t log.what w) begins all (session_is s logs is)
      ∙ ap (λ (o : Option (Option V)). said o (part begins)) own
      ∙ ap (said (final (log_says says) (in_order channel logs))) (session_left s logs ∙ cleared_part s logs)
      ∙ said-over (final (log_says says) (in_order channel logs)) (ended (has_reset logs)) (part s)
