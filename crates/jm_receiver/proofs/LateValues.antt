-- The values of a late joiner: which parts they are, and what repair and commands make of them.
use Rattle.std.proofs.Common.{◌≡◌, ℕ, ◌+◌, ◌<◌, ◌≤◌, Bool, true, false, eqb, leb, List, [], ◌∷◌, ◌++◌, Option, Some, None, refl, sym, ap, subst, ◌∙◌, ◌⊎◌, inl, inr, arith}
use Rattle.std.specs.Prelude.{option_map}
use Rattle.std.proofs.lemmas.Bool.{cases_Bool}
use Rattle.jm_cmds.specs.declared.commands.Command.{Command}
use Rattle.jm_cmds.specs.declared.commands.Command.TheVariants as commands
use Rattle.jm_cmds.specs.declared.history.Sent.{Sent}
use Rattle.jm_cmds.specs.Control.{is_reset}
use Rattle.jm_cmds.specs.History.{below, since, scanned, InOrder}
use Rattle.jm_cmds.specs.HistoryLaws.{InOrder-filter}
use Rattle.jm_cmds.specs.Sent.{packet_of}
use Rattle.ch_voice.specs.Bank.{no_bank, bank_step}
use Rattle.ch_voice.specs.ChapterP.{banked_packet}
use Rattle.jm_state.specs.declared.channel.ProgramPart.{ProgramPart}
use Rattle.jm_state.specs.declared.state.State.{State}
use Rattle.jm_state.specs.Final.{final, final-same}
use Rattle.jm_state.specs.Kept.{IsState}
use Rattle.jm_state.specs.PartLaws.{by_part}
use Rattle.jm_state.specs.Parts.{no_state, program_of, control_of, wheel_of, note_of, pressure_of, poly_of}
use Rattle.jm_state.specs.Replay.{over}
use Rattle.jm_state.specs.ReplayLaws.{state_behind}
use Rattle.jm_state.specs.Says.{said, ended, program_says, control_says, wheel_says, note_says, pressure_says, poly_says}
use Rattle.jm_reader.specs.declared.logs.LogKind.{LogKind}
use Rattle.jm_reader.specs.WrittenJournal.{journal_logs}
use Rattle.jm_receiver.specs.declared.group.Group.{Group}
use Rattle.jm_receiver.specs.ControlLaw.{control_groups, control_log_says, control_is, control_heard}
use Rattle.jm_receiver.specs.FreshLaw.{exact_of, exact_same, part_as_last, note_as_last}
use Rattle.jm_receiver.specs.FreshLogs.{fresh_of, is_exact}
use Rattle.jm_receiver.specs.Late.{program_number, number_says, HasTold, HasValues}
use Rattle.jm_receiver.specs.NoteLaw.{note_groups, note_log_says, note_is, note_heard}
use Rattle.jm_receiver.specs.Order.{IsPart, part_repaired}
use Rattle.jm_receiver.specs.PolyLaw.{poly_groups, poly_log_says, poly_is, poly_heard}
use Rattle.jm_receiver.specs.PressureLaw.{pressure_groups, pressure_log_says, pressure_is, pressure_heard}
use Rattle.jm_receiver.specs.ProgramLaw.{program_groups, program_log_says, program_is, banked_says, program_heard}
use Rattle.jm_receiver.specs.Repair.{repaired}
use Rattle.jm_receiver.specs.Repairs.{LastSays, place_says, seen_since, journal_says, below_next}
use Rattle.jm_receiver.specs.WheelLaw.{wheel_groups, wheel_log_says, wheel_is, wheel_heard}
use Rattle.jm_receiver.proofs.LateParts.{told_also, told_first, told_repaired}

-- On this state the fresh logs do to the part what the logs of a journal do that has the last packet as its checkpoint, or leave it as
-- all commands do.
abbrev AsLast : {V : Type 0} → (State → Option V) → State → (checkpoint prior tick : ℕ) → List Sent → Type 0
AsLast part s checkpoint prior tick sent =
    (part (repaired s (fresh_of (journal_logs checkpoint (prior + 1) tick sent))) ≡ part (repaired s (journal_logs prior (prior + 1) tick sent)))
    ⊎ (part (repaired s (fresh_of (journal_logs checkpoint (prior + 1) tick sent))) ≡ part (state_behind no_state (below packet_of (prior + 1) sent)))

-- a part of which repair does what the commands from the checkpoint on say, whatever the state has
record IsValue {V : Type 0} (part : State → Option V) (says : Command → Option (Option V)) : Type 0 where
  last : LastSays part says
  effect : (s : State) (checkpoint packet tick : ℕ) (sent : List Sent) → IsState s → InOrder packet_of sent → part (repaired s (journal_logs checkpoint packet tick sent)) ≡ said (final (place_says says) (seen_since checkpoint packet sent)) (part s)
  fresh : (s : State) (checkpoint prior tick : ℕ) (sent : List Sent) → IsState s → InOrder packet_of sent → checkpoint ≤ prior → AsLast part s checkpoint prior tick sent

journal_effect : {V : Type 0} (channel : ℕ) (groups : Group → Bool) (part : State → Option V) (says : LogKind → Option (Option V)) (commands : Command → Option (Option V)) → channel < 16 → IsPart channel groups part says →
    ((checkpoint packet tick : ℕ) (sent : List Sent) → InOrder packet_of sent → journal_says says channel checkpoint packet tick sent ≡ final (place_says commands) (seen_since checkpoint packet sent)) →
    (s : State) (checkpoint packet tick : ℕ) (sent : List Sent) → IsState s → InOrder packet_of sent → part (repaired s (journal_logs checkpoint packet tick sent)) ≡ said (final (place_says commands) (seen_since checkpoint packet sent)) (part s)
journal_effect channel groups part says commands l is_part heard s checkpoint packet tick sent is o =
    part_repaired channel groups part says is_part s (journal_logs checkpoint packet tick sent) l is
    ∙ ap (λ (w : Option (Option _)). said w (part s)) (heard checkpoint packet tick sent o)

fresh_effect : {V : Type 0} (channel : ℕ) (groups : Group → Bool) (part : State → Option V) (says : LogKind → Option (Option V)) → channel < 16 → IsPart channel groups part says → ((group : Group) → groups group ≡ true → is_exact group ≡ true) →
    (s : State) (checkpoint prior tick : ℕ) (sent : List Sent) → IsState s → checkpoint ≤ prior → part (repaired s (fresh_of (journal_logs checkpoint (prior + 1) tick sent))) ≡ part (repaired s (journal_logs prior (prior + 1) tick sent))
fresh_effect channel groups part says l is_part exact s checkpoint prior tick sent is early =
    part_as_last channel groups part says is_part checkpoint prior tick sent early l (exact_same channel groups part says is_part checkpoint prior tick sent early exact) s is

-- ## The number of a program

abbrev numbers : Option (Option ProgramPart) → Option (Option ℕ)
numbers None = None
numbers (Some part) = Some (option_map (λ p. p.program) part)

numbers-said : (o : Option (Option ProgramPart)) (part : Option ProgramPart) → option_map (λ (p : ProgramPart). p.program) (said o part) ≡ said (numbers o) (option_map (λ (p : ProgramPart). p.program) part)
numbers-said None part = refl
numbers-said (Some new) part = refl

numbers-over : (a b : Option (Option ProgramPart)) → numbers (over a b) ≡ over (numbers a) (numbers b)
numbers-over None b = refl
numbers-over (Some a) b = refl

numbers-final : {X : Type 0} (says : X → Option (Option ProgramPart)) (xs : List X) → numbers (final says xs) ≡ final (λ x. numbers (says x)) xs
numbers-final says [] = refl
numbers-final says (x ∷ xs) = numbers-over (final says xs) (says x) ∙ ap (λ (o : Option (Option ℕ)). over o (numbers (says x))) (numbers-final says xs)

numbers-ended : (b : Bool) → numbers (ended b) ≡ ended b
numbers-ended true = refl
numbers-ended false = refl

number_said : (channel : ℕ) (high low : Option ℕ) (command : Command) → numbers (program_says channel high low command) ≡ number_says channel command
number_said channel high low (commands.Program at program) = elim (cases_Bool (eqb at channel)) [ inl t ↦ rw t refl | inr f ↦ rw f refl ]
number_said channel high low command = numbers-ended (is_reset command)

-- what says nothing of the data before it
final-placed : {S X V : Type 0} (step : S → X → S) (at : X → ℕ) (checkpoint : ℕ) (says : X → Option (Option V)) (s : S) (xs : List X) →
    final (λ p. says p.1) (since (λ p. at p.1) checkpoint (scanned step s xs)) ≡ final says (since at checkpoint xs)
final-placed step at checkpoint says s [] = refl
final-placed step at checkpoint says s (x ∷ xs) =
    let ih = final-placed step at checkpoint says (step s x) xs in
    elim (cases_Bool (leb checkpoint (at x))) [
      | inl t ↦ rw t (ap (λ (o : Option (Option _)). over o (says x)) ih)
      | inr f ↦ rw f ih
    ]

module _ (channel : ℕ) (l : channel < 16) where
  number_last : LastSays (λ t. program_number t channel) (number_says channel)
  number_last s command is =
      let part = program_of s channel in
      let told = program_says channel (control_of s channel 0) (control_of s channel 32) command in
      ap (option_map (λ (p : ProgramPart). p.program)) ((by_part s command is).program channel l)
      ∙ numbers-said told part
      ∙ ap (λ (o : Option (Option ℕ)). said o (program_number s channel)) (number_said channel (control_of s channel 0) (control_of s channel 32) command)

  number_effect : (s : State) (checkpoint packet tick : ℕ) (sent : List Sent) → IsState s → InOrder packet_of sent →
      program_number (repaired s (journal_logs checkpoint packet tick sent)) channel ≡ said (final (place_says (number_says channel)) (seen_since checkpoint packet sent)) (program_number s channel)
  number_effect s checkpoint packet tick sent is o =
      let logs = journal_logs checkpoint packet tick sent in
      let journal = journal_says (program_log_says channel) channel checkpoint packet tick sent in
      let recent = since banked_packet checkpoint (scanned (bank_step channel) no_bank (below packet_of packet sent)) in
      ap (option_map (λ (p : ProgramPart). p.program)) (part_repaired channel program_groups (λ t. program_of t channel) (program_log_says channel) (program_is channel l) s logs l is)
      ∙ numbers-said journal (program_of s channel)
      ∙ ap (λ (o : Option (Option ℕ)). said o (program_number s channel))
      (ap numbers (program_heard channel l checkpoint packet tick sent o)
      ∙ numbers-final (banked_says channel) recent
      ∙ final-same (λ place. numbers (banked_says channel place)) (λ place. number_says channel place.1.command) (λ place. number_said channel place.0.high place.0.low place.1.command) recent
      ∙ final-placed (bank_step channel) packet_of checkpoint (place_says (number_says channel)) no_bank (below packet_of packet sent))

  program_value : IsValue (λ t. program_number t channel) (number_says channel)
  program_value = record {
    last = number_last;
    effect = number_effect;
    fresh = λ s checkpoint prior tick sent is o early. inl (ap (option_map (λ (p : ProgramPart). p.program))
        (fresh_effect channel program_groups (λ t. program_of t channel) (program_log_says channel) l (program_is channel l) (exact_of program_groups refl refl) s checkpoint prior tick sent is early));
  }

  wheel_value : IsValue (λ t. wheel_of t channel) (wheel_says channel)
  wheel_value = record {
    last = λ s command is. (by_part s command is).wheel channel l;
    effect = journal_effect channel wheel_groups (λ t. wheel_of t channel) (wheel_log_says channel) (wheel_says channel) l (wheel_is channel l) (wheel_heard channel l);
    fresh = λ s checkpoint prior tick sent is o early. inl (fresh_effect channel wheel_groups (λ t. wheel_of t channel) (wheel_log_says channel) l (wheel_is channel l) (exact_of wheel_groups refl refl) s checkpoint prior tick sent is early);
  }

  pressure_value : IsValue (λ t. pressure_of t channel) (pressure_says channel)
  pressure_value = record {
    last = λ s command is. (by_part s command is).pressure channel l;
    effect = journal_effect channel pressure_groups (λ t. pressure_of t channel) (pressure_log_says channel) (pressure_says channel) l (pressure_is channel l) (pressure_heard channel l);
    fresh = λ s checkpoint prior tick sent is o early. inl (fresh_effect channel pressure_groups (λ t. pressure_of t channel) (pressure_log_says channel) l (pressure_is channel l) (exact_of pressure_groups refl refl) s checkpoint prior tick sent is early);
  }

  module _ (key : ℕ) (m : key < 128) where
    control_value : IsValue (λ t. control_of t channel key) (control_says channel key)
    control_value = record {
      last = λ s command is. (by_part s command is).control channel key l m;
      effect = journal_effect channel control_groups (λ t. control_of t channel key) (control_log_says channel key) (control_says channel key) l (control_is channel key l m) (control_heard channel key l m);
      fresh = λ s checkpoint prior tick sent is o early. inl (fresh_effect channel control_groups (λ t. control_of t channel key) (control_log_says channel key) l (control_is channel key l m) (exact_of control_groups refl refl) s checkpoint prior tick sent is early);
    }

    note_value : IsValue (λ t. note_of t channel key) (note_says channel key)
    note_value = record {
      last = λ s command is. (by_part s command is).note channel key l m;
      effect = journal_effect channel note_groups (λ t. note_of t channel key) (note_log_says channel key) (note_says channel key) l (note_is channel key l m) (note_heard channel key l m);
      fresh = λ s checkpoint prior tick sent is o early. note_as_last channel key l m checkpoint prior tick sent o early s is;
    }

    poly_value : IsValue (λ t. poly_of t channel key) (poly_says channel key)
    poly_value = record {
      last = λ s command is. (by_part s command is).poly channel key l m;
      effect = journal_effect channel poly_groups (λ t. poly_of t channel key) (poly_log_says channel key) (poly_says channel key) l (poly_is channel key l m) (poly_heard channel key l m);
      fresh = λ s checkpoint prior tick sent is o early. inl (fresh_effect channel poly_groups (λ t. poly_of t channel key) (poly_log_says channel key) l (poly_is channel key l m) (exact_of poly_groups refl refl) s checkpoint prior tick sent is early);
    }

-- ## All of them

-- what keeps each part of this kind keeps all
values_by : (from : ℕ) (s t : State) (a b : List Sent) → ((V : Type 0) (part : State → Option V) (says : Command → Option (Option V)) → IsValue part says → HasTold part says from s a → HasTold part says from t b) → HasValues from s a → HasValues from t b
values_by from s t a b keeps h = record {
  program = λ channel l. keeps ℕ (λ u. program_number u channel) (number_says channel) (program_value channel l) (h.program channel l);
  control = λ channel number l m. keeps ℕ (λ u. control_of u channel number) (control_says channel number) (control_value channel l number m) (h.control channel number l m);
  wheel = λ channel l. keeps (ℕ × ℕ) (λ u. wheel_of u channel) (wheel_says channel) (wheel_value channel l) (h.wheel channel l);
  note = λ channel note l m. keeps ℕ (λ u. note_of u channel note) (note_says channel note) (note_value channel l note m) (h.note channel note l m);
  pressure = λ channel l. keeps ℕ (λ u. pressure_of u channel) (pressure_says channel) (pressure_value channel l) (h.pressure channel l);
  poly = λ channel note l m. keeps ℕ (λ u. poly_of u channel note) (poly_says channel note) (poly_value channel l note m) (h.poly channel note l m);
}

values_of : (from : ℕ) (t : State) (b : List Sent) → ((V : Type 0) (part : State → Option V) (says : Command → Option (Option V)) → IsValue part says → HasTold part says from t b) → HasValues from t b
values_of from t b has = record {
  program = λ channel l. has ℕ (λ u. program_number u channel) (number_says channel) (program_value channel l);
  control = λ channel number l m. has ℕ (λ u. control_of u channel number) (control_says channel number) (control_value channel l number m);
  wheel = λ channel l. has (ℕ × ℕ) (λ u. wheel_of u channel) (wheel_says channel) (wheel_value channel l);
  note = λ channel note l m. has ℕ (λ u. note_of u channel note) (note_says channel note) (note_value channel l note m);
  pressure = λ channel l. has ℕ (λ u. pressure_of u channel) (pressure_says channel) (pressure_value channel l);
  poly = λ channel note l m. has ℕ (λ u. poly_of u channel note) (poly_says channel note) (poly_value channel l note m);
}

-- further commands
pub values_also : (from : ℕ) (s : State) (before own : List Sent) → IsState s → HasValues from s before → HasValues from (state_behind s own) (before ++ own)
values_also from s before own is h =
    values_by from s (state_behind s own) before (before ++ own) (λ V part says value has. told_also part says value.last from s before own is has) h

-- the journal of a first packet
pub values_first : (checkpoint packet tick : ℕ) (s : State) (sent : List Sent) → IsState s → InOrder packet_of sent → HasValues checkpoint (repaired s (journal_logs checkpoint packet tick sent)) (below packet_of packet sent)
values_first checkpoint packet tick s sent is o =
    let all = below packet_of packet sent in
    let t = repaired s (journal_logs checkpoint packet tick sent) in
    values_of checkpoint t all
    (λ V part says value. told_first part says value.last checkpoint s t all (InOrder-filter packet_of _ sent o) (value.effect s checkpoint packet tick sent is o))

-- that of a later one
pub values_repaired : (from checkpoint next packet tick : ℕ) (s : State) (sent : List Sent) → IsState s → InOrder packet_of sent → checkpoint ≤ next → next ≤ packet → HasValues from s (below packet_of next sent) → HasValues from (repaired s (journal_logs checkpoint packet tick sent)) (below packet_of packet sent)
values_repaired from checkpoint next packet tick s sent is o early late h =
    let all = below packet_of packet sent in
    let t = repaired s (journal_logs checkpoint packet tick sent) in
    values_by from s t (below packet_of next all) all
    (λ V part says value has. told_repaired part says value.last checkpoint s t all (InOrder-filter packet_of _ sent o) (value.effect s checkpoint packet tick sent is o) from next early has)
    (subst (λ (before : List Sent). HasValues from s before) (sym (below_next next packet sent late)) h)

-- the fresh logs of that of the packet behind the one that is lacked
pub values_fresh : (from checkpoint prior tick : ℕ) (s : State) (sent : List Sent) → IsState s → InOrder packet_of sent → checkpoint ≤ prior → HasValues from s (below packet_of prior sent) →
    HasValues from (repaired s (fresh_of (journal_logs checkpoint (prior + 1) tick sent))) (below packet_of (prior + 1) sent)
values_fresh from checkpoint prior tick s sent is o early h =
    let all = below packet_of (prior + 1) sent in
    let logs = journal_logs prior (prior + 1) tick sent in
    let fresh = fresh_of (journal_logs checkpoint (prior + 1) tick sent) in
    values_by from s (repaired s fresh) (below packet_of prior all) all
    (λ V part says value has told.
    let by_last : part (repaired s logs) ≡ part (state_behind no_state all) =
    told_repaired part says value.last prior s (repaired s logs) all (InOrder-filter packet_of _ sent o) (value.effect s prior (prior + 1) tick sent is o) from prior (omega arith) has told in
    elim (value.fresh s checkpoint prior tick sent is o early) [
      | inl as_last ↦ as_last ∙ by_last
      | inr meant ↦ meant
    ])
    (subst (λ (before : List Sent). HasValues from s before) (sym (below_next prior (prior + 1) sent (omega arith))) h)
