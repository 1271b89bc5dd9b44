-- The law of repair for parameters after one lost packet, by the fresh logs alone. Of a parameter that was entered in that packet all coded
-- halves are fresh, older ones too: what those set is so already.
use Rattle.std.proofs.Common.{◌≡◌, ℕ, ◌+◌, ◌<◌, ◌≤◌, Bool, true, false, cond, leb, ltb, List, [], Option, Some, None, length, refl, sym, ap, ◌∙◌, arith}
use Rattle.std.specs.List.{list_any}
use Rattle.std.proofs.lemmas.Bool.{leb-true, le-leb}
use Rattle.jm_cmds.specs.declared.history.Sent.{Sent}
use Rattle.jm_cmds.specs.declared.param.Param.{Param}
use Rattle.jm_cmds.specs.History.{below, since, InOrder}
use Rattle.jm_cmds.specs.HistoryLaws.{filter-filter, filter-swap, InOrder-filter, InOrder-scanned}
use Rattle.jm_cmds.specs.Param.{same_param}
use Rattle.jm_cmds.specs.Selection.{no_selection}
use Rattle.jm_cmds.specs.Sent.{packet_of}
use Rattle.ch_param.specs.ChapterM.{Entered as Coded, entered, coded_half, session_places}
use Rattle.ch_param.specs.Event.{Place, packet_at, selection_step}
use Rattle.jm_state.specs.declared.state.State.{State}
use Rattle.jm_state.specs.Entered.{halves_in}
use Rattle.jm_state.specs.Parts.{no_state, entered_of, param_of}
use Rattle.jm_state.specs.Says.{said, ended}
use Rattle.jm_state.specs.Kept.{IsState}
use Rattle.jm_state.specs.KeptLaws.{no_state_is}
use Rattle.jm_state.specs.Replay.{over, in_two}
use Rattle.jm_state.specs.ReplayLaws.{state_behind, behind_is}
use Rattle.jm_state.specs.Final.{final, speaks, final-append, final-map, final-same}
use Rattle.jm_reader.specs.declared.logs.Log.{Log}
use Rattle.jm_reader.specs.WrittenM.{entered_said}
use Rattle.jm_reader.specs.WrittenJournal.{journal_logs}
use Rattle.jm_receiver.specs.Repair.{has_reset, repaired}
use Rattle.jm_receiver.specs.Order.{log_says}
use Rattle.jm_receiver.specs.FreshLogs.{fresh_of, m_fresh, reset_fresh}
use Rattle.jm_receiver.specs.ParamKeys.{Holds}
use Rattle.jm_receiver.specs.ParamPlaces.{params_entered, clears, Knows, knows_own, clears_speak, place_says}
use Rattle.jm_receiver.specs.ParamLogs.{param, as_said, param_log_says, all_in_order, fresh_fit, fresh_alone}
use Rattle.jm_receiver.specs.ParamLaw.{recent, read_half, coded_said, param_coded, chosen, half_coded, dropped_clears, reset_clears, m_fits, places_before, half_told, half_session, half_before, holds_before, same_halves}

-- As `FreshRepairs`, for a channel in which at most 16 different parameters were entered since the last Reset State command, up to the
-- last packet.
abbrev pub FreshRepairsFew : {V : Type 0} → (channel : ℕ) → (State → V) → Type 0
FreshRepairsFew channel part =
    (checkpoint last tick : ℕ) (sent : List Sent) → InOrder packet_of sent → length (params_entered channel (below packet_of (last + 1) sent)) ≤ 16 → checkpoint ≤ last →
    part (repaired (state_behind no_state (below packet_of last sent)) (fresh_of (journal_logs checkpoint (last + 1) tick sent))) ≡ part (state_behind no_state (below packet_of (last + 1) sent))

-- What the last packet says of a half, what the packets from the checkpoint to it say, and what those before say. Where its parameter was
-- entered in the last packet its log has what is coded of it from the checkpoint on.
fresh_half : (late middle first : Option (Option ℕ)) (is_entered reset : Bool) (old : Option ℕ) →
    (reset ≡ true → speaks late ≡ true) → (late ≡ Some None → reset ≡ true) → ((value : ℕ) → late ≡ Some (Some value) → is_entered ≡ true) → (reset ≡ false → old ≡ said (over middle first) None) →
    said (over (cond is_entered (as_said (said (over late middle) None)) None) (ended reset)) old ≡ said late old
fresh_half None middle first is_entered true old speaking dropped set had = absurd (let f : false ≡ true = speaking refl in cc)
fresh_half None middle first false false old speaking dropped set had = refl
fresh_half None None first true false old speaking dropped set had = refl
fresh_half None (Some None) first true false old speaking dropped set had = refl
fresh_half None (Some (Some value)) first true false old speaking dropped set had = sym (had refl)
fresh_half (Some None) middle first true reset old speaking dropped set had = rw (dropped refl) refl
fresh_half (Some None) middle first false reset old speaking dropped set had = rw (dropped refl) refl
fresh_half (Some (Some value)) middle first is_entered reset old speaking dropped set had = rw (set value refl) refl

module _ (channel : ℕ) (l : channel < 16) (p : Param) (half : Bool) (checkpoint last tick : ℕ) (sent : List Sent) (o : InOrder packet_of sent) (early : checkpoint ≤ last) where
  abbrev seen : List Sent
  seen = below packet_of (last + 1) sent

  abbrev places : List Place
  places = session_places channel seen

  abbrev says : Place → Option (Option ℕ)
  says = place_says channel p half

  abbrev logs : List Log
  logs = fresh_of (journal_logs checkpoint (last + 1) tick sent)

  -- what the last packet says of the half, what the packets from the checkpoint to it say, and what those before say
  abbrev late : Option (Option ℕ)
  late = final says (recent channel last seen)

  abbrev middle : Option (Option ℕ)
  middle = final says (since packet_at checkpoint (below packet_at last places))

  abbrev first : Option (Option ℕ)
  first = final says (below packet_at checkpoint (below packet_at last places))

  -- the parameter was entered in the last packet, and isn't cleared in it later
  abbrev is_entered : Bool
  is_entered = list_any (λ (e : Coded). same_param p e.param) (entered channel last places)

  ordered : InOrder packet_at places
  ordered = InOrder-scanned packet_of (selection_step channel) no_selection seen (InOrder-filter packet_of _ sent o)

  before_ordered : InOrder packet_at (below packet_at last places)
  before_ordered = InOrder-filter packet_at _ places ordered

  old_says : final says (below packet_at last places) ≡ over middle first
  old_says =
      ap (final says) (in_two packet_at checkpoint (below packet_at last places) before_ordered)
      ∙ final-append says (below packet_at checkpoint (below packet_at last places)) (since packet_at checkpoint (below packet_at last places))

  coded_says : final says (recent channel checkpoint seen) ≡ over late middle
  coded_says =
      let ys = since packet_at checkpoint places in
      let later : since packet_at last ys ≡ since packet_at last places =
      filter-filter (λ (x : Place). leb checkpoint (packet_at x)) (λ (x : Place). leb last (packet_at x)) (λ x h. let u : last ≤ packet_at x = leb-true last (packet_at x) h in le-leb checkpoint (packet_at x) (omega (arith, u, early))) places in
      let before : below packet_at last ys ≡ since packet_at checkpoint (below packet_at last places) = filter-swap (λ (x : Place). ltb (packet_at x) last) (λ (x : Place). leb checkpoint (packet_at x)) places in
      ap (final says) (in_two packet_at last ys (InOrder-filter packet_at _ places ordered))
      ∙ final-append says (below packet_at last ys) (since packet_at last ys)
      ∙ rw (later, before) refl

  -- what the fresh logs say
  fresh_says : final (log_says (param_log_says channel p half)) (all_in_order logs) ≡ cond is_entered (as_said (said (over late middle) None)) None
  fresh_says =
      let speak = log_says (param_log_says channel p half) in
      let log = entered_said channel checkpoint (last + 1) places in
      let w = as_said (coded_half channel checkpoint places p half) in
      fresh_alone channel l p half checkpoint (last + 1) tick sent
      ∙ ap (final speak) (m_fresh checkpoint last sent early channel)
      ∙ final-map speak log (entered channel last places)
      ∙ final-same (λ e. speak (log e)) (λ (e : Coded). cond (same_param p e.param) w None) (λ e. half_coded channel checkpoint p half places e half) (entered channel last places)
      ∙ chosen channel checkpoint p half w (entered channel last places)
      ∙ ap (λ (a : Option ℕ). cond is_entered (as_said a) None) (coded_said channel checkpoint p half places ordered ∙ ap (λ (a : Option (Option ℕ)). said a None) coded_says)

  fresh_reset : has_reset logs ≡ list_any (clears channel) (recent channel last seen)
  fresh_reset = reset_fresh checkpoint last sent early tick ∙ reset_clears channel last (last + 1) tick sent o

  -- Repair by the fresh logs of a state whose parameters are known, unless the last packet has a reset, and that has of a half what the
  -- places before that packet say of it.
  pub half_by_fresh : (s : State) → IsState s → length (params_entered channel seen) ≤ 16 →
      (list_any (clears channel) (recent channel last seen) ≡ false → Holds (params_entered channel seen) (entered_of s channel)) →
      (list_any (clears channel) (recent channel last seen) ≡ false → read_half channel p half s ≡ said (final says (session_places channel (below packet_of last sent))) None) →
      read_half channel p half (repaired s logs) ≡ read_half channel p half (state_behind no_state seen)
  half_by_fresh s is few holds had =
      let known = params_entered channel seen in
      let knows : Knows channel known places = knows_own channel [] places in
      let old = read_half channel p half s in
      let ys = recent channel last seen in
      half_told channel l known few p half s logs is (fresh_fit channel known checkpoint (last + 1) tick sent (m_fits channel known checkpoint (last + 1) sent knows)) (λ f. holds (sym fresh_reset ∙ f))
      ∙ ap (λ (w : Option (Option ℕ)). said (over w (ended (has_reset logs))) old) fresh_says
      ∙ ap (λ (r : Bool). said (over (cond is_entered (as_said (said (over late middle) None)) None) (ended r)) old) fresh_reset
      ∙ fresh_half late middle first is_entered (list_any (clears channel) ys) old
      (λ t. clears_speak channel p half ys t)
      (λ e. dropped_clears channel last p half ys e)
      (λ value e. param_coded channel last p half places value ordered (coded_said channel last p half places ordered ∙ ap (λ (a : Option (Option ℕ)). said a None) e))
      (λ f. had f ∙ ap (λ (a : Option (Option ℕ)). said a None) (said_before ∙ old_says))
      ∙ half_session channel l p half last last (last + 1) sent s o (omega arith) (omega arith) few had
    where
      said_before : final says (session_places channel (below packet_of last sent)) ≡ final says (below packet_at last places)
      said_before = ap (final says) (places_before channel last (last + 1) sent o (omega arith))

-- The parameters of a channel are repaired by the fresh logs, both halves of each.
pub param_by_fresh : (channel : ℕ) (nrpn : Bool) (high low : ℕ) → channel < 16 → FreshRepairsFew channel (λ s. param_of s channel nrpn high low)
param_by_fresh channel nrpn high low l checkpoint last tick sent o few early =
    let p = param nrpn high low in
    let s = state_behind no_state (below packet_of last sent) in
    let after = repaired s (fresh_of (journal_logs checkpoint (last + 1) tick sent)) in
    let meant = state_behind no_state (below packet_of (last + 1) sent) in
    let one : (half : Bool) → read_half channel p half after ≡ read_half channel p half meant =
    λ half. half_by_fresh channel l p half checkpoint last tick sent o early s (behind_is no_state (below packet_of last sent) no_state_is) few
    (λ f. holds_before channel l last last (last + 1) sent o (omega arith) (omega arith) few f)
    (λ f. half_before channel l p half last last (last + 1) sent o (omega arith) (omega arith) few f) in
    same_halves (halves_in (entered_of after channel) p) (halves_in (entered_of meant channel) p) (one true) (one false)
