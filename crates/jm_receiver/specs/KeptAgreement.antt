-- A state that agrees with a session's agrees with it still behind the same commands.
use Rattle.std.proofs.Common.{◌≡◌, ℕ, ◌+◌, ◌<◌, ◌≤◌, Bool, true, false, eqb, ltb, leb, List, [], ◌∷◌, ◌++◌, fold, length, refl, sym, ap, ◌∙◌, subst, inl, inr, arith}
use Rattle.std.specs.List.{list_any}
use Rattle.std.proofs.lemmas.Bool.{cases_Bool, le-ltb}
use Rattle.std.proofs.lemmas.Bool.Decides.{nat_tests}
use Rattle.std.proofs.lemmas.List.Sums.{fold-append}
use Rattle.jm_cmds.specs.declared.history.Sent.{Sent}
use Rattle.jm_cmds.specs.declared.param.Param.{Param}
use Rattle.jm_cmds.specs.declared.selection.Selection.{Selection}
use Rattle.jm_cmds.specs.History.{below, since, within, InOrder}
use Rattle.jm_cmds.specs.HistoryLaws.{InOrder-filter}
use Rattle.jm_cmds.specs.Selection.{no_selection, selection_after, param_command}
use Rattle.jm_cmds.specs.Sent.{packet_of}
use Rattle.ch_param.specs.Event.{Place, placed, selection_step}
use Rattle.ch_param.specs.ChapterM.{session_places}
use Rattle.ch_sysex.specs.ChapterX.{sysex_logs}
use Rattle.jm_state.specs.declared.entered.Entry.{Entry}
use Rattle.jm_state.specs.declared.state.State.{State}
use Rattle.jm_state.specs.Apply.{applied, selection_from}
use Rattle.jm_state.specs.Entered.{halves_in}
use Rattle.jm_state.specs.Kept.{IsState, no_channel_at}
use Rattle.jm_state.specs.KeptLaws.{no_state_is, state_after_is}
use Rattle.jm_state.specs.Parts.{no_state, selection_of, entered_of, param_of}
use Rattle.jm_state.specs.PartLaws.{by_part}
use Rattle.jm_state.specs.Replay.{in_two}
use Rattle.jm_state.specs.ReplayLaws.{state_behind, behind_is}
use Rattle.jm_state.specs.Says.{said}
use Rattle.jm_state.specs.Final.{final}
use Rattle.jm_reader.specs.Written.{AreCommands}
use Rattle.jm_reader.specs.WrittenJournal.{journal_logs}
use Rattle.jm_receiver.specs.Repair.{repaired}
use Rattle.jm_receiver.specs.Repairs.{below_next}
use Rattle.jm_receiver.specs.Agreement.{is_crowded, Agrees, states_repaired, alike_parts, holds_too, param_again, few_of}
use Rattle.jm_receiver.specs.Congruence.{SameButParams, applied_same}
use Rattle.jm_receiver.specs.MessageLaw.{scanned-append}
use Rattle.jm_receiver.specs.ParamKeys.{Holds, holds_none, half_of}
use Rattle.jm_receiver.specs.ParamLaw.{read_half, same_halves}
use Rattle.jm_receiver.specs.ParamLogs.{param}
use Rattle.jm_receiver.specs.ParamPlaces.{params_step, params_entered, clears, Knows, knows_own, knows_front, grows, place_says, anew, clears_speak, holds_behind, half_behind, entered_places, entered_session, selection_same}
use Rattle.jm_receiver.specs.Whole.{IsWhole, repaired_whole}

same_behind : (s t : State) (xs : List Sent) → IsState s → IsState t → SameButParams s t → SameButParams (state_behind s xs) (state_behind t xs)
same_behind s t [] left right h = h
same_behind s t (x ∷ xs) left right h =
    same_behind (applied s x.command) (applied t x.command) xs (state_after_is s x.command left) (state_after_is t x.command right) (applied_same s t x.command left right h)

-- ## Parameters

selection_places : (channel : ℕ) (s : State) (selection : Selection) (xs : List Sent) → channel < 16 → IsState s → selection_from (selection_of s channel) ≡ selection →
    selection_from (selection_of (state_behind s xs) channel) ≡ fold (selection_step channel) selection xs
selection_places channel s selection [] l is e = e
selection_places channel s selection (x ∷ xs) l is e =
    let command = param_command channel x.command in
    selection_places channel (applied s x.command) (selection_step channel selection x) xs l (state_after_is s x.command is)
    (ap selection_from ((by_part s x.command is).selection channel l) ∙ selection_same (selection_of s channel) command ∙ ap (λ (k : Selection). selection_after k command) e)

knows_back : (channel : ℕ) (known : List Param) (xs ys : List Place) → Knows channel known (xs ++ ys) → Knows channel known ys
knows_back channel known [] ys k = k
knows_back channel known (x ∷ xs) ys k = knows_back channel known xs ys k.1

module _ (channel : ℕ) (l : channel < 16) (before after : List Sent) (s : State) (is : IsWhole s)
    (chosen : selection_of s channel ≡ selection_of (state_behind no_state before) channel) (held : (nrpn : Bool) (high low : ℕ) → is_crowded channel before ≡ false → param_of s channel nrpn high low ≡ param_of (state_behind no_state before) channel nrpn high low)
    (few : length (params_entered channel (before ++ after)) ≤ 16) where
  abbrev known : List Param
  known = params_entered channel (before ++ after)

  abbrev selection : Selection
  selection = fold (selection_step channel) no_selection before

  abbrev front : List Place
  front = session_places channel before

  abbrev back : List Place
  back = placed channel selection after

  abbrev theirs : State
  theirs = state_behind no_state before

  two : session_places channel (before ++ after) ≡ front ++ back
  two = scanned-append (selection_step channel) no_selection before after

  knows : Knows channel known (front ++ back)
  knows = subst (Knows channel known) two (knows_own channel [] (session_places channel (before ++ after)))

  selected : selection_from (selection_of theirs channel) ≡ selection
  selected = selection_places channel no_state no_selection before l no_state_is (ap (λ c. selection_from c.selection) (no_channel_at channel l))

  selected_too : selection_from (selection_of s channel) ≡ selection
  selected_too = ap selection_from chosen ∙ selected

  fewer : list_any (clears channel) back ≡ false → length (params_entered channel before) ≤ 16
  fewer f =
      let all : known ≡ fold (params_step channel) (params_entered channel before) back = ap (fold (params_step channel) []) two ∙ fold-append (params_step channel) [] front back in
      let more = grows channel (params_entered channel before) back f in
      let size = ap length all in
      omega (arith, more, size, few)

  entered_same : list_any (clears channel) back ≡ false → (p : Param) → halves_in (entered_of s channel) p ≡ halves_in (entered_of theirs channel) p
  entered_same f p =
      let some : is_crowded channel before ≡ false = le-ltb 16 (length (params_entered channel before)) (fewer f) in
      ap (halves_in (entered_of s channel)) (sym (param_again p))
      ∙ held p.nrpn p.high p.low some
      ∙ ap (halves_in (entered_of theirs channel)) (param_again p)

  holds_theirs : list_any (clears channel) back ≡ false → Holds known (entered_of theirs channel)
  holds_theirs f =
      subst (Holds known) (sym (entered_session channel before l))
      (holds_behind channel known few [] front (λ n. holds_none known) (knows_front channel known front back f knows))

  holds_ours : list_any (clears channel) back ≡ false → Holds known (entered_of s channel)
  holds_ours f = holds_too known (entered_of s channel) (entered_of theirs channel) (is.entered channel l) (holds_theirs f) (entered_same f)

  half_along : (p : Param) (half : Bool) → read_half channel p half (state_behind s after) ≡ read_half channel p half (state_behind no_state (before ++ after))
  half_along p half =
      let says = final (place_says channel p half) back in
      let behind = knows_back channel known front back knows in
      let read = λ (es : List Entry). half_of half (halves_in es p) in
      ap read (entered_places channel s selection after l is.state selected_too)
      ∙ half_behind channel known few p half (entered_of s channel) back holds_ours behind
      ∙ elim (cases_Bool (list_any (clears channel) back)) [
        | inl t ↦ anew says (read (entered_of s channel)) (read (entered_of theirs channel)) (clears_speak channel p half back t)
        | inr f ↦ ap (λ h. said says (half_of half h)) (entered_same f p)
      ]
      ∙ sym (half_behind channel known few p half (entered_of theirs channel) back holds_theirs behind)
      ∙ sym (ap read (entered_places channel theirs selection after l (behind_is no_state before no_state_is) selected))
      ∙ ap (read_half channel p half) (sym (fold-append (λ (t : State) (x : Sent). applied t x.command) no_state before after))

  -- where the state has the selection and the parameters that the first commands leave
  pub param_along : (nrpn : Bool) (high low : ℕ) → param_of (state_behind s after) channel nrpn high low ≡ param_of (state_behind no_state (before ++ after)) channel nrpn high low
  param_along nrpn high low =
      let p = param nrpn high low in
      same_halves (halves_in (entered_of (state_behind s after) channel) p) (halves_in (entered_of (state_behind no_state (before ++ after)) channel) p) (half_along p true) (half_along p false)

-- ## The law

-- The same commands leave a state that agrees with the session before them one that agrees with the session behind them.
pub commands_agree : (before after : List Sent) (s : State) → IsWhole s → Agrees s before → Agrees (state_behind s after) (before ++ after)
commands_agree before after s is agrees =
    let old = state_behind no_state before in
    let whole : state_behind no_state (before ++ after) ≡ state_behind old after = fold-append (λ (t : State) (x : Sent). applied t x.command) no_state before after in
    let a : SameButParams (state_behind s after) (state_behind no_state (before ++ after)) =
    subst (SameButParams (state_behind s after)) (sym whole) (same_behind s old after is.state (behind_is no_state before no_state_is) (alike_parts (λ channel. is_crowded channel before) old s agrees)) in
    record {
      song = λ n. a.song;
      sequencer = λ n. a.sequencer;
      time_code = λ n. a.time_code;
      sysex_count = λ n. a.sysex_count;
      program = λ channel l n. (a.channels channel l).program;
      control = λ channel number l k n. (a.channels channel l).control number k;
      toggles = λ channel l n. (a.channels channel l).toggles;
      selection = λ channel l n. (a.channels channel l).selection;
      param = λ channel nrpn high low l n. param_along channel l before after s is (agrees.selection channel l refl) (λ kind above below some. agrees.param channel kind above below l some) (few_of channel (before ++ after) n) nrpn high low;
      wheel = λ channel l n. (a.channels channel l).wheel;
      note = λ channel note l k n. (a.channels channel l).note note k;
      pressure = λ channel l n. (a.channels channel l).pressure;
      poly = λ channel note l k n. (a.channels channel l).poly note k;
    }

-- ## A packet that is taken

-- the packets before the next one are those before this one with this one
pub below_one : (packet : ℕ) (sent : List Sent) → InOrder packet_of sent → below packet_of (packet + 1) sent ≡ below packet_of packet sent ++ within packet_of packet sent
below_one packet sent o =
    in_two packet_of packet (below packet_of (packet + 1) sent) (InOrder-filter packet_of _ sent o)
    ∙ ap (λ (xs : List Sent). xs ++ since packet_of packet (below packet_of (packet + 1) sent)) (below_next packet (packet + 1) sent (omega arith))
    ∙ ap (λ (xs : List Sent). below packet_of packet sent ++ xs) (same sent)
  where
    same : (xs : List Sent) → since packet_of packet (below packet_of (packet + 1) xs) ≡ within packet_of packet xs
    same [] = refl
    same (x ∷ xs) =
        elim (cases_Bool (ltb (packet_of x) (packet + 1))) [
          | inl t ↦ elim (cases_Bool (leb packet (packet_of x))) [
            | inl l ↦ let here : eqb (packet_of x) packet ≡ true = grind (arith, nat_tests, t, l) in rw (t, l, here) (ap (λ (k : List Sent). x ∷ k) (same xs))
            | inr n ↦ let not_here : eqb (packet_of x) packet ≡ false = grind (arith, nat_tests, t, n) in rw (t, n, not_here) (same xs)
          ]
          | inr f ↦ let not_here : eqb (packet_of x) packet ≡ false = grind (arith, nat_tests, f) in rw (f, not_here) (same xs)
        ]

-- A state that agrees with the packets before `next`, repaired by a packet's journal and then given its commands, agrees with all packets
-- up to it.
abbrev pub InStepAgain : Type 0
InStepAgain =
    (checkpoint next packet tick : ℕ) (sent : List Sent) (s : State) → AreCommands sent → InOrder packet_of sent → sysex_logs checkpoint (below packet_of packet sent) ≤ 128 → checkpoint ≤ next → next ≤ packet →
    IsWhole s → Agrees s (below packet_of next sent) → Agrees (state_behind (repaired s (journal_logs checkpoint packet tick sent)) (within packet_of packet sent)) (below packet_of (packet + 1) sent)

pub in_step_again : InStepAgain
in_step_again checkpoint next packet tick sent s h o few early late is agrees =
    let logs = journal_logs checkpoint packet tick sent in
    subst (Agrees (state_behind (repaired s logs) (within packet_of packet sent))) (sym (below_one packet sent o))
    (commands_agree (below packet_of packet sent) (within packet_of packet sent) (repaired s logs) (repaired_whole s logs is)
    (states_repaired checkpoint next packet tick sent s h o few early late is agrees))
