-- Each part of the values of a late joiner, along repair and commands.
use Rattle.std.proofs.Common.{◌≡◌, ℕ, ◌≤◌, Bool, true, false, ◌||◌, leb, List, [], ◌∷◌, ◌++◌, Option, Some, None, refl, sym, ap, ◌∙◌, inl, inr, arith}
use Rattle.std.specs.List.{list_any, filter}
use Rattle.std.proofs.lemmas.Bool.{cases_Bool, leb-true, le-leb}
use Rattle.std.proofs.lemmas.List.Elements.{filter-append}
use Rattle.std.proofs.lemmas.List.Folds.{list_any-append}
use Rattle.std.proofs.lemmas.List.Sums.{fold-append}
use Rattle.jm_cmds.specs.declared.commands.Command.{Command}
use Rattle.jm_cmds.specs.declared.history.Sent.{Sent}
use Rattle.jm_cmds.specs.History.{below, since, InOrder}
use Rattle.jm_cmds.specs.HistoryLaws.{filter-filter}
use Rattle.jm_cmds.specs.Sent.{packet_of}
use Rattle.jm_state.specs.declared.state.State.{State}
use Rattle.jm_state.specs.Apply.{applied}
use Rattle.jm_state.specs.Final.{final, speaks, speaks-final, latest-final}
use Rattle.jm_state.specs.Kept.{IsState}
use Rattle.jm_state.specs.KeptLaws.{no_state_is}
use Rattle.jm_state.specs.Parts.{no_state}
use Rattle.jm_state.specs.Replay.{in_two}
use Rattle.jm_state.specs.ReplayLaws.{state_behind, behind_is, part_behind}
use Rattle.jm_state.specs.Says.{said}
use Rattle.jm_receiver.specs.Late.{is_told, HasTold}
use Rattle.jm_receiver.specs.Repairs.{LastSays, place_says}

said_alike : {V : Type 0} (o : Option (Option V)) (a b : Option V) → speaks o ≡ true → said o a ≡ said o b
said_alike None a b h = absurd (let f : false ≡ true = h in cc)
said_alike (Some value) a b h = refl

unsaid : {V : Type 0} (o : Option (Option V)) (a : Option V) → speaks o ≡ false → said o a ≡ a
unsaid None a h = refl
unsaid (Some value) a h = absurd (let f : true ≡ false = h in cc)

fewer_none : {X : Type 0} (test keep : X → Bool) (xs : List X) → list_any test xs ≡ false → list_any test (filter keep xs) ≡ false
fewer_none test keep [] h = refl
fewer_none test keep (x ∷ xs) h =
    let later = fewer_none test keep xs (second (test x) (list_any test xs) h) in
    elim (cases_Bool (keep x)) [
      | inl t ↦ rw (t, later) (first (test x) (list_any test xs) h)
      | inr f ↦ rw f later
    ]
  where
    second : (a b : Bool) → (a || b) ≡ false → b ≡ false
    second true b h = absurd (let f : true ≡ false = h in cc)
    second false b h = h

    first : (a b : Bool) → (a || b) ≡ false → (a || false) ≡ false
    first true b h = absurd (let f : true ≡ false = h in cc)
    first false b h = refl

without : (a b : Bool) → (a || b) ≡ true → b ≡ false → a ≡ true
without true b h f = refl
without false b h f = absurd (let t : true ≡ false = sym h ∙ f in cc)

module _ {V : Type 0} (part : State → Option V) (says : Command → Option (Option V)) (last : LastSays part says) where
  abbrev told : List Sent → Option (Option V)
  told sent = final (place_says says) sent

  speaks_told : (sent : List Sent) → speaks (told sent) ≡ is_told says sent
  speaks_told sent = speaks-final (place_says says) sent

  behind : (s : State) (sent : List Sent) → IsState s → part (state_behind s sent) ≡ said (told sent) (part s)
  behind s sent is = part_behind part says last s sent is ∙ latest-final (place_says says) (part s) sent

  -- one list behind another
  behind_both : (before own : List Sent) → part (state_behind no_state (before ++ own)) ≡ said (told own) (part (state_behind no_state before))
  behind_both before own =
      ap part (fold-append (λ (t : State) (place : Sent). applied t place.command) no_state before own)
      ∙ behind (state_behind no_state before) own (behind_is no_state before no_state_is)

  -- where nothing is said of it in a further list, one of the first said it
  told_before : (from : ℕ) (before own : List Sent) → is_told says own ≡ false → is_told says (since packet_of from (before ++ own)) ≡ true → is_told says (since packet_of from before) ≡ true
  told_before from before own none h =
      let keep : Sent → Bool = λ place. leb from (packet_of place) in
      let test : Sent → Bool = λ place. speaks (says place.command) in
      let both : list_any test (since packet_of from before ++ since packet_of from own) ≡ true = ap (list_any test) (sym (filter-append keep before own)) ∙ h in
      without (list_any test (since packet_of from before)) (list_any test (since packet_of from own)) (sym (list_any-append test (since packet_of from before) (since packet_of from own)) ∙ both)
      (fewer_none test keep own none)

  -- further commands
  pub told_also : (from : ℕ) (s : State) (before own : List Sent) → IsState s → HasTold part says from s before → HasTold part says from (state_behind s own) (before ++ own)
  told_also from s before own is has h =
      let old = state_behind no_state before in
      behind s own is
      ∙ elim (cases_Bool (is_told says own)) [
        | inl t ↦ said_alike (told own) (part s) (part old) (speaks_told own ∙ t)
        | inr f ↦ ap (said (told own)) (has (told_before from before own f h))
      ]
      ∙ sym (behind_both before own)

  module _ (checkpoint : ℕ) (s t : State) (all : List Sent) (o : InOrder packet_of all) (effect : part t ≡ said (told (since packet_of checkpoint all)) (part s)) where
    -- Where one of the commands from the checkpoint on said it, it is what the last of them said.
    told_recent : is_told says (since packet_of checkpoint all) ≡ true → part t ≡ part (state_behind no_state all)
    told_recent h =
        let recent = since packet_of checkpoint all in
        effect
        ∙ said_alike (told recent) (part s) (part (state_behind no_state (below packet_of checkpoint all))) (speaks_told recent ∙ h)
        ∙ sym (behind_both (below packet_of checkpoint all) recent)
        ∙ ap (λ (sent : List Sent). part (state_behind no_state sent)) (sym (in_two packet_of checkpoint all o))

    -- a first repair
    pub told_first : HasTold part says checkpoint t all
    told_first h = told_recent h

    -- a later one
    pub told_repaired : (from next : ℕ) → checkpoint ≤ next → HasTold part says from s (below packet_of next all) → HasTold part says from t all
    told_repaired from next early has h =
        let recent = since packet_of checkpoint all in
        let before = below packet_of next all in
        let later = since packet_of next all in
        let two : all ≡ before ++ later = in_two packet_of next all o in
        elim (cases_Bool (is_told says recent)) [
          | inl t ↦ told_recent t
          | inr f ↦
              let fewer : since packet_of next recent ≡ later =
              filter-filter (λ place. leb checkpoint (packet_of place)) (λ place. leb next (packet_of place))
              (λ place e. let reached : next ≤ packet_of place = leb-true next (packet_of place) e in le-leb checkpoint (packet_of place) (omega (arith, early, reached))) all in
              let none : is_told says later ≡ false =
              ap (is_told says) (sym fewer) ∙ fewer_none (λ place. speaks (says place.command)) (λ place. leb next (packet_of place)) recent f in
              let told_there : is_told says (since packet_of from (before ++ later)) ≡ true = ap (λ (sent : List Sent). is_told says (since packet_of from sent)) (sym two) ∙ h in
              effect
              ∙ unsaid (told recent) (part s) (speaks_told recent ∙ f)
              ∙ has (told_before from before later none told_there)
              ∙ sym (unsaid (told later) (part (state_behind no_state before)) (speaks_told later ∙ none))
              ∙ sym (behind_both before later)
              ∙ ap (λ (sent : List Sent). part (state_behind no_state sent)) (sym two)
        ]
