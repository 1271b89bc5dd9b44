-- What Chapter C's logs say of the parts that controllers drop.
use Rattle.std.proofs.Common.{◌≡◌, ℕ, Bool, true, false, cond, not, ◌&&◌, ◌||◌, eqb, List, Option, None, refl, sym, ap, ◌∙◌, inl, inr}
use Rattle.std.proofs.lemmas.Bool.{cases_Bool}
use Rattle.jm_cmds.specs.declared.commands.Command.{Command}
use Rattle.jm_cmds.specs.declared.commands.Command.TheVariants.{Control, SystemReset, Sysex}
use Rattle.jm_cmds.specs.declared.history.Sent.{Sent}
use Rattle.jm_cmds.specs.Control.{is_entry, is_counted, is_reset, is_reset_message}
use Rattle.jm_cmds.specs.History.{below, InOrder}
use Rattle.jm_cmds.specs.HistoryLaws.{InOrder-filter}
use Rattle.jm_cmds.specs.Sent.{packet_of, is_fresh}
use Rattle.ch_control.specs.declared.events.ControlEvent.TheVariants.{Set, Dropped, Other}
use Rattle.ch_control.specs.ControlEvent.{control_event, item_of, is_kept, concerns, event_ends, control_ends}
use Rattle.ch_control.specs.ChapterC.{coded_controls}
use Rattle.ch_sysex.specs.SysexEvent.{resets}
use Rattle.jm_state.specs.Says.{ended}
use Rattle.jm_state.specs.Replay.{over}
use Rattle.jm_state.specs.Final.{final, speaks, over_ended, final-flat_map, final-same, final-coded}
use Rattle.jm_reader.specs.WrittenC.{c_said, value_said, event_said, place_said}
use Rattle.jm_reader.specs.WrittenListed.{all_logged}
use Rattle.jm_receiver.specs.Order.{log_says}
use Rattle.jm_receiver.specs.Repairs.{command_says, seen_since}

-- Of the channel's controllers these drop the part, whatever their value.
abbrev pub is_drop : (ℕ → Bool) → (channel : ℕ) → Command → Bool
is_drop drops channel (Control at number value) = eqb at channel && drops number
is_drop drops channel command = false

-- A set of controllers that drop a part: all of an item or none, and none that Control 121 sets back or Chapter C passes over.
pub record AreDrops (drops : ℕ → Bool) : Type 0 where
  pub coded : (number : ℕ) → drops number ≡ true → is_entry number ≡ false
  pub kept : (number : ℕ) → drops number ≡ true → is_kept number ≡ true
  pub item : (number other : ℕ) → drops number ≡ true → eqb (item_of number) (item_of other) ≡ true → drops other ≡ true

module _ {V : Type 0} (channel : ℕ) (drops : ℕ → Bool) (are : AreDrops drops) (says : Command → Option (Option V)) (dropped : (number value : ℕ) → says (Control channel number value) ≡ ended (drops number)) where
  value_heard : (session : List Sent) (number value : ℕ) → command_says says (value_said channel session number value) ≡ ended (drops number)
  value_heard session number value =
      elim (cases_Bool (is_counted number)) [
        | inl t ↦ rw t (dropped number 0)
        | inr f ↦ rw f (dropped number value)
      ]

  nothing : (fresh b : Bool) (session : List Sent) → final (log_says (command_says says)) (all_logged fresh (event_said channel session (cond b Dropped Other))) ≡ None
  nothing fresh true session = refl
  nothing fresh false session = refl

  set_heard : (fresh : Bool) (session : List Sent) (number value : ℕ) → final (log_says (command_says says)) (all_logged fresh (event_said channel session (Set number value))) ≡ ended (drops number)
  set_heard fresh session number value =
      let here = value_heard session number value in
      elim (cases_Bool (eqb number 64)) [
        | inl t ↦ rw t here
        | inr f ↦ rw f here
      ]

  place_heard : (fresh : Bool) (session : List Sent) (command : Command) → final (log_says (command_says says)) (all_logged fresh (event_said channel session (control_event channel command))) ≡ ended (is_drop drops channel command)
  place_heard fresh session (Control at number value) =
      elim (cases_Bool (eqb at channel)) [
        | inl t ↦ elim (cases_Bool (is_entry number)) [
          | inl e ↦ elim (cases_Bool (drops number)) [
            | inl d ↦ absurd (let n = are.coded number d in let b : true ≡ false = sym e ∙ n in cc)
            | inr n ↦ rw (t, e, n) refl
          ]
          | inr n ↦ rw (t, n) (set_heard fresh session number value)
        ]
        | inr f ↦ rw f refl
      ]
  place_heard fresh session command = nothing fresh (is_reset command) session

  chapter_heard : (checkpoint packet : ℕ) (sent : List Sent) → final (log_says (command_says says)) (c_said channel checkpoint packet sent) ≡ final (λ place. ended (is_drop drops channel place.command)) (coded_controls channel checkpoint packet sent)
  unfolding c_said
  chapter_heard checkpoint packet sent =
      let session = below packet_of packet sent in
      final-flat_map (log_says (command_says says)) (λ place. all_logged (is_fresh packet place) (place_said channel session place)) (coded_controls channel checkpoint packet sent)
      ∙ final-same (λ place. final (log_says (command_says says)) (all_logged (is_fresh packet place) (place_said channel session place))) (λ place. ended (is_drop drops channel place.command))
      (λ place. place_heard (is_fresh packet place) session place.command) (coded_controls channel checkpoint packet sent)

  -- ## Behind the resets

  drop_speaks : (b : Bool) → speaks (ended {X = V} b) ≡ true → b ≡ true
  drop_speaks true h = refl
  drop_speaks false h = cc

  is_spoken : (b : Bool) → b ≡ true → speaks (ended {X = V} b) ≡ true
  is_spoken true h = refl
  is_spoken false h = cc

  ends_reset : (number : ℕ) (command : Command) → is_reset command ≡ true → concerns number (control_event channel command) ≡ true
  ends_reset number SystemReset h = refl
  ends_reset number (Sysex octets) h = rw h refl
  ends_reset number command h = absurd (let f : false ≡ true = h in cc)

  either : (a b c : Bool) → (a || (b && not c)) ≡ true → c ≡ true → a ≡ true
  either true b c h k = refl
  either false true true h k = cc
  either false true false h k = cc
  either false false c h k = cc

  covered : (number : ℕ) (command : Command) → drops number ≡ true → concerns number (control_event channel command) ≡ true → speaks (over (ended {X = V} (is_drop drops channel command)) (ended (is_reset command))) ≡ true
  covered number (Control at other value) d h =
      elim (cases_Bool (eqb at channel)) [
        | inl t ↦ elim (cases_Bool (is_entry other)) [
          | inl e ↦ absurd (let f : false ≡ true = (rw (t, e) at h) in cc)
          | inr n ↦
              let same : eqb (item_of number) (item_of other) ≡ true = either (eqb (item_of number) (item_of other)) (eqb other 121) (is_kept number) (rw (t, n) at h) (are.kept number d) in
              rw (t, are.item number other d same) refl
        ]
        | inr f ↦ absurd (let f : false ≡ true = (rw f at h) in cc)
      ]
  covered number SystemReset d h = refl
  covered number (Sysex octets) d h =
      elim (cases_Bool (is_reset_message octets)) [
        | inl t ↦ rw t refl
        | inr f ↦ absurd (let f : false ≡ true = (rw f at h) in cc)
      ]
  covered number command d h = absurd (let f : false ≡ true = h in cc)

  -- a drop is the set of a number that drops
  by_drop : (P : Bool → Type 0) (command later : Command) → is_drop drops channel command ≡ true → ((number : ℕ) → drops number ≡ true → P (concerns number (control_event channel later))) → P (event_ends (control_event channel command) (control_event channel later))
  by_drop P (Control at number value) later h k =
      elim (cases_Bool (eqb at channel)) [
        | inl t ↦
            let d : drops number ≡ true = rw t at h in
            rw (t, are.coded number d) (k number d)
        | inr f ↦ absurd (let f : false ≡ true = (rw f at h) in cc)
      ]
  by_drop P command later h k = absurd (let f : false ≡ true = h in cc)

  -- What Chapter C's logs say of the part behind the resets is that it is dropped by each of these controllers and each reset.
  pub drops_heard : (checkpoint packet : ℕ) (sent : List Sent) → InOrder packet_of sent →
      over (final (log_says (command_says says)) (c_said channel checkpoint packet sent)) (final (λ place. ended (resets place)) (seen_since checkpoint packet sent))
      ≡ final (λ place. ended (is_drop drops channel place.command || resets place)) (seen_since checkpoint packet sent)
  drops_heard checkpoint packet sent o =
      let seen = below packet_of packet sent in
      let says_drop : Sent → Option (Option V) = λ place. ended (is_drop drops channel place.command) in
      let says_reset : Sent → Option (Option V) = λ place. ended (resets place) in
      ap (λ (a : Option (Option V)). over a (final says_reset (seen_since checkpoint packet sent))) (chapter_heard checkpoint packet sent)
      ∙ final-coded (control_ends channel) says_drop says_reset
      (λ x y s e. by_drop (λ (b : Bool). b ≡ true → speaks (over (says_drop y) (says_reset y)) ≡ true) x.command y.command (drop_speaks (is_drop drops channel x.command) s) (λ number d c. covered number y.command d c) e)
      (λ x y s r. by_drop (λ (b : Bool). b ≡ true) x.command y.command (drop_speaks (is_drop drops channel x.command) s) (λ number d. ends_reset number y.command (drop_speaks (resets y) r)))
      packet_of checkpoint seen (InOrder-filter packet_of _ sent o)
      ∙ final-same (λ place. over (says_drop place) (says_reset place)) (λ place. ended (is_drop drops channel place.command || resets place)) (λ place. over_ended (is_drop drops channel place.command) (resets place)) (seen_since checkpoint packet sent)
