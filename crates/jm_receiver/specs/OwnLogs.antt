-- What goes by the logs of Chapter C of a channel alone.
use Rattle.std.proofs.Common.{◌≡◌, ℕ, ◌<◌, Bool, true, false, cond, ◌&&◌, eqb, List, [], ◌∷◌, Option, Some, None, fold, refl, sym, ap, ◌∙◌, inl, inr, arith, append-nil}
use Rattle.std.specs.List.{flat_map, filter, range_with_len}
use Rattle.std.proofs.lemmas.Bool.{cases_Bool, eqb-true, and_parts}
use Rattle.std.proofs.lemmas.Bool.Decides.{nat_tests}
use Rattle.jm_cmds.specs.HistoryLaws.{filter-filter}
use Rattle.jm_reader.specs.declared.logs.Log.{Log}
use Rattle.jm_receiver.specs.declared.group.Group.{Group}
use Rattle.jm_receiver.specs.declared.group.Group.TheVariants.{Programs, Params, Controls, Wheels, Released, Struck, Pressures, Polys}
use Rattle.jm_receiver.specs.Group.{is_of, all_groups, all_channels}
use Rattle.jm_receiver.specs.Order.{of_group, in_order, tag, rank, is_tagged, is_of-tag}
use Rattle.jm_receiver.specs.Chapters.{filter-flat, flat-same, among}

-- the log is of Chapter C of the channel
abbrev pub is_own : (channel : ℕ) → Log → Bool
is_own channel log = is_of Controls channel log.what

abbrev Apart : Group → Type 0
Apart group = (r : ℕ) → eqb (rank group) r ≡ true → eqb 2 r ≡ false

other_tag : (group : Group) (k channel : ℕ) (t : Option (Group × ℕ)) → Apart group → is_tagged group k t ≡ true → is_tagged Controls channel t ≡ false
other_tag group k channel None apart h = refl
other_tag group k channel (Some t) apart h =
    let parts = and_parts (eqb (rank group) (rank t.0)) (eqb t.1 k) h in
    rw (apart (rank t.0) parts.0) refl

-- another group has none of them
none_of : (group : Group) (k channel : ℕ) (logs : List Log) → Apart group → filter (is_own channel) (of_group group k logs) ≡ []
none_of group k channel [] apart = refl
none_of group k channel (log ∷ more) apart =
    let ih = none_of group k channel more apart in
    elim (cases_Bool (is_of group k log.what)) [
      | inl t ↦
          let other : is_of Controls channel log.what ≡ false = is_of-tag Controls channel log.what ∙ other_tag group k channel (tag log.what) apart (sym (is_of-tag group k log.what) ∙ t) in
          rw (t, other) ih
      | inr f ↦ rw f ih
    ]

other_channel_tag : (k channel : ℕ) (t : Option (Group × ℕ)) → eqb k channel ≡ false → is_tagged Controls k t ≡ true → is_tagged Controls channel t ≡ false
other_channel_tag k channel None apart h = refl
other_channel_tag k channel (Some t) apart h =
    let parts = and_parts (eqb 2 (rank t.0)) (eqb t.1 k) h in
    let same : t.1 ≡ k = eqb-true t.1 k parts.1 in
    rw (same, apart) (last (eqb 2 (rank t.0)))
  where
    last : (b : Bool) → (b && false) ≡ false
    last true = refl
    last false = refl

own_of : (k channel : ℕ) (logs : List Log) → filter (is_own channel) (of_group Controls k logs) ≡ cond (eqb k channel) (of_group Controls channel logs) []
own_of k channel logs =
    elim (cases_Bool (eqb k channel)) [
      | inl t ↦
          let same : k ≡ channel = eqb-true k channel t in
          rw t (ap (λ (n : ℕ). filter (is_own channel) (of_group Controls n logs)) same ∙ filter-filter (is_own channel) (is_own channel) (λ x h. h) logs)
      | inr f ↦ rw f (none f logs)
    ]
  where
    none : eqb k channel ≡ false → (logs : List Log) → filter (is_own channel) (of_group Controls k logs) ≡ []
    none f [] = refl
    none f (log ∷ more) =
        elim (cases_Bool (is_of Controls k log.what)) [
          | inl t ↦
              let other : is_of Controls channel log.what ≡ false = is_of-tag Controls channel log.what ∙ other_channel_tag k channel (tag log.what) f (sym (is_of-tag Controls k log.what) ∙ t) in
              rw (t, other) (none f more)
          | inr n ↦ rw n (none f more)
        ]

-- of the logs of a channel in their order
own_in : (k channel : ℕ) (logs : List Log) → filter (is_own channel) (in_order k logs) ≡ cond (eqb k channel) (of_group Controls channel logs) []
unfolding in_order all_groups
own_in k channel logs =
    filter-flat (is_own channel) (λ group. of_group group k logs) all_groups
    ∙ rw (
      none_of Programs k channel logs (λ r h. grind (arith, nat_tests)),
      none_of Params k channel logs (λ r h. grind (arith, nat_tests)),
      none_of Wheels k channel logs (λ r h. grind (arith, nat_tests)),
      none_of Released k channel logs (λ r h. grind (arith, nat_tests)),
      none_of Struck k channel logs (λ r h. grind (arith, nat_tests)),
      none_of Pressures k channel logs (λ r h. grind (arith, nat_tests)),
      none_of Polys k channel logs (λ r h. grind (arith, nat_tests)),
      own_of k channel logs,
    ) (append-nil (cond (eqb k channel) (of_group Controls channel logs) []))

channels_range : all_channels ≡ range_with_len 0 16
unfolding all_channels
channels_range = refl

-- of all logs in the order of repair
own_logs : (channel : ℕ) (logs : List Log) → channel < 16 → filter (is_own channel) (flat_map (λ k. in_order k logs) all_channels) ≡ of_group Controls channel logs
own_logs channel logs l =
    filter-flat (is_own channel) (λ k. in_order k logs) all_channels
    ∙ flat-same (λ k. filter (is_own channel) (in_order k logs)) (λ k. cond (eqb k channel) (of_group Controls channel logs) []) (λ k. own_in k channel logs) all_channels
    ∙ ap (flat_map (λ k. cond (eqb k channel) (of_group Controls channel logs) [])) channels_range
    ∙ among (λ (n : ℕ). of_group Controls channel logs) channel 0 16 (omega arith) (omega (arith, l))

fold_own : {P : Type 0} (step : P → Log → P) (channel : ℕ) → ((p : P) (log : Log) → is_own channel log ≡ false → step p log ≡ p) → (p : P) (logs : List Log) → fold step p logs ≡ fold step p (filter (is_own channel) logs)
fold_own step channel left p [] = refl
fold_own step channel left p (log ∷ more) =
    elim (cases_Bool (is_own channel log)) [
      | inl t ↦ rw t (fold_own step channel left (step p log) more)
      | inr f ↦ rw f (ap (λ (q : _). fold step q more) (left p log f) ∙ fold_own step channel left p more)
    ]

-- What no other logs change is changed in repair by the channel's logs of Chapter C, in their order.
pub by_own : {P : Type 0} (step : P → Log → P) (channel : ℕ) → channel < 16 → ((p : P) (log : Log) → is_own channel log ≡ false → step p log ≡ p) → (p : P) (logs : List Log) →
    fold step p (flat_map (λ k. in_order k logs) all_channels) ≡ fold step p (of_group Controls channel logs)
by_own step channel l left p logs =
    fold_own step channel left p (flat_map (λ k. in_order k logs) all_channels) ∙ ap (fold step p) (own_logs channel logs l)
