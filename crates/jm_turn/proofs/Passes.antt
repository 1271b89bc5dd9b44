-- What is always so of a pass stays so at each step.
use Rattle.std.proofs.Common.{◌≡◌, ◌≢◌, ℕ, ◌+◌, ◌<◌, List, [], ◌∷◌, ◌++◌, length, Option, Some, None, sym, refl, ap, ◌∙◌, subst, arith}
use Rattle.atomic_table.specs.Table.{rest}
use Rattle.jm_turn.specs.declared.view.Made.{Made}
use Rattle.jm_turn.specs.declared.view.View.{View}
use Rattle.jm_turn.specs.declared.view.Stage.{Stage}
use Rattle.jm_turn.specs.declared.view.Stage.TheVariants.{Idle, Waiting, Holding}
use Rattle.jm_turn.specs.declared.view.Kind.TheVariants.{Opening}
use Rattle.jm_turn.specs.Turns.{made, Follows}
use Rattle.jm_turn.specs.Views.{drew, saw, took, gave, parted, part_of, learned, joined}
use Rattle.jm_turn.specs.Rule.{counts}
use Rattle.jm_turn.specs.Steps.{since, Sees, Finds, Sat}
use Rattle.jm_turn.specs.Known.{IsPass, HandOf}
use Rattle.jm_turn.proofs.Lists.{everyone_map, everyone_both, places_own, places_others, follows_trans, follows_own}

module _ {T : Type 0} where
  -- a pass whose turn hasn't come has no slot
  pub hand_idle : (st : Stage) (hand : List (ℕ × Option T)) → st ≡ Idle → HandOf st hand → hand ≡ []
  hand_idle Idle hand e h = h
  hand_idle Waiting hand e h = h
  hand_idle Holding hand e h = absurd (cc)

  pub hand_waiting : (st : Stage) (hand : List (ℕ × Option T)) → st ≡ Waiting → HandOf st hand → hand ≡ []
  hand_waiting Idle hand e h = h
  hand_waiting Waiting hand e h = h
  hand_waiting Holding hand e h = absurd (cc)

  pub hand_holding : (st : Stage) (hand : List (ℕ × Option T)) → st ≡ Holding → HandOf st hand → hand ≡ (0, None) ∷ []
  hand_holding Idle hand e h = absurd (cc)
  hand_holding Waiting hand e h = absurd (cc)
  hand_holding Holding hand e h = h

module _ {T C : Type 0} (stands : T → T → List (Made C) → Type 0) where
  -- the fields of a pass, as its model has them
  abbrev pub Sound : Sat T C → Type 0
  Sound m = IsPass stands m.0 × HandOf m.0.stage m.1

  pub sound_draw : (m m' : Sat T C) (ticket : ℕ) → Sound m → m.0.stage ≡ Idle → m' ≡ (drew ticket m.0, m.1) → Sound m'
  sound_draw m m' ticket s idle e = subst Sound (sym e) (record { counts = s.0.counts; legal = s.0.legal; own = s.0.own; named = s.0.named }, hand_idle m.0.stage m.1 idle s.1)

  pub sound_seen : (m m' : Sat T C) (seen : List (Made C)) → counts m.0.kind ≡ 1 → HandOf m.0.stage m.1 → m' ≡ (saw seen m.0, m.1) → Sees stands m.0 seen → Sound m'
  sound_seen m m' seen c hand e k = subst Sound (sym e) (is_saw m.0 seen c k, hand)
    where
      is_saw : (v : View T C) (seen : List (Made C)) → counts v.kind ≡ 1 → Sees stands v seen → IsPass stands (saw seen v)
      is_saw v seen c k = record { counts = c; legal = k.legal; own = k.own; named = k.named }

  pub sound_look : (m m' : Sat T C) (seen : List (Made C)) → Sound m → m' ≡ (saw seen m.0, m.1) → Sees stands m.0 seen → Sound m'
  sound_look m m' seen s e k = sound_seen m m' seen s.0.counts s.1 e k

  pub sound_take : (m m' : Sat T C) (seen : List (Made C)) → Sound m → m' ≡ (took seen m.0, (0, None) ∷ []) → Sees stands m.0 seen → Sound m'
  sound_take m m' seen s e k = subst Sound (sym e) (record { counts = s.0.counts; legal = k.legal; own = k.own; named = k.named }, refl)

  pub sound_give : (m m' : Sat T C) (what : C) (value : T) → IsPass stands m.0 → m.1 ≡ (0, Some value) ∷ [] → since stands m.0.first value (m.0.seen ++ made m.0.number what ∷ []) → m' ≡ (gave what m.0, rest m.1) → Sound m'
  sound_give m m' what value s hand good e = subst Sound (sym e) (
    record {
      counts = s.counts;
      legal = (value, good);
      own = ap (λ (ps : List ℕ). ps ++ length m.0.seen ∷ []) s.own ∙ sym (places_own m.0.number m.0.seen what);
      named = λ k. (let n = s.named k in (n.0, everyone_both (λ by. by < m.0.next) m.0.seen (made m.0.number what ∷ []) n.1 (n.0, tt)));
    },
    ap rest hand,
  )

  pub sound_parted : (m m' : Sat T C) → Sound m → m' ≡ (parted m.0, m.1) → Sound m'
  sound_parted m m' s e = subst Sound (sym e) (
    record {
      counts = s.0.counts;
      legal = s.0.legal;
      own = s.0.own;
      named = λ k. (let n = s.0.named k in ((omega arith), everyone_map (λ by. by < m.0.next) (λ by. by < m.0.next + 1) (λ i l. omega arith) m.0.seen n.1));
    },
    s.1,
  )

  pub sound_part_of : (m m' : Sat T C) → Sound m → m.0.kind ≡ Opening → m' ≡ (part_of m.0, []) → Sound m'
  sound_part_of m m' s opens e = subst Sound (sym e) (
    record {
      counts = refl;
      legal = s.0.legal;
      own = sym (places_others m.0.next 0 m.0.seen (everyone_map (λ by. by < m.0.next) (λ by. by ≢ m.0.next) (λ i l q. omega arith) m.0.seen (s.0.named opens).1));
      named = λ k. absurd (cc);
    },
    refl,
  )

  -- what is seen from what was seen since is seen from before
  pub sees_on : (v : View T C) (seen seen' : List (Made C)) → Follows v.number v.seen seen → Sees stands (saw seen v) seen' → Sees stands v seen'
  sees_on v seen seen' f k = record { more = follows_trans v.number v.seen seen seen' f k.more; legal = k.legal; own = k.own; named = k.named }

  pub sees_drew : (v : View T C) (ticket : ℕ) (seen : List (Made C)) → Sees stands (drew ticket v) seen → Sees stands v seen
  sees_drew v ticket seen k = record { more = k.more; legal = k.legal; own = k.own; named = k.named }

  -- what was learned is seen with turns of others alone
  pub sees_learned : (v w : View T C) (seen : List (Made C)) → IsPass stands v → Finds stands (learned v w) seen → Sees stands v seen
  sees_learned v w seen s k = record { more = follows_own v.number v.seen seen k.before (sym k.sees.own ∙ s.own); legal = k.sees.legal; own = k.sees.own; named = k.sees.named }

  pub sees_joined : (v w : View T C) (seen : List (Made C)) → IsPass stands v → Finds stands (joined v w) seen → Sees stands v seen
  sees_joined v w seen s k = record { more = follows_own v.number v.seen seen k.before (sym k.sees.own ∙ s.own); legal = k.sees.legal; own = k.sees.own; named = k.sees.named }
