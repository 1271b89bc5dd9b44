-- Two passes that were split, did their work and were joined again: what the whole history has of each.
use Rattle.std.proofs.Common.{◌≡◌, ◌≢◌, ℕ, ◌+◌, ◌==◌, ◌⊎◌, Bool, true, false, List, [], ◌∷◌, ◌++◌, Option, refl, sym, ap, subst, ◌∙◌, inl, inr, arith, append_assoc}
use Rattle.std.proofs.lemmas.Bool.{cases_Bool}
use Rattle.std.proofs.lemmas.Bool.Decides.{nat_tests}
use Rattle.jm_edge.specs.Wire.{Wire}
use Rattle.jm_turn.specs.declared.view.Made.{Made}
use Rattle.jm_turn.specs.declared.view.View.{View}
use Rattle.jm_turn.specs.Turns.{made, places, Begins, Follows, Everyone, AllOthers}
use Rattle.jm_turn.specs.Rule.{total, one_at, ended_as}
use Rattle.jm_turn.specs.Closing.{Accounts}
use Rattle.jm_turn.specs.Views.{newcomer, parted, part_of, joined, saw}
use Rattle.jm_book.specs.declared.steps.Config.{Config}
use Rattle.jm_book.specs.declared.steps.Step.{Step}
use Rattle.jm_desk.specs.declared.held.Held.{Held}
use Rattle.jm_desk.specs.declared.turn.DeskTurn.{DeskTurn}
use Rattle.jm_desk.specs.History.{taken, IsHistory}
use Rattle.jm_desk.specs.OwnTurns.{turns_by, turns_by-follows, HasEnded, ended_turns}
use Rattle.jm_desk.specs.Sharing.{Shared, PassView, SeesMore, config_of}
use Rattle.jm_serve.specs.declared.worked.Worked.{Worked}
use Rattle.jm_serve.specs.Acts.{Act, turns_of, StandIn}
use Rattle.jm_serve.specs.Rounds.{Round, acts_of, MakesRounds, EndsBy}
use Rattle.jm_serve.specs.Control.{ControlRound}
use Rattle.jm_serve.specs.Data.{DataRound}
use Rattle.jm_serve.specs.ServedControl.{ServesControl}
use Rattle.jm_serve.specs.ServedData.{ServesData}
use Rattle.midi_host.specs.ServedSession.{Side, Sides, first_reporter, first_listener, TakesPart, IsServed}

begins-then : (xs ys zs : List (Made DeskTurn)) → Begins xs ys → Begins ys zs → Begins xs zs
begins-then xs ys zs a b = (a.0 ++ b.0, b.1 ∙ (ap (λ (l : List (Made DeskTurn)). l ++ b.0) a.1 ∙ append_assoc xs a.0 b.0))

stand-longer : (config : Config) (n : ℕ) (seen more : List (Made DeskTurn)) (acts : List Act) → Begins seen more → StandIn config n seen acts → StandIn config n more acts
stand-longer config n seen more [] b s = tt
stand-longer config n seen more (one ∷ acts) b s = (begins-then (one.before ++ made n one.turn ∷ []) seen more s.0 b, s.1, stand-longer config n seen more acts b s.2)

everyone-append : (P : ℕ → Type 0) (xs ys : List (Made DeskTurn)) → Everyone P xs → Everyone P ys → Everyone P (xs ++ ys)
everyone-append P [] ys a b = b
everyone-append P (m ∷ xs) ys a b = (a.0, everyone-append P xs ys a.1 b)

everyone-both : (P Q R : ℕ → Type 0) → ((by : ℕ) → P by → Q by → R by) → (ms : List (Made DeskTurn)) → Everyone P ms → Everyone Q ms → Everyone R ms
everyone-both P Q R f [] a b = tt
everyone-both P Q R f (m ∷ ms) a b = (f m.by a.0 b.0, everyone-both P Q R f ms a.1 b.1)

-- what a worker did has its part in the whole
part : {S : Type 0} (Does : S → Round → S → Type 0) (first : S) (desk : Shared) (turns : ℕ) (worked : Worked) (number calls : ℕ) (old new looked : PassView) (wire wire' : Wire) (coming coming' : Option (ℕ → ℕ)) (v : View Held DeskTurn)
    → old.view.number ≡ number → old.view.seen ≡ []
    → MakesRounds Does first desk turns worked.end (record { scene = record { pass = old; wire = wire; call = 0; faults = 0 }; coming = coming }) (record { scene = record { pass = new; wire = wire'; call = calls; faults = worked.send_faults }; coming = coming' })
    → SeesMore desk new looked → Accounts v → HasEnded number looked.view.mine v.ended → Begins looked.view.seen v.seen
    → TakesPart Does first (config_of desk) number turns worked v.seen (record { wire = wire; coming = coming }) (record { wire = wire'; coming = coming' })
part Does first desk turns worked number calls old new looked wire wire' coming coming' v n none h sees accounts has begins =
    let gains = h.makes.works.gains in
    let rounds = h.makes.rounds in
    let acts = acts_of rounds in
    let n_new : new.view.number ≡ number = ap (λ (p : PassView). p.view.number) gains.rest ∙ n in
    let n_looked : looked.view.number ≡ number = ap (λ (p : PassView). p.view.number) sees.same ∙ n_new in
    let made_by : turns_by number new.view.seen ≡ turns_by number old.view.seen ++ turns_of acts = subst (λ (k : ℕ). turns_by k new.view.seen ≡ turns_by k old.view.seen ++ turns_of acts) n gains.own in
    let own_new : turns_by number new.view.seen ≡ turns_of acts = made_by ∙ ap (λ (l : List (Made DeskTurn)). turns_by number l ++ turns_of acts) none in
    let more : Follows number new.view.seen looked.view.seen = subst (λ (k : ℕ). Follows k new.view.seen looked.view.seen) n_new sees.more in
    let own_places : looked.view.mine ≡ places number 0 looked.view.seen = subst (λ (k : ℕ). looked.view.mine ≡ places k 0 looked.view.seen) n_looked sees.own in
    let all : turns_by number v.seen ≡ turns_by number looked.view.seen = ended_turns v number looked.view.mine looked.view.seen accounts has own_places begins in
    let longer : Begins new.view.seen v.seen = begins-then new.view.seen looked.view.seen v.seen (more.0, more.1) begins in
    let stand : StandIn (config_of desk) number new.view.seen acts = subst (λ (k : ℕ). StandIn (config_of desk) k new.view.seen acts) n gains.stand in
    record {
      rounds = rounds;
      came = h.came;
      last = h.last;
      follow = h.makes.follow;
      stops = subst (λ (k : ℕ). EndsBy worked.end turns k h.came wire wire') (sym h.makes.count) h.stops;
      own = all ∙ (turns_by-follows number new.view.seen looked.view.seen more ∙ own_new);
      stand = stand-longer (config_of desk) number new.view.seen v.seen acts longer stand;
      posts = h.makes.works.posts;
      moments = h.makes.moments;
    }

-- the passes of both workers, from when they were split to when they were joined again
pub record Passes (desk : Shared) (opened control_pass between data_pass apart control_looked data_looked first last : PassView) : Type 0 where
  pub opened_as : opened.view ≡ newcomer desk.first
  pub control_given : control_pass.view ≡ part_of opened.view
  pub once : between ≡ record opened { view = parted opened.view }
  pub data_given : data_pass.view ≡ part_of between.view
  pub twice : apart ≡ record between { view = parted between.view }
  pub control_joined : first ≡ record apart { view = saw first.view.seen (joined apart.view control_looked.view) }
  pub control_others : Follows apart.view.number apart.view.seen first.view.seen
  pub control_told : Begins control_looked.view.seen first.view.seen
  pub data_joined : last ≡ record first { view = saw last.view.seen (joined first.view data_looked.view) }
  pub data_others : Follows first.view.number first.view.seen last.view.seen
  pub data_told : Begins data_looked.view.seen last.view.seen

module _ (desk : Shared) (opened control_pass between data_pass apart control_looked data_looked first last : PassView) (passes : Passes desk opened control_pass between data_pass apart control_looked data_looked first last) where
  apart_view : apart.view ≡ record (newcomer desk.first) { next = 3; out = 2 }
  apart_view =
      let one : between.view ≡ parted opened.view = ap (λ (p : PassView). p.view) passes.once in
      let two : apart.view ≡ parted between.view = ap (λ (p : PassView). p.view) passes.twice in
      two ∙ (ap parted one ∙ ap (λ (w : View Held DeskTurn). parted (parted w)) passes.opened_as)

  first_view : first.view ≡ saw first.view.seen (joined apart.view control_looked.view)
  first_view = ap (λ (p : PassView). p.view) passes.control_joined

  last_view : last.view ≡ saw last.view.seen (joined first.view data_looked.view)
  last_view = ap (λ (p : PassView). p.view) passes.data_joined

  control_number : control_pass.view.number ≡ 1
  control_number = ap (λ (w : View Held DeskTurn). w.number) passes.control_given ∙ ap (λ (w : View Held DeskTurn). w.next) passes.opened_as

  control_none : control_pass.view.seen ≡ []
  control_none = ap (λ (w : View Held DeskTurn). w.seen) passes.control_given ∙ ap (λ (w : View Held DeskTurn). w.seen) passes.opened_as

  between_view : between.view ≡ parted (newcomer desk.first)
  between_view = ap (λ (p : PassView). p.view) passes.once ∙ ap parted passes.opened_as

  data_number : data_pass.view.number ≡ 2
  data_number = ap (λ (w : View Held DeskTurn). w.number) passes.data_given ∙ ap (λ (w : View Held DeskTurn). w.next) between_view

  data_none : data_pass.view.seen ≡ []
  data_none = ap (λ (w : View Held DeskTurn). w.seen) passes.data_given ∙ ap (λ (w : View Held DeskTurn). w.seen) between_view

  first_number : first.view.number ≡ 0
  first_number = ap (λ (w : View Held DeskTurn). w.number) first_view ∙ ap (λ (w : View Held DeskTurn). w.number) apart_view

  last_number : last.view.number ≡ 0
  last_number = ap (λ (w : View Held DeskTurn). w.number) last_view ∙ first_number

  first_ended : first.view.ended ≡ (control_looked.view.number, control_looked.view.mine) ∷ []
  first_ended =
      ap (λ (w : View Held DeskTurn). w.ended) first_view
      ∙ ap (λ (w : View Held DeskTurn). w.ended ++ (control_looked.view.number, control_looked.view.mine) ∷ []) apart_view

  last_ended : last.view.ended ≡ (control_looked.view.number, control_looked.view.mine) ∷ (data_looked.view.number, data_looked.view.mine) ∷ []
  last_ended =
      ap (λ (w : View Held DeskTurn). w.ended) last_view
      ∙ ap (λ (e : List (ℕ × List ℕ)). e ++ (data_looked.view.number, data_looked.view.mine) ∷ []) first_ended

  -- the opening pass made no turn
  not_opening : AllOthers 0 last.view.seen
  not_opening =
      let apart_number : apart.view.number ≡ 0 = ap (λ (w : View Held DeskTurn). w.number) apart_view in
      let apart_seen : apart.view.seen ≡ [] = ap (λ (w : View Held DeskTurn). w.seen) apart_view in
      let early : AllOthers 0 passes.control_others.0 = subst (λ (k : ℕ). AllOthers k passes.control_others.0) apart_number passes.control_others.2 in
      let late : AllOthers 0 passes.data_others.0 = subst (λ (k : ℕ). AllOthers k passes.data_others.0) first_number passes.data_others.2 in
      let front : first.view.seen ≡ passes.control_others.0 = passes.control_others.1 ∙ ap (λ (l : List (Made DeskTurn)). l ++ passes.control_others.0) apart_seen in
      let before : AllOthers 0 first.view.seen = subst (λ (l : List (Made DeskTurn)). AllOthers 0 l) (sym front) early in
      subst (λ (l : List (Made DeskTurn)). AllOthers 0 l) (sym passes.data_others.1) (everyone-append (λ (by : ℕ). by ≢ 0) first.view.seen passes.data_others.0 before late)

  one_of_both : (by : ℕ) → one_at by 0 + (one_at by 1 + (one_at by 2 + 0)) ≡ 1 → by ≢ 0 → (by ≡ 1) ⊎ (by ≡ 2)
  one_of_both by one not = elim (cases_Bool (1 == by)) [
    | inl t ↦ inl (grind (arith, nat_tests, t))
    | inr f ↦ elim (cases_Bool (2 == by)) [
      | inl t ↦ inr (grind (arith, nat_tests, t))
      | inr g ↦ absurd (too_few f g)
    ]
  ]
    where
      too_few : (1 == by) ≡ false → (2 == by) ≡ false → ⊥
      too_few f g =
          let z : (0 == by) ≡ false = grind (arith, nat_tests, not) in
          let n : one_at by 0 + (one_at by 1 + (one_at by 2 + 0)) ≡ 0 = rw (z, f, g) refl in
          omega (arith, one, n)

  pub served : (turns : ℕ) (control rtp : Worked) (control_made data_made : PassView) (config : Config) (tape : List Step) (control_wire control_wire' data_wire data_wire' : Wire) (control_coming control_coming' data_coming data_coming' : Option (ℕ → ℕ))
      → config_of desk ≡ config
      → ServesControl desk turns control control_pass control_made control_wire control_wire' control_coming control_coming'
      → ServesData desk turns rtp data_pass data_made data_wire data_wire' data_coming data_coming'
      → SeesMore desk control_made control_looked → SeesMore desk data_made data_looked
      → Accounts last.view → IsHistory (config_of desk) last.view.seen → tape ≡ taken last.view.seen
      → IsServed config turns control rtp tape
      (record { control = record { wire = control_wire; coming = control_coming }; rtp = record { wire = data_wire; coming = data_coming } })
      (record { control = record { wire = control_wire'; coming = control_coming' }; rtp = record { wire = data_wire'; coming = data_coming' } })
  served turns control rtp control_made data_made config tape control_wire control_wire' data_wire data_wire' control_coming control_coming' data_coming data_coming' is controls plays control_sees data_sees accounts history tape_is =
      let control_made_number : control_made.view.number ≡ 1 = ap (λ (p : PassView). p.view.number) controls.rounds.makes.works.gains.rest ∙ control_number in
      let control_looked_number : control_looked.view.number ≡ 1 = ap (λ (p : PassView). p.view.number) control_sees.same ∙ control_made_number in
      let data_made_number : data_made.view.number ≡ 2 = ap (λ (p : PassView). p.view.number) plays.rounds.makes.works.gains.rest ∙ data_number in
      let data_looked_number : data_looked.view.number ≡ 2 = ap (λ (p : PassView). p.view.number) data_sees.same ∙ data_made_number in
      let ended : last.view.ended ≡ (1, control_looked.view.mine) ∷ (2, data_looked.view.mine) ∷ [] =
      last_ended ∙ (ap (λ (k : ℕ). (k, control_looked.view.mine) ∷ (data_looked.view.number, data_looked.view.mine) ∷ []) control_looked_number ∙ ap (λ (k : ℕ). (1, control_looked.view.mine) ∷ (k, data_looked.view.mine) ∷ []) data_looked_number) in
      let has_control : HasEnded 1 control_looked.view.mine last.view.ended = subst (λ (e : List (ℕ × List ℕ)). HasEnded 1 control_looked.view.mine e) (sym ended) (inl (refl, refl)) in
      let has_data : HasEnded 2 data_looked.view.mine last.view.ended = subst (λ (e : List (ℕ × List ℕ)). HasEnded 2 data_looked.view.mine e) (sym ended) (inr (inl (refl, refl))) in
      let control_told : Begins control_looked.view.seen last.view.seen = begins-then control_looked.view.seen first.view.seen last.view.seen passes.control_told (passes.data_others.0, passes.data_others.1) in
      let each : Everyone (λ (by : ℕ). one_at by 0 + (one_at by 1 + (one_at by 2 + 0)) ≡ 1) last.view.seen =
      subst (λ (k : ℕ). Everyone (λ (by : ℕ). one_at by k + (one_at by 1 + (one_at by 2 + 0)) ≡ 1) last.view.seen) last_number
      (subst (λ (e : List (ℕ × List ℕ)). Everyone (λ (by : ℕ). one_at by last.view.number + total (ended_as by) e ≡ 1) last.view.seen) ended accounts.each) in
      subst (λ (c : Config). IsServed c turns control rtp tape (record { control = record { wire = control_wire; coming = control_coming }; rtp = record { wire = data_wire; coming = data_coming } }) (record { control = record { wire = control_wire'; coming = control_coming' }; rtp = record { wire = data_wire'; coming = data_coming' } })) is
      (record {
        history = last.view.seen;
        legal = history;
        tape_is = tape_is;
        each = everyone-both (λ (by : ℕ). one_at by 0 + (one_at by 1 + (one_at by 2 + 0)) ≡ 1) (λ (by : ℕ). by ≢ 0) (λ (by : ℕ). (by ≡ 1) ⊎ (by ≡ 2)) one_of_both last.view.seen each not_opening;
        controls = part (ControlRound (config_of desk)) first_reporter desk turns control 1 controls.calls control_pass control_made control_looked control_wire control_wire' control_coming control_coming' last.view control_number control_none controls.rounds control_sees accounts has_control control_told;
        plays = part (DataRound (config_of desk)) first_listener desk turns rtp 2 plays.calls data_pass data_made data_looked data_wire data_wire' data_coming data_coming' last.view data_number data_none plays.rounds data_sees accounts has_data passes.data_told;
      })
