-- What the caller's pass knows when the workers have ended.
use Rattle.std.proofs.Common.{◌≡◌, ℕ, Bool, true, false, ◌&&◌, IsTrue, List, [], ◌++◌, refl, sym, ap, subst, ◌∙◌}
use Rattle.jm_turn.specs.declared.view.Made.{Made}
use Rattle.jm_turn.specs.declared.view.View.{View}
use Rattle.jm_turn.specs.Turns.{Begins}
use Rattle.jm_turn.specs.Views.{newcomer}
use Rattle.jm_desk.specs.declared.turn.DeskTurn.{DeskTurn}
use Rattle.jm_desk.specs.declared.held.Held.{Held}
use Rattle.jm_desk.specs.OwnTurns.{turns_by}
use Rattle.jm_desk.specs.Sharing.{Shared, PassView}
use Rattle.jm_jam.specs.declared.crew.Backs.{Backs}
use Rattle.jm_jam.specs.declared.parting.Crew.{Crew}
use Rattle.jm_jam.specs.declared.job.Job.TheVariants.{Player, Feedback, Sender}
use Rattle.jm_jam.specs.Workers.{Worked}
use Rattle.jm_jam.specs.Crew.{ServesTwo, Serves}
use Rattle.jm_jam.specs.Whole.{Opens, CutsLast, jam_jobs}
use Rattle.jm_jam.specs.Parting.{CameBackAll, IsCrew, in_order, all_done, kept_of, Gathers, IsAlone, IsFresh, Works, Makes}
use Rattle.jm_jam.proofs.Adding.{begins-then}
use Rattle.jm_jam.proofs.Passes.{came_back}

-- all workers came back
pub all_back : (desk : Shared) (caller : List (Made DeskTurn)) (seed count : ℕ) (crew : Crew) (backs : Backs) → IsCrew desk caller crew → ServesTwo desk seed count crew.low backs.low → ServesTwo desk seed count crew.high backs.high → ServesTwo desk seed count crew.feedback backs.feedback → Serves desk seed count crew.sender backs.sender → CameBackAll desk caller seed count 1 jam_jobs (in_order backs)
all_back desk caller seed count crew backs is low high feedback sender = (
  came_back desk caller seed count 1 (Player 0) crew.low.0 backs.low.0 is.player_0 low.one,
  (
    came_back desk caller seed count 2 (Player 1) crew.low.1 backs.low.1 is.player_1 low.other,
    (
      came_back desk caller seed count 3 (Player 2) crew.high.0 backs.high.0 is.player_2 high.one,
      (
        came_back desk caller seed count 4 (Player 3) crew.high.1 backs.high.1 is.player_3 high.other,
        (
          came_back desk caller seed count 5 (Feedback 4 1) crew.feedback.0 backs.feedback.0 is.feedback_1 feedback.one,
          (
            came_back desk caller seed count 6 (Feedback 5 2) crew.feedback.1 backs.feedback.1 is.feedback_2 feedback.other,
            (
              came_back desk caller seed count 7 Sender crew.sender backs.sender is.sender sender,
              tt,
            ),
          ),
        ),
      ),
    ),
  ),
)

-- the pass after the split, the cut and the joining
pub gathered : (old parted cut new : PassView) (backs : Backs) (program : List DeskTurn → Type 0) (done : Bool) → IsFresh old → parted ≡ record old { view = record old.view { next = 8; out = 7 } } → Worked program done parted cut → Gathers (in_order backs) cut new → IsAlone new
gathered old parted cut new backs program done fresh is worked gathers =
    let v = ap (λ (p : PassView). p.view) worked.adds.rest in
    let u = ap (λ (p : PassView). p.view) is in
    let out : cut.view.out ≡ 7 = ap (λ (w : View Held DeskTurn). w.out) v ∙ ap (λ (w : View Held DeskTurn). w.out) u in
    record {
      kind_is = gathers.kind_is ∙ (ap (λ (w : View Held DeskTurn). w.kind) v ∙ (ap (λ (w : View Held DeskTurn). w.kind) u ∙ fresh.alone.kind_is));
      number_is = gathers.number_is ∙ (ap (λ (w : View Held DeskTurn). w.number) v ∙ (ap (λ (w : View Held DeskTurn). w.number) u ∙ fresh.alone.number_is));
      out_is = rw out at gathers.out_is;
    }

both : (a b : Bool) → (a && b) ≡ true → (a ≡ true) × (b ≡ true)
both true b h = (refl, h)
both false b h = absurd cc

pub works : (desk : Shared) (seed count : ℕ) (old parted cut new : PassView) (backs : Backs) (done : Bool) → IsFresh old → parted ≡ record old { view = record old.view { next = 8; out = 7 } } → Worked (CutsLast count) done parted cut → CameBackAll desk old.view.seen seed count 1 jam_jobs (in_order backs) → Gathers (in_order backs) cut new → IsTrue (done && all_done (in_order backs)) → Works desk seed count old.view.seen new
works desk seed count old parted cut new backs done fresh is worked came gathers all =
    let dones = both done (all_done (in_order backs)) all in
    let adds = worked.adds in
    let v = ap (λ (p : PassView). p.view) adds.rest in
    let u = ap (λ (p : PassView). p.view) is in
    let seen : parted.view.seen ≡ old.view.seen = ap (λ (w : View Held DeskTurn). w.seen) u in
    let number : parted.view.number ≡ 0 = ap (λ (w : View Held DeskTurn). w.number) u ∙ fresh.alone.number_is in
    let cut_number : cut.view.number ≡ 0 = ap (λ (w : View Held DeskTurn). w.number) v ∙ number in
    let ended : cut.view.ended ≡ [] = ap (λ (w : View Held DeskTurn). w.ended) v ∙ (ap (λ (w : View Held DeskTurn). w.ended) u ∙ fresh.ended_is) in
    let own : turns_by 0 new.view.seen ≡ turns_by 0 cut.view.seen = subst (λ (k : ℕ). turns_by k new.view.seen ≡ turns_by k cut.view.seen) cut_number gathers.own in
    let added : turns_by 0 cut.view.seen ≡ turns_by 0 parted.view.seen ++ worked.turns = subst (λ (k : ℕ). turns_by k cut.view.seen ≡ turns_by k parted.view.seen ++ worked.turns) number adds.own in
    record {
      backs = in_order backs;
      came = came;
      done = dones.1;
      ended_is = gathers.ended_is ∙ ap (λ (l : List (ℕ × List ℕ)). l ++ kept_of (in_order backs)) ended;
      told = gathers.told;
      begins = subst (λ (l : List (Made DeskTurn)). Begins l new.view.seen) seen (begins-then parted.view.seen cut.view.seen new.view.seen adds.longer gathers.seen);
      last = worked.turns;
      cuts = worked.did dones.0;
      own = own ∙ (added ∙ ap (λ (l : List (Made DeskTurn)). turns_by 0 l ++ worked.turns) seen);
    }

-- the caller's pass behind its opening
pub opened_fresh : (desk : Shared) (old new : PassView) (program : List DeskTurn → Type 0) (done : Bool) → old.view ≡ newcomer desk.first → Worked program done old new → IsFresh new
opened_fresh desk old new program done view worked =
    let v = ap (λ (p : PassView). p.view) worked.adds.rest in
    record {
      alone = record {
        kind_is = ap (λ (w : View Held DeskTurn). w.kind) v ∙ ap (λ (w : View Held DeskTurn). w.kind) view;
        number_is = ap (λ (w : View Held DeskTurn). w.number) v ∙ ap (λ (w : View Held DeskTurn). w.number) view;
        out_is = ap (λ (w : View Held DeskTurn). w.out) v ∙ ap (λ (w : View Held DeskTurn). w.out) view;
      };
      next_is = ap (λ (w : View Held DeskTurn). w.next) v ∙ ap (λ (w : View Held DeskTurn). w.next) view;
      ended_is = ap (λ (w : View Held DeskTurn). w.ended) v ∙ ap (λ (w : View Held DeskTurn). w.ended) view;
    }

pub makes : (desk : Shared) (seed count : ℕ) (old middle new : PassView) → old.view ≡ newcomer desk.first → Worked Opens true old middle → Works desk seed count middle.view.seen new → Makes desk seed count new
makes desk seed count old middle new view worked did =
    let number : old.view.number ≡ 0 = ap (λ (w : View Held DeskTurn). w.number) view in
    let seen : old.view.seen ≡ [] = ap (λ (w : View Held DeskTurn). w.seen) view in
    let added : turns_by 0 middle.view.seen ≡ turns_by 0 old.view.seen ++ worked.turns = subst (λ (k : ℕ). turns_by k middle.view.seen ≡ turns_by k old.view.seen ++ worked.turns) number worked.adds.own in
    let own : turns_by 0 middle.view.seen ≡ worked.turns = added ∙ ap (λ (l : List (Made DeskTurn)). turns_by 0 l ++ worked.turns) seen in
    record {
      caller = middle.view.seen;
      opens = subst (λ (l : List DeskTurn). Opens l) (sym own) (worked.did refl);
      works = did;
    }
