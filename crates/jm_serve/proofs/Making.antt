-- Rounds, put together one after another.
use Rattle.std.proofs.Common.{◌≡◌, ℕ, ◌+◌, ◌≤◌, ◌<◌, List, [], ◌∷◌, ◌++◌, take, Option, Some, None, refl, ap, subst, ◌∙◌, inl, inr, arith}
use Rattle.std.proofs.lemmas.List.{append-nil}
use Rattle.jm_edge.specs.declared.Addr.{Addr}
use Rattle.jm_edge.specs.Faults.{Rose}
use Rattle.jm_edge.specs.Ticks.{Ticks}
use Rattle.jm_edge.specs.Wire.{Letter, Wire, Receives}
use Rattle.jm_edge.specs.declared.port.Recv.TheVariants as recv
use Rattle.jm_desk.specs.Sharing.{Shared, PassView}
use Rattle.jm_serve.specs.declared.worked.Rounded.{Rounded}
use Rattle.jm_serve.specs.declared.worked.Rounded.TheVariants as rounded
use Rattle.jm_serve.specs.declared.worked.WorkEnd.TheVariants as ends
use Rattle.jm_edge.specs.Exchange.{Exchanges}
use Rattle.jm_edge.specs.ExchangeLaws.{takes_one, takes_none, takes_nothing}
use Rattle.jm_edge.specs.MomentLaws.{gave-then, gave_one, gave_nothing}
use Rattle.jm_serve.specs.Exchange.{Posts}
use Rattle.jm_serve.specs.Acts.{Act, Scene, Works}
use Rattle.jm_serve.specs.Rounds.{Round, start, then_round, acts_of, letters_of, givens_of, none_yet, one_more, DoesRound, Outside, Makes, MakesOne, Breaks, MakesRounds}
use Rattle.jm_serve.proofs.Joins.{works-then, works_nothing, gains_nothing}

-- ---- one receive

posts_given : (given : Option Letter) (f : ℕ) (old new : Wire) → Exchanges (given ∷ []) [] old new → Posts (given ∷ []) [] f f old new
posts_given given f old new e = record { sendings = []; given = refl; exchanges = e; faults_are = refl }

pub posts_got : (len : ℕ) (from : Addr) (buffer : List ℕ) (f : ℕ) (old new : Wire) → Receives (recv.Got len from) buffer old new → Posts (Some (record { addr = from; octets = take len buffer }) ∷ []) [] f f old new
posts_got len from buffer f old new r =
    posts_given (Some (record { addr = from; octets = take len buffer })) f old new (takes_one len from buffer old new r)

pub posts_quiet : (buffer : List ℕ) (f : ℕ) (old new : Wire) → Receives recv.Quiet buffer old new → Posts (None ∷ []) [] f f old new
posts_quiet buffer f old new r = posts_given None f old new (takes_none buffer old new r)

posts_broken : (buffer : List ℕ) (f : ℕ) (old new : Wire) → Receives recv.Failed buffer old new → Posts [] [] f f old new
posts_broken buffer f old new r = record { sendings = []; given = refl; exchanges = takes_nothing buffer old new r; faults_are = refl }

pub broken : (desk : Shared) (buffer : List ℕ) (pass : PassView) (call faults : ℕ) (wire wire' : Wire) (coming : Option (ℕ → ℕ)) → Receives recv.Failed buffer wire wire'
    → Breaks desk (record { scene = record { pass = pass; wire = wire; call = call; faults = faults }; coming = coming }) (record { scene = record { pass = pass; wire = wire'; call = call; faults = faults }; coming = coming })
broken desk buffer pass call faults wire wire' coming r = record {
  works = record { gains = gains_nothing desk pass; posts = posts_broken buffer faults wire wire' r; calls = refl };
  moments = refl;
  rose = r.failed;
}

-- ---- one round

module _ {S : Type 0} (Does : S → Round → S → Type 0) (desk : Shared) where
  pub makes_one : (given : Option Letter) (moment : ℕ) (came : Rounded) (kept kept' : S) (pass pass' : PassView) (a b c : Wire) (call call' faults faults' : ℕ) (coming coming' : Option (ℕ → ℕ))
      → Posts (given ∷ []) [] faults faults a b → Ticks moment coming coming'
      → DoesRound Does desk given moment came kept kept' (record { pass = pass; wire = b; call = call; faults = faults }) (record { pass = pass'; wire = c; call = call'; faults = faults' })
      → MakesOne Does desk came kept kept'
      (record { scene = record { pass = pass; wire = a; call = call; faults = faults }; coming = coming })
      (record { scene = record { pass = pass'; wire = c; call = call'; faults = faults' }; coming = coming' })
  makes_one given moment came kept kept' pass pass' a b c call call' faults faults' coming coming' p t d = record {
    given = given;
    moment = moment;
    acts = d.acts;
    letters = d.letters;
    does = d.does;
    works = works-then
        {old = record { pass = pass; wire = a; call = call; faults = faults }} {middle = record { pass = pass; wire = b; call = call; faults = faults }}
        (record { gains = gains_nothing desk pass; posts = p; calls = refl }) d.works;
    moments = gave_one moment coming coming' t;
  }

  -- ---- one after another

  pub makes_nothing : (first : S) (outside : Outside) → Makes Does first desk 0 rounded.Whole first outside outside
  makes_nothing first outside = record {
    rounds = start;
    count = refl;
    follow = none_yet;
    works = works_nothing desk outside.scene;
    moments = gave_nothing outside.coming;
  }

  pub makes_more : (first middle last : S) (made : ℕ) (came : Rounded) (a b c : Outside) → Makes Does first desk made rounded.Whole middle a b → MakesOne Does desk came middle last b c → Makes Does first desk (made + 1) came last a c
  makes_more first middle last made came a b c m one =
      let round : Round = record { given = one.given; moment = one.moment; acts = one.acts; letters = one.letters; came = came } in
      record {
        rounds = then_round m.rounds round;
        count = ap (λ (k : ℕ). k + 1) m.count;
        follow = one_more m.rounds round middle last m.follow one.does;
        works = works-then m.works one.works;
        moments = gave-then m.moments one.moments;
      }

  works_as : (xs acts : List Act) (us givens : List (Option Letter)) (ls letters : List Letter) (a b : Scene) → acts ≡ xs → givens ≡ us → letters ≡ ls → Works desk acts givens letters a b → Works desk xs us ls a b
  works_as xs acts us givens ls letters a b e f g w =
      subst (λ (k : List Letter). Works desk xs us k a b) g (subst (λ (k : List (Option Letter)). Works desk xs k letters a b) f (subst (λ (k : List Act). Works desk k givens letters a b) e w))

  makes_broken : (first last : S) (made : ℕ) (a b c : Outside) → Makes Does first desk made rounded.Whole last a b → Breaks desk b c → Makes Does first desk made rounded.Whole last a c
  makes_broken first last made a b c m broke = record {
    rounds = m.rounds;
    count = m.count;
    follow = m.follow;
    works = works_as (acts_of m.rounds) (acts_of m.rounds ++ []) (givens_of m.rounds) (givens_of m.rounds ++ []) (letters_of m.rounds) (letters_of m.rounds ++ []) a.scene c.scene
        (append-nil (acts_of m.rounds)) (append-nil (givens_of m.rounds)) (append-nil (letters_of m.rounds)) (works-then m.works broke.works);
    moments = record {
      first = m.moments.first;
      others = broke.moments ∙ m.moments.others;
    };
  }

  -- ---- the ends

  rose_later : (x y z : ℕ) → x ≤ y → y ≤ z → Rose y z → Rose x z
  rose_later x y z h i r = λ few. grind (arith, h, i, r, few)

  pub rounds_made : (first last : S) (made turns : ℕ) (a b : Outside) → made ≡ turns → Makes Does first desk made rounded.Whole last a b → MakesRounds Does first desk turns ends.Made a b
  rounds_made first last made turns a b e m = record { made = made; came = rounded.Whole; last = last; makes = m; stops = (e, refl) }

  pub rounds_broken : (first last : S) (made turns : ℕ) (a b c : Outside) → made < turns → Makes Does first desk made rounded.Whole last a b → Breaks desk b c → MakesRounds Does first desk turns ends.RecvFailed a c
  rounds_broken first last made turns a b c few m broke = record {
    made = made;
    came = rounded.Whole;
    last = last;
    makes = makes_broken first last made a b c m broke;
    stops = (few, refl, rose_later a.scene.wire.recv_faults b.scene.wire.recv_faults c.scene.wire.recv_faults m.works.posts.exchanges.counted broke.works.posts.exchanges.counted broke.rose);
  }

  fewer : (made turns : ℕ) → made < turns → made + 1 ≤ turns
  fewer made turns few = omega (arith, few)

  pub rounds_full : (first middle last : S) (made turns : ℕ) (a b c : Outside) → made < turns → Makes Does first desk made rounded.Whole middle a b → MakesOne Does desk rounded.RecordFull middle last b c → MakesRounds Does first desk turns ends.RecordFull a c
  rounds_full first middle last made turns a b c few m one = record {
    made = made + 1;
    came = rounded.RecordFull;
    last = last;
    makes = makes_more first middle last made rounded.RecordFull a b c m one;
    stops = (fewer made turns few, refl);
  }

  pub rounds_starved : (first middle last : S) (made turns : ℕ) (a b c : Outside) → made < turns → Makes Does first desk made rounded.Whole middle a b → MakesOne Does desk rounded.NoMemory middle last b c → MakesRounds Does first desk turns ends.NoMemory a c
  rounds_starved first middle last made turns a b c few m one = record {
    made = made + 1;
    came = rounded.NoMemory;
    last = last;
    makes = makes_more first middle last made rounded.NoMemory a b c m one;
    stops = (fewer made turns few, inl refl);
  }

  -- there was no memory before the first
  pub rounds_none : (first : S) (turns : ℕ) (a : Outside) → MakesRounds Does first desk turns ends.NoMemory a a
  rounds_none first turns a = record {
    made = 0;
    came = rounded.Whole;
    last = first;
    makes = makes_nothing first a;
    stops = (omega arith, inr refl);
  }
