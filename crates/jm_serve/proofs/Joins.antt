-- What was done first and what was done then is what was done.
use Rattle.std.proofs.Common.{◌≡◌, ℕ, suc, ◌+◌, ◌%◌, ◌<◌, true, false, cond, List, [], ◌∷◌, ◌++◌, length, drop, get_or, Option, refl, sym, ap, subst, ◌∙◌, append_assoc, arith}
use Rattle.std.proofs.lemmas.List.{append-nil}
use Rattle.std.proofs.Math.Seq.{drop-cons}
use Rattle.jm_edge.specs.declared.Addr.{Addr}
use Rattle.jm_edge.specs.Faults.{one_more}
use Rattle.jm_edge.specs.Wire.{Letter, Wire, Sends}
use Rattle.jm_edge.specs.declared.port.Sent.TheVariants as sent
use Rattle.jm_turn.specs.declared.view.Made.{Made}
use Rattle.jm_turn.specs.Turns.{made, Begins}
use Rattle.jm_book.specs.declared.steps.Config.{Config}
use Rattle.jm_book.specs.declared.steps.Step.{Step}
use Rattle.jm_desk.specs.declared.turn.DeskTurn.{DeskTurn}
use Rattle.jm_desk.specs.declared.turn.Outcome.{Outcome}
use Rattle.jm_desk.specs.History.{turned, before_last}
use Rattle.jm_desk.specs.OwnTurns.{turns_by}
use Rattle.jm_desk.specs.Sharing.{Shared, PassView, MakesTurn, config_of}
use Rattle.jm_desk.specs.SharingLaws.{adds_own}
use Rattle.jm_edge.specs.Exchange.{Sending, letters_in}
use Rattle.jm_edge.specs.ExchangeLaws.{letters_in-append, exchanges-then, exchanges_nothing, exchanges_gone, exchanges_lost}
use Rattle.jm_serve.specs.Exchange.{letters_to, counted, Posts}
use Rattle.jm_serve.specs.Acts.{Act, act, turns_of, places_of, next_call, StandIn, GoesOn, Gains, Scene, Works}

-- ---- lists

turns-append : (xs ys : List Act) → turns_of (xs ++ ys) ≡ turns_of xs ++ turns_of ys
turns-append [] ys = refl
turns-append (x ∷ xs) ys = ap (λ (k : List DeskTurn). x.turn ∷ k) (turns-append xs ys)

places-append : (xs ys : List Act) → places_of (xs ++ ys) ≡ places_of xs ++ places_of ys
places-append [] ys = refl
places-append (x ∷ xs) ys = ap (λ (k : List ℕ). length x.before ∷ k) (places-append xs ys)

-- ---- with a count of the sends that failed

counted-append : (f : ℕ) (xs ys : List Sending) → counted f (xs ++ ys) ≡ counted (counted f xs) ys
counted-append f [] ys = refl
counted-append f (x ∷ xs) ys = counted-append (cond x.is_lost (one_more f) f) xs ys

pub posts-then : {xs ys : List (Option Letter)} {ls ms : List Letter} {f g h : ℕ} {old middle new : Wire} → Posts xs ls f g old middle → Posts ys ms g h middle new → Posts (xs ++ ys) (ls ++ ms) f h old new
posts-then {xs} {ys} {ls} {ms} {f} {g} {h} first second = record {
  sendings = first.sendings ++ second.sendings;
  given = letters_in-append first.sendings second.sendings ∙ ap (λ (k : List Letter). k ++ letters_in second.sendings) first.given ∙ ap (λ (k : List Letter). ls ++ k) second.given;
  exchanges = exchanges-then first.exchanges second.exchanges;
  faults_are = second.faults_are ∙ ap (λ (k : ℕ). counted k second.sendings) first.faults_are ∙ sym (counted-append f first.sendings second.sendings);
}

pub posts_nothing : (f : ℕ) (wire : Wire) → Posts [] [] f f wire wire
posts_nothing f wire = record { sendings = []; given = refl; exchanges = exchanges_nothing wire; faults_are = refl }

pub posts_gone : (to : Addr) (octets : List ℕ) (f : ℕ) (old new : Wire) → Sends sent.Gone (record { addr = to; octets = octets }) old new → Posts [] (letters_to octets (to ∷ [])) f f old new
posts_gone to octets f old new s = record {
  sendings = record { letter = record { addr = to; octets = octets }; is_lost = false } ∷ [];
  given = refl;
  exchanges = exchanges_gone (record { addr = to; octets = octets }) old new s;
  faults_are = refl;
}

pub posts_lost : (to : Addr) (octets : List ℕ) (f f' : ℕ) (old new : Wire) → f' ≡ one_more f → Sends sent.Failed (record { addr = to; octets = octets }) old new → Posts [] (letters_to octets (to ∷ [])) f f' old new
posts_lost to octets f f' old new e s = record {
  sendings = record { letter = record { addr = to; octets = octets }; is_lost = true } ∷ [];
  given = refl;
  exchanges = exchanges_lost (record { addr = to; octets = octets }) old new s;
  faults_are = e;
}

-- ---- one datagram after another

-- of the datagrams to all of these addresses, those to the rest are still to be sent
pub record PostsOn (octets : List ℕ) (all rest : List Addr) (faults faults' : ℕ) (old new : Wire) : Type 0 where
  pub done : List Letter
  pub split : done ++ letters_to octets rest ≡ letters_to octets all
  pub posts : Posts [] done faults faults' old new

pub posts_start : (octets : List ℕ) (all : List Addr) (f : ℕ) (wire : Wire) → PostsOn octets all all f f wire wire
posts_start octets all f wire = record { done = []; split = refl; posts = posts_nothing f wire }

pub posts_more : (octets : List ℕ) (all rest : List Addr) (addr : Addr) (f g h : ℕ) (old middle new : Wire) → PostsOn octets all (addr ∷ rest) f g old middle → Posts [] (letters_to octets (addr ∷ [])) g h middle new → PostsOn octets all rest f h old new
posts_more octets all rest addr f g h old middle new first second = record {
  done = first.done ++ letters_to octets (addr ∷ []);
  split = append_assoc first.done (letters_to octets (addr ∷ [])) (letters_to octets rest) ∙ first.split;
  posts = posts-then first.posts second;
}

pub posts_step : (octets : List ℕ) (all : List Addr) (i : ℕ) (d : Addr) (f g h : ℕ) (old middle new : Wire) → i < length all → PostsOn octets all (drop i all) f g old middle → Posts [] (letters_to octets (get_or all i d ∷ [])) g h middle new → PostsOn octets all (drop (i + 1) all) f h old new
posts_step octets all i d f g h old middle new inside first second =
    let e : suc i ≡ i + 1 = omega arith in
    let there : drop i all ≡ get_or all i d ∷ drop (i + 1) all = drop-cons all i d inside ∙ ap (λ (k : ℕ). get_or all i d ∷ drop k all) e in
    posts_more octets all (drop (i + 1) all) (get_or all i d) f g h old middle new (subst (λ (k : List Addr). PostsOn octets all k f g old middle) there first) second

pub posts_all : (octets : List ℕ) (all : List Addr) (f g : ℕ) (old new : Wire) → PostsOn octets all [] f g old new → Posts [] (letters_to octets all) f g old new
posts_all octets all f g old new first =
    subst (λ (k : List Letter). Posts [] k f g old new) (sym (append-nil first.done) ∙ first.split) first.posts

-- ---- turns

begins-then : (a b c : List (Made DeskTurn)) → Begins a b → Begins b c → Begins a c
begins-then a b c first second =
    (first.0 ++ second.0, second.1 ∙ ap (λ (k : List (Made DeskTurn)). k ++ second.0) first.1 ∙ append_assoc a first.0 second.0)

begins_same : (a : List (Made DeskTurn)) → Begins a a
begins_same a = ([], sym (append-nil a))

stand-longer : (config : Config) (n : ℕ) (seen more : List (Made DeskTurn)) (acts : List Act) → Begins seen more → StandIn config n seen acts → StandIn config n more acts
stand-longer config n seen more [] b h = h
stand-longer config n seen more (x ∷ xs) b h = (begins-then (x.before ++ made n x.turn ∷ []) seen more h.0 b, h.1, stand-longer config n seen more xs b h.2)

stand-append : (config : Config) (n : ℕ) (seen : List (Made DeskTurn)) (xs ys : List Act) → StandIn config n seen xs → StandIn config n seen ys → StandIn config n seen (xs ++ ys)
stand-append config n seen [] ys first second = second
stand-append config n seen (x ∷ xs) ys first second = (first.0, first.1, stand-append config n seen xs ys first.2 second)

pub goes_on-then : (old middle new : PassView) → GoesOn old middle → GoesOn middle new → GoesOn old new
goes_on-then old middle new first second =
    second ∙ ap (λ (p : PassView). record p { view = record p.view { stage = new.view.stage; ticket = new.view.ticket; seen = new.view.seen; mine = new.view.mine } }) first

pub goes_on_same : (pass : PassView) → GoesOn pass pass
goes_on_same pass = refl

same_number : (old new : PassView) → GoesOn old new → new.view.number ≡ old.view.number
same_number old new e = ap (λ (p : PassView). p.view.number) e

pub goes_on_call : (desk : Shared) (old new : PassView) (call : Step) (came : Outcome) → MakesTurn desk old new call came → GoesOn old new
goes_on_call desk old new call came m =
    subst (λ (p : PassView). GoesOn old p) (sym m.made) refl

gains-then : {desk : Shared} {xs ys : List Act} {old middle new : PassView} → Gains desk xs old middle → Gains desk ys middle new → Gains desk (xs ++ ys) old new
gains-then {desk} {xs} {ys} {old} {middle} {new} first second =
    let n : middle.view.number ≡ old.view.number = same_number old middle first.rest in
    let own : turns_by old.view.number new.view.seen ≡ turns_by old.view.number middle.view.seen ++ turns_of ys = subst (λ (k : ℕ). turns_by k new.view.seen ≡ turns_by k middle.view.seen ++ turns_of ys) n second.own in
    let stand : StandIn (config_of desk) old.view.number new.view.seen ys = subst (λ (k : ℕ). StandIn (config_of desk) k new.view.seen ys) n second.stand in
    record {
      longer = begins-then old.view.seen middle.view.seen new.view.seen first.longer second.longer;
      own = own ∙ ap (λ (k : List DeskTurn). k ++ turns_of ys) first.own ∙ append_assoc (turns_by old.view.number old.view.seen) (turns_of xs) (turns_of ys)
          ∙ ap (λ (k : List DeskTurn). turns_by old.view.number old.view.seen ++ k) (sym (turns-append xs ys));
      mine = second.mine ∙ ap (λ (k : List ℕ). k ++ places_of ys) first.mine ∙ append_assoc old.view.mine (places_of xs) (places_of ys)
          ∙ ap (λ (k : List ℕ). old.view.mine ++ k) (sym (places-append xs ys));
      stand = stand-append (config_of desk) old.view.number new.view.seen xs ys (stand-longer (config_of desk) old.view.number middle.view.seen new.view.seen xs second.longer first.stand) stand;
      rest = goes_on-then old middle new first.rest second.rest;
    }

pub gains_nothing : (desk : Shared) (pass : PassView) → Gains desk [] pass pass
gains_nothing desk pass = record {
  longer = begins_same pass.view.seen;
  own = sym (append-nil (turns_by pass.view.number pass.view.seen));
  mine = sym (append-nil pass.view.mine);
  stand = tt;
  rest = refl;
}

pub gains_call : (desk : Shared) (old new : PassView) (call : Step) (came : Outcome) → MakesTurn desk old new call came → Gains desk (act (before_last new.view.seen) call came ∷ []) old new
gains_call desk old new call came m =
    let before = before_last new.view.seen in
    let last : Made DeskTurn = made old.view.number (turned call came) in
    let seen : new.view.seen ≡ before ++ last ∷ [] = ap (λ (p : PassView). p.view.seen) m.made in
    record {
      longer = (m.more.0 ++ last ∷ [], seen ∙ ap (λ (k : List (Made DeskTurn)). k ++ last ∷ []) m.more.1 ∙ append_assoc old.view.seen m.more.0 (last ∷ []));
      own = adds_own desk old new call came m;
      mine = ap (λ (p : PassView). p.view.mine) m.made;
      stand = (([], seen ∙ sym (append-nil (before ++ last ∷ []))), m.answer, tt);
      rest = goes_on_call desk old new call came m;
    }

-- ---- all together

calls-append : (n : ℕ) (xs ys : List Act) → next_call n (xs ++ ys) ≡ next_call (next_call n xs) ys
calls-append n [] ys = refl
calls-append n (x ∷ xs) ys = calls-append ((n + 1) % 4294967296) xs ys

pub works-then : {desk : Shared} {xs ys : List Act} {us vs : List (Option Letter)} {ls ms : List Letter} {old middle new : Scene} → Works desk xs us ls old middle → Works desk ys vs ms middle new → Works desk (xs ++ ys) (us ++ vs) (ls ++ ms) old new
works-then {desk} {xs} {ys} {us} {vs} {ls} {ms} {old} {middle} {new} first second = record {
  gains = gains-then first.gains second.gains;
  posts = posts-then first.posts second.posts;
  calls = second.calls ∙ ap (λ (k : ℕ). next_call k ys) first.calls ∙ sym (calls-append old.call xs ys);
}

pub works_nothing : (desk : Shared) (scene : Scene) → Works desk [] [] [] scene scene
works_nothing desk scene = record { gains = gains_nothing desk scene.pass; posts = posts_nothing scene.faults scene.wire; calls = refl }

-- one call, and what it sends
pub works_call : (desk : Shared) (old new : PassView) (step : Step) (came : Outcome) (letters : List Letter) (wire wire' : Wire) (call call' faults faults' : ℕ)
    → MakesTurn desk old new step came → Posts [] letters faults faults' wire wire' → call' ≡ (call + 1) % 4294967296
    → Works desk (act (before_last new.view.seen) step came ∷ []) [] letters (record { pass = old; wire = wire; call = call; faults = faults }) (record { pass = new; wire = wire'; call = call'; faults = faults' })
works_call desk old new step came letters wire wire' call call' faults faults' m p e = record {
  gains = gains_call desk old new step came m;
  posts = p;
  calls = e;
}
