-- What clap's clauses say of the command `serve`.
use Rattle.std.proofs.Common.{◌≡◌, ◌∙◌, true, false, List, [], ◌∷◌, map, refl, ap, sym, inl, inr, codes, Option, Some}
use Rattle.clap.specs.Walk.{Text, Row, rows_of, first_of}
use Rattle.clap.specs.Matches.{first_value}
use Rattle.clap.specs.declared.parser.matches.Found.{Found}
use Rattle.clap.proofs.WalkLemmas.{first_value-rows}
use Rattle.clap.specs.Kinds.{Kinds, HasKind}
use Rattle.clap.specs.Values.{kind_of}
use Rattle.clap.specs.Simple.{is_simple, matches_of}
use Rattle.clap.specs.Faults.{fault_of, is_simple_and_free}
use Rattle.clap.specs.declared.error.Error.{Error}
use Rattle.clap.proofs.OnLiterals.{clap_on_literals}
use Rattle.midi_host.specs.ServeOptions.{serve_app, is_none_of, is_taken, texts_of, texts_in, Texts}
use Rattle.midi_host.specs.ServeParsed.{fault_for}
use Rattle.midi_host.specs.declared.serve_options.WordsFault.TheVariants.{Memory, Refused}

pub serve_is_simple : is_simple serve_app ≡ true
unfolding serve_app clap_on_literals
serve_is_simple = refl

pub serve_is_free : is_simple_and_free serve_app ≡ true
unfolding serve_app clap_on_literals
serve_is_free = refl

pub map-same : {A : Type 0} (xs : List A) → map (λ x. x) xs ≡ xs
map-same {A = A} [] = refl
map-same {A = A} (x ∷ xs) = ap (λ (l : List A). x ∷ l) (map-same xs)

pub none_fails : (kinds : Kinds) → kinds ≡ [] → is_none_of kinds ≡ true
none_fails kinds e = rw e refl

-- an error that isn't for want of memory is one of the words
pub some_fails : (kinds : Kinds) (e : Error) → HasKind kinds e → fault_for (kind_of e) ≡ Refused → is_none_of kinds ≡ false
some_fails [] e (inl h) refuses = let bad : Memory ≡ Refused = rw h at refuses in absurd cc
some_fails [] e (inr h) refuses = absurd h
some_fails (k ∷ kinds) e h refuses = refl

-- what clap gives for the words, where it takes them
pub given : (words mapped : List Text) (kinds : Kinds) (rows : List Row) → mapped ≡ words → kinds ≡ fault_of serve_app mapped → kinds ≡ [] → rows ≡ matches_of serve_app mapped → (is_taken words ≡ true) × (rows ≡ matches_of serve_app words)
given words mapped kinds rows e k none r = (
  none_fails (fault_of serve_app words) (ap (fault_of serve_app) (sym e) ∙ (sym k ∙ none)),
  r ∙ ap (matches_of serve_app) e,
)

pub texts_are : (words : List Text) (m : Found) (port turns ssrc events : Option Text) → is_taken words ≡ true → rows_of m ≡ matches_of serve_app words
    → port ≡ first_value m (codes "port") → turns ≡ first_value m (codes "turns") → ssrc ≡ first_value m (codes "ssrc") → events ≡ first_value m (codes "events")
    → texts_of words ≡ Some (record { port = port; turns = turns; ssrc = ssrc; events = events })
texts_are words m port turns ssrc events taken rows p t s e =
    let at : (id : Text) (value : Option Text) → value ≡ first_value m id → first_of id (matches_of serve_app words) ≡ value =
    λ id value is. ap (first_of id) (sym rows) ∙ (sym (first_value-rows m id) ∙ sym is) in
    let all : texts_in (matches_of serve_app words) ≡ record { port = port; turns = turns; ssrc = ssrc; events = events } =
    rw (at (codes "port") port p, at (codes "turns") turns t, at (codes "ssrc") ssrc s, at (codes "events") events e) refl in
    rw taken (ap (λ (x : Texts). Some x) all)
