-- What went through a port first and what went through it then is what went through it; and what single calls do.
use Rattle.std.proofs.Common.{◌≡◌, ℕ, ◌+◌, ◌-◌, ◌^◌, ◌≤◌, min, Bool, true, false, cond, List, [], ◌∷◌, ◌++◌, take, Option, Some, None, refl, sym, ap, subst, ◌∙◌, append_assoc, arith}
use Rattle.std.specs.Prelude.{IfSome}
use Rattle.std.specs.Option.{option_map}
use Rattle.std.proofs.lemmas.List.{append-nil}
use Rattle.jm_edge.specs.declared.Addr.{Addr}
use Rattle.jm_edge.specs.Exchange.{Sending, went, lost, letters_in, taken, IsQuietAtEnd, Exchanges}
use Rattle.jm_edge.specs.Faults.{Rose}
use Rattle.jm_edge.specs.Wire.{Letter, Wire, Receives, Sends}
use Rattle.jm_edge.specs.declared.port.Recv.TheVariants as recv
use Rattle.jm_edge.specs.declared.port.Sent.TheVariants as sent

-- ---- lists

went-append : (xs ys : List Sending) → went (xs ++ ys) ≡ went xs ++ went ys
went-append [] ys = refl
went-append (x ∷ xs) ys = elim x.is_lost as (λ (b : Bool). cond b (went (xs ++ ys)) (x.letter ∷ went (xs ++ ys)) ≡ cond b (went xs) (x.letter ∷ went xs) ++ went ys) [
  | true ↦ went-append xs ys
  | false ↦ ap (λ (k : List Letter). x.letter ∷ k) (went-append xs ys)
]

lost-append : (xs ys : List Sending) → lost (xs ++ ys) ≡ lost xs + lost ys
lost-append [] ys = omega arith
lost-append (x ∷ xs) ys = omega (arith, lost-append xs ys)

pub letters_in-append : (xs ys : List Sending) → letters_in (xs ++ ys) ≡ letters_in xs ++ letters_in ys
letters_in-append [] ys = refl
letters_in-append (x ∷ xs) ys = ap (λ (k : List Letter). x.letter ∷ k) (letters_in-append xs ys)

taken-append : (xs ys : List (Option Letter)) → taken (xs ++ ys) ≡ taken xs ++ taken ys
taken-append [] ys = refl
taken-append (Some x ∷ xs) ys = ap (λ (k : List Letter). x ∷ k) (taken-append xs ys)
taken-append (None ∷ xs) ys = taken-append xs ys

quiet-append : (xs ys : List (Option Letter)) (rest : List Letter) → IsQuietAtEnd xs (taken ys ++ rest) → IsQuietAtEnd ys rest → IsQuietAtEnd (xs ++ ys) rest
quiet-append [] ys rest first second = second
quiet-append (Some x ∷ xs) ys rest first second = quiet-append xs ys rest first second
quiet-append (None ∷ xs) ys rest first second =
    ap (λ (k : List Letter). k ++ rest) (taken-append xs ys) ∙ append_assoc (taken xs) (taken ys) rest ∙ first

-- ---- through one port

takes-then : (xs ys : List (Option Letter)) (old middle new : Option (List Letter)) → old ≡ option_map (λ rest. taken xs ++ rest) middle → middle ≡ option_map (λ rest. taken ys ++ rest) new
    → old ≡ option_map (λ rest. taken (xs ++ ys) ++ rest) new
takes-then xs ys old middle None a b = a ∙ ap (λ (o : Option (List Letter)). option_map (λ rest. taken xs ++ rest) o) b
takes-then xs ys old middle (Some rest) a b =
    a ∙ ap (λ (o : Option (List Letter)). option_map (λ rest. taken xs ++ rest) o) b
    ∙ ap (λ (k : List Letter). Some k) (sym (append_assoc (taken xs) (taken ys) rest) ∙ ap (λ (k : List Letter). k ++ rest) (sym (taken-append xs ys)))

quiet-then : (xs ys : List (Option Letter)) (middle new : Option (List Letter)) → middle ≡ option_map (λ rest. taken ys ++ rest) new → IfSome middle (IsQuietAtEnd xs) → IfSome new (IsQuietAtEnd ys) → IfSome new (IsQuietAtEnd (xs ++ ys))
quiet-then xs ys middle None e first second = tt
quiet-then xs ys middle (Some rest) e first second =
    quiet-append xs ys rest (subst (λ (o : Option (List Letter)). IfSome o (IsQuietAtEnd xs)) e first) second

adds-then : (xs ys : List Sending) (old middle new : Option (List Letter)) → middle ≡ option_map (λ gone. gone ++ went xs) old → new ≡ option_map (λ gone. gone ++ went ys) middle → new ≡ option_map (λ gone. gone ++ went (xs ++ ys)) old
adds-then xs ys None middle new a b = b ∙ ap (λ (o : Option (List Letter)). option_map (λ gone. gone ++ went ys) o) a
adds-then xs ys (Some gone) middle new a b =
    b ∙ ap (λ (o : Option (List Letter)). option_map (λ gone. gone ++ went ys) o) a
    ∙ ap (λ (k : List Letter). Some k) (append_assoc gone (went xs) (went ys) ∙ ap (λ (k : List Letter). gone ++ k) (sym (went-append xs ys)))

missing-then : (a b c x y z : ℕ) → z ≡ x + y → min (a + x) (2 ^ 64 - 1) ≤ b → min (b + y) (2 ^ 64 - 1) ≤ c → min (a + z) (2 ^ 64 - 1) ≤ c
missing-then a b c x y z e f g = omega arith

pub exchanges-then : {xs ys : List (Option Letter)} {ss ts : List Sending} {old middle new : Wire} → Exchanges xs ss old middle → Exchanges ys ts middle new → Exchanges (xs ++ ys) (ss ++ ts) old new
exchanges-then {xs} {ys} {ss} {ts} {old} {middle} {new} first second = record {
  takes = takes-then xs ys old.arriving middle.arriving new.arriving first.takes second.takes;
  quiet = quiet-then xs ys middle.arriving new.arriving second.takes first.quiet second.quiet;
  adds = adds-then ss ts old.gone middle.gone new.gone first.adds second.adds;
  missing = missing-then old.send_faults middle.send_faults new.send_faults (lost ss) (lost ts) (lost (ss ++ ts)) (lost-append ss ts) first.missing second.missing;
  counted = omega (arith, first.counted, second.counted);
}

same_letters : (o : Option (List Letter)) → o ≡ option_map (λ rest. [] ++ rest) o
same_letters None = refl
same_letters (Some rest) = refl

same_gone : (o : Option (List Letter)) → o ≡ option_map (λ gone. gone ++ []) o
same_gone None = refl
same_gone (Some gone) = ap (λ (k : List Letter). Some k) (sym (append-nil gone))

none_quiet : (o : Option (List Letter)) → IfSome o (IsQuietAtEnd [])
none_quiet None = tt
none_quiet (Some rest) = tt

-- nothing went through
pub exchanges_nothing : (wire : Wire) → Exchanges [] [] wire wire
exchanges_nothing wire = record {
  takes = same_letters wire.arriving;
  quiet = none_quiet wire.arriving;
  adds = same_gone wire.gone;
  missing = omega arith;
  counted = omega arith;
}

-- ---- the single steps

pub exchanges_gone : (letter : Letter) (old new : Wire) → Sends sent.Gone letter old new → Exchanges [] (record { letter = letter; is_lost = false } ∷ []) old new
exchanges_gone letter old new s = record {
  takes = subst (λ (o : Option (List Letter)). old.arriving ≡ option_map (λ rest. [] ++ rest) o) (sym s.arriving) (same_letters old.arriving);
  quiet = none_quiet new.arriving;
  adds = s.adds;
  missing = omega (arith, s.counted);
  counted = omega (arith, s.receives);
}

missing_one : (old new : ℕ) → old ≤ new → Rose old new → min (old + 1) (2 ^ 64 - 1) ≤ new
missing_one old new counted rose = grind (arith, counted, rose)

pub exchanges_lost : (letter : Letter) (old new : Wire) → Sends sent.Failed letter old new → Exchanges [] (record { letter = letter; is_lost = true } ∷ []) old new
exchanges_lost letter old new s = record {
  takes = subst (λ (o : Option (List Letter)). old.arriving ≡ option_map (λ rest. [] ++ rest) o) (sym s.arriving) (same_letters old.arriving);
  quiet = none_quiet new.arriving;
  adds = s.adds ∙ same_gone old.gone;
  missing = missing_one old.send_faults new.send_faults s.counted s.failed;
  counted = omega (arith, s.receives);
}

one_letter : (letter : Letter) (old new : Option (List Letter)) → old ≡ option_map (λ rest. letter ∷ rest) new → old ≡ option_map (λ rest. taken (Some letter ∷ []) ++ rest) new
one_letter letter old None e = e
one_letter letter old (Some rest) e = e

one_quiet : (letter : Letter) (new : Option (List Letter)) → IfSome new (IsQuietAtEnd (Some letter ∷ []))
one_quiet letter None = tt
one_quiet letter (Some rest) = tt

still_gone : (old new : Option (List Letter)) → new ≡ old → new ≡ option_map (λ gone. gone ++ []) old
still_gone old new e = e ∙ same_gone old

pub takes_one : (len : ℕ) (from : Addr) (buffer : List ℕ) (old new : Wire) → Receives (recv.Got len from) buffer old new → Exchanges (Some (record { addr = from; octets = take len buffer }) ∷ []) [] old new
takes_one len from buffer old new r = record {
  takes = one_letter (record { addr = from; octets = take len buffer }) old.arriving new.arriving r.takes;
  quiet = one_quiet (record { addr = from; octets = take len buffer }) new.arriving;
  adds = still_gone old.gone new.gone r.gone;
  missing = omega (arith, r.sends);
  counted = r.counted;
}

nothing_there : (old new : Option (List Letter)) → new ≡ old → IfSome old (λ rest. rest ≡ []) → IfSome new (IsQuietAtEnd (None ∷ []))
nothing_there old None e h = tt
nothing_there None (Some rest) e h = absurd cc
nothing_there (Some left) (Some rest) e h = let same : rest ≡ left = cc in same ∙ h

same_arriving : (old new : Option (List Letter)) → new ≡ old → old ≡ option_map (λ rest. [] ++ rest) new
same_arriving old new e = sym e ∙ same_letters new

pub takes_none : (buffer : List ℕ) (old new : Wire) → Receives recv.Quiet buffer old new → Exchanges (None ∷ []) [] old new
takes_none buffer old new r = record {
  takes = same_arriving old.arriving new.arriving r.takes.0;
  quiet = nothing_there old.arriving new.arriving r.takes.0 r.takes.1;
  adds = still_gone old.gone new.gone r.gone;
  missing = omega (arith, r.sends);
  counted = r.counted;
}

pub takes_nothing : (buffer : List ℕ) (old new : Wire) → Receives recv.Failed buffer old new → Exchanges [] [] old new
takes_nothing buffer old new r = record {
  takes = same_arriving old.arriving new.arriving r.takes;
  quiet = none_quiet new.arriving;
  adds = still_gone old.gone new.gone r.gone;
  missing = omega (arith, r.sends);
  counted = r.counted;
}
