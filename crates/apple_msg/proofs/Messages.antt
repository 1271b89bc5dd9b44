-- What is read is what is spelled, and the others have the first fault.
use Rattle.std.proofs.Common.{◌≡◌, ◌≢◌, ℕ, ◌^◌, ◌<◌, ◌≤◌, Bool, true, false, cond, ltb, eqb, List, [], ◌∷◌, ◌++◌, length, get_or, take, drop, Ok, Err, refl, ap, ◌∙◌, arith, inl, inr, ◌⊎◌}
use Rattle.std.specs.Prelude.{MatchResult, All}
use Rattle.std.specs.List.{AllByRecursion, position_or_len, before_first, after_first}
use Rattle.std.specs.Int.{w32, from_be_bytes, to_be_bytes}
use Rattle.std.proofs.lemmas.Bool.{cases_lt, lt-ltb, le-ltb, eqb-true, eqb-false, ne_eqb}
use Rattle.std.proofs.lemmas.List.{take_at, length-append, length-take, length-drop, nil_from_length, get_or-take}
use Rattle.std.proofs.lemmas.List.Sums.{position_or_len_is, fails_before_first, passes_at_first, split_at_first}
use Rattle.std.proofs.lemmas.List.Elements.{recursion_from_All, All-from_get_or}
use Rattle.apple_msg.specs.declared.message.Invitation.{Invitation}
use Rattle.apple_msg.specs.declared.message.MsgFault.{MsgFault}
use Rattle.apple_msg.specs.declared.message.MsgFault.TheVariants.{Short, Version, NameNotEnded}
use Rattle.jm_wire.specs.Readers.{◌>>=◌}
use Rattle.apple_msg.specs.Reading.{number_at, is_end, header_at, name_at, invitation_at}
use Rattle.apple_msg.specs.Spelling.{header}
use Rattle.apple_msg.specs.Grammar.{AreOctets, NamesAs}
use Rattle.apple_msg.proofs.Fields.{match_bind, wide32, IsShort, TakesNumber, number_cases, number_again, number_long, number_short}

-- ---- version, token and SSRC

-- what stands behind_octets a version of 2
pub record TakesHeader (octets : List ℕ) (x : ℕ × ℕ × List ℕ) : Type 0 where
  pub token_fits : x.0 < 2 ^ 32
  pub ssrc_fits : x.1 < 2 ^ 32
  pub parts : octets ≡ header x.0 x.1 x.2
  pub enough : 12 ≤ length octets
  pub rest_octets : AreOctets x.2

pub record HasOther (octets : List ℕ) (f : MsgFault) : Type 0 where
  pub fault : f ≡ Version
  pub enough : 12 ≤ length octets
  pub other : from_be_bytes w32 (take 4 octets) ≢ 2

abbrev pub HeaderFails : List ℕ → MsgFault → Type 0
HeaderFails octets f = IsShort octets 12 f ⊎ HasOther octets f

version_tested : (octets : List ℕ) (version token ssrc : ℕ) (a b c : List ℕ) → TakesNumber w32 (2 ^ 32) octets (version, a) → TakesNumber w32 (2 ^ 32) a (token, b) → TakesNumber w32 (2 ^ 32) b (ssrc, c)
    → (t : Bool) → eqb version 2 ≡ t → MatchResult (cond t (Ok (token, ssrc, c)) (Err Version)) (TakesHeader octets) (HeaderFails octets)
version_tested octets version token ssrc a b c v t s true e = record {
  token_fits = t.fits;
  ssrc_fits = s.fits;
  parts = v.parts ∙ rw (eqb-true version 2 e, t.parts, s.parts) refl;
  enough = omega (arith, v.size, t.size, s.size);
  rest_octets = s.rest_octets;
}
version_tested octets version token ssrc a b c v t s false e = inr (record {
  fault = refl;
  enough = omega (arith, v.size, t.size, s.size);
  other = λ two. grind (arith, v.front, two, e);
})

pub header_cases : (octets : List ℕ) → AreOctets octets → MatchResult (header_at octets) (TakesHeader octets) (HeaderFails octets)
unfolding header_at
header_cases octets fits =
    match_bind (TakesNumber w32 (2 ^ 32) octets) (IsShort octets 4) (TakesHeader octets) (HeaderFails octets) (number_at w32 octets)
    (λ version. number_at w32 version.1 >>= λ token. number_at w32 token.1 >>= λ ssrc. cond (eqb version.0 2) (Ok (token.0, ssrc.0, ssrc.1)) (Err Version))
    (number_cases w32 (2 ^ 32) wide32 octets fits)
    (λ version v. match_bind (TakesNumber w32 (2 ^ 32) version.1) (IsShort version.1 4) (TakesHeader octets) (HeaderFails octets) (number_at w32 version.1)
    (λ token. number_at w32 token.1 >>= λ ssrc. cond (eqb version.0 2) (Ok (token.0, ssrc.0, ssrc.1)) (Err Version))
    (number_cases w32 (2 ^ 32) wide32 version.1 v.rest_octets)
    (λ token t. match_bind (TakesNumber w32 (2 ^ 32) token.1) (IsShort token.1 4) (TakesHeader octets) (HeaderFails octets) (number_at w32 token.1)
    (λ ssrc. cond (eqb version.0 2) (Ok (token.0, ssrc.0, ssrc.1)) (Err Version))
    (number_cases w32 (2 ^ 32) wide32 token.1 t.rest_octets)
    (λ ssrc s. version_tested octets version.0 token.0 ssrc.0 version.1 token.1 ssrc.1 v t s (eqb version.0 2) refl)
    (λ f short. inl (record { fault = short.fault; few = omega (arith, short.few, v.size, t.size) })))
    (λ f short. inl (record { fault = short.fault; few = omega (arith, short.few, v.size) })))
    (λ f short. inl (record { fault = short.fault; few = omega (arith, short.few) }))

pub header_again : (token ssrc : ℕ) (rest : List ℕ) → token < 2 ^ 32 → ssrc < 2 ^ 32 → header_at (header token ssrc rest) ≡ Ok (token, ssrc, rest)
unfolding header_at
header_again token ssrc rest token_fits ssrc_fits =
    rw (number_again w32 (2 ^ 32) wide32 2 (to_be_bytes w32 token ++ (to_be_bytes w32 ssrc ++ rest)) (omega arith), number_again w32 (2 ^ 32) wide32 token (to_be_bytes w32 ssrc ++ rest) token_fits, number_again w32 (2 ^ 32) wide32 ssrc rest ssrc_fits) refl

-- ---- names

position_of_end : (whole spare : List ℕ) → AllByRecursion (λ octet. octet ≢ 0) whole → position_or_len is_end (whole ++ (0 ∷ spare)) ≡ length whole
position_of_end [] spare h = refl
position_of_end (x ∷ xs) spare h =
    let not_end : eqb x 0 ≡ false = grind (arith, h.0) in
    rw (not_end, position_of_end xs spare h.1) (omega arith)

name_again-ended : (whole spare : List ℕ) → AllByRecursion (λ octet. octet ≢ 0) whole → name_at (whole ++ (0 ∷ spare)) ≡ Ok (take 63 whole)
unfolding name_at
name_again-ended whole spare h =
    let len = length-append whole (0 ∷ spare) in
    let some : eqb (length (whole ++ (0 ∷ spare))) 0 ≡ false = grind (arith, len) in
    let inside : ltb (length whole) (length (whole ++ (0 ∷ spare))) ≡ true = lt-ltb _ _ (omega (arith, len)) in
    rw (some, position_of_end whole spare h, inside, take_at whole (0 ∷ spare) (length whole) refl) refl

pub name_again : (octets name : List ℕ) → NamesAs octets name → name_at octets ≡ Ok name
unfolding name_at
name_again octets name (inl absent) = rw (absent.nothing, absent.empty) refl
name_again octets name (inr e) = rw (e.parts, e.kept) (name_again-ended e.whole e.spare (recursion_from_All (λ octet. octet ≢ 0) e.whole e.none_ends))

-- octets without an end
pub record HasNoEnd (octets : List ℕ) (f : MsgFault) : Type 0 where
  pub fault : f ≡ NameNotEnded
  pub some : 0 < length octets
  pub none_ends : All (λ octet. octet ≢ 0) octets

pub name_without_end : (octets : List ℕ) → 0 < length octets → All (λ octet. octet ≢ 0) octets → name_at octets ≡ Err NameNotEnded
unfolding name_at
name_without_end octets some none =
    let filled : eqb (length octets) 0 ≡ false = grind (arith, some) in
    let past : position_or_len is_end octets ≡ length octets = position_or_len_is is_end octets (length octets) 0 (omega arith) (λ k lt. ne_eqb (get_or octets k 0) 0 (none k 0 lt)) (λ lt. absurd (omega arith)) in
    let outside : ltb (length octets) (length octets) ≡ false = le-ltb _ _ (omega arith) in
    rw (filled, past, outside) refl

passes_no_end : (octets : List ℕ) (k d : ℕ) → k < position_or_len is_end octets → get_or octets k d ≢ 0
passes_no_end octets k d lt = eqb-false (get_or octets k d) 0 (fails_before_first is_end octets k d lt)

before_end : (octets : List ℕ) → position_or_len is_end octets < length octets → All (λ octet. octet ≢ 0) (take (position_or_len is_end octets) octets)
before_end octets inside =
    All-from_get_or (λ octet. octet ≢ 0) (take (position_or_len is_end octets) octets) 0
    (λ i lt. let below : i < position_or_len is_end octets = omega (arith, length-take (position_or_len is_end octets) octets) in
    rw (get_or-take (position_or_len is_end octets) octets i 0 below) (passes_no_end octets i 0 below))

pub name_cases : (octets : List ℕ) → MatchResult (name_at octets) (NamesAs octets) (HasNoEnd octets)
unfolding name_at
name_cases octets =
    elim (cases_lt 0 (length octets)) [
      | inr le ↦
          let none : length octets ≡ 0 = omega arith in
          rw none (inl (record { nothing = nil_from_length octets none; empty = refl }))
      | inl some ↦
          let filled : eqb (length octets) 0 ≡ false = grind (arith, some) in
          elim (cases_lt (position_or_len is_end octets) (length octets)) [
            | inl inside ↦ rw (filled, lt-ltb (position_or_len is_end octets) (length octets) inside) (inr (record {
              whole = take (position_or_len is_end octets) octets;
              spare = after_first is_end octets;
              none_ends = before_end octets inside;
              parts = split_at_first is_end octets 0 inside ∙ ap (λ (x : ℕ). before_first is_end octets ++ (x ∷ after_first is_end octets)) (eqb-true (get_or octets (position_or_len is_end octets) 0) 0 (passes_at_first is_end octets 0 inside));
              kept = refl;
            }))
            | inr outside ↦ rw (filled, le-ltb (position_or_len is_end octets) (length octets) outside) (record {
              fault = refl;
              some = some;
              none_ends = λ k d lt. passes_no_end octets k d (omega arith);
            })
          ]
    ]

-- ---- what an invitation and its answers carry

pub record TakesInvitation (octets : List ℕ) (i : Invitation) : Type 0 where
  pub token_fits : i.token < 2 ^ 32
  pub ssrc_fits : i.ssrc < 2 ^ 32
  pub rest : List ℕ
  pub parts : octets ≡ header i.token i.ssrc rest
  pub named : NamesAs rest i.name

pub record IsEndless (octets : List ℕ) (f : MsgFault) : Type 0 where
  pub fault : f ≡ NameNotEnded
  pub token : ℕ
  pub ssrc : ℕ
  pub name : List ℕ
  pub token_fits : token < 2 ^ 32
  pub ssrc_fits : ssrc < 2 ^ 32
  pub parts : octets ≡ header token ssrc name
  pub some : 0 < length name
  pub none_ends : All (λ octet. octet ≢ 0) name

abbrev pub InvitationFails : List ℕ → MsgFault → Type 0
InvitationFails octets f = HeaderFails octets f ⊎ IsEndless octets f

abbrev invitation_of : ℕ → ℕ → List ℕ → Invitation
invitation_of token ssrc name = record { token = token; ssrc = ssrc; name = name }

pub invitation_cases : (octets : List ℕ) → AreOctets octets → MatchResult (invitation_at octets) (TakesInvitation octets) (InvitationFails octets)
unfolding invitation_at
invitation_cases octets fits =
    match_bind (TakesHeader octets) (HeaderFails octets) (TakesInvitation octets) (InvitationFails octets) (header_at octets)
    (λ h. name_at h.2 >>= λ name. Ok (invitation_of h.0 h.1 name))
    (header_cases octets fits)
    (λ h t. match_bind (NamesAs h.2) (HasNoEnd h.2) (TakesInvitation octets) (InvitationFails octets) (name_at h.2)
    (λ name. Ok (invitation_of h.0 h.1 name))
    (name_cases h.2)
    (λ name named. record { token_fits = t.token_fits; ssrc_fits = t.ssrc_fits; rest = h.2; parts = t.parts; named = named })
    (λ f e. inr (record { fault = e.fault; token = h.0; ssrc = h.1; name = h.2; token_fits = t.token_fits; ssrc_fits = t.ssrc_fits; parts = t.parts; some = e.some; none_ends = e.none_ends })))
    (λ f e. inl e)

pub invitation_again : (token ssrc : ℕ) (rest name : List ℕ) → token < 2 ^ 32 → ssrc < 2 ^ 32 → NamesAs rest name → invitation_at (header token ssrc rest) ≡ Ok (invitation_of token ssrc name)
unfolding invitation_at
invitation_again token ssrc rest name token_fits ssrc_fits named = rw (header_again token ssrc rest token_fits ssrc_fits, name_again rest name named) refl

-- ---- faults of the fields

pub header_short : (octets : List ℕ) → length octets < 12 → header_at octets ≡ Err Short
unfolding header_at
header_short octets lt =
    elim (cases_lt (length octets) 4) [
      | inl less ↦ rw (number_short w32 octets less) refl
      | inr le ↦
          let second = length-drop 4 octets in
          rw (number_long w32 octets le) (elim (cases_lt (length (drop 4 octets)) 4) [
            | inl less ↦ rw (number_short w32 (drop 4 octets) less) refl
            | inr also ↦
                let third = length-drop 4 (drop 4 octets) in
                rw (number_long w32 (drop 4 octets) also, number_short w32 (drop 4 (drop 4 octets)) (omega arith)) refl
          ])
    ]

pub header_other : (octets : List ℕ) → 12 ≤ length octets → from_be_bytes w32 (take 4 octets) ≢ 2 → header_at octets ≡ Err Version
unfolding header_at
header_other octets le other =
    let second = length-drop 4 octets in
    let third = length-drop 4 (drop 4 octets) in
    let tested : eqb (from_be_bytes w32 (take 4 octets)) 2 ≡ false = ne_eqb (from_be_bytes w32 (take 4 octets)) 2 other in
    rw (number_long w32 octets (omega arith), number_long w32 (drop 4 octets) (omega arith), number_long w32 (drop 4 (drop 4 octets)) (omega arith), tested) refl

pub invitation_fails : (octets : List ℕ) (f : MsgFault) → header_at octets ≡ Err f → invitation_at octets ≡ Err f
unfolding invitation_at
invitation_fails octets f e = rw e refl

pub invitation_endless : (token ssrc : ℕ) (name : List ℕ) → token < 2 ^ 32 → ssrc < 2 ^ 32 → 0 < length name → All (λ octet. octet ≢ 0) name → invitation_at (header token ssrc name) ≡ Err NameNotEnded
unfolding invitation_at
invitation_endless token ssrc name token_fits ssrc_fits some none = rw (header_again token ssrc name token_fits ssrc_fits, name_without_end name some none) refl
