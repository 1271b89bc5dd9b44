-- What is read is what is spelled, and the other octets have the first fault.
use Rattle.std.proofs.Common.{◌≡◌, ◌≢◌, ℕ, suc, ◌^◌, ◌<◌, ◌≤◌, Bool, true, false, cond, eqb, List, [], ◌∷◌, ◌++◌, length, All, take, Option, Some, None, Result, Ok, Err, refl, sym, ap, subst, ◌∙◌, append_assoc, arith, inl, inr, ◌⊎◌}
use Rattle.std.specs.Prelude.{MatchResult, ◌&&◌, slice_index}
use Rattle.std.specs.Int.{w32, from_be_bytes}
use Rattle.std.proofs.lemmas.Bool.{eqb-true, eqb-false}
use Rattle.std.proofs.lemmas.List.{take_all}
use Rattle.apple_msg.specs.declared.message.Message.{Message}
use Rattle.apple_msg.specs.declared.message.Message.TheVariants.{Invite, Accept, Reject, Bye, Clock, Feedback, RateLimit}
use Rattle.apple_msg.specs.declared.message.Invitation.{Invitation}
use Rattle.apple_msg.specs.declared.message.Verb.{Verb}
use Rattle.apple_msg.specs.declared.message.Verb.TheVariants as verbs
use Rattle.apple_msg.specs.declared.message.MsgFault.{MsgFault}
use Rattle.apple_msg.specs.declared.message.MsgFault.TheVariants.{NotApple, UnknownVerb, Short, Version, NameNotEnded}
use Rattle.jm_wire.specs.Readers.{◌>>=◌}
use Rattle.apple_msg.specs.Reading.{behind_mark, verb_of, known, verb_at, invitation_at, bye_at, clock_at, feedback_at, read_as, read}
use Rattle.apple_msg.specs.Spelling.{marked, header, text, IsMessage, IsInvitation}
use Rattle.apple_msg.specs.Grammar.{AreOctets, Spells, SpellsInvitation, fixed, has_name, has_version, LacksMark, IsOf, IsFirstFault, MessagesReadBack, ReadsWhatIsSpelled, ReadsFirstFault}
use Rattle.apple_msg.proofs.Fields.{match_bind, IsShort}
use Rattle.apple_msg.proofs.Messages.{HeaderFails, TakesInvitation, InvitationFails, invitation_cases, invitation_again, header_short, header_other, invitation_fails, invitation_endless}
use Rattle.apple_msg.proofs.Fixed.{bye_cases, bye_again, bye_fails, feedback_cases, feedback_again, feedback_short, clock_cases, clock_again, clock_short}

-- ---- letters

-- two letters of a message, and what it is
pub record IsVerb (first second : ℕ) (verb : Verb) (a b : ℕ) (v : Verb) : Type 0 where
  pub first_is : first ≡ a
  pub second_is : second ≡ b
  pub verb_is : v ≡ verb

-- one line of the table: either these are its letters, or the lines below decide
line : (first second a b : ℕ) (v verb : Verb) (others : Option Verb) → cond (eqb first a && eqb second b) (Some v) others ≡ Some verb → IsVerb first second verb a b v ⊎ (others ≡ Some verb)
line first second a b v verb others e =
    elim (eqb first a) as (λ (x : Bool). eqb first a ≡ x → cond (x && eqb second b) (Some v) others ≡ Some verb → IsVerb first second verb a b v ⊎ (others ≡ Some verb)) [
      | false ↦ λ p h. inr h
      | true ↦ λ p. elim (eqb second b) as (λ (y : Bool). eqb second b ≡ y → cond y (Some v) others ≡ Some verb → IsVerb first second verb a b v ⊎ (others ≡ Some verb)) [
        | false ↦ λ q h. inr h
        | true ↦ λ q h. inl (record { first_is = eqb-true first a p; second_is = eqb-true second b q; verb_is = cc })
      ] refl
    ] refl e

abbrev first_letter : Verb → ℕ
first_letter verbs.Invite = 73
first_letter verbs.Accept = 79
first_letter verbs.Reject = 78
first_letter verbs.Bye = 66
first_letter verbs.Clock = 67
first_letter verbs.Feedback = 82
first_letter verbs.RateLimit = 82

abbrev second_letter : Verb → ℕ
second_letter verbs.Invite = 78
second_letter verbs.Accept = 75
second_letter verbs.Reject = 79
second_letter verbs.Bye = 89
second_letter verbs.Clock = 75
second_letter verbs.Feedback = 83
second_letter verbs.RateLimit = 76

-- the letters of a message
abbrev HasLetters : ℕ → ℕ → Verb → Type 0
HasLetters first second verb = (first ≡ first_letter verb) × (second ≡ second_letter verb)

lettered : (first second a b : ℕ) (v verb : Verb) → a ≡ first_letter v → b ≡ second_letter v → IsVerb first second verb a b v → HasLetters first second verb
lettered first second a b v verb p q h = subst (λ (x : Verb). HasLetters first second x) h.verb_is (h.first_is ∙ p, h.second_is ∙ q)

letters_of : (first second : ℕ) (verb : Verb) → verb_of first second ≡ Some verb → HasLetters first second verb
letters_of first second verb e =
    elim (line first second 73 78 verbs.Invite verb _ e) [
      | inl h ↦ lettered first second 73 78 verbs.Invite verb refl refl h
      | inr e ↦ elim (line first second 79 75 verbs.Accept verb _ e) [
        | inl h ↦ lettered first second 79 75 verbs.Accept verb refl refl h
        | inr e ↦ elim (line first second 78 79 verbs.Reject verb _ e) [
          | inl h ↦ lettered first second 78 79 verbs.Reject verb refl refl h
          | inr e ↦ elim (line first second 66 89 verbs.Bye verb _ e) [
            | inl h ↦ lettered first second 66 89 verbs.Bye verb refl refl h
            | inr e ↦ elim (line first second 67 75 verbs.Clock verb _ e) [
              | inl h ↦ lettered first second 67 75 verbs.Clock verb refl refl h
              | inr e ↦ elim (line first second 82 83 verbs.Feedback verb _ e) [
                | inl h ↦ lettered first second 82 83 verbs.Feedback verb refl refl h
                | inr e ↦ elim (line first second 82 76 verbs.RateLimit verb _ e) [
                  | inl h ↦ lettered first second 82 76 verbs.RateLimit verb refl refl h
                  | inr e ↦ absurd cc
                ]
              ]
            ]
          ]
        ]
      ]
    ]

-- the octets behind_octets letters that are known
behind_letters : (octets rest : List ℕ) (verb : Verb) → IsOf octets verb rest → octets ≡ marked (first_letter verb) (second_letter verb) rest
behind_letters octets rest verb of =
    let l = letters_of of.first of.second verb of.known in
    of.parts ∙ rw (l.0, l.1) refl

-- ---- faults of a message whose letters are known

short_fields : (octets rest : List ℕ) (verb : Verb) (f : MsgFault) → IsOf octets verb rest → IsShort rest (fixed verb) f → IsFirstFault octets f
short_fields octets rest verb f of short =
    rw short.fault (inr (record { verb = verb; rest = rest; of = of; few = short.few }))

header_fields : (octets rest : List ℕ) (verb : Verb) (f : MsgFault) → IsOf octets verb rest → fixed verb ≡ 12 → has_version verb ≡ true → HeaderFails rest f → IsFirstFault octets f
header_fields octets rest verb f of size versioned (inl short) =
    rw short.fault (inr (record { verb = verb; rest = rest; of = of; few = rw size short.few }))
header_fields octets rest verb f of size versioned (inr h) =
    rw h.fault (record { verb = verb; rest = rest; of = of; versioned = versioned; enough = rw size h.enough; other = h.other })

invitation_fields : (octets rest : List ℕ) (verb : Verb) (f : MsgFault) → IsOf octets verb rest → fixed verb ≡ 12 → has_version verb ≡ true → has_name verb ≡ true → InvitationFails rest f → IsFirstFault octets f
invitation_fields octets rest verb f of size versioned named (inl h) = header_fields octets rest verb f of size versioned h
invitation_fields octets rest verb f of size versioned named (inr h) =
    rw h.fault (record {
      verb = verb;
      token = h.token;
      ssrc = h.ssrc;
      name = h.name;
      of = subst (λ (x : List ℕ). IsOf octets verb x) h.parts of;
      named = named;
      token_fits = h.token_fits;
      ssrc_fits = h.ssrc_fits;
      some = h.some;
      none_ends = h.none_ends;
    })

spelled : (octets rest : List ℕ) (a b : ℕ) (i : Invitation) → octets ≡ marked a b rest → TakesInvitation rest i → SpellsInvitation a b octets i.token i.ssrc i.name
spelled octets rest a b i of t = record { token_fits = t.token_fits; ssrc_fits = t.ssrc_fits; rest = t.rest; parts = of ∙ ap (marked a b) t.parts; named = t.named }

-- the same with a weaker cause
match_weaker : {octets : List ℕ} (r : Result Message MsgFault) (E : MsgFault → Type 0) → MatchResult r (Spells octets) E → ((f : MsgFault) → E f → IsFirstFault octets f) → MatchResult r (Spells octets) (IsFirstFault octets)
match_weaker (Ok m) E h weaker = h
match_weaker (Err f) E h weaker = weaker f h

as_cases : (verb : Verb) (octets rest : List ℕ) → IsOf octets verb rest → AreOctets rest → MatchResult (read_as verb rest) (Spells octets) (IsFirstFault octets)
as_cases verbs.Invite octets rest of fits =
    match_bind (TakesInvitation rest) (InvitationFails rest) (Spells octets) (IsFirstFault octets) (invitation_at rest) (λ i. Ok (Invite i.token i.ssrc i.name))
    (invitation_cases rest fits) (λ i t. spelled octets rest 73 78 i (behind_letters octets rest verbs.Invite of) t) (λ f h. invitation_fields octets rest verbs.Invite f of refl refl refl h)
as_cases verbs.Accept octets rest of fits =
    match_bind (TakesInvitation rest) (InvitationFails rest) (Spells octets) (IsFirstFault octets) (invitation_at rest) (λ i. Ok (Accept i.token i.ssrc i.name))
    (invitation_cases rest fits) (λ i t. spelled octets rest 79 75 i (behind_letters octets rest verbs.Accept of) t) (λ f h. invitation_fields octets rest verbs.Accept f of refl refl refl h)
as_cases verbs.Reject octets rest of fits =
    match_bind (TakesInvitation rest) (InvitationFails rest) (Spells octets) (IsFirstFault octets) (invitation_at rest) (λ i. Ok (Reject i.token i.ssrc i.name))
    (invitation_cases rest fits) (λ i t. spelled octets rest 78 79 i (behind_letters octets rest verbs.Reject of) t) (λ f h. invitation_fields octets rest verbs.Reject f of refl refl refl h)
as_cases verbs.Bye octets rest of fits =
    match_weaker (bye_at rest) (HeaderFails rest) (bye_cases octets rest (behind_letters octets rest verbs.Bye of) fits) (λ f h. header_fields octets rest verbs.Bye f of refl refl h)
as_cases verbs.Clock octets rest of fits =
    match_weaker (clock_at rest) (IsShort rest 32) (clock_cases octets rest (behind_letters octets rest verbs.Clock of) fits) (λ f h. short_fields octets rest verbs.Clock f of h)
as_cases verbs.Feedback octets rest of fits =
    match_weaker (feedback_at rest) (IsShort rest 8) (feedback_cases octets rest (behind_letters octets rest verbs.Feedback of) fits) (λ f h. short_fields octets rest verbs.Feedback f of h)
as_cases verbs.RateLimit octets rest of fits = record { spare = rest; parts = behind_letters octets rest verbs.RateLimit of }

-- ---- FF FF, and the letters

mark_cases : (octets : List ℕ) → MatchResult (behind_mark octets) (λ rest. octets ≡ 255 ∷ 255 ∷ rest) (λ f. (f ≡ NotApple) × LacksMark octets)
mark_cases [] = (refl, record { unmarked = λ rest e. absurd cc })
mark_cases (a ∷ []) = (refl, record { unmarked = λ rest e. absurd cc })
mark_cases (a ∷ b ∷ rest) =
    elim (eqb a 255) as (λ (x : Bool). eqb a 255 ≡ x → MatchResult (cond (x && eqb b 255) (Ok rest) (Err NotApple)) (λ after. a ∷ b ∷ rest ≡ 255 ∷ 255 ∷ after) (λ f. (f ≡ NotApple) × LacksMark (a ∷ b ∷ rest))) [
      | false ↦ λ p. (refl, record { unmarked = λ after e. eqb-false a 255 p cc })
      | true ↦ λ p. elim (eqb b 255) as (λ (y : Bool). eqb b 255 ≡ y → MatchResult (cond y (Ok rest) (Err NotApple)) (λ after. a ∷ b ∷ rest ≡ 255 ∷ 255 ∷ after) (λ f. (f ≡ NotApple) × LacksMark (a ∷ b ∷ rest))) [
        | false ↦ λ q. (refl, record { unmarked = λ after e. eqb-false b 255 q cc })
        | true ↦ λ q. rw (eqb-true a 255 p, eqb-true b 255 q) refl
      ] refl
    ] refl

-- two letters of a message, and the octets behind_octets them
record TakesVerb (octets : List ℕ) (x : Verb × List ℕ) : Type 0 where
  first : ℕ
  second : ℕ
  parts : octets ≡ first ∷ second ∷ x.1
  known_as : verb_of first second ≡ Some x.0

record IsUnknown (octets : List ℕ) (f : MsgFault) : Type 0 where
  fault : f ≡ UnknownVerb
  first : ℕ
  second : ℕ
  rest : List ℕ
  parts : octets ≡ first ∷ second ∷ rest
  unknown : verb_of first second ≡ None

verb_cases : (octets : List ℕ) → MatchResult (verb_at octets) (TakesVerb octets) (λ f. IsShort octets 2 f ⊎ IsUnknown octets f)
verb_cases [] = inl (record { fault = refl; few = omega arith })
verb_cases (a ∷ []) = inl (record { fault = refl; few = omega arith })
verb_cases (a ∷ b ∷ rest) =
    elim (verb_of a b) as (λ (o : Option Verb). verb_of a b ≡ o → MatchResult (known o rest) (TakesVerb (a ∷ b ∷ rest)) (λ f. IsShort (a ∷ b ∷ rest) 2 f ⊎ IsUnknown (a ∷ b ∷ rest) f)) [
      | None ↦ λ e. inr (record { fault = refl; first = a; second = b; rest = rest; parts = refl; unknown = e })
      | Some verb ↦ λ e. record { first = a; second = b; parts = refl; known_as = e }
    ] refl

verb_faults : (octets rest : List ℕ) (f : MsgFault) → octets ≡ 255 ∷ 255 ∷ rest → IsShort rest 2 f ⊎ IsUnknown rest f → IsFirstFault octets f
verb_faults octets rest f e (inl short) = rw short.fault (inl (record { rest = rest; parts = e; few = short.few }))
verb_faults octets rest f e (inr u) = rw u.fault (record { first = u.first; second = u.second; rest = u.rest; parts = e ∙ ap (λ (x : List ℕ). 255 ∷ 255 ∷ x) u.parts; unknown = u.unknown })

-- ---- the whole

pub read_cases : (octets : List ℕ) → AreOctets octets → MatchResult (read octets) (Spells octets) (IsFirstFault octets)
unfolding read
read_cases octets fits =
    match_bind (λ (rest : List ℕ). octets ≡ 255 ∷ 255 ∷ rest) (λ f. (f ≡ NotApple) × LacksMark octets) (Spells octets) (IsFirstFault octets) (behind_mark octets)
    (λ rest. verb_at rest >>= λ verb. read_as verb.0 verb.1)
    (mark_cases octets)
    (λ rest e. match_bind (TakesVerb rest) (λ f. IsShort rest 2 f ⊎ IsUnknown rest f) (Spells octets) (IsFirstFault octets) (verb_at rest)
    (λ verb. read_as verb.0 verb.1)
    (verb_cases rest)
    (λ verb t.
    let parts : octets ≡ marked t.first t.second verb.1 = e ∙ ap (λ (x : List ℕ). 255 ∷ 255 ∷ x) t.parts in
    as_cases verb.0 octets verb.1 (record { first = t.first; second = t.second; parts = parts; known = t.known_as })
    (λ k. subst (λ (x : List ℕ). slice_index x (suc (suc (suc (suc k)))) < 256) parts (fits (suc (suc (suc (suc k)))))))
    (λ f h. verb_faults octets rest f e h))
    (λ f h. rw h.0 h.1)

-- ---- what is spelled is read

pub read_spelled : (octets : List ℕ) (m : Message) → Spells octets m → read octets ≡ Ok m
unfolding read
read_spelled octets (Invite token ssrc name) h = rw (h.parts, invitation_again token ssrc h.rest name h.token_fits h.ssrc_fits h.named) refl
read_spelled octets (Accept token ssrc name) h = rw (h.parts, invitation_again token ssrc h.rest name h.token_fits h.ssrc_fits h.named) refl
read_spelled octets (Reject token ssrc name) h = rw (h.parts, invitation_again token ssrc h.rest name h.token_fits h.ssrc_fits h.named) refl
read_spelled octets (Bye token ssrc) h = rw (h.parts, bye_again token ssrc h.spare h.token_fits h.ssrc_fits) refl
read_spelled octets (Clock ssrc count times) h =
    rw (h.parts, h.times_are, clock_again ssrc count h.ignored h.first h.second h.third h.spare h.ssrc_fits h.three h.first_fits h.second_fits h.third_fits) refl
read_spelled octets (Feedback ssrc seq) h = rw (h.parts, feedback_again ssrc seq h.spare h.ssrc_fits h.seq_fits h.two) refl
read_spelled octets RateLimit h = rw h.parts refl

-- ---- the first fault is answered

no_mark : (octets : List ℕ) → LacksMark octets → behind_mark octets ≡ Err NotApple
no_mark octets h =
    elim (behind_mark octets) as (λ (r : Result (List ℕ) MsgFault). MatchResult r (λ rest. octets ≡ 255 ∷ 255 ∷ rest) (λ f. (f ≡ NotApple) × LacksMark octets) → r ≡ Err NotApple) [
      | Ok rest ↦ λ e. absurd (h.unmarked rest e)
      | Err f ↦ λ e. rw e.0 refl
    ] (mark_cases octets)

few_letters : (rest : List ℕ) → length rest < 2 → verb_at rest ≡ Err Short
few_letters [] lt = refl
few_letters (a ∷ []) lt = refl
few_letters (a ∷ b ∷ rest) lt = absurd (omega arith)

read_known : (octets rest : List ℕ) (verb : Verb) → IsOf octets verb rest → read octets ≡ read_as verb rest
unfolding read
read_known octets rest verb of = rw (of.parts, of.known) refl

few_fields : (verb : Verb) (rest : List ℕ) → length rest < fixed verb → read_as verb rest ≡ Err Short
few_fields verbs.Invite rest lt = rw (invitation_fails rest Short (header_short rest lt)) refl
few_fields verbs.Accept rest lt = rw (invitation_fails rest Short (header_short rest lt)) refl
few_fields verbs.Reject rest lt = rw (invitation_fails rest Short (header_short rest lt)) refl
few_fields verbs.Bye rest lt = bye_fails rest Short (header_short rest lt)
few_fields verbs.Clock rest lt = clock_short rest lt
few_fields verbs.Feedback rest lt = feedback_short rest lt
few_fields verbs.RateLimit rest lt = absurd (omega arith)

other_version : (verb : Verb) (rest : List ℕ) → has_version verb ≡ true → fixed verb ≤ length rest → from_be_bytes w32 (take 4 rest) ≢ 2 → read_as verb rest ≡ Err Version
other_version verbs.Invite rest versioned le other = rw (invitation_fails rest Version (header_other rest le other)) refl
other_version verbs.Accept rest versioned le other = rw (invitation_fails rest Version (header_other rest le other)) refl
other_version verbs.Reject rest versioned le other = rw (invitation_fails rest Version (header_other rest le other)) refl
other_version verbs.Bye rest versioned le other = bye_fails rest Version (header_other rest le other)
other_version verbs.Clock rest versioned le other = absurd cc
other_version verbs.Feedback rest versioned le other = absurd cc
other_version verbs.RateLimit rest versioned le other = absurd cc

no_name_end : (verb : Verb) (token ssrc : ℕ) (name : List ℕ) → has_name verb ≡ true → token < 2 ^ 32 → ssrc < 2 ^ 32 → 0 < length name → All (λ octet. octet ≢ 0) name → read_as verb (header token ssrc name) ≡ Err NameNotEnded
no_name_end verbs.Invite token ssrc name named token_fits ssrc_fits some none = rw (invitation_endless token ssrc name token_fits ssrc_fits some none) refl
no_name_end verbs.Accept token ssrc name named token_fits ssrc_fits some none = rw (invitation_endless token ssrc name token_fits ssrc_fits some none) refl
no_name_end verbs.Reject token ssrc name named token_fits ssrc_fits some none = rw (invitation_endless token ssrc name token_fits ssrc_fits some none) refl
no_name_end verbs.Bye token ssrc name named token_fits ssrc_fits some none = absurd cc
no_name_end verbs.Clock token ssrc name named token_fits ssrc_fits some none = absurd cc
no_name_end verbs.Feedback token ssrc name named token_fits ssrc_fits some none = absurd cc
no_name_end verbs.RateLimit token ssrc name named token_fits ssrc_fits some none = absurd cc

pub read_faulty : (octets : List ℕ) (f : MsgFault) → IsFirstFault octets f → read octets ≡ Err f
unfolding read
read_faulty octets NotApple h = rw (no_mark octets h) refl
read_faulty octets UnknownVerb h = rw (h.parts, h.unknown) refl
read_faulty octets Short (inl h) = rw (h.parts, few_letters h.rest h.few) refl
read_faulty octets Short (inr h) = read_known octets h.rest h.verb h.of ∙ few_fields h.verb h.rest h.few
read_faulty octets Version h = read_known octets h.rest h.verb h.of ∙ other_version h.verb h.rest h.versioned h.enough h.other
read_faulty octets NameNotEnded h = read_known octets (header h.token h.ssrc h.name) h.verb h.of ∙ no_name_end h.verb h.token h.ssrc h.name h.named h.token_fits h.ssrc_fits h.some h.none_ends

-- ---- the laws

pub reads_what_is_spelled : ReadsWhatIsSpelled
reads_what_is_spelled octets m fits =
    (λ e. subst (λ (r : Result Message MsgFault). MatchResult r (Spells octets) (IsFirstFault octets)) e (read_cases octets fits), read_spelled octets m)

pub reads_first_fault : ReadsFirstFault
reads_first_fault octets f fits =
    (λ e. subst (λ (r : Result Message MsgFault). MatchResult r (Spells octets) (IsFirstFault octets)) e (read_cases octets fits), read_faulty octets f)

written_invitation : (a b token ssrc : ℕ) (name spare : List ℕ) → IsInvitation token ssrc name → SpellsInvitation a b (marked a b (header token ssrc (name ++ 0 ∷ [])) ++ spare) token ssrc name
written_invitation a b token ssrc name spare h = record {
  token_fits = h.token_fits;
  ssrc_fits = h.ssrc_fits;
  rest = name ++ (0 ∷ spare);
  parts = ap (λ (x : List ℕ). marked a b (header token ssrc x)) (append_assoc name (0 ∷ []) spare);
  named = inr (record { whole = name; spare = spare; none_ends = h.is_name.none_ends; parts = refl; kept = sym (take_all 63 name h.is_name.few) });
}

three_of : (xs : List ℕ) → length xs ≡ 3 → xs ≡ slice_index xs 0 ∷ slice_index xs 1 ∷ slice_index xs 2 ∷ []
three_of [] e = absurd (omega arith)
three_of (a ∷ []) e = absurd (omega arith)
three_of (a ∷ b ∷ []) e = absurd (omega arith)
three_of (a ∷ b ∷ c ∷ []) e = refl
three_of (a ∷ b ∷ c ∷ d ∷ rest) e = absurd (omega arith)

written_spells : (m : Message) (spare : List ℕ) → IsMessage m → Spells (text m ++ spare) m
written_spells (Invite token ssrc name) spare h = written_invitation 73 78 token ssrc name spare h
written_spells (Accept token ssrc name) spare h = written_invitation 79 75 token ssrc name spare h
written_spells (Reject token ssrc name) spare h = written_invitation 78 79 token ssrc name spare h
written_spells (Bye token ssrc) spare h = record { token_fits = h.token_fits; ssrc_fits = h.ssrc_fits; spare = spare; parts = refl }
written_spells (Clock ssrc count times) spare h = record {
  ssrc_fits = h.ssrc_fits;
  first = slice_index times 0;
  second = slice_index times 1;
  third = slice_index times 2;
  first_fits = h.times_fit 0;
  second_fits = h.times_fit 1;
  third_fits = h.times_fit 2;
  times_are = three_of times h.three;
  ignored = 0 ∷ 0 ∷ 0 ∷ [];
  three = refl;
  spare = spare;
  parts = refl;
}
written_spells (Feedback ssrc seq) spare h = record { ssrc_fits = h.ssrc_fits; seq_fits = h.seq_fits; spare = 0 ∷ 0 ∷ spare; two = omega arith; parts = refl }
written_spells RateLimit spare h = record { spare = spare; parts = refl }

pub messages_read_back : MessagesReadBack
messages_read_back m spare h = read_spelled (text m ++ spare) m (written_spells m spare h)
