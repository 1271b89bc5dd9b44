-- The messages of a fixed size: byes, clocks and feedback.
use Rattle.std.proofs.Common.{◌≡◌, ℕ, ◌+◌, ◌^◌, ◌<◌, ◌≤◌, List, [], ◌∷◌, ◌++◌, length, take, drop, Ok, Err, refl, ap, ◌∙◌, arith, inl, inr}
use Rattle.std.specs.Prelude.{MatchResult}
use Rattle.std.specs.Int.{w16, w32, w64, from_be_bytes, to_be_bytes}
use Rattle.std.proofs.lemmas.Bool.{cases_lt}
use Rattle.std.proofs.lemmas.List.{length-drop, length-append}
use Rattle.apple_msg.specs.declared.message.Message.TheVariants.{Bye, Clock, Feedback}
use Rattle.apple_msg.specs.declared.message.MsgFault.{MsgFault}
use Rattle.apple_msg.specs.declared.message.MsgFault.TheVariants.{Short}
use Rattle.jm_wire.specs.Readers.{◌>>=◌}
use Rattle.apple_msg.specs.Reading.{number_at, octet_at, behind_octets, header_at, bye_at, clock_at, feedback_at}
use Rattle.apple_msg.specs.Spelling.{marked, header}
use Rattle.apple_msg.specs.Grammar.{AreOctets, Spells}
use Rattle.apple_msg.proofs.Fields.{match_bind, wide16, wide32, wide64, IsShort, TakesNumber, number_cases, number_again, number_long, number_short, Skips, behind_cases, behind_again, behind_short, behind_long, octet_cases}
use Rattle.apple_msg.proofs.Messages.{TakesHeader, HeaderFails, header_cases, header_again}

-- ---- byes

pub bye_cases : (octets rest : List ℕ) → octets ≡ marked 66 89 rest → AreOctets rest → MatchResult (bye_at rest) (Spells octets) (HeaderFails rest)
unfolding bye_at
bye_cases octets rest of fits =
    match_bind (TakesHeader rest) (HeaderFails rest) (Spells octets) (HeaderFails rest) (header_at rest)
    (λ h. Ok (Bye h.0 h.1))
    (header_cases rest fits)
    (λ h t. record { token_fits = t.token_fits; ssrc_fits = t.ssrc_fits; spare = h.2; parts = of ∙ ap (marked 66 89) t.parts })
    (λ f e. e)

pub bye_again : (token ssrc : ℕ) (spare : List ℕ) → token < 2 ^ 32 → ssrc < 2 ^ 32 → bye_at (header token ssrc spare) ≡ Ok (Bye token ssrc)
unfolding bye_at
bye_again token ssrc spare token_fits ssrc_fits = rw (header_again token ssrc spare token_fits ssrc_fits) refl

pub bye_fails : (octets : List ℕ) (f : MsgFault) → header_at octets ≡ Err f → bye_at octets ≡ Err f
unfolding bye_at
bye_fails octets f e = rw e refl

-- ---- feedback

pub feedback_cases : (octets rest : List ℕ) → octets ≡ marked 82 83 rest → AreOctets rest → MatchResult (feedback_at rest) (Spells octets) (IsShort rest 8)
unfolding feedback_at
feedback_cases octets rest of fits =
    match_bind (TakesNumber w32 (2 ^ 32) rest) (IsShort rest 4) (Spells octets) (IsShort rest 8) (number_at w32 rest)
    (λ ssrc. number_at w16 ssrc.1 >>= λ seq. behind_octets 2 seq.1 >>= λ spare. Ok (Feedback ssrc.0 seq.0))
    (number_cases w32 (2 ^ 32) wide32 rest fits)
    (λ ssrc s. match_bind (TakesNumber w16 (2 ^ 16) ssrc.1) (IsShort ssrc.1 2) (Spells octets) (IsShort rest 8) (number_at w16 ssrc.1)
    (λ seq. behind_octets 2 seq.1 >>= λ spare. Ok (Feedback ssrc.0 seq.0))
    (number_cases w16 (2 ^ 16) wide16 ssrc.1 s.rest_octets)
    (λ seq q. match_bind (Skips 2 seq.1) (IsShort seq.1 2) (Spells octets) (IsShort rest 8) (behind_octets 2 seq.1)
    (λ spare. Ok (Feedback ssrc.0 seq.0))
    (behind_cases 2 seq.1 q.rest_octets)
    (λ spare k. record {
      ssrc_fits = s.fits;
      seq_fits = q.fits;
      spare = seq.1;
      two = omega (arith, ap length k.parts, length-append k.ignored spare, k.counted);
      parts = of ∙ ap (marked 82 83) (s.parts ∙ ap (λ (t : List ℕ). to_be_bytes w32 ssrc.0 ++ t) q.parts);
    })
    (λ f short. record { fault = short.fault; few = omega (arith, short.few, s.size, q.size) }))
    (λ f short. record { fault = short.fault; few = omega (arith, short.few, s.size) }))
    (λ f short. record { fault = short.fault; few = omega (arith, short.few) })

pub feedback_again : (ssrc seq : ℕ) (spare : List ℕ) → ssrc < 2 ^ 32 → seq < 2 ^ 16 → 2 ≤ length spare → feedback_at (to_be_bytes w32 ssrc ++ (to_be_bytes w16 seq ++ spare)) ≡ Ok (Feedback ssrc seq)
unfolding feedback_at
feedback_again ssrc seq spare ssrc_fits seq_fits two =
    rw (number_again w32 (2 ^ 32) wide32 ssrc (to_be_bytes w16 seq ++ spare) ssrc_fits, number_again w16 (2 ^ 16) wide16 seq spare seq_fits, behind_long 2 spare two) refl

pub feedback_short : (octets : List ℕ) → length octets < 8 → feedback_at octets ≡ Err Short
unfolding feedback_at
feedback_short octets lt =
    elim (cases_lt (length octets) 4) [
      | inl less ↦ rw (number_short w32 octets less) refl
      | inr le ↦
          let second = length-drop 4 octets in
          rw (number_long w32 octets le) (elim (cases_lt (length (drop 4 octets)) 2) [
            | inl less ↦ rw (number_short w16 (drop 4 octets) less) refl
            | inr also ↦
                let third = length-drop 2 (drop 4 octets) in
                rw (number_long w16 (drop 4 octets) also, behind_short 2 (drop 2 (drop 4 octets)) (omega arith)) refl
          ])
    ]

-- ---- clocks

-- the octets of a clock behind_octets its letters
abbrev clock_fields : ℕ → ℕ → List ℕ → ℕ → ℕ → ℕ → List ℕ → List ℕ
clock_fields ssrc count ignored first second third spare =
    to_be_bytes w32 ssrc ++ (count ∷ (ignored ++ (to_be_bytes w64 first ++ (to_be_bytes w64 second ++ (to_be_bytes w64 third ++ spare)))))

pub clock_cases : (octets rest : List ℕ) → octets ≡ marked 67 75 rest → AreOctets rest → MatchResult (clock_at rest) (Spells octets) (IsShort rest 32)
unfolding clock_at
clock_cases octets rest of fits =
    match_bind (TakesNumber w32 (2 ^ 32) rest) (IsShort rest 4) (Spells octets) (IsShort rest 32) (number_at w32 rest)
    (λ ssrc. octet_at ssrc.1 >>= λ count. behind_octets 3 count.1 >>= λ after. number_at w64 after >>= λ first. number_at w64 first.1 >>= λ second. number_at w64 second.1 >>= λ third. Ok (Clock ssrc.0 count.0 (first.0 ∷ second.0 ∷ third.0 ∷ [])))
    (number_cases w32 (2 ^ 32) wide32 rest fits)
    (λ ssrc s. match_bind (λ (x : ℕ × List ℕ). (ssrc.1 ≡ x.0 ∷ x.1) × AreOctets x.1) (IsShort ssrc.1 1) (Spells octets) (IsShort rest 32) (octet_at ssrc.1)
    (λ count. behind_octets 3 count.1 >>= λ after. number_at w64 after >>= λ first. number_at w64 first.1 >>= λ second. number_at w64 second.1 >>= λ third. Ok (Clock ssrc.0 count.0 (first.0 ∷ second.0 ∷ third.0 ∷ [])))
    (octet_cases ssrc.1 s.rest_octets)
    (λ count n.
    let sized : length ssrc.1 ≡ 1 + length count.1 = omega (arith, ap length n.0) in
    match_bind (Skips 3 count.1) (IsShort count.1 3) (Spells octets) (IsShort rest 32) (behind_octets 3 count.1)
    (λ after. number_at w64 after >>= λ first. number_at w64 first.1 >>= λ second. number_at w64 second.1 >>= λ third. Ok (Clock ssrc.0 count.0 (first.0 ∷ second.0 ∷ third.0 ∷ [])))
    (behind_cases 3 count.1 n.1)
    (λ after k.
    let skipped : length count.1 ≡ 3 + length after = omega (arith, ap length k.parts, length-append k.ignored after, k.counted) in
    match_bind (TakesNumber w64 (2 ^ 64) after) (IsShort after 8) (Spells octets) (IsShort rest 32) (number_at w64 after)
    (λ first. number_at w64 first.1 >>= λ second. number_at w64 second.1 >>= λ third. Ok (Clock ssrc.0 count.0 (first.0 ∷ second.0 ∷ third.0 ∷ [])))
    (number_cases w64 (2 ^ 64) wide64 after k.rest_octets)
    (λ first a. match_bind (TakesNumber w64 (2 ^ 64) first.1) (IsShort first.1 8) (Spells octets) (IsShort rest 32) (number_at w64 first.1)
    (λ second. number_at w64 second.1 >>= λ third. Ok (Clock ssrc.0 count.0 (first.0 ∷ second.0 ∷ third.0 ∷ [])))
    (number_cases w64 (2 ^ 64) wide64 first.1 a.rest_octets)
    (λ second b. match_bind (TakesNumber w64 (2 ^ 64) second.1) (IsShort second.1 8) (Spells octets) (IsShort rest 32) (number_at w64 second.1)
    (λ third. Ok (Clock ssrc.0 count.0 (first.0 ∷ second.0 ∷ third.0 ∷ [])))
    (number_cases w64 (2 ^ 64) wide64 second.1 b.rest_octets)
    (λ third c. record {
      ssrc_fits = s.fits;
      first = first.0;
      second = second.0;
      third = third.0;
      first_fits = a.fits;
      second_fits = b.fits;
      third_fits = c.fits;
      times_are = refl;
      ignored = k.ignored;
      three = k.counted;
      spare = third.1;
      parts = of ∙ ap (marked 67 75) (s.parts ∙ ap (λ (t : List ℕ). to_be_bytes w32 ssrc.0 ++ t) (n.0 ∙ ap (λ (t : List ℕ). count.0 ∷ t) (k.parts ∙ ap (λ (t : List ℕ). k.ignored ++ t) (a.parts ∙ ap (λ (t : List ℕ). to_be_bytes w64 first.0 ++ t) (b.parts ∙ ap (λ (t : List ℕ). to_be_bytes w64 second.0 ++ t) c.parts)))));
    })
    (λ f short. record { fault = short.fault; few = omega (arith, short.few, s.size, sized, skipped, a.size, b.size) }))
    (λ f short. record { fault = short.fault; few = omega (arith, short.few, s.size, sized, skipped, a.size) }))
    (λ f short. record { fault = short.fault; few = omega (arith, short.few, s.size, sized, skipped) }))
    (λ f short. record { fault = short.fault; few = omega (arith, short.few, s.size, sized) }))
    (λ f short. record { fault = short.fault; few = omega (arith, short.few, s.size) }))
    (λ f short. record { fault = short.fault; few = omega (arith, short.few) })

pub clock_again : (ssrc count : ℕ) (ignored : List ℕ) (first second third : ℕ) (spare : List ℕ) → ssrc < 2 ^ 32 → length ignored ≡ 3 → first < 2 ^ 64 → second < 2 ^ 64 → third < 2 ^ 64
    → clock_at (clock_fields ssrc count ignored first second third spare) ≡ Ok (Clock ssrc count (first ∷ second ∷ third ∷ []))
unfolding clock_at
clock_again ssrc count ignored first second third spare ssrc_fits three first_fits second_fits third_fits =
    rw (number_again w32 (2 ^ 32) wide32 ssrc (count ∷ (ignored ++ (to_be_bytes w64 first ++ (to_be_bytes w64 second ++ (to_be_bytes w64 third ++ spare))))) ssrc_fits, behind_again ignored (to_be_bytes w64 first ++ (to_be_bytes w64 second ++ (to_be_bytes w64 third ++ spare))) 3 three, number_again w64 (2 ^ 64) wide64 first (to_be_bytes w64 second ++ (to_be_bytes w64 third ++ spare)) first_fits, number_again w64 (2 ^ 64) wide64 second (to_be_bytes w64 third ++ spare) second_fits, number_again w64 (2 ^ 64) wide64 third spare third_fits) refl

-- the times that end too early
times_short : (ssrc count : ℕ) (octets : List ℕ) → length octets < 24
    → (number_at w64 octets >>= λ first. number_at w64 first.1 >>= λ second. number_at w64 second.1 >>= λ third. Ok (Clock ssrc count (first.0 ∷ second.0 ∷ third.0 ∷ []))) ≡ Err Short
times_short ssrc count octets lt =
    elim (cases_lt (length octets) 8) [
      | inl less ↦ rw (number_short w64 octets less) refl
      | inr le ↦
          let second = length-drop 8 octets in
          rw (number_long w64 octets le) (elim (cases_lt (length (drop 8 octets)) 8) [
            | inl less ↦ rw (number_short w64 (drop 8 octets) less) refl
            | inr also ↦
                let third = length-drop 8 (drop 8 octets) in
                rw (number_long w64 (drop 8 octets) also, number_short w64 (drop 8 (drop 8 octets)) (omega arith)) refl
          ])
    ]

count_short : (ssrc : ℕ) (octets : List ℕ) → length octets < 28
    → (octet_at octets >>= λ count. behind_octets 3 count.1 >>= λ after. number_at w64 after >>= λ first. number_at w64 first.1 >>= λ second. number_at w64 second.1 >>= λ third. Ok (Clock ssrc count.0 (first.0 ∷ second.0 ∷ third.0 ∷ []))) ≡ Err Short
count_short ssrc [] lt = refl
count_short ssrc (count ∷ octets) lt =
    elim (cases_lt (length octets) 3) [
      | inl less ↦ rw (behind_short 3 octets less) refl
      | inr le ↦ rw (behind_long 3 octets le) (times_short ssrc count (drop 3 octets) (omega (arith, length-drop 3 octets)))
    ]

pub clock_short : (octets : List ℕ) → length octets < 32 → clock_at octets ≡ Err Short
unfolding clock_at
clock_short octets lt =
    elim (cases_lt (length octets) 4) [
      | inl less ↦ rw (number_short w32 octets less) refl
      | inr le ↦ rw (number_long w32 octets le) (count_short (from_be_bytes w32 (take 4 octets)) (drop 4 octets) (omega (arith, length-drop 4 octets)))
    ]
