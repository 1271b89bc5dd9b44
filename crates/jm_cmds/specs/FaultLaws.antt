-- The fault that is told is of the first octet that shows one.
use Rattle.std.proofs.Common.{◌≡◌, ℕ, suc, ◌+◌, ◌*◌, ◌%◌, ◌≤◌, ◌<◌, Bool, true, false, ◌&&◌, ◌||◌, cond, ltb, leb, eqb, List, [], ◌∷◌, ◌++◌, Result, Ok, Err, take, drop, length, get_or, refl, ap, sym, ◌∙◌, arith, inl, inr, subst, drop-cons}
use Rattle.std.proofs.lemmas.Bool.{cases_Bool, ltb-true, ltb-false, eqb-true, eqb-false, le-leb, le-ltb}
use Rattle.std.proofs.lemmas.Bool.Decides.{nat_tests}
use Rattle.std.proofs.lemmas.List.{take-append-drop, length-take-le}
use Rattle.std.proofs.lemmas.List.Sums.{prefix_len-le-length, prefix_len_stops}
use Rattle.jm_cmds.specs.declared.commands.Command.{Command}
use Rattle.jm_cmds.specs.declared.commands.Command.TheVariants.{NoteOff, NoteOn, PolyPressure, Control, Program, Pressure, Wheel, QuarterFrame, SongPosition, SongSelect, TuneRequest, Clock, Start, Continue, Stop, ActiveSensing, SystemReset, Sysex}
use Rattle.jm_cmds.specs.declared.reading.CmdFault.{CmdFault}
use Rattle.jm_cmds.specs.declared.reading.CmdFault.TheVariants.{Empty, DataOctet, BadStatus, BadData, TooLong, Short}
use Rattle.jm_cmds.specs.Data.{is_data, IsData, data_len}
use Rattle.jm_cmds.specs.DataLaws.{IsData-front, IsData-whole}
use Rattle.jm_cmds.specs.Reading.{with_one, with_two, channel_read, system_read, message_read, after_status, command_read}

-- ## What octets show

-- whether a command begins with this octet (RFC 6295, Appendix E, Figures E.1 and E.2)
abbrev pub is_status : (octet : ℕ) → Bool
is_status octet =
    leb 0x80 octet
    && (ltb octet 0xf4 || eqb octet 0xf6 || eqb octet 0xf8 || eqb octet 0xfa || eqb octet 0xfb || eqb octet 0xfc || eqb octet 0xfe || eqb octet 0xff)

-- the number of data octets behind a status octet, that of a System Exclusive message apart
abbrev pub data_count : (status : ℕ) → ℕ
data_count status =
    cond (ltb status 0xc0) 2
    (cond (ltb status 0xe0) 1
    (cond (ltb status 0xf0 || eqb status 0xf2) 2
    (cond (eqb status 0xf1 || eqb status 0xf3) 1 0)))

-- Whether the command that this status octet and so many data octets begin has further octets. A System Exclusive message of
-- 65,536 data octets has still its F7.
abbrev pub is_due : (status count : ℕ) → Bool
is_due status count = cond (eqb status 0xf0) (leb count 65536) (ltb count (data_count status))

-- A data octet stands where a command begins.
pub record BeginsWithData (octets : List ℕ) : Type 0 where
  pub first : ℕ
  pub rest : List ℕ
  pub split : octets ≡ first ∷ rest
  pub low : is_data first ≡ true

-- An octet over 0x7F with which no command begins stands where a command begins.
pub record BeginsWithNone (octets : List ℕ) (status : ℕ) : Type 0 where
  pub rest : List ℕ
  pub split : octets ≡ status ∷ rest
  pub high : is_data status ≡ false
  pub none : is_status status ≡ false

-- At this place stands an octet over 0x7F, where a command that began has further octets, and all between are data octets.
-- F7 doesn't end this command.
pub record IsBroken (octets : List ℕ) (place : ℕ) : Type 0 where
  pub status : ℕ
  pub between : List ℕ
  pub bad : ℕ
  pub rest : List ℕ
  pub split : octets ≡ status ∷ (between ++ bad ∷ rest)
  pub place_is : place ≡ length between + 1
  pub begins : is_status status ≡ true
  pub all_data : IsData between
  pub due : is_due status (length between) ≡ true
  pub high : is_data bad ≡ false
  pub no_end : status ≡ 0xf0 → bad ≡ 0xf7 → ⊥

-- A System Exclusive message has over 65,536 data octets.
pub record RunsOver (octets : List ℕ) : Type 0 where
  pub rest : List ℕ
  pub split : octets ≡ 0xf0 ∷ rest
  pub many : 65536 < data_len rest

-- The octets end where a command that began has further ones, and all behind its status octet are data octets.
pub record EndsEarly (octets : List ℕ) : Type 0 where
  pub status : ℕ
  pub between : List ℕ
  pub split : octets ≡ status ∷ between
  pub begins : is_status status ≡ true
  pub all_data : IsData between
  pub due : is_due status (length between) ≡ true

abbrev pub Shows : List ℕ → CmdFault → Type 0
Shows octets Empty = octets ≡ []
Shows octets DataOctet = BeginsWithData octets
Shows octets (BadStatus status) = BeginsWithNone octets status
Shows octets (BadData place) = IsBroken octets place
Shows octets TooLong = RunsOver octets
Shows octets Short = EndsEarly octets

-- ## Reading

got : Command × ℕ → Result (Command × ℕ) CmdFault
got read = Ok read

refused : CmdFault → Result (Command × ℕ) CmdFault
refused fault = Err fault

same_fault : (a b : CmdFault) → refused a ≡ refused b → a ≡ b
unfolding refused
same_fault a b e = cc

none_refused : (x : Command × ℕ) (fault : CmdFault) → got x ≡ refused fault → ⊥
unfolding got refused
none_refused x fault e = cc

told : (octets : List ℕ) (shown fault : CmdFault) → refused shown ≡ refused fault → Shows octets shown → Shows octets fault
told octets shown fault e s = subst (λ (f : CmdFault). Shows octets f) (same_fault shown fault e) s

-- the status octet of a command with so many data octets
record Needs (status count : ℕ) : Type 0 where
  begins : is_status status ≡ true
  none : is_due status 0 ≡ true
  one : 1 < count → is_due status 1 ≡ true
  no_message : status ≡ 0xf0 → ⊥

ends_at_once : (status count : ℕ) → Needs status count → EndsEarly (status ∷ [])
ends_at_once status count n = record { status = status; between = []; split = refl; begins = n.begins; all_data = refl; due = n.none }

broken_at_once : (status count value : ℕ) (rest : List ℕ) → Needs status count → is_data value ≡ false → IsBroken (status ∷ value ∷ rest) 1
broken_at_once status count value rest n f = record {
  status = status;
  between = [];
  bad = value;
  rest = rest;
  split = refl;
  place_is = refl;
  begins = n.begins;
  all_data = refl;
  due = n.none;
  high = f;
  no_end = λ e. absurd (n.no_message e);
}

one_data_is : (value : ℕ) → is_data value ≡ true → IsData (value ∷ [])
one_data_is value t = rw t refl

ends_behind_one : (status value : ℕ) → Needs status 2 → is_data value ≡ true → EndsEarly (status ∷ value ∷ [])
ends_behind_one status value n t = record {
  status = status;
  between = value ∷ [];
  split = refl;
  begins = n.begins;
  all_data = one_data_is value t;
  due = n.one (omega arith);
}

broken_behind_one : (status value next : ℕ) (rest : List ℕ) → Needs status 2 → is_data value ≡ true → is_data next ≡ false → IsBroken (status ∷ value ∷ next ∷ rest) 2
broken_behind_one status value next rest n t f = record {
  status = status;
  between = value ∷ [];
  bad = next;
  rest = rest;
  split = refl;
  place_is = refl;
  begins = n.begins;
  all_data = one_data_is value t;
  due = n.one (omega arith);
  high = f;
  no_end = λ e. absurd (n.no_message e);
}

one_shows : (made : ℕ → Command) (status : ℕ) (rest : List ℕ) (fault : CmdFault) → Needs status 1 → with_one made rest ≡ refused fault → Shows (status ∷ rest) fault
unfolding got refused
one_shows made status [] fault n e = told (status ∷ []) Short fault e (ends_at_once status 1 n)
one_shows made status (value ∷ rest) fault n e =
    elim (cases_Bool (is_data value)) [
      | inl t ↦ absurd (none_refused (made value, 2) fault (rw t at e))
      | inr f ↦ told (status ∷ value ∷ rest) (BadData 1) fault (rw f at e) (broken_at_once status 1 value rest n f)
    ]

two_shows : (made : ℕ → ℕ → Command) (status : ℕ) (rest : List ℕ) (fault : CmdFault) → Needs status 2 → with_two made rest ≡ refused fault → Shows (status ∷ rest) fault
unfolding got refused
two_shows made status [] fault n e = told (status ∷ []) Short fault e (ends_at_once status 2 n)
two_shows made status (value ∷ []) fault n e =
    elim (cases_Bool (is_data value)) [
      | inl t ↦ told (status ∷ value ∷ []) Short fault (rw t at e) (ends_behind_one status value n t)
      | inr f ↦ told (status ∷ value ∷ []) (BadData 1) fault (rw f at e) (broken_at_once status 2 value [] n f)
    ]
two_shows made status (value ∷ next ∷ rest) fault n e =
    elim (cases_Bool (is_data value)) [
      | inl t ↦ elim (cases_Bool (is_data next)) [
        | inl u ↦ absurd (none_refused (made value next, 3) fault (rw (t, u) at e))
        | inr g ↦ told (status ∷ value ∷ next ∷ rest) (BadData 2) fault (rw (t, g) at e) (broken_behind_one status value next rest n t g)
      ]
      | inr f ↦ told (status ∷ value ∷ next ∷ rest) (BadData 1) fault (rw f at e) (broken_at_once status 2 value (next ∷ rest) n f)
    ]

needs_low : (status : ℕ) → 128 ≤ status → status < 192 → Needs status 2
needs_low status l m = record { begins = grind (arith, nat_tests, l, m); none = grind (arith, nat_tests, l, m); one = λ o. grind (arith, nat_tests, l, m); no_message = λ e. omega (arith, e, m) }

needs_middle : (status : ℕ) → 192 ≤ status → status < 224 → Needs status 1
needs_middle status l m = record { begins = grind (arith, nat_tests, l, m); none = grind (arith, nat_tests, l, m); one = λ o. absurd (omega (arith, o)); no_message = λ e. omega (arith, e, m) }

needs_wheel : (status : ℕ) → 224 ≤ status → status < 240 → Needs status 2
needs_wheel status l m = record { begins = grind (arith, nat_tests, l, m); none = grind (arith, nat_tests, l, m); one = λ o. grind (arith, nat_tests, l, m); no_message = λ e. omega (arith, e, m) }

channel_shows : (status : ℕ) (rest : List ℕ) (fault : CmdFault) → 128 ≤ status → status < 240 → channel_read status rest ≡ refused fault → Shows (status ∷ rest) fault
channel_shows status rest fault least most e =
    elim (cases_Bool (ltb status 144)) [
      | inl t ↦ let m = ltb-true status 144 t in two_shows (NoteOff (status % 16)) status rest fault (needs_low status least (omega (arith, m))) (rw t at e)
      | inr f0 ↦ elim (cases_Bool (ltb status 160)) [
        | inl t ↦ let m = ltb-true status 160 t in two_shows (NoteOn (status % 16)) status rest fault (needs_low status least (omega (arith, m))) (rw (f0, t) at e)
        | inr f1 ↦ elim (cases_Bool (ltb status 176)) [
          | inl t ↦ let m = ltb-true status 176 t in two_shows (PolyPressure (status % 16)) status rest fault (needs_low status least (omega (arith, m))) (rw (f0, f1, t) at e)
          | inr f2 ↦ elim (cases_Bool (ltb status 192)) [
            | inl t ↦ two_shows (Control (status % 16)) status rest fault (needs_low status least (ltb-true status 192 t)) (rw (f0, f1, f2, t) at e)
            | inr f3 ↦ elim (cases_Bool (ltb status 208)) [
              | inl t ↦ let m = ltb-true status 208 t in one_shows (Program (status % 16)) status rest fault (needs_middle status (ltb-false status 192 f3) (omega (arith, m))) (rw (f0, f1, f2, f3, t) at e)
              | inr f4 ↦ elim (cases_Bool (ltb status 224)) [
                | inl t ↦ one_shows (Pressure (status % 16)) status rest fault (needs_middle status (ltb-false status 192 f3) (ltb-true status 224 t)) (rw (f0, f1, f2, f3, f4, t) at e)
                | inr f5 ↦ two_shows (Wheel (status % 16)) status rest fault (needs_wheel status (ltb-false status 224 f5) most) (rw (f0, f1, f2, f3, f4, f5) at e)
              ]
            ]
          ]
        ]
      ]
    ]

split_at : (rest : List ℕ) (n : ℕ) → n < length rest → rest ≡ take n rest ++ get_or rest n 0 ∷ drop (suc n) rest
split_at rest n l = sym (take-append-drop n rest) ∙ ap (λ k. take n rest ++ k) (drop-cons rest n 0 l)

message_shows : (rest : List ℕ) (fault : CmdFault) → message_read rest ≡ refused fault → Shows (0xf0 ∷ rest) fault
unfolding got refused
message_shows rest fault e =
    let n = data_len rest in
    let most : n ≤ length rest = prefix_len-le-length is_data rest in
    elim (cases_Bool (ltb 65536 n)) [
      | inl t ↦ told (0xf0 ∷ rest) TooLong fault (rw t at e) (record { rest = rest; split = refl; many = ltb-true 65536 n t })
      | inr few ↦ elim (cases_Bool (eqb n (length rest))) [
        | inl t ↦
            let all : n ≡ length rest = eqb-true n (length rest) t in
            let short = ltb-false 65536 n few in
            told (0xf0 ∷ rest) Short fault (rw (few, t) at e)
            (record { status = 0xf0; between = rest; split = refl; begins = refl; all_data = IsData-whole rest (omega (arith, all)) most; due = le-leb (length rest) 65536 (omega (arith, all, short)) })
        | inr some ↦ elim (cases_Bool (eqb (get_or rest n 0) 0xf7)) [
          | inl stop ↦ absurd (none_refused (Sysex (take n rest), n + 2) fault (rw (few, some, stop) at e))
          | inr f ↦
              let inside : n < length rest = (let apart : n ≡ length rest → ⊥ = eqb-false n (length rest) some in omega arith) in
              let front : length (take n rest) ≡ n = length-take-le n rest most in
              told (0xf0 ∷ rest) (BadData (n + 1)) fault (rw (few, some, f) at e)
              (record {
                status = 0xf0;
                between = take n rest;
                bad = get_or rest n 0;
                rest = drop (suc n) rest;
                split = ap (λ k. 0xf0 ∷ k) (split_at rest n inside);
                place_is = rw front refl;
                begins = refl;
                all_data = IsData-front rest;
                due = rw front (le-leb n 65536 (ltb-false 65536 n few));
                high = prefix_len_stops is_data rest 0 inside;
                no_end = λ s b. eqb-false (get_or rest n 0) 0xf7 f b;
              })
        ]
      ]
    ]

no_status : (status : ℕ) → 240 ≤ status → eqb status 240 ≡ false → eqb status 241 ≡ false → eqb status 242 ≡ false → eqb status 243 ≡ false → eqb status 246 ≡ false → eqb status 248 ≡ false
    → eqb status 250 ≡ false → eqb status 251 ≡ false → eqb status 252 ≡ false → eqb status 254 ≡ false → eqb status 255 ≡ false → is_status status ≡ false
no_status status l a b c d e f g h i j k = grind (arith, nat_tests, l, a, b, c, d, e, f, g, h, i, j, k)

system_shows : (status : ℕ) (rest : List ℕ) (fault : CmdFault) → 240 ≤ status → eqb status 240 ≡ false → system_read status rest ≡ refused fault → Shows (status ∷ rest) fault
unfolding got refused
system_shows status rest fault least apart e =
    elim (cases_Bool (eqb status 241)) [
      | inl t ↦ one_shows QuarterFrame status rest fault (rw (eqb-true status 241 t) (record { begins = refl; none = refl; one = λ o. absurd (omega (arith, o)); no_message = λ e. omega (arith, e) })) (rw (t) at e)
      | inr f0 ↦ elim (cases_Bool (eqb status 242)) [
        | inl t ↦ two_shows (λ low high. SongPosition (low + 128 * high)) status rest fault (rw (eqb-true status 242 t) (record { begins = refl; none = refl; one = λ o. refl; no_message = λ e. omega (arith, e) })) (rw (f0, t) at e)
        | inr f1 ↦ elim (cases_Bool (eqb status 243)) [
          | inl t ↦ one_shows SongSelect status rest fault (rw (eqb-true status 243 t) (record { begins = refl; none = refl; one = λ o. absurd (omega (arith, o)); no_message = λ e. omega (arith, e) })) (rw (f0, f1, t) at e)
          | inr f2 ↦ elim (cases_Bool (eqb status 246)) [
            | inl t ↦ absurd (none_refused (TuneRequest, 1) fault (rw (f0, f1, f2, t) at e))
            | inr f3 ↦ elim (cases_Bool (eqb status 248)) [
              | inl t ↦ absurd (none_refused (Clock, 1) fault (rw (f0, f1, f2, f3, t) at e))
              | inr f4 ↦ elim (cases_Bool (eqb status 250)) [
                | inl t ↦ absurd (none_refused (Start, 1) fault (rw (f0, f1, f2, f3, f4, t) at e))
                | inr f5 ↦ elim (cases_Bool (eqb status 251)) [
                  | inl t ↦ absurd (none_refused (Continue, 1) fault (rw (f0, f1, f2, f3, f4, f5, t) at e))
                  | inr f6 ↦ elim (cases_Bool (eqb status 252)) [
                    | inl t ↦ absurd (none_refused (Stop, 1) fault (rw (f0, f1, f2, f3, f4, f5, f6, t) at e))
                    | inr f7 ↦ elim (cases_Bool (eqb status 254)) [
                      | inl t ↦ absurd (none_refused (ActiveSensing, 1) fault (rw (f0, f1, f2, f3, f4, f5, f6, f7, t) at e))
                      | inr f8 ↦ elim (cases_Bool (eqb status 255)) [
                        | inl t ↦ absurd (none_refused (SystemReset, 1) fault (rw (f0, f1, f2, f3, f4, f5, f6, f7, f8, t) at e))
                        | inr f9 ↦
                            told (status ∷ rest) (BadStatus status) fault (rw (f0, f1, f2, f3, f4, f5, f6, f7, f8, f9) at e)
                            (record { rest = rest; split = refl; high = le-ltb status 128 (omega (arith, least)); none = no_status status least apart f0 f1 f2 f3 f4 f5 f6 f7 f8 f9 })
                      ]
                    ]
                  ]
                ]
              ]
            ]
          ]
        ]
      ]
    ]

-- The fault that is read is shown.
pub Shows-command_read : (octets : List ℕ) (fault : CmdFault) → command_read octets ≡ Err fault → Shows octets fault
unfolding command_read after_status got refused
Shows-command_read [] fault e = told [] Empty fault e refl
Shows-command_read (status ∷ rest) fault e =
    elim (cases_Bool (ltb status 128)) [
      | inl t ↦ told (status ∷ rest) DataOctet fault (rw t at e) (record { first = status; rest = rest; split = refl; low = t })
      | inr from ↦ elim (cases_Bool (ltb status 240)) [
        | inl t ↦ channel_shows status rest fault (ltb-false status 128 from) (ltb-true status 240 t) (rw (from, t) at e)
        | inr f ↦ elim (cases_Bool (eqb status 240)) [
          | inl t ↦ subst (λ (s : ℕ). Shows (s ∷ rest) fault) (sym (eqb-true status 240 t)) (message_shows rest fault (rw (from, f, t) at e))
          | inr g ↦ system_shows status rest fault (ltb-false status 240 f) g (rw (from, f, g) at e)
        ]
      ]
    ]
