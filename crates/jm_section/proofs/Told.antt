-- The fault that is told is the first one.
use Rattle.std.proofs.Common.{◌≡◌, ℕ, suc, ◌+◌, ◌≤◌, ◌<◌, true, false, eqb, ltb, List, [], ◌∷◌, ◌++◌, drop, take, get_or, length, Option, Some, None, Result, Ok, Err, refl, sym, ap, subst, ◌∙◌, append_assoc, drop-cons, add-one, add_comm, arith, inl, inr}
use Rattle.std.proofs.lemmas.Bool.{ltb-true, ltb-false, eqb-true, eqb-false, cases_Bool}
use Rattle.std.proofs.lemmas.List.{take-append-drop}
use Rattle.std.proofs.lemmas.List.Sums.{prefix_len-le-length}
use Rattle.jm_cmds.specs.declared.commands.Command.{Command}
use Rattle.jm_cmds.specs.declared.commands.Command.TheVariants.{Sysex}
use Rattle.jm_cmds.specs.declared.reading.CmdFault.{CmdFault}
use Rattle.jm_cmds.specs.declared.reading.CmdFault.TheVariants as commands
use Rattle.jm_cmds.specs.Command.{spelling}
use Rattle.jm_cmds.specs.Data.{is_data, data_len}
use Rattle.jm_cmds.specs.DataLaws.{IsData-whole, IsSysex-front}
use Rattle.jm_cmds.specs.Reading.{after_status, command_read}
use Rattle.jm_cmds.specs.CommandLaws.{command_read-spelling}
use Rattle.jm_section.specs.declared.item.What.{What}
use Rattle.jm_section.specs.declared.reading.SectionFault.{SectionFault}
use Rattle.jm_section.specs.declared.reading.SectionFault.TheVariants.{NoStatus, BadCommand}
use Rattle.jm_section.specs.Grammar.{is_passed}
use Rattle.jm_section.specs.Reading.{whole, place_less, one_less, under_running, exclusive_read, what_read}
use Rattle.jm_section.specs.Faults.{IsExclusive, IsEnd, IsBadCommand, unended, ended_badly, overlong, of_status, under_status}
use Rattle.jm_section.proofs.Found.{is_ended}

abbrev refused : SectionFault → Result (What × ℕ) SectionFault
refused fault = Err fault

same_fault : (x y : SectionFault) → refused x ≡ refused y → x ≡ y
same_fault x y e = cc

-- what is wrong where a command begins
pub data WhatFault (place : ℕ) (running : Option ℕ) : List ℕ → SectionFault → Type 0 where
  without : (first : ℕ) (rest : List ℕ) → running ≡ None → first < 128 → WhatFault place running (first ∷ rest) (NoStatus place)
  wrong : (octets : List ℕ) (fault : CmdFault) → IsBadCommand running octets fault → WhatFault place running octets (BadCommand place fault)

bad : (place : ℕ) (running : Option ℕ) (octets : List ℕ) (g : CmdFault) (fault : SectionFault) → IsBadCommand running octets g → refused (BadCommand place g) ≡ refused fault → WhatFault place running octets fault
bad place running octets g fault b e = subst (λ (f : SectionFault). WhatFault place running octets f) (same_fault (BadCommand place g) fault e) (wrong octets g b)

-- ## Running status

running_faulty : (place status first : ℕ) (rest : List ℕ) (fault : SectionFault) (read : Result (Command × ℕ) CmdFault) → first < 128 → command_read (status ∷ take 2 (first ∷ rest)) ≡ read
    → whole place (one_less read) ≡ refused fault → WhatFault place (Some status) (first ∷ rest) fault
running_faulty place status first rest fault (Ok x) low e h = absurd cc
running_faulty place status first rest fault (Err g) low e h =
    bad place (Some status) (first ∷ rest) (place_less g) fault (under_status status first rest g low refl e) h

low_faulty : (place : ℕ) (running : Option ℕ) (first : ℕ) (rest : List ℕ) (fault : SectionFault) → first < 128 → under_running place running (first ∷ rest) ≡ refused fault → WhatFault place running (first ∷ rest) fault
low_faulty place None first rest fault low h =
    subst (λ (f : SectionFault). WhatFault place None (first ∷ rest) f) (same_fault (NoStatus place) fault h) (without first rest refl low)
low_faulty place (Some status) first rest fault low h = running_faulty place status first rest fault (command_read (status ∷ take 2 (first ∷ rest))) low refl h

-- ## System Exclusive

data_stops : (xs : List ℕ) → data_len xs < length xs → 128 ≤ get_or xs (data_len xs) 0
data_stops [] lt = absurd (omega arith)
data_stops (x ∷ xs) lt =
    elim (cases_Bool (ltb x 128)) [
      | inl t ↦
          let e : data_len (x ∷ xs) ≡ suc (data_len xs) = rw t (add_comm 1 (data_len xs) ∙ add-one (data_len xs)) in
          rw e (data_stops xs (omega arith))
      | inr f ↦
          let e : data_len (x ∷ xs) ≡ 0 = rw f refl in
          rw e (ltb-false x 128 f)
    ]

unended_at : (place : ℕ) (running : Option ℕ) (first : ℕ) (rest : List ℕ) (fault : SectionFault) → IsExclusive first → eqb (data_len rest) (length rest) ≡ true → refused (BadCommand place commands.Short) ≡ refused fault
    → WhatFault place running (first ∷ rest) fault
unended_at place running first rest fault x t h =
    let e : data_len rest ≡ length rest = eqb-true (data_len rest) (length rest) t in
    bad place running (first ∷ rest) commands.Short fault (unended first rest x (IsData-whole rest (omega arith) (omega arith))) h

-- the octet that ends the data octets is none that may
ended_at : (place : ℕ) (running : Option ℕ) (first : ℕ) (rest : List ℕ) (fault : SectionFault) → IsExclusive first → eqb (data_len rest) (length rest) ≡ false → (IsEnd (get_or rest (data_len rest) 0) → ⊥)
    → refused (BadCommand place (commands.BadData (data_len rest + 1))) ≡ refused fault → WhatFault place running (first ∷ rest) fault
ended_at place running first rest fault x f none h =
    let n = data_len rest in
    let last = get_or rest n 0 in
    let octets = take n rest in
    let most : n ≤ length rest = prefix_len-le-length is_data rest in
    let apart : n ≡ length rest → ⊥ = eqb-false n (length rest) f in
    let inside : n < length rest = omega arith in
    let ended = is_ended first rest f in
    let split : first ∷ rest ≡ first ∷ (octets ++ last ∷ drop (suc n) rest) = ap (λ (t : List ℕ). first ∷ t) (sym (take-append-drop n rest) ∙ ap (λ (t : List ℕ). octets ++ t) (drop-cons rest n 0 inside)) in
    let b : IsBadCommand running (first ∷ (octets ++ last ∷ drop (suc n) rest)) (commands.BadData (length octets + 1)) = ended_badly first last octets (drop (suc n) rest) x ended.data_octets (data_stops rest inside) none in
    bad place running (first ∷ rest) (commands.BadData (n + 1)) fault
    (subst (λ (t : List ℕ). IsBadCommand running t (commands.BadData (n + 1))) (sym split) (subst (λ (k : ℕ). IsBadCommand running (first ∷ (octets ++ last ∷ drop (suc n) rest)) (commands.BadData (k + 1))) ended.count b)) h

not_end : (last : ℕ) → eqb last 244 ≡ false → eqb last 240 ≡ false → eqb last 247 ≡ false → IsEnd last → ⊥
not_end last f4 f0 f7 (inl e) = eqb-false last 240 f0 e
not_end last f4 f0 f7 (inr (inl e)) = eqb-false last 247 f7 e
not_end last f4 f0 f7 (inr (inr e)) = eqb-false last 244 f4 e

-- a whole System Exclusive command is read
whole_reads : (rest : List ℕ) → eqb (data_len rest) (length rest) ≡ false → get_or rest (data_len rest) 0 ≡ 0xf7 → data_len rest ≤ 65536
    → command_read (0xf0 ∷ rest) ≡ Ok (Sysex (take (data_len rest) rest), length (spelling (Sysex (take (data_len rest) rest))))
whole_reads rest f e few =
    let n = data_len rest in
    let most : n ≤ length rest = prefix_len-le-length is_data rest in
    let ended = is_ended 0xf0 rest f in
    let split : 0xf0 ∷ rest ≡ spelling (Sysex (take n rest)) ++ drop (suc n) rest = rw e at ended.split in
    ap command_read split ∙ command_read-spelling (Sysex (take n rest)) (drop (suc n) rest) (IsSysex-front rest n refl most few)

no_fault : (place : ℕ) (read : Result (Command × ℕ) CmdFault) (x : Command × ℕ) (fault : SectionFault) → read ≡ Ok x → whole place read ≡ refused fault → ⊥
no_fault place (Ok y) x fault e h = cc
no_fault place (Err g) x fault e h = cc

-- one of too many data octets is refused
overlong_reads : (rest : List ℕ) → ltb 65536 (data_len rest) ≡ true → command_read (0xf0 ∷ rest) ≡ Err commands.TooLong
unfolding command_read after_status
overlong_reads rest long = rw long refl

overlong_at : (place : ℕ) (running : Option ℕ) (rest : List ℕ) (fault : SectionFault) → eqb (data_len rest) (length rest) ≡ false → get_or rest (data_len rest) 0 ≡ 0xf7 → ltb 65536 (data_len rest) ≡ true
    → whole place (command_read (0xf0 ∷ rest)) ≡ refused fault → WhatFault place running (0xf0 ∷ rest) fault
overlong_at place running rest fault f e long h =
    let n = data_len rest in
    let ended = is_ended 0xf0 rest f in
    let split : 0xf0 ∷ rest ≡ 0xf0 ∷ (take n rest ++ 0xf7 ∷ drop (suc n) rest) =
    rw e at ended.split ∙ ap (λ (t : List ℕ). 0xf0 ∷ t) (append_assoc (take n rest) (0xf7 ∷ []) (drop (suc n) rest)) in
    let many : 65536 < length (take n rest) = omega (arith, ltb-true 65536 n long, ended.count) in
    bad place running (0xf0 ∷ rest) commands.TooLong fault
    (subst (λ (t : List ℕ). IsBadCommand running t commands.TooLong) (sym split) (overlong (take n rest) (drop (suc n) rest) ended.data_octets many)) (rw (overlong_reads rest long) at h)

faulty_f0 : (place : ℕ) (running : Option ℕ) (rest : List ℕ) (fault : SectionFault) → exclusive_read place (0xf0 ∷ rest) ≡ refused fault → WhatFault place running (0xf0 ∷ rest) fault
faulty_f0 place running rest fault h =
    let n = data_len rest in
    let last = get_or rest n 0 in
    elim (cases_Bool (eqb n (length rest))) [
      | inl t ↦ unended_at place running 0xf0 rest fault (inl refl) t (rw t at h)
      | inr some ↦ elim (cases_Bool (eqb last 0xf4)) [
        | inl t ↦ let never = rw (some, t) at h in absurd cc
        | inr f4 ↦ elim (cases_Bool (eqb last 0xf0)) [
          | inl t ↦ let never = rw (some, f4, t) at h in absurd cc
          | inr f0 ↦ elim (cases_Bool (eqb last 0xf7)) [
            | inl t ↦ elim (cases_Bool (ltb 65536 n)) [
              | inl long ↦ overlong_at place running rest fault some (eqb-true last 0xf7 t) long (rw (some, f4, f0, t) at h)
              | inr few ↦
                  absurd (no_fault place (command_read (0xf0 ∷ rest)) (Sysex (take n rest), length (spelling (Sysex (take n rest)))) fault
                  (whole_reads rest some (eqb-true last 0xf7 t) (ltb-false 65536 n few)) (rw (some, f4, f0, t) at h))
            ]
            | inr f7 ↦ ended_at place running 0xf0 rest fault (inl refl) some (not_end last f4 f0 f7) (rw (some, f4, f0, f7) at h)
          ]
        ]
      ]
    ]

faulty_f7 : (place : ℕ) (running : Option ℕ) (rest : List ℕ) (fault : SectionFault) → exclusive_read place (0xf7 ∷ rest) ≡ refused fault → WhatFault place running (0xf7 ∷ rest) fault
faulty_f7 place running rest fault h =
    let n = data_len rest in
    let last = get_or rest n 0 in
    elim (cases_Bool (eqb n (length rest))) [
      | inl t ↦ unended_at place running 0xf7 rest fault (inr refl) t (rw t at h)
      | inr some ↦ elim (cases_Bool (eqb last 0xf4)) [
        | inl t ↦ let never = rw (some, t) at h in absurd cc
        | inr f4 ↦ elim (cases_Bool (eqb last 0xf0)) [
          | inl t ↦ let never = rw (some, f4, t) at h in absurd cc
          | inr f0 ↦ elim (cases_Bool (eqb last 0xf7)) [
            | inl t ↦ let never = rw (some, f4, f0, t) at h in absurd cc
            | inr f7 ↦ ended_at place running 0xf7 rest fault (inr refl) some (not_end last f4 f0 f7) (rw (some, f4, f0, f7) at h)
          ]
        ]
      ]
    ]

-- ## Every command

status_faulty : (place : ℕ) (running : Option ℕ) (first : ℕ) (rest : List ℕ) (fault : SectionFault) (read : Result (Command × ℕ) CmdFault) → 128 ≤ first → (IsExclusive first → ⊥) → is_passed first ≡ false
    → command_read (first ∷ rest) ≡ read → whole place read ≡ refused fault → WhatFault place running (first ∷ rest) fault
status_faulty place running first rest fault (Ok x) high x0 p e h = absurd cc
status_faulty place running first rest fault (Err g) high x0 p e h = bad place running (first ∷ rest) g fault (of_status first rest g high x0 p e) h

no_exclusive : (first : ℕ) → eqb first 240 ≡ false → eqb first 247 ≡ false → IsExclusive first → ⊥
no_exclusive first f0 f7 (inl e) = eqb-false first 240 f0 e
no_exclusive first f0 f7 (inr e) = eqb-false first 247 f7 e

pub what_faulty : (place : ℕ) (running : Option ℕ) (first : ℕ) (rest : List ℕ) (fault : SectionFault) → what_read place running (first ∷ rest) ≡ refused fault → WhatFault place running (first ∷ rest) fault
unfolding what_read
what_faulty place running first rest fault h =
    elim (cases_Bool (ltb first 128)) [
      | inl t ↦ low_faulty place running first rest fault (ltb-true first 128 t) (rw t at h)
      | inr high ↦ elim (cases_Bool (eqb first 0xf0)) [
        | inl t ↦
            let is : 0xf0 ≡ first = sym (eqb-true first 0xf0 t) in
            subst (λ (o : ℕ). WhatFault place running (o ∷ rest) fault) is (faulty_f0 place running rest fault (rw (sym is) at (rw (high, t) at h)))
        | inr f0 ↦ elim (cases_Bool (eqb first 0xf7)) [
          | inl t ↦
              let is : 0xf7 ≡ first = sym (eqb-true first 0xf7 t) in
              subst (λ (o : ℕ). WhatFault place running (o ∷ rest) fault) is (faulty_f7 place running rest fault (rw (high, f0, t) at h))
          | inr f7 ↦ elim (cases_Bool (is_passed first)) [
            | inl t ↦ let never = rw (high, f0, f7, t) at h in absurd cc
            | inr other ↦ status_faulty place running first rest fault (command_read (first ∷ rest)) (ltb-false first 128 high) (no_exclusive first f0 f7) other refl (rw (high, f0, f7, other) at h)
          ]
        ]
      ]
    ]
