-- What is read is spelled by the grammar.
use Rattle.std.proofs.Common.{◌≡◌, ℕ, suc, ◌-◌, ◌+◌, ◌≤◌, ◌<◌, false, eqb, ltb, List, [], ◌∷◌, ◌++◌, drop, take, get_or, length, Option, Some, None, Result, Ok, Err, refl, sym, ap, subst, ◌∙◌, append_assoc, length-append, add-one, arith, inl, inr, drop-cons, length-drop}
use Rattle.std.specs.Prelude.{IsTrue}
use Rattle.std.proofs.lemmas.Bool.{eqb-true, eqb-false, cases_Bool}
use Rattle.std.proofs.lemmas.List.{take-append-drop, length-take-le}
use Rattle.std.proofs.lemmas.List.Sums.{prefix_len-le-length}
use Rattle.jm_cmds.specs.declared.commands.Command.{Command}
use Rattle.jm_cmds.specs.declared.commands.Command.TheVariants.{NoteOff, NoteOn, PolyPressure, Control, Program, Pressure, Wheel, QuarterFrame, SongPosition, SongSelect, TuneRequest, Clock, Start, Continue, Stop, ActiveSensing, SystemReset, Sysex}
use Rattle.jm_cmds.specs.declared.reading.CmdFault.{CmdFault}
use Rattle.jm_cmds.specs.declared.reading.CmdFault.TheVariants as commands
use Rattle.jm_cmds.specs.Command.{spelling, status_of, IsCommand}
use Rattle.jm_cmds.specs.Data.{is_data, IsData, data_len}
use Rattle.jm_cmds.specs.DataLaws.{IsData-front}
use Rattle.jm_cmds.specs.Reading.{command_read}
use Rattle.jm_cmds.specs.CommandLaws.{BeginsWith-command_read}
use Rattle.jm_section.specs.declared.item.What.{What}
use Rattle.jm_section.specs.declared.item.What.TheVariants.{Whole, Part, Passed}
use Rattle.jm_section.specs.declared.item.PartKind.{PartKind}
use Rattle.jm_section.specs.declared.item.PartKind.TheVariants.{First, Middle, Last, Cancel}
use Rattle.jm_section.specs.declared.reading.SectionFault.{SectionFault}
use Rattle.jm_section.specs.declared.reading.SectionFault.TheVariants.{NoStatus, BadCommand}
use Rattle.jm_section.specs.Grammar.{is_passed, IsSegment, first_part, middle_part, last_part, cancel_first, cancel_other, SpellsWhat, with_status, without_status, passed, segment}
use Rattle.jm_section.specs.Reading.{whole, one_less, under_running, exclusive_read, what_read}

abbrev got : What × ℕ → Result (What × ℕ) SectionFault
got read = Ok read

abbrev refused : SectionFault → Result (What × ℕ) SectionFault
refused fault = Err fault

same_read : (x y : What × ℕ) → got x ≡ got y → x ≡ y
same_read x y e = cc

not_refused : {A : Type 0} (fault : SectionFault) (x : What × ℕ) → refused fault ≡ got x → A
not_refused fault x e = absurd cc

-- a running status is that of a channel command
abbrev pub IsRunning : Option ℕ → Type 0
IsRunning None = Unit {0}
IsRunning (Some status) = status < 240

-- the text of this item stands at the front
pub record ReadsWhat (running : Option ℕ) (octets : List ℕ) (what : What) (used : ℕ) : Type 0 where
  pub text : List ℕ
  pub rest : List ℕ
  pub split : octets ≡ text ++ rest
  pub spelled : SpellsWhat running text what
  pub used_is : used ≡ length text
  pub some : 1 ≤ used

-- ## Whole commands

pub some_octet : (command : Command) → 1 ≤ length (spelling command)
some_octet (NoteOff channel note velocity) = omega arith
some_octet (NoteOn channel note velocity) = omega arith
some_octet (PolyPressure channel note value) = omega arith
some_octet (Control channel number value) = omega arith
some_octet (Program channel program) = omega arith
some_octet (Pressure channel value) = omega arith
some_octet (Wheel channel first second) = omega arith
some_octet (QuarterFrame value) = omega arith
some_octet (SongPosition value) = omega arith
some_octet (SongSelect song) = omega arith
some_octet TuneRequest = omega arith
some_octet Clock = omega arith
some_octet Start = omega arith
some_octet Continue = omega arith
some_octet Stop = omega arith
some_octet ActiveSensing = omega arith
some_octet SystemReset = omega arith
some_octet (Sysex octets) = omega arith

whole_found : (place : ℕ) (running : Option ℕ) (octets : List ℕ) (what : What) (used : ℕ) (read : Result (Command × ℕ) CmdFault) → command_read octets ≡ read
    → whole place read ≡ got (what, used) → ReadsWhat running octets what used
whole_found place running octets what used (Err f) e h = not_refused (BadCommand place f) (what, used) h
whole_found place running octets what used (Ok x) e h =
    let b = BeginsWith-command_read octets x.0 x.1 e in
    let made : ReadsWhat running octets (Whole x.0) x.1 = record {
      text = spelling x.0;
      rest = drop x.1 octets;
      split = b.split;
      spelled = with_status x.0 b.bounds;
      used_is = b.whole;
      some = omega (arith, b.whole, some_octet x.0);
    } in
    subst (λ (r : What × ℕ). ReadsWhat running octets r.0 r.1) (same_read (Whole x.0, x.1) (what, used) h) made

-- ## Running status

-- a channel command is its status octet and one data octet or two
pub record IsShort (command : Command) : Type 0 where
  pub few : length (spelling command) ≤ 3
  pub some : 2 ≤ length (spelling command)

pub channel_short : (command : Command) → IsCommand command → status_of command < 240 → IsShort command
channel_short (NoteOff channel note velocity) h lt = record { few = omega arith; some = omega arith }
channel_short (NoteOn channel note velocity) h lt = record { few = omega arith; some = omega arith }
channel_short (PolyPressure channel note value) h lt = record { few = omega arith; some = omega arith }
channel_short (Control channel number value) h lt = record { few = omega arith; some = omega arith }
channel_short (Program channel program) h lt = record { few = omega arith; some = omega arith }
channel_short (Pressure channel value) h lt = record { few = omega arith; some = omega arith }
channel_short (Wheel channel first second) h lt = record { few = omega arith; some = omega arith }
channel_short (QuarterFrame value) h lt = absurd (omega arith)
channel_short (SongPosition value) h lt = absurd (omega arith)
channel_short (SongSelect song) h lt = absurd (omega arith)
channel_short TuneRequest h lt = absurd (omega arith)
channel_short Clock h lt = absurd (omega arith)
channel_short Start h lt = absurd (omega arith)
channel_short Continue h lt = absurd (omega arith)
channel_short Stop h lt = absurd (omega arith)
channel_short ActiveSensing h lt = absurd (omega arith)
channel_short SystemReset h lt = absurd (omega arith)
channel_short (Sysex octets) h lt = absurd (omega arith)

-- a text that begins with an octet
head_is : (s : ℕ) (xs text rest : List ℕ) → 1 ≤ length text → s ∷ xs ≡ text ++ rest → (get_or text 0 0 ≡ s) × (xs ≡ drop 1 text ++ rest)
head_is s xs [] rest some e = absurd (omega arith)
head_is s xs (t ∷ text) rest some e = (cc, cc)

running_found : (place status : ℕ) (octets : List ℕ) (what : What) (used : ℕ) (read : Result (Command × ℕ) CmdFault) → status < 240 → command_read (status ∷ take 2 octets) ≡ read
    → whole place (one_less read) ≡ got (what, used) → ReadsWhat (Some status) octets what used
running_found place status octets what used (Err f) lt e h = not_refused (BadCommand place _) (what, used) h
running_found place status octets what used (Ok x) lt e h =
    let b = BeginsWith-command_read (status ∷ take 2 octets) x.0 x.1 e in
    let first = head_is status (take 2 octets) (spelling x.0) (drop x.1 (status ∷ take 2 octets)) (some_octet x.0) b.split in
    let short = channel_short x.0 b.bounds (omega (arith, first.0)) in
    let text = drop 1 (spelling x.0) in
    let text_len : x.1 - 1 ≡ length text = omega (arith, b.whole, length-drop 1 (spelling x.0)) in
    let made : ReadsWhat (Some status) octets (Whole x.0) (x.1 - 1) = record {
      text = text;
      rest = drop x.1 (status ∷ take 2 octets) ++ drop 2 octets;
      split = sym (take-append-drop 2 octets) ∙ ap (λ (t : List ℕ). t ++ drop 2 octets) first.1 ∙ append_assoc text (drop x.1 (status ∷ take 2 octets)) (drop 2 octets);
      spelled = without_status x.0 b.bounds (omega (arith, first.0)) (ap (λ (s : ℕ). Some s) (sym first.0));
      used_is = text_len;
      some = omega (arith, b.whole, short.some);
    } in
    subst (λ (r : What × ℕ). ReadsWhat (Some status) octets r.0 r.1) (same_read (Whole x.0, x.1 - 1) (what, used) h) made

-- ## System Exclusive

-- the data octets behind the first octet, and the octet that ends them
pub record IsEnded (first : ℕ) (rest : List ℕ) : Type 0 where
  pub data_octets : IsData (take (data_len rest) rest)
  pub count : length (take (data_len rest) rest) ≡ data_len rest
  pub split : first ∷ rest ≡ (first ∷ (take (data_len rest) rest ++ get_or rest (data_len rest) 0 ∷ [])) ++ drop (suc (data_len rest)) rest

pub is_ended : (first : ℕ) (rest : List ℕ) → eqb (data_len rest) (length rest) ≡ false → IsEnded first rest
is_ended first rest e =
    let n = data_len rest in
    let most : n ≤ length rest = prefix_len-le-length is_data rest in
    let apart : n ≡ length rest → ⊥ = eqb-false n (length rest) e in
    let inside : n < length rest = omega arith in
    let last = get_or rest n 0 in
    record {
      data_octets = IsData-front rest;
      count = length-take-le n rest most;
      split = ap (λ (t : List ℕ). first ∷ t) (sym (take-append-drop n rest) ∙ ap (λ (t : List ℕ). take n rest ++ t) (drop-cons rest n 0 inside) ∙ sym (append_assoc (take n rest) (last ∷ []) (drop (suc n) rest)));
    }

ended_len : (first last : ℕ) (octets : List ℕ) (n : ℕ) → length octets ≡ n → n + 2 ≡ length (first ∷ (octets ++ last ∷ []))
ended_len first last octets n e = grind (arith, length-append, add-one)

segment_found : (kind : PartKind) (running : Option ℕ) (first last : ℕ) (rest : List ℕ) → IsEnded first rest → last ≡ get_or rest (data_len rest) 0 → IsSegment kind first last
    → ReadsWhat running (first ∷ rest) (Part kind (take (data_len rest) rest)) (data_len rest + 2)
segment_found kind running first last rest ended e s =
    let octets = take (data_len rest) rest in
    record {
      text = first ∷ (octets ++ last ∷ []);
      rest = drop (suc (data_len rest)) rest;
      split = rw e ended.split;
      spelled = segment kind first last octets s ended.data_octets;
      used_is = ended_len first last octets (data_len rest) ended.count;
      some = omega arith;
    }

-- what was read is this item
at_item : (running : Option ℕ) (octets : List ℕ) (what other : What) (used size : ℕ) → ReadsWhat running octets what used → got (what, used) ≡ got (other, size) → ReadsWhat running octets other size
at_item running octets what other used size r e =
    subst (λ (x : What × ℕ). ReadsWhat running octets x.0 x.1) (same_read (what, used) (other, size) e) r

begins_f0 : (place : ℕ) (running : Option ℕ) (rest : List ℕ) (what : What) (used : ℕ) → exclusive_read place (0xf0 ∷ rest) ≡ got (what, used) → ReadsWhat running (0xf0 ∷ rest) what used
begins_f0 place running rest what used h =
    let n = data_len rest in
    let last = get_or rest n 0 in
    elim (cases_Bool (eqb n (length rest))) [
      | inl t ↦ not_refused (BadCommand place commands.Short) (what, used) (rw t at h)
      | inr some ↦ elim (cases_Bool (eqb last 0xf4)) [
        | inl t ↦
            let is : 0xf4 ≡ last = sym (eqb-true last 0xf4 t) in
            at_item running (0xf0 ∷ rest) (Part Cancel (take n rest)) what (n + 2) used (segment_found Cancel running 0xf0 0xf4 rest (is_ended 0xf0 rest some) is cancel_first) (rw (some, t) at h)
        | inr f4 ↦ elim (cases_Bool (eqb last 0xf0)) [
          | inl t ↦
              let is : 0xf0 ≡ last = sym (eqb-true last 0xf0 t) in
              at_item running (0xf0 ∷ rest) (Part First (take n rest)) what (n + 2) used (segment_found First running 0xf0 0xf0 rest (is_ended 0xf0 rest some) is first_part) (rw (some, f4, t) at h)
          | inr f0 ↦ elim (cases_Bool (eqb last 0xf7)) [
            | inl t ↦ whole_found place running (0xf0 ∷ rest) what used (command_read (0xf0 ∷ rest)) refl (rw (some, f4, f0, t) at h)
            | inr f7 ↦ not_refused (BadCommand place (commands.BadData (n + 1))) (what, used) (rw (some, f4, f0, f7) at h)
          ]
        ]
      ]
    ]

begins_f7 : (place : ℕ) (running : Option ℕ) (rest : List ℕ) (what : What) (used : ℕ) → exclusive_read place (0xf7 ∷ rest) ≡ got (what, used) → ReadsWhat running (0xf7 ∷ rest) what used
begins_f7 place running rest what used h =
    let n = data_len rest in
    let last = get_or rest n 0 in
    elim (cases_Bool (eqb n (length rest))) [
      | inl t ↦ not_refused (BadCommand place commands.Short) (what, used) (rw t at h)
      | inr some ↦ elim (cases_Bool (eqb last 0xf4)) [
        | inl t ↦
            let is : 0xf4 ≡ last = sym (eqb-true last 0xf4 t) in
            at_item running (0xf7 ∷ rest) (Part Cancel (take n rest)) what (n + 2) used (segment_found Cancel running 0xf7 0xf4 rest (is_ended 0xf7 rest some) is cancel_other) (rw (some, t) at h)
        | inr f4 ↦ elim (cases_Bool (eqb last 0xf0)) [
          | inl t ↦
              let is : 0xf0 ≡ last = sym (eqb-true last 0xf0 t) in
              at_item running (0xf7 ∷ rest) (Part Middle (take n rest)) what (n + 2) used (segment_found Middle running 0xf7 0xf0 rest (is_ended 0xf7 rest some) is middle_part) (rw (some, f4, t) at h)
          | inr f0 ↦ elim (cases_Bool (eqb last 0xf7)) [
            | inl t ↦
                let is : 0xf7 ≡ last = sym (eqb-true last 0xf7 t) in
                at_item running (0xf7 ∷ rest) (Part Last (take n rest)) what (n + 2) used (segment_found Last running 0xf7 0xf7 rest (is_ended 0xf7 rest some) is last_part) (rw (some, f4, f0, t) at h)
            | inr f7 ↦ not_refused (BadCommand place (commands.BadData (n + 1))) (what, used) (rw (some, f4, f0, f7) at h)
          ]
        ]
      ]
    ]

-- ## Every item

low_found : (place : ℕ) (running : Option ℕ) (octets : List ℕ) (what : What) (used : ℕ) → IsRunning running → under_running place running octets ≡ got (what, used) → ReadsWhat running octets what used
low_found place None octets what used r h = not_refused (NoStatus place) (what, used) h
low_found place (Some status) octets what used r h = running_found place status octets what used (command_read (status ∷ take 2 octets)) r refl h

passed_found : (running : Option ℕ) (octet : ℕ) (rest : List ℕ) (what : What) (used : ℕ) → IsTrue (is_passed octet) → got (Passed octet, 1) ≡ got (what, used) → ReadsWhat running (octet ∷ rest) what used
passed_found running octet rest what used p h =
    at_item running (octet ∷ rest) (Passed octet) what 1 used (record { text = octet ∷ []; rest = rest; split = refl; spelled = passed octet p; used_is = refl; some = omega arith }) h

-- what is read is spelled at the front
pub what_found : (place : ℕ) (running : Option ℕ) (first : ℕ) (rest : List ℕ) (what : What) (used : ℕ) → IsRunning running → what_read place running (first ∷ rest) ≡ got (what, used)
    → ReadsWhat running (first ∷ rest) what used
unfolding what_read
what_found place running first rest what used r h =
    elim (cases_Bool (ltb first 128)) [
      | inl t ↦ low_found place running (first ∷ rest) what used r (rw t at h)
      | inr high ↦ elim (cases_Bool (eqb first 0xf0)) [
        | inl t ↦
            let is : 0xf0 ≡ first = sym (eqb-true first 0xf0 t) in
            subst (λ (o : ℕ). ReadsWhat running (o ∷ rest) what used) is (begins_f0 place running rest what used (rw (sym is) at (rw (high, t) at h)))
        | inr f0 ↦ elim (cases_Bool (eqb first 0xf7)) [
          | inl t ↦
              let is : 0xf7 ≡ first = sym (eqb-true first 0xf7 t) in
              subst (λ (o : ℕ). ReadsWhat running (o ∷ rest) what used) is (begins_f7 place running rest what used (rw (high, f0, t) at h))
          | inr f7 ↦ elim (cases_Bool (is_passed first)) [
            | inl t ↦ passed_found running first rest what used t (rw (high, f0, f7, t) at h)
            | inr other ↦ whole_found place running (first ∷ rest) what used (command_read (first ∷ rest)) refl (rw (high, f0, f7, other) at h)
          ]
        ]
      ]
    ]
