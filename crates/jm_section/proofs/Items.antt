-- One item of a list: what is spelled is read, and what is read is spelled.
use Rattle.std.proofs.Common.{◌≡◌, ℕ, suc, ◌+◌, ◌≤◌, ◌<◌, Bool, true, false, not, cond, eqb, List, [], ◌∷◌, ◌++◌, drop, take, get_or, length, Option, Some, None, Result, Ok, Err, refl, sym, ap, subst, ◌∙◌, append_assoc, length-append, length-drop, drop-cons, arith, inl, inr}
use Rattle.std.proofs.Math.Seq.{take-length}
use Rattle.std.proofs.lemmas.Bool.{eqb-true, eqb-false, eq-eqb, ne_eqb, cases_Bool}
use Rattle.std.proofs.lemmas.List.{append-nil, nil_from_length, take-append-drop, length-take-le}
use Rattle.jm_cmds.specs.Command.{spelling}
use Rattle.jm_wire.specs.declared.delta.DeltaFault.{DeltaFault}
use Rattle.jm_wire.specs.Delta.{value, delta_at, IsField}
use Rattle.jm_wire.specs.DeltaReading.{field_is_read, read_as}
use Rattle.jm_section.specs.declared.item.Item.{Item}
use Rattle.jm_section.specs.declared.item.What.{What}
use Rattle.jm_section.specs.declared.reading.SectionFault.{SectionFault}
use Rattle.jm_section.specs.Grammar.{SpellsWhat, with_status, without_status, passed, segment, SpellsDelta, no_field, field}
use Rattle.jm_wire.specs.Readers.{◌>>=◌}
use Rattle.jm_section.specs.Reading.{what_read, field_read, delta_read, item_read}
use Rattle.jm_section.proofs.Spelled.{what_spelled}
use Rattle.jm_section.proofs.Found.{IsRunning, ReadsWhat, some_octet, channel_short, what_found}

-- ## What is spelled is read

pub what_some : (running : Option ℕ) (text : List ℕ) (what : What) → SpellsWhat running text what → 1 ≤ length text
what_some running text what (with_status command h) = some_octet command
what_some running text what (without_status command h lt e) =
    omega (arith, (channel_short command h lt).some, length-drop 1 (spelling command))
what_some running text what (passed octet h) = omega arith
what_some running text what (segment kind first last octets s h) = omega arith

pub delta_spelled : (place : ℕ) (has : Bool) (lead : List ℕ) (delta : ℕ) (rest : List ℕ) → SpellsDelta has lead delta → delta_read place (not has) (lead ++ rest) ≡ Ok (delta, length lead)
delta_spelled place has lead delta rest no_field = refl
delta_spelled place has lead delta rest (field text h) = ap (field_read place) (field_is_read (text ++ rest) text rest refl h)

abbrev found : Option (Item × ℕ) → Result (Option (Item × ℕ)) SectionFault
found next = Ok next

pub item_spelled : (place : ℕ) (has : Bool) (running : Option ℕ) (lead text rest : List ℕ) (delta : ℕ) (what : What) → SpellsDelta has lead delta → SpellsWhat running text what
    → item_read place (not has) running ((lead ++ text) ++ rest) ≡ found (Some (record { delta = delta; what = what }, length lead + length text))
unfolding item_read
item_spelled place has running lead text rest delta what d w =
    let some = what_some running text what w in
    let joined : (lead ++ text) ++ rest ≡ lead ++ (text ++ rest) = append_assoc lead text rest in
    let len : length (lead ++ (text ++ rest)) ≡ length lead + (length text + length rest) = simp length-append in
    rw (
      joined,
      ne_eqb (length (lead ++ (text ++ rest))) 0 (λ e. omega arith),
      delta_spelled place has lead delta (text ++ rest) d,
      ne_eqb (length (lead ++ (text ++ rest))) (length lead) (λ e. omega arith),
      drop_front lead (text ++ rest),
      what_spelled (place + length lead) running text what rest w,
    ) refl
  where
    drop_front : (xs ys : List ℕ) → drop (length xs) (xs ++ ys) ≡ ys
    drop_front [] ys = refl
    drop_front (x ∷ xs) ys = drop_front xs ys

-- where a list ends with a delta field, no further item is read
pub field_ends : (place : ℕ) (running : Option ℕ) (text : List ℕ) → IsField text → item_read place false running text ≡ found None
unfolding item_read
field_ends place running text h =
    let whole : delta_at text ≡ Ok (value text, length text) = field_is_read text text [] (sym (append-nil text)) h in
    elim (cases_Bool (eqb (length text) 0)) [
      | inl t ↦ rw t refl
      | inr f ↦ rw (f, whole, eq-eqb (length text) (length text) refl) refl
    ]

-- ## What is read is spelled

-- the text of this item stands at the front
pub record ReadsItem (bare : Bool) (running : Option ℕ) (octets : List ℕ) (item : Item) (used : ℕ) : Type 0 where
  pub lead : List ℕ
  pub text : List ℕ
  pub rest : List ℕ
  pub split : octets ≡ (lead ++ text) ++ rest
  pub timed : SpellsDelta (not bare) lead item.delta
  pub spelled : SpellsWhat running text item.what
  pub used_is : used ≡ length (lead ++ text)
  pub some : 1 ≤ used

-- a delta was read from the front
pub record ReadsDelta (bare : Bool) (octets : List ℕ) (delta used : ℕ) : Type 0 where
  pub timed : SpellsDelta (not bare) (take used octets) delta
  pub inside : used ≤ length octets

abbrev got : ℕ × ℕ → Result (ℕ × ℕ) SectionFault
got read = Ok read

same_read : (x y : ℕ × ℕ) → got x ≡ got y → x ≡ y
same_read x y e = cc

field_found : (place : ℕ) (octets : List ℕ) (delta used : ℕ) (read : Result (ℕ × ℕ) DeltaFault) → read ≡ delta_at octets → field_read place read ≡ got (delta, used) → ReadsDelta false octets delta used
field_found place octets delta used (Err f) e h = absurd cc
field_found place octets delta used (Ok x) e h =
    let r = read_as octets (Ok x) e in
    let made : ReadsDelta false octets x.0 x.1 = record {
      timed = subst (λ (n : ℕ). SpellsDelta true (take x.1 octets) n) r.value_is (field (take x.1 octets) r.field);
      inside = r.inside;
    } in
    subst (λ (y : ℕ × ℕ). ReadsDelta false octets y.0 y.1) (same_read x (delta, used) h) made

pub delta_found : (place : ℕ) (bare : Bool) (octets : List ℕ) (delta used : ℕ) → delta_read place bare octets ≡ got (delta, used) → ReadsDelta bare octets delta used
delta_found place true octets delta used h =
    subst (λ (y : ℕ × ℕ). ReadsDelta true octets y.0 y.1) (same_read (0, 0) (delta, used) h) (record { timed = no_field; inside = omega arith })
delta_found place false octets delta used h = field_found place octets delta used (delta_at octets) refl h

-- what follows the delta field
abbrev pub behind_delta : ℕ → Option ℕ → List ℕ → ℕ × ℕ → Result (Option (Item × ℕ)) SectionFault
behind_delta place running octets delta =
    cond (eqb (length octets) delta.1) (Ok None)
    (what_read (place + delta.1) running (drop delta.1 octets) >>= λ what. Ok (Some (record { delta = delta.0; what = what.0 }, delta.1 + what.1)))

pub item_read-some : (place : ℕ) (bare : Bool) (running : Option ℕ) (octets : List ℕ) → eqb (length octets) 0 ≡ false
    → item_read place bare running octets ≡ (delta_read place bare octets >>= behind_delta place running octets)
unfolding item_read
item_read-some place bare running octets e = rw e refl

pub item_read-none : (place : ℕ) (bare : Bool) (running : Option ℕ) (octets : List ℕ) → eqb (length octets) 0 ≡ true → item_read place bare running octets ≡ found None
unfolding item_read
item_read-none place bare running octets e = rw e refl

same_item : (x y : Item × ℕ) → found (Some x) ≡ found (Some y) → x ≡ y
same_item x y e = cc

what_behind : (place k : ℕ) (bare : Bool) (running : Option ℕ) (octets : List ℕ) (what : What) (n : ℕ) (delta : ℕ) → IsRunning running → ReadsDelta bare octets delta k → k < length octets
    → what_read (place + k) running (drop k octets) ≡ Ok (what, n) → ReadsItem bare running octets (record { delta = delta; what = what }) (k + n)
what_behind place k bare running octets what n delta r d inside h =
    let front : drop k octets ≡ get_or octets k 0 ∷ drop (suc k) octets = drop-cons octets k 0 inside in
    let w : ReadsWhat running (drop k octets) what n = rw front (what_found (place + k) running (get_or octets k 0) (drop (suc k) octets) what n r (rw front at h)) in
    let lead_len : length (take k octets) ≡ k = length-take-le k octets d.inside in
    record {
      lead = take k octets;
      text = w.text;
      rest = w.rest;
      split = sym (take-append-drop k octets) ∙ ap (λ (t : List ℕ). take k octets ++ t) w.split ∙ sym (append_assoc (take k octets) w.text w.rest);
      timed = d.timed;
      spelled = w.spelled;
      used_is = omega (arith, length-append (take k octets) w.text, w.used_is, lead_len);
      some = omega (arith, w.some);
    }

found_behind : (place k : ℕ) (bare : Bool) (running : Option ℕ) (octets : List ℕ) (delta : ℕ) (item : Item) (used : ℕ) (read : Result (What × ℕ) SectionFault) → IsRunning running → ReadsDelta bare octets delta k → k < length octets
    → what_read (place + k) running (drop k octets) ≡ read → (read >>= λ what. Ok (Some (record { delta = delta; what = what.0 }, k + what.1))) ≡ found (Some (item, used)) → ReadsItem bare running octets item used
found_behind place k bare running octets delta item used (Err f) r d inside e h = absurd cc
found_behind place k bare running octets delta item used (Ok x) r d inside e h =
    subst (λ (y : Item × ℕ). ReadsItem bare running octets y.0 y.1) (same_item (record { delta = delta; what = x.0 }, k + x.1) (item, used) h) (what_behind place k bare running octets x.0 x.1 delta r d inside e)

delta_behind : (place : ℕ) (bare : Bool) (running : Option ℕ) (octets : List ℕ) (item : Item) (used : ℕ) (read : Result (ℕ × ℕ) SectionFault) → IsRunning running
    → delta_read place bare octets ≡ read → (read >>= behind_delta place running octets) ≡ found (Some (item, used)) → ReadsItem bare running octets item used
delta_behind place bare running octets item used (Err f) r e h = absurd cc
delta_behind place bare running octets item used (Ok x) r e h =
    elim (cases_Bool (eqb (length octets) x.1)) [
      | inl t ↦ let never = rw t at h in absurd cc
      | inr f ↦
          let d = delta_found place bare octets x.0 x.1 e in
          let apart : length octets ≡ x.1 → ⊥ = eqb-false (length octets) x.1 f in
          let inside : x.1 < length octets = omega (arith, d.inside) in
          found_behind place x.1 bare running octets x.0 item used (what_read (place + x.1) running (drop x.1 octets)) r d inside refl (rw f at h)
    ]

-- an item that is read is spelled at the front
pub item_found : (place : ℕ) (bare : Bool) (running : Option ℕ) (octets : List ℕ) (item : Item) (used : ℕ) → IsRunning running → item_read place bare running octets ≡ found (Some (item, used))
    → ReadsItem bare running octets item used
item_found place bare running octets item used r h =
    elim (cases_Bool (eqb (length octets) 0)) [
      | inl t ↦ let never = item_read-none place bare running octets t in absurd cc
      | inr f ↦ delta_behind place bare running octets item used (delta_read place bare octets) r refl (sym (item_read-some place bare running octets f) ∙ h)
    ]

-- nothing is left, or a delta field alone
pub data ListEnds (bare : Bool) (octets : List ℕ) : Type 0 where
  all_read : octets ≡ [] → ListEnds bare octets
  a_field : bare ≡ false → IsField octets → ListEnds bare octets

none_behind : (read : Result (What × ℕ) SectionFault) (delta k : ℕ) → (read >>= λ what. Ok (Some (record { delta = delta; what = what.0 }, k + what.1))) ≡ found None → ⊥
none_behind (Err f) delta k h = cc
none_behind (Ok x) delta k h = cc

delta_ends : (place : ℕ) (bare : Bool) (running : Option ℕ) (octets : List ℕ) (read : Result (ℕ × ℕ) SectionFault) → eqb (length octets) 0 ≡ false
    → delta_read place bare octets ≡ read → (read >>= behind_delta place running octets) ≡ found None → ListEnds bare octets
delta_ends place bare running octets (Err f) some e h = absurd cc
delta_ends place true running octets (Ok x) some e h =
    let nothing : (0, 0) ≡ x = same_read (0, 0) x e in
    let k : x.1 ≡ 0 = ap (λ (y : ℕ × ℕ). y.1) (sym nothing) in
    let other : eqb (length octets) x.1 ≡ false = rw k some in
    absurd (none_behind (what_read (place + x.1) running (drop x.1 octets)) x.0 x.1 (rw other at h))
delta_ends place false running octets (Ok x) some e h =
    elim (cases_Bool (eqb (length octets) x.1)) [
      | inl t ↦ a_field refl (whole_field place octets x (eqb-true (length octets) x.1 t) e)
      | inr f ↦ absurd (none_behind (what_read (place + x.1) running (drop x.1 octets)) x.0 x.1 (rw f at h))
    ]
  where
    is_field : (place : ℕ) (octets : List ℕ) (x : ℕ × ℕ) (read : Result (ℕ × ℕ) DeltaFault) → read ≡ delta_at octets → field_read place read ≡ got x → length octets ≡ x.1 → IsField octets
    is_field place octets x (Err f) e h len = absurd cc
    is_field place octets x (Ok y) e h len =
        let same : y ≡ x = same_read y x h in
        let all : y.1 ≡ length octets = ap (λ (z : ℕ × ℕ). z.1) same ∙ sym len in
        let r = read_as octets (Ok y) e in
        subst (λ (t : List ℕ). IsField t) (ap (λ (n : ℕ). take n octets) all ∙ take-length octets) r.field

    whole_field : (place : ℕ) (octets : List ℕ) (x : ℕ × ℕ) → length octets ≡ x.1 → delta_read place false octets ≡ got x → IsField octets
    whole_field place octets x len e = is_field place octets x (delta_at octets) refl e len

pub list_ends : (place : ℕ) (bare : Bool) (running : Option ℕ) (octets : List ℕ) → item_read place bare running octets ≡ found None → ListEnds bare octets
list_ends place bare running octets h =
    elim (cases_Bool (eqb (length octets) 0)) [
      | inl t ↦ all_read (nil_from_length octets (eqb-true (length octets) 0 t))
      | inr f ↦ delta_ends place bare running octets (delta_read place bare octets) f refl (sym (item_read-some place bare running octets f) ∙ h)
    ]
