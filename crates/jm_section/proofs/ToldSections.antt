-- The fault of a section that is told is the first one.
use Rattle.std.proofs.Common.{◌≡◌, ℕ, zero, suc, ◌+◌, ◌≤◌, ◌<◌, Bool, true, false, not, cond, eqb, ltb, List, [], ◌∷◌, ◌++◌, drop, take, get_or, length, Option, Some, None, Result, Ok, Err, refl, sym, ap, subst, ◌∙◌, append_assoc, length-append, length-drop, drop-cons, arith, inl, inr, IfErr}
use Rattle.std.specs.Prelude.{◌≢◌}
use Rattle.std.proofs.lemmas.Bool.{ltb-true, ltb-false, eqb-false, cases_Bool}
use Rattle.std.proofs.lemmas.List.{take-append-drop, length-take-le}
use Rattle.jm_cmds.specs.declared.outcome.ReadError.{ReadError}
use Rattle.jm_cmds.specs.declared.outcome.ReadError.TheVariants as errors
use Rattle.jm_wire.specs.declared.delta.DeltaFault.{DeltaFault}
use Rattle.jm_wire.specs.Delta.{delta_at, IsField}
use Rattle.jm_wire.specs.DeltaReading.{field_is_read}
use Rattle.jm_section.specs.declared.item.Item.{Item}
use Rattle.jm_section.specs.declared.item.What.{What}
use Rattle.jm_section.specs.declared.header.Head.{Head}
use Rattle.jm_section.specs.declared.reading.Section.{Section}
use Rattle.jm_section.specs.declared.reading.SectionFault.{SectionFault}
use Rattle.jm_section.specs.declared.reading.SectionFault.TheVariants.{Short, NoStatus, BadCommand, BadDelta}
use Rattle.jm_section.specs.Grammar.{nothing, SpellsDelta, has_field, running_behind, running_of}
use Rattle.jm_wire.specs.Readers.{◌>>=◌}
use Rattle.jm_section.specs.Reading.{GivesBy, before_others, what_read, field_read, delta_read, item_read, items_read, head_read, section_read, section_view}
use Rattle.jm_section.specs.Faults.{StandsAt, IsShort, IsFault, IsTold, is_short, bad_delta, no_status, bad_command}
use Rattle.jm_section.proofs.Items.{ReadsDelta, delta_found, behind_delta, item_read-some, item_read-none, ReadsItem, item_found}
use Rattle.jm_section.proofs.Lists.{joins, running_from-running, running_from-push, has_field-push, not_back}
use Rattle.jm_section.proofs.Sections.{HeadFound, head_spelled, head_found, drop_front}
use Rattle.jm_section.proofs.Refused.{head_fault, section_refused}
use Rattle.jm_section.proofs.Told.{WhatFault, without, wrong, what_faulty}

abbrev item_refused : SectionFault → Result (Option (Item × ℕ)) SectionFault
item_refused fault = Err fault

abbrev items_refused : SectionFault → Result (List Item) SectionFault
items_refused fault = Err fault

abbrev head_refused : SectionFault → Result Head SectionFault
head_refused fault = Err fault

abbrev head_ok : Head → Result Head SectionFault
head_ok head = Ok head

abbrev delta_is : DeltaFault → Result (ℕ × ℕ) DeltaFault
delta_is d = Err d

same_fault : (x y : SectionFault) → item_refused x ≡ item_refused y → x ≡ y
same_fault x y e = cc

-- ## One item

-- what is wrong behind a delta
fault_here : (octets : List ℕ) (place k : ℕ) (has : Bool) (running : Option ℕ) (lead text : List ℕ) (delta : ℕ) (fault : SectionFault) → StandsAt octets place has running (lead ++ text) → SpellsDelta has lead delta
    → length lead ≡ k → WhatFault (place + k) running text fault → IsFault octets fault
fault_here octets place k has running lead text delta fault s d len (without first rest r low) =
    let s' : StandsAt octets place has None (lead ++ first ∷ rest) = subst (λ (o : Option ℕ). StandsAt octets place has o (lead ++ first ∷ rest)) r s in
    subst (λ (n : ℕ). IsFault octets (NoStatus (place + n))) len (no_status place has lead delta first rest s' d low)
fault_here octets place k has running lead text delta fault s d len (wrong other f b) =
    subst (λ (n : ℕ). IsFault octets (BadCommand (place + n) f)) len (bad_command place has running lead text delta f s d b)

what_here : (octets : List ℕ) (place k : ℕ) (has : Bool) (running : Option ℕ) (left : List ℕ) (delta : ℕ) (fault : SectionFault) (read : Result (What × ℕ) SectionFault) → StandsAt octets place has running left
    → ReadsDelta (not has) left delta k → k < length left → what_read (place + k) running (drop k left) ≡ read
    → (read >>= λ what. Ok (Some (record { delta = delta; what = what.0 }, k + what.1))) ≡ item_refused fault → IsFault octets fault
what_here octets place k has running left delta fault (Ok x) s d inside e h = absurd cc
what_here octets place k has running left delta fault (Err g) s d inside e h =
    let same : g ≡ fault = same_fault g fault h in
    let front : drop k left ≡ get_or left k 0 ∷ drop (suc k) left = drop-cons left k 0 inside in
    let w : WhatFault (place + k) running (drop k left) g = rw front (what_faulty (place + k) running (get_or left k 0) (drop (suc k) left) g (rw front at e)) in
    let s' : StandsAt octets place has running (take k left ++ drop k left) = subst (λ (t : List ℕ). StandsAt octets place has running t) (sym (take-append-drop k left)) s in
    let timed : SpellsDelta has (take k left) delta = subst (λ (b : Bool). SpellsDelta b (take k left) delta) (not_back has) d.timed in
    subst (IsFault octets) same (fault_here octets place k has running (take k left) (drop k left) delta g s' timed (length-take-le k left d.inside) w)

delta_here : (octets : List ℕ) (place : ℕ) (has : Bool) (running : Option ℕ) (left : List ℕ) (fault : SectionFault) (x : ℕ × ℕ) → StandsAt octets place has running left → delta_read place (not has) left ≡ Ok x
    → behind_delta place running left x ≡ item_refused fault → IsFault octets fault
delta_here octets place has running left fault x s e h =
    let d = delta_found place (not has) left x.0 x.1 e in
    elim (cases_Bool (eqb (length left) x.1)) [
      | inl t ↦ let never = rw t at h in absurd cc
      | inr f ↦
          let apart : length left ≡ x.1 → ⊥ = eqb-false (length left) x.1 f in
          let inside : x.1 < length left = omega (arith, d.inside) in
          what_here octets place x.1 has running left x.0 fault (what_read (place + x.1) running (drop x.1 left)) s d inside refl (rw f at h)
    ]

no_field_at : (left : List ℕ) (d : DeltaFault) → delta_is d ≡ delta_at left → (text more : List ℕ) → left ≡ text ++ more → IsField text → ⊥
no_field_at left d e text more split h = let read = field_is_read left text more split h in cc

field_here : (octets : List ℕ) (place : ℕ) (running : Option ℕ) (left : List ℕ) (fault : SectionFault) (read : Result (ℕ × ℕ) DeltaFault) → StandsAt octets place true running left → left ≢ [] → read ≡ delta_at left
    → (field_read place read >>= behind_delta place running left) ≡ item_refused fault → IsFault octets fault
field_here octets place running left fault (Ok x) s some e h = delta_here octets place true running left fault x s (ap (field_read place) (sym e)) h
field_here octets place running left fault (Err d) s some e h =
    subst (IsFault octets) (same_fault (BadDelta place) fault h) (bad_delta place running left s some (no_field_at left d e))

item_here : (octets : List ℕ) (place : ℕ) (has : Bool) (running : Option ℕ) (left : List ℕ) (fault : SectionFault) → StandsAt octets place has running left → left ≢ []
    → (delta_read place (not has) left >>= behind_delta place running left) ≡ item_refused fault → IsFault octets fault
item_here octets place true running left fault s some h = field_here octets place running left fault (delta_at left) s some refl h
item_here octets place false running left fault s some h = delta_here octets place false running left fault (0, 0) s refl h

pub item_faulty : (octets : List ℕ) (place : ℕ) (has : Bool) (running : Option ℕ) (left : List ℕ) (fault : SectionFault) → StandsAt octets place has running left → item_read place (not has) running left ≡ item_refused fault → IsFault octets fault
item_faulty octets place has running left fault s h =
    elim (cases_Bool (eqb (length left) 0)) [
      | inl t ↦ let never = item_read-none place (not has) running left t in absurd cc
      | inr f ↦ item_here octets place has running left fault s (λ e. eqb-false (length left) 0 f (ap length e)) (sym (item_read-some place (not has) running left f) ∙ h)
    ]

-- ## Lists

-- behind one more item
moved : (octets : List ℕ) (place : ℕ) (has : Bool) (running : Option ℕ) (left : List ℕ) (item : Item) (used : ℕ) → (s : StandsAt octets place has running left)
    → (r : ReadsItem (not (has_field s.head.bare s.items)) (running_of s.items) left item used) → StandsAt octets (place + used) true (running_behind running item.what) r.rest
moved octets place has running left item used s r =
    let text : List ℕ = r.lead ++ r.text in
    let list : s.front ++ left ≡ (s.front ++ text) ++ r.rest = ap (λ (t : List ℕ). s.front ++ t) r.split ∙ sym (append_assoc s.front text r.rest) in
    record {
      head = s.head;
      head_text = s.head_text;
      front = s.front ++ text;
      items = s.items ++ item ∷ [];
      behind = s.behind;
      split = s.split ∙ ap (λ (t : List ℕ). s.head_text ++ (t ++ s.behind)) list;
      headed = s.headed;
      len_is = ap length (sym list) ∙ s.len_is;
      spelled = joins s.head.bare s.front s.items left item used s.spelled r;
      has_is = sym (has_field-push s.head.bare s.items item);
      running_is = ap (λ (o : Option ℕ). running_behind o item.what) s.running_is ∙ sym (running_from-push None s.items item);
      place_is = omega (arith, s.place_is, r.used_is, length-append s.front text);
    }

-- what at most n further items come to
abbrev LaterFault : List ℕ → ℕ → Type 0
LaterFault octets n =
    (place : ℕ) (has : Bool) (running : Option ℕ) (left : List ℕ) (fault : SectionFault) → StandsAt octets place has running left → length left ≤ n
    → items_read n place (not has) running left ≡ items_refused fault → IsFault octets fault

others_refused : (item : Item) (read : Result (List Item) SectionFault) (fault : SectionFault) → (read >>= λ others. Ok (item ∷ others)) ≡ items_refused fault → read ≡ items_refused fault
others_refused item (Ok others) fault h = absurd cc
others_refused item (Err f) fault h = ap items_refused (same_items_fault f fault h)
  where
    same_items_fault : (x y : SectionFault) → items_refused x ≡ items_refused y → x ≡ y
    same_items_fault x y e = cc

some_faulty : (octets : List ℕ) (n place : ℕ) (has : Bool) (running : Option ℕ) (left : List ℕ) (fault : SectionFault) (item : Item) (used : ℕ) → LaterFault octets n → StandsAt octets place has running left
    → length left ≤ suc n → item_read place (not has) running left ≡ Ok (Some (item, used))
    → (items_read n (place + used) false (running_behind running item.what) (drop used left) >>= λ others. Ok (item ∷ others)) ≡ items_refused fault → IsFault octets fault
some_faulty octets n place has running left fault item used later s few e h =
    let known : item_read place (not (has_field s.head.bare s.items)) (running_of s.items) left ≡ Ok (Some (item, used)) = rw (← s.has_is, ← s.running_is) e in
    let r = item_found place (not (has_field s.head.bare s.items)) (running_of s.items) left item used (running_from-running None s.items tt) known in
    let text : List ℕ = r.lead ++ r.text in
    let behind : drop used left ≡ r.rest = ap (drop used) r.split ∙ drop_front text r.rest used r.used_is in
    let len : length left ≡ length text + length r.rest = ap length r.split ∙ length-append text r.rest in
    let h' = others_refused item (items_read n (place + used) false (running_behind running item.what) (drop used left)) fault h in
    later (place + used) true (running_behind running item.what) r.rest fault (moved octets place has running left item used s r) (omega (arith, r.some, r.used_is)) (rw behind at h')

next_faulty : (octets : List ℕ) (n place : ℕ) (has : Bool) (running : Option ℕ) (left : List ℕ) (fault : SectionFault) (read : Result (Option (Item × ℕ)) SectionFault) → LaterFault octets n → StandsAt octets place has running left
    → length left ≤ suc n → item_read place (not has) running left ≡ read
    → (read >>= λ x. before_others x (λ y. items_read n (place + y.1) false (running_behind running y.0.what) (drop y.1 left))) ≡ items_refused fault → IsFault octets fault
next_faulty octets n place has running left fault (Err f) later s few e h =
    subst (IsFault octets) (same_list_fault f fault h) (item_faulty octets place has running left f s e)
  where
    same_list_fault : (x y : SectionFault) → items_refused x ≡ items_refused y → x ≡ y
    same_list_fault x y e = cc
next_faulty octets n place has running left fault (Ok None) later s few e h = absurd cc
next_faulty octets n place has running left fault (Ok (Some x)) later s few e h = some_faulty octets n place has running left fault x.0 x.1 later s few e h

fault_from : (octets : List ℕ) (n : ℕ) → LaterFault octets n
unfolding items_read
fault_from octets zero place has running left fault s few h = absurd cc
fault_from octets (suc n) place has running left fault s few h =
    next_faulty octets n place has running left fault (item_read place (not has) running left) (fault_from octets n) s few refl h

-- ## Sections

section_fault : (x y : SectionFault) → section_refused x ≡ section_refused y → x ≡ y
section_fault x y e = cc

-- no header at all
no_head_short : (octets : List ℕ) (f : SectionFault) → head_refused f ≡ head_read octets → IsShort octets
no_head_short octets f e head_text list behind head split headed len =
    let read = (head_spelled head_text head (list ++ behind) headed).read in
    let known : head_read octets ≡ Ok head = rw split read in
    absurd cc

same_head : (x y : Head) → head_ok x ≡ head_ok y → x ≡ y
same_head x y e = cc

-- too few octets behind the header
too_short : (octets : List ℕ) (head : Head) → head_read octets ≡ head_ok head → length octets < head.size + head.len → IsShort octets
too_short octets head e few head_text list behind other split headed len =
    let h = head_spelled head_text other (list ++ behind) headed in
    let same : head ≡ other = same_head head other (sym e ∙ ap head_read split ∙ h.read) in
    let size : length head_text ≡ head.size = h.size_is ∙ ap (λ (x : Head). x.size) (sym same) in
    let inside : length list ≡ head.len = len ∙ ap (λ (x : Head). x.len) (sym same) in
    let parts : length octets ≡ length head_text + (length list + length behind) = ap length split ∙ simp length-append in
    absurd (omega arith)

-- reading begins behind the header
begins : (octets : List ℕ) (head : Head) → HeadFound octets head → head.size + head.len ≤ length octets → StandsAt octets head.size (not head.bare) None (take head.len (drop head.size octets))
begins octets head f enough =
    let behind : drop head.size octets ≡ f.rest = ap (drop head.size) f.split ∙ drop_front f.text f.rest head.size (sym f.size_is) in
    let inside : head.len ≤ length (drop head.size octets) = omega (arith, length-drop head.size octets) in
    record {
      head = head;
      head_text = f.text;
      front = [];
      items = [];
      behind = drop head.len (drop head.size octets);
      split = f.split ∙ ap (λ (t : List ℕ). f.text ++ t) (sym behind ∙ sym (take-append-drop head.len (drop head.size octets)));
      headed = f.spelled;
      len_is = length-take-le head.len (drop head.size octets) inside;
      spelled = nothing;
      has_is = at_first head.bare;
      running_is = refl;
      place_is = omega (arith, f.size_is);
    }
  where
    at_first : (b : Bool) → not b ≡ has_field b []
    at_first true = refl
    at_first false = refl

items_faulty : (octets : List ℕ) (head : Head) (fault : SectionFault) (read : Result (List Item) SectionFault) → HeadFound octets head → head.size + head.len ≤ length octets
    → items_read head.len head.size head.bare None (take head.len (drop head.size octets)) ≡ read
    → (read >>= λ items. Ok (record { items = items; journal = head.journal; used = head.size + head.len })) ≡ section_refused fault → IsFault octets fault
items_faulty octets head fault (Ok items) found enough e h = absurd cc
items_faulty octets head fault (Err f) found enough e h =
    let left = take head.len (drop head.size octets) in
    let len : length left ≤ head.len = omega (arith, length-take-le head.len (drop head.size octets) (omega (arith, length-drop head.size octets))) in
    subst (IsFault octets) (section_fault f fault h)
    (fault_from octets head.len head.size (not head.bare) None left f (begins octets head found enough) len (rw (not_back head.bare) e))

head_faulty : (octets : List ℕ) (fault : SectionFault) (read : Result Head SectionFault) → head_read octets ≡ read
    → (read >>= λ head. cond (ltb (length octets) (head.size + head.len)) (Err Short)
    (items_read head.len head.size head.bare None (take head.len (drop head.size octets)) >>= λ items. Ok (record { items = items; journal = head.journal; used = head.size + head.len }))) ≡ section_refused fault
    → IsFault octets fault
head_faulty octets fault (Err f) e h =
    subst (IsFault octets) (sym (head_fault octets f e) ∙ section_fault f fault h) (is_short (no_head_short octets f (sym e)))
head_faulty octets fault (Ok head) e h =
    elim (cases_Bool (ltb (length octets) (head.size + head.len))) [
      | inl t ↦ subst (IsFault octets) (section_fault Short fault (rw t at h)) (is_short (too_short octets head e (ltb-true (length octets) (head.size + head.len) t)))
      | inr f ↦
          items_faulty octets head fault (items_read head.len head.size head.bare None (take head.len (drop head.size octets))) (head_found octets head e) (ltb-false (length octets) (head.size + head.len) f) refl (rw f at h)
    ]

pub is_first : (octets : List ℕ) (fault : SectionFault) → section_read octets ≡ section_refused fault → IsFault octets fault
unfolding section_read
is_first octets fault h = head_faulty octets fault (head_read octets) refl h

-- what a reader told
pub is_told : (octets : List ℕ) (r : Result Section (ReadError SectionFault)) → GivesBy section_view r (section_read octets) → IfErr r (IsTold octets)
is_told octets (Ok s) given = tt
is_told octets (Err errors.Memory) given = tt
is_told octets (Err (errors.Fault f)) given = is_first octets f given
