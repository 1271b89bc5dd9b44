-- Whole lists: what is spelled is read, and what is read is spelled.
use Rattle.std.proofs.Common.{◌≡◌, ℕ, zero, suc, ◌-◌, ◌+◌, ◌≤◌, Bool, true, false, not, ltb, List, [], ◌∷◌, ◌++◌, drop, length, Option, Some, None, Result, Ok, Err, refl, sym, ap, subst, ◌∙◌, append_assoc, length-append, arith, inl, inr}
use Rattle.std.proofs.lemmas.Bool.{ltb-true, cases_Bool}
use Rattle.std.proofs.lemmas.List.{append-nil, nil_from_length}
use Rattle.jm_cmds.specs.Command.{status_of}
use Rattle.jm_section.specs.declared.item.Item.{Item}
use Rattle.jm_section.specs.declared.item.What.{What}
use Rattle.jm_section.specs.declared.item.What.TheVariants.{Whole, Part, Passed}
use Rattle.jm_section.specs.declared.reading.SectionFault.{SectionFault}
use Rattle.jm_section.specs.Running.{running_after}
use Rattle.jm_section.specs.Grammar.{SpellsDelta, Spells, nothing, one_more, SpellsList, ends_with_item, ends_with_delta, has_field, running_behind, running_from, running_of}
use Rattle.jm_wire.specs.Readers.{◌>>=◌}
use Rattle.jm_section.specs.Reading.{before_others, item_read, items_read}
use Rattle.jm_section.proofs.Loop.{with_front, regroup}
use Rattle.jm_section.proofs.Found.{IsRunning}
use Rattle.jm_section.proofs.Items.{what_some, item_spelled, field_ends, ReadsItem, item_found, ListEnds, all_read, a_field, list_ends}

abbrev items_are : List Item → Result (List Item) SectionFault
items_are items = Ok items

-- ## The state behind some items

running_after-running : (running : Option ℕ) (status : ℕ) → IsRunning running → IsRunning (running_after running status)
running_after-running running status h =
    elim (cases_Bool (ltb status 240)) [
      | inl t ↦ rw t (ltb-true status 240 t)
      | inr f ↦ elim (cases_Bool (ltb status 248)) [ inl t ↦ rw (f, t) tt | inr g ↦ rw (f, g) h ]
    ]

pub running_behind-running : (running : Option ℕ) (what : What) → IsRunning running → IsRunning (running_behind running what)
running_behind-running running (Whole command) h = running_after-running running (status_of command) h
running_behind-running running (Part kind octets) h = tt
running_behind-running running (Passed octet) h = running_after-running running octet h

pub running_from-running : (running : Option ℕ) (items : List Item) → IsRunning running → IsRunning (running_from running items)
running_from-running running [] h = h
running_from-running running (item ∷ items) h = running_from-running (running_behind running item.what) items (running_behind-running running item.what h)

pub running_from-push : (running : Option ℕ) (items : List Item) (item : Item) → running_from running (items ++ item ∷ []) ≡ running_behind (running_from running items) item.what
running_from-push running [] item = refl
running_from-push running (first ∷ items) item = running_from-push (running_behind running first.what) items item

pub has_field-push : (bare : Bool) (items : List Item) (item : Item) → has_field bare (items ++ item ∷ []) ≡ true
has_field-push bare [] item = refl
has_field-push bare (first ∷ items) item = refl

pub at_front : (bare : Bool) → not (has_field bare []) ≡ bare
at_front true = refl
at_front false = refl

-- ## What is spelled is read

items_read-step : (m place : ℕ) (bare : Bool) (running : Option ℕ) (octets : List ℕ) (item : Item) (used : ℕ) → item_read place bare running octets ≡ Ok (Some (item, used))
    → items_read (suc m) place bare running octets ≡ (items_read m (place + used) false (running_behind running item.what) (drop used octets) >>= λ items. Ok (item ∷ items))
unfolding items_read
items_read-step m place bare running octets item used e = rw e refl

with_nothing : (read : Result (List Item) SectionFault) → read ≡ with_front [] read
with_nothing (Ok items) = refl
with_nothing (Err f) = refl

drop_front : (xs ys : List ℕ) (n : ℕ) → n ≡ length xs → drop n (xs ++ ys) ≡ ys
drop_front [] ys n e = rw e refl
drop_front (x ∷ xs) ys n e = rw e (drop_front xs ys (length xs) refl)

-- Behind items that are spelled, reading goes on with the running status that they leave.
pub resumes : (bare : Bool) (front : List ℕ) (items : List Item) → Spells bare front items → (m place : ℕ) (rest : List ℕ)
    → items_read (length items + m) place bare None (front ++ rest) ≡ with_front items (items_read m (place + length front) (not (has_field bare items)) (running_of items) rest)
resumes bare front items nothing m place rest =
    let zero_more : 0 + m ≡ m = omega arith in
    let same : place + 0 ≡ place = omega arith in
    rw (zero_more, same, at_front bare) (with_nothing (items_read m place bare None rest))
resumes bare front items (one_more fore before lead text delta what s d w) m place rest =
    let item : Item = record { delta = delta; what = what } in
    let running = running_of before in
    let has = has_field bare before in
    let at : ℕ = place + length fore in
    let count : length (before ++ item ∷ []) + m ≡ length before + suc m = simp length-append (omega arith) in
    let joined : (fore ++ (lead ++ text)) ++ rest ≡ fore ++ ((lead ++ text) ++ rest) = append_assoc fore (lead ++ text) rest in
    let used : length lead + length text ≡ length (lead ++ text) = sym (length-append lead text) in
    let place_is : at + (length lead + length text) ≡ place + length (fore ++ (lead ++ text)) = simp length-append (omega arith) in
    let left : drop (length lead + length text) ((lead ++ text) ++ rest) ≡ rest = drop_front (lead ++ text) rest (length lead + length text) used in
    let step = items_read-step m at (not has) running ((lead ++ text) ++ rest) item (length lead + length text) (item_spelled at has running lead text rest delta what d w) in
    let later = items_read m (at + (length lead + length text)) false (running_behind running what) rest in
    let one : items_read (length (before ++ item ∷ []) + m) place bare None ((fore ++ (lead ++ text)) ++ rest) ≡ with_front before (items_read (suc m) at (not has) running ((lead ++ text) ++ rest)) =
    rw (count, joined) (resumes bare fore before s (suc m) place ((lead ++ text) ++ rest)) in
    let two : with_front before (items_read (suc m) at (not has) running ((lead ++ text) ++ rest)) ≡ with_front (before ++ item ∷ []) later =
    rw (step, left) (regroup before item later) in
    one ∙ two ∙ rw (place_is, has_field-push bare before item, running_from-push None before item) refl

pub items_few : (bare : Bool) (front : List ℕ) (items : List Item) → Spells bare front items → length items ≤ length front
items_few bare front items nothing = omega arith
items_few bare front items (one_more fore before lead text delta what s d w) =
    simp length-append (omega (arith, items_few bare fore before s, what_some (running_of before) text what w))

nothing_left : (m place : ℕ) (bare : Bool) (running : Option ℕ) → items_read m place bare running [] ≡ items_are []
unfolding items_read item_read
nothing_left zero place bare running = refl
nothing_left (suc m) place bare running = refl

ends_there : (m place : ℕ) (bare : Bool) (running : Option ℕ) (octets : List ℕ) → item_read place bare running octets ≡ Ok None → items_read m place bare running octets ≡ items_are []
unfolding items_read
ends_there zero place bare running octets e = refl
ends_there (suc m) place bare running octets e = rw e refl

-- a list that is spelled is read
pub list_spelled : (bare : Bool) (octets : List ℕ) (items : List Item) (place : ℕ) → SpellsList bare octets items → items_read (length octets) place bare None octets ≡ items_are items
list_spelled bare octets items place (ends_with_item front all s) =
    let m = length front - length all in
    let few = items_few bare front all s in
    let count : length front ≡ length all + m = omega arith in
    let whole : front ≡ front ++ [] = sym (append-nil front) in
    let one : items_read (length all + m) place bare None (front ++ []) ≡ items_are (all ++ []) =
    resumes bare front all s m place [] ∙ ap (with_front all) (nothing_left m (place + length front) (not (has_field bare all)) (running_of all)) in
    ap (λ (n : ℕ). items_read n place bare None front) count ∙ ap (items_read (length all + m) place bare None) whole ∙ one ∙ ap items_are (append-nil all)
list_spelled bare octets items place (ends_with_delta front text all s has h) =
    let m = length (front ++ text) - length all in
    let few = items_few bare front all s in
    let len : length (front ++ text) ≡ length front + length text = length-append front text in
    let count : length (front ++ text) ≡ length all + m = omega arith in
    let behind : not (has_field bare all) ≡ false = ap not has in
    let ended : items_read m (place + length front) false (running_of all) text ≡ items_are [] = ends_there m (place + length front) false (running_of all) text (field_ends (place + length front) (running_of all) text h) in
    let one : items_read (length all + m) place bare None (front ++ text) ≡ items_are (all ++ []) =
    resumes bare front all s m place text ∙ rw behind (ap (with_front all) ended) in
    ap (λ (n : ℕ). items_read n place bare None (front ++ text)) count ∙ one ∙ ap items_are (append-nil all)

-- ## What is read is spelled

same_items : (x y : List Item) → items_are x ≡ items_are y → x ≡ y
same_items x y e = cc

first_of : (item : Item) (read : Result (List Item) SectionFault) (items : List Item) → (read >>= λ others. Ok (item ∷ others)) ≡ items_are items
    → (others : List Item) × (read ≡ items_are others) × (item ∷ others ≡ items)
first_of item (Ok others) items e = (others, refl, same_items (item ∷ others) items e)
first_of item (Err f) items e = absurd cc

-- the list so far, and how it ends
ends_with : (bare : Bool) (front rest : List ℕ) (before : List Item) → Spells bare front before → ListEnds (not (has_field bare before)) rest → SpellsList bare (front ++ rest) before
ends_with bare front rest before s (all_read e) =
    subst (λ (t : List ℕ). SpellsList bare t before) (sym (append-nil front) ∙ ap (λ (t : List ℕ). front ++ t) (sym e)) (ends_with_item front before s)
ends_with bare front rest before s (a_field e h) = ends_with_delta front rest before s (not_not (has_field bare before) e) h
  where
    not_not : (b : Bool) → not b ≡ false → b ≡ true
    not_not true e = refl
    not_not false e = absurd cc

pub not_back : (b : Bool) → not (not b) ≡ b
not_back true = refl
not_back false = refl

-- one more item that was read
pub joins : (bare : Bool) (front : List ℕ) (before : List Item) (rest : List ℕ) (item : Item) (used : ℕ) → Spells bare front before
    → (r : ReadsItem (not (has_field bare before)) (running_of before) rest item used) → Spells bare (front ++ (r.lead ++ r.text)) (before ++ item ∷ [])
joins bare front before rest item used s r =
    one_more front before r.lead r.text item.delta item.what s (subst (λ (b : Bool). SpellsDelta b r.lead item.delta) (not_back (has_field bare before)) r.timed) r.spelled

-- what at most n further items come to
abbrev Later : Bool → ℕ → Type 0
Later bare n =
    (place : ℕ) (front : List ℕ) (before : List Item) (rest : List ℕ) (items : List Item) → Spells bare front before → length rest ≤ n
    → items_read n place (not (has_field bare before)) (running_of before) rest ≡ items_are items → SpellsList bare (front ++ rest) (before ++ items)

some_more : (n place : ℕ) (bare : Bool) (front : List ℕ) (before : List Item) (rest : List ℕ) (items : List Item) (item : Item) (used : ℕ) → Later bare n → Spells bare front before → length rest ≤ suc n
    → item_read place (not (has_field bare before)) (running_of before) rest ≡ Ok (Some (item, used))
    → (items_read n (place + used) false (running_behind (running_of before) item.what) (drop used rest) >>= λ others. Ok (item ∷ others)) ≡ items_are items
    → SpellsList bare (front ++ rest) (before ++ items)
some_more n place bare front before rest items item used later s few e h =
    let running = running_of before in
    let r = item_found place (not (has_field bare before)) running rest item used (running_from-running None before tt) e in
    let text : List ℕ = r.lead ++ r.text in
    let left : drop used rest ≡ r.rest = ap (drop used) r.split ∙ drop_front text r.rest used r.used_is in
    let o = first_of item (items_read n (place + used) false (running_behind running item.what) (drop used rest)) items h in
    let behind : items_read n (place + used) (not (has_field bare (before ++ item ∷ []))) (running_of (before ++ item ∷ [])) r.rest ≡ items_are o.0 =
    rw (has_field-push bare before item, running_from-push None before item, ← left) o.1 in
    let len : length rest ≡ length text + length r.rest = ap length r.split ∙ length-append text r.rest in
    let all = later (place + used) (front ++ text) (before ++ item ∷ []) r.rest o.0 (joins bare front before rest item used s r) (omega (arith, r.some, r.used_is)) behind in
    let octets_are : (front ++ text) ++ r.rest ≡ front ++ rest = append_assoc front text r.rest ∙ ap (λ (t : List ℕ). front ++ t) (sym r.split) in
    let items_is : (before ++ item ∷ []) ++ o.0 ≡ before ++ items = append_assoc before (item ∷ []) o.0 ∙ ap (λ (t : List Item). before ++ t) o.2 in
    subst (λ (t : List ℕ). SpellsList bare t (before ++ items)) octets_are (subst (λ (t : List Item). SpellsList bare ((front ++ text) ++ r.rest) t) items_is all)

none_more : (bare : Bool) (place : ℕ) (front : List ℕ) (before : List Item) (rest : List ℕ) (items : List Item) → Spells bare front before
    → [] ≡ items → ListEnds (not (has_field bare before)) rest → SpellsList bare (front ++ rest) (before ++ items)
none_more bare place front before rest items s none ended =
    subst (λ (all : List Item). SpellsList bare (front ++ rest) all) (sym (append-nil before) ∙ ap (λ (t : List Item). before ++ t) none) (ends_with bare front rest before s ended)

next_more : (n place : ℕ) (bare : Bool) (front : List ℕ) (before : List Item) (rest : List ℕ) (items : List Item) (read : Result (Option (Item × ℕ)) SectionFault) → Later bare n → Spells bare front before → length rest ≤ suc n
    → item_read place (not (has_field bare before)) (running_of before) rest ≡ read
    → (read >>= λ x. before_others x (λ y. items_read n (place + y.1) false (running_behind (running_of before) y.0.what) (drop y.1 rest))) ≡ items_are items → SpellsList bare (front ++ rest) (before ++ items)
next_more n place bare front before rest items (Err f) later s few e h = absurd cc
next_more n place bare front before rest items (Ok None) later s few e h =
    none_more bare place front before rest items s (same_items [] items h) (list_ends place (not (has_field bare before)) (running_of before) rest e)
next_more n place bare front before rest items (Ok (Some x)) later s few e h = some_more n place bare front before rest items x.0 x.1 later s few e h

found_from : (bare : Bool) (n : ℕ) → Later bare n
unfolding items_read
found_from bare zero place front before rest items s few h =
    none_more bare place front before rest items s (same_items [] items h) (all_read (nil_from_length rest (omega arith)))
found_from bare (suc n) place front before rest items s few h =
    next_more n place bare front before rest items (item_read place (not (has_field bare before)) (running_of before) rest) (found_from bare n) s few refl h

-- a list that is read is spelled
pub list_found : (bare : Bool) (octets : List ℕ) (items : List Item) (place : ℕ) → items_read (length octets) place bare None octets ≡ items_are items → SpellsList bare octets items
list_found bare octets items place h =
    found_from bare (length octets) place [] [] octets items nothing (omega arith) (rw (at_front bare) h)
