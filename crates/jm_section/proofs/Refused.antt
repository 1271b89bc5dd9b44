-- The first fault of octets is told.
use Rattle.std.proofs.Common.{◌≡◌, ℕ, suc, ◌-◌, ◌+◌, ◌≤◌, ◌<◌, Bool, true, false, not, eqb, ltb, List, [], ◌∷◌, ◌++◌, drop, take, length, Option, None, Result, Ok, Err, refl, sym, ap, ◌∙◌, length-append, add-one, add_comm, arith, inl, inr}
use Rattle.std.specs.Prelude.{◌≢◌}
use Rattle.std.specs.List.{list_all}
use Rattle.std.proofs.lemmas.Bool.{lt-ltb, le-ltb, eq-eqb, ne_eqb, cases_Bool, cases_lt, and_parts}
use Rattle.std.proofs.lemmas.List.{nil_from_length, take-append-drop, length-take-le}
use Rattle.jm_cmds.specs.declared.reading.CmdFault.{CmdFault}
use Rattle.jm_cmds.specs.declared.reading.CmdFault.TheVariants as commands
use Rattle.jm_cmds.specs.Data.{is_data, IsData, data_len}
use Rattle.jm_cmds.specs.Reading.{after_status, command_read}
use Rattle.jm_wire.specs.declared.delta.DeltaFault.{DeltaFault}
use Rattle.jm_wire.specs.Delta.{delta_at, IsField}
use Rattle.jm_wire.specs.DeltaReading.{read_as}
use Rattle.jm_section.specs.declared.item.Item.{Item}
use Rattle.jm_section.specs.declared.item.What.{What}
use Rattle.jm_section.specs.declared.header.Head.{Head}
use Rattle.jm_section.specs.declared.reading.SectionFault.{SectionFault}
use Rattle.jm_section.specs.declared.reading.SectionFault.TheVariants.{Short, NoStatus, BadCommand, BadDelta}
use Rattle.jm_section.specs.Grammar.{SpellsDelta, Read}
use Rattle.jm_wire.specs.Readers.{◌>>=◌}
use Rattle.jm_section.specs.Reading.{whole, what_read, field_read, item_read, items_read, head_read, section_read}
use Rattle.jm_section.specs.Faults.{IsExclusive, IsBadCommand, unended, ended_badly, overlong, of_status, under_status, StandsAt, IsShort, IsFault, is_short, bad_delta, no_status, bad_command}
use Rattle.jm_section.proofs.Spelled.{data_len-stops, exclusive_begins, ended, running_begins}
use Rattle.jm_section.proofs.Items.{delta_spelled, behind_delta, item_read-some}
use Rattle.jm_section.proofs.Lists.{items_few, resumes}
use Rattle.jm_section.proofs.Sections.{HeadFound, head_spelled, head_found, drop_front}

abbrev refused : SectionFault → Result (What × ℕ) SectionFault
refused fault = Err fault

abbrev pub no_head : SectionFault → Result Head SectionFault
no_head fault = Err fault

same_fault : (x y : SectionFault) → no_head x ≡ no_head y → x ≡ y
same_fault x y e = cc

-- ## Commands

data_len-all : (octets : List ℕ) → IsData octets → data_len octets ≡ length octets
data_len-all [] h = refl
data_len-all (octet ∷ octets) h =
    let both = and_parts (is_data octet) (list_all is_data octets) h in
    rw both.0 (ap (λ n. 1 + n) (data_len-all octets both.1) ∙ add_comm 1 (length octets) ∙ add-one (length octets))

not_exclusive : (first : ℕ) → (IsExclusive first → ⊥) → (eqb first 240 ≡ false) × (eqb first 247 ≡ false)
not_exclusive first h = (ne_eqb first 240 (λ e. h (inl e)), ne_eqb first 247 (λ e. h (inr e)))

-- a message of too many data octets
too_long : (octets more : List ℕ) → IsData octets → 65536 < length octets → command_read (0xf0 ∷ (octets ++ 0xf7 ∷ more)) ≡ Err commands.TooLong
unfolding command_read after_status
too_long octets more h long = rw (data_len-stops octets more 0xf7 h (omega arith), lt-ltb 65536 (length octets) long) refl

command_refused : (place : ℕ) (running : Option ℕ) (text : List ℕ) (fault : CmdFault) → IsBadCommand running text fault → what_read place running text ≡ refused (BadCommand place fault)
unfolding what_read
command_refused place running text fault (unended first octets x h) =
    exclusive_begins place running first octets x ∙ rw (data_len-all octets h, eq-eqb (length octets) (length octets) refl) refl
command_refused place running text fault (ended_badly first last octets more x h high e) =
    ended place running first last octets more x h high
    ∙ rw (ne_eqb last 244 (λ d. e (inr (inr d))), ne_eqb last 240 (λ d. e (inl d)), ne_eqb last 247 (λ d. e (inr (inl d)))) refl
command_refused place running text fault (overlong octets more h long) =
    ended place running 0xf0 0xf7 octets more (inl refl) h (omega arith) ∙ ap (whole place) (too_long octets more h long)
command_refused place running text fault (of_status first octets f high x p e) =
    let n = not_exclusive first x in
    rw (le-ltb first 128 high, n.0, n.1, p, e) refl
command_refused place running text fault (under_status status first octets f low r e) =
    running_begins place running first octets low ∙ rw (r, e) refl

-- a command is some octet
some_text : (running : Option ℕ) (text : List ℕ) (fault : CmdFault) → IsBadCommand running text fault → 1 ≤ length text
some_text running text fault (unended first octets x h) = omega arith
some_text running text fault (ended_badly first last octets more x h high e) = omega arith
some_text running text fault (overlong octets more h long) = omega arith
some_text running text fault (of_status first octets f high x p e) = omega arith
some_text running text fault (under_status status first octets f low r e) = omega arith

-- ## Items

abbrev item_refused : SectionFault → Result (Option (Item × ℕ)) SectionFault
item_refused fault = Err fault

-- what is refused behind a delta
behind_refused : (place : ℕ) (has : Bool) (running : Option ℕ) (lead text : List ℕ) (delta : ℕ) (fault : SectionFault) → SpellsDelta has lead delta → 1 ≤ length text
    → what_read (place + length lead) running text ≡ refused fault → item_read place (not has) running (lead ++ text) ≡ item_refused fault
behind_refused place has running lead text delta fault d some e =
    let len : length (lead ++ text) ≡ length lead + length text = length-append lead text in
    item_read-some place (not has) running (lead ++ text) (ne_eqb (length (lead ++ text)) 0 (λ z. omega arith))
    ∙ rw (delta_spelled place has lead delta text d, ne_eqb (length (lead ++ text)) (length lead) (λ z. omega arith), drop_front lead text (length lead) refl, e) refl

no_status_read : (place first : ℕ) (more : List ℕ) → first < 128 → what_read place None (first ∷ more) ≡ refused (NoStatus place)
no_status_read place first more low = running_begins place None first more low

-- where no field stands at the front, there is no delta
field_refused : (place : ℕ) (left : List ℕ) (read : Result (ℕ × ℕ) DeltaFault) → read ≡ delta_at left → ((text more : List ℕ) → left ≡ text ++ more → IsField text → ⊥)
    → (f : ℕ × ℕ → Result (Option (Item × ℕ)) SectionFault) → (field_read place read >>= f) ≡ item_refused (BadDelta place)
field_refused place left (Ok x) e none f = absurd (none (take x.1 left) (drop x.1 left) (sym (take-append-drop x.1 left)) (read_as left (Ok x) e).field)
field_refused place left (Err d) e none f = refl

delta_refused : (place : ℕ) (running : Option ℕ) (left : List ℕ) → left ≢ [] → ((text more : List ℕ) → left ≡ text ++ more → IsField text → ⊥) → item_read place false running left ≡ item_refused (BadDelta place)
delta_refused place running left some none =
    item_read-some place false running left (ne_eqb (length left) 0 (λ z. some (nil_from_length left z)))
    ∙ field_refused place left (delta_at left) refl none (behind_delta place running left)

-- ## Sections

abbrev pub section_refused : SectionFault → Result Read SectionFault
section_refused fault = Err fault

abbrev items_refused : SectionFault → Result (List Item) SectionFault
items_refused fault = Err fault

refused_step : (m place : ℕ) (bare : Bool) (running : Option ℕ) (left : List ℕ) (fault : SectionFault) → item_read place bare running left ≡ item_refused fault → items_read (suc m) place bare running left ≡ items_refused fault
unfolding items_read
refused_step m place bare running left fault e = rw e refl

-- Where the item at a place is refused, the section is.
pub refused_at : (octets : List ℕ) (place : ℕ) (has : Bool) (running : Option ℕ) (left : List ℕ) (fault : SectionFault) → StandsAt octets place has running left → 1 ≤ length left
    → item_read place (not has) running left ≡ item_refused fault → section_read octets ≡ section_refused fault
unfolding section_read
refused_at octets place has running left fault s some e =
    let head = s.head in
    let list : List ℕ = s.front ++ left in
    let h = head_spelled s.head_text head (list ++ s.behind) s.headed in
    let read : head_read octets ≡ Ok head = rw s.split h.read in
    let len : length octets ≡ length s.head_text + (length list + length s.behind) = ap length s.split ∙ simp length-append in
    let behind : drop head.size octets ≡ list ++ s.behind = ap (drop head.size) s.split ∙ drop_front s.head_text (list ++ s.behind) head.size (sym h.size_is) in
    let enough : head.size + head.len ≤ length octets = omega (arith, h.size_is, s.len_is) in
    let few = items_few head.bare s.front s.items s.spelled in
    let parts : length list ≡ length s.front + length left = length-append s.front left in
    let m = length list - length s.items - 1 in
    let count : head.len ≡ length s.items + suc m = omega (arith, s.len_is) in
    let at : head.size + length s.front ≡ place = omega (arith, h.size_is, s.place_is) in
    let step : items_read (suc m) place (not has) running left ≡ items_refused fault = refused_step m place (not has) running left fault e in
    let all : items_read (length s.items + suc m) head.size head.bare None list ≡ items_refused fault =
    resumes head.bare s.front s.items s.spelled (suc m) head.size left ∙ rw (at, ← s.has_is, ← s.running_is, step) refl in
    let whole : take head.len (list ++ s.behind) ≡ list = take_whole list s.behind head.len (sym s.len_is) in
    let items : items_read head.len head.size head.bare None list ≡ items_refused fault = ap (λ (n : ℕ). items_read n head.size head.bare None list) count ∙ all in
    rw (read, le-ltb (length octets) (head.size + head.len) enough, behind, whole, items) refl
  where
    take_whole : (xs ys : List ℕ) (n : ℕ) → n ≡ length xs → take n (xs ++ ys) ≡ xs
    take_whole [] ys n e = rw e refl
    take_whole (x ∷ xs) ys n e = rw e (ap (λ (t : List ℕ). x ∷ t) (take_whole xs ys (length xs) refl))

pub head_fault : (octets : List ℕ) (fault : SectionFault) → head_read octets ≡ no_head fault → fault ≡ Short
unfolding head_read
head_fault [] fault e = sym (same_fault Short fault e)
head_fault (first ∷ []) fault e =
    elim (cases_Bool (ltb first 128)) [
      | inl t ↦ let never = rw t at e in absurd cc
      | inr f ↦ sym (same_fault Short fault (rw f at e))
    ]
head_fault (first ∷ low ∷ rest) fault e =
    elim (cases_Bool (ltb first 128)) [ inl t ↦ let never = rw t at e in absurd cc | inr f ↦ let never = rw f at e in absurd cc ]

-- where a header stands, the list behind it ends too soon
list_short : (octets : List ℕ) (head : Head) → IsShort octets → HeadFound octets head → length octets < head.size + head.len
list_short octets head h f =
    elim (cases_lt (length octets) (head.size + head.len)) [
      | inl lt ↦ lt
      | inr enough ↦
          let parts : length octets ≡ length f.text + length f.rest = ap length f.split ∙ length-append f.text f.rest in
          let inside : head.len ≤ length f.rest = omega (arith, f.size_is) in
          let list = take head.len f.rest in
          let behind = drop head.len f.rest in
          absurd (h f.text list behind head (f.split ∙ ap (λ (t : List ℕ). f.text ++ t) (sym (take-append-drop head.len f.rest))) f.spelled (length-take-le head.len f.rest inside))
    ]

short_refused : (octets : List ℕ) → IsShort octets → section_read octets ≡ section_refused Short
unfolding section_read
short_refused octets h = by_head (head_read octets) refl
  where
    by_head : (read : Result Head SectionFault) → head_read octets ≡ read → section_read octets ≡ section_refused Short
    by_head (Err fault) e = rw (e, head_fault octets fault e) refl
    by_head (Ok head) e = rw (e, lt-ltb (length octets) (head.size + head.len) (list_short octets head h (head_found octets head e))) refl

-- the first fault of octets is told
pub fault_told : (octets : List ℕ) (fault : SectionFault) → IsFault octets fault → section_read octets ≡ section_refused fault
fault_told octets fault (is_short h) = short_refused octets h
fault_told octets fault (bad_delta place running left s some none) =
    refused_at octets place true running left (BadDelta place) s (some_left left some) (delta_refused place running left some none)
  where
    some_left : (xs : List ℕ) → xs ≢ [] → 1 ≤ length xs
    some_left [] h = absurd (h refl)
    some_left (x ∷ xs) h = omega arith
fault_told octets fault (no_status place has lead delta first more s d low) =
    refused_at octets place has None (lead ++ first ∷ more) (NoStatus (place + length lead)) s (omega (arith, length-append lead (first ∷ more)))
    (behind_refused place has None lead (first ∷ more) delta (NoStatus (place + length lead)) d (omega arith) (no_status_read (place + length lead) first more low))
fault_told octets fault (bad_command place has running lead text delta f s d b) =
    let some = some_text running text f b in
    refused_at octets place has running (lead ++ text) (BadCommand (place + length lead) f) s (omega (arith, length-append lead text))
    (behind_refused place has running lead text delta (BadCommand (place + length lead) f) d some (command_refused (place + length lead) running text f b))
