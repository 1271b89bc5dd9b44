-- Whole sections: what is spelled is read, and what is read is spelled.
use Rattle.std.proofs.Common.{◌≡◌, ℕ, ◌+◌, ◌*◌, ◌%◌, ◌≤◌, ◌<◌, cond, ltb, List, [], ◌∷◌, ◌++◌, drop, take, length, None, Result, Ok, Err, refl, sym, ap, subst, ◌∙◌, length-append, length-drop, arith, inl, inr}
use Rattle.std.specs.Prelude.{IfOk}
use Rattle.std.proofs.Math.Seq.{take-append_seam}
use Rattle.std.proofs.lemmas.Bool.{lt-ltb, le-ltb, ltb-true, ltb-false, cases_Bool}
use Rattle.std.proofs.lemmas.List.{take-append-drop, length-take-le}
use Rattle.jm_cmds.specs.declared.outcome.ReadError.{ReadError}
use Rattle.jm_section.specs.declared.item.Item.{Item}
use Rattle.jm_section.specs.declared.header.Head.{Head}
use Rattle.jm_section.specs.declared.reading.Section.{Section}
use Rattle.jm_section.specs.declared.reading.SectionFault.{SectionFault}
use Rattle.jm_section.specs.declared.reading.SectionFault.TheVariants.{Short}
use Rattle.jm_section.specs.Grammar.{SpellsHead, short_head, long_head, Read, IsSection}
use Rattle.jm_wire.specs.Readers.{◌>>=◌}
use Rattle.jm_section.specs.Reading.{GivesBy, items_read, head_of, head_read, section_read, section_view}
use Rattle.jm_section.proofs.Lists.{list_spelled, list_found}

abbrev headed : Head → Result Head SectionFault
headed head = Ok head

abbrev items_are : List Item → Result (List Item) SectionFault
items_are items = Ok items

abbrev pub is_read : Read → Result Read SectionFault
is_read section = Ok section

-- ## The header

pub record HeadRead (text : List ℕ) (head : Head) (rest : List ℕ) : Type 0 where
  pub read : head_read (text ++ rest) ≡ headed head
  pub size_is : length text ≡ head.size

pub head_spelled : (text : List ℕ) (head : Head) (rest : List ℕ) → SpellsHead text head → HeadRead text head rest
unfolding head_read
head_spelled text head [] (short_head first h) = record { read = rw (lt-ltb first 128 h) refl; size_is = refl }
head_spelled text head (low ∷ rest) (short_head first h) = record { read = rw (lt-ltb first 128 h) refl; size_is = refl }
head_spelled text head rest (long_head first low h) = record { read = rw (le-ltb first 128 h) refl; size_is = refl }

pub record HeadFound (octets : List ℕ) (head : Head) : Type 0 where
  pub text : List ℕ
  pub rest : List ℕ
  pub split : octets ≡ text ++ rest
  pub spelled : SpellsHead text head
  pub size_is : length text ≡ head.size

same_head : (x y : Head) → headed x ≡ headed y → x ≡ y
same_head x y e = cc

short_found : (first : ℕ) (rest : List ℕ) (head : Head) → first < 128 → headed (head_of first 1 (first % 16)) ≡ headed head → HeadFound (first ∷ rest) head
short_found first rest head h e =
    subst (λ (x : Head). HeadFound (first ∷ rest) x) (same_head (head_of first 1 (first % 16)) head e)
    (record { text = first ∷ []; rest = rest; split = refl; spelled = short_head first h; size_is = refl })

pub head_found : (octets : List ℕ) (head : Head) → head_read octets ≡ headed head → HeadFound octets head
unfolding head_read
head_found [] head h = absurd cc
head_found (first ∷ []) head h =
    elim (cases_Bool (ltb first 128)) [
      | inl t ↦ short_found first [] head (ltb-true first 128 t) (rw t at h)
      | inr f ↦ let never = rw f at h in absurd cc
    ]
head_found (first ∷ low ∷ rest) head h =
    elim (cases_Bool (ltb first 128)) [
      | inl t ↦ short_found first (low ∷ rest) head (ltb-true first 128 t) (rw t at h)
      | inr f ↦
          let two : headed (head_of first 2 (first % 16 * 256 + low)) ≡ headed head = rw f at h in
          subst (λ (x : Head). HeadFound (first ∷ low ∷ rest) x) (same_head (head_of first 2 (first % 16 * 256 + low)) head two)
          (record { text = first ∷ low ∷ []; rest = rest; split = refl; spelled = long_head first low (ltb-false first 128 f); size_is = refl })
    ]

-- ## What is spelled is read

pub drop_front : (xs ys : List ℕ) (n : ℕ) → n ≡ length xs → drop n (xs ++ ys) ≡ ys
drop_front [] ys n e = rw e refl
drop_front (x ∷ xs) ys n e = rw e (drop_front xs ys (length xs) refl)

pub section_spelled : (octets : List ℕ) (section : Read) → IsSection octets section → section_read octets ≡ is_read section
unfolding section_read
section_spelled octets section s =
    let head = s.head in
    let h = head_spelled s.head_text head (s.list ++ s.rest) s.headed in
    let read : head_read octets ≡ headed head = rw s.split h.read in
    let len : length octets ≡ length s.head_text + (length s.list + length s.rest) = ap length s.split ∙ simp length-append in
    let behind : drop head.size octets ≡ s.list ++ s.rest = ap (drop head.size) s.split ∙ drop_front s.head_text (s.list ++ s.rest) head.size (sym h.size_is) in
    let list : take head.len (s.list ++ s.rest) ≡ s.list = ap (λ (n : ℕ). take n (s.list ++ s.rest)) (sym s.len_is) ∙ take-append_seam s.list s.rest in
    let items : items_read head.len head.size head.bare None s.list ≡ items_are section.items =
    ap (λ (n : ℕ). items_read n head.size head.bare None s.list) (sym s.len_is) ∙ list_spelled head.bare s.list section.items head.size s.listed in
    let enough : head.size + head.len ≤ length octets = omega (arith, h.size_is, s.len_is) in
    let used : head.size + head.len ≡ section.used = omega (arith, h.size_is, s.len_is, s.used_is) in
    rw (read, le-ltb (length octets) (head.size + head.len) enough, behind, list, items) (made section head s.journal_is used)
  where
    made : (section : Read) (head : Head) → section.journal ≡ head.journal → head.size + head.len ≡ section.used
        → is_read (record { items = section.items; journal = head.journal; used = head.size + head.len }) ≡ is_read section
    made section head j u = rw (u, ← j) refl

-- ## What is read is spelled

same_section : (x y : Read) → is_read x ≡ is_read y → x ≡ y
same_section x y e = cc

section_of_list : (octets : List ℕ) (head : Head) (items : List Item) → HeadFound octets head → head.size + head.len ≤ length octets
    → items_read head.len head.size head.bare None (take head.len (drop head.size octets)) ≡ items_are items
    → IsSection octets (record { items = items; journal = head.journal; used = head.size + head.len })
section_of_list octets head items f enough h =
    let behind : drop head.size octets ≡ f.rest = ap (drop head.size) f.split ∙ drop_front f.text f.rest head.size (sym f.size_is) in
    let list = take head.len (drop head.size octets) in
    let inside : head.len ≤ length (drop head.size octets) = omega (arith, length-drop head.size octets) in
    let len : length list ≡ head.len = length-take-le head.len (drop head.size octets) inside in
    record {
      head = head;
      head_text = f.text;
      list = list;
      rest = drop head.len (drop head.size octets);
      split = f.split ∙ ap (λ (t : List ℕ). f.text ++ t) (sym behind ∙ sym (take-append-drop head.len (drop head.size octets)));
      headed = f.spelled;
      listed = list_found head.bare list items head.size (ap (λ (n : ℕ). items_read n head.size head.bare None list) len ∙ h);
      len_is = len;
      journal_is = refl;
      used_is = omega (arith, len, f.size_is);
    }

items_found : (octets : List ℕ) (head : Head) (section : Read) (read : Result (List Item) SectionFault) → HeadFound octets head → head.size + head.len ≤ length octets
    → items_read head.len head.size head.bare None (take head.len (drop head.size octets)) ≡ read
    → (read >>= λ items. Ok (record { items = items; journal = head.journal; used = head.size + head.len })) ≡ is_read section → IsSection octets section
items_found octets head section (Err f) found enough e h = absurd cc
items_found octets head section (Ok items) found enough e h =
    subst (IsSection octets) (same_section (record { items = items; journal = head.journal; used = head.size + head.len }) section h) (section_of_list octets head items found enough e)

behind_head : (octets : List ℕ) (section : Read) (read : Result Head SectionFault) → head_read octets ≡ read
    → (read >>= λ head. cond (ltb (length octets) (head.size + head.len)) (Err Short)
    (items_read head.len head.size head.bare None (take head.len (drop head.size octets)) >>= λ items. Ok (record { items = items; journal = head.journal; used = head.size + head.len }))) ≡ is_read section
    → IsSection octets section
behind_head octets section (Err f) e h = absurd cc
behind_head octets section (Ok head) e h =
    elim (cases_Bool (ltb (length octets) (head.size + head.len))) [
      | inl t ↦ let never = rw t at h in absurd cc
      | inr f ↦
          items_found octets head section (items_read head.len head.size head.bare None (take head.len (drop head.size octets))) (head_found octets head e) (ltb-false (length octets) (head.size + head.len) f) refl (rw f at h)
    ]

pub section_found : (octets : List ℕ) (section : Read) → section_read octets ≡ is_read section → IsSection octets section
unfolding section_read
section_found octets section h = behind_head octets section (head_read octets) refl h

-- what a reader found
pub is_found : (octets : List ℕ) (r : Result Section (ReadError SectionFault)) → GivesBy section_view r (section_read octets) → IfOk r (λ s. IsSection octets (section_view s))
is_found octets (Ok s) given = section_found octets (section_view s) given
is_found octets (Err e) given = tt
