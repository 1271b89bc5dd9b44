-- A section that is written is one of the grammar.
use Rattle.std.proofs.Common.{◌≡◌, ℕ, ◌+◌, ◌*◌, ◌/◌, ◌%◌, ◌^◌, ◌≤◌, ◌<◌, Bool, true, false, cond, eqb, ltb, List, [], ◌∷◌, ◌++◌, length, All, Option, Some, None, refl, sym, ap, subst, ◌∙◌, append_assoc, length-append, arith, inl, inr}
use Rattle.std.specs.Prelude.{IsTrue}
use Rattle.std.specs.List.{AllByRecursion}
use Rattle.std.proofs.lemmas.List.Elements.{recursion_from_All}
use Rattle.std.proofs.lemmas.Bool.{lt-ltb, le-ltb, ltb-true, eqb-true, and_parts, cases_Bool, cases_lt}
use Rattle.std.proofs.lemmas.List.{append-nil}
use Rattle.jm_cmds.specs.declared.commands.Command.{Command}
use Rattle.jm_cmds.specs.Command.{status_of, IsCommand}
use Rattle.jm_wire.specs.Delta.{delta}
use Rattle.jm_wire.specs.DeltaWriting.{written as written_delta}
use Rattle.jm_section.specs.declared.item.Item.{Item}
use Rattle.jm_section.specs.declared.item.What.{What}
use Rattle.jm_section.specs.declared.item.What.TheVariants.{Whole, Part, Passed}
use Rattle.jm_section.specs.declared.item.PartKind.{PartKind}
use Rattle.jm_section.specs.declared.item.PartKind.TheVariants as part
use Rattle.jm_section.specs.declared.header.Head.{Head}
use Rattle.jm_section.specs.declared.next.Place.TheVariants.{First, Later}
use Rattle.jm_section.specs.Running.{is_left_out}
use Rattle.jm_section.specs.Section.{command_text, header, segment_first, segment_last, what_text, item_text, items_text, section, is_written, IsWritable}
use Rattle.jm_section.specs.Grammar.{IsSegment, first_part, middle_part, last_part, cancel_other, SpellsWhat, with_status, without_status, segment, SpellsDelta, no_field, field, Spells, nothing, one_more, ends_with_item, has_field, running_behind, running_of, SpellsHead, short_head, long_head, Read, IsSection}
use Rattle.jm_section.specs.Laws.{IsWhat, written, IsReadBack}
use Rattle.jm_section.proofs.Lists.{running_from-push, has_field-push}
use Rattle.jm_section.proofs.Sections.{section_spelled, is_read}

-- ## One section

same_section : (x y : Read) → is_read x ≡ is_read y → x ≡ y
same_section x y e = cc

pub only_section : (octets : List ℕ) (a b : Read) → IsSection octets a → IsSection octets b → a ≡ b
only_section octets a b p q = same_section a b (sym (section_spelled octets a p) ∙ section_spelled octets b q)

-- ## The header

-- what the header of a written section tells
abbrev head_written : ℕ → Bool → ℕ → Head
head_written len journal size = record { size = size; len = len; journal = journal; bare = true }

short_for : (first len : ℕ) (journal : Bool) → first < 128 → first % 16 ≡ len → eqb (first / 64 % 2) 1 ≡ journal → first / 32 % 2 ≡ 0 → SpellsHead (first ∷ []) (head_written len journal 1)
short_for first len journal h low j z =
    let s : SpellsHead (first ∷ []) (record { size = 1; len = first % 16; journal = eqb (first / 64 % 2) 1; bare = cond (eqb (first / 32 % 2) 1) false true }) = short_head first h in
    rw (low, j, z) at s

long_for : (first low len : ℕ) (journal : Bool) → 128 ≤ first → first % 16 * 256 + low ≡ len → eqb (first / 64 % 2) 1 ≡ journal → first / 32 % 2 ≡ 0 → SpellsHead (first ∷ low ∷ []) (head_written len journal 2)
long_for first low len journal h whole j z =
    let s : SpellsHead (first ∷ low ∷ []) (record { size = 2; len = first % 16 * 256 + low; journal = eqb (first / 64 % 2) 1; bare = cond (eqb (first / 32 % 2) 1) false true }) = long_head first low h in
    rw (whole, j, z) at s

-- a header that is written tells the length of the list and whether a journal follows
pub record HeadIs (len : ℕ) (journal : Bool) : Type 0 where
  pub size : ℕ
  pub spelled : SpellsHead (header len journal) (head_written len journal size)

pub header_is : (len : ℕ) (journal : Bool) → len ≤ 4095 → HeadIs len journal
unfolding header
header_is len true most =
    elim (cases_lt len 16) [
      | inl h ↦
          let j : (64 + len) / 64 % 2 ≡ 1 = omega arith in
          record { size = 1; spelled = rw (lt-ltb len 16 h) (short_for (64 + len) len true (omega arith) (omega arith) (rw j refl) (omega arith)) }
      | inr h ↦
          let j : (192 + len / 256) / 64 % 2 ≡ 1 = omega arith in
          record { size = 2; spelled = rw (le-ltb len 16 h) (long_for (192 + len / 256) (len % 256) len true (omega arith) (omega arith) (rw j refl) (omega arith)) }
    ]
header_is len false most =
    elim (cases_lt len 16) [
      | inl h ↦
          let j : (0 + len) / 64 % 2 ≡ 0 = omega arith in
          record { size = 1; spelled = rw (lt-ltb len 16 h) (short_for (0 + len) len false (omega arith) (omega arith) (rw j refl) (omega arith)) }
      | inr h ↦
          let j : (128 + len / 256) / 64 % 2 ≡ 0 = omega arith in
          record { size = 2; spelled = rw (le-ltb len 16 h) (long_for (128 + len / 256) (len % 256) len false (omega arith) (omega arith) (rw j refl) (omega arith)) }
    ]

-- ## The list

-- an item that was written is spelled, under whatever running status, and its delta has a field
record IsFit (item : Item) : Type 0 where
  spelled : (running : Option ℕ) → SpellsWhat running (what_text running item.what) item.what
  below : item.delta < 2 ^ 28

-- a command under running status
under : (running : Option ℕ) (command : Command) → IsCommand command → SpellsWhat running (command_text running command) (Whole command)
unfolding command_text
under None command h = with_status command h
under (Some before) command h =
    elim (cases_Bool (is_left_out (Some before) (status_of command))) [
      | inl t ↦
          let both = and_parts (eqb before (status_of command)) (ltb (status_of command) 240) t in
          rw t (without_status command h (ltb-true (status_of command) 240 both.1) (ap (λ (s : ℕ). Some s) (eqb-true before (status_of command) both.0)))
      | inr f ↦ rw f (with_status command h)
    ]

segment_is : (kind : PartKind) → IsSegment kind (segment_first kind) (segment_last kind)
segment_is part.First = first_part
segment_is part.Middle = middle_part
segment_is part.Last = last_part
segment_is part.Cancel = cancel_other

what_is_spelled : (what : What) → is_written what ≡ true → IsWhat what → (running : Option ℕ) → SpellsWhat running (what_text running what) what
unfolding what_text
what_is_spelled (Whole command) w h running = under running command h
what_is_spelled (Part kind octets) w h running = segment kind (segment_first kind) (segment_last kind) octets (segment_is kind) h.octets_are_data
what_is_spelled (Passed octet) w h running = absurd cc

-- the delta of an item that was written
delta_text : (item : Item) → item.delta < 2 ^ 28 → SpellsDelta true (delta item.delta) item.delta
delta_text item below =
    let w = written_delta item.delta below in
    subst (λ (n : ℕ). SpellsDelta true (delta item.delta) n) w.value_is (field (delta item.delta) w.field)

-- one more item that was written behind others
written_behind : (front : List ℕ) (before : List Item) (item : Item) → Spells true front before → has_field true before ≡ true → IsFit item
    → Spells true (front ++ (delta item.delta ++ what_text (running_of before) item.what)) (before ++ item ∷ [])
written_behind front before item s has fit =
    one_more front before (delta item.delta) (what_text (running_of before) item.what) item.delta item.what s
    (subst (λ (b : Bool). SpellsDelta b (delta item.delta) item.delta) (sym has) (delta_text item fit.below)) (fit.spelled (running_of before))

text_later : (running : Option ℕ) (item : Item) (items : List Item)
    → items_text (Later running) (item ∷ items) ≡ (delta item.delta ++ what_text running item.what) ++ items_text (Later (running_behind running item.what)) items
unfolding item_text
text_later running item items = refl

text_first : (item : Item) (items : List Item) → items_text First (item ∷ items) ≡ what_text None item.what ++ items_text (Later (running_behind None item.what)) items
unfolding item_text
text_first item items = refl

-- the items behind others are spelled by what is written of them
others_written : (front : List ℕ) (before items : List Item) → Spells true front before → has_field true before ≡ true → AllByRecursion IsFit items
    → Spells true (front ++ items_text (Later (running_of before)) items) (before ++ items)
others_written front before [] s has fits =
    subst (λ (t : List Item). Spells true (front ++ []) t) (sym (append-nil before)) (subst (λ (t : List ℕ). Spells true t before) (sym (append-nil front)) s)
others_written front before (item ∷ items) s has fits =
    let text : List ℕ = delta item.delta ++ what_text (running_of before) item.what in
    let left = items_text (Later (running_behind (running_of before) item.what)) items in
    let one = written_behind front before item s has fits.0 in
    let all = others_written (front ++ text) (before ++ item ∷ []) items one (has_field-push true before item) fits.1 in
    let octets_are : (front ++ text) ++ items_text (Later (running_of (before ++ item ∷ []))) items ≡ front ++ items_text (Later (running_of before)) (item ∷ items) =
    ap (λ (r : Option ℕ). (front ++ text) ++ items_text (Later r) items) (running_from-push None before item)
    ∙ append_assoc front text left
    ∙ ap (λ (t : List ℕ). front ++ t) (sym (text_later (running_of before) item items)) in
    subst (λ (t : List ℕ). Spells true t (before ++ item ∷ items)) octets_are
    (subst (λ (t : List Item). Spells true ((front ++ text) ++ items_text (Later (running_of (before ++ item ∷ []))) items) t) (append_assoc before (item ∷ []) items) all)

-- the first item has neither delta field nor running status
first_written : (item : Item) → item.delta ≡ 0 → IsFit item → Spells true (what_text None item.what) (item ∷ [])
first_written item e fit =
    one_more [] [] [] (what_text None item.what) item.delta item.what nothing (subst (λ (n : ℕ). SpellsDelta false [] n) (sym e) no_field) (fit.spelled None)

all_written : (items : List Item) → AllByRecursion IsFit items → ((item : Item) (others : List Item) → items ≡ item ∷ others → item.delta ≡ 0) → Spells true (items_text First items) items
all_written [] fits first = nothing
all_written (item ∷ items) fits first =
    let all = others_written (what_text None item.what) (item ∷ []) items (first_written item (first item items refl) fits.0) refl fits.1 in
    subst (λ (t : List ℕ). Spells true t (item ∷ items)) (sym (text_first item items)) all

fits_all : (items : List Item) → AllByRecursion (λ item. IsTrue (is_written item.what)) items → AllByRecursion (λ item. item.delta < 2 ^ 28) items → AllByRecursion (λ item. IsWhat item.what) items → AllByRecursion IsFit items
fits_all [] w d h = tt
fits_all (item ∷ items) w d h = (record { spelled = what_is_spelled item.what w.0 h.0; below = d.0 }, fits_all items w.1 d.1 h.1)

-- ## The section

pub section_written : (items : List Item) (journal : Bool) (rest : List ℕ) → IsWritable items → All (λ item. IsWhat item.what) items → IsReadBack items journal rest
section_written items journal rest w h =
    let list = items_text First items in
    let head = header_is (length list) journal w.short in
    let fits = fits_all items (recursion_from_All (λ item. IsTrue (is_written item.what)) items w.written) (recursion_from_All (λ item. item.delta < 2 ^ 28) items w.deltas) (recursion_from_All (λ item. IsWhat item.what) items h) in
    let spelled : IsSection (section items journal ++ rest) (written items journal) = record {
      head = head_written (length list) journal head.size;
      head_text = header (length list) journal;
      list = list;
      rest = rest;
      split = append_assoc (header (length list) journal) list rest;
      headed = head.spelled;
      listed = ends_with_item list items (all_written items fits w.first);
      len_is = refl;
      journal_is = refl;
      used_is = length-append (header (length list) journal) list;
    } in
    record { spelled = spelled; again = section_spelled (section items journal ++ rest) (written items journal) spelled }
