-- How long sections are, and a list to which commands are added at its end.
use Rattle.std.specs.Prelude.{◌≡◌, ℕ, ◌+◌, ◌≤◌, Bool, List, [], ◌∷◌, ◌++◌, length, nat_lt, if◌then◌else◌}
use Rattle.std.proofs.Common.{refl, sym, ap, ◌∙◌, append_assoc, arith, inl, inr, length-append}
use Rattle.std.proofs.lemmas.List.{append-nil}
use Rattle.std.proofs.lemmas.Bool.{cases_Bool}
use Rattle.jm_section.specs.declared.next.Place.{Place}
use Rattle.jm_section.specs.declared.next.Place.TheVariants.{First, Later}
use Rattle.jm_section.specs.Section.{Timed, command_text, piece, pieces, place_after, list_text, header, section_of, what_text, item_text, item_of, items_of, items_text, section}

-- the place behind commands that begin at this one
abbrev pub place_behind : Place → List Timed → Place
place_behind place [] = place
place_behind place (t ∷ ts) = place_behind (place_after place t.command) ts

pub pieces-append : (place : Place) (ts us : List Timed) → pieces place (ts ++ us) ≡ pieces place ts ++ pieces (place_behind place ts) us
pieces-append place [] us = refl
pieces-append place (t ∷ ts) us =
    ap (λ (text : List ℕ). piece place t ++ text) (pieces-append (place_after place t.command) ts us)
    ∙ sym (append_assoc (piece place t) (pieces (place_after place t.command) ts) (pieces (place_behind place (t ∷ ts)) us))

pub place_behind-append : (place : Place) (ts us : List Timed) → place_behind place (ts ++ us) ≡ place_behind (place_behind place ts) us
place_behind-append place [] us = refl
place_behind-append place (t ∷ ts) us = place_behind-append (place_after place t.command) ts us

-- one more command
pub pieces-push : (place : Place) (ts : List Timed) (t : Timed) → pieces place (ts ++ t ∷ []) ≡ pieces place ts ++ piece (place_behind place ts) t
pieces-push place ts t = pieces-append place ts (t ∷ []) ∙ ap (λ (text : List ℕ). pieces place ts ++ text) (append-nil (piece (place_behind place ts) t))

pub length-pieces-push : (place : Place) (ts : List Timed) (t : Timed) → length (pieces place (ts ++ t ∷ [])) ≡ length (pieces place ts) + length (piece (place_behind place ts) t)
length-pieces-push place ts t =
    ap length (pieces-push place ts t) ∙ length-append (pieces place ts) (piece (place_behind place ts) t)

pub place_behind-push : (place : Place) (ts : List Timed) (t : Timed) → place_behind place (ts ++ t ∷ []) ≡ place_after (place_behind place ts) t.command
place_behind-push place ts t = place_behind-append place ts (t ∷ [])

-- what is written of commands is what is written of their items
item_text-command : (place : Place) (t : Timed) → item_text place (item_of t) ≡ piece place t
unfolding item_text what_text piece command_text
item_text-command First t = refl
item_text-command (Later running) t = refl

pub items_text-commands : (place : Place) (ts : List Timed) → items_text place (items_of ts) ≡ pieces place ts
items_text-commands place [] = refl
items_text-commands place (t ∷ ts) = rw (item_text-command place t, items_text-commands (place_after place t.command) ts) refl

pub section-commands : (ts : List Timed) (journal : Bool) → section (items_of ts) journal ≡ section_of ts journal
section-commands ts journal = rw (items_text-commands First ts) refl

-- a header has one octet or two
pub length-header : (len : ℕ) (journal : Bool) → length (header len journal) ≡ (if nat_lt len 16 then 1 else 2)
unfolding header
length-header len journal = elim (cases_Bool (nat_lt len 16)) [ inl t ↦ rw t refl | inr f ↦ rw f refl ]

pub length-header-le : (len : ℕ) (journal : Bool) → length (header len journal) ≤ 2
unfolding header
length-header-le len journal = elim (cases_Bool (nat_lt len 16)) [ inl t ↦ rw t (omega arith) | inr f ↦ rw f (omega arith) ]

pub length-section_of : (ts : List Timed) (journal : Bool) → length (section_of ts journal) ≤ length (list_text ts) + 2
length-section_of ts journal =
    omega (arith, length-append (header (length (list_text ts)) journal) (list_text ts), length-header-le (length (list_text ts)) journal)
