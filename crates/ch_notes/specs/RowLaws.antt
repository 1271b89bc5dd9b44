-- Rows of coded places, and rows of keys with stamps.
use Rattle.std.proofs.Common.{◌≡◌, ℕ, ◌+◌, ◌*◌, ◌≤◌, Bool, true, false, not, cond, ◌||◌, ◌&&◌, List, [], ◌∷◌, ◌++◌, Option, Some, None, eqb, leb, length, map, refl, ap, sym, ◌∙◌, arith, length-append, inl, inr}
use Rattle.std.specs.List.{flat_map, filter, AllByRecursion}
use Rattle.std.proofs.lemmas.Bool.{cases_Bool}
use Rattle.jm_recency.specs.Recency.{without, since_stamp}
use Rattle.jm_cmds.specs.declared.history.Sent.{Sent}
use Rattle.jm_cmds.specs.History.{coded, since}
use Rattle.jm_cmds.specs.HistoryLaws.{coded-later}
use Rattle.jm_cmds.specs.KeptItem.{kept_since}
use Rattle.jm_cmds.specs.Sent.{packet_of, s_of}
use Rattle.jm_chapter.specs.declared.log.Log.{Log}
use Rattle.jm_chapter.specs.Logs.{logs_text, has_log, listed, has_fresh, texts, listed_size}
use Rattle.ch_notes.specs.KeptRows.{cons_row, rows_of, RowsUpTo, row_texts, row_fresh, rows_listed, key_texts, key_logs, key_fresh, key_listed}

-- ## Rows of coded places

cons-append : {R : Type 0} (packet : ℕ) (o : Option R) (xs ys : List (ℕ × R)) → cons_row packet o xs ++ ys ≡ cons_row packet o (xs ++ ys)
cons-append packet None xs ys = refl
cons-append packet (Some row) xs ys = refl

pub rows_of-append : {R : Type 0} (f : Sent → Option R) (xs ys : List Sent) → rows_of f (xs ++ ys) ≡ rows_of f xs ++ rows_of f ys
rows_of-append f [] ys = refl
rows_of-append f (x ∷ xs) ys =
    ap (cons_row x.packet (f x)) (rows_of-append f xs ys) ∙ sym (cons-append x.packet (f x) (rows_of f xs) (rows_of f ys))

pub rows_of-same : {R : Type 0} (f g : Sent → Option R) → ((x : Sent) → f x ≡ g x) → (xs : List Sent) → rows_of f xs ≡ rows_of g xs
rows_of-same f g h [] = refl
rows_of-same f g h (x ∷ xs) = rw (h x, rows_of-same f g h xs) refl

-- a place that is left or taken out
pub rows_of-cond : {R : Type 0} (f : Sent → Option R) (x : Sent) (xs : List Sent) (b : Bool) → rows_of f (cond b (x ∷ xs) xs) ≡ cond b (cons_row x.packet (f x) (rows_of f xs)) (rows_of f xs)
rows_of-cond f x xs true = refl
rows_of-cond f x xs false = refl

since_one : {R : Type 0} (later packet : ℕ) (o : Option R) (rows : List (ℕ × R)) → leb later packet ≡ true → kept_since later (cons_row packet o rows) ≡ cons_row packet o (kept_since later rows)
since_one later packet None rows t = refl
since_one later packet (Some row) rows t = rw t refl

since_none : {R : Type 0} (later packet : ℕ) (o : Option R) (rows : List (ℕ × R)) → leb later packet ≡ false → kept_since later (cons_row packet o rows) ≡ kept_since later rows
since_none later packet None rows t = refl
since_none later packet (Some row) rows t = rw t refl

rows_of-since : {R : Type 0} (f : Sent → Option R) (later : ℕ) (xs : List Sent) → rows_of f (since packet_of later xs) ≡ kept_since later (rows_of f xs)
rows_of-since f later [] = refl
rows_of-since f later (x ∷ xs) =
    let ih = rows_of-since f later xs in
    elim (cases_Bool (leb later x.packet)) [
      | inl t ↦ rw t (ap (cons_row x.packet (f x)) ih) ∙ sym (since_one later x.packet (f x) (rows_of f xs) t)
      | inr n ↦ rw n ih ∙ sym (since_none later x.packet (f x) (rows_of f xs) n)
    ]

-- A later checkpoint keeps the rows of packets from it on.
pub rows_of-later : {R : Type 0} (f : Sent → Option R) (ends : Sent → Sent → Bool) (from later : ℕ) (sent : List Sent) → from ≤ later →
    rows_of f (coded ends packet_of later sent) ≡ kept_since later (rows_of f (coded ends packet_of from sent))
rows_of-later f ends from later sent l =
    ap (rows_of f) (sym (coded-later ends packet_of from later sent l)) ∙ rows_of-since f later (coded ends packet_of from sent)

-- ## Logs

abbrev pub option_logs : {R : Type 0} → (logs : R → List Log) → Option R → List Log
option_logs logs None = []
option_logs logs (Some row) = logs row

text_one : {R : Type 0} (logs : R → List Log) (packet at : ℕ) (o : Option R) (rows : List (ℕ × R)) →
    logs_text (s_of (eqb (at + 1) packet)) (option_logs logs o) ++ row_texts logs packet rows ≡ row_texts logs packet (cons_row at o rows)
text_one logs packet at None rows = refl
text_one logs packet at (Some row) rows = refl

texts_rows : {R : Type 0} (logs_at : Sent → List Log) (f : Sent → Option R) (logs : R → List Log) → ((x : Sent) → logs_at x ≡ option_logs logs (f x)) → (packet : ℕ) (xs : List Sent) →
    texts logs_at packet xs ≡ row_texts logs packet (rows_of f xs)
texts_rows logs_at f logs h packet [] = refl
texts_rows logs_at f logs h packet (x ∷ xs) =
    rw (h x, texts_rows logs_at f logs h packet xs) (text_one logs packet x.packet (f x) (rows_of f xs))

flat_one : {R : Type 0} (logs : R → List Log) (at : ℕ) (o : Option R) (rows : List (ℕ × R)) → option_logs logs o ++ flat_map (λ r. logs r.1) rows ≡ flat_map (λ r. logs r.1) (cons_row at o rows)
flat_one logs at None rows = refl
flat_one logs at (Some row) rows = refl

flat_rows : {R : Type 0} (logs_at : Sent → List Log) (f : Sent → Option R) (logs : R → List Log) → ((x : Sent) → logs_at x ≡ option_logs logs (f x)) → (xs : List Sent) →
    flat_map logs_at xs ≡ flat_map (λ r. logs r.1) (rows_of f xs)
flat_rows logs_at f logs h [] = refl
flat_rows logs_at f logs h (x ∷ xs) =
    rw (h x, flat_rows logs_at f logs h xs) (flat_one logs x.packet (f x) (rows_of f xs))

fresh_one : {R : Type 0} (logs : R → List Log) (packet at : ℕ) (o : Option R) (rows : List (ℕ × R)) →
    ((has_log (option_logs logs o) && eqb (at + 1) packet) || row_fresh logs packet rows) ≡ row_fresh logs packet (cons_row at o rows)
fresh_one logs packet at None rows = refl
fresh_one logs packet at (Some row) rows = refl

pub fresh_rows : {R : Type 0} (logs_at : Sent → List Log) (f : Sent → Option R) (logs : R → List Log) → ((x : Sent) → logs_at x ≡ option_logs logs (f x)) → (packet : ℕ) (xs : List Sent) →
    has_fresh logs_at packet xs ≡ row_fresh logs packet (rows_of f xs)
fresh_rows logs_at f logs h packet [] = refl
fresh_rows logs_at f logs h packet (x ∷ xs) =
    rw (h x, fresh_rows logs_at f logs h packet xs) (fresh_one logs packet x.packet (f x) (rows_of f xs))

-- the chapter of places is that of their rows
pub listed_rows : {R : Type 0} (logs_at : Sent → List Log) (f : Sent → Option R) (logs : R → List Log) → ((x : Sent) → logs_at x ≡ option_logs logs (f x)) → (packet : ℕ) (xs : List Sent) →
    listed logs_at packet xs ≡ rows_listed logs packet (rows_of f xs)
listed_rows logs_at f logs h packet xs =
    rw (texts_rows logs_at f logs h packet xs, flat_rows logs_at f logs h xs, fresh_rows logs_at f logs h packet xs) refl

-- ## Rows of keys with stamps

-- rows up to a packet have stamps up to it
pub stamps_up_to : {R : Type 0} (row : ℕ → R) (packet : ℕ) (es : List (ℕ × ℕ)) → RowsUpTo packet (map {B = ℕ × R} (λ e. (e.1, row e.0)) es) → AllByRecursion (λ (e : ℕ × ℕ). e.1 ≤ packet) es
stamps_up_to row packet [] h = tt
stamps_up_to row packet (e ∷ es) h = (h.0, stamps_up_to row packet es h.1)

pub keys_since : {R : Type 0} (row : ℕ → R) (later : ℕ) (es : List (ℕ × ℕ)) →
    map {B = ℕ × R} (λ e. (e.1, row e.0)) (since_stamp later es) ≡ kept_since later (map {B = ℕ × R} (λ e. (e.1, row e.0)) es)
keys_since row later [] = refl
keys_since {R} row later (e ∷ es) =
    let ih = keys_since row later es in
    elim (cases_Bool (leb later e.1)) [ inl t ↦ rw t (ap (λ (l : List (ℕ × R)). (e.1, row e.0) ∷ l) ih) | inr n ↦ rw n ih ]

-- a key that is taken out, where what the others have stays
pub keys_without : {R : Type 0} (row new_row : ℕ → R) (note_of : R → ℕ) (key : ℕ) → ((k : ℕ) → note_of (row k) ≡ k) → ((k : ℕ) → eqb k key ≡ false → new_row k ≡ row k) → (es : List (ℕ × ℕ)) →
    map {B = ℕ × R} (λ e. (e.1, new_row e.0)) (without key es) ≡ filter (λ r. not (eqb (note_of r.1) key)) (map {B = ℕ × R} (λ e. (e.1, row e.0)) es)
keys_without row new_row note_of key own other [] = refl
keys_without {R} row new_row note_of key own other (e ∷ es) =
    let ih = keys_without row new_row note_of key own other es in
    elim (cases_Bool (eqb e.0 key)) [
      | inl t ↦ rw (own e.0, t) ih
      | inr n ↦ rw (own e.0, n, other e.0 n) (ap (λ (l : List (ℕ × R)). (e.1, row e.0) ∷ l) ih)
    ]

keys_texts : {R : Type 0} (logs : R → List Log) (row : ℕ → R) (packet : ℕ) (es : List (ℕ × ℕ)) →
    key_texts (λ k. logs (row k)) packet es ≡ row_texts logs packet (map {B = ℕ × R} (λ e. (e.1, row e.0)) es)
keys_texts logs row packet [] = refl
keys_texts logs row packet (e ∷ es) = ap (λ (l : List ℕ). logs_text (s_of (eqb (e.1 + 1) packet)) (logs (row e.0)) ++ l) (keys_texts logs row packet es)

keys_flat : {R : Type 0} (logs : R → List Log) (row : ℕ → R) (es : List (ℕ × ℕ)) →
    flat_map (λ (e : ℕ × ℕ). logs (row e.0)) es ≡ flat_map (λ r. logs r.1) (map {B = ℕ × R} (λ e. (e.1, row e.0)) es)
keys_flat logs row [] = refl
keys_flat logs row (e ∷ es) = ap (λ (l : List Log). logs (row e.0) ++ l) (keys_flat logs row es)

pub keys_fresh : {R : Type 0} (logs : R → List Log) (row : ℕ → R) (packet : ℕ) (es : List (ℕ × ℕ)) →
    key_fresh (λ k. logs (row k)) packet es ≡ row_fresh logs packet (map {B = ℕ × R} (λ e. (e.1, row e.0)) es)
keys_fresh logs row packet [] = refl
keys_fresh logs row packet (e ∷ es) = ap (λ (b : Bool). (has_log (logs (row e.0)) && eqb (e.1 + 1) packet) || b) (keys_fresh logs row packet es)

-- the chapter of keys is that of their rows
pub keys_listed : {R : Type 0} (logs : R → List Log) (row : ℕ → R) (packet : ℕ) (es : List (ℕ × ℕ)) →
    key_listed (λ k. logs (row k)) packet es ≡ rows_listed logs packet (map {B = ℕ × R} (λ e. (e.1, row e.0)) es)
keys_listed logs row packet es =
    rw (keys_texts logs row packet es, keys_flat logs row es, keys_fresh logs row packet es) refl

-- ## The length

length-logs : (s : ℕ) (logs : List Log) → length (logs_text s logs) ≡ 2 * length logs
length-logs s [] = refl
length-logs s (log ∷ logs) = omega (arith, length-logs s logs)

pub length-key_texts : (logs : ℕ → List Log) (packet : ℕ) (es : List (ℕ × ℕ)) → length (key_texts logs packet es) ≡ 2 * key_logs logs es
length-key_texts logs packet [] = refl
length-key_texts logs packet (e ∷ es) =
    let s = s_of (eqb (e.1 + 1) packet) in
    omega (
      arith,
      length-append (logs_text s (logs e.0)) (key_texts logs packet es),
      length-append (logs e.0) (flat_map (λ (k : ℕ × ℕ). logs k.0) es),
      length-logs s (logs e.0),
      length-key_texts logs packet es,
    )

pub length_key_listed : (logs : ℕ → List Log) (packet : ℕ) (es : List (ℕ × ℕ)) → length (key_listed logs packet es) ≡ listed_size (key_logs logs es)
length_key_listed logs packet es =
    elim (cases_Bool (eqb (key_logs logs es) 0)) [
      | inl t ↦ rw t refl
      | inr f ↦ rw f (omega (arith, length-key_texts logs packet es))
    ]

-- ## Rows up to a packet

pub up_to_later : {R : Type 0} (packet later : ℕ) (rows : List (ℕ × R)) → packet ≤ later → RowsUpTo packet rows → RowsUpTo later rows
up_to_later packet later [] l h = tt
up_to_later packet later (r ∷ rs) l h = (omega (arith, h.0, l), up_to_later packet later rs l h.1)

pub up_to_join : {R : Type 0} (packet : ℕ) (xs ys : List (ℕ × R)) → RowsUpTo packet xs → RowsUpTo packet ys → RowsUpTo packet (xs ++ ys)
up_to_join packet [] ys h k = k
up_to_join packet (r ∷ rs) ys h k = (h.0, up_to_join packet rs ys h.1 k)

pub up_to_filter : {R : Type 0} (packet : ℕ) (p : ℕ × R → Bool) (rows : List (ℕ × R)) → RowsUpTo packet rows → RowsUpTo packet (filter p rows)
up_to_filter packet p [] h = tt
up_to_filter packet p (r ∷ rs) h =
    let ih = up_to_filter packet p rs h.1 in
    elim (cases_Bool (p r)) [ inl t ↦ rw t (h.0, ih) | inr f ↦ rw f ih ]

pub up_to_one : {R : Type 0} (packet later : ℕ) (o : Option R) → packet ≤ later → RowsUpTo later (cons_row packet o [])
up_to_one packet later None l = tt
up_to_one packet later (Some row) l = (l, tt)
