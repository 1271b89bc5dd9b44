-- Chapter N by the numbers that counting gives.
use Rattle.std.proofs.Common.{◌≡◌, ℕ, zero, suc, ◌+◌, ◌*◌, ◌-◌, Bool, true, false, cond, not, ◌||◌, ◌&&◌, eqb, List, [], ◌∷◌, ◌++◌, length, map, get_or, replicate, refl, sym, ap, ◌∙◌, arith, length-append, min}
use Rattle.std.specs.List.{list_any, flat_map, range_with_len}
use Rattle.std.proofs.lemmas.List.Sums.{sum_by-cons}
use Rattle.std.proofs.lemmas.List.FromFn.{length-map-range_with_len}
use Rattle.jm_wire.specs.Heads.{note_octets}
use Rattle.jm_cmds.specs.declared.history.Sent.{Sent}
use Rattle.jm_cmds.specs.History.{standing, coded, below}
use Rattle.jm_cmds.specs.Sent.{packet_of, is_fresh, s_bit}
use Rattle.ch_notes.specs.declared.events.NoteEvent.{NoteEvent}
use Rattle.ch_notes.specs.declared.events.NoteEvent.TheVariants.{Struck, Released, Cleared, Other}
use Rattle.ch_notes.specs.declared.shape.Shape.{Shape}
use Rattle.ch_notes.specs.NoteEvent.{event_at, note_ends, AreWithin}
use Rattle.ch_notes.specs.Shape.{counted, no_notes, is_bare, shape_head, span, mark_bit, mark_octet, mark_octets, shaped, shape_len}
use Rattle.ch_notes.specs.ChapterN.{is_struck, is_released, event_log, note_log, y_bit, log_count, released, low_octet, high_octet, note_bit, off_octet, off_octets, chapter_of, chapter_n, fresh_n}
use Rattle.ch_notes.specs.CountLaws.{counted-logs, counted-off, counted-low, counted-high, counted-fresh_off, counted-fresh, counted-released}
use Rattle.ch_notes.specs.BitLaws.{map_same}

get_or-no_marks : (k n : ℕ) → get_or (replicate k false) n false ≡ false
get_or-no_marks zero n = refl
get_or-no_marks (suc k) zero = refl
get_or-no_marks (suc k) (suc n) = get_or-no_marks k n

-- a note is marked exactly where it is released
marks-released : (channel packet : ℕ) (places : List Sent) (n : ℕ) → AreWithin channel places →
    mark_bit (counted channel packet no_notes places).released n ≡ note_bit (released channel places) n
marks-released channel packet places n w =
    let e = counted-released channel packet no_notes places n w refl in
    let none = get_or-no_marks 128 n in
    ap (λ b. cond b 1 0) (e ∙ ap (λ b. b || list_any (λ m. eqb m n) (released channel places)) none)

octets-released : (channel packet : ℕ) (places : List Sent) (k : ℕ) → AreWithin channel places →
    mark_octet (counted channel packet no_notes places).released k ≡ off_octet (released channel places) k
octets-released channel packet places k w =
    let at : (n : ℕ) → mark_bit (counted channel packet no_notes places).released n ≡ note_bit (released channel places) n = λ n. marks-released channel packet places n w in
    omega (arith, at (8 * k), at (8 * k + 1), at (8 * k + 2), at (8 * k + 3), at (8 * k + 4), at (8 * k + 5), at (8 * k + 6), at (8 * k + 7))

bits-released : (channel packet : ℕ) (places : List Sent) → AreWithin channel places →
    mark_octets (counted channel packet no_notes places) ≡ off_octets (released channel places)
bits-released channel packet places w =
    let s = counted channel packet no_notes places in
    let notes = released channel places in
    map_same (mark_octet s.released) (off_octet notes) (λ k. octets-released channel packet places k w) (range_with_len s.low (span s))
    ∙ ap (λ (low : ℕ). map (off_octet notes) (range_with_len low (s.high + 1 - low))) (counted-low channel packet no_notes places)
    ∙ ap (λ (high : ℕ). map (off_octet notes) (range_with_len (low_octet notes) (high + 1 - low_octet notes))) (counted-high channel packet no_notes places)

-- the chapter by its numbers, its logs and its bits
text : (logs off low high : ℕ) (fresh_off : Bool) (lines bits : List ℕ) → List ℕ
text logs off low high fresh_off lines bits =
    cond (eqb logs 0 && eqb off 0) []
    (note_octets (record { b = not fresh_off; len = min 127 logs; low = low; high = cond (eqb off 0 && eqb logs 127) 1 high }) ++ (lines ++ bits))

shaped-text : (s : Shape) (lines : List ℕ) → shaped s lines ≡ text s.logs s.off s.low s.high s.fresh_off lines (mark_octets s)
unfolding text
shaped-text s lines = refl

chapter_of-text : (channel packet tick : ℕ) (places : List Sent) →
    chapter_of channel packet tick places
    ≡ text (log_count channel places) (length (released channel places)) (low_octet (released channel places)) (high_octet (released channel places))
    (list_any (λ place. is_released (event_at channel place) && is_fresh packet place) places)
    (flat_map (note_log channel packet tick) places) (off_octets (released channel places))
unfolding text
chapter_of-text channel packet tick places = refl

same_text : (a b : ℕ) (c d : ℕ) (e f : ℕ) (g h : ℕ) (i j : Bool) (lines k l : List ℕ) → a ≡ b → c ≡ d → e ≡ f → g ≡ h → i ≡ j → k ≡ l → text a c e g i lines k ≡ text b d f h j lines l
same_text a b c d e f g h i j lines k l p q r s t u = cc

pub chapter_of-shaped : (channel packet tick : ℕ) (places : List Sent) → AreWithin channel places →
    chapter_of channel packet tick places ≡ shaped (counted channel packet no_notes places) (flat_map (note_log channel packet tick) places)
chapter_of-shaped channel packet tick places w =
    let s = counted channel packet no_notes places in
    let notes = released channel places in
    let lines = flat_map (note_log channel packet tick) places in
    let logs : s.logs ≡ log_count channel places = omega (arith, counted-logs channel packet no_notes places) in
    let off : s.off ≡ length notes = omega (arith, counted-off channel packet no_notes places) in
    chapter_of-text channel packet tick places
    ∙ same_text (log_count channel places) s.logs (length notes) s.off (low_octet notes) s.low (high_octet notes) s.high
    (list_any (λ place. is_released (event_at channel place) && is_fresh packet place) places) s.fresh_off lines (off_octets notes) (mark_octets s)
    (sym logs) (sym off) (sym (counted-low channel packet no_notes places)) (sym (counted-high channel packet no_notes places))
    (sym (counted-fresh_off channel packet no_notes places)) (sym (bits-released channel packet places w))
    ∙ sym (shaped-text s lines)

-- ## The length

length-event_log : (s y : ℕ) (event : NoteEvent) → length (event_log s y event) ≡ 2 * cond (is_struck event) 1 0
length-event_log s y (Struck note velocity) = refl
length-event_log s y (Released note velocity) = refl
length-event_log s y Cleared = refl
length-event_log s y Other = refl

pub length-logs : (channel packet tick : ℕ) (places : List Sent) → length (flat_map (note_log channel packet tick) places) ≡ 2 * log_count channel places
length-logs channel packet tick [] = refl
length-logs channel packet tick (x ∷ xs) =
    let one = length-event_log (s_bit packet x) (y_bit tick x) (event_at channel x) in
    let more = sum_by-cons (λ place. cond (is_struck (event_at channel place)) 1 0) x xs in
    let ih = length-logs channel packet tick xs in
    omega (arith, length-append (note_log channel packet tick x) (flat_map (note_log channel packet tick) xs), one, more, ih)

pub length-shaped : (s : Shape) (lines : List ℕ) → length lines ≡ 2 * s.logs → length (shaped s lines) ≡ shape_len s
length-shaped s lines l =
    let bits = length-map-range_with_len (mark_octet s.released) s.low (span s) in
    let all = length-append lines (mark_octets s) in
    let e : suc (suc (length (lines ++ mark_octets s))) ≡ 2 + 2 * s.logs + span s = omega (arith, l, bits, all) in
    length-cond (is_bare s) (note_octets (shape_head s) ++ (lines ++ mark_octets s)) ∙ ap (λ (n : ℕ). cond (is_bare s) 0 n) e
  where
    length-cond : (b : Bool) (xs : List ℕ) → length (cond b [] xs) ≡ cond b 0 (length xs)
    length-cond true xs = refl
    length-cond false xs = refl

-- ## The chapter of a history

-- the chapter by what stands among the places of the checkpoint history
pub chapter_n-standing : (channel checkpoint packet tick : ℕ) (sent places : List Sent) →
    standing (note_ends channel) places ≡ coded (note_ends channel) packet_of checkpoint (below packet_of packet sent) →
    AreWithin channel (standing (note_ends channel) places) →
    chapter_n channel checkpoint packet tick sent
    ≡ shaped (counted channel packet no_notes (standing (note_ends channel) places)) (flat_map (note_log channel packet tick) (standing (note_ends channel) places))
unfolding chapter_n
chapter_n-standing channel checkpoint packet tick sent places e w =
    ap (chapter_of channel packet tick) (sym e) ∙ chapter_of-shaped channel packet tick (standing (note_ends channel) places) w

pub length-chapter_n : (channel checkpoint packet tick : ℕ) (sent places : List Sent) →
    standing (note_ends channel) places ≡ coded (note_ends channel) packet_of checkpoint (below packet_of packet sent) →
    AreWithin channel (standing (note_ends channel) places) →
    length (chapter_n channel checkpoint packet tick sent) ≡ shape_len (counted channel packet no_notes (standing (note_ends channel) places))
length-chapter_n channel checkpoint packet tick sent places e w =
    let stand = standing (note_ends channel) places in
    let s = counted channel packet no_notes stand in
    let logs : s.logs ≡ log_count channel stand = omega (arith, counted-logs channel packet no_notes stand) in
    ap length (chapter_n-standing channel checkpoint packet tick sent places e w)
    ∙ length-shaped s (flat_map (note_log channel packet tick) stand) (length-logs channel packet tick stand ∙ ap (λ (n : ℕ). 2 * n) (sym logs))

pub fresh_n-standing : (channel checkpoint packet : ℕ) (sent places : List Sent) →
    standing (note_ends channel) places ≡ coded (note_ends channel) packet_of checkpoint (below packet_of packet sent) →
    fresh_n channel checkpoint packet sent ≡ (counted channel packet no_notes (standing (note_ends channel) places)).fresh
unfolding fresh_n
fresh_n-standing channel checkpoint packet sent places e =
    let test : Sent → Bool = λ place. (is_struck (event_at channel place) || is_released (event_at channel place)) && is_fresh packet place in
    ap (list_any test) (sym e) ∙ sym (counted-fresh channel packet no_notes (standing (note_ends channel) places))

-- ## The chapter in pieces

pub shaped-bare : (s : Shape) (lines : List ℕ) → is_bare s ≡ true → shaped s lines ≡ []
shaped-bare s lines b = ap (λ (k : Bool). cond k [] (note_octets (shape_head s) ++ (lines ++ mark_octets s))) b

pub shaped-full : (s : Shape) (lines : List ℕ) → is_bare s ≡ false → shaped s lines ≡ note_octets (shape_head s) ++ (lines ++ mark_octets s)
shaped-full s lines b = ap (λ (k : Bool). cond k [] (note_octets (shape_head s) ++ (lines ++ mark_octets s))) b

pub length-shaped-full : (s : Shape) (lines : List ℕ) → is_bare s ≡ false → length (shaped s lines) ≡ 2 + (length lines + span s)
length-shaped-full s lines b =
    let bits = length-map-range_with_len (mark_octet s.released) s.low (span s) in
    let all = length-append lines (mark_octets s) in
    let e : suc (suc (length (lines ++ mark_octets s))) ≡ 2 + (length lines + span s) = omega (arith, bits, all) in
    ap length (shaped-full s lines b) ∙ e
