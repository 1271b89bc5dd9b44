-- The tables of the system chapters stand for what the chapters code.
use Rattle.std.proofs.Common.{◌≡◌, ℕ, ◌+◌, ◌%◌, ◌<◌, ◌≤◌, Bool, true, false, cond, ◌||◌, List, [], ◌∷◌, ◌++◌, None, refl, sym, ap, ◌∙◌, map, arith}
use Rattle.std.specs.List.{flat_map, list_any, AllByRecursion, filter}
use Rattle.std.proofs.lemmas.List.Sums.{fold-append, sum_by-append, sum_by-cons}
use Rattle.jm_cmds.specs.declared.commands.Command.{Command}
use Rattle.jm_cmds.specs.declared.history.Sent.{Sent}
use Rattle.jm_cmds.specs.Control.{is_reset}
use Rattle.jm_cmds.specs.Frames.{time_code_along, time_code_after}
use Rattle.jm_cmds.specs.History.{coded}
use Rattle.jm_cmds.specs.KeptItem.{kept_fresh, kept_since, all_below, kept-push, kept-later}
use Rattle.jm_cmds.specs.Sent.{packet_of, is_fresh, s_of, s_bit}
use Rattle.jm_cmds.specs.Sequencing.{sequencer_along, sequencer_after}
use Rattle.ch_system.specs.declared.items.SystemItem.{SystemItem}
use Rattle.ch_system.specs.declared.items.SystemItem.TheVariants.{Reset, Tune, Song, Sensing, Sequence, Frames}
use Rattle.ch_system.specs.Items.{is_of, is_place_of, touches, item_ends, item_coded, item_fresh, item_total, item_count}
use Rattle.ch_system.specs.ItemLaws.{touching}
use Rattle.ch_system.specs.ChapterD.{song_of, count_logs, song_logs, d_head, headed, chapter_d, fresh_d}
use Rattle.ch_system.specs.ChapterV.{chapter_v, fresh_v}
use Rattle.ch_system.specs.ChapterQ.{position_octets, chapter_q, fresh_q}
use Rattle.ch_system.specs.ChapterF.{time_octets_of, chapter_f, fresh_f}
use Rattle.ch_system.specs.Tables.{song_at, item_kept, item_noted, counted_kept, count_noted, counted_noted, counted_cut, none_counted, counted_text, simple_kept, none_simple, simple_noted, simple_cut, song_text, simple_fresh, simple_text, sensing_kept, sequencer_kept, sequencer_noted, sequencer_cut, sequencer_text, time_kept, time_noted, time_cut, time_text}

-- ## One item

by_tests : (told reset : Bool) (one ks : List (ℕ × ℕ)) → cond (told || reset) (cond told one []) ks ≡ cond told one (cond reset [] ks)
by_tests true reset one ks = refl
by_tests false true one ks = refl
by_tests false false one ks = refl

item-push : (item : SystemItem) (from packet tick : ℕ) (command : Command) (sent : List Sent) → from ≤ packet →
    item_kept item from (sent ++ record { packet = packet; tick = tick; command = command } ∷ []) ≡ item_noted item command packet (item_kept item from sent)
unfolding item_kept
item-push item from packet tick command sent l =
    let y : Sent = record { packet = packet; tick = tick; command = command } in
    kept-push (is_place_of item) (touches item) packet_of song_at (touching item) from sent y l
    ∙ by_tests (is_of item command) (is_reset command) ((packet, song_of command) ∷ []) (item_kept item from sent)

item-later : (item : SystemItem) (from later : ℕ) (sent : List Sent) → from ≤ later → item_kept item later sent ≡ kept_since later (item_kept item from sent)
unfolding item_kept
item-later item from later sent l = kept-later (is_place_of item) (touches item) packet_of song_at from later sent l

item-none : (item : SystemItem) → item_kept item 0 [] ≡ []
unfolding item_kept
item-none item = refl

-- what is coded of it where all places are of packets before this one
item-all : (item : SystemItem) (from packet : ℕ) (sent : List Sent) → AllByRecursion (λ place. packet_of place < packet) sent →
    item_coded item from packet sent ≡ filter (is_place_of item) (coded (item_ends item) packet_of from sent)
unfolding item_coded
item-all item from packet sent h = ap (λ (places : List Sent). filter (is_place_of item) (coded (item_ends item) packet_of from places)) (all_below packet_of packet sent h)

abbrev pair_of : Sent → ℕ × ℕ
pair_of place = (packet_of place, song_at place)

pairs-map : (f : ℕ × ℕ → ℕ) (xs : List Sent) → map (λ x. f (pair_of x)) xs ≡ map f (map {B = ℕ × ℕ} pair_of xs)
pairs-map f [] = refl
pairs-map f (x ∷ xs) = ap (λ (l : List ℕ). f (pair_of x) ∷ l) (pairs-map f xs)

pairs-flat : (f : ℕ × ℕ → List ℕ) (xs : List Sent) → flat_map (λ x. f (pair_of x)) xs ≡ flat_map f (map {B = ℕ × ℕ} pair_of xs)
pairs-flat f [] = refl
pairs-flat f (x ∷ xs) = ap (λ (l : List ℕ). f (pair_of x) ++ l) (pairs-flat f xs)

pairs-any : (f : ℕ × ℕ → Bool) (xs : List Sent) → list_any (λ x. f (pair_of x)) xs ≡ list_any f (map {B = ℕ × ℕ} pair_of xs)
pairs-any f [] = refl
pairs-any f (x ∷ xs) = ap (λ b. f (pair_of x) || b) (pairs-any f xs)

item-any : (item : SystemItem) (from packet : ℕ) (sent : List Sent) → AllByRecursion (λ place. packet_of place < packet) sent → list_any (kept_fresh packet) (item_kept item from sent) ≡ item_fresh item from packet sent
unfolding item_kept
item-any item from packet sent h =
    sym (ap (list_any (is_fresh packet)) (item-all item from packet sent h) ∙ pairs-any (kept_fresh packet) (filter (is_place_of item) (coded (item_ends item) packet_of from sent)))

-- ## Counts

added : (told : Bool) (count : ℕ) → (count + cond told 1 0) % 128 ≡ cond told ((count % 128 + 1) % 128) (count % 128)
added true count = omega arith
added false count = omega arith

count-push : (item : SystemItem) (packet tick : ℕ) (command : Command) (sent : List Sent) →
    item_count item (sent ++ record { packet = packet; tick = tick; command = command } ∷ []) ≡ count_noted item command (item_count item sent)
unfolding item_count
count-push item packet tick command sent =
    let y : Sent = record { packet = packet; tick = tick; command = command } in
    let weight : Sent → ℕ = λ place. cond (is_place_of item place) 1 0 in
    let all : item_total item (sent ++ y ∷ []) ≡ item_total item sent + cond (is_of item command) 1 0 = sum_by-append weight sent (y ∷ []) ∙ omega (arith, sum_by-cons weight y []) in
    ap (λ (k : ℕ). k % 128) all ∙ added (is_of item command) (item_total item sent)

count-none : (item : SystemItem) → item_count item [] ≡ 0
unfolding item_count
count-none item = refl

counted-push : (item : SystemItem) (from packet tick : ℕ) (command : Command) (sent : List Sent) → from ≤ packet →
    counted_noted item command packet (counted_kept item from sent) ≡ counted_kept item from (sent ++ record { packet = packet; tick = tick; command = command } ∷ [])
counted-push item from packet tick command sent l = rw (count-push item packet tick command sent, item-push item from packet tick command sent l) refl

counted-later : (item : SystemItem) (from later : ℕ) (sent : List Sent) → from ≤ later → counted_kept item later sent ≡ counted_cut later (counted_kept item from sent)
counted-later item from later sent l = rw (item-later item from later sent l) refl

counted-coded : (item : SystemItem) (from packet : ℕ) (sent : List Sent) → AllByRecursion (λ place. packet_of place < packet) sent → counted_text packet (counted_kept item from sent) ≡ count_logs item from packet sent
unfolding item_kept
counted-coded item from packet sent h =
    let places = filter (is_place_of item) (coded (item_ends item) packet_of from sent) in
    sym (ap (λ (seen : List Sent). map (λ place. s_bit packet place + item_count item seen) (item_coded item from packet sent)) (all_below packet_of packet sent h)
    ∙ ap (map (λ place. s_bit packet place + item_count item sent)) (item-all item from packet sent h)
    ∙ pairs-map (λ k. s_of (kept_fresh packet k) + item_count item sent) places)

song-coded : (from packet : ℕ) (sent : List Sent) → AllByRecursion (λ place. packet_of place < packet) sent → song_text packet (item_kept Song from sent) ≡ song_logs from packet sent
unfolding item_kept
song-coded from packet sent h =
    let places = filter (is_place_of Song) (coded (item_ends Song) packet_of from sent) in
    sym (ap (map (λ place. s_bit packet place + song_of place.command)) (item-all Song from packet sent h)
    ∙ pairs-map (λ k. s_of (kept_fresh packet k) + k.1) places)

-- ## Chapter D

pub simple_push : (from packet tick : ℕ) (command : Command) (sent : List Sent) → from ≤ packet →
    simple_noted command packet (simple_kept from sent) ≡ simple_kept from (sent ++ record { packet = packet; tick = tick; command = command } ∷ [])
unfolding simple_kept
simple_push from packet tick command sent l =
    rw (counted-push Reset from packet tick command sent l, counted-push Tune from packet tick command sent l, item-push Song from packet tick command sent l) refl

pub simple_later : (from later : ℕ) (sent : List Sent) → from ≤ later → simple_kept later sent ≡ simple_cut later (simple_kept from sent)
unfolding simple_kept
simple_later from later sent l = rw (item-later Reset from later sent l, item-later Tune from later sent l, item-later Song from later sent l) refl

pub simple_none : simple_kept 0 [] ≡ none_simple
unfolding simple_kept
simple_none = rw (item-none Reset, item-none Tune, item-none Song, count-none Reset, count-none Tune) refl

pub simple_any : (from packet : ℕ) (sent : List Sent) → AllByRecursion (λ place. packet_of place < packet) sent → simple_fresh packet (simple_kept from sent) ≡ fresh_d from packet sent
unfolding simple_kept fresh_d
simple_any from packet sent h = rw (item-any Reset from packet sent h, item-any Tune from packet sent h, item-any Song from packet sent h) refl

simple_parts : (from packet : ℕ) (sent : List Sent) → simple_fresh packet (simple_kept from sent) ≡ fresh_d from packet sent →
    counted_text packet (counted_kept Reset from sent) ≡ count_logs Reset from packet sent → counted_text packet (counted_kept Tune from sent) ≡ count_logs Tune from packet sent →
    song_text packet (item_kept Song from sent) ≡ song_logs from packet sent →
    simple_text packet (simple_kept from sent)
    ≡ headed (d_head (fresh_d from packet sent) (count_logs Reset from packet sent) (count_logs Tune from packet sent) (song_logs from packet sent)) (count_logs Reset from packet sent ++ count_logs Tune from packet sent ++ song_logs from packet sent)
unfolding simple_kept
simple_parts from packet sent f r t s = rw (f, r, t, s) refl

pub simple_coded : (from packet : ℕ) (sent : List Sent) → AllByRecursion (λ place. packet_of place < packet) sent → simple_text packet (simple_kept from sent) ≡ chapter_d from packet sent
unfolding chapter_d
simple_coded from packet sent h =
    simple_parts from packet sent (simple_any from packet sent h) (counted-coded Reset from packet sent h) (counted-coded Tune from packet sent h) (song-coded from packet sent h)

-- ## Chapter V

pub sensing_push : (from packet tick : ℕ) (command : Command) (sent : List Sent) → from ≤ packet →
    counted_noted Sensing command packet (sensing_kept from sent) ≡ sensing_kept from (sent ++ record { packet = packet; tick = tick; command = command } ∷ [])
unfolding sensing_kept
sensing_push from packet tick command sent l = counted-push Sensing from packet tick command sent l

pub sensing_later : (from later : ℕ) (sent : List Sent) → from ≤ later → sensing_kept later sent ≡ counted_cut later (sensing_kept from sent)
unfolding sensing_kept
sensing_later from later sent l = counted-later Sensing from later sent l

pub sensing_none : sensing_kept 0 [] ≡ none_counted
unfolding sensing_kept
sensing_none = rw (item-none Sensing, count-none Sensing) refl

pub sensing_coded : (from packet : ℕ) (sent : List Sent) → AllByRecursion (λ place. packet_of place < packet) sent → counted_text packet (sensing_kept from sent) ≡ chapter_v from packet sent
unfolding sensing_kept chapter_v
sensing_coded from packet sent h = counted-coded Sensing from packet sent h

pub sensing_any : (from packet : ℕ) (sent : List Sent) → AllByRecursion (λ place. packet_of place < packet) sent → list_any (kept_fresh packet) (sensing_kept from sent).kept ≡ fresh_v from packet sent
unfolding sensing_kept fresh_v
sensing_any from packet sent h = item-any Sensing from packet sent h

-- ## Chapter Q

pub sequencer_push : (from packet tick : ℕ) (command : Command) (sent : List Sent) → from ≤ packet →
    sequencer_noted command packet (sequencer_kept from sent) ≡ sequencer_kept from (sent ++ record { packet = packet; tick = tick; command = command } ∷ [])
unfolding sequencer_kept sequencer_after
sequencer_push from packet tick command sent l =
    let y : Sent = record { packet = packet; tick = tick; command = command } in
    rw (fold-append sequencer_along None sent (y ∷ []), item-push Sequence from packet tick command sent l) refl

pub sequencer_later : (from later : ℕ) (sent : List Sent) → from ≤ later → sequencer_kept later sent ≡ sequencer_cut later (sequencer_kept from sent)
unfolding sequencer_kept
sequencer_later from later sent l = rw (item-later Sequence from later sent l) refl

pub sequencer_none : sequencer_kept 0 [] ≡ record { state = None; kept = [] }
unfolding sequencer_kept sequencer_after
sequencer_none = rw (item-none Sequence) refl

pub sequencer_coded : (from packet : ℕ) (sent : List Sent) → AllByRecursion (λ place. packet_of place < packet) sent → sequencer_text packet (sequencer_kept from sent) ≡ chapter_q from packet sent
unfolding sequencer_kept chapter_q item_kept
sequencer_coded from packet sent h =
    let places = filter (is_place_of Sequence) (coded (item_ends Sequence) packet_of from sent) in
    sym (ap (λ (seen : List Sent). flat_map (λ place. position_octets (is_fresh packet place) (sequencer_after seen)) (item_coded Sequence from packet sent)) (all_below packet_of packet sent h)
    ∙ ap (flat_map (λ place. position_octets (is_fresh packet place) (sequencer_after sent))) (item-all Sequence from packet sent h)
    ∙ pairs-flat (λ k. position_octets (kept_fresh packet k) (sequencer_after sent)) places)

pub sequencer_any : (from packet : ℕ) (sent : List Sent) → AllByRecursion (λ place. packet_of place < packet) sent → list_any (kept_fresh packet) (sequencer_kept from sent).kept ≡ fresh_q from packet sent
unfolding sequencer_kept fresh_q
sequencer_any from packet sent h = item-any Sequence from packet sent h

-- ## Chapter F

pub time_push : (from packet tick : ℕ) (command : Command) (sent : List Sent) → from ≤ packet →
    time_noted command packet (time_kept from sent) ≡ time_kept from (sent ++ record { packet = packet; tick = tick; command = command } ∷ [])
unfolding time_kept time_code_after
time_push from packet tick command sent l =
    let y : Sent = record { packet = packet; tick = tick; command = command } in
    rw (fold-append time_code_along None sent (y ∷ []), item-push Frames from packet tick command sent l) refl

pub time_later : (from later : ℕ) (sent : List Sent) → from ≤ later → time_kept later sent ≡ time_cut later (time_kept from sent)
unfolding time_kept
time_later from later sent l = rw (item-later Frames from later sent l) refl

pub time_none : time_kept 0 [] ≡ record { code = None; kept = [] }
unfolding time_kept time_code_after
time_none = rw (item-none Frames) refl

pub time_coded : (from packet : ℕ) (sent : List Sent) → AllByRecursion (λ place. packet_of place < packet) sent → time_text packet (time_kept from sent) ≡ chapter_f from packet sent
unfolding time_kept chapter_f item_kept
time_coded from packet sent h =
    let places = filter (is_place_of Frames) (coded (item_ends Frames) packet_of from sent) in
    sym (ap (λ (seen : List Sent). flat_map (λ place. time_octets_of (is_fresh packet place) (time_code_after seen)) (item_coded Frames from packet sent)) (all_below packet_of packet sent h)
    ∙ ap (flat_map (λ place. time_octets_of (is_fresh packet place) (time_code_after sent))) (item-all Frames from packet sent h)
    ∙ pairs-flat (λ k. time_octets_of (kept_fresh packet k) (time_code_after sent)) places)

pub time_any : (from packet : ℕ) (sent : List Sent) → AllByRecursion (λ place. packet_of place < packet) sent → list_any (kept_fresh packet) (time_kept from sent).kept ≡ fresh_f from packet sent
unfolding time_kept fresh_f
time_any from packet sent h = item-any Frames from packet sent h
