-- Each chapter shows what the packet before brought.
use Rattle.std.proofs.Common.{◌≡◌, ℕ, ◌+◌, ◌*◌, ◌%◌, ◌≤◌, ◌<◌, Bool, true, false, not, ◌||◌, eqb, ltb, leb, List, [], ◌∷◌, ◌++◌, map, refl, sym, ap, ◌∙◌, arith, inl, inr}
use Rattle.std.proofs.Math.Bool.{or-false}
use Rattle.std.specs.List.{list_any}
use Rattle.std.proofs.lemmas.List.Folds.{list_any-append}
use Rattle.std.proofs.lemmas.Bool.{cases_Bool, lt-ltb, le-ltb}
use Rattle.jm_wire.specs.declared.heads.SeqHead.{SeqHead}
use Rattle.jm_wire.specs.declared.heads.TimeHead.{TimeHead}
use Rattle.jm_wire.specs.Heads.{bit, seq_octets, time_octets, FitsSeq, FitsTime}
use Rattle.jm_wire.specs.Numbers.{be16}
use Rattle.jm_cmds.specs.declared.commands.Command.{Command}
use Rattle.jm_cmds.specs.declared.commands.Command.TheVariants.{SongSelect}
use Rattle.jm_cmds.specs.declared.history.Sent.{Sent}
use Rattle.jm_cmds.specs.Command.{IsCommand}
use Rattle.jm_cmds.specs.History.{standing, coded, below}
use Rattle.jm_cmds.specs.HistoryLaws.{AllByRecursion-filter, AllByRecursion-standing}
use Rattle.jm_cmds.specs.Sent.{packet_of, is_fresh, s_bit, shows_fresh}
use Rattle.jm_cmds.specs.SentLaws.{s-shows}
use Rattle.ch_system.specs.declared.items.SystemItem.{SystemItem}
use Rattle.ch_system.specs.declared.items.SystemItem.TheVariants.{Reset, Tune, Song, Sensing, Sequence, Frames}
use Rattle.jm_cmds.specs.declared.sequencing.SequencerPart.{SequencerPart}
use Rattle.jm_cmds.specs.declared.frames.TimePart.{TimePart}
use Rattle.ch_system.specs.Items.{is_place_of, item_ends, item_coded, item_count, item_fresh}
use Rattle.ch_system.specs.ItemLaws.{OneAtMost, none, one, one-coded}
use Rattle.jm_cmds.specs.Sequencing.{sequencer_after}
use Rattle.ch_system.specs.SequencingLaws.{IsSequencer-after, position_there}
use Rattle.jm_cmds.specs.Frames.{time_code_after}
use Rattle.ch_system.specs.FrameLaws.{IsTimeCode-after, time_code_there}
use Rattle.ch_system.specs.StateLaws.{value_of}
use Rattle.ch_system.specs.ChapterD.{chapter_d, fresh_d, d_head, headed, any_bit, count_logs, song_logs, song_of}
use Rattle.ch_system.specs.ChapterV.{chapter_v, fresh_v}
use Rattle.ch_system.specs.ChapterQ.{chapter_q, fresh_q, sequencer_octets, sequencer_head}
use Rattle.ch_system.specs.ChapterF.{chapter_f, fresh_f, code_octets, code_head, word_octets}
use Rattle.ch_system.specs.Fresh.{AreCommands, logs_show_fresh, FreshShowsD}

bit-le : (b : Bool) → bit b ≤ 1
bit-le true = omega arith
bit-le false = omega arith

-- ## Chapter V

count-bound : (item : SystemItem) (session : List Sent) → item_count item session < 128
unfolding item_count
count-bound item session = omega arith

pub fresh_v-shows : (checkpoint packet : ℕ) (sent : List Sent) → fresh_v checkpoint packet sent ≡ shows_fresh (chapter_v checkpoint packet sent)
unfolding fresh_v chapter_v
fresh_v-shows checkpoint packet sent =
    elim (one-coded Sensing checkpoint packet sent) [
      | none e ↦ rw e refl
      | one x e ↦ rw e (or-false (is_fresh packet x) ∙ sym (s-shows (is_fresh packet x) (item_count Sensing (below packet_of packet sent)) (count-bound Sensing (below packet_of packet sent))))
    ]

-- ## Chapter Q

seq-shows : (head : SeqHead) (more : List ℕ) → FitsSeq head → shows_fresh (seq_octets head ++ more) ≡ not head.s
seq-shows head more h =
    let n = bit-le head.n in
    let d = bit-le head.d in
    let c = bit-le head.c in
    let t = bit-le head.t in
    elim (cases_Bool head.s) [
      | inl s ↦ rw s (le-ltb (128 * 1 + 64 * bit head.n + 32 * bit head.d + 16 * bit head.c + 8 * bit head.t + head.top) 128 (omega (arith, h, n, d, c, t)))
      | inr s ↦ rw s (lt-ltb (128 * 0 + 64 * bit head.n + 32 * bit head.d + 16 * bit head.c + 8 * bit head.t + head.top) 128 (omega (arith, h, n, d, c, t)))
    ]

twice : (b : Bool) → not (not b) ≡ b
twice true = refl
twice false = refl

position-shows : (fresh : Bool) (s : SequencerPart) → s.position < 524288 → shows_fresh (sequencer_octets fresh s ++ []) ≡ fresh
position-shows fresh s h =
    elim (cases_Bool (eqb s.position 0)) [
      | inl z ↦ rw z (seq-shows (sequencer_head fresh false s) [] (omega arith) ∙ twice fresh)
      | inr m ↦ rw m (seq-shows (sequencer_head fresh true s) (be16 (s.position % 65536) ++ []) (omega arith) ∙ twice fresh)
    ]

pub fresh_q-shows : (checkpoint packet : ℕ) (sent : List Sent) → AreCommands sent → fresh_q checkpoint packet sent ≡ shows_fresh (chapter_q checkpoint packet sent)
unfolding fresh_q chapter_q
fresh_q-shows checkpoint packet sent a =
    elim (one-coded Sequence checkpoint packet sent) [
      | none e ↦ rw e refl
      | one x e ↦
          let state = value_of (sequencer_after (below packet_of packet sent)) (position_there checkpoint packet sent x [] e) in
          let bound = IsSequencer-after packet sent a in
          rw (e, state.is) (or-false (is_fresh packet x) ∙ sym (position-shows (is_fresh packet x) state.value (rw state.is at bound)))
    ]

-- ## Chapter F

time-shows : (head : TimeHead) (more : List ℕ) → FitsTime head → shows_fresh (time_octets head ++ more) ≡ not head.s
time-shows head more h =
    let c = bit-le head.c in
    let p = bit-le head.p in
    let q = bit-le head.q in
    let d = bit-le head.d in
    elim (cases_Bool head.s) [
      | inl s ↦ rw s (le-ltb (128 * 1 + 64 * bit head.c + 32 * bit head.p + 16 * bit head.q + 8 * bit head.d + head.point) 128 (omega (arith, h, c, p, q, d)))
      | inr s ↦ rw s (lt-ltb (128 * 0 + 64 * bit head.c + 32 * bit head.p + 16 * bit head.q + 8 * bit head.d + head.point) 128 (omega (arith, h, c, p, q, d)))
    ]

code-shows : (fresh : Bool) (code : TimePart) → code.point < 8 → shows_fresh (code_octets fresh code ++ []) ≡ fresh
code-shows fresh code h =
    time-shows (code_head fresh code) ((word_octets code.complete ++ word_octets code.partial) ++ []) h ∙ twice fresh

pub fresh_f-shows : (checkpoint packet : ℕ) (sent : List Sent) → AreCommands sent → fresh_f checkpoint packet sent ≡ shows_fresh (chapter_f checkpoint packet sent)
unfolding fresh_f chapter_f
fresh_f-shows checkpoint packet sent a =
    elim (one-coded Frames checkpoint packet sent) [
      | none e ↦ rw e refl
      | one x e ↦
          let state = value_of (time_code_after (below packet_of packet sent)) (time_code_there checkpoint packet sent x [] e) in
          let bound = IsTimeCode-after packet sent a in
          rw (e, state.is) (or-false (is_fresh packet x) ∙ sym (code-shows (is_fresh packet x) state.value (rw state.is at bound)))
    ]

-- ## Chapter D

any_bit-le : (logs : List ℕ) → any_bit logs ≤ 1
any_bit-le [] = omega arith
any_bit-le (log ∷ more) = omega arith

head-shows : (fresh : Bool) (resets tunes songs : List ℕ) → ltb (d_head fresh resets tunes songs) 128 ≡ fresh
head-shows true resets tunes songs =
    lt-ltb (0 + 64 * any_bit resets + 32 * any_bit tunes + 16 * any_bit songs) 128 (omega (arith, any_bit-le resets, any_bit-le tunes, any_bit-le songs))
head-shows false resets tunes songs = le-ltb (128 + 64 * any_bit resets + 32 * any_bit tunes + 16 * any_bit songs) 128 (omega arith)

headed-shows : (fresh : Bool) (head : ℕ) (logs : List ℕ) → ltb head 128 ≡ fresh → (logs ≡ [] → fresh ≡ false) → fresh ≡ shows_fresh (headed head logs)
headed-shows fresh head [] h none_fresh = none_fresh refl
headed-shows fresh head (log ∷ more) h none_fresh = sym h

all-empty : (a b c : List ℕ) → (a ++ b) ++ c ≡ [] → (a ≡ []) × (b ≡ []) × (c ≡ [])
all-empty [] [] [] e = (refl, refl, refl)
all-empty [] [] (x ∷ xs) e = absurd cc
all-empty [] (x ∷ xs) c e = absurd cc
all-empty (x ∷ xs) b c e = absurd cc

none-fresh : (packet : ℕ) (text : Sent → ℕ) (places : List Sent) → map text places ≡ [] → list_any (is_fresh packet) places ≡ false
none-fresh packet text [] e = refl
none-fresh packet text (x ∷ xs) e = absurd cc

nothing-fresh : (checkpoint packet : ℕ) (sent : List Sent) → (count_logs Reset checkpoint packet sent ++ count_logs Tune checkpoint packet sent) ++ song_logs checkpoint packet sent ≡ [] → fresh_d checkpoint packet sent ≡ false
unfolding fresh_d
nothing-fresh checkpoint packet sent e =
    let parts = all-empty (count_logs Reset checkpoint packet sent) (count_logs Tune checkpoint packet sent) (song_logs checkpoint packet sent) e in
    let reset : item_fresh Reset checkpoint packet sent ≡ false = none-fresh packet (λ place. s_bit packet place + item_count Reset (below packet_of packet sent)) (item_coded Reset checkpoint packet sent) parts.0 in
    let tune : item_fresh Tune checkpoint packet sent ≡ false = none-fresh packet (λ place. s_bit packet place + item_count Tune (below packet_of packet sent)) (item_coded Tune checkpoint packet sent) parts.1 in
    let song : item_fresh Song checkpoint packet sent ≡ false = none-fresh packet (λ place. s_bit packet place + song_of place.command) (item_coded Song checkpoint packet sent) parts.2 in
    rw (reset, tune, song) refl

header-d-shows : (checkpoint packet : ℕ) (sent : List Sent) → fresh_d checkpoint packet sent ≡ shows_fresh (chapter_d checkpoint packet sent)
unfolding chapter_d
header-d-shows checkpoint packet sent =
    let resets = count_logs Reset checkpoint packet sent in
    let tunes = count_logs Tune checkpoint packet sent in
    let songs = song_logs checkpoint packet sent in
    headed-shows (fresh_d checkpoint packet sent) (d_head (fresh_d checkpoint packet sent) resets tunes songs) (resets ++ tunes ++ songs)
    (head-shows (fresh_d checkpoint packet sent) resets tunes songs) (nothing-fresh checkpoint packet sent)

-- the log of an item, where it is coded
count-shows : (item : SystemItem) (checkpoint packet : ℕ) (sent : List Sent) → item_fresh item checkpoint packet sent ≡ shows_fresh (count_logs item checkpoint packet sent)
count-shows item checkpoint packet sent =
    elim (one-coded item checkpoint packet sent) [
      | none e ↦ rw e refl
      | one x e ↦ rw e (or-false (is_fresh packet x) ∙ sym (s-shows (is_fresh packet x) (item_count item (below packet_of packet sent)) (count-bound item (below packet_of packet sent))))
    ]

song-bound : (command : Command) → IsCommand command → song_of command < 128
song-bound (SongSelect song) h = h
song-bound command h = omega arith

coded-commands : (item : SystemItem) (checkpoint packet : ℕ) (sent : List Sent) → AreCommands sent → AreCommands (item_coded item checkpoint packet sent)
unfolding item_coded
coded-commands item checkpoint packet sent h =
    let seen = below packet_of packet sent in
    let in_seen = AllByRecursion-filter (λ (place : Sent). IsCommand place.command) (λ (place : Sent). ltb (packet_of place) packet) sent h in
    let standing_too = AllByRecursion-standing (λ (place : Sent). IsCommand place.command) (item_ends item) seen in_seen in
    AllByRecursion-filter (λ (place : Sent). IsCommand place.command) (is_place_of item) (coded (item_ends item) packet_of checkpoint seen)
    (AllByRecursion-filter (λ (place : Sent). IsCommand place.command) (λ (place : Sent). leb checkpoint (packet_of place)) (standing (item_ends item) seen) standing_too)

song-shows : (checkpoint packet : ℕ) (sent : List Sent) → AreCommands sent → item_fresh Song checkpoint packet sent ≡ shows_fresh (song_logs checkpoint packet sent)
song-shows checkpoint packet sent h =
    elim (one-coded Song checkpoint packet sent) [
      | none e ↦ rw e refl
      | one x e ↦
          let fits = rw e at (coded-commands Song checkpoint packet sent h) in
          rw e (or-false (is_fresh packet x) ∙ sym (s-shows (is_fresh packet x) (song_of x.command) (song-bound x.command fits.0)))
    ]

headed-logs : (head : ℕ) (logs : List ℕ) → logs_show_fresh (headed head logs) ≡ list_any (λ log. ltb log 128) logs
headed-logs head [] = refl
headed-logs head (log ∷ more) = refl

-- of one log at most, the first tells all
first-shows : (text : Sent → ℕ) (places : List Sent) → OneAtMost places → shows_fresh (map text places) ≡ list_any (λ log. ltb log 128) (map text places)
first-shows text places (none e) = rw e refl
first-shows text places (one x e) = rw e (sym (or-false (ltb (text x) 128)))

three : {a b c d e f : Bool} → a ≡ d → b ≡ e → c ≡ f → (a || b || c) ≡ (d || e || f)
three p q r = rw (p, q, r) refl

logs-d-show : (checkpoint packet : ℕ) (sent : List Sent) → AreCommands sent → fresh_d checkpoint packet sent ≡ logs_show_fresh (chapter_d checkpoint packet sent)
unfolding chapter_d fresh_d
logs-d-show checkpoint packet sent h =
    let resets = count_logs Reset checkpoint packet sent in
    let tunes = count_logs Tune checkpoint packet sent in
    let songs = song_logs checkpoint packet sent in
    let clear : ℕ → Bool = λ log. ltb log 128 in
    let seen = below packet_of packet sent in
    let r : item_fresh Reset checkpoint packet sent ≡ list_any clear resets = count-shows Reset checkpoint packet sent ∙ first-shows (λ place. s_bit packet place + item_count Reset seen) (item_coded Reset checkpoint packet sent) (one-coded Reset checkpoint packet sent) in
    let t : item_fresh Tune checkpoint packet sent ≡ list_any clear tunes = count-shows Tune checkpoint packet sent ∙ first-shows (λ place. s_bit packet place + item_count Tune seen) (item_coded Tune checkpoint packet sent) (one-coded Tune checkpoint packet sent) in
    let s : item_fresh Song checkpoint packet sent ≡ list_any clear songs = song-shows checkpoint packet sent h ∙ first-shows (λ place. s_bit packet place + song_of place.command) (item_coded Song checkpoint packet sent) (one-coded Song checkpoint packet sent) in
    let split : list_any clear (resets ++ tunes ++ songs) ≡ (list_any clear resets || list_any clear tunes || list_any clear songs) =
    list_any-append clear (resets ++ tunes) songs ∙ ap (λ b. b || list_any clear songs) (list_any-append clear resets tunes) in
    three r t s ∙ sym split ∙ sym (headed-logs (d_head (fresh_d checkpoint packet sent) resets tunes songs) (resets ++ tunes ++ songs))

pub fresh_d-shows : FreshShowsD
fresh_d-shows = record {
  header = header-d-shows;
  logs = logs-d-show;
  reset = count-shows Reset;
  tune = count-shows Tune;
  song = song-shows;
}
