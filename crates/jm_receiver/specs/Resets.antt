-- A journal has the log of a reset where a Reset State command came from the checkpoint on.
use Rattle.std.proofs.Common.{◌≡◌, ℕ, Bool, true, false, cond, ◌&&◌, ◌||◌, leb, List, [], ◌∷◌, ◌++◌, Option, Some, None, map, refl, sym, ap, ◌∙◌, inl, inr}
use Rattle.std.specs.List.{flat_map, list_any, filter, AllByRecursion}
use Rattle.std.proofs.lemmas.Bool.{cases_Bool}
use Rattle.std.proofs.lemmas.List.Folds.{list_any-append}
use Rattle.jm_cmds.specs.declared.commands.Command.{Command}
use Rattle.jm_cmds.specs.declared.commands.Command.TheVariants.{Sysex, SystemReset}
use Rattle.jm_cmds.specs.declared.history.Sent.{Sent}
use Rattle.jm_cmds.specs.declared.frames.TimePart.{TimePart}
use Rattle.jm_cmds.specs.declared.sequencing.SequencerPart.{SequencerPart}
use Rattle.jm_cmds.specs.Control.{is_reset, is_reset_message}
use Rattle.jm_cmds.specs.Data.{is_kept_message}
use Rattle.jm_cmds.specs.Frames.{time_code_after}
use Rattle.jm_cmds.specs.History.{standing, below, since, coded, scanned, InOrder}
use Rattle.jm_cmds.specs.HistoryLaws.{any_weaker, any-coded, any-scanned, since-standing, InOrder-filter}
use Rattle.jm_cmds.specs.Sent.{packet_of, is_fresh}
use Rattle.jm_cmds.specs.Sequencing.{sequencer_after}
use Rattle.ch_system.specs.declared.items.SystemItem.TheVariants.{Reset, Tune, Song, Sensing, Sequence, Frames}
use Rattle.ch_system.specs.Items.{item_coded, item_count, item_ends, is_place_of, is_system_reset, touches}
use Rattle.ch_system.specs.ChapterD.{song_of}
use Rattle.ch_sysex.specs.SysexEvent.{sysex_event, event_at, data_of, sysex_ends, count_step, resets, is_logged}
use Rattle.ch_sysex.specs.ChapterX.{coded_counted}
use Rattle.jm_reader.specs.declared.logs.Log.{Log}
use Rattle.jm_reader.specs.declared.logs.LogKind.{LogKind}
use Rattle.jm_reader.specs.declared.logs.LogKind.TheVariants as kinds
use Rattle.jm_reader.specs.WrittenD.{d_said, place_said}
use Rattle.jm_reader.specs.WrittenV.{v_said}
use Rattle.jm_reader.specs.WrittenQ.{q_said, position_said}
use Rattle.jm_reader.specs.WrittenF.{f_said, code_said}
use Rattle.jm_reader.specs.WrittenX.{x_said, event_said, sysex_said}
use Rattle.jm_reader.specs.WrittenSystem.{system_logs}
use Rattle.jm_reader.specs.WrittenJournal.{journal_logs, channels_logs}
use Rattle.jm_receiver.specs.Repair.{is_reset_log, has_reset}
use Rattle.jm_receiver.specs.Chapters.{is_session, AreOfChannels, channels_of_channels}

-- ## A test through lists

pub any-map : {X Y : Type 0} (test : Y → Bool) (f : X → Y) (xs : List X) → list_any test (map f xs) ≡ list_any (λ x. test (f x)) xs
any-map test f [] = refl
any-map test f (x ∷ xs) = ap (λ b. test (f x) || b) (any-map test f xs)

pub any-flat_map : {X Y : Type 0} (test : Y → Bool) (f : X → List Y) (xs : List X) → list_any test (flat_map f xs) ≡ list_any (λ x. list_any test (f x)) xs
any-flat_map test f [] = refl
any-flat_map test f (x ∷ xs) = list_any-append test (f x) (flat_map f xs) ∙ ap (λ b. list_any test (f x) || b) (any-flat_map test f xs)

pub any-filter : {X : Type 0} (test p : X → Bool) (xs : List X) → list_any test (filter p xs) ≡ list_any (λ x. p x && test x) xs
any-filter test p [] = refl
any-filter test p (x ∷ xs) =
    elim (cases_Bool (p x)) [
      | inl t ↦ rw t (ap (λ b. test x || b) (any-filter test p xs))
      | inr f ↦ rw f (any-filter test p xs)
    ]

pub any-same : {X : Type 0} (test other : X → Bool) → ((x : X) → test x ≡ other x) → (xs : List X) → list_any test xs ≡ list_any other xs
any-same test other h [] = refl
any-same test other h (x ∷ xs) = ap (λ b. b || list_any test xs) (h x) ∙ ap (λ b. other x || b) (any-same test other h xs)

pub any-never : {X : Type 0} (test : X → Bool) → ((x : X) → test x ≡ false) → (xs : List X) → list_any test xs ≡ false
any-never test h [] = refl
any-never test h (x ∷ xs) = rw (h x) (any-never test h xs)

pub any-none : {X : Type 0} (test : X → Bool) (xs : List X) → AllByRecursion (λ x. test x ≡ false) xs → list_any test xs ≡ false
any-none test [] h = refl
any-none test (x ∷ xs) h = rw (h.0) (any-none test xs h.1)

-- places with the state before each are coded as the places are
pub any-placed : {S X : Type 0} (step : S → X → S) (ends : X → X → Bool) (at : X → ℕ) (checkpoint : ℕ) (test : X → Bool) (s : S) (xs : List X) →
    list_any (λ p. test p.1) (coded (λ (p q : S × X). ends p.1 q.1) (λ p. at p.1) checkpoint (scanned step s xs)) ≡ list_any test (coded ends at checkpoint xs)
any-placed step ends at checkpoint test s [] = refl
any-placed {S = S} step ends at checkpoint test s (x ∷ xs) =
    let later = scanned step (step s x) xs in
    any-coded (λ (p q : S × _). ends p.1 q.1) (λ p. at p.1) checkpoint (λ p. test p.1) (s, x) later
    ∙ ap (λ b. cond b false (cond (leb checkpoint (at x)) (test x) false) || list_any (λ p. test p.1) (coded (λ (p q : S × _). ends p.1 q.1) (λ p. at p.1) checkpoint later)) (any-scanned step (ends x) (step s x) xs)
    ∙ ap (λ b. cond (list_any (ends x) xs) false (cond (leb checkpoint (at x)) (test x) false) || b) (any-placed step ends at checkpoint test (step s x) xs)
    ∙ sym (any-coded ends at checkpoint test x xs)

-- ## What the chapters say

abbrev tests : Log → Bool
tests log = is_reset_log log.what

-- a System Exclusive message that is a Reset State command
abbrev is_message : Command → Bool
is_message (Sysex octets) = is_reset_message octets
is_message command = false

and_true : (b : Bool) → (b && true) ≡ b
and_true true = refl
and_true false = refl

or_false : (b : Bool) → (b || false) ≡ b
or_false true = refl
or_false false = refl

d_reset : (checkpoint packet : ℕ) (sent : List Sent) → list_any tests (d_said checkpoint packet sent) ≡ list_any (is_place_of Reset) (coded (item_ends Reset) packet_of checkpoint (below packet_of packet sent))
unfolding d_said item_coded
d_reset checkpoint packet sent =
    let session = below packet_of packet sent in
    let resets_said = place_said packet (λ place. kinds.Reset (item_count Reset session)) in
    let tunes_said = place_said packet (λ place. kinds.Tune (item_count Tune session)) in
    let songs_said = place_said packet (λ place. kinds.Song (song_of place.command)) in
    let places = coded (item_ends Reset) packet_of checkpoint session in
    let r = item_coded Reset checkpoint packet sent in
    let t = item_coded Tune checkpoint packet sent in
    let s = item_coded Song checkpoint packet sent in
    list_any-append tests (map resets_said r ++ map tunes_said t) (map songs_said s)
    ∙ rw (any-map tests songs_said s ∙ any-never (λ x. tests (songs_said x)) (λ x. refl) s) (or_false (list_any tests (map resets_said r ++ map tunes_said t)))
    ∙ list_any-append tests (map resets_said r) (map tunes_said t)
    ∙ rw (any-map tests tunes_said t ∙ any-never (λ x. tests (tunes_said x)) (λ x. refl) t) (or_false (list_any tests (map resets_said r)))
    ∙ any-map tests resets_said r
    ∙ any-filter (λ x. true) (is_place_of Reset) places
    ∙ any-same (λ x. is_place_of Reset x && true) (is_place_of Reset) (λ x. and_true (is_place_of Reset x)) places

v_reset : (checkpoint packet : ℕ) (sent : List Sent) → list_any tests (v_said checkpoint packet sent) ≡ false
unfolding v_said
v_reset checkpoint packet sent = any-map tests _ (item_coded Sensing checkpoint packet sent) ∙ any-never _ (λ x. refl) (item_coded Sensing checkpoint packet sent)

position_reset : (fresh : Bool) (state : Option SequencerPart) → list_any tests (position_said fresh state) ≡ false
position_reset fresh None = refl
position_reset fresh (Some state) = refl

q_reset : (checkpoint packet : ℕ) (sent : List Sent) → list_any tests (q_said checkpoint packet sent) ≡ false
unfolding q_said
q_reset checkpoint packet sent =
    any-flat_map tests _ (item_coded Sequence checkpoint packet sent)
    ∙ any-never _ (λ x. position_reset (is_fresh packet x) (sequencer_after (below packet_of packet sent))) (item_coded Sequence checkpoint packet sent)

code_reset : (fresh : Bool) (state : Option TimePart) → list_any tests (code_said fresh state) ≡ false
code_reset fresh None = refl
code_reset fresh (Some state) = refl

f_reset : (checkpoint packet : ℕ) (sent : List Sent) → list_any tests (f_said checkpoint packet sent) ≡ false
unfolding f_said
f_reset checkpoint packet sent =
    any-flat_map tests _ (item_coded Frames checkpoint packet sent)
    ∙ any-never _ (λ x. code_reset (is_fresh packet x) (time_code_after (below packet_of packet sent))) (item_coded Frames checkpoint packet sent)

message_reset : (fresh : Bool) (count : ℕ) (command : Command) → list_any tests (event_said fresh count (sysex_event command) (data_of command)) ≡ is_message command
message_reset fresh count (Sysex octets) =
    elim (cases_Bool (is_reset_message octets)) [
      | inl t ↦ rw (t, t) refl
      | inr f ↦ elim (cases_Bool (is_kept_message octets)) [ inl k ↦ rw (f, k, f) refl | inr n ↦ rw (f, n) refl ]
    ]
message_reset fresh count command = refl

x_reset : (checkpoint packet : ℕ) (sent : List Sent) → list_any tests (x_said checkpoint packet sent) ≡ list_any (λ place. is_message place.command) (coded sysex_ends packet_of checkpoint (below packet_of packet sent))
unfolding x_said
x_reset checkpoint packet sent =
    let seen = below packet_of packet sent in
    any-flat_map tests (sysex_said packet) (coded_counted checkpoint 0 seen)
    ∙ any-same (λ x. list_any tests (sysex_said packet x)) (λ x. is_message x.1.command) (λ x. message_reset (is_fresh packet x.1) x.0 x.1.command) (coded_counted checkpoint 0 seen)
    ∙ any-placed count_step sysex_ends packet_of checkpoint (λ place. is_message place.command) 0 seen

-- ## The last reset stands

is_message-reset : (command : Command) → is_reset command ≡ (is_system_reset command || is_message command)
is_message-reset SystemReset = refl
is_message-reset (Sysex octets) = refl
is_message-reset command = refl

more : (a b c d l m : Bool) → (l || m) ≡ true → (cond a l (b || l) || cond c m (d || m)) ≡ true
more true b true d l m h = h
more true b false d true m h = refl
more true b false d false true h = last d
  where
    last : (d : Bool) → (d || true) ≡ true
    last true = refl
    last false = refl
more true b false d false false h = cc
more false true c d l m h = refl
more false false c d true m h = refl
more false false true d false true h = refl
more false false false true false true h = refl
more false false false false false true h = refl
more false false c d false false h = cc

left : (a c l m : Bool) → (cond a l (false || l) || cond c m (false || m)) ≡ (l || m)
left true true l m = refl
left true false l m = refl
left false true l m = refl
left false false l m = refl

first : (b d l m : Bool) → (b || d) ≡ true → ((b || l) || (d || m)) ≡ true
first true d l m h = refl
first false true true m h = refl
first false true false m h = refl
first false false l m h = cc

unended : (ends : Sent → Sent → Bool) (x : Sent) (xs : List Sent) → ((y : Sent) → ends x y ≡ true → resets y ≡ true) → list_any resets xs ≡ false → list_any (ends x) xs ≡ false
unended ends x xs h none =
    elim (cases_Bool (list_any (ends x) xs)) [
      | inl t ↦ absurd (let some : list_any resets xs ≡ true = any_weaker (ends x) resets h xs t in cc)
      | inr f ↦ f
    ]

system_ended : (x y : Sent) → item_ends Reset x y ≡ true → resets y ≡ true
system_ended x y h = touching y (second (is_place_of Reset x) (touches Reset y) h)
  where
    second : (a b : Bool) → (a && b) ≡ true → b ≡ true
    second true b h = h
    second false b h = cc

    of_either : (a b : Bool) → (a || (a || b)) ≡ true → (a || b) ≡ true
    of_either true b h = refl
    of_either false b h = h

    touching : (y : Sent) → touches Reset y ≡ true → resets y ≡ true
    touching y t =
        is_message-reset y.command
        ∙ of_either (is_system_reset y.command) (is_message y.command) (rw (sym (is_message-reset y.command)) t)

message_ended : (x y : Sent) → sysex_ends x y ≡ true → resets y ≡ true
message_ended x y h = second (is_logged (event_at x)) (resets y) h
  where
    second : (a b : Bool) → (a && b) ≡ true → b ≡ true
    second true b h = h
    second false b h = cc

any_kept : (b e : Bool) (test : Sent → Bool) (x : Sent) (xs : List Sent) → list_any test (cond e xs (x ∷ xs)) ≡ cond e (list_any test xs) (test x || list_any test xs)
any_kept b true test x xs = refl
any_kept b false test x xs = refl

no_part : (a b : Bool) → (a || b) ≡ false → (a ≡ false) × (b ≡ false)
no_part true b h = cc
no_part false b h = (refl, h)

two_chapters : (xs : List Sent) → (list_any (is_place_of Reset) (standing (item_ends Reset) xs) || list_any (λ place. is_message place.command) (standing sysex_ends xs)) ≡ list_any resets xs
two_chapters [] = refl
two_chapters (x ∷ xs) =
    let a = list_any (item_ends Reset x) xs in
    let c = list_any (sysex_ends x) xs in
    let l = list_any (is_place_of Reset) (standing (item_ends Reset) xs) in
    let m = list_any (λ place. is_message place.command) (standing sysex_ends xs) in
    let b = is_system_reset x.command in
    let d = is_message x.command in
    let ih : (l || m) ≡ list_any resets xs = two_chapters xs in
    let split : (list_any (is_place_of Reset) (standing (item_ends Reset) (x ∷ xs)) || list_any (λ place. is_message place.command) (standing sysex_ends (x ∷ xs))) ≡ (cond a l (b || l) || cond c m (d || m)) =
    ap (λ p. p || list_any (λ place. is_message place.command) (standing sysex_ends (x ∷ xs))) (any_kept b a (is_place_of Reset) x (standing (item_ends Reset) xs))
    ∙ ap (λ p. cond a l (b || l) || p) (any_kept d c (λ place. is_message place.command) x (standing sysex_ends xs)) in
    split
    ∙ elim (cases_Bool (b || d)) [
      | inl t ↦
          let resets_here : resets x ≡ true = is_message-reset x.command ∙ t in
          elim (cases_Bool (list_any resets xs)) [
            | inl later ↦ rw resets_here (more a b c d l m (ih ∙ later))
            | inr none ↦
                let stands : a ≡ false = unended (item_ends Reset) x xs (system_ended x) none in
                let too : c ≡ false = unended sysex_ends x xs (message_ended x) none in
                rw (resets_here, stands, too) (first b d l m t)
          ]
      | inr f ↦
          let resets_not : resets x ≡ false = is_message-reset x.command ∙ f in
          let parts = no_part b d f in
          rw (resets_not, parts.0, parts.1) (left a c l m ∙ ih)
    ]

-- ## The journal

pub no_reset : (log : LogKind) → is_session log ≡ false → is_reset_log log ≡ false
no_reset (kinds.Reset count) h = absurd (let f : true ≡ false = h in cc)
no_reset (kinds.Sysex count octets) h = absurd (let f : true ≡ false = h in cc)
no_reset log h = refl

channels_reset : (logs : List Log) → AreOfChannels logs → list_any tests logs ≡ false
channels_reset [] h = refl
channels_reset (log ∷ logs) h = rw (no_reset log.what h.0) (channels_reset logs h.1)

system_reset : (checkpoint packet : ℕ) (sent : List Sent) → InOrder packet_of sent → list_any tests (system_logs checkpoint packet sent) ≡ list_any resets (since packet_of checkpoint (below packet_of packet sent))
unfolding system_logs
system_reset checkpoint packet sent o =
    let d = d_said checkpoint packet sent in
    let v = v_said checkpoint packet sent in
    let q = q_said checkpoint packet sent in
    let f = f_said checkpoint packet sent in
    let x = x_said checkpoint packet sent in
    let seen = below packet_of packet sent in
    let ordered = InOrder-filter packet_of _ sent o in
    let split = list_any-append tests in
    split (d ++ v ++ q ++ f) x
    ∙ rw (
      split (d ++ v ++ q) f,
      split (d ++ v) q,
      split d v,
      v_reset checkpoint packet sent,
      q_reset checkpoint packet sent,
      f_reset checkpoint packet sent,
      or_false (list_any tests d),
      or_false (list_any tests d),
      or_false (list_any tests d),
      d_reset checkpoint packet sent,
      x_reset checkpoint packet sent,
      since-standing (item_ends Reset) packet_of checkpoint seen ordered,
      since-standing sysex_ends packet_of checkpoint seen ordered,
    ) (two_chapters (since packet_of checkpoint seen))

-- A journal has a reset where one of the commands from the checkpoint on is a Reset State command.
pub reset_of_journal : (checkpoint packet tick : ℕ) (sent : List Sent) → InOrder packet_of sent → has_reset (journal_logs checkpoint packet tick sent) ≡ list_any resets (since packet_of checkpoint (below packet_of packet sent))
unfolding journal_logs
reset_of_journal checkpoint packet tick sent o =
    list_any-append tests (system_logs checkpoint packet sent) (channels_logs checkpoint packet tick sent)
    ∙ ap (λ b. list_any tests (system_logs checkpoint packet sent) || b) (channels_reset (channels_logs checkpoint packet tick sent) (channels_of_channels checkpoint packet tick sent))
    ∙ or_false (list_any tests (system_logs checkpoint packet sent))
    ∙ system_reset checkpoint packet sent o
