-- What is written of resets, tunings and songs is read: Chapter D (RFC 6295, B.1, Figures B.1.1 to B.1.3).
use Rattle.std.proofs.Common.{◌≡◌, ℕ, suc, ◌+◌, ◌*◌, ◌/◌, ◌%◌, ◌<◌, Bool, true, false, not, ltb, leb, List, [], ◌∷◌, ◌++◌, Some, length, map, refl, ap, ◌∙◌, arith, append_assoc, length-append}
use Rattle.std.proofs.Math.Seq.{drop-append_seam}
use Rattle.std.proofs.lemmas.Bool.{lt-ltb}
use Rattle.std.specs.List.{filter, AllByRecursion}
use Rattle.jm_wire.specs.declared.heads.SystemHead.{SystemHead}
use Rattle.jm_wire.specs.Heads.{bit, is_set}
use Rattle.jm_wire.specs.HeadLaws.{system_back}
use Rattle.jm_cmds.specs.declared.commands.Command.{Command}
use Rattle.jm_cmds.specs.declared.commands.Command.TheVariants.{SongSelect}
use Rattle.jm_cmds.specs.declared.history.Sent.{Sent}
use Rattle.jm_cmds.specs.Command.{IsCommand}
use Rattle.jm_cmds.specs.History.{standing, below}
use Rattle.jm_cmds.specs.HistoryLaws.{AllByRecursion-filter, AllByRecursion-standing}
use Rattle.jm_cmds.specs.Sent.{packet_of, is_fresh, s_of, s_bit}
use Rattle.ch_system.specs.declared.items.SystemItem.{SystemItem}
use Rattle.ch_system.specs.declared.items.SystemItem.TheVariants.{Reset, Tune, Song}
use Rattle.ch_system.specs.Items.{item_coded, item_count, item_ends, is_place_of}
use Rattle.ch_system.specs.ItemLaws.{OneAtMost, none, one, one-coded}
use Rattle.ch_system.specs.ChapterD.{chapter_d, fresh_d, d_head, headed, any_bit, count_logs, song_logs, song_of}
use Rattle.jm_journal.specs.Channel.{is_there}
use Rattle.jm_reader.specs.declared.logs.Log.{Log}
use Rattle.jm_reader.specs.declared.logs.LogKind.{LogKind}
use Rattle.jm_reader.specs.declared.logs.LogKind.TheVariants as logs
use Rattle.jm_reader.specs.declared.d.Part.{Part}
use Rattle.jm_reader.specs.declared.d.Part.TheVariants as part
use Rattle.jm_reader.specs.Chapter.{joined}
use Rattle.jm_reader.specs.ChapterD.{kind_of, part_read, parts_read, d_read, d_ends}
use Rattle.jm_reader.specs.Octets.{shows, low_bits}

-- ## What is coded

abbrev pub place_said : ℕ → (Sent → LogKind) → Sent → Log
place_said packet what place = record { fresh = is_fresh packet place; what = what place }

-- The latest System Reset, Tune Request and Song Select, where each is coded: how often the first two were sent, and
-- which song the last one chose.
unfoldable pub d_said : (checkpoint packet : ℕ) → List Sent → List Log
d_said checkpoint packet sent =
    map (place_said packet (λ place. logs.Reset (item_count Reset (below packet_of packet sent)))) (item_coded Reset checkpoint packet sent)
    ++ map (place_said packet (λ place. logs.Tune (item_count Tune (below packet_of packet sent)))) (item_coded Tune checkpoint packet sent)
    ++ map (place_said packet (λ place. logs.Song (song_of place.command))) (item_coded Song checkpoint packet sent)

-- ## The header

any : List ℕ → Bool
any [] = false
any (log ∷ more) = true

any-bit : (octets : List ℕ) → any_bit octets ≡ bit (any octets)
unfolding any
any-bit [] = refl
any-bit (log ∷ more) = refl

flags : Bool → Bool → Bool → Bool → SystemHead
flags fresh b g h = record { s = not fresh; d = b; v = g; q = h; f = false; x = false; length = 0 }

-- the octet of these flags
flags_octet : Bool → Bool → Bool → Bool → ℕ
flags_octet fresh b g h = 128 * bit (not fresh) + 64 * bit b + 32 * bit g + 16 * bit h + 8 * bit false + 4 * bit false + 0 / 256

s-octet : (fresh : Bool) → s_of fresh ≡ 128 * bit (not fresh)
s-octet true = refl
s-octet false = refl

head_octet : (fresh : Bool) (resets tunes songs : List ℕ) → d_head fresh resets tunes songs ≡ flags_octet fresh (any resets) (any tunes) (any songs)
unfolding flags_octet
head_octet fresh resets tunes songs = omega (arith, s-octet fresh, any-bit resets, any-bit tunes, any-bit songs)

record AreFlags (octet : ℕ) (resets tunes songs : Bool) : Type 0 where
  resets_set : is_set 64 octet ≡ resets
  tunes_set : is_set 32 octet ≡ tunes
  songs_set : is_set 16 octet ≡ songs
  others : octet % 16 ≡ 0

flags_again : (fresh b g h : Bool) → AreFlags (flags_octet fresh b g h) b g h
unfolding flags flags_octet
flags_again fresh b g h =
    let back = system_back (flags fresh b g h) (omega arith) in
    record {
      resets_set = ap (λ (head : SystemHead). head.d) back;
      tunes_set = ap (λ (head : SystemHead). head.v) back;
      songs_set = ap (λ (head : SystemHead). head.q) back;
      others = omega arith;
    }

-- ## One log

-- these octets are read as these logs, where their flag says whether there are any
record IsPart (kind : Part) (octets : List ℕ) (said : List Log) : Type 0 where
  read : (rest : List ℕ) → part_read kind (any octets) (octets ++ rest) ≡ Some (said, length octets)

one_again : (kind : Part) (packet : ℕ) (number : Sent → ℕ) (places : List Sent) → OneAtMost places → AllByRecursion (λ place. number place < 128) places →
    IsPart kind (map (λ place. s_bit packet place + number place) places) (map (place_said packet (λ place. kind_of kind (number place))) places)
unfolding any
one_again kind packet number places o h =
    elim o [
      | none e ↦ rw e (record { read = λ rest. refl })
      | one x e ↦
          let small = (rw e at h).0 in
          rw e (record { read = λ rest. rw (shows (is_fresh packet x) (number x) small, low_bits (is_fresh packet x) (number x) small) refl })
    ]

small : (item : SystemItem) (session : List Sent) → item_count item session < 128
unfolding item_count
small item session = omega arith

all_small : (count : ℕ) (places : List Sent) → count < 128 → AllByRecursion (λ place. count < 128) places
all_small count [] l = tt
all_small count (x ∷ xs) l = (l, all_small count xs l)

song-small : (command : Command) → IsCommand command → song_of command < 128
song-small (SongSelect song) h = h
song-small command h = omega arith

songs_small : (places : List Sent) → AllByRecursion (λ place. IsCommand place.command) places → AllByRecursion (λ place. song_of place.command < 128) places
songs_small [] h = tt
songs_small (x ∷ xs) h = (song-small x.command h.0, songs_small xs h.1)

commands_coded : (item : SystemItem) (checkpoint packet : ℕ) (sent : List Sent) → AllByRecursion (λ place. IsCommand place.command) sent →
    AllByRecursion (λ place. IsCommand place.command) (item_coded item checkpoint packet sent)
unfolding item_coded
commands_coded item checkpoint packet sent h =
    let seen = below packet_of packet sent in
    let all = AllByRecursion-filter (λ place. IsCommand place.command) (λ place. ltb (packet_of place) packet) sent h in
    let stand = AllByRecursion-standing (λ place. IsCommand place.command) (item_ends item) seen all in
    let coded = AllByRecursion-filter (λ place. IsCommand place.command) (λ place. leb checkpoint (packet_of place)) (standing (item_ends item) seen) stand in
    AllByRecursion-filter (λ place. IsCommand place.command) (is_place_of item) (filter (λ place. leb checkpoint (packet_of place)) (standing (item_ends item) seen)) coded

-- ## The chapter

parts_again : (octet : ℕ) (resets tunes songs : List ℕ) (first second third : List Log) (rest : List ℕ) →
    AreFlags octet (any resets) (any tunes) (any songs) → IsPart part.Resets resets first → IsPart part.Tunes tunes second → IsPart part.Songs songs third →
    parts_read octet (resets ++ (tunes ++ (songs ++ rest))) ≡ Some (first ++ (second ++ third), length resets + (length tunes + length songs))
parts_again octet resets tunes songs first second third rest f r t s =
    rw (f.resets_set, f.tunes_set, f.songs_set, r.read (tunes ++ (songs ++ rest)), drop-append_seam resets (tunes ++ (songs ++ rest)), t.read (songs ++ rest), drop-append_seam tunes (songs ++ rest), s.read rest) refl

headed_full : (head : ℕ) (octets : List ℕ) → is_there (headed head octets) ≡ true → headed head octets ≡ head ∷ octets
headed_full head [] t = absurd (let f : false ≡ true = t in cc)
headed_full head (log ∷ more) t = refl

headed_none : (head : ℕ) (octets : List ℕ) → is_there (headed head octets) ≡ false → octets ≡ []
headed_none head [] n = refl
headed_none head (log ∷ more) n = absurd (let some : is_there (headed head (log ∷ more)) ≡ true = lt-ltb 0 (suc (suc (length more))) (omega arith) in cc)

whole_again : (octet : ℕ) (resets tunes songs : List ℕ) (first second third : List Log) (rest : List ℕ) →
    AreFlags octet (any resets) (any tunes) (any songs) → IsPart part.Resets resets first → IsPart part.Tunes tunes second → IsPart part.Songs songs third →
    d_read (octet ∷ ((resets ++ tunes ++ songs) ++ rest)) ≡ Some (first ++ second ++ third, length (octet ∷ (resets ++ tunes ++ songs)))
whole_again octet resets tunes songs first second third rest f r t s =
    let grouped : (resets ++ tunes ++ songs) ++ rest ≡ resets ++ (tunes ++ (songs ++ rest)) = simp append_assoc in
    let said : first ++ (second ++ third) ≡ first ++ second ++ third = simp append_assoc in
    let size : 1 + (length resets + (length tunes + length songs)) ≡ suc (length (resets ++ tunes ++ songs)) =
    omega (arith, length-append (resets ++ tunes) songs, length-append resets tunes) in
    ap (λ (octets : List ℕ). joined ([], 1) (parts_read octet octets)) grouped
    ∙ ap (joined ([], 1)) (parts_again octet resets tunes songs first second third rest f r t s)
    ∙ ap (λ (n : ℕ). Some (first ++ (second ++ third), n)) size
    ∙ ap (λ (all : List Log). Some (all, suc (length (resets ++ tunes ++ songs)))) said

flags_of : (fresh : Bool) (resets tunes songs : List ℕ) → AreFlags (d_head fresh resets tunes songs) (any resets) (any tunes) (any songs)
flags_of fresh resets tunes songs = rw (head_octet fresh resets tunes songs) (flags_again fresh (any resets) (any tunes) (any songs))

-- What is written of resets, tunings and songs is read as what is coded of them, whatever follows.
pub d_again : (checkpoint packet : ℕ) (sent : List Sent) → AllByRecursion (λ place. IsCommand place.command) sent → is_there (chapter_d checkpoint packet sent) ≡ true → (rest : List ℕ) →
    d_read (chapter_d checkpoint packet sent ++ rest) ≡ Some (d_said checkpoint packet sent, length (chapter_d checkpoint packet sent))
unfolding chapter_d d_said
d_again checkpoint packet sent h there rest =
    let resets = count_logs Reset checkpoint packet sent in
    let tunes = count_logs Tune checkpoint packet sent in
    let songs = song_logs checkpoint packet sent in
    let session = below packet_of packet sent in
    let head = d_head (fresh_d checkpoint packet sent) resets tunes songs in
    let full = headed_full head (resets ++ tunes ++ songs) there in
    rw full
    (whole_again head resets tunes songs
    (map (place_said packet (λ place. logs.Reset (item_count Reset session))) (item_coded Reset checkpoint packet sent))
    (map (place_said packet (λ place. logs.Tune (item_count Tune session))) (item_coded Tune checkpoint packet sent))
    (map (place_said packet (λ place. logs.Song (song_of place.command))) (item_coded Song checkpoint packet sent)) rest
    (flags_of (fresh_d checkpoint packet sent) resets tunes songs)
    (one_again part.Resets packet (λ place. item_count Reset session) (item_coded Reset checkpoint packet sent) (one-coded Reset checkpoint packet sent) (all_small (item_count Reset session) (item_coded Reset checkpoint packet sent) (small Reset session)))
    (one_again part.Tunes packet (λ place. item_count Tune session) (item_coded Tune checkpoint packet sent) (one-coded Tune checkpoint packet sent) (all_small (item_count Tune session) (item_coded Tune checkpoint packet sent) (small Tune session)))
    (one_again part.Songs packet (λ place. song_of place.command) (item_coded Song checkpoint packet sent) (one-coded Song checkpoint packet sent) (songs_small (item_coded Song checkpoint packet sent) (commands_coded Song checkpoint packet sent h))))

not_ending : (octet : ℕ) (rest : List ℕ) → octet % 16 ≡ 0 → d_ends (octet ∷ rest) ≡ false
not_ending octet rest e = rw e refl

-- Nothing behind it is passed over.
pub d_goes_on : (checkpoint packet : ℕ) (sent : List Sent) → is_there (chapter_d checkpoint packet sent) ≡ true → (rest : List ℕ) → d_ends (chapter_d checkpoint packet sent ++ rest) ≡ false
unfolding chapter_d
d_goes_on checkpoint packet sent there rest =
    let resets = count_logs Reset checkpoint packet sent in
    let tunes = count_logs Tune checkpoint packet sent in
    let songs = song_logs checkpoint packet sent in
    let head = d_head (fresh_d checkpoint packet sent) resets tunes songs in
    let full = headed_full head (resets ++ tunes ++ songs) there in
    rw full (not_ending head ((resets ++ tunes ++ songs) ++ rest) (flags_of (fresh_d checkpoint packet sent) resets tunes songs).others)

none_mapped : (text : Sent → ℕ) (said : Sent → Log) (places : List Sent) → map text places ≡ [] → map said places ≡ []
none_mapped text said [] e = refl
none_mapped text said (x ∷ xs) e = absurd cc

all_empty : (a b c : List ℕ) → a ++ b ++ c ≡ [] → (a ≡ []) × (b ≡ []) × (c ≡ [])
all_empty [] [] [] e = (refl, refl, refl)
all_empty [] [] (x ∷ xs) e = absurd cc
all_empty [] (x ∷ xs) c e = absurd cc
all_empty (x ∷ xs) b c e = absurd cc

-- Where the chapter isn't there, nothing of it is coded.
pub d_none : (checkpoint packet : ℕ) (sent : List Sent) → is_there (chapter_d checkpoint packet sent) ≡ false → d_said checkpoint packet sent ≡ []
unfolding chapter_d d_said
d_none checkpoint packet sent n =
    let resets = count_logs Reset checkpoint packet sent in
    let tunes = count_logs Tune checkpoint packet sent in
    let songs = song_logs checkpoint packet sent in
    let session = below packet_of packet sent in
    let parts = all_empty resets tunes songs (headed_none (d_head (fresh_d checkpoint packet sent) resets tunes songs) (resets ++ tunes ++ songs) n) in
    let first : map (place_said packet (λ place. logs.Reset (item_count Reset session))) (item_coded Reset checkpoint packet sent) ≡ [] =
    none_mapped (λ place. s_bit packet place + item_count Reset session) (place_said packet (λ place. logs.Reset (item_count Reset session))) (item_coded Reset checkpoint packet sent) parts.0 in
    let second : map (place_said packet (λ place. logs.Tune (item_count Tune session))) (item_coded Tune checkpoint packet sent) ≡ [] =
    none_mapped (λ place. s_bit packet place + item_count Tune session) (place_said packet (λ place. logs.Tune (item_count Tune session))) (item_coded Tune checkpoint packet sent) parts.1 in
    let third : map (place_said packet (λ place. logs.Song (song_of place.command))) (item_coded Song checkpoint packet sent) ≡ [] =
    none_mapped (λ place. s_bit packet place + song_of place.command) (place_said packet (λ place. logs.Song (song_of place.command))) (item_coded Song checkpoint packet sent) parts.2 in
    rw (first, second, third) refl

pub record ResetsAreRead : Type 0 where
  pub there : (checkpoint packet : ℕ) (sent : List Sent) → AllByRecursion (λ place. IsCommand place.command) sent → is_there (chapter_d checkpoint packet sent) ≡ true → (rest : List ℕ) →
      d_read (chapter_d checkpoint packet sent ++ rest) ≡ Some (d_said checkpoint packet sent, length (chapter_d checkpoint packet sent))
  pub goes_on : (checkpoint packet : ℕ) (sent : List Sent) → is_there (chapter_d checkpoint packet sent) ≡ true → (rest : List ℕ) → d_ends (chapter_d checkpoint packet sent ++ rest) ≡ false
  pub none : (checkpoint packet : ℕ) (sent : List Sent) → is_there (chapter_d checkpoint packet sent) ≡ false → d_said checkpoint packet sent ≡ []

pub resets_are_read : ResetsAreRead
resets_are_read = record { there = d_again; goes_on = d_goes_on; none = d_none }
