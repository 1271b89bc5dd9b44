-- What a chapter shows of the packet before, by its octets alone (RFC 6295, A.6.1 and A.6.2).
use Rattle.std.specs.Prelude.{◌≡◌, ℕ, zero, suc, ◌%◌, Bool, false, ◌&&◌, ◌||◌, List, [], ◌∷◌, nat_lt, ◌==◌, if◌then◌else◌}
use Rattle.std.specs.List.{AllByRecursion}
use Rattle.jm_cmds.specs.Sent.{shows_fresh as header_shows_fresh}
use Rattle.jm_cmds.specs.declared.history.Sent.{Sent}
use Rattle.jm_cmds.specs.Command.{IsCommand}
use Rattle.ch_notes.specs.ChapterN.{chapter_n, fresh_n}
use Rattle.ch_notes.specs.ChapterE.{chapter_e, fresh_e}
use Rattle.ch_notes.specs.ChapterA.{chapter_a, fresh_a}
use Rattle.jm_chapter.specs.Logs.{log_shows_fresh}

-- the number of logs: LEN, but 128 where LEN is 127, LOW 15 and HIGH 0
abbrev pub log_number : (first second : ℕ) → ℕ
log_number first second = if first % 128 == 127 && second == 0xf0 then 128 else first % 128

-- whether the S bit of one of the first logs is 0
abbrev pub clear_s : ℕ → List ℕ → Bool
clear_s zero octets = false
clear_s (suc logs) [] = false
clear_s (suc logs) (note ∷ []) = false
clear_s (suc logs) (note ∷ velocity ∷ rest) = nat_lt note 128 || clear_s logs rest

-- whether B or an S bit is 0
abbrev pub shows_fresh : List ℕ → Bool
shows_fresh [] = false
shows_fresh (first ∷ []) = false
shows_fresh (first ∷ second ∷ rest) = nat_lt first 128 || clear_s (log_number first second) rest

-- Chapter N is fresh exactly where B or an S bit in its octets is 0.
abbrev pub FreshShows : Type 0
FreshShows = (channel checkpoint packet tick : ℕ) (sent : List Sent) → AllByRecursion (λ place. IsCommand place.command) sent → fresh_n channel checkpoint packet sent ≡ shows_fresh (chapter_n channel checkpoint packet tick sent)

-- Chapter E is fresh exactly where its header's S bit is 0, and exactly where that of one of its logs is.
abbrev pub ExtraShows : Type 0
ExtraShows = (channel checkpoint packet : ℕ) (sent : List Sent) → AllByRecursion (λ place. IsCommand place.command) sent →
    (fresh_e channel checkpoint packet sent ≡ header_shows_fresh (chapter_e channel checkpoint packet sent))
    × (fresh_e channel checkpoint packet sent ≡ log_shows_fresh (chapter_e channel checkpoint packet sent))

-- So is Chapter A.
abbrev pub PressShows : Type 0
PressShows = (channel checkpoint packet : ℕ) (sent : List Sent) → AllByRecursion (λ place. IsCommand place.command) sent →
    (fresh_a channel checkpoint packet sent ≡ header_shows_fresh (chapter_a channel checkpoint packet sent))
    × (fresh_a channel checkpoint packet sent ≡ log_shows_fresh (chapter_a channel checkpoint packet sent))
