-- A channel journal (RFC 6295, section 5, Figure 9).
use Rattle.std.specs.Prelude.{ℕ, ◌+◌, ◌-◌, Bool, List, [], ◌∷◌, Some, Result, Ok, Err, length, take, drop, nat_lt, if◌then◌else◌}
use Rattle.jm_wire.specs.declared.heads.ChannelHead.{ChannelHead}
use Rattle.jm_wire.specs.Heads.{channel_fields}
use Rattle.jm_reader.specs.declared.faults.JournalFault.{JournalFault}
use Rattle.jm_reader.specs.declared.faults.JournalFault.TheVariants.{Short, Inside}
use Rattle.jm_reader.specs.declared.logs.Log.{Log}
use Rattle.jm_reader.specs.declared.channel.ChannelChapter.{ChannelChapter}
use Rattle.jm_reader.specs.declared.channel.ChannelChapter.TheVariants.{P, C, M, W, N, E, T, A}
use Rattle.jm_reader.specs.declared.pairs.PairKind.TheVariants.{Controllers, Extras, Pressures}
use Rattle.jm_reader.specs.Chapter.{Chapter, chapter, with_size}
use Rattle.jm_reader.specs.ChapterM.{m_read}
use Rattle.jm_reader.specs.ChapterN.{n_read}
use Rattle.jm_reader.specs.ChapterP.{p_read}
use Rattle.jm_reader.specs.ChapterT.{t_read}
use Rattle.jm_reader.specs.ChapterW.{w_read}
use Rattle.jm_reader.specs.Pairs.{listed_read}

-- ## A chapter

-- its flag in the header
abbrev pub is_flagged : ChannelHead → ChannelChapter → Bool
is_flagged head P = head.p
is_flagged head C = head.c
is_flagged head M = head.m
is_flagged head W = head.w
is_flagged head N = head.n
is_flagged head E = head.e
is_flagged head T = head.t
is_flagged head A = head.a

-- the chapter at the front of octets
unfoldable pub chapter_read : ℕ → ChannelChapter → List ℕ → Chapter
chapter_read channel P octets = p_read channel octets
chapter_read channel C octets = listed_read Controllers channel octets
chapter_read channel M octets = m_read channel octets
chapter_read channel W octets = w_read channel octets
chapter_read channel N octets = n_read channel octets
chapter_read channel E octets = listed_read Extras channel octets
chapter_read channel T octets = t_read channel octets
chapter_read channel A octets = listed_read Pressures channel octets

-- one that isn't flagged has no octets
abbrev pub flagged_read : ChannelHead → ChannelChapter → List ℕ → Chapter
flagged_read head which octets = if is_flagged head which then chapter_read head.chan which octets else Some ([], 0)

-- ## The chapters

-- the order in which they stand
abbrev pub order : List ChannelChapter
order = P ∷ C ∷ M ∷ W ∷ N ∷ E ∷ T ∷ A ∷ []

abbrev pub behind_chapter : Result (List Log × ℕ) JournalFault → (List Log × ℕ → Result (List Log) JournalFault) → Result (List Log) JournalFault
behind_chapter (Ok read) later = later read
behind_chapter (Err fault) later = Err fault

-- These logs with those of the chapters in these octets, which stand at a place. The first fault is told. Octets behind the
-- last chapter are passed over.
abbrev pub chapters_read : ChannelHead → List ChannelChapter → ℕ → List Log → List ℕ → Result (List Log) JournalFault
chapters_read head [] place before octets = Ok before
chapters_read head (which ∷ later) place before octets =
    behind_chapter (chapter place before (flagged_read head which octets))
    (λ read. chapters_read head later (place + read.1) read.0 (drop read.1 octets))

-- ## The journal

-- A header at a place, where there are so many octets from it on: the journal doesn't end within its LENGTH, and this
-- isn't less than the header's own size.
abbrev pub sized : (place size : ℕ) → ChannelHead → Result ChannelHead JournalFault
sized place size head =
    if nat_lt size head.length then Err (Short place)
    else (if nat_lt head.length 3 then Err (Inside place) else Ok head)

abbrev pub head_read : ℕ → List ℕ → Result ChannelHead JournalFault
head_read place (first ∷ second ∷ third ∷ octets) = sized place (length octets + 3) (channel_fields (first ∷ second ∷ third ∷ []))
head_read place _ = Err (Short place)

-- with H=1 Chapter C has another form, and the journal is passed over
abbrev pub inside_read : ChannelHead → ℕ → List Log → List ℕ → Result (List Log) JournalFault
inside_read head place before octets = if head.h then Ok before else chapters_read head order place before octets

abbrev pub behind_head : ℕ → List Log → List ℕ → Result ChannelHead JournalFault → Result (List Log × ℕ) JournalFault
behind_head place before octets (Ok head) = with_size head.length (inside_read head (place + 3) before (take (head.length - 3) (drop 3 octets)))
behind_head place before octets (Err fault) = Err fault

-- The channel journal at the front of octets, which stand at a place, behind these logs: all logs, and its LENGTH.
unfoldable pub channel_read : ℕ → List Log → List ℕ → Result (List Log × ℕ) JournalFault
channel_read place before octets = behind_head place before octets (head_read place octets)
