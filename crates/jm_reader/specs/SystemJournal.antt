-- A system journal (RFC 6295, section 5, Figure 10): its header and its chapters.
use Rattle.std.specs.Prelude.{ℕ, ◌+◌, ◌-◌, Bool, true, false, List, [], ◌∷◌, length, take, drop, nat_lt, Result, Ok, Err, if◌then◌else◌}
use Rattle.jm_wire.specs.declared.heads.SystemHead.{SystemHead}
use Rattle.jm_wire.specs.Heads.{system_fields}
use Rattle.jm_reader.specs.declared.faults.JournalFault.{JournalFault}
use Rattle.jm_reader.specs.declared.faults.JournalFault.TheVariants.{Short, Inside}
use Rattle.jm_reader.specs.declared.logs.Log.{Log}
use Rattle.jm_reader.specs.declared.system.Letter.{Letter}
use Rattle.jm_reader.specs.declared.system.Letter.TheVariants.{D, V, Q, F, X}
use Rattle.jm_reader.specs.Chapter.{Chapter, chapter, with_size}
use Rattle.jm_reader.specs.ChapterD.{d_read, d_ends}
use Rattle.jm_reader.specs.ChapterV.{v_read}
use Rattle.jm_reader.specs.ChapterQ.{q_read, q_ends}
use Rattle.jm_reader.specs.ChapterF.{f_read}
use Rattle.jm_reader.specs.ChapterX.{x_read}

-- the chapters' order
abbrev pub in_order : List Letter
in_order = D ∷ V ∷ Q ∷ F ∷ X ∷ []

-- The chapter is there.
abbrev pub is_there : SystemHead → Letter → Bool
is_there head D = head.d
is_there head V = head.v
is_there head Q = head.q
is_there head F = head.f
is_there head X = head.x

abbrev pub chapter_read : Letter → List ℕ → Chapter
chapter_read D octets = d_read octets
chapter_read V octets = v_read octets
chapter_read Q octets = q_read octets
chapter_read F octets = f_read octets
chapter_read X octets = x_read octets

-- What stands behind the chapter is passed over.
abbrev pub ends_journal : Letter → List ℕ → Bool
ends_journal D octets = d_ends octets
ends_journal Q octets = q_ends octets
ends_journal _ octets = false

-- what is read behind a chapter
abbrev pub behind_chapter : (ends : Bool) → Result (List Log × ℕ) JournalFault → (List Log × ℕ → Result (List Log) JournalFault) → Result (List Log) JournalFault
behind_chapter ends (Err f) others = Err f
behind_chapter true (Ok read) others = Ok read.0
behind_chapter false (Ok read) others = others read

-- These chapters, where they are there: the first one stands at this place behind these logs. What is left of the
-- octets is passed over.
unfoldable pub chapters_read : List Letter → SystemHead → (place : ℕ) → List Log → List ℕ → Result (List Log) JournalFault
chapters_read [] head place before octets = Ok before
chapters_read (letter ∷ letters) head place before octets =
    if is_there head letter
    then behind_chapter (ends_journal letter octets) (chapter place before (chapter_read letter octets)) (λ read. chapters_read letters head (place + read.1) read.0 (drop read.1 octets))
    else chapters_read letters head place before octets

-- the journal with this header, by its LENGTH
abbrev pub system_at : SystemHead → (place : ℕ) → List Log → List ℕ → Result (List Log × ℕ) JournalFault
system_at head place before octets =
    if nat_lt (length octets) head.length then Err (Short place)
    else (if nat_lt head.length 2 then Err (Inside place)
    else with_size head.length (chapters_read in_order head (place + 2) before (take (head.length - 2) (drop 2 octets))))

-- the journal at the front of octets that stand at this place, behind these logs
unfoldable pub system_read : (place : ℕ) → List Log → List ℕ → Result (List Log × ℕ) JournalFault
system_read place before (first ∷ second ∷ rest) = system_at (system_fields (first ∷ second ∷ [])) place before (first ∷ second ∷ rest)
system_read place before _ = Err (Short place)
