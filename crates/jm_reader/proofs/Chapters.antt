-- Reading the chapters of a system journal one after the other, as a loop does.
use Rattle.std.proofs.Common.{◌≡◌, ℕ, ◌+◌, ◌<◌, ◌≤◌, true, false, List, ◌∷◌, drop, get_or, Result, Ok, refl, sym, ap, ◌∙◌, add-one}
use Rattle.std.proofs.Math.Seq.{drop-cons}
use Rattle.std.proofs.lemmas.List.{drop_all}
use Rattle.jm_wire.specs.declared.heads.SystemHead.{SystemHead}
use Rattle.jm_cmds.specs.declared.outcome.ReadError.{ReadError}
use Rattle.jm_cmds.specs.declared.outcome.ReadError.TheVariants as errors
use Rattle.jm_reader.specs.declared.faults.JournalFault.{JournalFault}
use Rattle.jm_reader.specs.declared.logs.Log.{Log}
use Rattle.jm_reader.specs.declared.system.Letter.{Letter}
use Rattle.jm_reader.specs.declared.system.Letter.TheVariants.{D}
use Rattle.jm_reader.specs.Chapter.{chapter, Reads, Leaves}
use Rattle.jm_reader.specs.SystemJournal.{in_order, is_there, chapter_read, ends_journal, chapters_read}
use Rattle.jm_reader.specs.ChapterLaws.{failed, left_failed}

-- the chapter at this place of the order
abbrev pub letter_at : ℕ → Letter
letter_at i = get_or in_order i D

next_is : (i : ℕ) → i < 5 → drop i in_order ≡ letter_at i ∷ drop (i + 1) in_order
next_is i lt = rw (add-one, drop-cons in_order i D) refl

-- what is meant of the chapter at a place and of those behind it
meant_of : (i : ℕ) (head : SystemHead) (at : ℕ) (logs : List Log) (rest : List ℕ) (meant : Result (List Log) JournalFault) → i < 5
    → chapters_read (drop i in_order) head at logs rest ≡ meant → chapters_read (letter_at i ∷ drop (i + 1) in_order) head at logs rest ≡ meant
meant_of i head at logs rest meant lt e = ap (λ (letters : List Letter). chapters_read letters head at logs rest) (sym (next_is i lt)) ∙ e

pub isnt_there : (i : ℕ) (head : SystemHead) (at : ℕ) (logs : List Log) (rest : List ℕ) (meant : Result (List Log) JournalFault) → i < 5
    → is_there head (letter_at i) ≡ false → chapters_read (drop i in_order) head at logs rest ≡ meant
    → chapters_read (drop (i + 1) in_order) head at logs rest ≡ meant
unfolding chapters_read
isnt_there i head at logs rest meant lt none e = rw none at (meant_of i head at logs rest meant lt e)

pub goes_on : (i : ℕ) (head : SystemHead) (at size : ℕ) (logs after : List Log) (rest : List ℕ) (meant : Result (List Log) JournalFault) → i < 5
    → is_there head (letter_at i) ≡ true → ends_journal (letter_at i) rest ≡ false → chapter at logs (chapter_read (letter_at i) rest) ≡ Ok (after, size)
    → chapters_read (drop i in_order) head at logs rest ≡ meant → chapters_read (drop (i + 1) in_order) head (at + size) after (drop size rest) ≡ meant
unfolding chapters_read
goes_on i head at size logs after rest meant lt some on read e = rw (some, on, read) at (meant_of i head at logs rest meant lt e)

pub ends_here : (i : ℕ) (head : SystemHead) (at size : ℕ) (logs after : List Log) (rest : List ℕ) (meant : Result (List Log) JournalFault) → i < 5
    → is_there head (letter_at i) ≡ true → ends_journal (letter_at i) rest ≡ true → chapter at logs (chapter_read (letter_at i) rest) ≡ Ok (after, size)
    → chapters_read (drop i in_order) head at logs rest ≡ meant → meant ≡ Ok after
unfolding chapters_read
ends_here i head at size logs after rest meant lt some last read e = sym (rw (some, last, read) at (meant_of i head at logs rest meant lt e))

pub fails_here : (e : ReadError JournalFault) (i : ℕ) (head : SystemHead) (at : ℕ) (logs after : List Log) (rest : List ℕ) (meant : Result (List Log) JournalFault) → i < 5
    → is_there head (letter_at i) ≡ true → Reads (failed e) after (chapter at logs (chapter_read (letter_at i) rest))
    → chapters_read (drop i in_order) head at logs rest ≡ meant → Leaves (left_failed e) after meant
unfolding chapters_read
fails_here errors.Memory i head at logs after rest meant lt some read e = tt
fails_here (errors.Fault f) i head at logs after rest meant lt some read e = sym (rw (some, read) at (meant_of i head at logs rest meant lt e))

pub all_read : (i : ℕ) (head : SystemHead) (at : ℕ) (logs : List Log) (rest : List ℕ) (meant : Result (List Log) JournalFault) → 5 ≤ i
    → chapters_read (drop i in_order) head at logs rest ≡ meant → meant ≡ Ok logs
unfolding chapters_read
all_read i head at logs rest meant le e = sym (rw (drop_all i in_order le) at e)
