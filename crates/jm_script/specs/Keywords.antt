-- The first words of lines.
use Rattle.std.specs.Prelude.{ℕ, List, Option, Some, None, option_map, codes, if◌then◌else◌}
use Rattle.std.specs.Str.{bytes_eq}
use Rattle.jm_script.specs.declared.keywords.Keyword.{Keyword}
use Rattle.jm_script.specs.declared.keywords.Keyword.TheVariants.{Script, Session, Step}
use Rattle.jm_script.specs.declared.keywords.StepWord.{StepWord}
use Rattle.jm_script.specs.declared.keywords.StepWord.TheVariants.{Enter, Play, Cut, Ack, Join, Leave, Hear, Feedback, Message}
use Rattle.jm_script.specs.declared.keywords.ReadWord.{ReadWord}
use Rattle.jm_script.specs.declared.keywords.ReadWord.TheVariants as reads
use Rattle.jm_script.specs.declared.keywords.RepairWord.{RepairWord}
use Rattle.jm_script.specs.declared.keywords.RepairWord.TheVariants as repairs

-- the lines that a session answers
unfoldable pub step_word_of : List ℕ → Option StepWord
step_word_of word =
    if bytes_eq word (codes "enter") then Some Enter
    else if bytes_eq word (codes "play") then Some Play
    else if bytes_eq word (codes "cut") then Some Cut
    else if bytes_eq word (codes "ack") then Some Ack
    else if bytes_eq word (codes "join") then Some Join
    else if bytes_eq word (codes "leave") then Some Leave
    else if bytes_eq word (codes "hear") then Some Hear
    else if bytes_eq word (codes "feedback") then Some Feedback
    else if bytes_eq word (codes "message") then Some Message
    else None

unfoldable pub keyword_of : List ℕ → Option Keyword
keyword_of word =
    if bytes_eq word (codes "script") then Some Script
    else if bytes_eq word (codes "session") then Some Session
    else option_map Step (step_word_of word)

unfoldable pub read_word_of : List ℕ → Option ReadWord
read_word_of word =
    if bytes_eq word (codes "command") then Some reads.Command
    else if bytes_eq word (codes "section") then Some reads.Section
    else if bytes_eq word (codes "packet") then Some reads.Packet
    else if bytes_eq word (codes "message") then Some reads.Message
    else None

unfoldable pub repair_word_of : List ℕ → Option RepairWord
repair_word_of word =
    if bytes_eq word (codes "packet") then Some repairs.Packet
    else if bytes_eq word (codes "state") then Some repairs.State
    else None
