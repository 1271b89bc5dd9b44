-- The grammar of lines.
use Rattle.std.specs.Prelude.{ℕ, ◌^◌, ◌≤◌, Bool, ◌==◌, ◌&&◌, ◌||◌, if◌then◌else◌, List, [], ◌∷◌, length, Option, Some, None, Result, Ok, Err, option_map, codes}
use Rattle.std.specs.Str.{bytes_eq}
use Rattle.jm_wire.specs.Readers.{◌>>=◌}
use Rattle.jm_cmds.specs.declared.commands.Command.{Command}
use Rattle.jm_cmds.specs.declared.reading.CmdFault.{CmdFault}
use Rattle.jm_cmds.specs.Reading.{command_read}
use Rattle.jm_script.specs.declared.line.Line.{Line}
use Rattle.jm_script.specs.declared.line.Line.TheVariants as line
use Rattle.jm_script.specs.declared.line.LineFault.{LineFault}
use Rattle.jm_script.specs.declared.line.LineFault.TheVariants.{Word, Form, Command as NotACommand}
use Rattle.jm_script.specs.declared.line.LineKind.{LineKind}
use Rattle.jm_script.specs.declared.line.LineKind.TheVariants as kinds
use Rattle.jm_script.specs.declared.keywords.Keyword.{Keyword}
use Rattle.jm_script.specs.declared.keywords.Keyword.TheVariants as keyword
use Rattle.jm_script.specs.declared.keywords.StepWord.{StepWord}
use Rattle.jm_script.specs.declared.keywords.StepWord.TheVariants as steps
use Rattle.jm_script.specs.declared.keywords.ReadWord.{ReadWord}
use Rattle.jm_script.specs.declared.keywords.ReadWord.TheVariants as reads
use Rattle.jm_script.specs.declared.keywords.RepairWord.{RepairWord}
use Rattle.jm_script.specs.declared.keywords.RepairWord.TheVariants as repairs
use Rattle.jm_script.specs.declared.reading.Who.{Who}
use Rattle.jm_script.specs.declared.reading.Who.TheVariants.{Number, Name}
use Rattle.jm_script.specs.Words.{first_word, other_words, number_of, ssrc_of, hex_of, addr_of, port_of}
use Rattle.jm_script.specs.Name.{is_player_name, player_name_of}
use Rattle.jm_script.specs.Keywords.{keyword_of, read_word_of, repair_word_of}

-- a word that must be there, in its form and range
abbrev pub need : {A : Type 0} → Option A → Result A LineFault
need None = Err Form
need (Some x) = Ok x

-- ## Lines of a session

-- `script 2`. Any other line that begins with `script` is none.
unfoldable pub script_line : Option (List ℕ) → Result Line LineFault
script_line None = Err Word
script_line (Some words) = if bytes_eq words (codes "2") then Ok line.Script else Err Word

-- `session SSRC EVENTS`
unfoldable pub session_line : Option (List ℕ) → Result Line LineFault
session_line rest = do
  words ← need rest
  ssrc ← need (ssrc_of (first_word words))
  last ← need (other_words words)
  events ← need (number_of 4194304 last)
  (if events == 0 then Err Form else Ok (line.Session ssrc events))

-- a line of one word alone
abbrev pub lone : Line → Option (List ℕ) → Result Line LineFault
lone alone None = Ok alone
lone alone (Some words) = Err Form

-- `enter NAME`
unfoldable pub enter_as_line : Option (List ℕ) → Result Line LineFault
enter_as_line rest = do
  words ← need rest
  name ← need (player_name_of words)
  Ok (line.EnterAs name)

-- `enter`, and in version 2 `enter NAME`
abbrev pub enter_line : (version : ℕ) → Option (List ℕ) → Result Line LineFault
enter_line version rest = if version == 2 then enter_as_line rest else lone line.Enter rest

-- octets that are exactly one command
abbrev pub whole_command : ℕ → Result (Command × ℕ) CmdFault → Result Command LineFault
whole_command len (Err fault) = Err NotACommand
whole_command len (Ok (command, used)) = if used == len then Ok command else Err NotACommand

-- PLAYER: a number, and in version 2 a number or a name
unfoldable pub who_of : (version : ℕ) → List ℕ → Option Who
who_of version word =
    if version == 2 && is_player_name word then Some (Name word) else option_map Number (number_of 255 word)

abbrev pub play_by : Who → (tick : ℕ) → Command → Line
play_by (Number player) tick command = line.Play player tick command
play_by (Name name) tick command = line.PlayAs name tick command

-- `play PLAYER TICK HEX`
unfoldable pub play_line : (version : ℕ) → Option (List ℕ) → Result Line LineFault
play_line version rest = do
  words ← need rest
  who ← need (who_of version (first_word words))
  others ← need (other_words words)
  tick ← need (number_of (2 ^ 62) (first_word others))
  last ← need (other_words others)
  octets ← need (hex_of last)
  command ← whole_command (length octets) (command_read octets)
  Ok (play_by who tick command)

-- `cut TICK`
unfoldable pub cut_line : Option (List ℕ) → Result Line LineFault
cut_line rest = do
  words ← need rest
  tick ← need (number_of (2 ^ 62) words)
  Ok (line.Cut tick)

-- SSRC SEQ
unfoldable pub report_of : Option (List ℕ) → Result (ℕ × ℕ) LineFault
report_of rest = do
  words ← need rest
  ssrc ← need (ssrc_of (first_word words))
  last ← need (other_words words)
  seq ← need (number_of 65535 last)
  Ok (ssrc, seq)

-- `ack SSRC SEQ`
abbrev pub ack_line : Result (ℕ × ℕ) LineFault → Result Line LineFault
ack_line (Err fault) = Err fault
ack_line (Ok report) = Ok (line.Ack report.0 report.1)

-- `hear SSRC SEQ`
abbrev pub hear_line : Result (ℕ × ℕ) LineFault → Result Line LineFault
hear_line (Err fault) = Err fault
hear_line (Ok report) = Ok (line.Hear report.0 report.1)

-- SSRC
unfoldable pub source_of : Option (List ℕ) → Result ℕ LineFault
source_of rest = do
  words ← need rest
  ssrc ← need (ssrc_of words)
  Ok ssrc

-- `join SSRC`
abbrev pub join_line : Result ℕ LineFault → Result Line LineFault
join_line (Err fault) = Err fault
join_line (Ok ssrc) = Ok (line.Join ssrc)

-- `leave SSRC`
abbrev pub leave_line : Result ℕ LineFault → Result Line LineFault
leave_line (Err fault) = Err fault
leave_line (Ok ssrc) = Ok (line.Leave ssrc)

-- `message control|data ADDR NOW HEX`
unfoldable pub message_line : Option (List ℕ) → Result Line LineFault
message_line rest = do
  words ← need rest
  port ← need (port_of (first_word words))
  others ← need (other_words words)
  from ← need (addr_of (first_word others))
  more ← need (other_words others)
  now ← need (number_of (2 ^ 62) (first_word more))
  last ← need (other_words more)
  octets ← need (hex_of last)
  Ok (line.Message port from now octets)

-- a line that the session answers
abbrev pub step_line : (version : ℕ) → StepWord → Option (List ℕ) → Result Line LineFault
step_line version steps.Enter rest = enter_line version rest
step_line version steps.Play rest = play_line version rest
step_line version steps.Cut rest = cut_line rest
step_line version steps.Ack rest = ack_line (report_of rest)
step_line version steps.Join rest = join_line (source_of rest)
step_line version steps.Leave rest = leave_line (source_of rest)
step_line version steps.Hear rest = hear_line (report_of rest)
step_line version steps.Feedback rest = lone line.Feedback rest
step_line version steps.Message rest = message_line rest

-- A line of a session by its first word. `script` stands before `session` and once, `session` before all others and once.
abbrev pub session_by : (version : ℕ) → Bool → Option Keyword → Option (List ℕ) → Result Line LineFault
session_by version started None rest = Err Word
session_by version started (Some keyword.Script) rest = if started || version == 2 then Err Word else script_line rest
session_by version started (Some keyword.Session) rest = if started then Err Word else session_line rest
session_by version started (Some (keyword.Step word)) rest = if started then step_line version word rest else Err Word

-- ## Lines of the other verbs

-- the octets of the one word that stands behind the first, if just one stands there and it is in its form
abbrev pub lone_hex : Option (List ℕ) → Option (List ℕ)
lone_hex None = None
lone_hex (Some word) = hex_of word

abbrev pub read_as : ReadWord → List ℕ → Line
read_as reads.Command octets = line.ReadCommand octets
read_as reads.Section octets = line.ReadSection octets
read_as reads.Packet octets = line.ReadPacket octets
read_as reads.Message octets = line.ReadMessage octets

abbrev pub read_octets : ReadWord → Option (List ℕ) → Result Line LineFault
read_octets word None = Err Form
read_octets word (Some octets) = Ok (read_as word octets)

-- a line of the verb `read` by its first word
abbrev pub read_by : Option ReadWord → Option (List ℕ) → Result Line LineFault
read_by None rest = Err Word
read_by (Some word) rest = read_octets word (lone_hex rest)

abbrev pub repair_octets : Option (List ℕ) → Result Line LineFault
repair_octets None = Err Form
repair_octets (Some octets) = Ok (line.RepairPacket octets)

-- a line of the verb `repair` by its first word
abbrev pub repair_by : Option RepairWord → Option (List ℕ) → Result Line LineFault
repair_by None rest = Err Word
repair_by (Some repairs.Packet) rest = repair_octets (lone_hex rest)
repair_by (Some repairs.State) rest = lone line.ShowState rest

-- ## Any line

-- a line by its first word and what stands behind that
abbrev pub words_line : LineKind → (version : ℕ) → Bool → List ℕ → Option (List ℕ) → Result Line LineFault
words_line kinds.Session version started word rest = session_by version started (keyword_of word) rest
words_line kinds.Read version started word rest = read_by (read_word_of word) rest
words_line kinds.Repair version started word rest = repair_by (repair_word_of word) rest

-- What a line is, where `started` tells whether a session line was taken before and `version` is the script's so far. An
-- empty line and a comment have no answer.
abbrev pub line_of : LineKind → (version : ℕ) → (started : Bool) → List ℕ → Result Line LineFault
line_of kind version started [] = Ok line.Blank
line_of kind version started (c ∷ cs) =
    if c == 35 then Ok line.Blank else words_line kind version started (first_word (c ∷ cs)) (other_words (c ∷ cs))

-- a session line gives an allowed number of steps
abbrev pub IsInRange : Line → Type 0
IsInRange (line.Session ssrc events) = (1 ≤ events) × (events ≤ 4194304)
IsInRange _ = Unit {0}
