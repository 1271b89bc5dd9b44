-- The words of `serve`.
use Rattle.std.specs.Prelude.{◌≡◌, ◌≤◌, ℕ, List, Option, Some, None, nat_le, if◌then◌else◌, option_and_then, ⊤}
use Rattle.std.specs.declared.result.Result.{Result}
use Rattle.std.specs.declared.result.Result.TheVariants.{Ok, Err}
use Rattle.jm_script.specs.Words.{number_of, ssrc_of}
use Rattle.midi_host.specs.Invitation.{from_one, turns_of}
use Rattle.midi_host.specs.ServeOptions.{Texts, texts_of}
use Rattle.midi_host.specs.declared.serve_options.WordsFault.{WordsFault}
use Rattle.midi_host.specs.declared.serve_options.WordsFault.TheVariants.{Memory, Refused}
use Rattle.midi_host.specs.declared.serve_words.ServeWords.{ServeWords}

-- a number that isn't below this one
abbrev pub from_least : (least : ℕ) → Option ℕ → Option ℕ
from_least least None = None
from_least least (Some n) = if nat_le least n then Some n else None

-- the control port: from 1,024 to 65,534; the data port is the next one
abbrev pub served_port : (word : List ℕ) → Option ℕ
served_port word = from_least 1024 (number_of 65534 word)

-- how many steps the tape takes: from 1 to 4,194,304
abbrev pub events_of : (word : List ℕ) → Option ℕ
events_of word = from_one (number_of 4194304 word)

-- the settings are within their bounds, as far as others rest on that
abbrev pub AreWithin : ServeWords → Type 0
AreWithin asked = (asked.port ≤ 65534) × (1 ≤ asked.events) × (asked.events ≤ 4194304)

abbrev pub asked : (port turns ssrc events : Option ℕ) → Option ServeWords
asked None turns ssrc events = None
asked (Some port) None ssrc events = None
asked (Some port) (Some turns) None events = None
asked (Some port) (Some turns) (Some ssrc) None = None
asked (Some port) (Some turns) (Some ssrc) (Some events) = Some (record { port = port; turns = turns; ssrc = ssrc; events = events })

-- what the texts of the options ask for
abbrev pub settings_of : Texts → Option ServeWords
settings_of texts = asked (option_and_then served_port texts.port) (option_and_then turns_of texts.turns) (option_and_then ssrc_of texts.ssrc) (option_and_then events_of texts.events)

-- `serve --port PORT --turns TURNS`, with `--ssrc SSRC` and `--events EVENTS` where they are given
unfoldable pub serve_of : (words : List (List ℕ)) → Option ServeWords
serve_of words = option_and_then settings_of (texts_of words)

-- what comes of reading them
abbrev pub Asks : (words : List (List ℕ)) → Result ServeWords WordsFault → Type 0
Asks words (Ok settings) = serve_of words ≡ Some settings
Asks words (Err Refused) = serve_of words ≡ None
Asks words (Err Memory) = ⊤
