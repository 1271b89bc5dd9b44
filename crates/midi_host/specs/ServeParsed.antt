-- What comes of the words of `serve`.
use Rattle.std.specs.Prelude.{◌≡◌, true, false, ℕ, List, Option, Some, None, option_map, ⊤}
use Rattle.std.specs.Borrow.{Bor}
use Rattle.std.specs.declared.result.Result.{Result}
use Rattle.std.specs.declared.result.Result.TheVariants.{Ok, Err}
use Rattle.clap.specs.Walk.{Text, rows_of}
use Rattle.clap.specs.Simple.{matches_of}
use Rattle.clap.specs.Matches.{found_of}
use Rattle.clap.specs.declared.error.kind.ErrorKind.{ErrorKind}
use Rattle.clap.specs.declared.error.kind.ErrorKind.TheVariants as kind
use Rattle.clap.specs.declared.parser.matches.ArgMatches.{ArgMatches}
use Rattle.midi_host.specs.ServeOptions.{Texts, serve_app, is_taken, texts_of}
use Rattle.midi_host.specs.declared.serve_options.OptionTexts.{OptionTexts}
use Rattle.midi_host.specs.declared.serve_options.WordsFault.{WordsFault}
use Rattle.midi_host.specs.declared.serve_options.WordsFault.TheVariants.{Memory, Refused}

abbrev pub seen : OptionTexts → Texts
seen t = record {
  port = option_map (λ s. s.now) t.port;
  turns = option_map (λ s. s.now) t.turns;
  ssrc = option_map (λ s. s.now) t.ssrc;
  events = option_map (λ s. s.now) t.events;
}

abbrev pub Parses : (words : List Text) → Result OptionTexts WordsFault → Type 0
Parses words (Ok texts) = texts_of words ≡ Some (seen texts)
Parses words (Err Refused) = texts_of words ≡ None
Parses words (Err Memory) = ⊤

-- what an error of clap's comes to
abbrev pub fault_for : ErrorKind → WordsFault
fault_for kind.OutOfMemory = Memory
fault_for _ = Refused

abbrev pub Matches : (words : List Text) → Result ArgMatches WordsFault → Type 0
Matches words (Ok matches) = (is_taken words ≡ true) × (rows_of (found_of matches) ≡ matches_of serve_app words)
Matches words (Err Refused) = is_taken words ≡ false
Matches words (Err Memory) = ⊤
