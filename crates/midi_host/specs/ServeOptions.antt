-- The options of `serve`, as clap sees them.
use Rattle.std.specs.Prelude.{ℕ, Bool, List, [], ◌∷◌, Option, Some, None, codes, true, false, if◌then◌else◌}
use Rattle.clap.specs.declared.builder.action.ArgAction.TheVariants.{Set}
use Rattle.clap.specs.Walk.{Row, Rule, Text, first_of}
use Rattle.clap.specs.Kinds.{Kinds}
use Rattle.clap.specs.Simple.{App, new_app, new_rule, with_rule, matches_of}
use Rattle.clap.specs.Faults.{fault_of}

-- an option with one value, as `--port 5004` or `--port=5004`
abbrev pub option_rule : (name : Text) → Rule
option_rule name = record (new_rule name) { long = Some name; action = Some Set }

-- one that has to be there
abbrev pub needed : (name : Text) → Rule
needed name = record (option_rule name) { required = true }

-- one with a value where it isn't there
abbrev pub with_value : (name value : Text) → Rule
with_value name value = record (option_rule name) { defaults = value ∷ [] }

-- the command `serve`, with four options
unfoldable pub serve_app : App
serve_app = with_rule (with_rule (with_rule (with_rule (new_app (codes "serve"))
    (needed (codes "port")))
    (needed (codes "turns")))
    (with_value (codes "ssrc") (codes "4d494449")))
    (with_value (codes "events") (codes "4194304"))

-- the texts of the options
pub record Texts : Type 0 where
  pub port : Option Text
  pub turns : Option Text
  pub ssrc : Option Text
  pub events : Option Text

abbrev pub texts_in : List Row → Texts
texts_in rows = record {
  port = first_of (codes "port") rows;
  turns = first_of (codes "turns") rows;
  ssrc = first_of (codes "ssrc") rows;
  events = first_of (codes "events") rows;
}

-- no kind of error
abbrev pub is_none_of : Kinds → Bool
is_none_of [] = true
is_none_of (kind ∷ kinds) = false

-- the words are such that clap takes them
abbrev pub is_taken : (words : List Text) → Bool
is_taken words = is_none_of (fault_of serve_app words)

-- what the options are given, where the words are such
abbrev pub texts_of : (words : List Text) → Option Texts
texts_of words = if is_taken words then Some (texts_in (matches_of serve_app words)) else None
