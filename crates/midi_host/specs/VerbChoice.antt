-- Which top call the words are for.
use Rattle.std.specs.Prelude.{ℕ, List, [], ◌∷◌, codes, if◌then◌else◌}
use Rattle.std.specs.Str.{bytes_eq}
use Rattle.midi_host.specs.declared.verb_kind.Verb.{Verb}
use Rattle.midi_host.specs.declared.verb_kind.Verb.TheVariants.{Plain, Jam, Invite, Serve}

-- by the first word
abbrev pub verb_for : (words : List (List ℕ)) → Verb
verb_for [] = Plain
verb_for (word ∷ words) = if bytes_eq word (codes "invite") then Invite else if bytes_eq word (codes "jam") then Jam else if bytes_eq word (codes "serve") then Serve else Plain
