-- The words of `jam`.
use Rattle.std.specs.Prelude.{ℕ, List, [], ◌∷◌, Option, Some, None, codes, if◌then◌else◌}
use Rattle.std.specs.Str.{bytes_eq}
use Rattle.jm_script.specs.Words.{number_of}
use Rattle.midi_host.specs.Invitation.{from_one}
use Rattle.midi_host.specs.declared.jam_words.JamWords.{JamWords}

-- a seed: at most 999,999
abbrev pub seed_of : (word : List ℕ) → Option ℕ
seed_of word = number_of 999999 word

-- how many steps each worker makes: from 1 to 4,096
abbrev pub count_of : (word : List ℕ) → Option ℕ
count_of word = from_one (number_of 4096 word)

abbrev pub asked : (seed count : Option ℕ) → Option JamWords
asked None count = None
asked (Some seed) None = None
asked (Some seed) (Some count) = Some (record { seed = seed; count = count })

-- `jam SEED COUNT`
unfoldable pub jam_of : (words : List (List ℕ)) → Option JamWords
jam_of [] = None
jam_of (verb ∷ []) = None
jam_of (verb ∷ seed ∷ []) = None
jam_of (verb ∷ seed ∷ count ∷ []) = if bytes_eq verb (codes "jam") then asked (seed_of seed) (count_of count) else None
jam_of (verb ∷ seed ∷ count ∷ other ∷ words) = None
