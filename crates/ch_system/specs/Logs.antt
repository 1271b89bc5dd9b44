-- The logs of Chapter D, as its writer holds them.
use Rattle.std.specs.Prelude.{ℕ, ◌+◌, ◌*◌, Bool, ◌||◌, List, [], ◌∷◌, ◌++◌, Option, Some, None}
use Rattle.ch_system.specs.declared.d.Logs.{Logs}
use Rattle.jm_cmds.specs.Sent.{s_of}
use Rattle.ch_system.specs.ChapterD.{headed}

abbrev pub listed : Option ℕ → List ℕ
listed None = []
listed (Some octet) = octet ∷ []

abbrev pub bit_of : Option ℕ → ℕ
bit_of None = 0
bit_of (Some octet) = 1

abbrev pub logs_fresh : Logs → Bool
logs_fresh logs = logs.reset.fresh || logs.tune.fresh || logs.song.fresh

abbrev pub logs_head : Logs → ℕ
logs_head logs = s_of (logs_fresh logs) + 64 * bit_of logs.reset.octet + 32 * bit_of logs.tune.octet + 16 * bit_of logs.song.octet

abbrev pub logs_octets : Logs → List ℕ
logs_octets logs = headed (logs_head logs) (listed logs.reset.octet ++ listed logs.tune.octet ++ listed logs.song.octet)
