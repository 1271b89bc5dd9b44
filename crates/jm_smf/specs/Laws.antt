-- What the laws of this crate say.
use Rattle.std.specs.Prelude.{◌≡◌, ℕ, ◌-◌, ◌^◌, ◌<◌, ◌↔◌, List, [], ◌∷◌, length, map, Ok, Err}
use Rattle.std.specs.List.{AllByRecursion}
use Rattle.jm_cmds.specs.Command.{IsCommand}
use Rattle.jm_cmds.specs.History.{InOrder}
use Rattle.jm_smf.specs.declared.timed.Timed.{Timed}
use Rattle.jm_smf.specs.declared.fault.FileFault.{FileFault}
use Rattle.jm_smf.specs.File.{written}
use Rattle.jm_smf.specs.Reading.{file_read}
use Rattle.jm_smf.specs.Grammar.{IsFile}
use Rattle.jm_smf.specs.Faults.{FileShows}

-- A list is read of octets exactly where they are a file that spells it.
abbrev pub FilesAreRead : Type 0
FilesAreRead = (octets : List ℕ) (list : List Timed) → (file_read octets ≡ Ok list) ↔ IsFile octets list

-- octets spell at most one list
abbrev pub OneList : Type 0
OneList = (octets : List ℕ) (a b : List Timed) → IsFile octets a → IsFile octets b → a ≡ b

-- The numbers of each command are within their bounds, as those of a program are.
abbrev pub AreCommands : List Timed → Type 0
AreCommands list = AllByRecursion (λ timed. IsCommand timed.command) list

abbrev pub tick_of : Timed → ℕ
tick_of timed = timed.tick

-- a command so many ticks earlier
abbrev pub earlier : (ticks : ℕ) → Timed → Timed
earlier ticks timed = record { tick = timed.tick - ticks; command = timed.command }

-- The commands that a file spells are within their bounds, and their ticks never fall.
abbrev pub ListsAreInOrder : Type 0
ListsAreInOrder = (octets : List ℕ) (list : List Timed) → IsFile octets list → AreCommands list × InOrder tick_of list

-- the first tick taken from each: the first command at 0, and every other as far behind it as before
abbrev pub from_first : List Timed → List Timed
from_first [] = []
from_first (t ∷ ts) = map (earlier t.tick) (t ∷ ts)

-- What was written of a list is a file that spells it with the first tick taken from each, and it is read so. It has few enough octets
-- for a reader.
pub record IsReadBack (list : List Timed) (octets : List ℕ) : Type 0 where
  pub few : length octets < 2 ^ 33
  pub spelled : IsFile octets (from_first list)
  pub again : file_read octets ≡ Ok (from_first list)

-- So it is with each list whose ticks never fall, of which there is a file.
abbrev pub FilesReadBack : Type 0
FilesReadBack = (list : List Timed) (octets : List ℕ) → AreCommands list → InOrder tick_of list → written list ≡ Ok octets → IsReadBack list octets

-- A fault is read of octets exactly where they show it: the first thing in order of place that isn't as it has to be.
abbrev pub FaultsAreShown : Type 0
FaultsAreShown = (octets : List ℕ) (fault : FileFault) → (file_read octets ≡ Err fault) ↔ FileShows octets fault
