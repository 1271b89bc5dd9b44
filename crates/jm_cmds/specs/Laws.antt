-- What the laws of this crate say.
use Rattle.std.specs.Prelude.{◌≡◌, ℕ, ◌+◌, ◌≤◌, Bool, not, true, List, [], ◌∷◌, ◌++◌, length, filter, Option, Some, sum_by, Ok, Err}
use Rattle.jm_cmds.specs.declared.commands.Command.{Command}
use Rattle.jm_cmds.specs.declared.history.Sent.{Sent}
use Rattle.jm_cmds.specs.Command.{spelling, IsCommand}
use Rattle.jm_cmds.specs.Control.{control_kind, control_number}
use Rattle.jm_cmds.specs.CommandLaws.{BeginsWith}
use Rattle.jm_cmds.specs.declared.reading.CmdFault.{CmdFault}
use Rattle.jm_cmds.specs.FaultLaws.{Shows}
use Rattle.jm_cmds.specs.Reading.{command_read}
use Rattle.jm_cmds.specs.History.{standing, since, below, within, coded, InOrder, Unended}
use Rattle.jm_cmds.specs.Sent.{packet_of}
use Rattle.jm_cmds.specs.Keys.{EndsKey, key_count, has_key}

-- Each command has one spelling, and no spelling is a prefix of another command's.
abbrev pub OneSpelling : Type 0
OneSpelling = (a b : Command) (more others : List ℕ) → IsCommand a → IsCommand b → spelling a ++ more ≡ spelling b ++ others → a ≡ b

-- Reading what is spelled gives the command back, whatever follows it.
abbrev pub ReadsSpelled : Type 0
ReadsSpelled = (command : Command) (rest : List ℕ) → IsCommand command → command_read (spelling command ++ rest) ≡ Ok (command, length (spelling command))

-- A command is read only where its spelling stands at the front.
abbrev pub ReadsOnlySpelled : Type 0
ReadsOnlySpelled = (octets : List ℕ) (command : Command) (size : ℕ) → command_read octets ≡ Ok (command, size) → BeginsWith octets command size

-- Octets are refused only for what they show: the fault is of the first octet that shows one.
abbrev pub FaultsShow : Type 0
FaultsShow = (octets : List ℕ) (fault : CmdFault) → command_read octets ≡ Err fault → Shows octets fault

-- One more place: those that it ends go, and it stands itself.
abbrev pub StandsLast : Type 0
StandsLast = (ends : Sent → Sent → Bool) (sent : List Sent) (last : Sent) → standing ends (sent ++ last ∷ []) ≡ filter (λ place. not (ends place last)) (standing ends sent) ++ last ∷ []

-- What a journal codes depends on the packets from its checkpoint on alone.
abbrev pub CodesRecent : Type 0
CodesRecent = (ends : Sent → Sent → Bool) (checkpoint : ℕ) (sent : List Sent) → InOrder packet_of sent → coded ends packet_of checkpoint sent ≡ standing ends (since packet_of checkpoint sent)

-- A greater checkpoint keeps the coded places of its packets, and no others.
abbrev pub CodesLess : Type 0
CodesLess = (ends : Sent → Sent → Bool) (checkpoint later : ℕ) (sent : List Sent) → checkpoint ≤ later → coded ends packet_of later sent ≡ since packet_of later (coded ends packet_of checkpoint sent)

-- What packet `last` brought, where it is the last one, is what a journal with it as its checkpoint
-- codes.
abbrev pub CodesFresh : Type 0
CodesFresh = (ends : Sent → Sent → Bool) (checkpoint last : ℕ) (sent : List Sent) → checkpoint ≤ last → within packet_of last (coded ends packet_of checkpoint (below packet_of (last + 1) sent)) ≡ coded ends packet_of last (below packet_of (last + 1) sent)

-- The coded places are of distinct items: none is ended by a later one of them.
abbrev pub CodesDistinct : Type 0
CodesDistinct = (ends : Sent → Sent → Bool) (checkpoint : ℕ) (sent : List Sent) → Unended ends (coded ends packet_of checkpoint sent)

-- The coded places stand oldest first (RFC 6295, A.1), in order of any number that never falls along
-- the history.
abbrev pub CodesInOrder : Type 0
CodesInOrder = (number_of : Sent → ℕ) (ends : Sent → Sent → Bool) (checkpoint : ℕ) (sent : List Sent) → InOrder number_of sent → InOrder number_of (coded ends packet_of checkpoint sent)

-- Of places whose later ones with the same key end them, one more command makes the coded ones at most one more, none
-- more where its key is coded; weights grow by its own at most; and a greater checkpoint makes neither greater.
pub record CodesFew : Type 0 where
  pub one_more : (ends : Sent → Sent → Bool) (key : Sent → Option ℕ) (checkpoint : ℕ) (sent : List Sent) (last : Sent) → checkpoint ≤ packet_of last
      → key_count key (coded ends packet_of checkpoint (sent ++ last ∷ [])) ≤ key_count key (coded ends packet_of checkpoint sent) + 1
  pub none_more : (ends : Sent → Sent → Bool) (key : Sent → Option ℕ) → EndsKey ends key → (checkpoint : ℕ) (sent : List Sent) (last : Sent) (k : ℕ) → checkpoint ≤ packet_of last
      → key last ≡ Some k → has_key key k (coded ends packet_of checkpoint sent) ≡ true
      → key_count key (coded ends packet_of checkpoint (sent ++ last ∷ [])) ≤ key_count key (coded ends packet_of checkpoint sent)
  pub fewer : (ends : Sent → Sent → Bool) (key : Sent → Option ℕ) (checkpoint later : ℕ) (sent : List Sent) → checkpoint ≤ later
      → key_count key (coded ends packet_of later sent) ≤ key_count key (coded ends packet_of checkpoint sent)
  pub weight : (ends : Sent → Sent → Bool) (weight_of : Sent → ℕ) (checkpoint : ℕ) (sent : List Sent) (last : Sent) → checkpoint ≤ packet_of last
      → sum_by weight_of (coded ends packet_of checkpoint (sent ++ last ∷ [])) ≤ sum_by weight_of (coded ends packet_of checkpoint sent) + weight_of last
  pub lighter : (ends : Sent → Sent → Bool) (weight_of : Sent → ℕ) (checkpoint later : ℕ) (sent : List Sent) → checkpoint ≤ later
      → sum_by weight_of (coded ends packet_of later sent) ≤ sum_by weight_of (coded ends packet_of checkpoint sent)

-- The kind of a controller tells its number.
abbrev pub KindTellsNumber : Type 0
KindTellsNumber = (number : ℕ) → control_number (control_kind number) ≡ number
