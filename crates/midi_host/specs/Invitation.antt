-- The words of `invite`.
use Rattle.std.specs.Prelude.{ℕ, List, [], ◌∷◌, Option, Some, None, nat_lt, codes, if◌then◌else◌}
use Rattle.std.specs.Str.{bytes_eq}
use Rattle.jm_edge.specs.declared.Addr.{Addr}
use Rattle.jm_script.specs.Words.{number_of, addr_of}
use Rattle.midi_host.specs.declared.invitation.Invitation.{Invitation}

-- an address behind whose port there is one more
abbrev pub with_next : Option Addr → Option Addr
with_next None = None
with_next (Some to) = if nat_lt to.port 65535 then Some to else None

-- the address of a control port: the data port is the next one
abbrev pub control_of : (word : List ℕ) → Option Addr
control_of word = with_next (addr_of word)

-- a number that isn't 0
abbrev pub from_one : Option ℕ → Option ℕ
from_one None = None
from_one (Some n) = if nat_lt 0 n then Some n else None

-- a number of turns: from 1 to 4,294,967,295
abbrev pub turns_of : (word : List ℕ) → Option ℕ
turns_of word = from_one (number_of 4294967295 word)

abbrev pub invitation : Option Addr → (turns : Option ℕ) → Option Invitation
invitation None turns = None
invitation (Some to) None = None
invitation (Some to) (Some turns) = Some (record { to = to; turns = turns })

-- `invite ADDR TURNS`
unfoldable pub invitation_of : (words : List (List ℕ)) → Option Invitation
invitation_of [] = None
invitation_of (verb ∷ []) = None
invitation_of (verb ∷ address ∷ []) = None
invitation_of (verb ∷ address ∷ turns ∷ []) = if bytes_eq verb (codes "invite") then invitation (control_of address) (turns_of turns) else None
invitation_of (verb ∷ address ∷ turns ∷ other ∷ words) = None
