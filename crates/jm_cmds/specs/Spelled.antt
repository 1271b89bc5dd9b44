-- The octets that a `Spelled` stands for.
use Rattle.std.specs.Prelude.{ℕ, List, [], ◌∷◌, ◌++◌}
use Rattle.jm_cmds.specs.declared.commands.DataOctets.{DataOctets}
use Rattle.jm_cmds.specs.declared.commands.DataOctets.TheVariants.{None as NoData, One as OneData, Two as TwoData, Message as MessageData}
use Rattle.jm_cmds.specs.declared.commands.Spelled.{Spelled}
use Rattle.jm_cmds.specs.declared.commands.Spelled.TheVariants.{One, Two, Three, Message}

abbrev pub octets_of : Spelled → List ℕ
octets_of (One status) = status ∷ []
octets_of (Two status first) = status ∷ first ∷ []
octets_of (Three status first second) = status ∷ first ∷ second ∷ []
octets_of (Message octets) = 0xf0 ∷ (octets.now ++ 0xf7 ∷ [])

-- the octets of the command with this status octet and these data octets
abbrev pub octets_behind : ℕ → DataOctets → List ℕ
octets_behind status NoData = status ∷ []
octets_behind status (OneData first) = status ∷ first ∷ []
octets_behind status (TwoData first second) = status ∷ first ∷ second ∷ []
octets_behind status (MessageData octets) = 0xf0 ∷ (octets.now ++ 0xf7 ∷ [])
