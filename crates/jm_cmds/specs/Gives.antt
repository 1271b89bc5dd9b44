-- What a reader that takes memory gives.
use Rattle.std.specs.Prelude.{◌≡◌, Result, Ok, Err, IsOk}
use Rattle.jm_cmds.specs.declared.outcome.ReadError.{ReadError}
use Rattle.jm_cmds.specs.declared.outcome.ReadError.TheVariants as errors

-- The answer is the one that the definition gives, unless memory was refused.
abbrev pub Gives : {A F : Type 0} → Result A (ReadError F) → Result A F → Type 0
Gives (Ok x) meant = meant ≡ Ok x
Gives (Err errors.Memory) meant = Unit {0}
Gives (Err (errors.Fault f)) meant = meant ≡ Err f

-- Memory is wanted for a good answer alone: octets that are refused are refused without any.
abbrev pub WantsForGood : {A F : Type 0} → Result A (ReadError F) → Result A F → Type 0
WantsForGood (Ok x) meant = Unit {0}
WantsForGood (Err errors.Memory) meant = IsOk meant
WantsForGood (Err (errors.Fault f)) meant = Unit {0}
