-- The message of some data octets.
use Rattle.std.specs.Prelude.{ℕ, ◌%◌, List, map, length, Result, Ok, Err, nat_lt, if◌then◌else◌}
use Rattle.jm_cmds.specs.declared.system_exclusive.SysexFault.{SysexFault}
use Rattle.jm_cmds.specs.declared.system_exclusive.SysexFault.TheVariants.{BadData, TooLong}
use Rattle.jm_cmds.specs.Data.{data_len}

-- The first octet that is no data octet is told before the number of them all.
abbrev pub sysex_made : List ℕ → Result (List ℕ) SysexFault
sysex_made octets =
    if nat_lt (data_len octets) (length octets) then Err (BadData (data_len octets))
    else (if nat_lt 65536 (length octets) then Err (TooLong (length octets)) else Ok octets)

-- The data octets that are told by the low seven bits of octets. In Chapter X the high bit marks the last one.
abbrev pub unmarked : List ℕ → List ℕ
unmarked octets = map (λ octet. octet % 128) octets
