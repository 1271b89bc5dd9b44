-- Running status (RFC 6295, section 3.2; Appendix E.2).
use Rattle.std.specs.Prelude.{ℕ, Bool, false, ◌&&◌, ◌==◌, nat_lt, Option, Some, None, if◌then◌else◌}

-- The running status behind a command with this status octet: a channel command sets it, F0 to F7 end
-- it, F8 to FF leave it.
abbrev pub running_after : (running : Option ℕ) (status : ℕ) → Option ℕ
running_after running status =
    if nat_lt status 0xf0 then Some status else if nat_lt status 0xf8 then None else running

-- whether a command with this status octet may leave it out
abbrev pub is_left_out : (running : Option ℕ) (status : ℕ) → Bool
is_left_out None status = false
is_left_out (Some before) status = before == status && nat_lt status 0xf0
