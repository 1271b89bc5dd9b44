-- The places of a session's history.
use Rattle.std.specs.Prelude.{ℕ, ◌+◌, Bool, true, false, List, [], ◌∷◌, ◌==◌, nat_le, nat_lt, if◌then◌else◌}
use Rattle.jm_cmds.specs.declared.history.Sent.{Sent}

abbrev pub packet_of : Sent → ℕ
packet_of sent = sent.packet

abbrev pub tick_of : Sent → ℕ
tick_of sent = sent.tick

-- whether it went out in the packet before this one
abbrev pub is_fresh : (packet : ℕ) → Sent → Bool
is_fresh packet sent = sent.packet + 1 == packet

-- An S bit as the high bit of an octet: 0 where something that it speaks of is of the packet before.
abbrev pub s_of : Bool → ℕ
s_of fresh = if fresh then 0 else 128

-- whether octets that begin with an S bit, where there are any, have it 0
abbrev pub shows_fresh : List ℕ → Bool
shows_fresh [] = false
shows_fresh (first ∷ rest) = nat_lt first 128

-- The S bit of its log in this packet's journal, as the high bit of an octet: 0 where the command went
-- out in the packet before (RFC 6295, A.1).
abbrev pub s_bit : (packet : ℕ) → Sent → ℕ
s_bit packet sent = s_of (is_fresh packet sent)

-- whether the first of these, if there is one, is in this packet or a later one
abbrev pub first_from : (packet : ℕ) → List Sent → Bool
first_from packet [] = true
first_from packet (next ∷ later) = nat_le packet next.packet
