-- A port over memory: what arrives, what went out and the room for more, and which of its calls fail.
use Rattle.std.specs.Prelude.{ℕ, ◌+◌, ◌-◌, ◌==◌, ◌||◌, Bool, List, [], ◌∷◌, ◌++◌, length, drop, if◌then◌else◌, Some, nat_lt}
use Rattle.jm_edge.specs.declared.port.Recv.{Recv}
use Rattle.jm_edge.specs.declared.port.Recv.TheVariants as recv
use Rattle.jm_edge.specs.declared.port.Sent.{Sent}
use Rattle.jm_edge.specs.declared.port.Sent.TheVariants as sent
use Rattle.jm_edge.specs.Faults.{one_more}
use Rattle.jm_edge.specs.MemSource.{is_due, next_call}
use Rattle.jm_edge.specs.Wire.{Letter, Wire}

-- The room is so many datagrams and so many octets in all. `fails` and `call` are as for a source, for each kind of call by
-- itself.
pub record Posting : Type 0 where
  pub arriving : List Letter
  pub gone : List Letter
  pub datagrams : ℕ
  pub octets : ℕ
  pub recv_fails : List ℕ
  pub recv_call : ℕ
  pub recv_faults : ℕ
  pub send_fails : List ℕ
  pub send_call : ℕ
  pub send_faults : ℕ

abbrev pub wire_of : Posting → Wire
wire_of p = record { arriving = Some p.arriving; gone = Some p.gone; recv_faults = p.recv_faults; send_faults = p.send_faults }

-- the first datagram
abbrev pub first_of : List Letter → Recv
first_of [] = recv.Quiet
first_of (letter ∷ letters) = recv.Got (length letter.octets) letter.addr

abbrev pub others_of : List Letter → List Letter
others_of [] = []
others_of (letter ∷ letters) = letters

-- the buffer behind it
abbrev pub put_front : List Letter → (buffer : List ℕ) → List ℕ
put_front [] buffer = buffer
put_front (letter ∷ letters) buffer = letter.octets ++ drop (length letter.octets) buffer

abbrev pub recv_answer : Posting → Recv
recv_answer p = if is_due p.recv_fails p.recv_call then recv.Failed else first_of p.arriving

abbrev pub after_recv : Posting → Posting
after_recv p = if is_due p.recv_fails p.recv_call
    then record p { recv_call = next_call p.recv_call; recv_faults = one_more p.recv_faults }
    else record p { arriving = others_of p.arriving; recv_call = next_call p.recv_call }

abbrev pub received : Posting → (buffer : List ℕ) → List ℕ
received p buffer = if is_due p.recv_fails p.recv_call then buffer else put_front p.arriving buffer

-- whether a send of so many octets fails: its number is in the list, or there is no room
abbrev pub is_lost : Posting → (len : ℕ) → Bool
is_lost p len = is_due p.send_fails p.send_call || p.datagrams == 0 || nat_lt p.octets len

abbrev pub send_answer : Posting → Letter → Sent
send_answer p letter = if is_lost p (length letter.octets) then sent.Failed else sent.Gone

abbrev pub after_send : Posting → Letter → Posting
after_send p letter = if is_lost p (length letter.octets)
    then record p { send_call = next_call p.send_call; send_faults = one_more p.send_faults }
    else record p {
      gone = p.gone ++ letter ∷ [];
      datagrams = p.datagrams - 1;
      octets = p.octets - length letter.octets;
      send_call = next_call p.send_call;
    }
