-- What a port has to do with: the datagrams that are still to come and those that went out, where it tells them, and its two
-- counts of failed calls.
use Rattle.std.specs.Prelude.{◌≡◌, ℕ, ◌≤◌, List, [], ◌∷◌, ◌++◌, take, Option, IfSome, ⊤}
use Rattle.std.specs.Option.{option_map}
use Rattle.jm_edge.specs.Faults.{Rose}
use Rattle.jm_edge.specs.declared.Addr.{Addr}
use Rattle.jm_edge.specs.declared.port.Recv.{Recv}
use Rattle.jm_edge.specs.declared.port.Recv.TheVariants as recv
use Rattle.jm_edge.specs.declared.port.Sent.{Sent}
use Rattle.jm_edge.specs.declared.port.Sent.TheVariants as sent

-- a datagram, with the address that it comes from or goes to
pub record Letter : Type 0 where
  pub addr : Addr
  pub octets : List ℕ

pub record Wire : Type 0 where
  pub arriving : Option (List Letter)
  pub gone : Option (List Letter)
  pub recv_faults : ℕ
  pub send_faults : ℕ

-- a datagram has at most 65,536 octets, told or not
abbrev pub IsWithin : Recv → Type 0
IsWithin (recv.Got len from) = len ≤ 65536
IsWithin recv.Quiet = ⊤
IsWithin recv.Failed = ⊤

-- What a `recv` took: a datagram is the first that was arriving, and stands at the front of the buffer; `Quiet` comes only
-- where none was arriving; a fault takes none.
abbrev pub Takes : Recv → (buffer : List ℕ) (before after : Option (List Letter)) → Type 0
Takes (recv.Got len from) buffer before after = before ≡ option_map (λ rest. record { addr = from; octets = take len buffer } ∷ rest) after
Takes recv.Quiet buffer before after = (after ≡ before) × IfSome before (λ rest. rest ≡ [])
Takes recv.Failed buffer before after = after ≡ before

-- a fact for a failed call
abbrev pub OnBroken : Recv → Type 0 → Type 0
OnBroken (recv.Got len from) fact = ⊤
OnBroken recv.Quiet fact = ⊤
OnBroken recv.Failed fact = fact

-- What a `recv` did. What went out, and its count, stay as they were.
pub record Receives (answer : Recv) (buffer : List ℕ) (before after : Wire) : Type 0 where
  pub takes : Takes answer buffer before.arriving after.arriving
  pub counted : before.recv_faults ≤ after.recv_faults
  pub failed : OnBroken answer (Rose before.recv_faults after.recv_faults)
  pub gone : after.gone ≡ before.gone
  pub sends : after.send_faults ≡ before.send_faults

-- what a `send` added to what went out: its datagram, or nothing
abbrev pub Adds : Sent → Letter → (before after : Option (List Letter)) → Type 0
Adds sent.Gone letter before after = after ≡ option_map (λ gone. gone ++ letter ∷ []) before
Adds sent.Failed letter before after = after ≡ before

abbrev pub OnLost : Sent → Type 0 → Type 0
OnLost sent.Gone fact = ⊤
OnLost sent.Failed fact = fact

-- What a `send` did. What is arriving, and its count, stay as they were.
pub record Sends (answer : Sent) (letter : Letter) (before after : Wire) : Type 0 where
  pub adds : Adds answer letter before.gone after.gone
  pub counted : before.send_faults ≤ after.send_faults
  pub failed : OnLost answer (Rose before.send_faults after.send_faults)
  pub arriving : after.arriving ≡ before.arriving
  pub receives : after.recv_faults ≡ before.recv_faults
