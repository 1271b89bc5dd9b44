-- Whose packets are taken, and what comes of a packet.
use Rattle.std.specs.Prelude.{◌≡◌, ℕ, ◌<◌, Bool, not, ◌&&◌, ◌==◌, List, [], ◌∷◌, ◌++◌, length, filter, position, slice_get, slice_set, Option, Some, None, IfSome, Result, Ok, Err}
use Rattle.std.specs.declared.alloc.AllocError.{AllocError}
use Rattle.jm_packet.specs.declared.reading.PacketFault.{PacketFault}
use Rattle.jm_packet.specs.Reading.{source_read}
use Rattle.jm_state.specs.Parts.{no_state}
use Rattle.jm_receiver.specs.declared.opening.AcceptFault.{AcceptFault}
use Rattle.jm_receiver.specs.declared.receiver.Took.{Took}
use Rattle.jm_receiver.specs.Receiver.{Received}
use Rattle.jm_receiver.specs.Accept.{accepted}
use Rattle.jm_serve.specs.declared.receivers.Slot.{Slot}
use Rattle.jm_serve.specs.declared.receivers.Came.{Came}

-- ---- who they are

abbrev pub is_of : (ssrc : ℕ) → Slot → Bool
is_of ssrc slot = slot.ssrc == ssrc

abbrev pub place_of : Result ℕ PacketFault → List Slot → Option ℕ
place_of (Ok source) slots = position (is_of source) slots
place_of (Err fault) slots = None

-- the place of the one whose packet these octets may be: whose stream the header names
abbrev pub place_for : (octets : List ℕ) → List Slot → Option ℕ
place_for octets slots = place_of (source_read octets) slots

-- who joined and has sent nothing yet
abbrev pub newcomer : (player ssrc : ℕ) → Slot
newcomer player ssrc = record { player = player; ssrc = ssrc; receiver = record { ssrc = ssrc; last = None; state = no_state; unfinished = None } }

-- neither of this player's number nor of this source
abbrev pub is_other : (player ssrc : ℕ) → Slot → Bool
is_other player ssrc slot = not (slot.player == player) && not (slot.ssrc == ssrc)

-- the newcomer stands at the end, and who had its number or its source is gone
abbrev pub with_newcomer : (player ssrc : ℕ) → List Slot → List Slot
with_newcomer player ssrc slots = filter (is_other player ssrc) slots ++ newcomer player ssrc ∷ []

-- ---- what comes of a packet

-- this one stands at this place
abbrev pub StandsAt : (place : ℕ) → Slot → List Slot → Type 0
StandsAt place slot slots = slice_get slots place ≡ Some slot

abbrev pub came_of : (place : ℕ) → Slot → Took → Came
came_of place slot took = record { place = place; ssrc = slot.ssrc; player = slot.player; took = took }

-- the one at this place took a packet, and its receiver is another one now
abbrev pub with_receiver : (place : ℕ) → Slot → Received → List Slot → List Slot
with_receiver place slot after slots = slice_set slots place (record slot { receiver = after })

-- The receiver at this place takes the packet; or it gives a reason why not, and is as it was, also where there was no memory.
pub data TakesAt (place : ℕ) (octets : List ℕ) (slots : List Slot) : Result (Option Came) AllocError → List Slot → Type 0 where
  refuses : (slot : Slot) (fault : AcceptFault) → StandsAt place slot slots → accepted slot.receiver octets ≡ Err fault → TakesAt place octets slots (Ok None) slots
  no_room : (none : AllocError) → TakesAt place octets slots (Err none) slots
  takes : (slot : Slot) (after : Received) (took : Took) → StandsAt place slot slots → accepted slot.receiver octets ≡ Ok (after, took)
      → TakesAt place octets slots (Ok (Some (came_of place slot took))) (with_receiver place slot after slots)

-- A packet goes to the receiver of its stream, if there is one.
pub data TakesPacket (octets : List ℕ) (slots : List Slot) : Result (Option Came) AllocError → List Slot → Type 0 where
  stray : place_for octets slots ≡ None → TakesPacket octets slots (Ok None) slots
  given : (place : ℕ) (result : Result (Option Came) AllocError) (slots' : List Slot) → place_for octets slots ≡ Some place → TakesAt place octets slots result slots'
      → TakesPacket octets slots result slots'

abbrev pub IsInside : Option Came → List Slot → Type 0
IsInside came slots = IfSome came (λ c. c.place < length slots)

-- ---- its parts

-- the one that stands at this place takes the packet, or doesn't and is as it was
pub data TakesWith (place : ℕ) (octets : List ℕ) (slot : Slot) : Result (Option Came) AllocError → Slot → Type 0 where
  not_taken : (fault : AcceptFault) → accepted slot.receiver octets ≡ Err fault → TakesWith place octets slot (Ok None) slot
  starved : (none : AllocError) → TakesWith place octets slot (Err none) slot
  was_taken : (after : Received) (took : Took) → accepted slot.receiver octets ≡ Ok (after, took) → TakesWith place octets slot (Ok (Some (came_of place slot took))) (record slot { receiver = after })
