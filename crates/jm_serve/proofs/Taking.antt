-- What comes of a packet among the receivers, put together from what comes of it at one.
use Rattle.std.proofs.Common.{◌≡◌, ℕ, List, Option, None, Result, Ok, Err, sym, ap, subst, ◌∙◌}
use Rattle.std.specs.Prelude.{slice_set}
use Rattle.std.proofs.Math.ListN.{set}
use Rattle.std.proofs.lemmas.List.{set-get_or}
use Rattle.std.proofs.lemmas.Option.{get_or_from_slice_get}
use Rattle.std.specs.declared.alloc.AllocError.{AllocError}
use Rattle.jm_receiver.specs.declared.opening.AcceptFault.{AcceptFault}
use Rattle.jm_receiver.specs.Receiver.{Received}
use Rattle.jm_receiver.specs.Accept.{accepted}
use Rattle.jm_serve.specs.declared.receivers.Slot.{Slot}
use Rattle.jm_serve.specs.declared.receivers.Came.{Came}
use Rattle.jm_serve.specs.Receivers.{StandsAt, TakesWith, not_taken, starved, was_taken, TakesAt, refuses, no_room, takes}

-- ---- at one

module _ (place : ℕ) (octets : List ℕ) (slot : Slot) (after : Received) where
  pub with_fault : (fault : AcceptFault) → after ≡ slot.receiver → accepted slot.receiver octets ≡ Err fault → TakesWith place octets slot (Ok None) (record slot { receiver = after })
  with_fault fault same e = subst (λ (k : Received). TakesWith place octets slot (Ok None) (record slot { receiver = k })) (sym same) (not_taken fault e)

  pub with_no_memory : (none : AllocError) → after ≡ slot.receiver → TakesWith place octets slot (Err none) (record slot { receiver = after })
  with_no_memory none same = subst (λ (k : Received). TakesWith place octets slot (Err none) (record slot { receiver = k })) (sym same) (starved none)

-- ---- among all

same_again : (slots : List Slot) (place : ℕ) (slot : Slot) → StandsAt place slot slots → slice_set slots place slot ≡ slots
same_again slots place slot e =
    ap (λ (k : Slot). set slots place k) (sym (get_or_from_slice_get slots place slot slot e)) ∙ set-get_or slots place slot

pub takes_at : (place : ℕ) (octets : List ℕ) (slots : List Slot) (slot slot' : Slot) (result : Result (Option Came) AllocError) → StandsAt place slot slots → TakesWith place octets slot result slot' → TakesAt place octets slots result (slice_set slots place slot')
takes_at place octets slots slot slot' result at (not_taken fault e) = subst (λ (k : List Slot). TakesAt place octets slots (Ok None) k) (sym (same_again slots place slot at)) (refuses slot fault at e)
takes_at place octets slots slot slot' result at (starved none) = subst (λ (k : List Slot). TakesAt place octets slots (Err none) k) (sym (same_again slots place slot at)) (no_room none)
takes_at place octets slots slot slot' result at (was_taken after took e) = takes slot after took at e
