-- One more pending command: its place in the plain list, and what it adds to the MIDI list.
use Rattle.std.proofs.Common.{ℕ, ◌≡◌, ◌-◌, ◌<◌, ◌≤◌, ◌∙◌, refl, ap, sym, true, false, List, [], ◌∷◌, ◌++◌, length, length-append, take, arith, append_assoc, append-nil}
use Rattle.jm_wire.specs.Delta.{delta}
use Rattle.jm_wire.specs.DeltaWriting.{delta-length}
use Rattle.jm_cmds.specs.declared.commands.Command.{Command}
use Rattle.jm_cmds.specs.Command.{is_long}
use Rattle.jm_cmds.specs.declared.history.Sent.{Sent}
use Rattle.jm_section.specs.declared.item.What.TheVariants.{Part}
use Rattle.jm_section.specs.declared.item.PartKind.TheVariants as part
use Rattle.jm_section.specs.declared.next.Place.TheVariants.{First, Later}
use Rattle.jm_section.specs.declared.next.Place.{Place}
use Rattle.jm_section.specs.declared.item.Item.{Item}
use Rattle.jm_section.specs.Section.{Timed, piece, pieces, place_after, list_text, item_text, what_text, item_of, items_of, items_text}
use Rattle.jm_section.specs.Pieces.{place_behind, pieces-push, items_text-commands}
use Rattle.jm_book.specs.Segments.{message_of}
use Rattle.jm_book.specs.Answers.{what_of}
use Rattle.jm_book.specs.Pending.{timed_after, timed_of, last_tick}

pub last_tick_push : (other : ℕ) (sent : List Sent) (one : Sent) → last_tick other (sent ++ one ∷ []) ≡ one.tick
last_tick_push other [] one = refl
last_tick_push other (first ∷ others) one = last_tick_push first.tick others one

pub timed_after_push : (before : ℕ) (sent : List Sent) (one : Sent) → timed_after before (sent ++ one ∷ []) ≡ timed_after before sent ++ record { delta = one.tick - last_tick before sent; command = one.command } ∷ []
timed_after_push before [] one = refl
timed_after_push before (first ∷ others) one =
    ap (λ (ts : List Timed). record { delta = first.tick - before; command = first.command } ∷ ts) (timed_after_push first.tick others one)

pub timed_of_push : (sent : List Sent) (one : Sent) → timed_of (sent ++ one ∷ []) ≡ timed_of sent ++ record { delta = one.tick - last_tick one.tick sent; command = one.command } ∷ []
timed_of_push [] one = refl
timed_of_push (first ∷ others) one = timed_after_push first.tick (first ∷ others) one

pub last_tick_any : (other another : ℕ) (sent : List Sent) → 0 < length sent → last_tick other sent ≡ last_tick another sent
last_tick_any other another [] some = absurd (omega arith)
last_tick_any other another (first ∷ others) some = refl

-- what a command adds is what its item adds
pub item_is : (place : Place) (t : Timed) → item_text place (item_of t) ≡ piece place t
item_is place t = sym (append-nil (item_text place (item_of t))) ∙ items_text-commands place (t ∷ []) ∙ append-nil (piece place t)

-- the text with one more command
pub list_text_push : (sent : List Sent) (one : Sent) → list_text (timed_of (sent ++ one ∷ [])) ≡ list_text (timed_of sent) ++ piece (place_behind First (timed_of sent)) record { delta = one.tick - last_tick one.tick sent; command = one.command }
list_text_push sent one =
    rw (timed_of_push sent one) (pieces-push First (timed_of sent) record { delta = one.tick - last_tick one.tick sent; command = one.command })

-- the text with one more item
pub items_text_push : (place : Place) (ts : List Timed) (item : Item) → items_text place (items_of ts ++ item ∷ []) ≡ pieces place ts ++ item_text (place_behind place ts) item
items_text_push place [] item = append-nil (item_text place item)
items_text_push place (t ∷ ts) item =
    rw (item_is place t, items_text_push (place_after place t.command) ts item) (sym (append_assoc (piece place t) (pieces (place_after place t.command) ts) (item_text (place_behind place (t ∷ ts)) item)))

-- ---- what a list has of one command

-- the first segment of a long one
pub long_item : (place : Place) (distance : ℕ) (command : Command) (octets : List ℕ) → is_long command ≡ true → octets ≡ message_of command
    → item_text place record { delta = distance; what = Part part.First (take 2046 octets) } ≡ item_text place record { delta = distance; what = what_of command }
long_item place distance command octets long same = rw (long, same) refl

-- the whole of another
pub whole_item : (place : Place) (distance : ℕ) (command : Command) → is_long command ≡ false
    → piece place record { delta = distance; command = command } ≡ item_text place record { delta = distance; what = what_of command }
whole_item place distance command short = rw short (sym (item_is place record { delta = distance; command = command }))

-- a segment with its delta field
pub part_few : (place : Place) (distance : ℕ) (octets : List ℕ) → length octets ≤ 2046 → length (item_text place record { delta = distance; what = Part part.First octets }) ≤ 2052
unfolding item_text what_text
part_few First distance octets few = omega (arith, length-append octets (0xf0 ∷ []))
part_few (Later running) distance octets few =
    omega (arith, length-append (delta distance) (0xf0 ∷ (octets ++ 0xf0 ∷ [])), length-append octets (0xf0 ∷ []), (delta-length distance).1)
