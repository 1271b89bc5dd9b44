-- What is heard of a packet: the commands of its section, and those that repair hands on.
use Rattle.std.specs.Prelude.{ℕ, ◌+◌, ◌%◌, ◌^◌, Bool, true, false, List, [], ◌∷◌, ◌++◌, length, Option, Some, None, option_map, fold, nat_lt, if◌then◌else◌}
use Rattle.std.specs.List.{cons_option}
use Rattle.jm_cmds.specs.declared.commands.Command.{Command}
use Rattle.jm_cmds.specs.declared.commands.Command.TheVariants.{Sysex}
use Rattle.jm_section.specs.declared.item.Item.{Item}
use Rattle.jm_section.specs.declared.item.PartKind.TheVariants as part
use Rattle.jm_section.specs.declared.item.What.{What}
use Rattle.jm_section.specs.declared.item.What.TheVariants.{Whole, Part, Passed}
use Rattle.jm_state.specs.Apply.{applied}
use Rattle.jm_receiver.specs.declared.heard.HeardKind.{HeardKind}
use Rattle.jm_receiver.specs.declared.heard.HeardKind.TheVariants.{Sent}
use Rattle.jm_receiver.specs.declared.heard.Hearing.{Hearing}

-- a command is heard, and applied to the state
abbrev pub heard_also : Hearing → Command → HeardKind → Hearing
heard_also h command kind = record h {
  state = applied h.state command;
  heard = h.heard ++ record { command = command; tick = h.tick; kind = kind } ∷ [];
}

-- ## Messages in segments

-- An unfinished message is the data octets of the segments of a System Exclusive message that have come so far, where its last one hasn't
-- (RFC 6295, section 3.2, Figure 5).

abbrev pub is_message : Command → Bool
is_message (Sysex octets) = true
is_message command = false

-- together they have more data octets than a message
abbrev pub are_too_many : (begun octets : List ℕ) → Bool
are_too_many begun octets = nat_lt 65536 (length begun + length octets)

-- The data octets of an unfinished message with those of its next segment. Where none is unfinished, or they are too many, there is none.
abbrev pub joined_to : (unfinished : Option (List ℕ)) → List ℕ → Option (List ℕ)
joined_to None octets = None
joined_to (Some begun) octets = if are_too_many begun octets then None else Some (begun ++ octets)

-- What is unfinished behind an entry of the section. A first segment begins a message. An unfinished one is dropped at a first segment, at
-- one that calls the message off, at a whole message, and where it has too many octets.
abbrev pub left_unfinished : (unfinished : Option (List ℕ)) → What → Option (List ℕ)
left_unfinished unfinished (Whole command) = if is_message command then None else unfinished
left_unfinished unfinished (Part part.First octets) = Some octets
left_unfinished unfinished (Part part.Middle octets) = joined_to unfinished octets
left_unfinished unfinished (Part part.Last octets) = None
left_unfinished unfinished (Part part.Cancel octets) = None
left_unfinished unfinished (Passed octet) = unfinished

-- The command that an entry says: a whole one, or the message that a last segment finishes.
abbrev pub command_said : (unfinished : Option (List ℕ)) → What → Option Command
command_said unfinished (Whole command) = Some command
command_said unfinished (Part part.First octets) = None
command_said unfinished (Part part.Middle octets) = None
command_said unfinished (Part part.Last octets) = option_map Sysex (joined_to unfinished octets)
command_said unfinished (Part part.Cancel octets) = None
command_said unfinished (Passed octet) = None

-- the commands that these entries say, in order
abbrev pub commands_said : (unfinished : Option (List ℕ)) → List Item → List Command
commands_said unfinished [] = []
commands_said unfinished (item ∷ items) = cons_option (command_said unfinished item.what) (commands_said (left_unfinished unfinished item.what) items)

-- ## The section

abbrev pub heard_if : Hearing → Option Command → Hearing
heard_if h None = h
heard_if h (Some command) = heard_also h command Sent

-- The command that an entry says is heard. Other segments, and what is passed over, are skipped.
abbrev pub what_heard : Hearing → What → Hearing
what_heard h what = record (heard_if h (command_said h.unfinished what)) { unfinished = left_unfinished h.unfinished what }

-- An entry of the section, whose delta counts whatever it is.
abbrev pub sent_also : Hearing → Item → Hearing
sent_also h item = what_heard (record h { tick = (h.tick + item.delta) % 2 ^ 32 }) item.what

-- the entries of a section, in order
unfoldable pub sent_all : Hearing → List Item → Hearing
sent_all h items = fold sent_also h items
