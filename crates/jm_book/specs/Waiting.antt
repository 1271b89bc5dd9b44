-- What stands of a long command in packets, and what waits of it.
use Rattle.std.specs.Prelude.{◌≡◌, ◌++◌, true, false, List, [], ◌∷◌, Some}
use Rattle.std.specs.List.{AllByRecursion}
use Rattle.jm_cmds.specs.declared.commands.Command.{Command}
use Rattle.jm_cmds.specs.Command.{is_long}
use Rattle.jm_book.specs.Segments.{Segment, segments_in}
use Rattle.jm_book.specs.Stream.{Stream, Entry, Packet}

-- a play of this command may come: no segment waits, and a long command has nothing pending before it
pub record CanPlay (stream : Stream) (command : Command) : Type 0 where
  pub rests : stream.waiting ≡ []
  pub first : is_long command ≡ true → stream.pending ≡ []

-- the command goes with its last segment
abbrev pub sent_with : Entry → (others : List Segment) → List Entry
sent_with entry [] = entry ∷ []
sent_with entry (next ∷ others) = []

-- A packet that holds this segment of a command, before those others: it has the command's tick. (Not: a command that is sent
-- with its first segment.)
pub record HoldsSegment (entry : Entry) (segment : Segment) (others : List Segment) (packet : Packet) : Type 0 where
  pub part : packet.part ≡ Some segment
  pub entries : packet.entries ≡ sent_with entry others
  pub tick : packet.tick ≡ entry.tick

-- Packets, one after another, hold these segments of a command in order. Where there are fewer packets, the other segments wait,
-- and just this command is pending. (Not: another packet among them, or a segment that comes twice.)
abbrev pub HoldInTurn : Entry → List Segment → List Packet → Stream → Type 0
HoldInTurn entry [] packets stream = Unit {0}
HoldInTurn entry (segment ∷ others) [] stream = (stream.waiting ≡ segment ∷ others) × (stream.pending ≡ entry ∷ [])
HoldInTurn entry (segment ∷ others) (packet ∷ packets) stream = HoldsSegment entry segment others packet × HoldInTurn entry others packets stream

-- segments wait of the one command that is pending: they are its last ones
pub record WaitOfOne (waiting : List Segment) (pending : List Entry) : Type 0 where
  pub entry : Entry
  pub alone : pending ≡ entry ∷ []
  pub sent : List Segment
  pub parts : segments_in entry.command ≡ sent ++ waiting

-- Where no segment waits, no command that is pending is long; else they wait of just that command. (Not: commands that are taken
-- behind a long one.)
abbrev pub WaitAlone : (waiting : List Segment) (pending : List Entry) → Type 0
WaitAlone [] pending = AllByRecursion (λ (one : Entry). is_long one.command ≡ false) pending
WaitAlone (segment ∷ others) pending = WaitOfOne (segment ∷ others) pending
