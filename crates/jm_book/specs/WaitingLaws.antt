-- Segments are sent in turn, and wait of one command alone, where plays come in turn.
use Rattle.std.proofs.Common.{ℕ, ◌≡◌, ◌∙◌, refl, sym, true, false, List, [], ◌∷◌, ◌++◌, drop, append_assoc, inl, inr}
use Rattle.std.proofs.lemmas.Bool.{cases_Bool}
use Rattle.jm_cmds.specs.declared.commands.Command.{Command}
use Rattle.jm_cmds.specs.Command.{is_long}
use Rattle.jm_cmds.specs.HistoryLaws.{AllByRecursion-append}
use Rattle.jm_book.specs.Segments.{Segment, segments_in}
use Rattle.jm_book.specs.Stream.{Stream, Entry, Packet, played, cut_off, next_packet, tick_after, entries_left}
use Rattle.jm_book.specs.Waiting.{CanPlay, HoldsSegment, HoldInTurn, WaitAlone}

-- ---- in turn

-- all segments were sent where none waits, whatever becomes of the stream
pub hold_sent : (entry : Entry) (segments : List Segment) (packets : List Packet) (stream later : Stream) → stream.waiting ≡ [] → HoldInTurn entry segments packets stream → HoldInTurn entry segments packets later
hold_sent entry [] packets stream later none h = tt
hold_sent entry (segment ∷ others) [] stream later none h = let bad : segment ∷ others ≡ [] = sym h.0 ∙ none in absurd cc
hold_sent entry (segment ∷ others) (packet ∷ packets) stream later none h = (h.0, hold_sent entry others packets stream later none h.1)

-- the packet of a cut holds the first segment that waits
holds_next : (entry : Entry) (segment : Segment) (others : List Segment) (stream : Stream) (tick : ℕ) → stream.waiting ≡ segment ∷ others → stream.pending ≡ entry ∷ [] → HoldsSegment entry segment others (next_packet stream tick).packet
holds_next entry segment [] stream tick waits alone = record {
  part = rw waits refl;
  entries = rw (waits, alone) refl;
  tick = rw alone refl;
}
holds_next entry segment (next ∷ others) stream tick waits alone = record {
  part = rw waits refl;
  entries = rw waits refl;
  tick = rw alone refl;
}

-- and the others wait
waits_on : (entry : Entry) (segment : Segment) (others : List Segment) (stream : Stream) (tick : ℕ) → stream.waiting ≡ segment ∷ others → stream.pending ≡ entry ∷ [] → HoldInTurn entry others [] (cut_off stream tick)
waits_on entry segment [] stream tick waits alone = tt
waits_on entry segment (next ∷ others) stream tick waits alone = (rw waits refl, rw (waits, alone) refl)

pub hold_cut : (entry : Entry) (segments : List Segment) (packets : List Packet) (stream : Stream) (tick : ℕ) → HoldInTurn entry segments packets stream → HoldInTurn entry segments (packets ++ (next_packet stream tick).packet ∷ []) (cut_off stream tick)
hold_cut entry [] packets stream tick h = tt
hold_cut entry (segment ∷ others) [] stream tick h =
    (holds_next entry segment others stream tick h.0 h.1, waits_on entry segment others stream tick h.0 h.1)
hold_cut entry (segment ∷ others) (packet ∷ packets) stream tick h = (h.0, hold_cut entry others packets stream tick h.1)

-- ---- alone

alone_short : (pending : List Entry) (one : Entry) → is_long one.command ≡ false → WaitAlone [] pending → WaitAlone (segments_in one.command) (pending ++ one ∷ [])
alone_short pending one short h =
    rw short (AllByRecursion-append (λ (other : Entry). is_long other.command ≡ false) pending (one ∷ []) h (short, tt))

alone_long : (one : Entry) → is_long one.command ≡ true → WaitAlone (segments_in one.command) (one ∷ [])
alone_long one long = rw long record { entry = one; alone = refl; sent = []; parts = rw long refl }

alone_with : (waiting : List Segment) (pending : List Entry) (one : Entry) → waiting ≡ [] → (is_long one.command ≡ true → pending ≡ []) → WaitAlone waiting pending → WaitAlone (waiting ++ segments_in one.command) (pending ++ one ∷ [])
alone_with [] pending one none first h = elim (cases_Bool (is_long one.command)) [
  | inl long ↦ rw (first long) (alone_long one long)
  | inr short ↦ alone_short pending one short h
]
alone_with (segment ∷ others) pending one none first h = absurd cc

-- one more play that comes in turn
pub alone_play : (stream : Stream) (player : ℕ) (command : Command) (tick : ℕ) → CanPlay stream command → WaitAlone stream.waiting stream.pending → WaitAlone (played stream player command tick).waiting (played stream player command tick).pending
alone_play stream player command tick can h =
    let one : Entry = record { player = player; serial = stream.plays; tick = tick_after stream tick; command = command } in
    alone_with stream.waiting stream.pending one can.rests can.first h

alone_left : (waiting : List Segment) (pending : List Entry) → WaitAlone waiting pending → WaitAlone (drop 1 waiting) (entries_left waiting pending)
alone_left [] pending h = tt
alone_left (last ∷ []) pending h = tt
alone_left (segment ∷ next ∷ others) pending h = record {
  entry = h.entry;
  alone = h.alone;
  sent = h.sent ++ segment ∷ [];
  parts = h.parts ∙ sym (append_assoc h.sent (segment ∷ []) (next ∷ others));
}

-- a cut
pub alone_cut : (stream : Stream) (tick : ℕ) → WaitAlone stream.waiting stream.pending → WaitAlone (cut_off stream tick).waiting (cut_off stream tick).pending
alone_cut stream tick h = alone_left stream.waiting stream.pending h

-- just behind the play of a command that comes in turn, all its segments wait
pub hold_played : (stream : Stream) (player : ℕ) (command : Command) (tick : ℕ) → CanPlay stream command
    → HoldInTurn record { player = player; serial = stream.plays; tick = tick_after stream tick; command = command } (segments_in command) [] (played stream player command tick)
hold_played stream player command tick can = elim (cases_Bool (is_long command)) [
  | inl long ↦ rw (long, can.rests, can.first long) (refl, refl)
  | inr short ↦ rw short tt
]
