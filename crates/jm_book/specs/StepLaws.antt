-- One more step: what becomes of the session, and of its sent and pending commands.
use Rattle.std.proofs.Common.{ℕ, ◌≡◌, ◌≤◌, ◌+◌, ◌-◌, ◌∙◌, refl, ap, sym, true, false, List, [], ◌∷◌, ◌++◌, length, length-append, arith, append_assoc, append-nil, inl, inr}
use Rattle.std.proofs.lemmas.Bool.{cases_Bool}
use Rattle.std.proofs.lemmas.List.Sums.{fold-append}
use Rattle.jm_cmds.specs.declared.commands.Command.{Command}
use Rattle.jm_cmds.specs.Command.{is_long}
use Rattle.jm_cmds.specs.declared.history.Sent.{Sent}
use Rattle.jm_book.specs.declared.steps.Step.{Step}
use Rattle.jm_book.specs.declared.steps.Config.{Config}
use Rattle.jm_book.specs.Segments.{Segment}
use Rattle.jm_book.specs.Stream.{Stream, Entry, Packet, stream_of, stream_after, no_stream, played, cut_off, as_sent, sent_from, sent_of, pending_of, next_of, number_of_pending, tick_after, next_packet, entries_sent, entries_left, length_as_sent}
use Rattle.jm_book.specs.Session.{session_of, after, nothing}

pub session_push : (config : Config) (steps : List Step) (step : Step) → session_of config (steps ++ step ∷ []) ≡ after (session_of config steps) step
session_push config steps step = fold-append after (nothing config) steps (step ∷ [])

pub stream_push : (steps : List Step) (step : Step) → stream_of (steps ++ step ∷ []) ≡ stream_after (stream_of steps) step
stream_push steps step = fold-append stream_after no_stream steps (step ∷ [])

pub as_sent_push : (packet : ℕ) (entries : List Entry) (one : Entry) → as_sent packet (entries ++ one ∷ []) ≡ as_sent packet entries ++ record { packet = packet; tick = one.tick; command = one.command } ∷ []
as_sent_push packet [] one = refl
as_sent_push packet (first ∷ others) one = ap (λ (xs : List Sent). record { packet = packet; tick = first.tick; command = first.command } ∷ xs) (as_sent_push packet others one)

pub sent_from_push : (number : ℕ) (packets : List Packet) (one : Packet) → sent_from number (packets ++ one ∷ []) ≡ sent_from number packets ++ as_sent (number + length packets) one.entries
sent_from_push number [] one = rw (append-nil (as_sent number one.entries)) (let same : number + 0 ≡ number = omega arith in rw same refl)
sent_from_push number (first ∷ others) one =
    let same : number + 1 + length others ≡ number + length (first ∷ others) = omega arith in
    rw (sent_from_push (number + 1) others one, same) (sym (append_assoc (as_sent number first.entries) (sent_from (number + 1) others) (as_sent (number + length (first ∷ others)) one.entries)))

-- ---- the number of the packet is no part of what it sends

pub length_sent_any : (packet other : ℕ) (entries : List Entry) → length (as_sent packet entries) ≡ length (as_sent other entries)
length_sent_any packet other entries = rw (length_as_sent packet entries, length_as_sent other entries) refl

-- ---- one more play

-- in a stream where nothing waits a play of a command that isn't long leaves nothing waiting
pub waiting_short : (s : Stream) (player : ℕ) (command : Command) (tick : ℕ) → s.waiting ≡ [] → is_long command ≡ false → (played s player command tick).waiting ≡ []
waiting_short s player command tick none short = rw (none, short) refl

-- the pending commands after one more play that leaves nothing waiting
pub pending_push : (s : Stream) (player : ℕ) (command : Command) (tick : ℕ) → s.waiting ≡ [] → is_long command ≡ false
    → pending_of (played s player command tick) ≡ pending_of s ++ record { packet = length s.packets; tick = tick_after s tick; command = command } ∷ []
pending_push s player command tick none short =
    let same : length s.packets + (0 - 1) ≡ length s.packets = omega arith in
    rw (none, short, same) (as_sent_push (length s.packets) s.pending record { player = player; serial = s.plays; tick = tick_after s tick; command = command })

-- A play of one that comes in turn: just its command is behind what was pending, and those before it keep their number.
pub pending_played : (s : Stream) (player : ℕ) (command : Command) (tick : ℕ) → s.waiting ≡ [] → (is_long command ≡ true → s.pending ≡ [])
    → pending_of (played s player command tick) ≡ pending_of s ++ record { packet = number_of_pending (played s player command tick); tick = tick_after s tick; command = command } ∷ []
pending_played s player command tick none first = elim (cases_Bool (is_long command)) [
  | inl long ↦ rw (first long) refl
  | inr short ↦
      let same : number_of_pending (played s player command tick) ≡ length s.packets = rw (none, short) (omega arith) in
      pending_push s player command tick none short
      ∙ ap (λ (packet : ℕ). pending_of s ++ record { packet = packet; tick = tick_after s tick; command = command } ∷ []) (sym same)
]

-- ---- a cut

-- the sent commands after a cut
pub sent_cut : (s : Stream) (tick : ℕ) → sent_of (cut_off s tick) ≡ sent_of s ++ next_of s tick
sent_cut s tick =
    let same : 0 + length s.packets ≡ length s.packets = omega arith in
    rw same at (sent_from_push 0 s.packets (next_packet s tick).packet)

-- all that is pending is sent, unless more than one segment waits
pub next_all : (s : Stream) (tick : ℕ) (waiting : List Segment) → s.waiting ≡ waiting → length waiting ≤ 1 → next_of s tick ≡ pending_of s
next_all s tick [] is few =
    let same : length s.packets + (0 - 1) ≡ length s.packets = omega arith in
    rw (is, same) refl
next_all s tick (last ∷ []) is few =
    let same : length s.packets + (1 - 1) ≡ length s.packets = omega arith in
    rw (is, same) refl
next_all s tick (segment ∷ next ∷ others) is few = absurd (omega arith)

pub next_none : (s : Stream) (tick : ℕ) (segment next : Segment) (others : List Segment) → s.waiting ≡ segment ∷ next ∷ others → next_of s tick ≡ []
next_none s tick segment next others is = rw is refl

-- what is sent and what stays pending is what was pending, with the same number
next_with_left : (s : Stream) (tick : ℕ) (waiting : List Segment) → s.waiting ≡ waiting → next_of s tick ++ pending_of (cut_off s tick) ≡ pending_of s
next_with_left s tick [] is =
    let same : length s.packets + (0 - 1) ≡ length s.packets = omega arith in
    rw (is, same) (append-nil (as_sent (length s.packets) s.pending))
next_with_left s tick (last ∷ []) is =
    let same : length s.packets + (1 - 1) ≡ length s.packets = omega arith in
    rw (is, same) (append-nil (as_sent (length s.packets) s.pending))
next_with_left s tick (segment ∷ next ∷ others) is =
    let more : length (s.packets ++ (next_packet s tick).packet ∷ []) ≡ length s.packets + 1 = length-append s.packets ((next_packet s tick).packet ∷ []) in
    let same : length s.packets + 1 + (length (next ∷ others) - 1) ≡ length s.packets + (length (segment ∷ next ∷ others) - 1) = omega arith in
    rw (more, is, same) refl

pub all_cut : (s : Stream) (tick : ℕ) → sent_of (cut_off s tick) ++ pending_of (cut_off s tick) ≡ sent_of s ++ pending_of s
all_cut s tick =
    rw (sent_cut s tick) (append_assoc (sent_of s) (next_of s tick) (pending_of (cut_off s tick))
    ∙ ap (λ (xs : List Sent). sent_of s ++ xs) (next_with_left s tick s.waiting refl))

-- the same of entries
pub entries_cut : (waiting : List Segment) (pending : List Entry) → entries_sent waiting pending ++ entries_left waiting pending ≡ pending
entries_cut [] pending = append-nil pending
entries_cut (last ∷ []) pending = append-nil pending
entries_cut (segment ∷ next ∷ others) pending = refl
