-- Each play stands in one packet or is pending, in order.
use Rattle.std.proofs.Common.{ℕ, suc, ◌+◌, ◌≡◌, refl, ap, sym, ◌∙◌, true, false, List, [], ◌∷◌, ◌++◌, map, fold, arith, append_assoc, append-nil, add_comm, add-one}
use Rattle.std.specs.List.{flat_map, filter, range_with_len}
use Rattle.std.specs.Prelude.{max, ◌==◌, if◌then◌else◌}
use Rattle.std.proofs.Math.Nat.{max-zero, max_comm}
use Rattle.std.proofs.lemmas.Grind.{flat_map-append}
use Rattle.std.proofs.lemmas.List.{map-append}
use Rattle.std.proofs.lemmas.List.Sums.{sum_by-append, sum_by_push}
use Rattle.jm_cmds.specs.declared.commands.Command.{Command}
use Rattle.jm_book.specs.declared.steps.Step.{Step}
use Rattle.jm_book.specs.declared.steps.Step.TheVariants.{Enter, Play, Cut, Ack, Join, Leave, Hear, Feedback, Say}
use Rattle.jm_book.specs.Stream.{Stream, Entry, Packet, stream_of, stream_after, no_stream, next_packet, tick_after, as_sent, sent_from, sent_of, pending_of, number_of_pending, entries_left}
use Rattle.jm_book.specs.StepLaws.{entries_cut}
use Rattle.jm_book.specs.Plays.{is_play, play_count, given_tick, greatest_tick, play_at, plays_after, plays_of, played_by, entries_of, sent_pair, entry_pair}

max_assoc : (a b c : ℕ) → max a (max b c) ≡ max (max a b) c
max_assoc a b c = omega arith

pub greatest_tick_push : (steps : List Step) (step : Step) → greatest_tick (steps ++ step ∷ []) ≡ max (greatest_tick steps) (given_tick step)
greatest_tick_push [] step = max_comm (given_tick step) 0
greatest_tick_push (first ∷ steps) step =
    rw (greatest_tick_push steps step) (max_assoc (given_tick first) (greatest_tick steps) (given_tick step))

-- a session counts the plays of these steps, and has their greatest tick
pub record Counts (before : List Step) (s : Stream) : Type 0 where
  pub plays : s.plays ≡ play_count before
  pub tick : s.tick ≡ greatest_tick before

counts_quiet : (before : List Step) (step : Step) (s : Stream) → is_play step ≡ false → given_tick step ≡ 0 → Counts before s → Counts (before ++ step ∷ []) s
counts_quiet before step s silent early h = record {
  plays = h.plays ∙ sym (sum_by_push (λ (x : Step). if is_play x then 1 else 0) before step ∙ rw silent (omega arith));
  tick = h.tick ∙ sym (greatest_tick_push before step ∙ rw early (max-zero (greatest_tick before)));
}

pub counts_after : (before : List Step) (step : Step) (s : Stream) → Counts before s → Counts (before ++ step ∷ []) (stream_after s step)
counts_after before Enter s h = counts_quiet before Enter s refl refl h
counts_after before (Play player command tick) s h = record {
  plays = rw h.plays (sym (sum_by_push (λ (x : Step). if is_play x then 1 else 0) before (Play player command tick)));
  tick = rw h.tick (sym (greatest_tick_push before (Play player command tick)));
}
counts_after before (Cut tick) s h = record {
  plays = h.plays ∙ sym (sum_by_push (λ (x : Step). if is_play x then 1 else 0) before (Cut tick) ∙ omega arith);
  tick = rw h.tick (sym (greatest_tick_push before (Cut tick)));
}
counts_after before (Ack ssrc seq) s h = counts_quiet before (Ack ssrc seq) s refl refl h
counts_after before (Join ssrc) s h = counts_quiet before (Join ssrc) s refl refl h
counts_after before (Leave ssrc) s h = counts_quiet before (Leave ssrc) s refl refl h
counts_after before (Hear ssrc seq) s h = counts_quiet before (Hear ssrc seq) s refl refl h
counts_after before Feedback s h = counts_quiet before Feedback s refl refl h
counts_after before (Say port from message now) s h = counts_quiet before (Say port from message now) s refl refl h

-- one more step brings its play and takes none away
pub entries_after : (before : List Step) (step : Step) (s : Stream) → Counts before s → entries_of (stream_after s step) ≡ entries_of s ++ play_at before step
entries_after before Enter s h = sym (append-nil (entries_of s))
entries_after before (Play player command tick) s h =
    rw (greatest_tick_push before (Play player command tick), ← h.tick, ← h.plays)
    (sym (append_assoc (flat_map (λ (packet : Packet). packet.entries) s.packets) s.pending (record { player = player; serial = s.plays; tick = tick_after s tick; command = command } ∷ [])))
entries_after before (Cut tick) s h =
    let cut : Packet = (next_packet s tick).packet in
    let sent : List Entry = flat_map (λ (packet : Packet). packet.entries) s.packets in
    let left : List Entry = entries_left s.waiting s.pending in
    let pushed : flat_map (λ (packet : Packet). packet.entries) (s.packets ++ cut ∷ []) ≡ sent ++ cut.entries =
    flat_map-append (λ (packet : Packet). packet.entries) s.packets (cut ∷ []) ∙ ap (λ (entries : List Entry). sent ++ entries) (append-nil cut.entries) in
    ap (λ (entries : List Entry). entries ++ left) pushed
    ∙ append_assoc sent cut.entries left
    ∙ ap (λ (entries : List Entry). sent ++ entries) (entries_cut s.waiting s.pending)
    ∙ sym (append-nil (entries_of s))
entries_after before (Ack ssrc seq) s h = sym (append-nil (entries_of s))
entries_after before (Join ssrc) s h = sym (append-nil (entries_of s))
entries_after before (Leave ssrc) s h = sym (append-nil (entries_of s))
entries_after before (Hear ssrc seq) s h = sym (append-nil (entries_of s))
entries_after before Feedback s h = sym (append-nil (entries_of s))
entries_after before (Say port from message now) s h = sym (append-nil (entries_of s))

entries_along : (before steps : List Step) (s : Stream) → Counts before s → entries_of (fold stream_after s steps) ≡ entries_of s ++ plays_after before steps
entries_along before [] s h = sym (append-nil (entries_of s))
entries_along before (step ∷ steps) s h =
    entries_along (before ++ step ∷ []) steps (stream_after s step) (counts_after before step s h)
    ∙ rw (entries_after before step s h) (append_assoc (entries_of s) (play_at before step) (plays_after (before ++ step ∷ []) steps))

-- the entries are the plays
pub entries_are_plays : (steps : List Step) → entries_of (stream_of steps) ≡ plays_of steps
entries_are_plays steps = entries_along [] steps no_stream (record { plays = refl; tick = refl })

counts_along : (before steps : List Step) (s : Stream) → Counts before s → Counts (before ++ steps) (fold stream_after s steps)
counts_along before [] s h = rw (append-nil before) h
counts_along before (step ∷ steps) s h =
    rw (append_assoc before (step ∷ []) steps) at (counts_along (before ++ step ∷ []) steps (stream_after s step) (counts_after before step s h))

pub counts_plays : (steps : List Step) → Counts steps (stream_of steps)
counts_plays steps = counts_along [] steps no_stream (record { plays = refl; tick = refl })

-- serials count up from 0
serials_along : (before steps : List Step) (first : ℕ) → first ≡ play_count before → map (λ (one : Entry). one.serial) (plays_after before steps) ≡ range_with_len first (play_count steps)
serials_along before [] first h = refl
serials_along before (Play player command tick ∷ steps) first h =
    let later = serials_along (before ++ Play player command tick ∷ []) steps (first + 1) (rw h (sym (sum_by_push (λ (x : Step). if is_play x then 1 else 0) before (Play player command tick)))) in
    let more : play_count (Play player command tick ∷ steps) ≡ suc (play_count steps) =
    sum_by-append (λ (x : Step). if is_play x then 1 else 0) (Play player command tick ∷ []) steps ∙ add_comm 1 (play_count steps) ∙ add-one (play_count steps) in
    ap (λ (serials : List ℕ). play_count before ∷ serials) later ∙ rw (more, h) refl
serials_along before (Enter ∷ steps) first h = serials_along (before ++ Enter ∷ []) steps first (rw h (sym (sum_by_push (λ (x : Step). if is_play x then 1 else 0) before Enter ∙ omega arith)))
serials_along before (Cut tick ∷ steps) first h = serials_along (before ++ Cut tick ∷ []) steps first (rw h (sym (sum_by_push (λ (x : Step). if is_play x then 1 else 0) before (Cut tick) ∙ omega arith)))
serials_along before (Ack ssrc seq ∷ steps) first h = serials_along (before ++ Ack ssrc seq ∷ []) steps first (rw h (sym (sum_by_push (λ (x : Step). if is_play x then 1 else 0) before (Ack ssrc seq) ∙ omega arith)))
serials_along before (Join ssrc ∷ steps) first h = serials_along (before ++ Join ssrc ∷ []) steps first (rw h (sym (sum_by_push (λ (x : Step). if is_play x then 1 else 0) before (Join ssrc) ∙ omega arith)))
serials_along before (Leave ssrc ∷ steps) first h = serials_along (before ++ Leave ssrc ∷ []) steps first (rw h (sym (sum_by_push (λ (x : Step). if is_play x then 1 else 0) before (Leave ssrc) ∙ omega arith)))
serials_along before (Hear ssrc seq ∷ steps) first h = serials_along (before ++ Hear ssrc seq ∷ []) steps first (rw h (sym (sum_by_push (λ (x : Step). if is_play x then 1 else 0) before (Hear ssrc seq) ∙ omega arith)))
serials_along before (Feedback ∷ steps) first h = serials_along (before ++ Feedback ∷ []) steps first (rw h (sym (sum_by_push (λ (x : Step). if is_play x then 1 else 0) before Feedback ∙ omega arith)))
serials_along before (Say port from message now ∷ steps) first h = serials_along (before ++ Say port from message now ∷ []) steps first (rw h (sym (sum_by_push (λ (x : Step). if is_play x then 1 else 0) before (Say port from message now) ∙ omega arith)))

pub serials_count_up : (steps : List Step) → map (λ (one : Entry). one.serial) (entries_of (stream_of steps)) ≡ range_with_len 0 (play_count steps)
serials_count_up steps = rw (entries_are_plays steps) (serials_along [] steps 0 refl)

-- a player's plays are its commands
played_along : (player : ℕ) (before steps : List Step) → map (λ (one : Entry). one.command) (filter (λ one. one.player == player) (plays_after before steps)) ≡ played_by player steps
played_along player before [] = refl
played_along player before (Play other command tick ∷ steps) =
    let later = played_along player (before ++ Play other command tick ∷ []) steps in
    elim (other == player) as (λ b. map (λ (one : Entry). one.command) (if b then record { player = other; serial = play_count before; tick = greatest_tick (before ++ Play other command tick ∷ []); command = command } ∷ filter (λ one. one.player == player) (plays_after (before ++ Play other command tick ∷ []) steps) else filter (λ one. one.player == player) (plays_after (before ++ Play other command tick ∷ []) steps)) ≡ (if b then command ∷ played_by player steps else played_by player steps)) [
      | true ↦ ap (λ (commands : List Command). command ∷ commands) later
      | false ↦ later
    ]
played_along player before (Enter ∷ steps) = played_along player (before ++ Enter ∷ []) steps
played_along player before (Cut tick ∷ steps) = played_along player (before ++ Cut tick ∷ []) steps
played_along player before (Ack ssrc seq ∷ steps) = played_along player (before ++ Ack ssrc seq ∷ []) steps
played_along player before (Join ssrc ∷ steps) = played_along player (before ++ Join ssrc ∷ []) steps
played_along player before (Leave ssrc ∷ steps) = played_along player (before ++ Leave ssrc ∷ []) steps
played_along player before (Hear ssrc seq ∷ steps) = played_along player (before ++ Hear ssrc seq ∷ []) steps
played_along player before (Feedback ∷ steps) = played_along player (before ++ Feedback ∷ []) steps
played_along player before (Say port from message now ∷ steps) = played_along player (before ++ Say port from message now ∷ []) steps

pub players_in_order : (player : ℕ) (steps : List Step) → map (λ (one : Entry). one.command) (filter (λ one. one.player == player) (entries_of (stream_of steps))) ≡ played_by player steps
players_in_order player steps = rw (entries_are_plays steps) (played_along player [] steps)

-- the plain list has the ticks and commands of the entries
as_sent_is : (number : ℕ) (entries : List Entry) → map sent_pair (as_sent number entries) ≡ map entry_pair entries
as_sent_is number [] = refl
as_sent_is number (one ∷ others) = ap (λ (rest : List (ℕ × Command)). (one.tick, one.command) ∷ rest) (as_sent_is number others)

sent_from_is : (number : ℕ) (packets : List Packet) → map sent_pair (sent_from number packets) ≡ map entry_pair (flat_map (λ (packet : Packet). packet.entries) packets)
sent_from_is number [] = refl
sent_from_is number (one ∷ others) =
    rw (map-append sent_pair (as_sent number one.entries) (sent_from (number + 1) others), map-append entry_pair one.entries (flat_map (λ (packet : Packet). packet.entries) others), as_sent_is number one.entries, sent_from_is (number + 1) others) refl

pub sent_are_entries : (s : Stream) → map sent_pair (sent_of s ++ pending_of s) ≡ map entry_pair (entries_of s)
sent_are_entries s =
    rw (map-append sent_pair (sent_of s) (pending_of s), map-append entry_pair (flat_map (λ (packet : Packet). packet.entries) s.packets) s.pending, as_sent_is (number_of_pending s) s.pending, sent_from_is 0 s.packets) refl
