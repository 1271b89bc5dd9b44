-- One more step, and what the fields of a book then stand for.
use Rattle.std.proofs.Common.{ℕ, ◌≡◌, ◌+◌, ◌-◌, ◌<◌, ◌≤◌, refl, sym, ap, subst, ◌∙◌, Bool, true, false, List, [], ◌∷◌, ◌++◌, length, take, drop, fold, Some, None, Option, arith, length-append, append_assoc, append-nil, max, inl, inr}
use Rattle.std.specs.Prelude.{nat_le, ◌==◌, if◌then◌else◌}
use Rattle.std.proofs.lemmas.Bool.{cases_Bool}
use Rattle.std.proofs.lemmas.Bool.Decides.{nat_tests}
use Rattle.jm_cmds.specs.declared.commands.Command.{Command}
use Rattle.jm_cmds.specs.declared.history.Sent.{Sent}
use Rattle.jm_cmds.specs.History.{InOrder, below}
use Rattle.jm_cmds.specs.Sent.{packet_of as sent_packet}
use Rattle.jm_journal.specs.Limits.{KeepsLimits}
use Rattle.jm_cmds.specs.Command.{is_long}
use Rattle.jm_section.specs.declared.item.Item.{Item}
use Rattle.jm_section.specs.declared.next.Place.TheVariants.{First}
use Rattle.jm_section.specs.Section.{Timed, piece, list_text, item_text, items_of, items_text}
use Rattle.jm_section.specs.Pieces.{place_behind, place_behind-push}
use Rattle.jm_book.specs.declared.steps.Config.{Config}
use Rattle.jm_book.specs.declared.steps.Step.{Step}
use Rattle.jm_book.specs.declared.steps.Step.TheVariants.{Enter, Play, Cut, Ack, Join, Leave, Hear, Feedback, Say}
use Rattle.jm_book.specs.declared.answers.PlayFault.{PlayFault}
use Rattle.jm_book.specs.Tape.{Taped}
use Rattle.jm_book.specs.Segments.{Segment, segments_of, message_of, next_segment}
use Rattle.jm_book.specs.Waiting.{CanPlay}
use Rattle.jm_book.specs.Stream.{Stream, Entry, stream_of, stream_after, played, cut_off, as_sent, sent_of, pending_of, number_of_pending, next_of, listed, count_unsent, unsent, entries_left, tick_after, next_packet, packet_tick, length_as_sent}
use Rattle.jm_book.specs.Members.{members_after}
use Rattle.jm_book.specs.Participants.{checkpoint_at}
use Rattle.jm_book.specs.Session.{Session, session_of, after, nothing, checkpoint_of, session_stream}
use Rattle.jm_book.specs.Pending.{timed_of, last_tick}
use Rattle.std.proofs.Math.Seq.{take-append_seam}
use Rattle.jm_book.specs.Packet.{packet_text, list_of, packet_of, HasShortJournal, HasShortNext}
use Rattle.jm_book.specs.Answers.{what_of, delta_with, list_with, is_behind_others, cut_refusal, refusal_in, played_as, is_accepted}
use Rattle.jm_book.specs.declared.answers.Played.TheVariants as played_answers
use Rattle.jm_book.specs.declared.play.CorePlayed.TheVariants as core_played
use Rattle.jm_book.specs.BookAnswers.{has_room, play_refusal, play_answer}
use Rattle.jm_book.specs.Core.{CoreTold, StandsFor, StandsForStream, next_tick, next_delta, next_octets, next_list, list_or, count_held, held_number, left_pending, list_with_one, place_with_one, with_command, with_packet, core_refusal, core_played_as}
use Rattle.jm_book.specs.Kept.{IsKept}
use Rattle.jm_book.specs.Legal.{IsTaken}
use Rattle.jm_book.specs.LegalLaws.{legal_push}
use Rattle.jm_book.specs.LimitLaws.{legal_limits, sent_below}
use Rattle.jm_book.specs.OrderLaws.{sent_in_order, all_in_order}
use Rattle.jm_book.specs.TakenLaws.{taken_fits, taken_in, can_play}
use Rattle.jm_book.specs.StepLaws.{session_push, stream_push, waiting_short, pending_push, pending_played, all_cut}
use Rattle.jm_book.proofs.Listing.{last_tick_push, last_tick_any, list_text_push, items_text_push, timed_of_push}

-- a step of members: the stream stays
pub kept_members : (core core' : CoreTold) (tape tape' : Taped) (step : Step)
    → IsKept core tape
    → IsTaken core.config tape.steps step
    → ((stream : Stream) → stream_after stream step ≡ stream)
    → core' ≡ record core { members = members_after core.packets core.members step }
    → tape'.steps ≡ tape.steps ++ step ∷ []
    → tape'.commands ≡ tape.commands
    → IsKept core' tape'
kept_members core core' tape tape' step kept taken quiet is stepped same =
    let s = session_of core.config tape.steps in
    let room = taken_fits core.config tape.steps step taken in
    let longer : length tape'.steps ≡ length tape.steps + 1 = rw stepped (length-append tape.steps (step ∷ [])) in
    let few_packets = kept.few_packets in
    let few_plays = kept.few_plays in
    let stream = kept.stands.stream in
    rw is record {
      stands = rw (stepped, session_push core.config tape.steps step) record {
        members = rw (kept.stands.members, stream.packets) refl;
        stream = rw (quiet s.stream) record {
          packets = stream.packets;
          plays = stream.plays;
          pending = stream.pending;
          tick = stream.tick;
          first = stream.first;
          list = stream.list;
          waiting = stream.waiting;
          place = stream.place;
          last = stream.last;
        };
      };
      commands = rw (stepped, same, stream_push tape.steps step, quiet (stream_of tape.steps)) kept.commands;
      legal = rw stepped (legal_push core.config tape.steps step kept.legal taken);
      few_steps = omega arith;
      few_packets = omega arith;
      few_plays = omega arith;
      bounds = kept.bounds;
    }

-- ---- what is lent to the core

-- all commands that were played
pub record Lent (core : CoreTold) (commands : List Sent) : Type 0 where
  pub order : InOrder sent_packet commands
  pub limits : KeepsLimits (checkpoint_at core.packets core.members.joined) commands

checkpoint_is : (core : CoreTold) (s : Session) → StandsFor core s → checkpoint_at core.packets core.members.joined ≡ checkpoint_of s
checkpoint_is core s h = rw (h.stream.packets, h.members) refl

pub lent_all : (core : CoreTold) (tape : Taped) → IsKept core tape → Lent core tape.commands
lent_all core tape kept =
    let s = session_of core.config tape.steps in
    let same = session_stream core.config tape.steps in
    let limits = (legal_limits core.config tape.steps kept.legal).all in
    rw kept.commands record {
      order = all_in_order (stream_of tape.steps);
      limits = rw (checkpoint_is core s kept.stands) (subst (λ (x : Stream). KeepsLimits (checkpoint_of s) (sent_of x ++ pending_of x)) same limits);
    }

-- those of the packets that were sent
pub record LentSent (core : CoreTold) (sent : List Sent) : Type 0 where
  pub order : InOrder sent_packet sent
  pub limits : KeepsLimits (checkpoint_at core.packets core.members.joined) (below sent_packet core.packets sent)

pub lent_sent : (core : CoreTold) (tape : Taped) → IsKept core tape → LentSent core (sent_of (stream_of tape.steps))
lent_sent core tape kept =
    let s = session_of core.config tape.steps in
    let same = session_stream core.config tape.steps in
    let limits = (legal_limits core.config tape.steps kept.legal).sent in
    let here = subst (λ (x : Stream). KeepsLimits (checkpoint_of s) (sent_of x)) same limits in
    let packets : core.packets ≡ length (stream_of tape.steps).packets = kept.stands.stream.packets ∙ ap (λ (x : Stream). length x.packets) same in
    record {
      order = sent_in_order tape.steps;
      limits = rw (checkpoint_is core s kept.stands) (rw packets (rw (sent_below (stream_of tape.steps)) here));
    }

pub pending_within : (core : CoreTold) (tape : Taped) → IsKept core tape → core.pending ≤ length tape.commands
pending_within core tape kept =
    let s = stream_of tape.steps in
    let pending : core.pending ≡ length s.pending = kept.stands.stream.pending ∙ ap (λ (x : Stream). length x.pending) (session_stream core.config tape.steps) in
    let all : length tape.commands ≡ length (sent_of s) + length (pending_of s) = rw kept.commands (length-append (sent_of s) (pending_of s)) in
    omega (arith, length_as_sent (number_of_pending s) s.pending)

-- the commands before the pending ones
pub sent_first : (core : CoreTold) (tape : Taped) → IsKept core tape → take (length tape.commands - core.pending) tape.commands ≡ sent_of (stream_of tape.steps)
sent_first core tape kept =
    let s = stream_of tape.steps in
    let pending : core.pending ≡ length s.pending = kept.stands.stream.pending ∙ ap (λ (x : Stream). length x.pending) (session_stream core.config tape.steps) in
    let all = length-append (sent_of s) (pending_of s) in
    let place : length (sent_of s ++ pending_of s) - core.pending ≡ length (sent_of s) = omega (arith, length_as_sent (number_of_pending s) s.pending) in
    rw (kept.commands, place) (take-append_seam (sent_of s) (pending_of s))

-- ---- what is pending

listed_none : (waiting : List Segment) (sent : List Sent) → waiting ≡ [] → listed waiting sent ≡ sent
listed_none [] sent none = refl
listed_none (segment ∷ others) sent none = absurd cc

-- where no segment waits the list has all that is pending
record IsListed (core : CoreTold) (stream : Stream) : Type 0 where
  list : core.list ≡ list_text (timed_of (pending_of stream))
  place : core.place ≡ place_behind First (timed_of (pending_of stream))
  last : last_tick stream.tick (pending_of stream) ≡ stream.tick

is_listed : (core : CoreTold) (stream : Stream) → stream.waiting ≡ [] → StandsForStream core stream → IsListed core stream
is_listed core stream none h =
    let all = listed_none stream.waiting (pending_of stream) none in
    record {
      list = h.list ∙ ap (λ (sent : List Sent). list_text (timed_of sent)) all;
      place = h.place ∙ ap (λ (sent : List Sent). place_behind First (timed_of sent)) all;
      last = sym (ap (λ (sent : List Sent). last_tick stream.tick sent) all) ∙ h.last;
    }

delta_by : (core : CoreTold) (stream : Stream) (tick : ℕ) (pending : List Entry) → stream.waiting ≡ [] → stream.pending ≡ pending → StandsForStream core stream → next_delta core tick ≡ delta_with stream tick
delta_by core stream tick [] rests is h =
    let none : core.pending ≡ 0 = rw is at h.pending in
    rw (is, none) (omega arith)
delta_by core stream tick (one ∷ others) rests is h =
    let some : core.pending ≡ length (one ∷ others) = rw is at h.pending in
    let not_none : (core.pending == 0) ≡ false = grind (arith, nat_tests, some) in
    let latest = tick_after stream tick in
    let many : 0 < length (pending_of stream) = rw is (omega arith) in
    let last : last_tick latest (pending_of stream) ≡ stream.tick = last_tick_any latest stream.tick (pending_of stream) many ∙ (is_listed core stream rests h).last in
    rw (not_none, last, h.tick) refl

pub delta_is : (core : CoreTold) (stream : Stream) (tick : ℕ) → stream.waiting ≡ [] → StandsForStream core stream → next_delta core tick ≡ delta_with stream tick
delta_is core stream tick rests h = delta_by core stream tick stream.pending rests refl h

-- the MIDI list with one more command
pub list_is : (core : CoreTold) (stream : Stream) (command : Command) (tick : ℕ) → stream.waiting ≡ [] → StandsForStream core stream
    → list_text (timed_of (pending_of stream ++ record { packet = length stream.packets; tick = tick_after stream tick; command = command } ∷ []))
    ≡ core.list ++ piece core.place record { delta = next_delta core tick; command = command }
list_is core stream command tick rests h =
    let one : Sent = record { packet = length stream.packets; tick = tick_after stream tick; command = command } in
    let there = is_listed core stream rests h in
    list_text_push (pending_of stream) one
    ∙ rw (there.list, there.place, delta_is core stream tick rests h) refl

pub octets_is : (core : CoreTold) (stream : Stream) (command : Command) (tick : ℕ) → stream.waiting ≡ [] → StandsForStream core stream → next_octets core command tick ≡ list_with stream command tick
octets_is core stream command tick rests h =
    let item : Item = record { delta = delta_with stream tick; what = what_of command } in
    let timed = timed_of (pending_of stream) in
    let there = is_listed core stream rests h in
    let text : length (items_text First (items_of timed ++ item ∷ [])) ≡ length (list_text timed) + length (item_text (place_behind First timed) item) =
    ap length (items_text_push First timed item) ∙ length-append (list_text timed) (item_text (place_behind First timed) item) in
    rw (there.list, there.place, delta_is core stream tick rests h) (sym text)

cut_by : (core : CoreTold) (stream : Stream) (command : Command) (tick : ℕ) (waiting : List Segment) → stream.waiting ≡ waiting → StandsForStream core stream
    → cut_refusal waiting (is_behind_others command core.pending) core.pending (next_octets core command tick) (next_delta core tick)
    ≡ cut_refusal waiting (is_behind_others command (length stream.pending)) (length stream.pending) (list_with stream command tick) (delta_with stream tick)
cut_by core stream command tick [] rests h = rw (octets_is core stream command tick rests h, delta_is core stream tick rests h, h.pending) refl
cut_by core stream command tick (segment ∷ others) is h = refl

-- ---- what is still to be sent

count_by : (waiting : List Segment) (pending : List Entry) → (if length waiting == 0 then length pending else length waiting + (length pending - 1)) ≡ count_unsent waiting pending
count_by [] pending = refl
count_by (segment ∷ others) pending =
    let some : (length (segment ∷ others) == 0) ≡ false = grind (arith, nat_tests) in
    rw some refl

pub unsent_is : (core : CoreTold) (stream : Stream) → StandsForStream core stream → count_held core ≡ unsent stream
unsent_is core stream h = rw (h.waiting, h.pending) (count_by stream.waiting stream.pending)

-- ---- a refusal

-- a play is refused by the core as by the session
pub refusal_is : (core : CoreTold) (s : Session) (room : Bool) (player : ℕ) (command : Command) (tick : ℕ) → StandsFor core s
    → core_refusal room core (sent_of s.stream ++ pending_of s.stream) player command tick ≡ refusal_in room core.config.events s player command tick
refusal_is core s room player command tick h =
    let cut : cut_refusal core.waiting (is_behind_others command core.pending) core.pending (next_octets core command tick) (next_delta core tick)
    ≡ cut_refusal s.stream.waiting (is_behind_others command (length s.stream.pending)) (length s.stream.pending) (list_with s.stream command tick) (delta_with s.stream tick) =
    ap (λ (waiting : List Segment). cut_refusal waiting (is_behind_others command core.pending) core.pending (next_octets core command tick) (next_delta core tick)) h.stream.waiting
    ∙ cut_by core s.stream command tick s.stream.waiting refl h.stream in
    rw (cut, h.stream.packets, h.members) refl

pub tape_refusal : (core : CoreTold) (tape : Taped) (player : ℕ) (command : Command) (tick : ℕ) → IsKept core tape
    → core_refusal (has_room core.config tape.steps) core tape.commands player command tick ≡ play_refusal core.config tape.steps player command tick
tape_refusal core tape player command tick kept =
    let s = session_of core.config tape.steps in
    let same = session_stream core.config tape.steps in
    let all : tape.commands ≡ sent_of s.stream ++ pending_of s.stream = kept.commands ∙ ap (λ (x : Stream). sent_of x ++ pending_of x) (sym same) in
    ap (λ (commands : List Sent). core_refusal (has_room core.config tape.steps) core commands player command tick) all
    ∙ refusal_is core s (has_room core.config tape.steps) player command tick kept.stands

-- ---- one more command

first_by : (core : CoreTold) (stream : Stream) (tick given : ℕ) (entry : Entry) (pending : List Entry) → entry.tick ≡ tick_after stream tick → stream.pending ≡ pending → StandsForStream core stream → packet_tick (pending ++ entry ∷ []) given ≡ next_tick core tick
first_by core stream tick given entry [] same is h =
    let none : core.pending ≡ 0 = rw is at h.pending in
    rw (none, h.tick) same
first_by core stream tick given entry (one ∷ others) same is h =
    let some : core.pending ≡ length (one ∷ others) = rw is at h.pending in
    let not_none : (core.pending == 0) ≡ false = grind (arith, nat_tests, some) in
    let first = rw (is, not_none) at (h.first given) in
    rw not_none first

stream_short : (core : CoreTold) (stream : Stream) (player : ℕ) (command : Command) (tick : ℕ) → is_long command ≡ false → stream.waiting ≡ [] → StandsForStream core stream → StandsForStream (with_command core command tick) (played stream player command tick)
stream_short core stream player command tick short rests h =
    let entry : Entry = record { player = player; serial = stream.plays; tick = tick_after stream tick; command = command } in
    let one : Sent = record { packet = length stream.packets; tick = tick_after stream tick; command = command } in
    let timed : Timed = record { delta = one.tick - last_tick one.tick (pending_of stream); command = command } in
    let there = is_listed core stream rests h in
    let more : length (stream.pending ++ entry ∷ []) ≡ length stream.pending + 1 = length-append stream.pending (entry ∷ []) in
    let not_none : (core.pending + 1 == 0) ≡ false = grind (arith, nat_tests) in
    let all : listed (played stream player command tick).waiting (pending_of (played stream player command tick)) ≡ pending_of stream ++ one ∷ [] =
    listed_none (played stream player command tick).waiting (pending_of (played stream player command tick)) (waiting_short stream player command tick rests short) ∙ pending_push stream player command tick rests short in
    let list : list_with_one core command (next_delta core tick) ≡ list_text (timed_of (pending_of stream ++ one ∷ [])) =
    rw short (sym (list_is core stream command tick rests h)) in
    let place : place_with_one core command ≡ place_behind First (timed_of (pending_of stream ++ one ∷ [])) =
    rw (short, timed_of_push (pending_of stream) one, place_behind-push First (timed_of (pending_of stream)) timed, there.place) refl in
    record {
      packets = h.packets;
      plays = rw h.plays refl;
      pending = omega (arith, h.pending);
      tick = rw h.tick refl;
      first = λ given. rw not_none (first_by core stream tick given entry stream.pending refl refl h);
      waiting = rw (short, h.waiting) (sym (append-nil stream.waiting));
      list = list ∙ ap (λ (sent : List Sent). list_text (timed_of sent)) (sym all);
      place = place ∙ ap (λ (sent : List Sent). place_behind First (timed_of sent)) (sym all);
      last = ap (λ (sent : List Sent). last_tick (tick_after stream tick) sent) all ∙ last_tick_push (tick_after stream tick) (pending_of stream) one;
    }

stream_long : (core : CoreTold) (stream : Stream) (player : ℕ) (command : Command) (tick : ℕ) → is_long command ≡ true → stream.waiting ≡ [] → stream.pending ≡ [] → StandsForStream core stream → StandsForStream (with_command core command tick) (played stream player command tick)
stream_long core stream player command tick long rests empty h =
    let entry : Entry = record { player = player; serial = stream.plays; tick = tick_after stream tick; command = command } in
    let there = is_listed core stream rests h in
    let more : length (stream.pending ++ entry ∷ []) ≡ length stream.pending + 1 = length-append stream.pending (entry ∷ []) in
    let not_none : (core.pending + 1 == 0) ≡ false = grind (arith, nat_tests) in
    let waits : (played stream player command tick).waiting ≡ segments_of (message_of command) = rw (rests, long) refl in
    let none : listed (played stream player command tick).waiting (pending_of (played stream player command tick)) ≡ [] =
    ap (λ (waiting : List Segment). listed waiting (pending_of (played stream player command tick))) waits in
    let nothing : pending_of stream ≡ [] = rw empty refl in
    let list : list_with_one core command (next_delta core tick) ≡ [] = rw long (there.list ∙ ap (λ (sent : List Sent). list_text (timed_of sent)) nothing) in
    let place : place_with_one core command ≡ First = rw long (there.place ∙ ap (λ (sent : List Sent). place_behind First (timed_of sent)) nothing) in
    record {
      packets = h.packets;
      plays = rw h.plays refl;
      pending = omega (arith, h.pending);
      tick = rw h.tick refl;
      first = λ given. rw not_none (first_by core stream tick given entry stream.pending refl refl h);
      waiting = rw (long, rests) refl;
      list = list ∙ ap (λ (sent : List Sent). list_text (timed_of sent)) (sym none);
      place = place ∙ ap (λ (sent : List Sent). place_behind First (timed_of sent)) (sym none);
      last = ap (λ (sent : List Sent). last_tick (tick_after stream tick) sent) none;
    }

stream_with : (core : CoreTold) (stream : Stream) (player : ℕ) (command : Command) (tick : ℕ) → CanPlay stream command → StandsForStream core stream → StandsForStream (with_command core command tick) (played stream player command tick)
stream_with core stream player command tick can h = elim (cases_Bool (is_long command)) [
  | inl long ↦ stream_long core stream player command tick long can.rests (can.first long) h
  | inr short ↦ stream_short core stream player command tick short can.rests h
]

-- a command became pending
pub kept_play : (core core' : CoreTold) (tape tape' : Taped) (player : ℕ) (command : Command) (tick : ℕ)
    → IsKept core tape
    → IsTaken core.config tape.steps (Play player command tick)
    → core' ≡ with_command core command tick
    → tape'.steps ≡ tape.steps ++ Play player command tick ∷ []
    → tape'.commands ≡ tape.commands ++ record { packet = held_number (with_command core command tick); tick = max core.tick tick; command = command } ∷ []
    → IsKept core' tape'
kept_play core core' tape tape' player command tick kept taken is stepped more =
    let s = session_of core.config tape.steps in
    let stream = stream_of tape.steps in
    let same = session_stream core.config tape.steps in
    let there : StandsForStream core stream = subst (λ (x : Stream). StandsForStream core x) same kept.stands.stream in
    let can = can_play core.config.events s player command tick (taken_in core.config tape.steps (Play player command tick) taken) in
    let here : CanPlay stream command = subst (λ (x : Stream). CanPlay x command) same can in
    let now = stream_with core stream player command tick here there in
    let one : Sent = record { packet = number_of_pending (played stream player command tick); tick = tick_after stream tick; command = command } in
    let one_is : record { packet = held_number (with_command core command tick); tick = max core.tick tick; command = command } ≡ one = rw (now.packets, now.waiting, there.tick) refl in
    let pushed = pending_played stream player command tick here.rests here.first in
    let room = taken_fits core.config tape.steps (Play player command tick) taken in
    let longer : length tape'.steps ≡ length tape.steps + 1 = rw stepped (length-append tape.steps (Play player command tick ∷ [])) in
    let few_packets = kept.few_packets in
    let few_plays = kept.few_plays in
    rw is record {
      stands = rw (stepped, session_push core.config tape.steps (Play player command tick)) record {
        members = kept.stands.members;
        stream = stream_with core s.stream player command tick can kept.stands.stream;
      };
      commands = rw (stepped, more, stream_push tape.steps (Play player command tick), pushed, one_is, kept.commands) (append_assoc (sent_of stream) (pending_of stream) (one ∷ []));
      legal = rw stepped (legal_push core.config tape.steps (Play player command tick) kept.legal taken);
      few_steps = omega arith;
      few_packets = omega arith;
      few_plays = omega arith;
      bounds = kept.bounds;
    }

-- ---- one more packet

pub next_tick_is : (core : CoreTold) (stream : Stream) (tick : ℕ) → StandsForStream core stream → next_tick core tick ≡ (next_packet stream tick).packet.tick
next_tick_is core stream tick h = rw (h.first (tick_after stream tick), h.tick) refl

-- how many stay pending
left_is : (waiting : List Segment) (pending : List Entry) → (if nat_le (length waiting) 1 then 0 else length pending) ≡ length (entries_left waiting pending)
left_is [] pending = refl
left_is (last ∷ []) pending = refl
left_is (segment ∷ next ∷ others) pending =
    let many : nat_le (length (segment ∷ next ∷ others)) 1 ≡ false = grind (arith, nat_tests) in
    rw many refl

-- the tick of the first of them
first_left : (first given : ℕ) (waiting : List Segment) (pending : List Entry) → packet_tick pending given ≡ (if length pending == 0 then given else first)
    → packet_tick (entries_left waiting pending) given ≡ (if length (entries_left waiting pending) == 0 then given else first)
first_left first given [] pending h = refl
first_left first given (last ∷ []) pending h = refl
first_left first given (segment ∷ next ∷ others) pending h = h

-- none of them is in a list
listed_left : (waiting : List Segment) (number : ℕ) (pending : List Entry) → listed (drop 1 waiting) (as_sent number (entries_left waiting pending)) ≡ []
listed_left [] number pending = refl
listed_left (last ∷ []) number pending = refl
listed_left (segment ∷ next ∷ others) number pending = refl

stream_cut : (core : CoreTold) (stream : Stream) (tick : ℕ) → StandsForStream core stream → StandsForStream (with_packet core tick) (cut_off stream tick)
stream_cut core stream tick h =
    let more : length (cut_off stream tick).packets ≡ length stream.packets + 1 = length-append stream.packets ((next_packet stream tick).packet ∷ []) in
    let left : left_pending core ≡ length (entries_left stream.waiting stream.pending) = rw (h.waiting, h.pending) (left_is stream.waiting stream.pending) in
    let none : listed (cut_off stream tick).waiting (pending_of (cut_off stream tick)) ≡ [] = listed_left stream.waiting (number_of_pending (cut_off stream tick)) stream.pending in
    record {
      packets = omega (arith, h.packets, more);
      plays = h.plays;
      pending = left;
      tick = rw h.tick refl;
      first = λ given. rw left (first_left core.first given stream.waiting stream.pending (rw h.pending at (h.first given)));
      waiting = ap (λ (waiting : List Segment). drop 1 waiting) h.waiting;
      list = ap (λ (sent : List Sent). list_text (timed_of sent)) (sym none);
      place = ap (λ (sent : List Sent). place_behind First (timed_of sent)) (sym none);
      last = ap (λ (sent : List Sent). last_tick (tick_after stream tick) sent) none;
    }

-- what was pending became a packet
pub kept_cut : (core core' : CoreTold) (tape tape' : Taped) (tick : ℕ)
    → IsKept core tape
    → IsTaken core.config tape.steps (Cut tick)
    → core' ≡ with_packet core tick
    → tape'.steps ≡ tape.steps ++ Cut tick ∷ []
    → tape'.commands ≡ tape.commands
    → IsKept core' tape'
kept_cut core core' tape tape' tick kept taken is stepped same =
    let s = session_of core.config tape.steps in
    let stream = stream_of tape.steps in
    let h = kept.stands.stream in
    let room = taken_fits core.config tape.steps (Cut tick) taken in
    let longer : length tape'.steps ≡ length tape.steps + 1 = rw stepped (length-append tape.steps (Cut tick ∷ [])) in
    let few_packets = kept.few_packets in
    let few_plays = kept.few_plays in
    rw is record {
      stands = rw (stepped, session_push core.config tape.steps (Cut tick)) record {
        members = kept.stands.members;
        stream = stream_cut core s.stream tick h;
      };
      commands = rw (stepped, same, stream_push tape.steps (Cut tick), all_cut stream tick) kept.commands;
      legal = rw stepped (legal_push core.config tape.steps (Cut tick) kept.legal taken);
      few_steps = omega arith;
      few_packets = omega arith;
      few_plays = omega arith;
      bounds = kept.bounds;
    }

-- ---- the host's SSRC

host_after : (session : Session) (step : Step) → (after session step).members.host.ssrc ≡ session.members.host.ssrc
host_after session Enter = refl
host_after session (Play player command tick) = refl
host_after session (Cut tick) = refl
host_after session (Ack ssrc seq) = refl
host_after session (Join ssrc) = refl
host_after session (Leave ssrc) = refl
host_after session (Hear ssrc seq) = refl
host_after session Feedback = refl
host_after session (Say port from message now) = refl

host_along : (session : Session) (steps : List Step) → (fold after session steps).members.host.ssrc ≡ session.members.host.ssrc
host_along session [] = refl
host_along session (step ∷ steps) = host_along (after session step) steps ∙ host_after session step

pub host_ssrc : (config : Config) (steps : List Step) → (session_of config steps).members.host.ssrc ≡ config.ssrc
host_ssrc config steps = host_along (nothing config) steps

list_by : (core : CoreTold) (stream : Stream) (tick : ℕ) (waiting : List Segment) → stream.waiting ≡ waiting → StandsForStream core stream → list_or (next_segment waiting) core.list ≡ list_of (next_segment waiting) (next_of stream tick)
list_by core stream tick [] rests h =
    let same : length stream.packets + (0 - 1) ≡ length stream.packets = omega arith in
    let next : pending_of stream ≡ next_of stream tick = rw (rests, same) refl in
    (is_listed core stream rests h).list ∙ ap (λ (sent : List Sent). list_text (timed_of sent)) next
list_by core stream tick (segment ∷ others) is h = refl

next_list_is : (core : CoreTold) (stream : Stream) (tick : ℕ) → StandsForStream core stream → next_list core ≡ list_of (next_packet stream tick).packet.part (next_of stream tick)
next_list_is core stream tick h =
    ap (λ (waiting : List Segment). list_or (next_segment waiting) core.list) h.waiting ∙ list_by core stream tick stream.waiting refl h

packet_in : (core : CoreTold) (s : Session) (tick : ℕ) → StandsFor core s
    → packet_text s.members.host.ssrc (checkpoint_at core.packets core.members.joined) core.packets (next_tick core tick) (next_list core) (sent_of s.stream) ≡ packet_of s tick
packet_in core s tick h = rw (checkpoint_is core s h, next_tick_is core s.stream tick h.stream, next_list_is core s.stream tick h.stream, h.stream.packets) refl

-- the packet that the core writes is that of the session
pub packet_is : (core : CoreTold) (tape : Taped) (tick : ℕ) → IsKept core tape
    → packet_text core.config.ssrc (checkpoint_at core.packets core.members.joined) core.packets (next_tick core tick) (next_list core) (sent_of (stream_of tape.steps)) ≡ packet_of (session_of core.config tape.steps) tick
packet_is core tape tick kept =
    let s = session_of core.config tape.steps in
    let h = kept.stands.stream in
    let checkpoint = checkpoint_at core.packets core.members.joined in
    ap (λ (ssrc : ℕ). packet_text ssrc checkpoint core.packets (next_tick core tick) (next_list core) (sent_of (stream_of tape.steps))) (sym (host_ssrc core.config tape.steps))
    ∙ ap (λ (x : Stream). packet_text s.members.host.ssrc checkpoint core.packets (next_tick core tick) (next_list core) (sent_of x)) (sym (session_stream core.config tape.steps))
    ∙ packet_in core s tick kept.stands

pub short_is : (core : CoreTold) (tape : Taped) (tick : ℕ) → IsKept core tape
    → HasShortJournal (checkpoint_at core.packets core.members.joined) core.packets (next_tick core tick) (sent_of (stream_of tape.steps)) → HasShortNext (session_of core.config tape.steps) tick
short_is core tape tick kept short =
    let s = session_of core.config tape.steps in
    let h = kept.stands.stream in
    let here = subst (λ (x : Stream). HasShortJournal (checkpoint_at core.packets core.members.joined) core.packets (next_tick core tick) (sent_of x)) (sym (session_stream core.config tape.steps)) short in
    rw (checkpoint_is core s kept.stands, next_tick_is core s.stream tick h, h.packets) at here

-- ---- what the core answers to a play, as the book says it

accepted_by : (serial number : ℕ) (kept : Bool) (command : Command) (refusal : Option PlayFault) → core_played.Accepted serial kept ≡ core_played_as number command refusal → (is_accepted (played_as number command refusal) ≡ true) × (played_answers.Accepted serial kept ≡ played_as number command refusal)
accepted_by serial number kept command None h = (refl, cc)
accepted_by serial number kept command (Some why) h = absurd cc

refused_by : (number : ℕ) (why : PlayFault) (command : Command) (refusal : Option PlayFault) → core_played.Refused why ≡ core_played_as number command refusal → played_answers.Refused why command ≡ played_as number command refusal
refused_by number why command None h = absurd cc
refused_by number why command (Some other) h = cc

pub accepted_play : (core : CoreTold) (tape : Taped) (player : ℕ) (command : Command) (tick serial : ℕ) (is_kept : Bool) → IsKept core tape
    → core_played.Accepted serial is_kept ≡ core_played_as core.plays command (core_refusal (has_room core.config tape.steps) core tape.commands player command tick)
    → IsTaken core.config tape.steps (Play player command tick) × (played_answers.Accepted serial is_kept ≡ play_answer core.config tape.steps player command tick)
accepted_play core tape player command tick serial is_kept kept h =
    let here = rw (tape_refusal core tape player command tick kept, kept.stands.stream.plays) at h in
    accepted_by serial (session_of core.config tape.steps).stream.plays is_kept command (play_refusal core.config tape.steps player command tick) here

pub refused_play : (core : CoreTold) (tape : Taped) (player : ℕ) (command : Command) (tick : ℕ) (why : PlayFault) → IsKept core tape
    → core_played.Refused why ≡ core_played_as core.plays command (core_refusal (has_room core.config tape.steps) core tape.commands player command tick)
    → played_answers.Refused why command ≡ play_answer core.config tape.steps player command tick
refused_play core tape player command tick why kept h =
    let here = rw (tape_refusal core tape player command tick kept, kept.stands.stream.plays) at h in
    refused_by (session_of core.config tape.steps).stream.plays why command (play_refusal core.config tape.steps player command tick) here
