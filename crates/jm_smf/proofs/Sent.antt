-- The list of a stream's commands, one step more.
use Rattle.std.proofs.Common.{◌≡◌, ℕ, ◌+◌, ◌-◌, ◌<◌, ◌≤◌, max, true, List, [], ◌∷◌, ◌++◌, take, get_or, length, refl, sym, ap, ◌∙◌, append_assoc, length-append, length-drop, arith}
use Rattle.std.specs.Int.{div_ceil}
use Rattle.std.proofs.lemmas.Grind.{common_steps, flat_map-append}
use Rattle.std.proofs.lemmas.List.{append-nil}
use Rattle.std.proofs.lemmas.List.Sums.{fold_more}
use Rattle.jm_cmds.specs.declared.commands.Command.{Command}
use Rattle.jm_cmds.specs.declared.commands.Command.TheVariants.{Sysex}
use Rattle.jm_cmds.specs.Data.{is_long_message}
use Rattle.jm_book.specs.declared.steps.Step.{Step}
use Rattle.jm_book.specs.Segments.{Segment, segments_in}
use Rattle.jm_book.specs.SegmentLaws.{length_segments}
use Rattle.jm_book.specs.Stream.{Stream, Entry, no_stream, played, cut_off, entries_sent, entries_left, stream_after, stream_of}
use Rattle.jm_smf.specs.declared.timed.Timed.{Timed}
use Rattle.jm_smf.specs.Cuts.{entries_list, sent_list}

-- a long message has a segment for each 2,046 data octets or less
pub long_segments : (octets : List ℕ) → is_long_message octets ≡ true → div_ceil (length octets) 2046 ≡ length (segments_in (Sysex octets))
long_segments octets long = let count = length_segments octets long in rw long (omega arith)

-- the commands of all plays, of which so many were sent, how many segments wait, and the latest tick
pub record KeptList (stream : Stream) (list : List Timed) (sent waiting latest : ℕ) : Type 0 where
  pub all : sent_list stream ++ entries_list stream.pending ≡ list
  pub sent_is : length (sent_list stream) ≡ sent
  pub waiting_is : length stream.waiting ≡ waiting
  pub latest_is : stream.tick ≡ latest

pub kept_play : (stream : Stream) (list : List Timed) (sent waiting latest player tick : ℕ) (command : Command) (count : ℕ) → count ≡ length (segments_in command)
    → KeptList stream list sent waiting latest → KeptList (played stream player command tick) (list ++ record { tick = max latest tick; command = command } ∷ []) sent (waiting + count) (max latest tick)
kept_play stream list sent waiting latest player tick command count e k = record {
  all = rw (sym k.latest_is, sym k.all) (grind (arith, common_steps, append_assoc));
  sent_is = k.sent_is;
  waiting_is = omega (arith, length-append stream.waiting (segments_in command), k.waiting_is, e);
  latest_is = ap (λ (n : ℕ). max n tick) k.latest_is;
}

-- ---- a cut

-- where at most one segment waits, all that is pending is sent
all_sent : (waiting : List Segment) (pending : List Entry) → length waiting ≤ 1 → entries_sent waiting pending ≡ pending
all_sent [] pending few = refl
all_sent (last ∷ []) pending few = refl
all_sent (segment ∷ next ∷ others) pending few = absurd (omega arith)

none_left : (waiting : List Segment) (pending : List Entry) → length waiting ≤ 1 → entries_left waiting pending ≡ []
none_left [] pending few = refl
none_left (last ∷ []) pending few = refl
none_left (segment ∷ next ∷ others) pending few = absurd (omega arith)

-- where more wait, it stays pending
none_sent : (waiting : List Segment) (pending : List Entry) → 1 < length waiting → entries_sent waiting pending ≡ []
none_sent [] pending many = absurd (omega arith)
none_sent (last ∷ []) pending many = absurd (omega arith)
none_sent (segment ∷ next ∷ others) pending many = refl

all_left : (waiting : List Segment) (pending : List Entry) → 1 < length waiting → entries_left waiting pending ≡ pending
all_left [] pending many = absurd (omega arith)
all_left (last ∷ []) pending many = absurd (omega arith)
all_left (segment ∷ next ∷ others) pending many = refl

-- the sent commands after a cut
list_cut : (stream : Stream) (tick : ℕ) → sent_list (cut_off stream tick) ≡ sent_list stream ++ entries_list (entries_sent stream.waiting stream.pending)
list_cut stream tick =
    flat_map-append _ stream.packets _
    ∙ ap (λ (list : List Timed). sent_list stream ++ list) (append-nil (entries_list (entries_sent stream.waiting stream.pending)))

-- a cut of commands, or of the last segment of one
pub kept_cut : (stream : Stream) (list : List Timed) (sent waiting latest tick : ℕ) → waiting ≤ 1 → KeptList stream list sent waiting latest
    → KeptList (cut_off stream tick) list (length list) 0 (max latest tick)
kept_cut stream list sent waiting latest tick few k =
    let last : length stream.waiting ≤ 1 = omega (arith, k.waiting_is) in
    let all : sent_list (cut_off stream tick) ≡ list = list_cut stream tick ∙ rw (all_sent stream.waiting stream.pending last) k.all in
    record {
      all = rw (none_left stream.waiting stream.pending last) (append-nil (sent_list (cut_off stream tick)) ∙ all);
      sent_is = ap length all;
      waiting_is = let less = length-drop 1 stream.waiting in omega arith;
      latest_is = ap (λ (n : ℕ). max n tick) k.latest_is;
    }

-- a cut of a segment behind which others wait
pub kept_part : (stream : Stream) (list : List Timed) (sent waiting latest tick : ℕ) → 1 < waiting → KeptList stream list sent waiting latest
    → KeptList (cut_off stream tick) list sent (waiting - 1) (max latest tick)
kept_part stream list sent waiting latest tick more k =
    let many : 1 < length stream.waiting = omega (arith, k.waiting_is) in
    let same : sent_list (cut_off stream tick) ≡ sent_list stream = list_cut stream tick ∙ rw (none_sent stream.waiting stream.pending many) (append-nil (sent_list stream)) in
    record {
      all = rw (same, all_left stream.waiting stream.pending many) k.all;
      sent_is = ap length same ∙ k.sent_is;
      waiting_is = let less = length-drop 1 stream.waiting in omega (arith, k.waiting_is);
      latest_is = ap (λ (n : ℕ). max n tick) k.latest_is;
    }

-- one step more of a tape
pub one_more : (steps : List Step) (i : ℕ) (step : Step) → i < length steps → step ≡ get_or steps i step → stream_of (take (i + 1) steps) ≡ stream_after (stream_of (take i steps)) step
one_more steps i step lt e = fold_more stream_after no_stream steps i step lt ∙ ap (stream_after (stream_of (take i steps))) (sym e)
