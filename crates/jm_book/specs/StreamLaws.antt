-- The packets of a stream stay, and what is pending is the plays since the last cut.
use Rattle.std.proofs.Common.{ℕ, ◌+◌, ◌-◌, ◌≤◌, ◌≡◌, ◌≢◌, refl, sym, ap, subst, inl, inr, ◌∙◌, Bool, true, false, List, [], ◌∷◌, ◌++◌, Some, None, length, length-append, take, fold, arith, append_assoc, append-nil}
use Rattle.std.specs.Prelude.{not, nat_lt, if◌then◌else◌}
use Rattle.std.specs.List.{slice_get}
use Rattle.std.proofs.lemmas.Bool.{cases_Bool}
use Rattle.std.proofs.lemmas.Bool.Decides.{nat_tests}
use Rattle.std.proofs.lemmas.List.{length-take}
use Rattle.std.proofs.lemmas.List.Sums.{fold-append}
use Rattle.jm_cmds.specs.declared.commands.Command.{Command}
use Rattle.jm_cmds.specs.Command.{spelling, is_long}
use Rattle.jm_cmds.specs.LongLaws.{whole_few}
use Rattle.jm_section.specs.declared.item.What.{What}
use Rattle.jm_section.specs.declared.item.What.TheVariants.{Whole}
use Rattle.jm_section.specs.declared.next.Place.TheVariants.{First}
use Rattle.jm_section.specs.Section.{command_text, what_text, item_text, items_text}
use Rattle.jm_journal.specs.declared.fits.Fit.{Fit}
use Rattle.jm_journal.specs.declared.fits.Fit.TheVariants as fit
use Rattle.jm_book.specs.declared.answers.Played.TheVariants as played
use Rattle.jm_book.specs.declared.answers.PlayFault.TheVariants as refusal
use Rattle.jm_book.specs.declared.steps.Step.{Step}
use Rattle.jm_book.specs.declared.steps.Step.TheVariants.{Enter, Play, Cut, Ack, Join, Leave, Hear, Feedback, Say}
use Rattle.jm_book.specs.Segments.{Segment, first_segment, message_of, part_of, text_of}
use Rattle.jm_book.specs.Stream.{Stream, Packet, Entry, stream_of, stream_after, no_stream, played as played_on, cut_off, tick_after, next_packet}
use Rattle.jm_book.specs.Plays.{is_play, greatest_tick, play_at, plays_after}
use Rattle.jm_book.specs.Session.{Session}
use Rattle.jm_book.specs.Answers.{is_known, what_of, is_behind_others, needs_cut, cut_refusal, fit_after, fit_refusal, or_else, list_with, delta_with, played_as}
use Rattle.jm_book.specs.StepLaws.{stream_push}
use Rattle.jm_book.specs.PlayLaws.{Counts, counts_after, counts_plays, greatest_tick_push}
use Rattle.jm_book.specs.StreamConduct.{is_cut, has_cut, cut_count, Begins, SendsPending, LeavesNothing, PendsSinceCut, KeepsPackets, CountsCuts, KeepsStream, PlaysAppend, NeedsNoCut}

-- ---- packets stay

same_packets : (stream : Stream) → Begins stream.packets stream.packets
same_packets stream = record { later = []; parts = sym (append-nil stream.packets) }

packets_after : (stream : Stream) (step : Step) → Begins stream.packets (stream_after stream step).packets
packets_after stream Enter = same_packets stream
packets_after stream (Play player command tick) = same_packets stream
packets_after stream (Cut tick) = record { later = (next_packet stream tick).packet ∷ []; parts = refl }
packets_after stream (Ack ssrc seq) = same_packets stream
packets_after stream (Join ssrc) = same_packets stream
packets_after stream (Leave ssrc) = same_packets stream
packets_after stream (Hear ssrc seq) = same_packets stream
packets_after stream Feedback = same_packets stream
packets_after stream (Say port from message now) = same_packets stream

begins_on : (a b c : List Packet) → Begins a b → Begins b c → Begins a c
begins_on a b c first second = record {
  later = first.later ++ second.later;
  parts = second.parts ∙ rw first.parts (append_assoc a first.later second.later);
}

packets_along : (stream : Stream) (more : List Step) → Begins stream.packets (fold stream_after stream more).packets
packets_along stream [] = same_packets stream
packets_along stream (step ∷ more) =
    begins_on stream.packets (stream_after stream step).packets (fold stream_after stream (step ∷ more)).packets (packets_after stream step) (packets_along (stream_after stream step) more)

stream_parts : (steps more : List Step) → stream_of (steps ++ more) ≡ fold stream_after (stream_of steps) more
stream_parts steps more = fold-append stream_after no_stream steps more

pub keeps_packets : KeepsPackets
keeps_packets steps more = rw (stream_parts steps more) (packets_along (stream_of steps) more)

-- ---- the packet of a cut

at_length : (front : List Packet) (packet : Packet) (rest : List Packet) → slice_get (front ++ packet ∷ rest) (length front) ≡ Some packet
at_length [] packet rest = refl
at_length (first ∷ front) packet rest = at_length front packet rest

pub sends_pending : SendsPending
sends_pending before tick later =
    let stream = stream_of before in
    let packet = (next_packet stream tick).packet in
    let apart : stream_of (before ++ Cut tick ∷ later) ≡ fold stream_after (cut_off stream tick) later = stream_parts before (Cut tick ∷ later) in
    let on = packets_along (cut_off stream tick) later in
    let last : greatest_tick (before ++ Cut tick ∷ []) ≡ tick_after stream tick =
    greatest_tick_push before (Cut tick) ∙ rw (counts_plays before).tick refl in
    let parts : (stream_of (before ++ Cut tick ∷ later)).packets ≡ stream.packets ++ packet ∷ on.later =
    ap (λ (s : Stream). s.packets) apart ∙ on.parts ∙ append_assoc stream.packets (packet ∷ []) on.later in
    rw (parts, last) (at_length stream.packets packet on.later)

pub leaves_nothing : LeavesNothing
leaves_nothing before tick =
    let cut : stream_of (before ++ Cut tick ∷ []) ≡ cut_off (stream_of before) tick = stream_push before (Cut tick) in
    record { pending = ap (λ (s : Stream). s.pending) cut; waiting = ap (λ (s : Stream). s.waiting) cut }

-- ---- what is pending

pending_after : (before : List Step) (step : Step) (stream : Stream) → Counts before stream → is_cut step ≡ false → (stream_after stream step).pending ≡ stream.pending ++ play_at before step
pending_after before Enter stream h none = sym (append-nil stream.pending)
pending_after before (Play player command tick) stream h none = rw (greatest_tick_push before (Play player command tick), ← h.tick, ← h.plays) refl
pending_after before (Cut tick) stream h none = absurd cc
pending_after before (Ack ssrc seq) stream h none = sym (append-nil stream.pending)
pending_after before (Join ssrc) stream h none = sym (append-nil stream.pending)
pending_after before (Leave ssrc) stream h none = sym (append-nil stream.pending)
pending_after before (Hear ssrc seq) stream h none = sym (append-nil stream.pending)
pending_after before Feedback stream h none = sym (append-nil stream.pending)
pending_after before (Say port from message now) stream h none = sym (append-nil stream.pending)

no_cut : (step : Step) (steps : List Step) → has_cut (step ∷ steps) ≡ false → (is_cut step ≡ false) × (has_cut steps ≡ false)
no_cut step steps h = elim (cases_Bool (is_cut step)) [
  | inl t ↦ let bad : true ≡ false = rw t at h in absurd cc
  | inr f ↦ (f, rw f at h)
]

pending_along : (before steps : List Step) (stream : Stream) → Counts before stream → has_cut steps ≡ false → (fold stream_after stream steps).pending ≡ stream.pending ++ plays_after before steps
pending_along before [] stream h none = sym (append-nil stream.pending)
pending_along before (step ∷ steps) stream h none =
    let apart = no_cut step steps none in
    pending_along (before ++ step ∷ []) steps (stream_after stream step) (counts_after before step stream h) apart.1
    ∙ rw (pending_after before step stream h apart.0) (append_assoc stream.pending (play_at before step) (plays_after (before ++ step ∷ []) steps))

pub pends_since_cut : PendsSinceCut
pends_since_cut steps none = (
  pending_along [] steps no_stream (record { plays = refl; tick = refl }) none,
  λ before tick.
      let counts : Counts (before ++ Cut tick ∷ []) (cut_off (stream_of before) tick) = counts_after before (Cut tick) (stream_of before) (counts_plays before) in
      let left = (leaves_nothing before tick).pending in
      ap (λ (s : Stream). s.pending) (stream_parts before (Cut tick ∷ steps))
      ∙ pending_along (before ++ Cut tick ∷ []) steps (cut_off (stream_of before) tick) counts none
      ∙ ap (λ (pending : List Entry). pending ++ plays_after (before ++ Cut tick ∷ []) steps) (sym left),
)

-- ---- how many packets

cut_count_after : (stream : Stream) (step : Step) (steps : List Step) → length (stream_after stream step).packets + cut_count steps ≡ length stream.packets + cut_count (step ∷ steps)
cut_count_after stream Enter steps = refl
cut_count_after stream (Play player command tick) steps = refl
cut_count_after stream (Cut tick) steps = omega (arith, length-append stream.packets ((next_packet stream tick).packet ∷ []))
cut_count_after stream (Ack ssrc seq) steps = refl
cut_count_after stream (Join ssrc) steps = refl
cut_count_after stream (Leave ssrc) steps = refl
cut_count_after stream (Hear ssrc seq) steps = refl
cut_count_after stream Feedback steps = refl
cut_count_after stream (Say port from message now) steps = refl

cuts_along : (stream : Stream) (steps : List Step) → length (fold stream_after stream steps).packets ≡ length stream.packets + cut_count steps
cuts_along stream [] = omega arith
cuts_along stream (step ∷ steps) = cuts_along (stream_after stream step) steps ∙ cut_count_after stream step steps

pub counts_cuts : CountsCuts
counts_cuts steps = cuts_along no_stream steps ∙ omega arith

-- ---- steps that leave the stream, and plays

same_stream : (stream : Stream) (step : Step) → is_play step ≡ false → is_cut step ≡ false → stream_after stream step ≡ stream
same_stream stream Enter play cut = refl
same_stream stream (Play player command tick) play cut = absurd cc
same_stream stream (Cut tick) play cut = absurd cc
same_stream stream (Ack ssrc seq) play cut = refl
same_stream stream (Join ssrc) play cut = refl
same_stream stream (Leave ssrc) play cut = refl
same_stream stream (Hear ssrc seq) play cut = refl
same_stream stream Feedback play cut = refl
same_stream stream (Say port from message now) play cut = refl

pub keeps_stream : KeepsStream
keeps_stream steps step play cut = stream_push steps step ∙ same_stream (stream_of steps) step play cut

pub plays_append : PlaysAppend
plays_append steps player command tick =
    let stream = stream_of steps in
    let pushed : stream_of (steps ++ Play player command tick ∷ []) ≡ played_on stream player command tick = stream_push steps (Play player command tick) in
    record {
      waiting = ap (λ (s : Stream). s.waiting) pushed;
      pending = ap (λ (s : Stream). s.pending) pushed ∙ pending_after steps (Play player command tick) stream (counts_plays steps) refl;
      packets = ap (λ (s : Stream). s.packets) pushed;
    }

-- ---- one command has room

-- with nothing pending, one more command is the whole MIDI list, or its first segment is
item_of_one : (command : Command) (delta : ℕ) → length (items_text First (record { delta = delta; what = what_of command } ∷ [])) ≤ 2048
unfolding item_text what_text command_text
item_of_one command delta =
    let list_size : What → ℕ = λ one. length (items_text First (record { delta = delta; what = one } ∷ [])) in
    elim (cases_Bool (is_long command)) [
      | inl long ↦
          let octets = message_of command in
          let first = take 2046 octets in
          let few : length first ≤ 2046 = grind (arith, length-take 2046 octets) in
          let text : length (text_of (first_segment octets)) ≡ length first + 2 = omega (arith, length-append first (0xf0 ∷ [])) in
          let whole : list_size (part_of (first_segment octets)) ≡ length (text_of (first_segment octets)) = ap length (append-nil (text_of (first_segment octets))) in
          let short : list_size (part_of (first_segment octets)) ≤ 2048 = omega (arith, whole, text, few) in
          let is : what_of command ≡ part_of (first_segment octets) = rw long refl in
          subst (λ (one : What). list_size one ≤ 2048) (sym is) short
      | inr whole ↦
          let size : list_size (Whole command) ≡ length (spelling command) = ap length (append-nil (spelling command)) in
          let short : list_size (Whole command) ≤ 2048 = omega (arith, size, whole_few command whole) in
          let is : what_of command ≡ Whole command = rw whole refl in
          subst (λ (one : What). list_size one ≤ 2048) (sym is) short
    ]

list_of_one : (stream : Stream) (command : Command) (tick : ℕ) → stream.pending ≡ [] → list_with stream command tick ≤ 2048
list_of_one stream command tick none = rw none (item_of_one command (tick_after stream tick - tick_after stream tick))

delta_of_one : (stream : Stream) (tick : ℕ) → stream.pending ≡ [] → delta_with stream tick ≡ 0
delta_of_one stream tick none = rw none (omega arith)

room_for_one : (behind : Bool) (pending octets delta : ℕ) → behind ≡ false → pending ≡ 0 → octets ≤ 2048 → delta ≡ 0 → needs_cut behind pending octets delta ≡ false
room_for_one behind pending octets delta alone empty few none =
    let short : nat_lt 4095 octets ≡ false = grind (arith, nat_tests, few) in
    rw (alone, empty, none, short) refl

behind_none : (command : Command) (pending : ℕ) → pending ≡ 0 → is_behind_others command pending ≡ false
behind_none command pending empty = elim (cases_Bool (is_long command)) [ inl long ↦ rw (empty, long) refl | inr short ↦ rw (empty, short) refl ]

uncut : (waiting : List Segment) (behind : Bool) (pending octets delta : ℕ) → waiting ≡ [] → needs_cut behind pending octets delta ≡ false → cut_refusal waiting behind pending octets delta ≡ None
uncut [] behind pending octets delta rests needed = rw needed refl
uncut (segment ∷ others) behind pending octets delta rests needed = absurd cc

needless : (session : Session) (command : Command) (tick : ℕ) → session.stream.pending ≡ [] → session.stream.waiting ≡ []
    → cut_refusal session.stream.waiting (is_behind_others command (length session.stream.pending)) (length session.stream.pending) (list_with session.stream command tick) (delta_with session.stream tick) ≡ None
needless session command tick none rests =
    let stream = session.stream in
    let empty : length stream.pending ≡ 0 = ap length none in
    let behind = is_behind_others command (length stream.pending) in
    let needed = room_for_one behind (length stream.pending) (list_with stream command tick) (delta_with stream tick) (behind_none command (length stream.pending) empty) empty (list_of_one stream command tick none) (delta_of_one stream tick none) in
    uncut stream.waiting behind (length stream.pending) (list_with stream command tick) (delta_with stream tick) rests needed

-- what a play is refused for, where no cut is needed
other_refusal : (known room : Bool) (events pending octets delta serial : ℕ) (answer : Fit) (command : Command)
    → played_as serial command (if not known then Some refusal.UnknownPlayer else if not room then Some (refusal.RecordFull events) else or_else (fit_refusal answer) None) ≢ played.Refused (refusal.NeedsCut pending octets delta) command
other_refusal false room events pending octets delta serial answer command = λ e. cc
other_refusal true false events pending octets delta serial answer command = λ e. cc
other_refusal true true events pending octets delta serial fit.Yes command = λ e. cc
other_refusal true true events pending octets delta serial (fit.ParamsFull channel kept) command = λ e. cc
other_refusal true true events pending octets delta serial (fit.PolyFull channel kept) command = λ e. cc
other_refusal true true events pending octets delta serial (fit.SysexFull logs sizes) command = λ e. cc

pub needs_no_cut : NeedsNoCut
needs_no_cut room events session player command tick none rests pending octets delta =
    rw (needless session command tick none rests) (other_refusal (is_known session.members player) room events pending octets delta session.stream.plays (fit_after session command) command)
