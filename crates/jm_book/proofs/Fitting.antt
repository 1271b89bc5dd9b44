-- After legal steps each packet, and what is pending, is what one packet may have.
use Rattle.std.proofs.Common.{ℕ, zero, suc, ◌-◌, ◌^◌, ◌<◌, ◌≤◌, ◌≡◌, refl, sym, ap, subst, ◌∙◌, Bool, true, false, List, [], ◌∷◌, ◌++◌, length, length-append, length-drop, drop, arith, inl, inr}
use Rattle.std.specs.Prelude.{◌||◌, ◌&&◌, nat_lt, nat_le}
use Rattle.std.specs.List.{AllByRecursion}
use Rattle.std.proofs.lemmas.Bool.{cases_Bool, ltb-true, leb-true, leb-false}
use Rattle.std.proofs.lemmas.Bool.Decides.{nat_tests}
use Rattle.std.proofs.lemmas.List.{length-take-le}
use Rattle.std.proofs.lemmas.List.Folds.{list_all-append}
use Rattle.jm_cmds.specs.declared.commands.Command.{Command}
use Rattle.jm_cmds.specs.declared.history.Sent.{Sent}
use Rattle.jm_cmds.specs.HistoryLaws.{AllByRecursion-append}
use Rattle.jm_cmds.specs.Command.{is_long}
use Rattle.jm_cmds.specs.Data.{is_long_message}
use Rattle.jm_section.specs.declared.item.What.{What}
use Rattle.jm_section.specs.declared.item.What.TheVariants.{Whole}
use Rattle.jm_section.specs.declared.next.Place.TheVariants.{First}
use Rattle.jm_section.specs.Section.{Timed, list_text, item_of, items_of, items_text}
use Rattle.jm_section.specs.Pieces.{place_behind}
use Rattle.jm_book.specs.declared.steps.Config.{Config}
use Rattle.jm_book.specs.declared.steps.Step.{Step}
use Rattle.jm_book.specs.declared.steps.Step.TheVariants.{Enter, Play, Cut, Ack, Join, Leave, Hear, Feedback, Say}
use Rattle.jm_book.specs.Segments.{Segment, segments_of, segments_in, later_segments, message_of, next_segment}
use Rattle.jm_book.specs.SegmentLaws.{long_message_of}
use Rattle.jm_book.specs.Stream.{Stream, Entry, played, tick_after, next_packet, entries_sent, entries_left, as_sent, pending_of, number_of_pending}
use Rattle.jm_book.specs.Pending.{timed_after, timed_of, last_tick, have_fields}
use Rattle.jm_book.specs.Session.{Session, session_of, after, session_stream}
use Rattle.jm_book.specs.Answers.{what_of, is_behind_others, list_with, delta_with}
use Rattle.jm_book.specs.Legal.{IsTakenIn, IsTaken}
use Rattle.jm_book.specs.LegalLaws.{legal_keeps}
use Rattle.jm_book.specs.StepLaws.{session_push, as_sent_push}
use Rattle.jm_book.specs.TakenLaws.{play_taken, can_play, taken_in}
use Rattle.jm_book.specs.StreamConduct.{IsOnePacket, IsOnePart, IsPacket, ArePackets, PacketsFit}
use Rattle.jm_book.proofs.Listing.{timed_of_push, list_text_push, items_text_push, item_is}

-- the number of the packet is no part of its list
timed_after_any : (number other before : ℕ) (entries : List Entry) → timed_after before (as_sent number entries) ≡ timed_after before (as_sent other entries)
timed_after_any number other before [] = refl
timed_after_any number other before (one ∷ others) =
    ap (λ (ts : List Timed). record { delta = one.tick - before; command = one.command } ∷ ts) (timed_after_any number other one.tick others)

pub timed_any : (number other : ℕ) (entries : List Entry) → timed_of (as_sent number entries) ≡ timed_of (as_sent other entries)
timed_any number other [] = refl
timed_any number other (one ∷ others) = timed_after_any number other one.tick (one ∷ others)

-- the last three of four tests
none_of_four : (first a b c : Bool) → (first || a || b || c) ≡ false → (a ≡ false) × (b ≡ false) × (c ≡ false)
none_of_four true a b c h = absurd cc
none_of_four false true b c h = absurd cc
none_of_four false false true c h = absurd cc
none_of_four false false false true h = absurd cc
none_of_four false false false false h = (refl, refl, refl)

both_true : (a b : Bool) → a ≡ true → b ≡ true → (a && b) ≡ true
both_true a b one other = rw (one, other) refl

-- each delta of one more command has its field
fields_push : (sent : List Sent) (one : Sent) → have_fields (timed_of sent) ≡ true → one.tick - last_tick one.tick sent < 2 ^ 28 → have_fields (timed_of (sent ++ one ∷ [])) ≡ true
fields_push sent one fields small =
    let here : nat_lt (one.tick - last_tick one.tick sent) (2 ^ 28) ≡ true = grind (arith, nat_tests, small) in
    rw timed_of_push
    (list_all-append (λ (timed : Timed). nat_lt timed.delta (2 ^ 28)) (timed_of sent) (record { delta = one.tick - last_tick one.tick sent; command = one.command } ∷ [])
    ∙ both_true (have_fields (timed_of sent)) (nat_lt (one.tick - last_tick one.tick sent) (2 ^ 28) && true) fields (both_true (nat_lt (one.tick - last_tick one.tick sent) (2 ^ 28)) true here refl))

-- each packet, and what is pending
record AllFit (stream : Stream) : Type 0 where
  packets : AllByRecursion (λ packet. IsPacket packet.part packet.entries) stream.packets
  pending : ArePackets stream.waiting stream.pending

no_entries : IsOnePacket []
no_entries = record { few = omega arith; short = omega arith; fields = refl }

-- ---- one more command that isn't long

one_more : (events : ℕ) (s : Session) (player : ℕ) (command : Command) (tick : ℕ) → IsTakenIn events s (Play player command tick) → is_long command ≡ false → IsOnePacket s.stream.pending
    → IsOnePacket (s.stream.pending ++ record { player = player; serial = s.stream.plays; tick = tick_after s.stream tick; command = command } ∷ [])
one_more events s player command tick taken whole h =
    let stream = s.stream in
    let number = number_of_pending stream in
    let entry : Entry = record { player = player; serial = stream.plays; tick = tick_after stream tick; command = command } in
    let sent : Sent = record { packet = number; tick = tick_after stream tick; command = command } in
    let item : Timed = record { delta = delta_with stream tick; command = command } in
    let came = play_taken events s player command tick taken in
    let room = none_of_four (is_behind_others command (length stream.pending)) (nat_le 256 (length stream.pending)) (nat_lt 4095 (list_with stream command tick)) (nat_lt 0x0FFFFFFF (delta_with stream tick)) came.cut in
    let few : length stream.pending < 256 = grind (arith, nat_tests, room.0) in
    let small : delta_with stream tick ≤ 0x0FFFFFFF = grind (arith, nat_tests, room.2) in
    let short : list_with stream command tick ≤ 4095 = grind (arith, nat_tests, room.1) in
    let what : what_of command ≡ Whole command = rw whole refl in
    let listed : list_with stream command tick ≡ length (list_text (timed_of (pending_of stream ++ sent ∷ []))) =
    ap (λ (one : What). length (items_text First (items_of (timed_of (pending_of stream)) ++ record { delta = delta_with stream tick; what = one } ∷ []))) what
    ∙ ap length (items_text_push First (timed_of (pending_of stream)) (item_of item) ∙ ap (λ (text : List ℕ). list_text (timed_of (pending_of stream)) ++ text) (item_is (place_behind First (timed_of (pending_of stream))) item) ∙ sym (list_text_push (pending_of stream) sent)) in
    let pushed : as_sent number (stream.pending ++ entry ∷ []) ≡ pending_of stream ++ sent ∷ [] = as_sent_push number stream.pending entry in
    let any : timed_of (as_sent 0 (stream.pending ++ entry ∷ [])) ≡ timed_of (pending_of stream ++ sent ∷ []) =
    timed_any 0 number (stream.pending ++ entry ∷ []) ∙ ap timed_of pushed in
    let fields : have_fields (timed_of (pending_of stream)) ≡ true = rw (timed_any number 0 stream.pending) h.fields in
    let all : have_fields (timed_of (pending_of stream ++ sent ∷ [])) ≡ true = fields_push (pending_of stream) sent fields (omega arith) in
    let fits : length (list_text (timed_of (pending_of stream ++ sent ∷ []))) ≤ 4095 = rw listed at short in
    record {
      few = omega (arith, length-append stream.pending (entry ∷ []));
      short = rw any fits;
      fields = rw any all;
    }

-- ---- segments

later_fit : (most : ℕ) (octets : List ℕ) (entry : Entry) → 1 ≤ length octets → length octets ≤ most → AllByRecursion (λ one. IsOnePart one (entry ∷ [])) (later_segments most octets)
later_fit zero octets entry some fits = absurd (omega arith)
later_fit (suc most) octets entry some fits = elim (cases_Bool (nat_le (length octets) 2046)) [
  | inl t ↦
      let few : length octets ≤ 2046 = leb-true (length octets) 2046 t in
      rw t (record { some = some; few = few; alone = omega arith }, tt)
  | inr f ↦
      let many : 2046 < length octets = leb-false (length octets) 2046 f in
      let rest = length-drop 2046 octets in
      let first = length-take-le 2046 octets (omega arith) in
      rw f (record { some = omega arith; few = omega arith; alone = omega arith }, later_fit most (drop 2046 octets) entry (omega arith) (omega arith))
]

segments_fit : (octets : List ℕ) (entry : Entry) → is_long_message octets ≡ true → AllByRecursion (λ one. IsOnePart one (entry ∷ [])) (segments_of octets)
segments_fit octets entry long =
    let many : 2046 < length octets = ltb-true 2046 (length octets) long in
    let rest = length-drop 2046 octets in
    let first = length-take-le 2046 octets (omega arith) in
    (record { some = omega arith; few = omega arith; alone = omega arith }, later_fit (length octets) (drop 2046 octets) entry (omega arith) (omega arith))

long_fit : (command : Command) (entry : Entry) → is_long command ≡ true → AllByRecursion (λ one. IsOnePart one (entry ∷ [])) (segments_of (message_of command))
long_fit command entry long = segments_fit (message_of command) entry (long_message_of command long)

play_fits : (events : ℕ) (s : Session) (player : ℕ) (command : Command) (tick : ℕ) (waiting : List Segment) → IsTakenIn events s (Play player command tick) → s.stream.waiting ≡ waiting → ArePackets waiting s.stream.pending
    → ArePackets (waiting ++ segments_in command) (played s.stream player command tick).pending
play_fits events s player command tick [] taken is h = elim (cases_Bool (is_long command)) [
  | inl long ↦
      let entry : Entry = record { player = player; serial = s.stream.plays; tick = tick_after s.stream tick; command = command } in
      let alone : entry ∷ [] ≡ (played s.stream player command tick).pending = ap (λ (before : List Entry). before ++ entry ∷ []) (sym ((can_play events s player command tick taken).first long)) in
      let segments : segments_of (message_of command) ≡ segments_in command = rw long refl in
      subst (λ (list : List Segment). ArePackets list (played s.stream player command tick).pending) segments
      (subst (λ (entries : List Entry). ArePackets (segments_of (message_of command)) entries) alone (long_fit command entry long))
  | inr short ↦ rw short (one_more events s player command tick taken short h)
]
play_fits events s player command tick (segment ∷ others) taken is h =
    let rests = (can_play events s player command tick taken).rests in
    let bad : segment ∷ others ≡ [] = sym is ∙ rests in
    absurd cc

-- ---- a cut

sent_fits : (waiting : List Segment) (pending : List Entry) → ArePackets waiting pending → IsPacket (next_segment waiting) (entries_sent waiting pending)
sent_fits [] pending h = h
sent_fits (last ∷ []) pending h = h.0
sent_fits (segment ∷ next ∷ others) pending h = record { some = h.0.some; few = h.0.few; alone = omega arith }

left_fits : (waiting : List Segment) (pending : List Entry) → ArePackets waiting pending → ArePackets (drop 1 waiting) (entries_left waiting pending)
left_fits [] pending h = no_entries
left_fits (last ∷ []) pending h = no_entries
left_fits (segment ∷ next ∷ others) pending h = h.1

fit_after_step : (events : ℕ) (s : Session) (step : Step) → IsTakenIn events s step → AllFit s.stream → AllFit (after s step).stream
fit_after_step events s Enter taken h = h
fit_after_step events s (Play player command tick) taken h = record { packets = h.packets; pending = play_fits events s player command tick s.stream.waiting taken refl h.pending }
fit_after_step events s (Cut tick) taken h = record {
  packets = AllByRecursion-append (λ packet. IsPacket packet.part packet.entries) s.stream.packets ((next_packet s.stream tick).packet ∷ []) h.packets (sent_fits s.stream.waiting s.stream.pending h.pending, tt);
  pending = left_fits s.stream.waiting s.stream.pending h.pending;
}
fit_after_step events s (Ack ssrc seq) taken h = h
fit_after_step events s (Join ssrc) taken h = h
fit_after_step events s (Leave ssrc) taken h = h
fit_after_step events s (Hear ssrc seq) taken h = h
fit_after_step events s Feedback taken h = h
fit_after_step events s (Say port from message now) taken h = h

fit_push : (config : Config) (steps : List Step) (step : Step) → AllFit (session_of config steps).stream → IsTaken config steps step → AllFit (session_of config (steps ++ step ∷ [])).stream
fit_push config steps step h taken =
    subst (λ (s : Session). AllFit s.stream) (sym (session_push config steps step)) (fit_after_step config.events (session_of config steps) step (taken_in config steps step taken) h)

pub packets_fit : PacketsFit
packets_fit config steps legal =
    let all = legal_keeps config (λ taken. AllFit (session_of config taken).stream) (fit_push config) record { packets = tt; pending = no_entries } steps legal in
    let fit = subst (λ (stream : Stream). AllFit stream) (session_stream config steps) all in
    (fit.packets, fit.pending)
