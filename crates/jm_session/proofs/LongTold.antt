-- Long commands are heard once.
use Rattle.std.proofs.Common.{◌≡◌, ℕ, ◌+◌, ◌%◌, ◌^◌, ◌<◌, ◌≤◌, true, eqb, List, [], ◌∷◌, ◌++◌, length, take, refl, sym, ap, subst, ◌∙◌, inl, inr, arith, append-nil}
use Rattle.std.specs.List.{AllByRecursion, flat_map}
use Rattle.std.proofs.lemmas.Bool.{cases_Bool, eqb-true}
use Rattle.std.proofs.lemmas.Bool.Decides.{nat_tests}
use Rattle.jm_cmds.specs.declared.commands.Command.{Command}
use Rattle.jm_cmds.specs.declared.commands.Command.TheVariants.{NoteOff, NoteOn, PolyPressure, Control, Program, Pressure, Wheel, QuarterFrame, SongPosition, SongSelect, TuneRequest, Clock, Start, Continue, Stop, ActiveSensing, SystemReset, Sysex}
use Rattle.jm_cmds.specs.Command.{IsCommand, is_long}
use Rattle.jm_cmds.specs.HistoryLaws.{AllByRecursion-append}
use Rattle.jm_section.specs.declared.item.PartKind.{PartKind}
use Rattle.jm_section.specs.declared.item.PartKind.TheVariants.{First, Middle, Last}
use Rattle.jm_receiver.specs.declared.heard.HeardKind.TheVariants.{Sent}
use Rattle.jm_receiver.specs.SegmentsHeard.{HasSegment, HaveLaterSegments, ends, goes_on, HaveMessage, begins, SegmentsAreHeardOnce}
use Rattle.jm_book.specs.declared.steps.Config.{Config}
use Rattle.jm_book.specs.declared.steps.Step.{Step}
use Rattle.jm_book.specs.declared.steps.Step.TheVariants.{Enter, Play, Cut, Ack, Join, Leave, Hear, Feedback, Say}
use Rattle.jm_book.specs.Segments.{Segment, segments_in, message_of, part_of, AreSegments}
use Rattle.jm_book.specs.SegmentLaws.{divides_long, long_message_of}
use Rattle.jm_book.specs.Stream.{Stream, Entry, cut_off, tick_after}
use Rattle.jm_book.specs.Session.{Session, session_of, after, session_stream}
use Rattle.jm_book.specs.StepLaws.{session_push}
use Rattle.jm_book.specs.Plays.{greatest_tick}
use Rattle.jm_book.specs.PlayLaws.{counts_plays, greatest_tick_push}
use Rattle.jm_book.specs.StreamConduct.{cut_count}
use Rattle.jm_book.specs.Waiting.{CanPlay, HoldInTurn}
use Rattle.jm_book.specs.WaitingLaws.{hold_cut, hold_played}
use Rattle.jm_book.specs.TakenLaws.{can_play, taken_in}
use Rattle.jm_book.specs.Legal.{IsTaken, AreTaken, IsLegal}
use Rattle.jm_book.specs.LegalLaws.{legal_push, taken_apart}
use Rattle.jm_book.specs.Commands.{HasCommand, HaveCommands}
use Rattle.jm_book.specs.Packet.{packet_of as octets_of_cut}
use Rattle.jm_session.specs.Packets.{number_of, tick_of_cut, items_of_cut, IsRead, PacketsAreRead}
use Rattle.jm_session.proofs.InStepLaws.{number_by_cut}
use Rattle.jm_session.proofs.HonestLaws.{first_have}
use Rattle.jm_session.specs.LongHeard.{packets_along, packets_with, IsHeardOnce, LongCommandsAreHeardOnce}

-- ---- packets with segments

-- packets from this one on, each the next, have these segments, one each
abbrev HaveParts : (ssrc tick packet : ℕ) → List Segment → List (List ℕ) → Type 0
HaveParts ssrc tick packet [] packets = packets ≡ []
HaveParts ssrc tick packet (segment ∷ others) [] = ⊥
HaveParts ssrc tick packet (segment ∷ others) (octets ∷ packets) = HasSegment ssrc tick packet segment.kind segment.octets octets × HaveParts ssrc tick (packet + 1) others packets

-- the packet of a cut where the first segment of a command waits
module _ (ssrc : ℕ) (session : Session) (cut : ℕ) (entry : Entry) (segment : Segment) (others : List Segment) (waits : session.stream.waiting ≡ segment ∷ others) (alone : session.stream.pending ≡ entry ∷ []) where
  its_tick : tick_of_cut session cut ≡ entry.tick
  its_tick = rw alone refl

  its_items : items_of_cut session cut ≡ record { delta = 0; what = part_of segment } ∷ []
  its_items = rw waits refl

  has_segment : IsRead ssrc session cut → HasSegment ssrc entry.tick (number_of session) segment.kind segment.octets (octets_of_cut session cut)
  has_segment reads =
      let number = number_of session in
      let time : tick_of_cut session cut % 2 ^ 32 ≡ entry.tick % 2 ^ 32 = ap (λ (n : ℕ). n % 2 ^ 32) its_tick in
      elim (cases_Bool (eqb number 0)) [
        | inl t ↦
            let none : number ≡ 0 = eqb-true number 0 t in
            record { read = _; opens = reads.first none; number = omega (arith, none); time = time; alone = its_items; first = λ zero. refl }
        | inr f ↦
            let some : 1 ≤ number = grind (arith, nat_tests, f) in
            record { read = _; opens = reads.later some; number = refl; time = time; alone = its_items; first = λ zero. absurd (omega (arith, zero, some)) }
      ]

-- ---- along the steps

-- steps behind which these segments of a command wait, and the next packet has this number
record Waits (config : Config) (entry : Entry) (segments : List Segment) (packet : ℕ) (steps : List Step) : Type 0 where
  legal : IsLegal config steps
  brings : HaveCommands steps
  number : number_of (session_of config steps) ≡ packet
  hold : HoldInTurn entry segments [] (session_of config steps).stream

-- a step that leaves the stream
waits_on : (config : Config) (entry : Entry) (segments : List Segment) (packet : ℕ) (steps : List Step) (step : Step) → (after (session_of config steps) step).stream ≡ (session_of config steps).stream
    → IsTaken config steps step → HasCommand step → Waits config entry segments packet steps → Waits config entry segments packet (steps ++ step ∷ [])
waits_on config entry segments packet steps step same taken brings w =
    let pushed : (session_of config (steps ++ step ∷ [])).stream ≡ (session_of config steps).stream = ap (λ (s : Session). s.stream) (session_push config steps step) ∙ same in
    record {
      legal = legal_push config steps step w.legal taken;
      brings = AllByRecursion-append HasCommand steps (step ∷ []) w.brings (brings, tt);
      number = ap (λ (stream : Stream). length stream.packets) pushed ∙ w.number;
      hold = subst (λ (stream : Stream). HoldInTurn entry segments [] stream) (sym pushed) w.hold;
    }

-- a cut takes the first of them off
waits_cut : (config : Config) (entry : Entry) (segment : Segment) (others : List Segment) (packet : ℕ) (steps : List Step) (cut : ℕ)
    → IsTaken config steps (Cut cut) → Waits config entry (segment ∷ others) packet steps → Waits config entry others (packet + 1) (steps ++ Cut cut ∷ [])
waits_cut config entry segment others packet steps cut taken w =
    let stream = (session_of config steps).stream in
    let pushed : (session_of config (steps ++ Cut cut ∷ [])).stream ≡ cut_off stream cut = ap (λ (s : Session). s.stream) (session_push config steps (Cut cut)) in
    record {
      legal = legal_push config steps (Cut cut) w.legal taken;
      brings = AllByRecursion-append HasCommand steps (Cut cut ∷ []) w.brings (tt, tt);
      number = number_by_cut config steps cut ∙ ap (λ (n : ℕ). n + 1) w.number;
      hold = subst (λ (s : Stream). HoldInTurn entry others [] s) (sym pushed) (hold_cut entry (segment ∷ others) [] stream cut w.hold).1;
    }

module _ (config : Config) (small : config.ssrc < 2 ^ 32) (read : PacketsAreRead) (entry : Entry) where
  have_parts : (segments : List Segment) (packet : ℕ) (steps later : List Step) → Waits config entry segments packet steps → AreTaken config steps later → HaveCommands later → length segments ≤ cut_count later
      → HaveParts config.ssrc entry.tick packet segments (take (length segments) (packets_along config steps later))
  have_parts [] packet steps later w taken brings enough = refl
  have_parts (segment ∷ others) packet steps [] w taken brings enough = absurd (omega arith)
  have_parts (segment ∷ others) packet steps (Cut cut ∷ later) w taken brings enough =
      let session = session_of config steps in
      let first = has_segment config.ssrc session cut entry segment others w.hold.0 w.hold.1 (read config steps cut small w.legal w.brings) in
      let here = subst (λ (number : ℕ). HasSegment config.ssrc entry.tick number segment.kind segment.octets (octets_of_cut session cut)) w.number first in
      (here, have_parts others (packet + 1) (steps ++ Cut cut ∷ []) later (waits_cut config entry segment others packet steps cut taken.0 w) taken.1 brings.1 (omega arith))
  have_parts (segment ∷ others) packet steps (Play player command tick ∷ later) w taken brings enough =
      let can = can_play config.events (session_of config steps) player command tick (taken_in config steps (Play player command tick) taken.0) in
      let bad : segment ∷ others ≡ [] = sym w.hold.0 ∙ can.rests in
      absurd cc
  have_parts (segment ∷ others) packet steps (Enter ∷ later) w taken brings enough =
      have_parts (segment ∷ others) packet (steps ++ Enter ∷ []) later (waits_on config entry (segment ∷ others) packet steps Enter refl taken.0 tt w) taken.1 brings.1 enough
  have_parts (segment ∷ others) packet steps (Ack ssrc seq ∷ later) w taken brings enough =
      have_parts (segment ∷ others) packet (steps ++ Ack ssrc seq ∷ []) later (waits_on config entry (segment ∷ others) packet steps (Ack ssrc seq) refl taken.0 tt w) taken.1 brings.1 enough
  have_parts (segment ∷ others) packet steps (Join ssrc ∷ later) w taken brings enough =
      have_parts (segment ∷ others) packet (steps ++ Join ssrc ∷ []) later (waits_on config entry (segment ∷ others) packet steps (Join ssrc) refl taken.0 tt w) taken.1 brings.1 enough
  have_parts (segment ∷ others) packet steps (Leave ssrc ∷ later) w taken brings enough =
      have_parts (segment ∷ others) packet (steps ++ Leave ssrc ∷ []) later (waits_on config entry (segment ∷ others) packet steps (Leave ssrc) refl taken.0 tt w) taken.1 brings.1 enough
  have_parts (segment ∷ others) packet steps (Hear ssrc seq ∷ later) w taken brings enough =
      have_parts (segment ∷ others) packet (steps ++ Hear ssrc seq ∷ []) later (waits_on config entry (segment ∷ others) packet steps (Hear ssrc seq) refl taken.0 tt w) taken.1 brings.1 enough
  have_parts (segment ∷ others) packet steps (Feedback ∷ later) w taken brings enough =
      have_parts (segment ∷ others) packet (steps ++ Feedback ∷ []) later (waits_on config entry (segment ∷ others) packet steps Feedback refl taken.0 tt w) taken.1 brings.1 enough
  have_parts (segment ∷ others) packet steps (Say port from message now ∷ later) w taken brings enough =
      have_parts (segment ∷ others) packet (steps ++ Say port from message now ∷ []) later (waits_on config entry (segment ∷ others) packet steps (Say port from message now) refl taken.0 tt w) taken.1 brings.1 enough

-- ---- a whole message

abbrev octets_in : List Segment → List ℕ
octets_in segments = flat_map (λ (one : Segment). one.octets) segments

of_kind : (ssrc tick packet : ℕ) (one : Segment) (kind : PartKind) (octets : List ℕ) → one.kind ≡ kind → HasSegment ssrc tick packet one.kind one.octets octets → HasSegment ssrc tick packet kind one.octets octets
of_kind ssrc tick packet one kind octets is h = subst (λ (k : PartKind). HasSegment ssrc tick packet k one.octets octets) is h

later_have : (ssrc tick packet : ℕ) (middle : List Segment) (last : Segment) (packets : List (List ℕ)) → AllByRecursion (λ (one : Segment). one.kind ≡ Middle) middle → last.kind ≡ Last
    → HaveParts ssrc tick packet (middle ++ last ∷ []) packets → HaveLaterSegments ssrc tick packet (octets_in (middle ++ last ∷ [])) packets
later_have ssrc tick packet [] last [] goes is h = absurd h
later_have ssrc tick packet [] last (octets ∷ packets) goes is h =
    rw (h.1, append-nil last.octets) (ends packet last.octets octets (of_kind ssrc tick packet last Last octets is h.0))
later_have ssrc tick packet (one ∷ middle) last [] goes is h = absurd h
later_have ssrc tick packet (one ∷ middle) last (octets ∷ packets) goes is h =
    goes_on packet one.octets (octets_in (middle ++ last ∷ [])) octets packets (of_kind ssrc tick packet one Middle octets goes.0 h.0) (later_have ssrc tick (packet + 1) middle last packets goes.1 is h.1)

first_has : (ssrc tick packet : ℕ) (first : Segment) (others : List Segment) (packets : List (List ℕ)) → first.kind ≡ First → HaveParts ssrc tick packet (first ∷ others) packets
    → ((behind : List (List ℕ)) → HaveParts ssrc tick (packet + 1) others behind → HaveLaterSegments ssrc tick (packet + 1) (octets_in others) behind) → HaveMessage ssrc tick packet (octets_in (first ∷ others)) packets
first_has ssrc tick packet first others [] is h behind = absurd h
first_has ssrc tick packet first others (octets ∷ packets) is h behind =
    begins packet first.octets (octets_in others) octets packets (of_kind ssrc tick packet first First octets is h.0) (behind packets h.1)

have_message : (ssrc tick packet : ℕ) (whole : List ℕ) (segments : List Segment) (packets : List (List ℕ)) → AreSegments whole segments → HaveParts ssrc tick packet segments packets → HaveMessage ssrc tick packet whole packets
have_message ssrc tick packet whole segments packets are h =
    let others = are.middle ++ are.last ∷ [] in
    let parts : HaveParts ssrc tick packet (are.first ∷ others) packets = subst (λ (list : List Segment). HaveParts ssrc tick packet list packets) are.parts h in
    let joined : octets_in (are.first ∷ others) ≡ whole = ap octets_in (sym are.parts) ∙ are.joined in
    subst (λ (list : List ℕ). HaveMessage ssrc tick packet list packets) joined
    (first_has ssrc tick packet are.first others packets are.begins parts (λ behind p. later_have ssrc tick (packet + 1) are.middle are.last behind are.goes_on are.ends p))

-- a long command is its message
sysex_of : (command : Command) → is_long command ≡ true → Sysex (message_of command) ≡ command
sysex_of (NoteOff channel note velocity) h = absurd cc
sysex_of (NoteOn channel note velocity) h = absurd cc
sysex_of (PolyPressure channel note value) h = absurd cc
sysex_of (Control channel number value) h = absurd cc
sysex_of (Program channel program) h = absurd cc
sysex_of (Pressure channel value) h = absurd cc
sysex_of (Wheel channel one other) h = absurd cc
sysex_of (QuarterFrame value) h = absurd cc
sysex_of (SongPosition value) h = absurd cc
sysex_of (SongSelect song) h = absurd cc
sysex_of TuneRequest h = absurd cc
sysex_of Clock h = absurd cc
sysex_of Start h = absurd cc
sysex_of Continue h = absurd cc
sysex_of Stop h = absurd cc
sysex_of ActiveSensing h = absurd cc
sysex_of SystemReset h = absurd cc
sysex_of (Sysex octets) h = refl

message_few : (command : Command) → is_long command ≡ true → IsCommand command → length (message_of command) ≤ 65536
message_few command long is = (subst IsCommand (sym (sysex_of command long)) is).few

heard_once : SegmentsAreHeardOnce → (ssrc number tick : ℕ) (command : Command) (packets : List (List ℕ)) → is_long command ≡ true → IsCommand command → HaveMessage ssrc tick number (message_of command) packets → IsHeardOnce ssrc number tick command packets
heard_once law ssrc number tick command packets long is have = record {
  segments = have;
  once = λ r heard source before takes.
      let mine : HaveMessage r.ssrc tick number (message_of command) packets = subst (λ (n : ℕ). HaveMessage n tick number (message_of command) packets) (sym source) have in
      law r tick number (message_of command) packets heard mine (message_few command long is) before takes
      ∙ ap (λ (one : Command). record { command = one; tick = tick % 2 ^ 32; kind = Sent } ∷ []) (sysex_of command long);
}

-- ---- a play

later_commands : (before later : List Step) → HaveCommands (before ++ later) → HaveCommands later
later_commands [] later h = h
later_commands (one ∷ before) later h = later_commands before later h.1

module _ (config : Config) (before : List Step) (player : ℕ) (command : Command) (tick : ℕ) (later : List Step) (legal : IsLegal config (before ++ Play player command tick ∷ later)) (brings : HaveCommands (before ++ Play player command tick ∷ later)) where
  abbrev play : Step
  play = Play player command tick

  abbrev stream : Stream
  stream = (session_of config before).stream

  abbrev entry : Entry
  entry = record { player = player; serial = stream.plays; tick = tick_after stream tick; command = command }

  legal_apart : IsLegal config before × AreTaken config before (play ∷ later)
  legal_apart = taken_apart config [] before (play ∷ later) legal

  later_brings : HaveCommands (play ∷ later)
  later_brings = later_commands before (play ∷ later) brings

  can : CanPlay stream command
  can = can_play config.events (session_of config before) player command tick (taken_in config before play legal_apart.1.0)

  -- all its segments wait then
  waits_played : Waits config entry (segments_in command) (number_of (session_of config before)) (before ++ play ∷ [])
  waits_played =
      let pushed = session_push config before play in
      record {
        legal = legal_push config before play legal_apart.0 legal_apart.1.0;
        brings = AllByRecursion-append HasCommand before (play ∷ []) (first_have before (play ∷ later) brings) (later_brings.0, tt);
        number = ap (λ (s : Session). length s.stream.packets) pushed;
        hold = subst (λ (s : Session). HoldInTurn entry (segments_in command) [] s.stream) (sym pushed) (hold_played stream player command tick can);
      }

  last_tick : entry.tick ≡ greatest_tick (before ++ play ∷ [])
  last_tick =
      ap (λ (s : Stream). tick_after s tick) (session_stream config before)
      ∙ sym (greatest_tick_push before play ∙ rw (counts_plays before).tick refl)

  segments_have : config.ssrc < 2 ^ 32 → PacketsAreRead → is_long command ≡ true → length (segments_in command) ≤ cut_count later
      → HaveMessage config.ssrc entry.tick (number_of (session_of config before)) (message_of command) (packets_with config before player command tick later)
  segments_have small read long enough =
      let parts = have_parts config small read entry (segments_in command) (number_of (session_of config before)) (before ++ play ∷ []) later waits_played legal_apart.1.1 later_brings.1 enough in
      let are : AreSegments (message_of command) (segments_in command) = rw long (divides_long (message_of command) (long_message_of command long)) in
      have_message config.ssrc entry.tick (number_of (session_of config before)) (message_of command) (segments_in command) (packets_with config before player command tick later) are parts

pub long_heard : SegmentsAreHeardOnce → PacketsAreRead → LongCommandsAreHeardOnce
long_heard law read config before player command tick later small legal brings long enough =
    let number = number_of (session_of config before) in
    let packets = packets_with config before player command tick later in
    let have = segments_have config before player command tick later legal brings small read long enough in
    let is : IsCommand command = (later_brings config before player command tick later legal brings).0 in
    subst (λ (last : ℕ). IsHeardOnce config.ssrc number last command packets) (last_tick config before player command tick later legal brings)
    (heard_once law config.ssrc number _ command packets long is have)
