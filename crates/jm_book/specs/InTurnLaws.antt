-- Along legal steps a long command is sent in turn, and waits alone.
use Rattle.std.proofs.Common.{ℕ, ◌≡◌, ◌∙◌, refl, sym, ap, subst, List, [], ◌∷◌, ◌++◌, length, drop, append_assoc, append-nil}
use Rattle.std.proofs.Math.Seq.{drop-append_seam}
use Rattle.jm_cmds.specs.declared.commands.Command.{Command}
use Rattle.jm_book.specs.declared.steps.Config.{Config}
use Rattle.jm_book.specs.declared.steps.Step.{Step}
use Rattle.jm_book.specs.declared.steps.Step.TheVariants.{Enter, Play, Cut, Ack, Join, Leave, Hear, Feedback, Say}
use Rattle.jm_book.specs.Segments.{Segment, segments_in}
use Rattle.jm_book.specs.Stream.{Stream, Entry, Packet, stream_of, played, next_packet, tick_after}
use Rattle.jm_book.specs.Session.{Session, session_of, after, session_stream}
use Rattle.jm_book.specs.Legal.{IsTakenIn, IsTaken}
use Rattle.jm_book.specs.LegalLaws.{legal_keeps, taken_apart, taken_keeps}
use Rattle.jm_book.specs.PlayLaws.{counts_plays, greatest_tick_push}
use Rattle.jm_book.specs.Plays.{play_count, greatest_tick}
use Rattle.jm_book.specs.StepLaws.{session_push, stream_push}
use Rattle.jm_book.specs.StreamConduct.{WaitsAlone, SendsInTurn}
use Rattle.jm_book.specs.TakenLaws.{can_play, taken_in}
use Rattle.jm_book.specs.Waiting.{CanPlay, HoldInTurn, WaitAlone}
use Rattle.jm_book.specs.WaitingLaws.{alone_play, alone_cut, hold_sent, hold_cut, hold_played}

-- ---- alone

abbrev IsAlone : Stream → Type 0
IsAlone stream = WaitAlone stream.waiting stream.pending

alone_after : (events : ℕ) (s : Session) (step : Step) → IsTakenIn events s step → IsAlone s.stream → IsAlone (after s step).stream
alone_after events s Enter taken h = h
alone_after events s (Play player command tick) taken h = alone_play s.stream player command tick (can_play events s player command tick taken) h
alone_after events s (Cut tick) taken h = alone_cut s.stream tick h
alone_after events s (Ack ssrc seq) taken h = h
alone_after events s (Join ssrc) taken h = h
alone_after events s (Leave ssrc) taken h = h
alone_after events s (Hear ssrc seq) taken h = h
alone_after events s Feedback taken h = h
alone_after events s (Say port from message now) taken h = h

alone_push : (config : Config) (steps : List Step) (step : Step) → IsAlone (session_of config steps).stream → IsTaken config steps step → IsAlone (session_of config (steps ++ step ∷ [])).stream
alone_push config steps step h taken =
    subst (λ (s : Session). IsAlone s.stream) (sym (session_push config steps step)) (alone_after config.events (session_of config steps) step (taken_in config steps step taken) h)

pub waits_alone : WaitsAlone
waits_alone config steps legal =
    subst (λ (stream : Stream). IsAlone stream) (session_stream config steps)
    (legal_keeps config (λ taken. IsAlone (session_of config taken).stream) (alone_push config) tt steps legal)

-- ---- in turn

-- packets before the play, and behind them those that hold the segments
record IsInTurn (front : List Packet) (entry : Entry) (segments : List Segment) (stream : Stream) : Type 0 where
  behind : List Packet
  parts : stream.packets ≡ front ++ behind
  hold : HoldInTurn entry segments behind stream

in_turn_after : (events : ℕ) (front : List Packet) (entry : Entry) (segments : List Segment) (s : Session) (step : Step) → IsTakenIn events s step → IsInTurn front entry segments s.stream → IsInTurn front entry segments (after s step).stream
in_turn_after events front entry segments s Enter taken h = h
in_turn_after events front entry segments s (Play player command tick) taken h = record {
  behind = h.behind;
  parts = h.parts;
  hold = hold_sent entry segments h.behind s.stream (played s.stream player command tick) (can_play events s player command tick taken).rests h.hold;
}
in_turn_after events front entry segments s (Cut tick) taken h =
    let packet = (next_packet s.stream tick).packet in
    record {
      behind = h.behind ++ packet ∷ [];
      parts = rw h.parts (append_assoc front h.behind (packet ∷ []));
      hold = hold_cut entry segments h.behind s.stream tick h.hold;
    }
in_turn_after events front entry segments s (Ack ssrc seq) taken h = h
in_turn_after events front entry segments s (Join ssrc) taken h = h
in_turn_after events front entry segments s (Leave ssrc) taken h = h
in_turn_after events front entry segments s (Hear ssrc seq) taken h = h
in_turn_after events front entry segments s Feedback taken h = h
in_turn_after events front entry segments s (Say port from message now) taken h = h

in_turn_push : (config : Config) (front : List Packet) (entry : Entry) (segments : List Segment) (steps : List Step) (step : Step) → IsInTurn front entry segments (session_of config steps).stream → IsTaken config steps step → IsInTurn front entry segments (session_of config (steps ++ step ∷ [])).stream
in_turn_push config front entry segments steps step h taken =
    subst (λ (s : Session). IsInTurn front entry segments s.stream) (sym (session_push config steps step)) (in_turn_after config.events front entry segments (session_of config steps) step (taken_in config steps step taken) h)

-- the entry of a play
abbrev entry_of : (before : List Step) (player : ℕ) → Command → (tick : ℕ) → Entry
entry_of before player command tick =
    record { player = player; serial = play_count before; tick = greatest_tick (before ++ Play player command tick ∷ []); command = command }

-- just behind the play
in_turn_played : (before : List Step) (player : ℕ) (command : Command) (tick : ℕ) → CanPlay (stream_of before) command
    → IsInTurn (stream_of before).packets (entry_of before player command tick) (segments_in command) (stream_of (before ++ Play player command tick ∷ []))
in_turn_played before player command tick can =
    let stream = stream_of before in
    let counts = counts_plays before in
    let last : greatest_tick (before ++ Play player command tick ∷ []) ≡ tick_after stream tick =
    greatest_tick_push before (Play player command tick) ∙ rw counts.tick refl in
    rw (stream_push before (Play player command tick), last, ← counts.plays) record {
      behind = [];
      parts = sym (append-nil stream.packets);
      hold = hold_played stream player command tick can;
    }

pub sends_in_turn : SendsInTurn
sends_in_turn config before player command tick later legal =
    let front = (stream_of before).packets in
    let entry = entry_of before player command tick in
    let segments = segments_in command in
    let all = before ++ Play player command tick ∷ later in
    let apart = taken_apart config [] before (Play player command tick ∷ later) legal in
    let can : CanPlay (stream_of before) command =
    subst (λ (stream : Stream). CanPlay stream command) (session_stream config before)
    (can_play config.events (session_of config before) player command tick (taken_in config before (Play player command tick) apart.1.0)) in
    let begun = subst (λ (stream : Stream). IsInTurn front entry segments stream) (sym (session_stream config (before ++ Play player command tick ∷ []))) (in_turn_played before player command tick can) in
    let kept = taken_keeps config (λ taken. IsInTurn front entry segments (session_of config taken).stream) (in_turn_push config front entry segments) (before ++ Play player command tick ∷ []) later begun apart.1.1 in
    let there : IsInTurn front entry segments (stream_of all) =
    subst (λ (stream : Stream). IsInTurn front entry segments stream) (session_stream config all)
    (subst (λ (steps : List Step). IsInTurn front entry segments (session_of config steps).stream) (append_assoc before (Play player command tick ∷ []) later) kept) in
    let behind : drop (length front) (stream_of all).packets ≡ there.behind = ap (λ (packets : List Packet). drop (length front) packets) there.parts ∙ drop-append_seam front there.behind in
    subst (λ (packets : List Packet). HoldInTurn entry segments packets (stream_of all)) (sym behind) there.hold
