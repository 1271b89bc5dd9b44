-- After legal steps what is coded keeps the limits of the journal.
use Rattle.std.proofs.Common.{◌≡◌, ℕ, ◌+◌, ◌≤◌, true, refl, sym, subst, List, [], ◌∷◌, ◌++◌, length, arith, append_assoc, append-nil}
use Rattle.std.specs.Prelude.{nat_lt}
use Rattle.std.proofs.lemmas.Bool.{lt-ltb}
use Rattle.jm_cmds.specs.declared.commands.Command.{Command}
use Rattle.jm_cmds.specs.declared.history.Sent.{Sent}
use Rattle.jm_cmds.specs.History.{below}
use Rattle.jm_cmds.specs.HistoryLaws.{filter_all, AllByRecursion-weaker}
use Rattle.jm_cmds.specs.Sent.{packet_of}
use Rattle.jm_journal.specs.declared.fits.Fit.TheVariants as fit
use Rattle.jm_journal.specs.Limits.{KeepsLimits}
use Rattle.jm_journal.specs.LimitLaws.{limits_none, limits_push, limits_later}
use Rattle.jm_book.specs.declared.steps.Config.{Config}
use Rattle.jm_book.specs.declared.steps.Step.{Step}
use Rattle.jm_book.specs.declared.steps.Step.TheVariants.{Enter, Play, Cut, Ack, Join, Leave, Hear, Feedback, Say}
use Rattle.jm_book.specs.Stream.{Stream, played, cut_off, sent_of, pending_of, number_of_pending, tick_after}
use Rattle.jm_book.specs.Segments.{Segment}
use Rattle.jm_book.specs.Session.{Session, session_of, after, checkpoint_of}
use Rattle.jm_book.specs.Answers.{fit_after}
use Rattle.jm_book.specs.Legal.{IsTakenIn, IsTaken, IsLegal}
use Rattle.jm_book.specs.Limited.{KeepsBoth}
use Rattle.jm_book.specs.LegalLaws.{legal_keeps}
use Rattle.jm_book.specs.LegalJoined.{ParticipateIn, participate_after, none_participate}
use Rattle.jm_book.specs.MarkLaws.{checkpoint_sent}
use Rattle.jm_book.specs.OrderLaws.{sent_below_next}
use Rattle.jm_book.specs.StepLaws.{session_push, pending_played, sent_cut, next_all, next_none, all_cut}
use Rattle.jm_book.specs.TakenLaws.{play_taken, can_play, taken_in}
use Rattle.jm_book.specs.Waiting.{CanPlay}

-- the same stream, and a checkpoint that doesn't fall
same_stream : (s new : Session) → new.stream ≡ s.stream → checkpoint_of s ≤ checkpoint_of new → KeepsBoth s → KeepsBoth new
same_stream s new same rises keeps = record {
  sent = subst (λ (x : Stream). KeepsLimits (checkpoint_of new) (sent_of x)) (sym same) (limits_later (checkpoint_of s) (checkpoint_of new) (sent_of s.stream) rises keeps.sent);
  all = subst (λ (x : Stream). KeepsLimits (checkpoint_of new) (sent_of x ++ pending_of x)) (sym same) (limits_later (checkpoint_of s) (checkpoint_of new) (sent_of s.stream ++ pending_of s.stream) rises keeps.all);
}

with_play : (s : Session) (player : ℕ) (command : Command) (tick : ℕ) → ParticipateIn s → CanPlay s.stream command → fit_after s command ≡ fit.Yes → KeepsBoth s → KeepsBoth (after s (Play player command tick))
with_play s player command tick p can fits keeps =
    let number = number_of_pending (played s.stream player command tick) in
    let one : Sent = record { packet = number; tick = tick_after s.stream tick; command = command } in
    let reaches : checkpoint_of s ≤ number = let below_last = checkpoint_sent (length s.stream.packets) s.members.joined p.marks in omega arith in
    let more = limits_push (checkpoint_of s) (sent_of s.stream ++ pending_of s.stream) one reaches fits keeps.all in
    record {
      sent = keeps.sent;
      all = rw (pending_played s.stream player command tick can.rests can.first) (rw (append_assoc (sent_of s.stream) (pending_of s.stream) (one ∷ [])) at more);
    }

-- a cut sends all that is pending, or none of it
limits_sent : (limit : ℕ) (stream : Stream) (tick : ℕ) (waiting : List Segment) → stream.waiting ≡ waiting → KeepsLimits limit (sent_of stream) → KeepsLimits limit (sent_of stream ++ pending_of stream) → KeepsLimits limit (sent_of (cut_off stream tick))
limits_sent limit stream tick [] is sent all = rw (sent_cut stream tick, next_all stream tick [] is (omega arith)) all
limits_sent limit stream tick (last ∷ []) is sent all = rw (sent_cut stream tick, next_all stream tick (last ∷ []) is (omega arith)) all
limits_sent limit stream tick (segment ∷ next ∷ others) is sent all =
    rw (sent_cut stream tick, next_none stream tick segment next others is, append-nil (sent_of stream)) sent

with_cut : (s : Session) (tick : ℕ) → checkpoint_of s ≤ checkpoint_of (after s (Cut tick)) → KeepsBoth s → KeepsBoth (after s (Cut tick))
with_cut s tick rises keeps =
    let now = checkpoint_of (after s (Cut tick)) in
    let sent = limits_later (checkpoint_of s) now (sent_of s.stream) rises keeps.sent in
    let all = limits_later (checkpoint_of s) now (sent_of s.stream ++ pending_of s.stream) rises keeps.all in
    record {
      sent = limits_sent now s.stream tick s.stream.waiting refl sent all;
      all = rw (all_cut s.stream tick) all;
    }

-- one more taken step
keeps_after : (events : ℕ) (s : Session) (step : Step) → ParticipateIn s → IsTakenIn events s step → KeepsBoth s → KeepsBoth (after s step)
keeps_after events s Enter p taken keeps = same_stream s (after s Enter) refl (participate_after events s Enter p taken).checkpoint keeps
keeps_after events s (Play player command tick) p taken keeps = with_play s player command tick p (can_play events s player command tick taken) (play_taken events s player command tick taken).fits keeps
keeps_after events s (Cut tick) p taken keeps = with_cut s tick (participate_after events s (Cut tick) p taken).checkpoint keeps
keeps_after events s (Ack ssrc seq) p taken keeps = same_stream s (after s (Ack ssrc seq)) refl (participate_after events s (Ack ssrc seq) p taken).checkpoint keeps
keeps_after events s (Join ssrc) p taken keeps = same_stream s (after s (Join ssrc)) refl (participate_after events s (Join ssrc) p taken).checkpoint keeps
keeps_after events s (Leave ssrc) p taken keeps = same_stream s (after s (Leave ssrc)) refl (participate_after events s (Leave ssrc) p taken).checkpoint keeps
keeps_after events s (Hear ssrc seq) p taken keeps = same_stream s (after s (Hear ssrc seq)) refl (participate_after events s (Hear ssrc seq) p taken).checkpoint keeps
keeps_after events s Feedback p taken keeps = same_stream s (after s Feedback) refl (participate_after events s Feedback p taken).checkpoint keeps
keeps_after events s (Say port from message now) p taken keeps = same_stream s (after s (Say port from message now)) refl (participate_after events s (Say port from message now) p taken).checkpoint keeps

record Holds (s : Session) : Type 0 where
  participate : ParticipateIn s
  keeps : KeepsBoth s

holds_push : (config : Config) (steps : List Step) (step : Step) → Holds (session_of config steps) → IsTaken config steps step → Holds (session_of config (steps ++ step ∷ []))
holds_push config steps step h taken =
    let in_session = taken_in config steps step taken in
    rw (session_push config steps step) record {
      participate = (participate_after config.events (session_of config steps) step h.participate in_session).holds;
      keeps = keeps_after config.events (session_of config steps) step h.participate in_session h.keeps;
    }

-- After legal steps the limits are kept, also were all pending commands sent.
pub legal_limits : (config : Config) (steps : List Step) → IsLegal config steps → KeepsBoth (session_of config steps)
legal_limits config steps legal =
    (legal_keeps config (λ taken. Holds (session_of config taken)) (λ before step h taken. holds_push config before step h taken)
    (record { participate = none_participate config; keeps = record { sent = limits_none 0; all = limits_none 0 } }) steps legal).keeps

-- all sent commands are in packets before the next
pub sent_below : (s : Stream) → below packet_of (length s.packets) (sent_of s) ≡ sent_of s
sent_below s =
    filter_all (λ (one : Sent). nat_lt (packet_of one) (length s.packets)) (sent_of s)
    (AllByRecursion-weaker (λ (one : Sent). packet_of one + 1 ≤ length s.packets) (λ (one : Sent). nat_lt (packet_of one) (length s.packets) ≡ true)
    (λ (one : Sent) (l : packet_of one + 1 ≤ length s.packets). lt-ltb (packet_of one) (length s.packets) (omega arith)) (sent_of s) (sent_below_next s))
