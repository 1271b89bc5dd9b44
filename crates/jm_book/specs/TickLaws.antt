-- Ticks never fall along the sent and pending commands, whatever the steps.
use Rattle.std.proofs.Common.{ℕ, ◌≤◌, List, [], ◌∷◌, ◌++◌, fold, arith, append_assoc}
use Rattle.std.specs.List.{AllByRecursion}
use Rattle.std.proofs.Math.Nat.{le-max_left}
use Rattle.jm_cmds.specs.declared.history.Sent.{Sent}
use Rattle.jm_cmds.specs.History.{InOrder}
use Rattle.jm_cmds.specs.HistoryLaws.{AllByRecursion-weaker}
use Rattle.jm_cmds.specs.Sent.{tick_of}
use Rattle.jm_book.specs.declared.steps.Step.{Step}
use Rattle.jm_book.specs.declared.steps.Step.TheVariants.{Enter, Play, Cut, Ack, Join, Leave, Hear, Feedback, Say}
use Rattle.jm_book.specs.Stream.{Stream, Entry, stream_of, stream_after, no_stream, played, tick_after, as_sent, sent_of, pending_of, number_of_pending}
use Rattle.jm_cmds.specs.HistoryLaws.{InOrder-append, AllByRecursion-append}
use Rattle.jm_book.specs.StepLaws.{as_sent_push, all_cut}

-- ticks never fall along these commands, and none is past this one
pub record TicksRise (tick : ℕ) (commands : List Sent) : Type 0 where
  pub in_order : InOrder tick_of commands
  pub reached : AllByRecursion (λ one. tick_of one ≤ tick) commands

pub ticks_later : (tick later : ℕ) (commands : List Sent) → tick ≤ later → TicksRise tick commands → TicksRise later commands
ticks_later tick later commands l h = record {
  in_order = h.in_order;
  reached = AllByRecursion-weaker (λ one. tick_of one ≤ tick) (λ one. tick_of one ≤ later) (λ one m. omega arith) commands h.reached;
}

pub ticks_push : (tick : ℕ) (commands : List Sent) (one : Sent) → tick ≤ one.tick → TicksRise tick commands → TicksRise one.tick (commands ++ one ∷ [])
ticks_push tick commands one l h =
    let reached = AllByRecursion-weaker (λ other. tick_of other ≤ tick) (λ other. tick_of other ≤ one.tick) (λ other m. omega arith) commands h.reached in
    let last : one.tick ≤ one.tick = omega arith in
    record {
      in_order = InOrder-append tick_of one.tick commands (one ∷ []) h.in_order reached (last, tt) (tt, tt);
      reached = AllByRecursion-append (λ other. tick_of other ≤ one.tick) commands (one ∷ []) reached (last, tt);
    }

-- ---- the number of the packet is no part of a tick

reached_any : (P : ℕ → Type 0) (number other : ℕ) (entries : List Entry) → AllByRecursion (λ one. P (tick_of one)) (as_sent number entries) → AllByRecursion (λ one. P (tick_of one)) (as_sent other entries)
reached_any P number other [] h = tt
reached_any P number other (one ∷ others) h = (h.0, reached_any P number other others h.1)

reached_behind : (P : ℕ → Type 0) (number other : ℕ) (before : List Sent) (entries : List Entry) → AllByRecursion (λ one. P (tick_of one)) (before ++ as_sent number entries) → AllByRecursion (λ one. P (tick_of one)) (before ++ as_sent other entries)
reached_behind P number other [] entries h = reached_any P number other entries h
reached_behind P number other (one ∷ before) entries h = (h.0, reached_behind P number other before entries h.1)

in_order_any : (number other : ℕ) (entries : List Entry) → InOrder tick_of (as_sent number entries) → InOrder tick_of (as_sent other entries)
in_order_any number other [] h = tt
in_order_any number other (one ∷ others) h = (reached_any (λ tick. one.tick ≤ tick) number other others h.0, in_order_any number other others h.1)

in_order_behind : (number other : ℕ) (before : List Sent) (entries : List Entry) → InOrder tick_of (before ++ as_sent number entries) → InOrder tick_of (before ++ as_sent other entries)
in_order_behind number other [] entries h = in_order_any number other entries h
in_order_behind number other (one ∷ before) entries h =
    (reached_behind (λ tick. tick_of one ≤ tick) number other before entries h.0, in_order_behind number other before entries h.1)

ticks_any : (tick number other : ℕ) (before : List Sent) (entries : List Entry) → TicksRise tick (before ++ as_sent number entries) → TicksRise tick (before ++ as_sent other entries)
ticks_any tick number other before entries h = record {
  in_order = in_order_behind number other before entries h.in_order;
  reached = reached_behind (λ latest. latest ≤ tick) number other before entries h.reached;
}

-- one more step
pub ticks_after : (s : Stream) (step : Step) → TicksRise s.tick (sent_of s ++ pending_of s) → TicksRise (stream_after s step).tick (sent_of (stream_after s step) ++ pending_of (stream_after s step))
ticks_after s Enter h = h
ticks_after s (Play player command tick) h =
    let entry : Entry = record { player = player; serial = s.plays; tick = tick_after s tick; command = command } in
    let number = number_of_pending (played s player command tick) in
    let one : Sent = record { packet = number; tick = tick_after s tick; command = command } in
    let before = ticks_any s.tick (number_of_pending s) number (sent_of s) s.pending h in
    rw (as_sent_push number s.pending entry, ← append_assoc (sent_of s) (as_sent number s.pending) (one ∷ []))
    (ticks_push s.tick (sent_of s ++ as_sent number s.pending) one (le-max_left s.tick tick) before)
ticks_after s (Cut tick) h =
    rw (all_cut s tick) (ticks_later s.tick (tick_after s tick) (sent_of s ++ pending_of s) (le-max_left s.tick tick) h)
ticks_after s (Ack ssrc seq) h = h
ticks_after s (Join ssrc) h = h
ticks_after s (Leave ssrc) h = h
ticks_after s (Hear ssrc seq) h = h
ticks_after s Feedback h = h
ticks_after s (Say port from message now) h = h

ticks_along : (s : Stream) (steps : List Step) → TicksRise s.tick (sent_of s ++ pending_of s) → TicksRise (fold stream_after s steps).tick (sent_of (fold stream_after s steps) ++ pending_of (fold stream_after s steps))
ticks_along s [] h = h
ticks_along s (step ∷ steps) h = ticks_along (stream_after s step) steps (ticks_after s step h)

pub ticks_in_order : (steps : List Step) → TicksRise (stream_of steps).tick (sent_of (stream_of steps) ++ pending_of (stream_of steps))
ticks_in_order steps = ticks_along no_stream steps (record { in_order = tt; reached = tt })
