-- The fault of a track is what its octets show, and what octets show is told.
use Rattle.std.proofs.Common.{◌≡◌, ℕ, zero, suc, ◌+◌, ◌≤◌, true, false, List, [], ◌∷◌, ◌++◌, drop, length, Option, Some, None, Result, Ok, Err, refl, sym, ap, subst, ◌∙◌, append_assoc, length-append, length-drop, arith, IfOk, IfErr}
use Rattle.std.proofs.lemmas.List.{append-nil}
use Rattle.std.proofs.Math.Seq.{drop-append_seam, drop-append-add}
use Rattle.jm_wire.specs.Readers.{◌>>=◌}
use Rattle.jm_wire.specs.Delta.{value}
use Rattle.jm_wire.specs.DeltaReading.{short_is}
use Rattle.jm_cmds.specs.declared.commands.Command.{Command}
use Rattle.jm_cmds.specs.Command.{status_of}
use Rattle.jm_smf.specs.declared.before.Before.{Before}
use Rattle.jm_smf.specs.declared.event.Heard.{Heard}
use Rattle.jm_smf.specs.declared.fault.FileFault.{FileFault}
use Rattle.jm_smf.specs.declared.fault.FileFault.TheVariants.{Short, NoStatus}
use Rattle.jm_smf.specs.Reading.{event_read, before_events, track_read, timed_at}
use Rattle.jm_smf.specs.Grammar.{SpellsEvent, with_status, without_status, meta, message, message_begins, message_goes_on, message_ends, escape}
use Rattle.jm_smf.specs.Faults.{IsCutOff, StandsEvent, NeedsStatus, EventShows, event_cut_off, needs_status, never_event, WholeEvents, no_event, event_then, TrackShows}
use Rattle.jm_smf.proofs.Told.{never_told, same_fault, no_length}
use Rattle.jm_smf.proofs.SpelledFiles.{some_octet, event_stands}
use Rattle.jm_smf.proofs.ReadEvents.{HasRunning, none_running, some_running}
use Rattle.jm_smf.proofs.ReadFiles.{NextStands, AfterDelta}
use Rattle.jm_smf.proofs.ReadFiles as read
use Rattle.jm_smf.proofs.ShownEvents.{needs_is_read, stands_told, told_stands, event_shows}

-- ---- events

needs_more : (before : Before) (octets more : List ℕ) → NeedsStatus before octets → NeedsStatus before (octets ++ more)
needs_more before octets more n = record {
  field = n.field;
  first = n.first;
  rest = n.rest ++ more;
  field_is = n.field_is;
  split = ap (λ (t : List ℕ). t ++ more) n.split ∙ append_assoc n.field (n.first ∷ n.rest) more;
  low = n.low;
  none_runs = n.none_runs;
}

-- an event that needs a status isn't cut off
needs_never : (before : Before) (octets : List ℕ) → NeedsStatus before octets → IsCutOff (StandsEvent before) octets → ⊥
needs_never before octets n c =
    never_told (event_read 0 before (octets ++ c.more)) (NoStatus 0) (stands_told 0 before (octets ++ c.more) c.whole) (needs_is_read 0 before (octets ++ c.more) (needs_more before octets c.more n))

-- octets show one fault
one_shown : (place : ℕ) (before : Before) (octets : List ℕ) (f g : FileFault) → EventShows place before octets f → EventShows place before octets g → f ≡ g
one_shown place before octets f g (event_cut_off a) (event_cut_off b) = refl
one_shown place before octets f g (event_cut_off a) (needs_status n) = absurd (needs_never before octets n a)
one_shown place before octets f g (event_cut_off a) (never_event u n) = absurd (n a.more a.whole)
one_shown place before octets f g (needs_status n) (event_cut_off b) = absurd (needs_never before octets n b)
one_shown place before octets f g (needs_status a) (needs_status b) = refl
one_shown place before octets f g (needs_status a) (never_event u n) = absurd (u a)
one_shown place before octets f g (never_event u n) (event_cut_off b) = absurd (n b.more b.whole)
one_shown place before octets f g (never_event u n) (needs_status b) = absurd (u b)
one_shown place before octets f g (never_event u n) (never_event v m) = refl

none_stands : (place : ℕ) (before : Before) (octets : List ℕ) (f : FileFault) → EventShows place before octets f → StandsEvent before octets → ⊥
none_stands place before octets f (event_cut_off c) s = c.none_yet s
none_stands place before octets f (needs_status n) s = never_told (event_read 0 before octets) (NoStatus 0) (stands_told 0 before octets s) (needs_is_read 0 before octets n)
none_stands place before octets f (never_event u n) s = n [] (subst (StandsEvent before) (sym (append-nil octets)) s)

-- What octets show where an event has to begin is told.
pub shown_is_told : (place : ℕ) (before : Before) (octets : List ℕ) (f : FileFault) → HasRunning before → EventShows place before octets f → event_read place before octets ≡ Err f
shown_is_told place before octets f h s = by_read (event_read place before octets) refl
  where
    by_read : (r : Result (Option (ℕ × Heard)) FileFault) → event_read place before octets ≡ r → r ≡ Err f
    by_read (Ok next) e = absurd (none_stands place before octets f s (told_stands before octets next (rw e at (read.event_stands place before octets h))))
    by_read (Err g) e = ap (λ (fault : FileFault). Err fault) (one_shown place before octets g f (event_shows place before octets g h e) s)

-- ---- the track

leaves_running : (before : Before) (text : List ℕ) (commands : List Command) (after : Before) → SpellsEvent before text commands after → HasRunning after
leaves_running before text commands after (with_status command h low) = some_running (status_of command) before.unfinished low
leaves_running before text commands after (without_status command h low e) = some_running (status_of command) before.unfinished low
leaves_running before text commands after (meta kind block octets other b) = none_running before.unfinished
leaves_running before text commands after (message block octets h b) = none_running before.unfinished
leaves_running before text commands after (message_begins block octets u b) = none_running true
leaves_running before text commands after (message_goes_on block octets is u b) = none_running true
leaves_running before text commands after (message_ends block octets is b) = none_running false
leaves_running before text commands after (escape block octets others is b told) = none_running false

nothing_there : (place : ℕ) (before : Before) → event_read place before [] ≡ Err (Short place)
unfolding event_read
nothing_there place before = rw ((short_is []).1 (refl, omega arith)) refl

shows_here : (place : ℕ) (before : Before) (octets : List ℕ) (f : FileFault) → EventShows place before octets f → TrackShows place before octets f
shows_here place before octets f s = record {
  front = [];
  rest = octets;
  last = before;
  split = refl;
  whole = no_event before;
  shown = subst (λ (p : ℕ). EventShows p before octets f) (no_length place) s;
}

behind_event : (place : ℕ) (before : Before) (octets : List ℕ) (delta : ℕ) (heard : Heard) (s : NextStands before octets delta heard) → drop heard.used octets ≡ s.rest → (f : FileFault)
    → TrackShows (place + heard.used) heard.after (drop heard.used octets) f → TrackShows place before octets f
behind_event place before octets delta heard s left f t =
    let front = s.field ++ (s.text ++ t.front) in
    let all = length-append s.field (s.text ++ t.front) in
    let both = length-append s.text t.front in
    let used = s.used_is in
    let there : place + heard.used + length t.front ≡ place + length front = omega (arith, all, both, used) in
    record {
      front = front;
      rest = t.rest;
      last = t.last;
      split =
          s.split
          ∙ ap (λ (x : List ℕ). s.field ++ (s.text ++ x)) (sym left ∙ t.split)
          ∙ ap (λ (x : List ℕ). s.field ++ x) (sym (append_assoc s.text t.front t.rest))
          ∙ sym (append_assoc s.field (s.text ++ t.front) t.rest);
      whole = event_then before heard.after t.last s.field s.text t.front heard.commands s.field_is s.spelled t.whole;
      shown = subst (λ (p : ℕ). EventShows p t.last t.rest f) there t.shown;
    }

fault_then : {A B : Type 0} (r : Result A FileFault) (g : A → B) (P Q : FileFault → Type 0) → ((f : FileFault) → P f → Q f) → IfErr r P → IfErr (r >>= λ x. Ok (g x)) Q
fault_then (Ok x) g P Q h e = tt
fault_then (Err f) g P Q h e = h f e

-- The fault of a track is what its octets show.
pub track_shows : (n place tick : ℕ) (before : Before) (octets : List ℕ) → length octets ≤ n → HasRunning before → IfErr (track_read n place tick before octets) (TrackShows place before octets)
unfolding track_read
track_shows zero place tick before [] few h = shows_here place before [] (Short place) (event_shows place before [] (Short place) h (nothing_there place before))
track_shows zero place tick before (o ∷ octets) few h = absurd (omega (arith, few))
track_shows (suc n) place tick before octets few h =
    by_read (event_read place before octets) refl (read.event_stands place before octets h) (λ delta heard some running. track_shows n (place + heard.used) (tick + delta) heard.after (drop heard.used octets) (omega (arith, few, some, length-drop heard.used octets)) running)
  where
    by_read : (r : Result (Option (ℕ × Heard)) FileFault) → event_read place before octets ≡ r → IfOk r (AfterDelta before octets)
        → ((delta : ℕ) (heard : Heard) → 1 ≤ heard.used → HasRunning heard.after → IfErr (track_read n (place + heard.used) (tick + delta) heard.after (drop heard.used octets)) (TrackShows (place + heard.used) heard.after (drop heard.used octets)))
        → IfErr (r >>= λ next. before_events tick next (λ x. track_read n (place + x.1.used) (tick + x.0) x.1.after (drop x.1.used octets))) (TrackShows place before octets)
    by_read (Err f) e s later = shows_here place before octets f (event_shows place before octets f h e)
    by_read (Ok None) e s later = tt
    by_read (Ok (Some (delta, heard))) e s later =
        let some = some_octet s.field s.field_is in
        let used = s.used_is in
        let left : drop heard.used octets ≡ s.rest =
        ap (λ (k : ℕ). drop k octets) s.used_is ∙ ap (λ (x : List ℕ). drop (length s.field + length s.text) x) s.split
        ∙ drop-append-add s.field (s.text ++ s.rest) (length s.text) ∙ drop-append_seam s.text s.rest in
        fault_then (track_read n (place + heard.used) (tick + delta) heard.after (drop heard.used octets)) (λ list. timed_at (tick + delta) heard.commands ++ list) (TrackShows (place + heard.used) heard.after (drop heard.used octets)) (TrackShows place before octets)
        (behind_event place before octets delta heard s left) (later delta heard (omega (arith, some, used)) s.running)

shown_behind : (n place tick : ℕ) (before last : Before) (front rest : List ℕ) (f : FileFault) → WholeEvents before front last → length (front ++ rest) ≤ n → HasRunning before → EventShows (place + length front) last rest f
    → track_read n place tick before (front ++ rest) ≡ Err f
unfolding track_read
shown_behind zero place tick before last front [] f (no_event old) few h s =
    ap (λ (fault : FileFault). Err fault)
    (same_fault {A = Option (ℕ × Heard)} (Short place) f (sym (nothing_there place old) ∙ shown_is_told place old [] f h (subst (λ (p : ℕ). EventShows p old [] f) (sym (no_length place)) s)))
shown_behind zero place tick before last front (o ∷ rest) f (no_event old) few h s = absurd (omega (arith, few))
shown_behind (suc n) place tick before last front rest f (no_event old) few h s =
    rw (shown_is_told place old rest f h (subst (λ (p : ℕ). EventShows p old rest f) (sym (no_length place)) s)) refl
shown_behind zero place tick before last front rest f (event_then old after end field text others commands field_is spelled whole) few h s =
    let some = some_octet field field_is in
    let all = length-append (field ++ (text ++ others)) rest in
    let len = length-append field (text ++ others) in
    absurd (omega (arith, few, some, all, len))
shown_behind (suc n) place tick before last front rest f (event_then old after end field text others commands field_is spelled whole) few h s =
    let some = some_octet field field_is in
    let all = length-append (field ++ (text ++ others)) rest in
    let len = length-append field (text ++ others) in
    let len' = length-append text others in
    let behind = length-append others rest in
    let join : (field ++ (text ++ others)) ++ rest ≡ field ++ (text ++ (others ++ rest)) = append_assoc field (text ++ others) rest ∙ ap (λ (x : List ℕ). field ++ x) (append_assoc text others rest) in
    let left : drop (length field + length text) (field ++ (text ++ (others ++ rest))) ≡ others ++ rest = drop-append-add field (text ++ (others ++ rest)) (length text) ∙ drop-append_seam text (others ++ rest) in
    let there : place + length (field ++ (text ++ others)) ≡ place + (length field + length text) + length others = omega (arith, len, len') in
    let later = shown_behind n (place + (length field + length text)) (tick + value field) after end others rest f whole (omega (arith, few, some, all, len, len', behind)) (leaves_running old text commands after spelled) (subst (λ (p : ℕ). EventShows p end rest f) there s) in
    rw (join, event_stands place old field text (others ++ rest) commands after field_is spelled, left, later) refl

-- What the octets of a track show is told.
pub track_told : (n place tick : ℕ) (before : Before) (octets : List ℕ) (f : FileFault) → length octets ≤ n → HasRunning before → TrackShows place before octets f → track_read n place tick before octets ≡ Err f
track_told n place tick before octets f few h t =
    ap (track_read n place tick before) t.split ∙ shown_behind n place tick before t.last t.front t.rest f t.whole (subst (λ (x : List ℕ). length x ≤ n) t.split few) h t.shown
