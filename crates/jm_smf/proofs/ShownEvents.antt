-- The faults of events and of a track are what their octets show.
use Rattle.std.proofs.Common.{◌≡◌, ℕ, ◌+◌, ◌-◌, ◌<◌, eqb, ltb, List, [], ◌∷◌, ◌++◌, drop, take, length, Option, Some, None, Result, Ok, Err, refl, sym, ap, subst, ◌∙◌, arith, inl, inr, IfOk}
use Rattle.std.proofs.lemmas.Bool.{lt-ltb, le-ltb, ltb-true, ne_eqb, cases_Bool}
use Rattle.std.proofs.lemmas.List.{take-append-drop}
use Rattle.std.proofs.Math.Seq.{drop-append_seam}
use Rattle.jm_wire.specs.Readers.{◌>>=◌}
use Rattle.jm_wire.specs.declared.delta.DeltaFault.{DeltaFault}
use Rattle.jm_wire.specs.declared.delta.DeltaFault.TheVariants as fields
use Rattle.jm_wire.specs.Delta.{value, delta_at, IsReadAs}
use Rattle.jm_wire.specs.DeltaReading.{read_as, field_is_read}
use Rattle.jm_cmds.specs.declared.commands.Command.{Command}
use Rattle.jm_cmds.specs.declared.reading.CmdFault.{CmdFault}
use Rattle.jm_cmds.specs.declared.reading.CmdFault.TheVariants as commands
use Rattle.jm_cmds.specs.declared.system_exclusive.SysexFault.{SysexFault}
use Rattle.jm_cmds.specs.SysexMade.{sysex_made}
use Rattle.jm_cmds.specs.Reading.{command_read}
use Rattle.jm_smf.specs.declared.before.Before.{Before}
use Rattle.jm_smf.specs.declared.event.Heard.{Heard}
use Rattle.jm_smf.specs.declared.fault.FileFault.{FileFault}
use Rattle.jm_smf.specs.declared.fault.FileFault.TheVariants.{Short, BadEvent, NoStatus}
use Rattle.jm_smf.specs.Reading.{field_read, block_within, block_read, block_at, is_ended, silent, meta_read, message_heard, message_of, message_read, escape_of, escape_read, channel_heard, running_read, what_read, behind_field, event_read}
use Rattle.jm_smf.specs.Faults.{IsCutOff, IsNever, StandsEvent, some_event, last_event, NeedsStatus, EventShows, event_cut_off, needs_status, never_event}
use Rattle.jm_smf.proofs.Told.{IsTold, never_told}
use Rattle.jm_smf.proofs.SpelledFiles.{ends_there, event_stands}
use Rattle.jm_smf.proofs.ReadEvents.{HasRunning}
use Rattle.jm_smf.proofs.ReadFiles.{NextStands, LastStands, AfterDelta}
use Rattle.jm_smf.proofs.ReadFiles as read
use Rattle.jm_smf.proofs.Lasting.{event_lasts}
use Rattle.jm_smf.proofs.Completing.{event_completes}

-- ---- which faults there are

-- a data octet is first, and none is running
record IsUnled (before : Before) (octets : List ℕ) : Type 0 where
  first : ℕ
  rest : List ℕ
  split : octets ≡ first ∷ rest
  low : first < 128
  none_runs : before.running ≡ None

-- the faults behind a delta, and what the one of them that tells of no status is told of
data Refuses (place : ℕ) (unled : Type 0) : FileFault → Type 0 where
  is_short : Refuses place unled (Short place)
  is_bad : Refuses place unled (BadEvent place)
  is_unled : unled → Refuses place unled (NoStatus place)

abbrev RefusesIn : {A : Type 0} → (place : ℕ) → (unled : Type 0) → Result A FileFault → Type 0
RefusesIn place unled (Ok x) = Unit {0}
RefusesIn place unled (Err f) = Refuses place unled f

refuses_then : {A B : Type 0} (place : ℕ) (unled : Type 0) (r : Result A FileFault) (g : A → Result B FileFault) → RefusesIn place unled r → ((x : A) → r ≡ Ok x → RefusesIn place unled (g x)) → RefusesIn place unled (r >>= g)
refuses_then place unled (Ok x) g h next = next x refl
refuses_then place unled (Err f) g h next = h

field_refuses : (place : ℕ) (unled : Type 0) (read : Result (ℕ × ℕ) DeltaFault) → RefusesIn place unled (field_read place read)
field_refuses place unled (Ok read) = tt
field_refuses place unled (Err fields.Short) = is_short
field_refuses place unled (Err fields.TooLong) = is_bad

within_refuses : (place : ℕ) (unled : Type 0) (octets : List ℕ) (size : ℕ × ℕ) → RefusesIn place unled (block_within place octets size)
within_refuses place unled octets size =
    elim (cases_Bool (ltb (length octets) (size.1 + size.0))) [
      | inl t ↦ rw t is_short
      | inr f ↦ rw f tt
    ]

block_refuses : (place : ℕ) (unled : Type 0) (octets : List ℕ) → RefusesIn place unled (block_read place octets)
unfolding block_read
block_refuses place unled octets =
    refuses_then place unled (field_read place (delta_at octets)) (block_within place octets) (field_refuses place unled (delta_at octets)) (λ size e. within_refuses place unled octets size)

meta_refuses : (place : ℕ) (unled : Type 0) (before : Before) (rest : List ℕ) → RefusesIn place unled (meta_read place before rest)
meta_refuses place unled before [] = is_short
meta_refuses place unled before (kind ∷ rest) =
    elim (cases_Bool (eqb kind 0x2f)) [
      | inl t ↦ rw t tt
      | inr f ↦ rw f (refuses_then place unled (block_read place rest) (λ block. Ok (Some (silent (2 + (block.0 + block.1)) before.unfinished))) (block_refuses place unled rest) (λ block e. tt))
    ]

heard_refuses : (place : ℕ) (unled : Type 0) (before : Before) (used : ℕ) (made : Result (List ℕ) SysexFault) → RefusesIn place unled (message_heard place before used made)
heard_refuses place unled before used (Ok octets) = tt
heard_refuses place unled before used (Err fault) = is_bad

message_of_refuses : (place : ℕ) (unled : Type 0) (before : Before) (used : ℕ) (text : List ℕ) → RefusesIn place unled (message_of place before used text)
message_of_refuses place unled before used text =
    elim (cases_Bool (is_ended text)) [
      | inl t ↦ rw t (heard_refuses place unled before used (sysex_made (take (length text - 1) text)))
      | inr f ↦ rw f tt
    ]

message_refuses : (place : ℕ) (unled : Type 0) (before : Before) (rest : List ℕ) → RefusesIn place unled (message_read place before rest)
unfolding message_read
message_refuses place unled before rest =
    refuses_then place unled (block_read place rest) (λ block. message_of place before (1 + (block.0 + block.1)) (block_at block rest)) (block_refuses place unled rest) (λ block e. message_of_refuses place unled before (1 + (block.0 + block.1)) (block_at block rest))

escape_refuses : (place : ℕ) (unled : Type 0) (before : Before) (rest : List ℕ) → RefusesIn place unled (escape_read place before rest)
unfolding escape_read
escape_refuses place unled before rest =
    refuses_then place unled (block_read place rest) (λ block. Ok (Some (escape_of before (1 + (block.0 + block.1)) (block_at block rest)))) (block_refuses place unled rest) (λ block e. tt)

channel_refuses : (place : ℕ) (unled : Type 0) (before : Before) (status elsewhere : ℕ) (read : Result (Command × ℕ) CmdFault) → RefusesIn place unled (channel_heard place before status elsewhere read)
channel_refuses place unled before status elsewhere (Ok read) = tt
channel_refuses place unled before status elsewhere (Err commands.Short) = is_short
channel_refuses place unled before status elsewhere (Err commands.Empty) = is_bad
channel_refuses place unled before status elsewhere (Err commands.DataOctet) = is_bad
channel_refuses place unled before status elsewhere (Err (commands.BadStatus n)) = is_bad
channel_refuses place unled before status elsewhere (Err (commands.BadData k)) = is_bad
channel_refuses place unled before status elsewhere (Err commands.TooLong) = is_bad

running_refuses : (place : ℕ) (before : Before) (running : Option ℕ) (first : ℕ) (rest : List ℕ) → before.running ≡ running → first < 128 → RefusesIn place (IsUnled before (first ∷ rest)) (running_read place before running (first ∷ rest))
running_refuses place before None first rest e low = is_unled (record { first = first; rest = rest; split = refl; low = low; none_runs = e })
running_refuses place before (Some status) first rest e low = channel_refuses place (IsUnled before (first ∷ rest)) before status 1 (command_read (status ∷ take 2 (first ∷ rest)))

what_refuses : (place : ℕ) (before : Before) (octets : List ℕ) → RefusesIn place (IsUnled before octets) (what_read place before octets)
unfolding what_read
what_refuses place before [] = is_short
what_refuses place before (first ∷ rest) =
    let unled = IsUnled before (first ∷ rest) in
    elim (cases_Bool (eqb first 0xff)) [
      | inl t ↦ rw t (meta_refuses place unled before rest)
      | inr ff ↦ elim (cases_Bool (eqb first 0xf0)) [
        | inl t ↦ rw (ff, t) (message_refuses place unled before rest)
        | inr f0 ↦ elim (cases_Bool (eqb first 0xf7)) [
          | inl t ↦ rw (ff, f0, t) (escape_refuses place unled before rest)
          | inr f7 ↦ elim (cases_Bool (ltb 0xf0 first)) [
            | inl t ↦ rw (ff, f0, f7, t) is_bad
            | inr low ↦ elim (cases_Bool (ltb first 0x80)) [
              | inl t ↦ rw (ff, f0, f7, low, t) (running_refuses place before before.running first rest refl (ltb-true first 0x80 t))
              | inr high ↦ rw (ff, f0, f7, low, high) (channel_refuses place unled before first 0 (command_read (first ∷ rest)))
            ]
          ]
        ]
      ]
    ]

led_by : (before : Before) (octets : List ℕ) (v n : ℕ) → IsReadAs octets v n → IsUnled before (drop n octets) → NeedsStatus before octets
led_by before octets v n r u = record {
  field = take n octets;
  first = u.first;
  rest = u.rest;
  field_is = r.field;
  split = sym (take-append-drop n octets) ∙ ap (λ (t : List ℕ). take n octets ++ t) u.split;
  low = u.low;
  none_runs = u.none_runs;
}

weaker : {A : Type 0} (place : ℕ) (a b : Type 0) (r : Result A FileFault) → (a → b) → RefusesIn place a r → RefusesIn place b r
weaker place a b (Ok x) h s = tt
weaker place a b (Err f) h s = by_fault f s
  where
    by_fault : (f : FileFault) → Refuses place a f → Refuses place b f
    by_fault f is_short = is_short
    by_fault f is_bad = is_bad
    by_fault f (is_unled u) = is_unled (h u)

event_refuses : (place : ℕ) (before : Before) (octets : List ℕ) → RefusesIn place (NeedsStatus before octets) (event_read place before octets)
unfolding event_read
event_refuses place before octets = by_field (delta_at octets) (read_as octets (delta_at octets) refl)
  where
    by_field : (read : Result (ℕ × ℕ) DeltaFault) → IfOk read (λ x. IsReadAs octets x.0 x.1)
        → RefusesIn place (NeedsStatus before octets) (field_read place read >>= λ field. (what_read place before (drop field.1 octets) >>= λ what. Ok (behind_field field what)))
    by_field (Ok (v, n)) r =
        refuses_then place (NeedsStatus before octets) (what_read place before (drop n octets)) (λ what. Ok (behind_field (v, n) what))
        (weaker place (IsUnled before (drop n octets)) (NeedsStatus before octets) (what_read place before (drop n octets)) (led_by before octets v n r) (what_refuses place before (drop n octets)))
        (λ what e. tt)
    by_field (Err fields.Short) r = is_short
    by_field (Err fields.TooLong) r = is_bad

-- ---- where a status is needed

unled_is_read : (place : ℕ) (before : Before) (first : ℕ) (rest : List ℕ) → first < 128 → before.running ≡ None → what_read place before (first ∷ rest) ≡ Err (NoStatus place)
unfolding what_read
unled_is_read place before first rest low e =
    rw (ne_eqb first 0xff (λ e. omega arith), ne_eqb first 0xf0 (λ e. omega arith), ne_eqb first 0xf7 (λ e. omega arith), le-ltb 0xf0 first (omega arith), lt-ltb first 0x80 low)
    (ap (λ (running : Option ℕ). running_read place before running (first ∷ rest)) e)

pub needs_is_read : (place : ℕ) (before : Before) (octets : List ℕ) → NeedsStatus before octets → event_read place before octets ≡ Err (NoStatus place)
unfolding event_read
needs_is_read place before octets n =
    let read = field_is_read octets n.field (n.first ∷ n.rest) n.split n.field_is in
    let left : drop (length n.field) octets ≡ n.first ∷ n.rest = ap (λ (t : List ℕ). drop (length n.field) t) n.split ∙ drop-append_seam n.field (n.first ∷ n.rest) in
    rw (read, left, unled_is_read place before n.first n.rest n.low n.none_runs) refl

-- ---- what stands is read

pub stands_told : (place : ℕ) (before : Before) (octets : List ℕ) → StandsEvent before octets → IsTold (event_read place before octets)
stands_told place before octets (some_event field text rest commands after f s) =
    record { value = Some (value field, record { commands = commands; used = length field + length text; after = after }); told = event_stands place before field text rest commands after f s }
stands_told place before octets (last_event field rest f) = record { value = None; told = ends_there place before field rest f }

pub told_stands : (before : Before) (octets : List ℕ) (next : Option (ℕ × Heard)) → AfterDelta before octets next → StandsEvent before octets
told_stands before octets None s = subst (StandsEvent before) (sym s.split) (last_event s.field s.rest s.field_is)
told_stands before octets (Some (delta, heard)) s = subst (StandsEvent before) (sym s.split) (some_event s.field s.text s.rest heard.commands heard.after s.field_is s.spelled)

-- ---- faults of events

-- The fault of an event is what its octets show.
pub event_shows : (place : ℕ) (before : Before) (octets : List ℕ) (f : FileFault) → HasRunning before → event_read place before octets ≡ Err f → EventShows place before octets f
event_shows place before octets f h e = by_fault f (rw e at (event_refuses place before octets)) e
  where
    none_stands : (g : FileFault) → event_read place before octets ≡ Err g → StandsEvent before octets → ⊥
    none_stands g e s = never_told (event_read place before octets) g (stands_told place before octets s) e

    cut_off : event_read place before octets ≡ Err (Short place) → IsCutOff (StandsEvent before) octets
    cut_off e =
        let c = event_completes place before octets h (rw e tt) in
        record {
          none_yet = none_stands (Short place) e;
          more = c.more;
          whole = told_stands before (octets ++ c.more) c.read_is (rw c.completed at (read.event_stands place before (octets ++ c.more) h));
        }

    never : event_read place before octets ≡ Err (BadEvent place) → IsNever (StandsEvent before) octets
    never e more s =
        let later : event_read place before (octets ++ more) ≡ Err (BadEvent place) = event_lasts place before octets more h (rw e tt) ∙ e in
        never_told (event_read place before (octets ++ more)) (BadEvent place) (stands_told place before (octets ++ more) s) later

    other_fault : ◌≡◌ {A = Result (Option (ℕ × Heard)) FileFault} (Err (NoStatus place)) (Err (BadEvent place)) → ⊥
    other_fault e = cc

    by_fault : (f : FileFault) → Refuses place (NeedsStatus before octets) f → event_read place before octets ≡ Err f → EventShows place before octets f
    by_fault f is_short e = event_cut_off (cut_off e)
    by_fault f is_bad e = never_event (λ n. other_fault (sym (needs_is_read place before octets n) ∙ e)) (never e)
    by_fault f (is_unled n) e = needs_status n
