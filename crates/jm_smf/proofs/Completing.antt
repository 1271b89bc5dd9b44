-- Where reading an event tells that the octets end too early, some octets behind them make it one.
use Rattle.std.proofs.Common.{◌≡◌, ◌≢◌, ℕ, zero, suc, ◌+◌, ◌-◌, ◌≤◌, ◌<◌, Bool, true, false, eqb, ltb, List, [], ◌∷◌, ◌++◌, drop, take, get_or, length, Option, Some, None, Result, Ok, Err, refl, sym, ap, subst, ◌∙◌, append_assoc, length-append, length-drop, add-one, arith, inl, inr, IfOk}
use Rattle.std.specs.Prelude.{replicate}
use Rattle.std.proofs.lemmas.Bool.{lt-ltb, le-ltb, le-leb, ltb-true, ltb-false, eqb-true, eqb-false, cases_Bool, cases_lt}
use Rattle.std.proofs.lemmas.List.{append-nil, take-append-drop, length-replicate, drop-append-le}
use Rattle.std.proofs.Math.Seq.{get_or-append_seam}
use Rattle.jm_wire.specs.Readers.{◌>>=◌}
use Rattle.jm_wire.specs.declared.delta.DeltaFault.{DeltaFault}
use Rattle.jm_wire.specs.declared.delta.DeltaFault.TheVariants as fields
use Rattle.jm_wire.specs.Delta.{value, ends_at_last, high_run, delta_at, IsField, IsReadAs}
use Rattle.jm_wire.specs.DeltaReading.{read_as, short_is}
use Rattle.jm_cmds.specs.declared.commands.Command.{Command}
use Rattle.jm_cmds.specs.declared.reading.CmdFault.{CmdFault}
use Rattle.jm_cmds.specs.declared.reading.CmdFault.TheVariants as commands
use Rattle.jm_cmds.specs.declared.system_exclusive.SysexFault.{SysexFault}
use Rattle.jm_cmds.specs.SysexMade.{sysex_made}
use Rattle.jm_cmds.specs.Data.{is_data}
use Rattle.jm_cmds.specs.Reading.{with_one, with_two, channel_read, after_status, command_read}
use Rattle.jm_smf.specs.declared.before.Before.{Before}
use Rattle.jm_smf.specs.declared.event.Heard.{Heard}
use Rattle.jm_smf.specs.declared.fault.FileFault.{FileFault}
use Rattle.jm_smf.specs.declared.fault.FileFault.TheVariants.{Short}
use Rattle.jm_smf.specs.Reading.{field_read, block_within, block_read, block_at, is_ended, silent, meta_read, message_of, message_read, message_heard, or_none, commands_read, escape_of, escape_read, channel_heard, running_read, what_read, behind_field, event_read}
use Rattle.jm_smf.specs.Grammar.{IsBlock, IsUnended, no_running, message_begun, message_ended, SpellsEvent, meta, message_begins, message_goes_on, escape}
use Rattle.jm_smf.proofs.SpelledEvents.{event_is_read}
use Rattle.jm_smf.proofs.SpelledFiles.{ends_there}
use Rattle.jm_smf.proofs.ReadEvents.{HasRunning, escaped}
use Rattle.jm_smf.proofs.Lasting.{field_stays, channel_by}

-- with these octets behind, reading gives something
pub record IsCompleted {A : Type 0} (read : List ℕ → Result A FileFault) (octets : List ℕ) : Type 0 where
  pub more : List ℕ
  pub read_is : A
  pub completed : read (octets ++ more) ≡ Ok read_is

abbrev pub IsShort : {A : Type 0} → Result A FileFault → Type 0
IsShort (Ok x) = ⊥
IsShort (Err (Short place)) = Unit {0}
IsShort (Err _) = ⊥

-- ---- fields and blocks

run_low : (o : ℕ) (octets : List ℕ) → o < 128 → high_run (o ∷ octets) ≡ 0
run_low o octets h = rw (lt-ltb o 128 h) refl

run_high : (o : ℕ) (octets : List ℕ) → 128 ≤ o → high_run (o ∷ octets) ≡ high_run octets + 1
run_high o octets h = rw (le-ltb o 128 h) refl

-- octets with the high bit alone, and one without it
low_ends : (octets : List ℕ) → high_run octets ≡ length octets → ends_at_last (octets ++ 0 ∷ []) ≡ true
low_ends [] e = refl
low_ends (o ∷ octets) e =
    elim (cases_lt o 128) [
      | inl low ↦ let none = run_low o octets low in absurd (omega (arith, none, e))
      | inr high ↦ let run = run_high o octets high in ends_by o octets high (low_ends octets (omega (arith, run, e)))
    ]
  where
    ends_by : (o : ℕ) (octets : List ℕ) → 128 ≤ o → ends_at_last (octets ++ 0 ∷ []) ≡ true → ends_at_last (o ∷ (octets ++ 0 ∷ [])) ≡ true
    ends_by o [] high t = rw (le-leb 128 o high) refl
    ends_by o (p ∷ octets) high t = rw (le-leb 128 o high) t

-- a field that ends too early is one with one octet more
field_completed : (octets : List ℕ) → delta_at octets ≡ Err fields.Short → IsField (octets ++ 0 ∷ [])
field_completed octets e =
    let s = (short_is octets).0 e in
    let few = s.1 in
    let len : length (octets ++ 0 ∷ []) ≡ length octets + 1 = grind (arith, length-append, add-one) in
    record { ended = low_ends octets s.0; few = omega (arith, len, few) }

-- octets that end in 0 end in no F7
zero_unended : (octets : List ℕ) → IsUnended (octets ++ 0 ∷ [])
zero_unended octets front e =
    let a : length (octets ++ 0 ∷ []) ≡ length octets + 1 = grind (arith, length-append, add-one) in
    let b : length (front ++ 0xf7 ∷ []) ≡ length front + 1 = grind (arith, length-append, add-one) in
    let same : length (octets ++ 0 ∷ []) ≡ length (front ++ 0xf7 ∷ []) = ap (λ (t : List ℕ). length t) e in
    let n : length octets ≡ length front = omega (arith, a, b, same) in
    let last : 0 ≡ 0xf7 =
    sym (get_or-append_seam octets 0 [] 1) ∙ ap (λ (t : List ℕ). get_or t (length octets) 1) e ∙ ap (λ (k : ℕ). get_or (front ++ 0xf7 ∷ []) k 1) n ∙ get_or-append_seam front 0xf7 [] 1 in
    omega (arith, last)

nothing_unended : IsUnended []
nothing_unended [] e = absurd cc
nothing_unended (x ∷ front) e = absurd cc

-- a block that some octets behind make whole, and that doesn't end a message
record BlockCompleted (octets : List ℕ) : Type 0 where
  more : List ℕ
  text : List ℕ
  inside : List ℕ
  is_block : IsBlock text inside
  joined : octets ++ more ≡ text
  unended : IsUnended inside

-- so many octets of 0
filled_by : (field front : List ℕ) (missing : ℕ) → IsField field → value field ≡ length front + missing → 0 < missing → BlockCompleted (field ++ front)
filled_by field front zero f size some = absurd (omega (arith, some))
filled_by field front (suc missing) f size some =
    let zeros = replicate missing 0 in
    let inside = (front ++ zeros) ++ 0 ∷ [] in
    let len : length inside ≡ length (front ++ zeros) + 1 = grind (arith, length-append, add-one) in
    let len' = length-append front zeros in
    let many = length-replicate {A = ℕ} missing 0 in
    record {
      more = zeros ++ 0 ∷ [];
      text = field ++ inside;
      inside = inside;
      is_block = record { field = field; field_is = f; size_is = omega (arith, size, len, len', many); text_is = refl };
      joined = append_assoc field front (zeros ++ 0 ∷ []) ∙ ap (λ (t : List ℕ). field ++ t) (sym (append_assoc front zeros (0 ∷ [])));
      unended = zero_unended (front ++ zeros);
    }

-- a field that came to its end, and as many octets of 0 as it tells
filled : (octets : List ℕ) (v : ℕ) → IsField (octets ++ 0 ∷ []) → value (octets ++ 0 ∷ []) ≡ v → BlockCompleted octets
filled octets zero f e = record {
  more = 0 ∷ [];
  text = octets ++ 0 ∷ [];
  inside = [];
  is_block = record { field = octets ++ 0 ∷ []; field_is = f; size_is = e; text_is = sym (append-nil (octets ++ 0 ∷ [])) };
  joined = refl;
  unended = nothing_unended;
}
filled octets (suc v) f e =
    let b = filled_by (octets ++ 0 ∷ []) [] (suc v) f (e ∙ omega arith) (omega arith) in
    record {
      more = 0 ∷ b.more;
      text = b.text;
      inside = b.inside;
      is_block = b.is_block;
      joined = sym (append_assoc octets (0 ∷ []) b.more) ∙ ap (λ (t : List ℕ). t ++ b.more) (sym (append-nil (octets ++ 0 ∷ []))) ∙ b.joined;
      unended = b.unended;
    }

block_completed : (place : ℕ) (octets : List ℕ) → IsShort (block_read place octets) → BlockCompleted octets
unfolding block_read
block_completed place octets = by_read (delta_at octets) refl (read_as octets (delta_at octets) refl)
  where
    by_read : (read : Result (ℕ × ℕ) DeltaFault) → delta_at octets ≡ read → IfOk read (λ x. IsReadAs octets x.0 x.1) → IsShort (field_read place read >>= block_within place octets) → BlockCompleted octets
    by_read (Err fields.Short) e r s = filled octets (value (octets ++ 0 ∷ [])) (field_completed octets e) refl
    by_read (Err fields.TooLong) e r s = absurd s
    by_read (Ok (v, n)) e r s =
        elim (cases_Bool (ltb (length octets) (n + v))) [
          | inl t ↦
              let few = ltb-true (length octets) (n + v) t in
              let left = length-drop n octets in
              let inside = r.inside in
              let more : 0 < v - length (drop n octets) = omega (arith, few, left, inside) in
              let size : value (take n octets) ≡ length (drop n octets) + (v - length (drop n octets)) = r.value_is ∙ omega (arith, more) in
              subst BlockCompleted (take-append-drop n octets) (filled_by (take n octets) (drop n octets) (v - length (drop n octets)) r.field size more)
          | inr f ↦ absurd (rw f at s)
        ]

-- ---- channel commands

abbrev IsShortCommand : Result (Command × ℕ) CmdFault → Type 0
IsShortCommand (Ok read) = ⊥
IsShortCommand (Err commands.Short) = Unit {0}
IsShortCommand (Err _) = ⊥

record IsGiven (later : Result (Command × ℕ) CmdFault) : Type 0 where
  read : Command × ℕ
  given : later ≡ Ok read

abbrev Completes : Result (Command × ℕ) CmdFault → Result (Command × ℕ) CmdFault → Type 0
Completes read later = IsShortCommand read → IsGiven later

one_completes : (made : ℕ → Command) (rest : List ℕ) → Completes (with_one made rest) (with_one made (rest ++ 0 ∷ 0 ∷ []))
one_completes made [] s = record { read = (made 0, 2); given = refl }
one_completes made (value ∷ rest) s =
    elim (cases_Bool (is_data value)) [
      | inl t ↦ absurd (rw t at s)
      | inr f ↦ absurd (rw f at s)
    ]

two_complete : (made : ℕ → ℕ → Command) (rest : List ℕ) → Completes (with_two made rest) (with_two made (rest ++ 0 ∷ 0 ∷ []))
two_complete made [] s = record { read = (made 0 0, 3); given = refl }
two_complete made (value ∷ []) s =
    elim (cases_Bool (is_data value)) [
      | inl t ↦ record { read = (made value 0, 3); given = rw t refl }
      | inr f ↦ absurd (rw f at s)
    ]
two_complete made (value ∷ next ∷ rest) s =
    elim (cases_Bool (is_data value)) [
      | inl t ↦ elim (cases_Bool (is_data next)) [
        | inl u ↦ absurd (rw (t, u) at s)
        | inr g ↦ absurd (rw (t, g) at s)
      ]
      | inr f ↦ absurd (rw f at s)
    ]

-- with a first data octet there, one more is enough
one_completes_first : (made : ℕ → Command) (first : ℕ) → Completes (with_one made (first ∷ [])) (with_one made (first ∷ 0 ∷ []))
one_completes_first made first s =
    elim (cases_Bool (is_data first)) [
      | inl t ↦ absurd (rw t at s)
      | inr f ↦ absurd (rw f at s)
    ]

two_complete_first : (made : ℕ → ℕ → Command) (first : ℕ) → Completes (with_two made (first ∷ [])) (with_two made (first ∷ 0 ∷ []))
two_complete_first made first s =
    elim (cases_Bool (is_data first)) [
      | inl t ↦ record { read = (made first 0, 3); given = rw t refl }
      | inr f ↦ absurd (rw f at s)
    ]

command_completes : (status : ℕ) (rest later : List ℕ) → status < 240 → Completes (channel_read status rest) (channel_read status later) → Completes (command_read (status ∷ rest)) (command_read (status ∷ later))
unfolding command_read after_status
command_completes status rest later low c =
    elim (cases_Bool (ltb status 128)) [
      | inl t ↦ rw t (λ s. absurd s)
      | inr f ↦ rw (f, lt-ltb status 240 low) c
    ]

heard_short : (place : ℕ) (before : Before) (status elsewhere : ℕ) (read : Result (Command × ℕ) CmdFault) → IsShort (channel_heard place before status elsewhere read) → IsShortCommand read
heard_short place before status elsewhere (Ok read) s = absurd s
heard_short place before status elsewhere (Err commands.Short) s = tt
heard_short place before status elsewhere (Err commands.Empty) s = absurd s
heard_short place before status elsewhere (Err commands.DataOctet) s = absurd s
heard_short place before status elsewhere (Err (commands.BadStatus n)) s = absurd s
heard_short place before status elsewhere (Err (commands.BadData k)) s = absurd s
heard_short place before status elsewhere (Err commands.TooLong) s = absurd s

-- ---- what stands behind a delta

completed_by : (place : ℕ) (before : Before) (octets more text : List ℕ) (commands : List Command) (after : Before) → octets ++ more ≡ text → SpellsEvent before text commands after
    → IsCompleted (what_read place before) octets
completed_by place before octets more text commands after joined spelled = record {
  more = more;
  read_is = Some (record { commands = commands; used = length text; after = after });
  completed = ap (what_read place before) (joined ∙ sym (append-nil text)) ∙ event_is_read place before text commands after [] spelled;
}

unless_ok : {A B : Type 0} (r : Result A FileFault) (g : A → B) → IsShort (r >>= λ x. Ok (g x)) → IsShort r
unless_ok (Ok x) g s = absurd s
unless_ok (Err f) g s = s

end_is_read : (place : ℕ) (before : Before) → what_read place before (0xff ∷ 0x2f ∷ []) ≡ Ok None
unfolding what_read
end_is_read place before = refl

meta_completes : (place : ℕ) (before : Before) (rest : List ℕ) → IsShort (meta_read place before rest) → IsCompleted (what_read place before) (0xff ∷ rest)
meta_completes place before [] s = record { more = 0x2f ∷ []; read_is = None; completed = end_is_read place before }
meta_completes place before (kind ∷ rest) s =
    elim (cases_Bool (eqb kind 0x2f)) [
      | inl t ↦ absurd (rw t at s)
      | inr f ↦
          let told : ℕ × ℕ → Option Heard = λ block. Some (silent (2 + (block.0 + block.1)) before.unfinished) in
          let b = block_completed place rest (unless_ok (block_read place rest) told (rw f at s)) in
          completed_by place before (0xff ∷ kind ∷ rest) b.more (0xff ∷ kind ∷ b.text) [] (no_running before) (ap (λ (t : List ℕ). 0xff ∷ kind ∷ t) b.joined) (meta kind b.text b.inside (eqb-false kind 0x2f f) b.is_block)
    ]

-- a message ends too early only where its block does
heard_never_short : (place : ℕ) (before : Before) (used : ℕ) (text : List ℕ) → IsShort (message_of place before used text) → ⊥
heard_never_short place before used text s =
    elim (cases_Bool (is_ended text)) [
      | inl t ↦ by_made (sysex_made (take (length text - 1) text)) (rw t at s)
      | inr f ↦ (rw f at s)
    ]
  where
    by_made : (made : Result (List ℕ) SysexFault) → IsShort (message_heard place before used made) → ⊥
    by_made (Ok octets) s = s
    by_made (Err fault) s = s

message_completes : (place : ℕ) (before : Before) (rest : List ℕ) → IsShort (message_read place before rest) → IsCompleted (what_read place before) (0xf0 ∷ rest)
unfolding message_read
message_completes place before rest s =
    let b = block_completed place rest (unless_message (block_read place rest) s) in
    completed_by place before (0xf0 ∷ rest) b.more (0xf0 ∷ b.text) [] message_begun (ap (λ (t : List ℕ). 0xf0 ∷ t) b.joined) (message_begins b.text b.inside b.unended b.is_block)
  where
    unless_message : (r : Result (ℕ × ℕ) FileFault) → IsShort (r >>= λ block. message_of place before (1 + (block.0 + block.1)) (block_at block rest)) → IsShort r
    unless_message (Ok block) s = heard_never_short place before (1 + (block.0 + block.1)) (block_at block rest) s
    unless_message (Err f) s = s

escape_completes : (place : ℕ) (before : Before) (rest : List ℕ) → IsShort (escape_read place before rest) → IsCompleted (what_read place before) (0xf7 ∷ rest)
unfolding escape_read
escape_completes place before rest s =
    let told : ℕ × ℕ → Option Heard = λ block. Some (escape_of before (1 + (block.0 + block.1)) (block_at block rest)) in
    by_state before.unfinished refl (block_completed place rest (unless_ok (block_read place rest) told s))
  where
    by_state : (unfinished : Bool) → before.unfinished ≡ unfinished → BlockCompleted rest → IsCompleted (what_read place before) (0xf7 ∷ rest)
    by_state true e b = completed_by place before (0xf7 ∷ rest) b.more (0xf7 ∷ b.text) [] message_begun (ap (λ (t : List ℕ). 0xf7 ∷ t) b.joined) (message_goes_on b.text b.inside e b.unended b.is_block)
    by_state false e b =
        let commands = or_none (commands_read (length b.inside) b.inside) in
        completed_by place before (0xf7 ∷ rest) b.more (0xf7 ∷ b.text) commands message_ended (ap (λ (t : List ℕ). 0xf7 ∷ t) b.joined) (escape b.text b.inside commands e b.is_block (escaped b.inside))

heard_given : (place : ℕ) (before : Before) (status elsewhere : ℕ) (read : List ℕ → Result (Option Heard) FileFault) (octets more : List ℕ) (later : Result (Command × ℕ) CmdFault) → IsGiven later
    → read (octets ++ more) ≡ channel_heard place before status elsewhere later → IsCompleted read octets
heard_given place before status elsewhere read octets more later g e = record {
  more = more;
  read_is = Some (record { commands = g.read.0 ∷ []; used = g.read.1 - elsewhere; after = record { running = Some status; unfinished = before.unfinished } });
  completed = e ∙ ap (channel_heard place before status elsewhere) g.given;
}

one_never : (made : ℕ → Command) (first second : ℕ) → IsShortCommand (with_one made (first ∷ second ∷ [])) → ⊥
one_never made first second s =
    elim (cases_Bool (is_data first)) [
      | inl t ↦ (rw t at s)
      | inr f ↦ (rw f at s)
    ]

two_never : (made : ℕ → ℕ → Command) (first second : ℕ) → IsShortCommand (with_two made (first ∷ second ∷ [])) → ⊥
two_never made first second s =
    elim (cases_Bool (is_data first)) [
      | inl t ↦ elim (cases_Bool (is_data second)) [
        | inl u ↦ (rw (t, u) at s)
        | inr g ↦ (rw (t, g) at s)
      ]
      | inr f ↦ (rw f at s)
    ]

abbrev NeverShort : Result (Command × ℕ) CmdFault → Result (Command × ℕ) CmdFault → Type 0
NeverShort read later = IsShortCommand read → ⊥

-- with two data octets no channel command ends too early
never_short : (status first second : ℕ) → status < 240 → IsShortCommand (command_read (status ∷ first ∷ second ∷ [])) → ⊥
unfolding command_read after_status
never_short status first second low =
    elim (cases_Bool (ltb status 128)) [
      | inl t ↦ rw t (λ s. s)
      | inr f ↦ rw (f, lt-ltb status 240 low) (channel_by NeverShort (first ∷ second ∷ []) [] (λ made. one_never made first second) (λ made. two_never made first second) status)
    ]

running_completes : (place : ℕ) (before : Before) (running : Option ℕ) (first : ℕ) (rest : List ℕ) → ((status : ℕ) → running ≡ Some status → status < 240) → IsShort (running_read place before running (first ∷ rest))
    → IsCompleted (λ octets. running_read place before running octets) (first ∷ rest)
running_completes place before None first rest h s = absurd s
running_completes place before (Some status) first [] h s =
    let c = command_completes status (first ∷ []) (first ∷ 0 ∷ []) (h status refl) (channel_by Completes (first ∷ []) (first ∷ 0 ∷ []) (λ made. one_completes_first made first) (λ made. two_complete_first made first) status) in
    heard_given place before status 1 (λ octets. running_read place before (Some status) octets) (first ∷ []) (0 ∷ []) (command_read (status ∷ first ∷ 0 ∷ [])) (c (heard_short place before status 1 (command_read (status ∷ first ∷ [])) s)) refl
running_completes place before (Some status) first (second ∷ rest) h s = absurd (never_short status first second (h status refl) (heard_short place before status 1 (command_read (status ∷ first ∷ second ∷ [])) s))

-- octets that begin with no meta event, message or escape
abbrev IsOther : ℕ → Type 0
IsOther first = (eqb first 0xff ≡ false) × (eqb first 0xf0 ≡ false) × (eqb first 0xf7 ≡ false) × (ltb 0xf0 first ≡ false)

running_there : (place : ℕ) (before : Before) (first : ℕ) (rest : List ℕ) → IsOther first → ltb first 0x80 ≡ true → what_read place before (first ∷ rest) ≡ running_read place before before.running (first ∷ rest)
unfolding what_read
running_there place before first rest o low = rw (o.0, o.1, o.2, o.3, low) refl

channel_there : (place : ℕ) (before : Before) (first : ℕ) (rest : List ℕ) → IsOther first → ltb first 0x80 ≡ false → what_read place before (first ∷ rest) ≡ channel_heard place before first 0 (command_read (first ∷ rest))
unfolding what_read
channel_there place before first rest o high = rw (o.0, o.1, o.2, o.3, high) refl

other_completes : (place : ℕ) (before : Before) (first : ℕ) (rest : List ℕ) → HasRunning before → IsOther first → IsShort (what_read place before (first ∷ rest)) → IsCompleted (what_read place before) (first ∷ rest)
unfolding HasRunning
other_completes place before first rest h o s =
    elim (cases_Bool (ltb first 0x80)) [
      | inl t ↦
          let c = running_completes place before before.running first rest h (rw (running_there place before first rest o t) at s) in
          record { more = c.more; read_is = c.read_is; completed = running_there place before first (rest ++ c.more) o t ∙ c.completed }
      | inr f ↦
          let at_most = ltb-false 0xf0 first o.3 in
          let apart = eqb-false first 0xf0 o.1 in
          let low : first < 240 = less first at_most apart in
          let later = rest ++ 0 ∷ 0 ∷ [] in
          let c = command_completes first rest later low (channel_by Completes rest later (λ made. one_completes made rest) (λ made. two_complete made rest) first) in
          heard_given place before first 0 (what_read place before) (first ∷ rest) (0 ∷ 0 ∷ []) (command_read (first ∷ later)) (c (heard_short place before first 0 (command_read (first ∷ rest)) (rw (channel_there place before first rest o f) at s)))
          (channel_there place before first later o f)
    ]
  where
    less : (n : ℕ) → n ≤ 0xf0 → n ≢ 0xf0 → n < 0xf0
    less n at_most other = grind arith

meta_short : (place : ℕ) (before : Before) (rest : List ℕ) → IsShort (what_read place before (0xff ∷ rest)) → IsShort (meta_read place before rest)
unfolding what_read
meta_short place before rest s = s

message_short : (place : ℕ) (before : Before) (rest : List ℕ) → IsShort (what_read place before (0xf0 ∷ rest)) → IsShort (message_read place before rest)
unfolding what_read
message_short place before rest s = s

escape_short : (place : ℕ) (before : Before) (rest : List ℕ) → IsShort (what_read place before (0xf7 ∷ rest)) → IsShort (escape_read place before rest)
unfolding what_read
escape_short place before rest s = s

never_status : (place : ℕ) (before : Before) (first : ℕ) (rest : List ℕ) → eqb first 0xff ≡ false → eqb first 0xf0 ≡ false → eqb first 0xf7 ≡ false → ltb 0xf0 first ≡ true → IsShort (what_read place before (first ∷ rest)) → ⊥
unfolding what_read
never_status place before first rest ff f0 f7 t s = (rw (ff, f0, f7, t) at s)

pub what_completes : (place : ℕ) (before : Before) (octets : List ℕ) → HasRunning before → IsShort (what_read place before octets) → IsCompleted (what_read place before) octets
what_completes place before [] h s = record { more = 0xff ∷ 0x2f ∷ []; read_is = None; completed = end_is_read place before }
what_completes place before (first ∷ rest) h s =
    elim (cases_Bool (eqb first 0xff)) [
      | inl t ↦ by_first 0xff first (eqb-true first 0xff t) (λ x. meta_completes place before rest (meta_short place before rest x)) s
      | inr ff ↦ elim (cases_Bool (eqb first 0xf0)) [
        | inl t ↦ by_first 0xf0 first (eqb-true first 0xf0 t) (λ x. message_completes place before rest (message_short place before rest x)) s
        | inr f0 ↦ elim (cases_Bool (eqb first 0xf7)) [
          | inl t ↦ by_first 0xf7 first (eqb-true first 0xf7 t) (λ x. escape_completes place before rest (escape_short place before rest x)) s
          | inr f7 ↦ elim (cases_Bool (ltb 0xf0 first)) [
            | inl t ↦ absurd (never_status place before first rest ff f0 f7 t s)
            | inr low ↦ other_completes place before first rest h (ff, f0, f7, low) s
          ]
        ]
      ]
    ]
  where
    by_first : (known first : ℕ) → first ≡ known → (IsShort (what_read place before (known ∷ rest)) → IsCompleted (what_read place before) (known ∷ rest)) → IsShort (what_read place before (first ∷ rest)) → IsCompleted (what_read place before) (first ∷ rest)
    by_first known first e h = subst (λ (n : ℕ). IsShort (what_read place before (n ∷ rest)) → IsCompleted (what_read place before) (n ∷ rest)) (sym e) h

-- ---- events with their deltas

pub event_completes : (place : ℕ) (before : Before) (octets : List ℕ) → HasRunning before → IsShort (event_read place before octets) → IsCompleted (event_read place before) octets
unfolding event_read
event_completes place before octets h = by_field (delta_at octets) refl (read_as octets (delta_at octets) refl)
  where
    with_what : (v n : ℕ) → IsReadAs octets v n → IsCompleted (what_read place before) (drop n octets) → IsCompleted (event_read place before) octets
    with_what v n r c = record {
      more = c.more;
      read_is = behind_field (v, n) c.read_is;
      completed = rw (field_stays octets c.more v n r, drop-append-le n octets c.more r.inside, c.completed) refl;
    }

    unless_what : (r : Result (Option Heard) FileFault) (field : ℕ × ℕ) → IsShort (r >>= λ what. Ok (behind_field field what)) → IsShort r
    unless_what (Ok what) field s = absurd s
    unless_what (Err f) field s = s

    by_field : (read : Result (ℕ × ℕ) DeltaFault) → delta_at octets ≡ read → IfOk read (λ x. IsReadAs octets x.0 x.1)
        → IsShort (field_read place read >>= λ field. (what_read place before (drop field.1 octets) >>= λ what. Ok (behind_field field what))) → IsCompleted (event_read place before) octets
    by_field (Ok (v, n)) e r s = with_what v n r (what_completes place before (drop n octets) h (unless_what (what_read place before (drop n octets)) (v, n) s))
    by_field (Err fields.Short) e r s = record {
      more = 0 ∷ 0xff ∷ 0x2f ∷ [];
      read_is = None;
      completed = ap (event_read place before) (sym (append_assoc octets (0 ∷ []) (0xff ∷ 0x2f ∷ []))) ∙ ends_there place before (octets ++ 0 ∷ []) [] (field_completed octets e);
    }
    by_field (Err fields.TooLong) e r s = absurd s
