-- An event that is read is spelled.
use Rattle.std.proofs.Common.{◌≡◌, ◌≢◌, ℕ, suc, ◌+◌, ◌-◌, ◌≤◌, ◌<◌, Bool, true, false, eqb, ltb, List, [], ◌∷◌, ◌++◌, drop, take, get_or, length, Option, Some, None, Result, Ok, Err, refl, sym, ap, subst, ◌∙◌, append_assoc, length-append, length-drop, arith, inl, inr, IfOk}
use Rattle.std.specs.List.{flat_map}
use Rattle.std.proofs.lemmas.Bool.{ltb-false, eqb-true, eqb-false, cases_Bool}
use Rattle.std.proofs.lemmas.List.{take-append-drop, length-take-le, get_or_append_left}
use Rattle.std.proofs.Math.Seq.{take-length}
use Rattle.jm_wire.specs.Readers.{◌>>=◌}
use Rattle.jm_wire.specs.declared.delta.DeltaFault.{DeltaFault}
use Rattle.jm_wire.specs.declared.delta.DeltaFault.TheVariants as fields
use Rattle.jm_wire.specs.Delta.{delta_at, IsReadAs}
use Rattle.jm_wire.specs.DeltaReading.{read_as}
use Rattle.jm_cmds.specs.declared.commands.Command.{Command}
use Rattle.jm_cmds.specs.declared.commands.Command.TheVariants.{Sysex}
use Rattle.jm_cmds.specs.declared.reading.CmdFault.{CmdFault}
use Rattle.jm_cmds.specs.declared.system_exclusive.SysexFault.{SysexFault}
use Rattle.jm_cmds.specs.Command.{spelling, status_of}
use Rattle.jm_cmds.specs.Data.{is_data, data_len, IsSysex}
use Rattle.std.proofs.lemmas.List.Sums.{prefix_len-le-length}
use Rattle.jm_cmds.specs.DataLaws.{IsSysex-front}
use Rattle.jm_cmds.specs.SysexMade.{sysex_made}
use Rattle.jm_cmds.specs.Reading.{command_read}
use Rattle.jm_cmds.specs.CommandLaws.{BeginsWith-command_read}
use Rattle.jm_smf.specs.declared.before.Before.{Before}
use Rattle.jm_smf.specs.declared.event.Heard.{Heard}
use Rattle.jm_smf.specs.Reading.{field_read, block_within, block_read, block_at, is_ended, silent, meta_read, message_heard, message_of, message_read, commands_read, or_none, escape_of, escape_read, channel_heard, running_read, what_read}
use Rattle.jm_smf.specs.Grammar.{IsBlock, IsUnended, Escapes, wholly, passed, no_running, SpellsEvent, with_status, without_status, meta, message, message_begins, message_goes_on, message_ends, escape}
use Rattle.jm_smf.proofs.SpelledEvents.{no_less, ended_is, ends_apart, commands_are_read, some_octets, read_are_spelled}

-- what holds of each first step, and of each next one behind it, holds of both
pub if_then : {A B F : Type 0} (r : Result A F) (g : A → Result B F) (P : A → Type 0) (Q : B → Type 0) → IfOk r P → ((x : A) → P x → IfOk (g x) Q) → IfOk (r >>= g) Q
if_then (Ok x) g P Q h then_g = then_g x h
if_then (Err f) g P Q h then_g = tt

-- a status octet of a channel command is all that may be left out
unfoldable pub HasRunning : Before → Type 0
HasRunning before = (status : ℕ) → before.running ≡ Some status → status < 0xf0

pub none_running : (unfinished : Bool) → HasRunning (record { running = None; unfinished = unfinished })
unfolding HasRunning
none_running unfinished status e = absurd (never status e)
  where
    never : (status : ℕ) → None ≡ Some status → ⊥
    never status e = cc

pub some_running : (status : ℕ) (unfinished : Bool) → status < 0xf0 → HasRunning (record { running = Some status; unfinished = unfinished })
unfolding HasRunning
some_running status unfinished low other e = subst (λ (n : ℕ). n < 0xf0) (same status other e) low
  where
    same : (a b : ℕ) → Some a ≡ Some b → a ≡ b
    same a b e = cc

-- ---- blocks

pub record BlockStands (octets : List ℕ) (block : ℕ × ℕ) : Type 0 where
  pub text : List ℕ
  pub inside : List ℕ
  pub rest : List ℕ
  pub is_block : IsBlock text inside
  pub split : octets ≡ text ++ rest
  pub size_is : block.0 + block.1 ≡ length text
  pub at_is : block_at block octets ≡ inside

block_of : (octets : List ℕ) (v n : ℕ) → IsReadAs octets v n → n + v ≤ length octets → BlockStands octets (n, v)
block_of octets v n r within =
    let field = take n octets in
    let inside = take v (drop n octets) in
    let field_len : length field ≡ n = length-take-le n octets r.inside in
    let inside_len : length inside ≡ v = length-take-le v (drop n octets) (rw (length-drop n octets) (omega (arith, within))) in
    record {
      text = field ++ inside;
      inside = inside;
      rest = drop v (drop n octets);
      is_block = record { field = field; field_is = r.field; size_is = r.value_is ∙ sym inside_len; text_is = refl };
      split =
          sym (take-append-drop n octets)
          ∙ ap (λ (t : List ℕ). field ++ t) (sym (take-append-drop v (drop n octets)))
          ∙ sym (append_assoc field inside (drop v (drop n octets)));
      size_is = sym (length-append field inside ∙ ap (λ (m : ℕ). m + length inside) field_len ∙ ap (λ (m : ℕ). n + m) inside_len);
      at_is = refl;
    }

pub block_stands : (place : ℕ) (octets : List ℕ) → IfOk (block_read place octets) (BlockStands octets)
unfolding block_read
block_stands place octets = by_field (delta_at octets) (read_as octets (delta_at octets) refl)
  where
    by_field : (read : Result (ℕ × ℕ) DeltaFault) → IfOk read (λ x. IsReadAs octets x.0 x.1) → IfOk (field_read place read >>= block_within place octets) (BlockStands octets)
    by_field (Ok (v, n)) r =
        elim (cases_Bool (ltb (length octets) (n + v))) [
          | inl t ↦ rw t tt
          | inr f ↦ rw f (block_of octets v n r (ltb-false (length octets) (n + v) f))
        ]
    by_field (Err fields.Short) r = tt
    by_field (Err fields.TooLong) r = tt

-- ---- what stands behind a delta

pub record EventStands (before : Before) (octets : List ℕ) (heard : Heard) : Type 0 where
  pub text : List ℕ
  pub rest : List ℕ
  pub split : octets ≡ text ++ rest
  pub used_is : heard.used ≡ length text
  pub spelled : SpellsEvent before text heard.commands heard.after
  pub running : HasRunning heard.after

pub record EndStands (octets : List ℕ) : Type 0 where
  pub rest : List ℕ
  pub split : octets ≡ 0xff ∷ 0x2f ∷ rest

-- an event, or the end of the track
abbrev pub Stands : Before → List ℕ → Option Heard → Type 0
Stands before octets None = EndStands octets
Stands before octets (Some heard) = EventStands before octets heard

one_more : (a b c : ℕ) → a + b ≡ c → 1 + (a + b) ≡ suc c
one_more a b c e = omega (arith, e)

two_more : (a b c : ℕ) → a + b ≡ c → 2 + (a + b) ≡ suc (suc c)
two_more a b c e = omega (arith, e)

meta_stands : (place : ℕ) (before : Before) (rest : List ℕ) → IfOk (meta_read place before rest) (Stands before (0xff ∷ rest))
meta_stands place before [] = tt
meta_stands place before (kind ∷ rest) =
    elim (cases_Bool (eqb kind 0x2f)) [
      | inl t ↦ rw t (record { rest = rest; split = ap (λ (k : ℕ). 0xff ∷ k ∷ rest) (eqb-true kind 0x2f t) })
      | inr f ↦
          rw f
          (if_then (block_read place rest) (λ block. Ok (Some (silent (2 + (block.0 + block.1)) before.unfinished))) (BlockStands rest) (Stands before (0xff ∷ kind ∷ rest)) (block_stands place rest) (λ block b. record {
            text = 0xff ∷ kind ∷ b.text;
            rest = b.rest;
            split = ap (λ (t : List ℕ). 0xff ∷ kind ∷ t) b.split;
            used_is = two_more block.0 block.1 (length b.text) b.size_is;
            spelled = meta kind b.text b.inside (eqb-false kind 0x2f f) b.is_block;
            running = none_running before.unfinished;
          }))
    ]

-- a message that is made of octets has just these
made_is : (octets : List ℕ) → IfOk (sysex_made octets) (λ made. (made ≡ octets) × IsSysex octets)
made_is octets =
    elim (cases_Bool (ltb (data_len octets) (length octets))) [
      | inl t ↦ rw t tt
      | inr f ↦ elim (cases_Bool (ltb 65536 (length octets))) [
        | inl t ↦ rw (f, t) tt
        | inr g ↦
            let whole = ltb-false (data_len octets) (length octets) f in
            let few = ltb-false 65536 (length octets) g in
            let within : data_len octets ≤ length octets = prefix_len-le-length is_data octets in
            rw (f, g) (refl, rw (take-length octets) at (IsSysex-front octets (length octets) (omega (arith, whole, within)) (omega arith) few))
      ]
    ]

unended : (octets : List ℕ) → is_ended octets ≡ false → IsUnended octets
unended octets f front e = let never : true ≡ false = sym (ended_is front) ∙ ap is_ended (sym e) ∙ f in cc

abbrev before_last : List ℕ → List ℕ
before_last octets = take (length octets - 1) octets

message_by_made : (place : ℕ) (before : Before) (rest : List ℕ) (block : ℕ × ℕ) (b : BlockStands rest block) (made : Result (List ℕ) SysexFault) → is_ended b.inside ≡ true
    → IfOk made (λ octets. (octets ≡ before_last b.inside) × IsSysex (before_last b.inside))
    → IfOk (message_heard place before (1 + (block.0 + block.1)) made) (Stands before (0xf0 ∷ rest))
message_by_made place before rest block b (Err fault) t m = tt
message_by_made place before rest block b (Ok octets) t m = record {
  text = 0xf0 ∷ b.text;
  rest = b.rest;
  split = ap (λ (x : List ℕ). 0xf0 ∷ x) b.split;
  used_is = one_more block.0 block.1 (length b.text) b.size_is;
  spelled =
      subst (λ (x : List ℕ). SpellsEvent before (0xf0 ∷ b.text) (Sysex x ∷ []) (no_running before)) (sym m.0)
      (message b.text (before_last b.inside) m.1 (subst (λ (x : List ℕ). IsBlock b.text x) (ends_apart b.inside t) b.is_block));
  running = none_running before.unfinished;
}

message_of_block : (place : ℕ) (before : Before) (rest : List ℕ) (block : ℕ × ℕ) (b : BlockStands rest block) → IfOk (message_of place before (1 + (block.0 + block.1)) b.inside) (Stands before (0xf0 ∷ rest))
message_of_block place before rest block b =
    elim (cases_Bool (is_ended b.inside)) [
      | inl t ↦ rw t (message_by_made place before rest block b (sysex_made (before_last b.inside)) t (made_is (before_last b.inside)))
      | inr f ↦ rw f (record {
        text = 0xf0 ∷ b.text;
        rest = b.rest;
        split = ap (λ (x : List ℕ). 0xf0 ∷ x) b.split;
        used_is = one_more block.0 block.1 (length b.text) b.size_is;
        spelled = message_begins b.text b.inside (unended b.inside f) b.is_block;
        running = none_running true;
      })
    ]

message_stands : (place : ℕ) (before : Before) (rest : List ℕ) → IfOk (message_read place before rest) (Stands before (0xf0 ∷ rest))
unfolding message_read
message_stands place before rest =
    if_then (block_read place rest) (λ block. message_of place before (1 + (block.0 + block.1)) (block_at block rest)) (BlockStands rest) (Stands before (0xf0 ∷ rest)) (block_stands place rest)
    (λ block b. subst (λ (t : List ℕ). IfOk (message_of place before (1 + (block.0 + block.1)) t) (Stands before (0xf0 ∷ rest))) (sym b.at_is) (message_of_block place before rest block b))

-- what the octets of an escape tell
pub escaped : (octets : List ℕ) → Escapes octets (or_none (commands_read (length octets) octets))
escaped octets = by_read (commands_read (length octets) octets) refl
  where
    none_same : (commands : List Command) → None ≡ Some commands → ⊥
    none_same commands e = cc

    by_read : (read : Option (List Command)) → commands_read (length octets) octets ≡ read → Escapes octets (or_none read)
    by_read None e =
        passed octets (λ commands bounds same.
        let few : length (flat_map spelling commands) ≤ length octets = rw same (omega arith) in
        none_same commands (sym e ∙ ap (λ (t : List ℕ). commands_read (length octets) t) same ∙ commands_are_read (length octets) commands bounds few))
    by_read (Some commands) e =
        let s = read_are_spelled (length octets) octets commands e in
        subst (λ (t : List ℕ). Escapes t commands) (sym s.octets_are) (wholly commands s.bounds)

escape_by : (before : Before) (rest : List ℕ) (block : ℕ × ℕ) (b : BlockStands rest block) (unfinished : Bool) → before.unfinished ≡ unfinished
    → EventStands before (0xf7 ∷ rest) (escape_of (record before { unfinished = unfinished }) (1 + (block.0 + block.1)) b.inside)
escape_by before rest block b true e =
    elim (cases_Bool (is_ended b.inside)) [
      | inl t ↦ rw t (record {
        text = 0xf7 ∷ b.text;
        rest = b.rest;
        split = ap (λ (x : List ℕ). 0xf7 ∷ x) b.split;
        used_is = one_more block.0 block.1 (length b.text) b.size_is;
        spelled = message_ends b.text (before_last b.inside) e (subst (λ (x : List ℕ). IsBlock b.text x) (ends_apart b.inside t) b.is_block);
        running = none_running false;
      })
      | inr f ↦ rw f (record {
        text = 0xf7 ∷ b.text;
        rest = b.rest;
        split = ap (λ (x : List ℕ). 0xf7 ∷ x) b.split;
        used_is = one_more block.0 block.1 (length b.text) b.size_is;
        spelled = message_goes_on b.text b.inside e (unended b.inside f) b.is_block;
        running = none_running true;
      })
    ]
escape_by before rest block b false e = record {
  text = 0xf7 ∷ b.text;
  rest = b.rest;
  split = ap (λ (x : List ℕ). 0xf7 ∷ x) b.split;
  used_is = one_more block.0 block.1 (length b.text) b.size_is;
  spelled = escape b.text b.inside (or_none (commands_read (length b.inside) b.inside)) e b.is_block (escaped b.inside);
  running = none_running false;
}

escape_stands : (place : ℕ) (before : Before) (rest : List ℕ) → IfOk (escape_read place before rest) (Stands before (0xf7 ∷ rest))
unfolding escape_read
escape_stands place before rest =
    if_then (block_read place rest) (λ block. Ok (Some (escape_of before (1 + (block.0 + block.1)) (block_at block rest)))) (BlockStands rest) (Stands before (0xf7 ∷ rest)) (block_stands place rest)
    (λ block b. subst (λ (t : List ℕ). EventStands before (0xf7 ∷ rest) (escape_of before (1 + (block.0 + block.1)) t)) (sym b.at_is) (escape_by before rest block b before.unfinished refl))

-- ---- channel commands

first_of : (command : Command) (rest : List ℕ) → get_or (spelling command ++ rest) 0 0 ≡ status_of command
first_of command rest = get_or_append_left (spelling command) rest 0 0 (some_octets command)

channel_stands : (place : ℕ) (before : Before) (status : ℕ) (rest : List ℕ) (read : Result (Command × ℕ) CmdFault) → status < 0xf0 → command_read (status ∷ rest) ≡ read
    → IfOk (channel_heard place before status 0 read) (Stands before (status ∷ rest))
channel_stands place before status rest (Err fault) low e = tt
channel_stands place before status rest (Ok (command, used)) low e =
    let b = BeginsWith-command_read (status ∷ rest) command used e in
    let same : status ≡ status_of command = ap (λ (t : List ℕ). get_or t 0 0) b.split ∙ first_of command (drop used (status ∷ rest)) in
    record {
      text = spelling command;
      rest = drop used (status ∷ rest);
      split = b.split;
      used_is = no_less used ∙ b.whole;
      spelled =
          subst (λ (n : ℕ). SpellsEvent before (spelling command) (command ∷ []) (record { running = Some n; unfinished = before.unfinished })) (sym same)
          (with_status command b.bounds (subst (λ (n : ℕ). n < 0xf0) same low));
      running = some_running status before.unfinished low;
    }

status_first : (command : Command) → status_of command ∷ drop 1 (spelling command) ≡ spelling command
status_first command = first_apart (spelling command) (some_octets command)
  where
    first_apart : (xs : List ℕ) → 1 ≤ length xs → get_or xs 0 0 ∷ drop 1 xs ≡ xs
    first_apart [] some = absurd (omega (arith, some))
    first_apart (x ∷ xs) some = refl

running_stands_by : (place : ℕ) (before : Before) (status : ℕ) (octets : List ℕ) (read : Result (Command × ℕ) CmdFault) → status < 0xf0 → before.running ≡ Some status → command_read (status ∷ take 2 octets) ≡ read
    → IfOk (channel_heard place before status 1 read) (Stands before octets)
running_stands_by place before status octets (Err fault) low is e = tt
running_stands_by place before status octets (Ok (command, used)) low is e =
    let all = status ∷ take 2 octets in
    let b = BeginsWith-command_read all command used e in
    let more = drop used all in
    let behind = drop 1 (spelling command) in
    let same : status ≡ status_of command = ap (λ (t : List ℕ). get_or t 0 0) b.split ∙ first_of command more in
    let joined : all ≡ status_of command ∷ (behind ++ more) = b.split ∙ ap (λ (t : List ℕ). t ++ more) (sym (status_first command)) in
    let two : take 2 octets ≡ behind ++ more = ap (λ (t : List ℕ). drop 1 t) joined in
    let len : length (spelling command) ≡ suc (length behind) = ap (λ (t : List ℕ). length t) (sym (status_first command)) in
    let whole = b.whole in
    record {
      text = behind;
      rest = more ++ drop 2 octets;
      split = sym (take-append-drop 2 octets) ∙ ap (λ (t : List ℕ). t ++ drop 2 octets) two ∙ append_assoc behind more (drop 2 octets);
      used_is = omega (arith, len, whole);
      spelled =
          subst (λ (n : ℕ). SpellsEvent before behind (command ∷ []) (record { running = Some n; unfinished = before.unfinished })) (sym same)
          (without_status command b.bounds (subst (λ (n : ℕ). n < 0xf0) same low) (is ∙ ap (λ (n : ℕ). Some n) same));
      running = some_running status before.unfinished low;
    }

running_stands : (place : ℕ) (before : Before) (octets : List ℕ) → HasRunning before → IfOk (running_read place before before.running octets) (Stands before octets)
unfolding HasRunning
running_stands place before octets h = by_running before.running refl
  where
    by_running : (running : Option ℕ) → before.running ≡ running → IfOk (running_read place before running octets) (Stands before octets)
    by_running None e = tt
    by_running (Some status) e = running_stands_by place before status octets (command_read (status ∷ take 2 octets)) (h status e) e refl

-- ---- all of them

-- What is read behind a delta is spelled.
pub what_stands : (place : ℕ) (before : Before) (octets : List ℕ) → HasRunning before → IfOk (what_read place before octets) (Stands before octets)
unfolding what_read
what_stands place before [] h = tt
what_stands place before (first ∷ rest) h =
    elim (cases_Bool (eqb first 0xff)) [
      | inl t ↦ rw (eqb-true first 0xff t) (meta_stands place before rest)
      | inr ff ↦ elim (cases_Bool (eqb first 0xf0)) [
        | inl t ↦ rw (eqb-true first 0xf0 t) (message_stands place before rest)
        | inr f0 ↦ elim (cases_Bool (eqb first 0xf7)) [
          | inl t ↦ rw (eqb-true first 0xf7 t) (escape_stands place before rest)
          | inr f7 ↦ elim (cases_Bool (ltb 0xf0 first)) [
            | inl t ↦ rw (ff, f0, f7, t) tt
            | inr low ↦ elim (cases_Bool (ltb first 0x80)) [
              | inl t ↦ rw (ff, f0, f7, low, t) (running_stands place before (first ∷ rest) h)
              | inr high ↦
                  let at_most = ltb-false 0xf0 first low in
                  let other = eqb-false first 0xf0 f0 in
                  rw (ff, f0, f7, low, high) (channel_stands place before first rest (command_read (first ∷ rest)) (less first at_most other) refl)
            ]
          ]
        ]
      ]
    ]
  where
    less : (n : ℕ) → n ≤ 0xf0 → n ≢ 0xf0 → n < 0xf0
    less n at_most other = grind arith
