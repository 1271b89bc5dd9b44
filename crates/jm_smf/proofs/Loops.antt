-- What the loops of the reader keep: what was read before, with what is still read, is all.
use Rattle.std.proofs.Common.{◌≡◌, ℕ, zero, suc, ◌-◌, ◌+◌, ◌*◌, ◌^◌, ◌≤◌, ◌<◌, Bool, true, false, eqb, List, [], ◌∷◌, ◌++◌, drop, take, length, Option, Some, None, Result, Ok, Err, refl, sym, ap, ◌∙◌, append_assoc, length-drop, arith}
use Rattle.std.proofs.lemmas.Bool.{eq-eqb, ne_eqb, eqb-true, eqb-false}
use Rattle.std.proofs.lemmas.List.{append-nil}
use Rattle.jm_wire.specs.Readers.{◌>>=◌}
use Rattle.jm_cmds.specs.declared.commands.Command.{Command}
use Rattle.jm_cmds.specs.declared.reading.CmdFault.{CmdFault}
use Rattle.jm_cmds.specs.declared.outcome.ReadError.{ReadError}
use Rattle.jm_cmds.specs.declared.outcome.ReadError.TheVariants as errors
use Rattle.jm_cmds.specs.Gives.{Gives}
use Rattle.jm_cmds.specs.Reading.{command_read}
use Rattle.jm_smf.specs.declared.before.Before.{Before}
use Rattle.jm_smf.specs.declared.event.Heard.{Heard}
use Rattle.jm_smf.specs.declared.timed.Timed.{Timed}
use Rattle.jm_smf.specs.declared.fault.FileFault.{FileFault}
use Rattle.jm_smf.specs.declared.fault.FileFault.TheVariants.{Short}
use Rattle.jm_smf.specs.Reading.{with_first, commands_read, timed_at, event_read, track_read, nothing_before, is_track, chunk_read, chunks_read}

-- ---- commands one after another

abbrev pub behind_others : List Command → Option (List Command) → Option (List Command)
behind_others front None = None
behind_others front (Some commands) = Some (front ++ commands)

pub begins_commands : (read : Option (List Command)) → behind_others [] read ≡ read
begins_commands None = refl
begins_commands (Some commands) = refl

regroup_commands : (front : List Command) (command : Command) (read : Option (List Command)) → behind_others front (with_first command read) ≡ behind_others (front ++ command ∷ []) read
regroup_commands front command None = refl
regroup_commands front command (Some commands) = ap (λ (all : List Command). Some all) (simp append_assoc)

-- at most n - i commands are still read
pub one_command : (total : Option (List Command)) (front : List Command) (n i : ℕ) (rest : List ℕ) (command : Command) (used : ℕ) → i < n → 0 < length rest → command_read rest ≡ Ok (command, used)
    → behind_others front (commands_read (n - i) rest) ≡ total → behind_others (front ++ command ∷ []) (commands_read (n - (i + 1)) (drop used rest)) ≡ total
unfolding commands_read
one_command total front n i rest command used lt some e h =
    let k : n - i ≡ suc (n - (i + 1)) = omega arith in
    let later = commands_read (n - (i + 1)) (drop used rest) in
    let one : behind_others front (commands_read (n - i) rest) ≡ behind_others (front ++ command ∷ []) later =
    rw (k, ne_eqb (length rest) 0 (λ z. omega arith), e) (regroup_commands front command later) in
    sym one ∙ h

pub no_command : (total : Option (List Command)) (front : List Command) (n i : ℕ) (rest : List ℕ) (f : CmdFault) → i < n → 0 < length rest → command_read rest ≡ Err f
    → behind_others front (commands_read (n - i) rest) ≡ total → total ≡ None
unfolding commands_read
no_command total front n i rest f lt some e h =
    let k : n - i ≡ suc (n - (i + 1)) = omega arith in
    let one : behind_others front (commands_read (n - i) rest) ≡ None = rw (k, ne_eqb (length rest) 0 (λ z. omega arith), e) refl in
    sym h ∙ one

all_read : (front : List Command) (n : ℕ) (rest : List ℕ) → length rest ≡ 0 → behind_others front (commands_read n rest) ≡ Some front
unfolding commands_read
all_read front zero rest z = rw (eq-eqb (length rest) 0 z) (ap (λ (all : List Command). Some all) (append-nil front))
all_read front (suc n) rest z = rw (eq-eqb (length rest) 0 z) (ap (λ (all : List Command). Some all) (append-nil front))

pub all_commands : (total : Option (List Command)) (front : List Command) (n i : ℕ) (rest : List ℕ) → length rest ≡ 0 → behind_others front (commands_read (n - i) rest) ≡ total → total ≡ Some front
all_commands total front n i rest z h = sym h ∙ all_read front (n - i) rest z

pub too_many : (total : Option (List Command)) (front : List Command) (n i : ℕ) (rest : List ℕ) → n ≤ i → 0 < length rest → behind_others front (commands_read (n - i) rest) ≡ total → total ≡ None
unfolding commands_read
too_many total front n i rest le some h =
    let k : n - i ≡ 0 = omega arith in
    let one : behind_others front (commands_read (n - i) rest) ≡ None = rw (k, ne_eqb (length rest) 0 (λ z. omega arith)) refl in
    sym h ∙ one

-- ---- events

abbrev pub failed : {A : Type 0} → ReadError FileFault → Result A (ReadError FileFault)
failed e = Err e

abbrev pub with_front : List Timed → Result (List Timed) FileFault → Result (List Timed) FileFault
with_front front read = read >>= λ list. Ok (front ++ list)

-- at most n events are still read, which stand in rest
pub record ReadsOn (total : Result (List Timed) FileFault) (last : ℕ) (front : List Timed) (n place tick : ℕ) (before : Before) (rest : List ℕ) : Type 0 where
  pub gives : with_front front (track_read n place tick before rest) ≡ total
  pub inside : place + length rest ≡ last
  pub ticks : tick + 268435456 * length rest ≤ 268435456 * last

pub reads_all : (n place : ℕ) (before : Before) (rest : List ℕ) → ReadsOn (track_read n place 0 before rest) (place + length rest) [] n place 0 before rest
reads_all n place before rest = record { gives = same (track_read n place 0 before rest); inside = refl; ticks = omega arith }
  where
    same : (read : Result (List Timed) FileFault) → with_front [] read ≡ read
    same (Ok list) = refl
    same (Err f) = refl

regroup : (front some : List Timed) (read : Result (List Timed) FileFault) → with_front front (read >>= λ list. Ok (some ++ list)) ≡ with_front (front ++ some) read
regroup front some (Ok list) = ap (λ (all : List Timed). Ok all) (simp append_assoc)
regroup front some (Err f) = refl

pub one_event : (total : Result (List Timed) FileFault) (last : ℕ) (front : List Timed) (n i place tick : ℕ) (before : Before) (rest : List ℕ) (delta : ℕ) (heard : Heard) → i < n
    → event_read place before rest ≡ Ok (Some (delta, heard)) → delta < 2 ^ 28 → 1 ≤ heard.used → heard.used ≤ length rest → ReadsOn total last front (n - i) place tick before rest
    → ReadsOn total last (front ++ timed_at (tick + delta) heard.commands) (n - (i + 1)) (place + heard.used) (tick + delta) heard.after (drop heard.used rest)
unfolding track_read
one_event total last front n i place tick before rest delta heard lt e below some within r =
    let k : n - i ≡ suc (n - (i + 1)) = omega arith in
    let later = track_read (n - (i + 1)) (place + heard.used) (tick + delta) heard.after (drop heard.used rest) in
    let one : with_front front (track_read (n - i) place tick before rest) ≡ with_front (front ++ timed_at (tick + delta) heard.commands) later =
    rw (k, e) (regroup front (timed_at (tick + delta) heard.commands) later) in
    record {
      gives = sym one ∙ r.gives;
      inside = omega (arith, r.inside, length-drop heard.used rest);
      ticks = omega (arith, r.ticks, length-drop heard.used rest);
    }

pub track_ended : (total : Result (List Timed) FileFault) (last : ℕ) (front : List Timed) (n i place tick : ℕ) (before : Before) (rest : List ℕ) → i < n
    → event_read place before rest ≡ Ok None → ReadsOn total last front (n - i) place tick before rest → total ≡ Ok front
unfolding track_read
track_ended total last front n i place tick before rest lt e r =
    let k : n - i ≡ suc (n - (i + 1)) = omega arith in
    let one : with_front front (track_read (n - i) place tick before rest) ≡ Ok front = rw (k, e) (ap (λ (all : List Timed). Ok all) (append-nil front)) in
    sym r.gives ∙ one

pub event_failed : (e : ReadError FileFault) (total : Result (List Timed) FileFault) (last : ℕ) (front : List Timed) (n i place tick : ℕ) (before : Before) (rest : List ℕ) → i < n
    → Gives (failed e) (event_read place before rest) → ReadsOn total last front (n - i) place tick before rest → Gives (failed e) total
unfolding track_read
event_failed errors.Memory total last front n i place tick before rest lt e r = tt
event_failed (errors.Fault f) total last front n i place tick before rest lt e r =
    let k : n - i ≡ suc (n - (i + 1)) = omega arith in
    let one : with_front front (track_read (n - i) place tick before rest) ≡ Err f = rw (k, e) refl in
    sym r.gives ∙ one

pub track_short : (total : Result (List Timed) FileFault) (last : ℕ) (front : List Timed) (n i place tick : ℕ) (before : Before) (rest : List ℕ) → n ≤ i
    → ReadsOn total last front (n - i) place tick before rest → total ≡ Err (Short place)
unfolding track_read
track_short total last front n i place tick before rest le r =
    let k : n - i ≡ 0 = omega arith in
    let one : with_front front (track_read (n - i) place tick before rest) ≡ Err (Short place) = rw k refl in
    sym r.gives ∙ one

-- ---- chunks

-- at most n chunks are still read, which stand in rest
pub record SeeksOn (total : Result (List Timed) FileFault) (last n place : ℕ) (rest : List ℕ) : Type 0 where
  pub gives : chunks_read n place rest ≡ total
  pub inside : place + length rest ≡ last

pub one_chunk : (total : Result (List Timed) FileFault) (last n i place : ℕ) (rest : List ℕ) (size : ℕ) → i < n → chunk_read place rest ≡ Ok size → is_track rest ≡ false → size ≤ length rest
    → SeeksOn total last (n - i) place rest → SeeksOn total last (n - (i + 1)) (place + size) (drop size rest)
unfolding chunks_read
one_chunk total last n i place rest size lt e t within r =
    let k : n - i ≡ suc (n - (i + 1)) = omega arith in
    let one : chunks_read (n - i) place rest ≡ chunks_read (n - (i + 1)) (place + size) (drop size rest) = rw (k, e, t) refl in
    record { gives = sym one ∙ r.gives; inside = omega (arith, r.inside, length-drop size rest) }

pub the_track : (total : Result (List Timed) FileFault) (last n i place : ℕ) (rest : List ℕ) (size : ℕ) → i < n → chunk_read place rest ≡ Ok size → is_track rest ≡ true
    → SeeksOn total last (n - i) place rest → total ≡ track_read (size - 8) (place + 8) 0 nothing_before (take (size - 8) (drop 8 rest))
unfolding chunks_read
the_track total last n i place rest size lt e t r =
    let k : n - i ≡ suc (n - (i + 1)) = omega arith in
    let one : chunks_read (n - i) place rest ≡ track_read (size - 8) (place + 8) 0 nothing_before (take (size - 8) (drop 8 rest)) = rw (k, e, t) refl in
    sym r.gives ∙ one

pub chunk_failed : (total : Result (List Timed) FileFault) (last n i place : ℕ) (rest : List ℕ) (f : FileFault) → i < n → chunk_read place rest ≡ Err f
    → SeeksOn total last (n - i) place rest → total ≡ Err f
unfolding chunks_read
chunk_failed total last n i place rest f lt e r =
    let k : n - i ≡ suc (n - (i + 1)) = omega arith in
    let one : chunks_read (n - i) place rest ≡ Err f = rw (k, e) refl in
    sym r.gives ∙ one

pub chunks_short : (total : Result (List Timed) FileFault) (last n i place : ℕ) (rest : List ℕ) → n ≤ i → SeeksOn total last (n - i) place rest → total ≡ Err (Short place)
unfolding chunks_read
chunks_short total last n i place rest le r =
    let k : n - i ≡ 0 = omega arith in
    let one : chunks_read (n - i) place rest ≡ Err (Short place) = rw k refl in
    sym r.gives ∙ one

-- ---- what tests tell

pub none_left : (test : Bool) (rest : List ℕ) → test ≡ eqb (length rest) 0 → test ≡ true → length rest ≡ 0
none_left test rest e t = eqb-true (length rest) 0 (sym e ∙ t)

pub some_left : (test : Bool) (rest : List ℕ) → test ≡ eqb (length rest) 0 → test ≡ false → 0 < length rest
some_left test rest e f = let ne = eqb-false (length rest) 0 (sym e ∙ f) in omega arith
