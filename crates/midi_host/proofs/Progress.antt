-- How far a run has come, and how it ends.
use Rattle.std.proofs.Common.{◌≡◌, ◌≢◌, ℕ, ◌+◌, ◌^◌, ◌<◌, ◌≤◌, length, length-append, true, false, List, [], ◌++◌, refl, ap, ◌∙◌, append_assoc, arith, IsTrue, IfSome}
use Rattle.std.proofs.lemmas.List.{append-nil}
use Rattle.std.specs.declared.option.Option.{Option}
use Rattle.std.specs.declared.option.Option.TheVariants.{None, Some}
use Rattle.std.specs.Option.{option_map}
use Rattle.std.specs.Bool.{⊤}
use Rattle.midi_host.specs.declared.conversation.TheConstants.{MOST_LINES}
use Rattle.midi_host.specs.declared.status.Status.{Status}
use Rattle.midi_host.specs.declared.status.Status.TheVariants.{Done, Usage, BadScript, ReadFault, WriteFault, NoMemory, PortFault, RecordFull}
use Rattle.midi_host.specs.Text.{lines_of, is_whole, IsOfLine}
use Rattle.midi_host.specs.Told.{Told, Lined, after, told_none, told_by}
use Rattle.midi_host.specs.ToldBy.{told_by_few}
use Rattle.midi_host.specs.LineReader.{Goes, Stops}
use Rattle.jm_edge.specs.Faults.{Rose}
use Rattle.jm_edge.specs.Source.{OneMore}
use Rattle.midi_host.specs.Wrote.{Wrote, WrotePart}
use Rattle.midi_host.specs.Ends.{Ends, Finishes, OnReadFault, OnWriteFault, IsFaultless, Completes, HasFewLines, ReadsFew}
use Rattle.midi_host.proofs.TextLemmas.{lines_of-none, is_whole-none, is_whole-append}
use Rattle.midi_host.proofs.WroteLemmas.{Wrote-none, Wrote-next, WrotePart-next, WrotePart-more, WrotePart-front}

-- Whole lines were read and answered, and a part of a line was read. `now` is what lines are told from here on.
pub record Progress (answer : List ℕ → Told) (now : List (List ℕ) → Told) (line input rest : List ℕ) (wrote wrote' : Option (List ℕ)) : Type 0 where
  pub whole : List ℕ
  pub text : List ℕ
  pub split : input ≡ whole ++ (line ++ rest)
  pub ended : IsTrue (is_whole whole)
  pub written : Wrote wrote wrote' text
  pub same : (more : List ℕ) → answer (whole ++ more) ≡ after text (now (lines_of more))

-- the same, where the source tells what is left
abbrev pub Comes : (List ℕ → Told) → (List (List ℕ) → Told) → List ℕ → (left left' wrote wrote' : Option (List ℕ)) → Type 0
Comes answer now line None left' wrote wrote' = ⊤
Comes answer now line (Some input) None wrote wrote' = ⊥
Comes answer now line (Some input) (Some rest) wrote wrote' = Progress answer now line input rest wrote wrote'

-- nothing was read yet
pub Comes-start : (now : List (List ℕ) → Told) (line : List ℕ) (left wrote : Option (List ℕ)) → line ≡ [] → Comes (λ text. now (lines_of text)) now line left left wrote wrote
Comes-start now line None wrote e = tt
Comes-start now line (Some input) wrote e = record { whole = []; text = []; split = rw e refl; ended = is_whole-none; written = Wrote-none wrote; same = λ more. refl }

some_same : {X : Type 0} (x y : X) → Some x ≡ Some y → x ≡ y
some_same x y e = cc

-- a piece of the text came, and was taken
pub Comes-next : (answer : List ℕ → Told) (now now' : List (List ℕ) → Told) (line line' piece out out' : List ℕ) (left left' left'' wrote wrote' wrote'' : Option (List ℕ))
    → Comes answer now line left left' wrote wrote' → left' ≡ option_map (λ rest. piece ++ rest) left'' → out ≡ [] → Goes now now' out out' line line' piece → Wrote wrote' wrote'' out'
    → Comes answer now' line' left left'' wrote wrote''
Comes-next answer now now' line line' piece out out' None left' left'' wrote wrote' wrote'' c e o g w = tt
Comes-next answer now now' line line' piece out out' (Some input) None left'' wrote wrote' wrote'' c e o g w = absurd c
Comes-next answer now now' line line' piece out out' (Some input) (Some rest) None wrote wrote' wrote'' c e o g w = cc
Comes-next answer now now' line line' piece out out' (Some input) (Some rest) (Some rest') wrote wrote' wrote'' c e o g w = record {
  whole = c.whole ++ g.whole;
  text = c.text ++ out';
  split = rw (c.split, some_same rest (piece ++ rest') e, ← append_assoc line piece rest', g.split) (simp append_assoc refl);
  ended = is_whole-append c.whole g.whole c.ended g.ended;
  written = Wrote-next wrote wrote' wrote'' c.text out' c.written w;
  same = λ more. rw (append_assoc c.whole g.whole more, append_assoc c.text out' (now' (lines_of more)).text)
      (c.same (g.whole ++ more) ∙ ap (after c.text) ((rw o at g.same) more));
}

-- What the input is told: what was written, and then what the rest is told.
answer-rest : (answer : List ℕ → Told) (now : List (List ℕ) → Told) (line input rest : List ℕ) (wrote wrote' : Option (List ℕ)) (c : Progress answer now line input rest wrote wrote') → answer input ≡ after c.text (now (lines_of (line ++ rest)))
answer-rest answer now line input rest wrote wrote' c = rw c.split (c.same (line ++ rest))

-- There was no memory.
pub Ends-memory : (answer : List ℕ → Told) (now : List (List ℕ) → Told) (line : List ℕ) (left left' left'' wrote wrote' : Option (List ℕ)) → Comes answer now line left left' wrote wrote' → Ends NoMemory answer left left'' wrote wrote'
Ends-memory answer now line None left' left'' wrote wrote' c = tt
Ends-memory answer now line (Some input) None left'' wrote wrote' c = absurd c
Ends-memory answer now line (Some input) (Some rest) left'' wrote wrote' c =
    rw (answer-rest answer now line input rest wrote wrote' c) (WrotePart-front wrote wrote' c.text (now (lines_of (line ++ rest))).text c.written)

-- A read failed.
pub Ends-read : (answer : List ℕ → Told) (now : List (List ℕ) → Told) (line : List ℕ) (left left' left'' wrote wrote' : Option (List ℕ)) → Comes answer now line left left' wrote wrote' → left'' ≡ left' → IsOfLine line → now [] ≡ told_none → Ends ReadFault answer left left'' wrote wrote'
Ends-read answer now line None left' left'' wrote wrote' c e h none = tt
Ends-read answer now line (Some input) None left'' wrote wrote' c e h none = absurd c
Ends-read answer now line (Some input) (Some rest) left'' wrote wrote' c e h none =
    let told : answer c.whole ≡ record { text = c.text; good = true } =
    rw (← append-nil c.whole) (c.same [] ∙ rw (lines_of-none, none, append-nil c.text) refl) in
    record {
      whole = c.whole;
      part = line;
      rest = rest;
      split = c.split;
      ended = c.ended;
      of_line = h;
      left = e;
      good = rw told refl;
      written = rw told c.written;
    }

-- A line was bad.
answer-bad : (answer : List ℕ → Told) (now : List (List ℕ) → Told) (line piece out out' input rest rest' : List ℕ) (wrote wrote' : Option (List ℕ)) (c : Progress answer now line input rest wrote wrote') → rest ≡ piece ++ rest' → out ≡ [] → Stops now out out' (line ++ piece) → answer input ≡ record { text = c.text ++ out'; good = false }
answer-bad answer now line piece out out' input rest rest' wrote wrote' c e o s =
    answer-rest answer now line input rest wrote wrote' c ∙ rw (e, ← append_assoc line piece rest') (ap (after c.text) ((rw o at s) rest'))

pub Ends-bad : (answer : List ℕ → Told) (now : List (List ℕ) → Told) (line piece out out' : List ℕ) (left left' left'' wrote wrote' wrote'' : Option (List ℕ)) → Comes answer now line left left' wrote wrote' → left' ≡ option_map (λ rest. piece ++ rest) left'' → out ≡ [] → Stops now out out' (line ++ piece) → Wrote wrote' wrote'' out' → Ends BadScript answer left left'' wrote wrote''
Ends-bad answer now line piece out out' None left' left'' wrote wrote' wrote'' c e o s w = tt
Ends-bad answer now line piece out out' (Some input) None left'' wrote wrote' wrote'' c e o s w = absurd c
Ends-bad answer now line piece out out' (Some input) (Some rest) None wrote wrote' wrote'' c e o s w = cc
Ends-bad answer now line piece out out' (Some input) (Some rest) (Some rest') wrote wrote' wrote'' c e o s w =
    let told = answer-bad answer now line piece out out' input rest rest' wrote wrote' c (some_same rest (piece ++ rest') e) o s in
    (rw told refl, rw told (Wrote-next wrote wrote' wrote'' c.text out' c.written w))

pub Ends-bad_part : (answer : List ℕ → Told) (now : List (List ℕ) → Told) (line piece out out' : List ℕ) (left left' left'' wrote wrote' wrote'' : Option (List ℕ)) → Comes answer now line left left' wrote wrote' → left' ≡ option_map (λ rest. piece ++ rest) left'' → out ≡ [] → Stops now out out' (line ++ piece) → WrotePart wrote' wrote'' out' → Ends WriteFault answer left left'' wrote wrote''
Ends-bad_part answer now line piece out out' None left' left'' wrote wrote' wrote'' c e o s w = tt
Ends-bad_part answer now line piece out out' (Some input) None left'' wrote wrote' wrote'' c e o s w = absurd c
Ends-bad_part answer now line piece out out' (Some input) (Some rest) None wrote wrote' wrote'' c e o s w = cc
Ends-bad_part answer now line piece out out' (Some input) (Some rest) (Some rest') wrote wrote' wrote'' c e o s w =
    let told = answer-bad answer now line piece out out' input rest rest' wrote wrote' c (some_same rest (piece ++ rest') e) o s in
    rw told (WrotePart-next wrote wrote' wrote'' c.text out' c.written w)

-- A write failed where the reading would go on.
pub Ends-part : (answer : List ℕ → Told) (now now' : List (List ℕ) → Told) (line line' piece out out' : List ℕ) (left left' left'' wrote wrote' wrote'' : Option (List ℕ)) → Comes answer now line left left' wrote wrote' → left' ≡ option_map (λ rest. piece ++ rest) left'' → out ≡ [] → Goes now now' out out' line line' piece → WrotePart wrote' wrote'' out' → Ends WriteFault answer left left'' wrote wrote''
Ends-part answer now now' line line' piece out out' None left' left'' wrote wrote' wrote'' c e o g w = tt
Ends-part answer now now' line line' piece out out' (Some input) None left'' wrote wrote' wrote'' c e o g w = absurd c
Ends-part answer now now' line line' piece out out' (Some input) (Some rest) None wrote wrote' wrote'' c e o g w = cc
Ends-part answer now now' line line' piece out out' (Some input) (Some rest) (Some rest') wrote wrote' wrote'' c e o g w =
    let regroup : line ++ rest ≡ g.whole ++ (line' ++ rest') =
    rw (some_same rest (piece ++ rest') e, ← append_assoc line piece rest', g.split) (append_assoc g.whole line' rest') in
    let told : answer input ≡ after c.text (after out' (now' (lines_of (line' ++ rest')))) =
    answer-rest answer now line input rest wrote wrote' c ∙ rw regroup (ap (after c.text) ((rw o at g.same) (line' ++ rest'))) in
    rw told (WrotePart-more wrote wrote' wrote'' c.text out' (now' (lines_of (line' ++ rest'))).text c.written w)

-- The source is at its end.
answer-end : (answer : List ℕ → Told) (now : List (List ℕ) → Told) (line input rest : List ℕ) (wrote wrote' : Option (List ℕ)) (c : Progress answer now line input rest wrote wrote') → rest ≡ [] → answer input ≡ after c.text (now (lines_of line))
answer-end answer now line input rest wrote wrote' c e =
    answer-rest answer now line input rest wrote wrote' c ∙ rw (e, append-nil line) refl

pub Ends-finish : (status : Status) (answer : List ℕ → Told) (now : List (List ℕ) → Told) (line : List ℕ) (left left' left'' wrote wrote' wrote'' : Option (List ℕ)) → Comes answer now line left left' wrote wrote' → (left'' ≡ left') × IfSome left' (λ rest. rest ≡ []) → Finishes status (now (lines_of line)) wrote' wrote'' → Ends status answer left left'' wrote wrote''
Ends-finish Done answer now line None left' left'' wrote wrote' wrote'' c e f = tt
Ends-finish Done answer now line (Some input) None left'' wrote wrote' wrote'' c e f = absurd c
Ends-finish Done answer now line (Some input) (Some rest) left'' wrote wrote' wrote'' c e f =
    let told = answer-end answer now line input rest wrote wrote' c e.1 in
    (rw (e.0, e.1) refl, rw told f.0, rw told (Wrote-next wrote wrote' wrote'' c.text (now (lines_of line)).text c.written f.1))
Ends-finish BadScript answer now line None left' left'' wrote wrote' wrote'' c e f = tt
Ends-finish BadScript answer now line (Some input) None left'' wrote wrote' wrote'' c e f = absurd c
Ends-finish BadScript answer now line (Some input) (Some rest) left'' wrote wrote' wrote'' c e f =
    let told = answer-end answer now line input rest wrote wrote' c e.1 in
    (rw told f.0, rw told (Wrote-next wrote wrote' wrote'' c.text (now (lines_of line)).text c.written f.1))
Ends-finish WriteFault answer now line None left' left'' wrote wrote' wrote'' c e f = tt
Ends-finish WriteFault answer now line (Some input) None left'' wrote wrote' wrote'' c e f = absurd c
Ends-finish WriteFault answer now line (Some input) (Some rest) left'' wrote wrote' wrote'' c e f =
    let told = answer-end answer now line input rest wrote wrote' c e.1 in
    rw told (WrotePart-next wrote wrote' wrote'' c.text (now (lines_of line)).text c.written f)
Ends-finish NoMemory answer now line None left' left'' wrote wrote' wrote'' c e f = tt
Ends-finish NoMemory answer now line (Some input) None left'' wrote wrote' wrote'' c e f = absurd c
Ends-finish NoMemory answer now line (Some input) (Some rest) left'' wrote wrote' wrote'' c e f =
    let told = answer-end answer now line input rest wrote wrote' c e.1 in
    rw told (WrotePart-next wrote wrote' wrote'' c.text (now (lines_of line)).text c.written f)
Ends-finish Usage answer now line left left' left'' wrote wrote' wrote'' c e f = absurd f
Ends-finish ReadFault answer now line left left' left'' wrote wrote' wrote'' c e f = absurd f
Ends-finish PortFault answer now line left left' left'' wrote wrote' wrote'' c e f = absurd f
Ends-finish RecordFull answer now line left left' left'' wrote wrote' wrote'' c e f = absurd f

-- no count rose where none came
faultless_rose : (before after : ℕ) → IsFaultless before after → Rose before after → ⊥
faultless_rose before after f r = let up : before < after = r f.below in omega (arith, f.same)

-- a run that met no fault ends by the grammar
pub Completes-from : (status : Status) (answer : List ℕ → Told) (left left' wrote wrote' : Option (List ℕ)) (reads reads' writes writes' : ℕ) → status ≢ Usage → Ends status answer left left' wrote wrote' → OnReadFault status (Rose reads reads') → OnWriteFault status (Rose writes writes') → IsFaultless reads reads' → IsFaultless writes writes' → IfSome left (λ input. Completes status (answer input))
Completes-from status answer None left' wrote wrote' reads reads' writes writes' u e r w f g = tt
Completes-from Done answer (Some input) left' wrote wrote' reads reads' writes writes' u e r w f g = e.1
Completes-from BadScript answer (Some input) left' wrote wrote' reads reads' writes writes' u e r w f g = e.0
Completes-from NoMemory answer (Some input) left' wrote wrote' reads reads' writes writes' u e r w f g = tt
Completes-from Usage answer (Some input) left' wrote wrote' reads reads' writes writes' u e r w f g = u refl
Completes-from ReadFault answer (Some input) left' wrote wrote' reads reads' writes writes' u e r w f g = absurd (faultless_rose reads reads' f r)
Completes-from WriteFault answer (Some input) left' wrote wrote' reads reads' writes writes' u e r w f g = absurd (faultless_rose writes writes' g w)
Completes-from PortFault answer (Some input) left' wrote wrote' reads reads' writes writes' u e r w f g = absurd e
Completes-from RecordFull answer (Some input) left' wrote wrote' reads reads' writes writes' u e r w f g = absurd e

-- an input that is answered whole has few lines
pub HasFewLines-from : {State : Type 0} (status : Status) (longest : ℕ) (lined : State → List ℕ → Lined State) (state : State) (left left' wrote wrote' : Option (List ℕ)) → Ends status (λ text. told_by longest lined 0 state (lines_of text)) left left' wrote wrote' → IfSome left (λ input. HasFewLines status input)
HasFewLines-from status longest lined state None left' wrote wrote' e = tt
HasFewLines-from Done longest lined state (Some input) left' wrote wrote' e =
    let few : 0 + length (lines_of input) ≤ MOST_LINES = told_by_few longest lined 0 state (lines_of input) (omega arith) e.1 in
    omega arith
HasFewLines-from BadScript longest lined state (Some input) left' wrote wrote' e = tt
HasFewLines-from NoMemory longest lined state (Some input) left' wrote wrote' e = tt
HasFewLines-from Usage longest lined state (Some input) left' wrote wrote' e = tt
HasFewLines-from ReadFault longest lined state (Some input) left' wrote wrote' e = tt
HasFewLines-from WriteFault longest lined state (Some input) left' wrote wrote' e = tt
HasFewLines-from PortFault longest lined state (Some input) left' wrote wrote' e = absurd e
HasFewLines-from RecordFull longest lined state (Some input) left' wrote wrote' e = absurd e

-- each read so far brought an octet at least, where the source tells what is left
abbrev pub ReadSoFar : (left left' : Option (List ℕ)) → (reads reads' : ℕ) → Type 0
ReadSoFar None left' reads reads' = ⊤
ReadSoFar (Some input) None reads reads' = ⊥
ReadSoFar (Some input) (Some rest) reads reads' = reads + length input + 1 < 2 ^ 64 → reads' + length rest ≤ reads + length input

pub ReadSoFar-start : (left : Option (List ℕ)) (reads : ℕ) → ReadSoFar left left reads reads
ReadSoFar-start None reads = tt
ReadSoFar-start (Some input) reads = λ few. omega arith

pub ReadSoFar-next : (piece : List ℕ) (left left' left'' : Option (List ℕ)) (reads reads' reads'' : ℕ) → ReadSoFar left left' reads reads' → left' ≡ option_map (λ rest. piece ++ rest) left'' → 1 ≤ length piece → OneMore reads' reads'' → ReadSoFar left left'' reads reads''
ReadSoFar-next piece None left' left'' reads reads' reads'' s e some one = tt
ReadSoFar-next piece (Some input) None left'' reads reads' reads'' s e some one = absurd s
ReadSoFar-next piece (Some input) (Some rest) None reads reads' reads'' s e some one = cc
ReadSoFar-next piece (Some input) (Some rest) (Some rest') reads reads' reads'' s e some one = λ few.
    let before = s few in
    let split : length rest ≡ length piece + length rest' = rw (some_same rest (piece ++ rest') e) (length-append piece rest') in
    let more : reads'' ≡ reads' + 1 = one (omega (arith, before)) in
    omega (arith, before, split, more, some)

pub ReadsFew-last : (left left' : Option (List ℕ)) (reads reads' reads'' : ℕ) → ReadSoFar left left' reads reads' → OneMore reads' reads'' → ReadsFew left reads reads''
ReadsFew-last None left' reads reads' reads'' s one = tt
ReadsFew-last (Some input) None reads reads' reads'' s one = absurd s
ReadsFew-last (Some input) (Some rest) reads reads' reads'' s one = λ few.
    let before = s few in
    let more : reads'' ≡ reads' + 1 = one (omega (arith, before)) in
    omega (arith, before, more)

pub ReadsFew-none : (left : Option (List ℕ)) (reads : ℕ) → ReadsFew left reads reads
ReadsFew-none None reads = tt
ReadsFew-none (Some input) reads = λ few. omega arith
