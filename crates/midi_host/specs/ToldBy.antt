-- What one more line is told.
use Rattle.std.proofs.Common.{ℕ, ◌≡◌, ◌+◌, ◌<◌, ◌≤◌, refl, ap, sym, Bool, true, false, List, [], ◌∷◌, ◌++◌, length, append_assoc, arith}
use Rattle.std.specs.Prelude.{nat_le, nat_lt}
use Rattle.std.specs.declared.result.Result.{Result}
use Rattle.std.specs.declared.result.Result.TheVariants.{Ok, Err}
use Rattle.std.proofs.lemmas.Bool.Decides.{nat_tests}
use Rattle.jm_script.specs.declared.answer.Cause.TheVariants.{Lines, TooLong}
use Rattle.midi_host.specs.declared.conversation.LineOutcome.{LineOutcome}
use Rattle.midi_host.specs.declared.conversation.LineOutcome.TheVariants.{Taken, Bad}
use Rattle.midi_host.specs.declared.conversation.TheConstants.{MOST_LINES}
use Rattle.midi_host.specs.Told.{Told, Lined, taken, refused, told_by, told_none, told_bad, after_line, within_limits}
use Rattle.midi_host.specs.Outcome.{Hears}
use Rattle.midi_host.specs.Did.{Did}

pub told_by_nothing : {State : Type 0} (longest : ℕ) (lined : State → List ℕ → Lined State) (before : ℕ) (state : State) → told_by longest lined before state [] ≡ told_none
unfolding told_by
told_by_nothing longest lined before state = refl

pub told_by_more : {State : Type 0} (longest : ℕ) (lined : State → List ℕ → Lined State) (before : ℕ) (state : State) (line : List ℕ) (lines : List (List ℕ))
    → told_by longest lined before state (line ∷ lines) ≡ after_line before (within_limits longest before line (lined state line)) (λ next. told_by longest lined (before + 1) next lines)
unfolding told_by
told_by_more longest lined before state line lines = refl

pub told_by_lines : {State : Type 0} (longest : ℕ) (lined : State → List ℕ → Lined State) (before : ℕ) (state : State) (line : List ℕ) (lines : List (List ℕ))
    → MOST_LINES ≤ before → told_by longest lined before state (line ∷ lines) ≡ told_bad (before + 1) Lines
told_by_lines longest lined before state line lines many =
    let test : nat_le MOST_LINES before ≡ true = grind (arith, nat_tests) in
    rw (told_by_more longest lined before state line lines, test) refl

pub told_by_too_long : {State : Type 0} (longest : ℕ) (lined : State → List ℕ → Lined State) (before : ℕ) (state : State) (line : List ℕ) (lines : List (List ℕ))
    → before < MOST_LINES → longest < length line → told_by longest lined before state (line ∷ lines) ≡ told_bad (before + 1) TooLong
told_by_too_long longest lined before state line lines few long =
    let test : nat_le MOST_LINES before ≡ false = grind (arith, nat_tests) in
    let test' : nat_lt longest (length line) ≡ true = grind (arith, nat_tests) in
    rw (told_by_more longest lined before state line lines, test, test') refl

-- a line within the limits is told what the verb makes of it
pub told_by_line : {State : Type 0} (longest : ℕ) (lined : State → List ℕ → Lined State) (before : ℕ) (state : State) (line : List ℕ) (lines : List (List ℕ))
    → before < MOST_LINES → length line ≤ longest → told_by longest lined before state (line ∷ lines) ≡ after_line before (lined state line) (λ next. told_by longest lined (before + 1) next lines)
told_by_line longest lined before state line lines few short =
    let test : nat_le MOST_LINES before ≡ false = grind (arith, nat_tests) in
    let test' : nat_lt longest (length line) ≡ false = grind (arith, nat_tests) in
    rw (told_by_more longest lined before state line lines, test, test') refl

-- A verb that did what it makes of a line is heard.
pub hears : {State E : Type 0} (longest : ℕ) (lined : State → List ℕ → Lined State) (before : ℕ) (state next : State) (line out out' : List ℕ) (result : Result LineOutcome E)
    → before < MOST_LINES → length line ≤ longest → Did result (lined state line) next out out'
    → Hears result before (told_by longest lined before state) (told_by longest lined (before + 1) next) line out out'
hears longest lined before state next line out out' (Ok Taken) few short did = λ lines.
    let told = told_by_line longest lined before state line lines few short in
    let later = told_by longest lined (before + 1) next lines in
    let lined_is = did.lined_is in
    rw (told, lined_is, did.out_is)
    (let same : out ++ (did.text ++ later.text) ≡ (out ++ did.text) ++ later.text = sym (append_assoc out did.text later.text) in
    ap (λ text. let told : Told = record { text = text; good = later.good } in told) same)
hears longest lined before state next line out out' (Ok (Bad cause)) few short did =
    (did.1, λ lines. rw (told_by_line longest lined before state line lines few short, did.0) refl)
hears longest lined before state next line out out' (Err e) few short did = tt

-- a text without a bad line has no more lines than an input may have
good_later : {State : Type 0} (before : ℕ) (lined : Lined State) (later : State → Told) (P : Type 0) → ((next : State) → (later next).good ≡ true → P) → (after_line before lined later).good ≡ true → P
good_later before (taken text next) later P f h = f next h
good_later before (refused cause) later P f h = cc

le_from_test : (m n : ℕ) → nat_le m n ≡ true → m ≤ n
le_from_test m n h = grind (arith, nat_tests)

lt_from_test : (m n : ℕ) → nat_le m n ≡ false → n < m
lt_from_test m n h = grind (arith, nat_tests)

good_before : {State : Type 0} (b : Bool) (longest : ℕ) (lined : State → List ℕ → Lined State) (before : ℕ) (state : State) (line : List ℕ) (lines : List (List ℕ)) → nat_le MOST_LINES before ≡ b → (told_by longest lined before state (line ∷ lines)).good ≡ true → before < MOST_LINES
good_before true longest lined before state line lines e g =
    let bad = told_by_lines longest lined before state line lines (le_from_test MOST_LINES before e) in
    let no : false ≡ true = rw bad at g in
    cc
good_before false longest lined before state line lines e g = lt_from_test MOST_LINES before e

pub told_by_few : {State : Type 0} (longest : ℕ) (lined : State → List ℕ → Lined State) (before : ℕ) (state : State) (lines : List (List ℕ)) → before ≤ MOST_LINES → (told_by longest lined before state lines).good ≡ true → before + length lines ≤ MOST_LINES
unfolding told_by
told_by_few longest lined before state [] h g = omega arith
told_by_few longest lined before state (line ∷ lines) h g =
    let below = good_before (nat_le MOST_LINES before) longest lined before state line lines refl g in
    good_later before (within_limits longest before line (lined state line)) (λ next. told_by longest lined (before + 1) next lines) (before + length (line ∷ lines) ≤ MOST_LINES)
    (λ next e. let rest = told_by_few longest lined (before + 1) next lines (omega arith) e in omega arith) g
