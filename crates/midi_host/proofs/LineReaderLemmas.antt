-- Steps of the reading.
use Rattle.std.proofs.Common.{◌≡◌, ℕ, ◌+◌, ◌<◌, true, false, ◌==◌, List, [], ◌∷◌, ◌++◌, length, refl, sym, ◌∙◌, append_assoc, arith, add-one, take, drop, get_or, OnOk, IfOk}
use Rattle.std.proofs.lemmas.List.{append-nil}
use Rattle.std.proofs.Math.Seq.{split_at}
use Rattle.std.specs.declared.result.Result.{Result}
use Rattle.std.specs.declared.result.Result.TheVariants.{Ok, Err}
use Rattle.midi_host.specs.declared.line_reader.LineReader.{LineReader}
use Rattle.jm_script.specs.declared.answer.Cause.{Cause}
use Rattle.midi_host.specs.declared.conversation.Flow.{Flow}
use Rattle.midi_host.specs.declared.conversation.Flow.TheVariants.{On, Stop}
use Rattle.midi_host.specs.Text.{lines_of, IsOfLine}
use Rattle.midi_host.specs.Told.{Told, after, bad_line, told_bad, told_none}
use Rattle.midi_host.specs.LineReader.{Goes, Stops, Fed, Ended, Closed}
use Rattle.midi_host.proofs.TextLemmas.{lines_of-none, lines_of-line, lines_of-last, lines_of-begins, is_whole-line, is_whole-none, is_whole-append}

-- a line came to its end
pub Goes-line : (old new : List (List ℕ) → Told) (out out' line line' : List ℕ) → IsOfLine line → line' ≡ [] → ((lines : List (List ℕ)) → after out (old (line ∷ lines)) ≡ after out' (new lines)) → Goes old new out out' line line' (10 ∷ [])
Goes-line old new out out' line line' h e same = record {
  whole = line ++ 10 ∷ [];
  split = rw (e, append-nil (line ++ 10 ∷ [])) refl;
  ended = is_whole-line line;
  same = λ more. rw (append_assoc line (10 ∷ []) more, lines_of-line line more h) (same (lines_of more));
}

Stops-line : (old : List (List ℕ) → Told) (out out' line : List ℕ) → IsOfLine line → ((lines : List (List ℕ)) → after out (old (line ∷ lines)) ≡ record { text = out'; good = false }) → Stops old out out' (line ++ 10 ∷ [])
Stops-line old out out' line h same = λ more. rw (append_assoc line (10 ∷ []) more, lines_of-line line more h) (same (lines_of more))

pub Fed-line : {E : Type 0} (result : Result Flow E) (old new : List (List ℕ) → Told) (reader reader' : LineReader) → IsOfLine reader.line.items → Ended result old new reader reader' → Fed result old new reader reader' (10 ∷ [])
Fed-line (Ok On) old new reader reader' h e = Goes-line old new reader.answers reader'.answers reader.line.items reader'.line.items h e.0 e.1
Fed-line (Ok Stop) old new reader reader' h e = Stops-line old reader.answers reader'.answers reader.line.items h e
Fed-line (Err x) old new reader reader' h e = tt

-- an octet of a line came
pub Goes-octet : (old : List (List ℕ) → Told) (out line line' : List ℕ) (octet : ℕ) → line' ≡ line ++ octet ∷ [] → Goes old old out out line line' (octet ∷ [])
Goes-octet old out line line' octet e = record { whole = []; split = sym e; ended = is_whole-none; same = λ more. refl }

-- a line that is bad whatever follows its front
pub Stops-octet : (old : List (List ℕ) → Told) (out out' line : List ℕ) (octet : ℕ) → IsOfLine line → (octet == 10) ≡ false → ((rest : List ℕ) (lines : List (List ℕ)) → after out (old (((line ++ octet ∷ []) ++ rest) ∷ lines)) ≡ record { text = out'; good = false }) → Stops old out out' (line ++ octet ∷ [])
Stops-octet old out out' line octet h e same = λ more.
    let b = lines_of-begins line octet more h e in
    rw b.split (same b.rest b.lines)

pub Fed-bad : {E : Type 0} (result : Result Flow E) (old new : List (List ℕ) → Told) (reader reader' : LineReader) (octet number : ℕ) (cause : Cause) → IsOfLine reader.line.items → (octet == 10) ≡ false
    → OnOk result (reader'.answers ≡ reader.answers ++ bad_line number cause) → IfOk result (λ flow. flow ≡ Stop)
    → ((rest : List ℕ) (lines : List (List ℕ)) → old (((reader.line.items ++ octet ∷ []) ++ rest) ∷ lines) ≡ told_bad number cause)
    → Fed result old new reader reader' (octet ∷ [])
Fed-bad (Ok On) old new reader reader' octet number cause h e text stops bad = absurd (cc stops)
Fed-bad (Ok Stop) old new reader reader' octet number cause h e text stops bad =
    Stops-octet old reader.answers reader'.answers reader.line.items octet h e (λ rest lines. rw (bad rest lines, text) refl)
Fed-bad (Err x) old new reader reader' octet number cause h e text stops bad = tt

-- nothing came
pub Goes-none : (old : List (List ℕ) → Told) (out line : List ℕ) → Goes old old out out line line []
Goes-none old out line = record { whole = []; split = append-nil line; ended = is_whole-none; same = λ more. refl }

-- one piece after another
pub Goes-next : (old mid new : List (List ℕ) → Told) (out out' out'' line line' line'' xs ys : List ℕ) → Goes old mid out out' line line' xs → Goes mid new out' out'' line' line'' ys → Goes old new out out'' line line'' (xs ++ ys)
Goes-next old mid new out out' out'' line line' line'' xs ys f g = record {
  whole = f.whole ++ g.whole;
  split = rw (← append_assoc line xs ys, f.split, append_assoc f.whole line' ys, g.split, append_assoc f.whole g.whole line'') refl;
  ended = is_whole-append f.whole g.whole f.ended g.ended;
  same = λ more. rw (append_assoc f.whole g.whole more) (f.same (g.whole ++ more) ∙ g.same more);
}

-- a bad line after a piece
pub Stops-next : (old mid : List (List ℕ) → Told) (out out' out'' line line' xs ys zs : List ℕ) → Goes old mid out out' line line' xs → Stops mid out' out'' (line' ++ ys) → Stops old out out'' (line ++ (xs ++ (ys ++ zs)))
Stops-next old mid out out' out'' line line' xs ys zs f stops = λ more.
    let regroup : (line ++ (xs ++ (ys ++ zs))) ++ more ≡ f.whole ++ ((line' ++ ys) ++ (zs ++ more)) =
    rw (← append_assoc line xs (ys ++ zs), f.split) (simp append_assoc refl) in
    rw regroup (f.same ((line' ++ ys) ++ (zs ++ more)) ∙ stops (zs ++ more))

-- no line is left to answer
after-none : (out : List ℕ) (told : Told) → told ≡ told_none → after out told ≡ record { text = out; good = true }
after-none out told e = rw (e, append-nil out) refl

pub Closed-none : (old : List (List ℕ) → Told) (out line : List ℕ) → line ≡ [] → old [] ≡ told_none → after out (old (lines_of line)) ≡ record { text = out; good = true }
Closed-none old out line e h = rw (e, lines_of-none) (after-none out (old []) h)

-- the last line lacked its end
lines_of-rest : (line : List ℕ) → 0 < length line → IsOfLine line → lines_of line ≡ line ∷ []
lines_of-rest [] n h = absurd (omega arith)
lines_of-rest (x ∷ xs) n h = lines_of-last x xs h

pub Closed-ended : {E : Type 0} (result : Result Flow E) (old new : List (List ℕ) → Told) (reader reader' : LineReader) → IsOfLine reader.line.items → 0 < length reader.line.items → new [] ≡ told_none → Ended result old new reader reader' → Closed result old reader reader'
Closed-ended (Ok On) old new reader reader' h n none e = rw (lines_of-rest reader.line.items n h) (e.1 [] ∙ after-none reader'.answers (new []) none)
Closed-ended (Ok Stop) old new reader reader' h n none e = rw (lines_of-rest reader.line.items n h) (e [])
Closed-ended (Err x) old new reader reader' h n none e = tt

-- a piece before an octet, the octet, and what follows it
pub piece_split : (piece : List ℕ) (i : ℕ) → i < length piece → piece ≡ take i piece ++ ((get_or piece i 0 ∷ []) ++ drop (i + 1) piece)
piece_split piece i h = rw add-one (split_at piece i 0 h)
