-- What the X bit of Chapter A tells (RFC 6295, A.9).
use Rattle.std.proofs.Common.{◌≡◌, ℕ, Bool, true, false, cond, ◌||◌, List, [], ◌∷◌, ◌++◌, fold, refl, sym, ap, ◌∙◌}
use Rattle.std.specs.List.{list_any}
use Rattle.std.proofs.Math.Bool.{or_assoc, or-false}
use Rattle.std.proofs.lemmas.Bool.{or_parts, eq-eqb}
use Rattle.std.proofs.lemmas.List.Sums.{fold-append}
use Rattle.jm_cmds.specs.declared.history.Sent.{Sent}
use Rattle.jm_cmds.specs.Control.{ends_notes}
use Rattle.ch_notes.specs.declared.presses.PolyEvent.TheVariants.{Pressed}
use Rattle.ch_notes.specs.PolyEvent.{poly_at, presses}
use Rattle.ch_notes.specs.ChapterA.{muted_step, is_muted}

-- X of a note's latest pressure is 1 exactly where it is no longer N-active: a later command ends the notes
-- of the channel.
abbrev pub XTellsActivity : Type 0
XTellsActivity = (channel note value : ℕ) (before later : List Sent) (place : Sent) → poly_at channel place ≡ Pressed note value →
    list_any (λ after. presses note (poly_at channel after)) later ≡ false →
    is_muted channel note (before ++ place ∷ later) ≡ list_any (λ after. ends_notes channel after.command) later

muted-on : (channel note : ℕ) (muted : Bool) (later : List Sent) → list_any (λ after. presses note (poly_at channel after)) later ≡ false →
    fold (muted_step channel note) muted later ≡ (muted || list_any (λ after. ends_notes channel after.command) later)
muted-on channel note muted [] h = sym (or-false muted)
muted-on channel note muted (x ∷ xs) h =
    let parts = or_parts (presses note (poly_at channel x)) (list_any (λ after. presses note (poly_at channel after)) xs) h in
    let ended : Bool = ends_notes channel x.command in
    let more : Bool = list_any (λ after. ends_notes channel after.command) xs in
    let step : muted_step channel note muted x ≡ (muted || ended) = ap (λ (b : Bool). cond b false (muted || ended)) parts.0 in
    ap (λ (b : Bool). fold (muted_step channel note) b xs) step
    ∙ muted-on channel note (muted || ended) xs parts.1
    ∙ or_assoc muted ended more

pub x_tells_activity : (channel note value : ℕ) (before later : List Sent) (place : Sent) → poly_at channel place ≡ Pressed note value →
    list_any (λ after. presses note (poly_at channel after)) later ≡ false →
    is_muted channel note (before ++ place ∷ later) ≡ list_any (λ after. ends_notes channel after.command) later
x_tells_activity channel note value before later place e h =
    let muted : Bool = is_muted channel note before in
    let here : presses note (poly_at channel place) ≡ true = ap (presses note) e ∙ eq-eqb note note refl in
    let step : muted_step channel note muted place ≡ false = ap (λ (b : Bool). cond b false (muted || ends_notes channel place.command)) here in
    fold-append (muted_step channel note) false before (place ∷ later)
    ∙ ap (λ (b : Bool). fold (muted_step channel note) b later) step
    ∙ muted-on channel note false later h
