use Rattle.std.proofs.Common.{◌≡◌, true, false, sym, ◌∙◌, ap}
use Rattle.jm_cmds.specs.OnePlace.{stands, one_standing, standing-over, standing-found, standing-none}
use Rattle.ch_system.specs.Items.{is_place_of, touches}
use Rattle.ch_system.specs.ItemLaws.{touching}
use Rattle.ch_system.proofs.items.standing_place.Goals as goal

pub returns-then-is_standing : goal.returns-then-is_standing
returns-then-is_standing c =
    let told = is_place_of c.args.item in
    let touched = touches c.args.item in
    let place = c.in-Some.place.now in
    let later = c.in-Some.later.now in
    let found : stands told touched place later ≡ true = sym c.is_standing.ensures ∙ c.if-is_standing.true in
    sym c.loop-place.invariant ∙ ap (one_standing told touched) c.in-Some.ensures ∙ standing-found told touched (touching c.args.item) place later found

pub loop-place-preserved : goal.loop-place-preserved
loop-place-preserved c =
    let told = is_place_of c.args.item in
    let touched = touches c.args.item in
    let place = c.in-Some.place.now in
    let later = c.in-Some.later.now in
    let passed : stands told touched place later ≡ false = sym c.is_standing.ensures ∙ c.if-is_standing.false in
    sym (standing-over told touched place later passed) ∙ sym (ap (one_standing told touched) c.in-Some.ensures) ∙ c.loop-place.invariant

pub returns : goal.returns
returns c =
    let told = is_place_of c.args.item in
    let touched = touches c.args.item in
    sym c.loop-place.invariant ∙ ap (one_standing told touched) c.in_default.ensures ∙ standing-none told touched
