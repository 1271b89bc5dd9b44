use Rattle.std.proofs.Common.{◌≡◌, true, false, sym, ◌∙◌, ap}
use Rattle.jm_cmds.specs.OnePlace.{stands, one_standing, standing-over, standing-found, standing-none}
use Rattle.ch_voice.specs.ItemLaws.{touching}
use Rattle.ch_voice.specs.VoiceItem.{tells_at, touches_at}
use Rattle.ch_voice.proofs.item.standing_place.Goals as goal

pub returns-then-is_standing : goal.returns-then-is_standing
returns-then-is_standing c =
    let tells = tells_at c.args.item c.args.channel in
    let touches = touches_at c.args.item c.args.channel in
    let place = c.in-Some.place.now in
    let later = c.in-Some.later.now in
    let found : stands tells touches place later ≡ true = sym c.is_standing.ensures ∙ c.if-is_standing.true in
    sym c.loop-place.invariant ∙ ap (one_standing tells touches) c.in-Some.ensures ∙ standing-found tells touches (touching c.args.item c.args.channel) place later found

pub loop-place-preserved : goal.loop-place-preserved
loop-place-preserved c =
    let tells = tells_at c.args.item c.args.channel in
    let touches = touches_at c.args.item c.args.channel in
    let place = c.in-Some.place.now in
    let later = c.in-Some.later.now in
    let passed : stands tells touches place later ≡ false = sym c.is_standing.ensures ∙ c.if-is_standing.false in
    sym (standing-over tells touches place later passed) ∙ sym (ap (one_standing tells touches) c.in-Some.ensures) ∙ c.loop-place.invariant

pub returns : goal.returns
returns c =
    let tells = tells_at c.args.item c.args.channel in
    let touches = touches_at c.args.item c.args.channel in
    sym c.loop-place.invariant ∙ ap (one_standing tells touches) c.in_default.ensures ∙ standing-none tells touches
