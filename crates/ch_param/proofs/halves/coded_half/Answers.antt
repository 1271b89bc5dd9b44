use Rattle.std.proofs.Common.{◌≡◌, None, fold, ◌∙◌}
use Rattle.ch_param.specs.ChapterM.{session_places}
use Rattle.ch_param.specs.HalfLaws.{place_step, coded_half-fold}
use Rattle.ch_param.proofs.halves.coded_half.Goals as goal

pub returns : goal.returns
returns c =
    let a = c.args in
    let done : c.loop-place.half ≡ fold (place_step a.channel a.checkpoint a.param.now a.high) None (session_places a.channel a.history.now) = rw c.in_default.ensures at c.loop-place.invariant in
    done ∙ coded_half-fold a.channel a.checkpoint a.param.now a.high (session_places a.channel a.history.now)
