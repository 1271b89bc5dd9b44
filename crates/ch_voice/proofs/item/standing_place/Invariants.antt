use Rattle.std.proofs.Common.{◌≡◌, length}
use Rattle.jm_cmds.specs.OnePlace.{one_standing}
use Rattle.ch_voice.specs.VoiceItem.{tells_at, touches_at}
use Rattle.ch_voice.proofs.item.standing_place.Given as goal

abbrev pub invariant-loop-place : goal.invariant-loop-place
invariant-loop-place l =
    one_standing (tells_at l.item l.channel) (touches_at l.item l.channel) l.rest
    ≡ one_standing (tells_at l.item l.channel) (touches_at l.item l.channel) l.places

abbrev pub decreases-loop-place : goal.decreases-loop-place
decreases-loop-place l = length l.rest
