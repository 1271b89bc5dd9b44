use Rattle.std.proofs.Common.{◌<◌, length, arith}
use Rattle.jm_book.specs.Participants.{most_joined}
use Rattle.jm_book.specs.SoundLaws.{sound_join}
use Rattle.jm_book.proofs.roster.Roster.join.Goals as goal

pub invariant_of-self : goal.invariant_of-self
invariant_of-self c =
    let few : length c.self.inside.joined < most_joined = omega (arith, c.len.ensures, c.from.ensures, c.if-len-from.false) in
    rw c.join-one.ensures.joined (sound_join c.args.packets c.args.ssrc (record { host = c.self.inside.host; entered = c.self.inside.entered; joined = c.self.inside.joined }) few c.self.invariant)
