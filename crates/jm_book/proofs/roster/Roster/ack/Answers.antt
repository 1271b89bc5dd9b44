use Rattle.jm_book.specs.SoundLaws.{sound_marked}
use Rattle.jm_book.proofs.roster.Roster.ack.Goals as goal

pub invariant_of-self : goal.invariant_of-self
invariant_of-self c =
    rw c.report.ensures.joined (sound_marked c.report.result c.in-Some.one.ssrc (record { host = c.self.inside.host; entered = c.self.inside.entered; joined = c.self.inside.joined }) c.self.invariant)
