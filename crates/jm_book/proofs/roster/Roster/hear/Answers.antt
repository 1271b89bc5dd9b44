use Rattle.jm_book.specs.SoundLaws.{sound_hear}
use Rattle.jm_book.proofs.roster.Roster.hear.Goals as goal

pub invariant_of-self : goal.invariant_of-self
invariant_of-self c =
    rw c.note.ensures (sound_hear c.args.ssrc c.args.seq (record { host = c.self.inside.host; entered = c.self.inside.entered; joined = c.self.inside.joined }) c.self.invariant)
