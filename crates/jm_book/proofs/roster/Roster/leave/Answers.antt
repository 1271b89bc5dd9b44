use Rattle.jm_book.specs.SoundLaws.{sound_leave}
use Rattle.jm_book.proofs.roster.Roster.leave.Goals as goal

pub invariant_of-self : goal.invariant_of-self
invariant_of-self c =
    let orderly = rw c.drop_peer.ensures.peers at c.drop_peer.ensures.orderly in
    rw (c.drop_peer.ensures.peers, c.remove.ensures) (sound_leave c.args.ssrc (record { host = c.self.inside.host; entered = c.self.inside.entered; joined = c.self.inside.joined }) orderly c.self.invariant)
