use Rattle.std.proofs.Common.{◌≡◌, Some, sym, ◌∙◌, arith}
use Rattle.std.specs.Prelude.{find}
use Rattle.apple_session.specs.Peers.{is_waiting}
use Rattle.apple_session.specs.PeerLists.{length-without-found}
use Rattle.apple_session.proofs.list.make_room.Goals as goal

pub returns-in-Some-clause-few : goal.returns-in-Some-clause-few
returns-in-Some-clause-few c = λ _.
    let items = c.args.peers.now.items in
    let waiting = c.in-Some.waiting in
    let found : find is_waiting items ≡ Some waiting = rw (← c.as_slice.ensures.value) (sym c.first_waiting.ensures ∙ c.in-Some.is) in
    rw c.remove.ensures.peers (omega (arith, length-without-found is_waiting items waiting found, c.is_full.ensures.fits))
