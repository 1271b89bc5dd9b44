use Rattle.jm_jam.proofs.Passes.{part_made}
use Rattle.jm_jam.proofs.parting.part.Goals as goal

pub returns-clause-part : goal.returns-clause-part
returns-clause-part c =
    part_made c.args.desk.now c.args.pass.now c.split-part.result c.front-seen.new.pass c.front-seen.ensures.own c.split-part.ensures.given c.front-seen.ensures.more
