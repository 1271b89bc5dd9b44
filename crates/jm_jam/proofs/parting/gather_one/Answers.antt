use Rattle.jm_jam.proofs.Passes.{gathers_one}
use Rattle.jm_jam.proofs.parting.gather_one.Goals as goal

pub returns-clause-gathers : goal.returns-clause-gathers
returns-clause-gathers c =
    gathers_one c.args.pass.now c.join.new.self c.args.back c.join.ensures.joined c.join.ensures.seen c.join.ensures.told
