use Rattle.std.proofs.Common.{subst}
use Rattle.jm_book.specs.declared.steps.Config.{Config}
use Rattle.jm_desk.specs.History.{IsHistory}
use Rattle.jm_jam.proofs.JamHistory.{is_jam}
use Rattle.jm_jam.proofs.whole.jam.Goals as goal

pub returns-in-Ok-clause-played : goal.returns-in-Ok-clause-played
returns-in-Ok-clause-played g c = λ done.
    let pass = c.make_all-done.new.pass in
    record {
      turns = pass.view.seen;
      jam = is_jam c.in-Ok.desk c.args.seed c.args.count pass c.make_all-done.ensures.alone.number_is (c.make_all-done.ensures.makes done) c.close-tape.ensures.accounts
          (subst (λ (config : Config). IsHistory config pass.view.seen) c.in-Ok.ensures.config c.close-tape.ensures.history);
      tape_is = c.close-tape.ensures.steps;
    }
