use Rattle.midi_host.specs.ServedSession.{config_for}
use Rattle.midi_host.proofs.ServingPasses.{Passes, served}
use Rattle.midi_host.proofs.serving.serve_session.Goals as goal

pub returns-clause-served : goal.returns-clause-served
returns-clause-served g c =
    let opened = c.in_ok-desk.pass in
    let control_pass = c.split-control_pass.result in
    let between = c.split-control_pass.new.self in
    let data_pass = c.split-data_pass.result in
    let apart = c.split-data_pass.new.self in
    let control_looked = c.front-seen.new.pass in
    let data_looked = c.front-seen-2.new.pass in
    let first = c.join.new.self in
    let last = c.join-2.new.self in
    let passes : Passes c.in_ok-desk.desk opened control_pass between data_pass apart control_looked data_looked first last = record {
      opened_as = c.in_ok-desk.ensures.view;
      control_given = c.split-control_pass.ensures.given;
      once = c.split-control_pass.ensures.parted;
      data_given = c.split-data_pass.ensures.given;
      twice = c.split-data_pass.ensures.parted;
      control_joined = c.join.ensures.joined;
      control_others = c.join.ensures.seen;
      control_told = c.join.ensures.told;
      data_joined = c.join-2.ensures.joined;
      data_others = c.join-2.ensures.seen;
      data_told = c.join-2.ensures.told;
    } in
    served c.in_ok-desk.desk opened control_pass between data_pass apart control_looked data_looked first last passes c.args.asked.now.turns c.work_both.result.0 c.work_both.result.1 c.work_both.new.control_pass c.work_both.new.data_pass
    (config_for c.args.asked.now) c.close.result.items _ _ _ _ _ _ _ _ c.in_ok-desk.ensures.config c.work_both.ensures.controls c.work_both.ensures.plays c.front-seen.ensures.more c.front-seen-2.ensures.more c.close.ensures.accounts c.close.ensures.history c.close.ensures.steps
