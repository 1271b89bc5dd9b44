use Rattle.std.proofs.Common.{◌∙◌, [], ◌∷◌, sym, ap}
use Rattle.jm_book.specs.declared.steps.Step.TheVariants as step
use Rattle.jm_book.specs.Answers.{is_packet}
use Rattle.jm_desk.specs.declared.turn.Outcome.TheVariants as outcome
use Rattle.jm_desk.specs.History.{turned}
use Rattle.jm_jam.specs.Made.{made, tick_at}
use Rattle.jm_jam.specs.Workers.{play_turn, cut_turn}
use Rattle.jm_jam.specs.Workers.{settled, not_cut}
use Rattle.jm_jam.proofs.Adding.{adds_call, adds_then, play_adds, cut_adds, goes_packet}
use Rattle.jm_jam.proofs.player.try_once.Goals as goal

pub returns-in-Err-clause-tries : goal.returns-in-Err-clause-tries
returns-in-Err-clause-tries g c =
    let call = step.Play c.get-player.result c.command.result c.tick_of-tick.result in
    record {
      turns = turned call outcome.NoMemory ∷ [];
      adds = adds_call c.args.desk.now c.args.pass.now c.play_once.new.pass call outcome.NoMemory c.in-Err.ensures.turn;
      came = tt;
    }

pub returns-then-not-needs_cut-clause-tries : goal.returns-then-not-needs_cut-clause-tries
returns-then-not-needs_cut-clause-tries g c =
    let making = c.args.making.now in
    let command = made making.player making.start making.step in
    let answer = c.in-Ok.turn.answer in
    record {
      turns = play_turn making.player command (tick_at making.step) answer ∷ [];
      adds = play_adds c.args.desk.now c.args.pass.now c.play_once.new.pass making.player c.get-player.result command c.command.result (tick_at making.step) c.tick_of-tick.result answer c.in-Ok.ensures.turn (c.get-player.ensures.value ∙ c.player.ensures) c.command.ensures c.tick_of-tick.ensures;
      came = settled answer (sym c.needs_cut.ensures ∙ c.if-not-needs_cut.true);
    }

pub returns-in-Err-cut_once-clause-tries : goal.returns-in-Err-cut_once-clause-tries
returns-in-Err-cut_once-clause-tries g c =
    let making = c.args.making.now in
    let command = made making.player making.start making.step in
    let answer = c.in-Ok.turn.answer in
    let play = play_turn making.player command (tick_at making.step) answer in
    let cut = turned (step.Cut c.tick_of-tick.result) outcome.NoMemory in
    let first = play_adds c.args.desk.now c.args.pass.now c.play_once.new.pass making.player c.get-player.result command c.command.result (tick_at making.step) c.tick_of-tick.result answer c.in-Ok.ensures.turn (c.get-player.ensures.value ∙ c.player.ensures) c.command.ensures c.tick_of-tick.ensures in
    record {
      turns = play ∷ cut ∷ [];
      adds = adds_then (play ∷ []) (cut ∷ []) c.args.pass.now c.play_once.new.pass c.cut_once.new.pass first (adds_call c.args.desk.now c.play_once.new.pass c.cut_once.new.pass (step.Cut c.tick_of-tick.result) outcome.NoMemory c.in-Err-cut_once.ensures.turn);
      came = tt;
    }

pub returns-in-Packet-clause-tries : goal.returns-in-Packet-clause-tries
returns-in-Packet-clause-tries g c =
    let making = c.args.making.now in
    let command = made making.player making.start making.step in
    let answer = c.in-Ok.turn.answer in
    let cut = c.in-Ok-cut_once.turn.answer in
    let needs = sym c.needs_cut.ensures ∙ c.if-not-needs_cut.false in
    let first = play_adds c.args.desk.now c.args.pass.now c.play_once.new.pass making.player c.get-player.result command c.command.result (tick_at making.step) c.tick_of-tick.result answer c.in-Ok.ensures.turn (c.get-player.ensures.value ∙ c.player.ensures) c.command.ensures c.tick_of-tick.ensures in
    let then_cut = cut_adds c.args.desk.now c.play_once.new.pass c.cut_once.new.pass (tick_at making.step) c.tick_of-tick.result cut c.in-Ok-cut_once.ensures.turn c.tick_of-tick.ensures in
    record {
      turns = play_turn making.player command (tick_at making.step) answer ∷ cut_turn (tick_at making.step) cut ∷ [];
      adds = adds_then (play_turn making.player command (tick_at making.step) answer ∷ []) (cut_turn (tick_at making.step) cut ∷ []) c.args.pass.now c.play_once.new.pass c.cut_once.new.pass first then_cut;
      came = goes_packet making.player command (tick_at making.step) answer cut needs (ap is_packet c.in-Packet.is);
    }

pub returns-in-RecordFull-clause-tries : goal.returns-in-RecordFull-clause-tries
returns-in-RecordFull-clause-tries g c =
    let making = c.args.making.now in
    let command = made making.player making.start making.step in
    let answer = c.in-Ok.turn.answer in
    let cut = c.in-Ok-cut_once.turn.answer in
    let needs = sym c.needs_cut.ensures ∙ c.if-not-needs_cut.false in
    let first = play_adds c.args.desk.now c.args.pass.now c.play_once.new.pass making.player c.get-player.result command c.command.result (tick_at making.step) c.tick_of-tick.result answer c.in-Ok.ensures.turn (c.get-player.ensures.value ∙ c.player.ensures) c.command.ensures c.tick_of-tick.ensures in
    let then_cut = cut_adds c.args.desk.now c.play_once.new.pass c.cut_once.new.pass (tick_at making.step) c.tick_of-tick.result cut c.in-Ok-cut_once.ensures.turn c.tick_of-tick.ensures in
    record {
      turns = play_turn making.player command (tick_at making.step) answer ∷ cut_turn (tick_at making.step) cut ∷ [];
      adds = adds_then (play_turn making.player command (tick_at making.step) answer ∷ []) (cut_turn (tick_at making.step) cut ∷ []) c.args.pass.now c.play_once.new.pass c.cut_once.new.pass first then_cut;
      came = not_cut answer cut needs (ap is_packet c.in-RecordFull.is);
    }

pub returns-clause-tries : goal.returns-clause-tries
returns-clause-tries g c =
    let making = c.args.making.now in
    let command = made making.player making.start making.step in
    let answer = c.in-Ok.turn.answer in
    let cut = c.in-Ok-cut_once.turn.answer in
    let needs = sym c.needs_cut.ensures ∙ c.if-not-needs_cut.false in
    let first = play_adds c.args.desk.now c.args.pass.now c.play_once.new.pass making.player c.get-player.result command c.command.result (tick_at making.step) c.tick_of-tick.result answer c.in-Ok.ensures.turn (c.get-player.ensures.value ∙ c.player.ensures) c.command.ensures c.tick_of-tick.ensures in
    let then_cut = cut_adds c.args.desk.now c.play_once.new.pass c.cut_once.new.pass (tick_at making.step) c.tick_of-tick.result cut c.in-Ok-cut_once.ensures.turn c.tick_of-tick.ensures in
    record {
      turns = play_turn making.player command (tick_at making.step) answer ∷ cut_turn (tick_at making.step) cut ∷ [];
      adds = adds_then (play_turn making.player command (tick_at making.step) answer ∷ []) (cut_turn (tick_at making.step) cut ∷ []) c.args.pass.now c.play_once.new.pass c.cut_once.new.pass first then_cut;
      came = not_cut answer cut needs (ap is_packet c.in-Behind.is);
    }
