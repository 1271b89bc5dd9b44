use Rattle.jm_desk.specs.declared.turn.Outcome.TheVariants.{NoMemory}
use Rattle.jm_desk.specs.HistoryLaws.{stands_kept, stands_still}
use Rattle.jm_desk.specs.SharingLaws.{since_first, turn_taken, makes_turn}
use Rattle.jm_desk.proofs.desk.Desk.begin.Goals as goal

pub end-requires-clause-stands : goal.end-requires-clause-stands
end-requires-clause-stands g c =
    let stands = since_first c.args.self.now c.args.pass.now c.take-held.result c.take-held.new.pass.view.seen c.requires.own c.take-held.ensures.value in
    stands_still c.args.self.now.first c.take-held.result record { book = c.reserve.new.self } c.take-held.new.pass.view.seen c.take-held.new.pass.view.number c.args.call.now.value stands c.reserve.ensures.config c.reserve.ensures.steps

pub returns-in-Ok-clause-came : goal.returns-in-Ok-clause-came
returns-in-Ok-clause-came g c =
    let desk = c.args.self.now in
    let mid = c.take-held.new.pass in
    let stands = since_first desk c.args.pass.now c.take-held.result mid.view.seen c.requires.own c.take-held.ensures.value in
    let kept = stands_kept desk.first c.take-held.result record { book = c.reserve.new.self } mid.view.seen stands c.reserve.ensures.config c.reserve.ensures.steps in
    (turn_taken desk c.args.pass.now mid record { book = c.reserve.new.self } c.take-held.ensures.same.0 c.take-held.ensures.same.1 c.take-held.ensures.turn.0 c.take-held.ensures.turn.1 c.take-held.ensures.seen kept, c.in-Ok.ensures.room)

pub returns-in-Err-clause-came : goal.returns-in-Err-clause-came
returns-in-Err-clause-came g c =
    let desk = c.args.self.now in
    let mid = c.take-held.new.pass in
    let stands = since_first desk c.args.pass.now c.take-held.result mid.view.seen c.requires.own c.take-held.ensures.value in
    let holds = turn_taken desk c.args.pass.now mid c.take-held.result c.take-held.ensures.same.0 c.take-held.ensures.same.1 c.take-held.ensures.turn.0 c.take-held.ensures.turn.1 c.take-held.ensures.seen stands in
    let still = stands_still desk.first c.take-held.result record { book = c.reserve.new.self } mid.view.seen mid.view.number c.args.call.now.value stands c.reserve.ensures.config c.reserve.ensures.steps in
    makes_turn desk c.args.pass.now mid c.end.new.pass c.take-held.result record { book = c.reserve.new.self } c.args.call.now.value NoMemory holds still c.end.ensures.given
