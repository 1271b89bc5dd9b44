use Rattle.std.proofs.Common.{◌∙◌, sym}
use Rattle.jm_serve.specs.Receivers.{stray, given}
use Rattle.jm_serve.proofs.receivers.Receivers.take.Goals as goal

pub returns-in-None-clause-takes : goal.returns-in-None-clause-takes
returns-in-None-clause-takes c = stray (sym c.place_for.ensures.place ∙ c.in-None.is)

pub returns-in-Some-clause-takes : goal.returns-in-Some-clause-takes
returns-in-Some-clause-takes c = given c.in-Some.place c.take_at.result c.take_at.new.self (sym c.place_for.ensures.place ∙ c.in-Some.is) c.take_at.ensures.takes
