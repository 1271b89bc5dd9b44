use Rattle.std.proofs.Common.{refl, sym, ◌∙◌}
use Rattle.jm_serve.specs.Listening.{no_receiver}
use Rattle.jm_serve.proofs.listening.welcome.Goals as goal

pub returns-in-Err : goal.returns-in-Err
returns-in-Err c = no_receiver c.in-Some.player c.in-Some.ssrc (sym c.newcomer_by.ensures ∙ c.in-Some.is) refl c.in-Err.ensures.unchanged
