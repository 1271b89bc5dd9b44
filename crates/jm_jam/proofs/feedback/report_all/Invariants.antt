use Rattle.jm_desk.specs.Sharing.{IsOf}
use Rattle.jm_jam.specs.Working.{Reporting}
use Rattle.jm_jam.proofs.feedback.report_all.Given as goal

abbrev pub invariant-loop-made : goal.invariant-loop-made
invariant-loop-made g l = record {
  own : IsOf l.desk l.pass;
  reporting : Reporting l.ssrc l._made l.number l.initial.pass l.pass;
}
