use Rattle.ch_param.specs.Limits.{param_count-push, param_count-other, param_count-unselected, param_count-met, param_count-later, param_count-none}
use Rattle.ch_param.proofs.laws.param_limits.Goals as goal

pub returns : goal.returns
returns c = record {
  one_more = param_count-push;
  other = param_count-other;
  unselected = param_count-unselected;
  met = param_count-met;
  fewer = param_count-later;
  none = param_count-none;
}
