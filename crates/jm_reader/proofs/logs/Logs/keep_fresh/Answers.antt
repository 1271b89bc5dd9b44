use Rattle.std.proofs.Common.{sym, rules}
use Rattle.std.proofs.lemmas.Fn.{filter_same}
use Rattle.jm_reader.proofs.logs.Logs.keep_fresh.Goals as goal

-- src/logs.rt
pub returns : goal.returns
returns c = rw (sym c.self.view_is) (filter_same _ _ _ (λ x b f' k. search rules) _ _ c.retain.ensures.filtered)
