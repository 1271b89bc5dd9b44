use Rattle.jm_receiver.specs.Whole.{new_whole, accepted_whole, repaired_whole}
use Rattle.jm_receiver.proofs.laws.receivers_stay_whole.Goals as goal

pub returns : goal.returns
returns c = record { begins = new_whole; takes = accepted_whole; repairs = repaired_whole }
