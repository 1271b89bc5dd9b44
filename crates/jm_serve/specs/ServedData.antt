-- What the data port's worker did.
use Rattle.std.specs.Prelude.{ℕ, false, [], Option}
use Rattle.jm_edge.specs.Wire.{Wire}
use Rattle.jm_desk.specs.Sharing.{Shared, PassView, config_of}
use Rattle.jm_serve.specs.declared.worked.Worked.{Worked}
use Rattle.jm_serve.specs.Rounds.{MakesRounds}
use Rattle.jm_serve.specs.Data.{DataRound}

-- It made rounds, from the first of which its packets are counted; it had no receivers before, and counts sends that failed from 0.
pub record ServesData (desk : Shared) (turns : ℕ) (worked : Worked) (old new : PassView) (wire wire' : Wire) (coming coming' : Option (ℕ → ℕ)) : Type 0 where
  pub calls : ℕ
  pub rounds : MakesRounds (DataRound (config_of desk)) (record { sender = record { last_cut = 0; owed = false; call = 0; send_faults = 0 }; has_begun = false; receivers = [] }) desk turns worked.end
      (record { scene = record { pass = old; wire = wire; call = 0; faults = 0 }; coming = coming })
      (record { scene = record { pass = new; wire = wire'; call = calls; faults = worked.send_faults }; coming = coming' })
