-- A receive that fails.
use Rattle.std.specs.Prelude.{[]}
use Rattle.jm_edge.specs.Exchange.{Exchanges}
use Rattle.jm_edge.specs.Faults.{Rose}
use Rattle.jm_edge.specs.Wire.{Wire}

-- a receive failed and took nothing
pub record Breaks (old new : Wire) : Type 0 where
  pub nothing : Exchanges [] [] old new
  pub rose : Rose old.recv_faults new.recv_faults
