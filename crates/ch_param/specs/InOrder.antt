-- The order of the logs (RFC 6295, A.1 and A.4.1).
use Rattle.std.specs.Prelude.{ℕ, Bool, List}
use Rattle.jm_cmds.specs.declared.history.Sent.{Sent}
use Rattle.jm_cmds.specs.History.{InOrder, Unended}
use Rattle.jm_cmds.specs.Param.{same_param}
use Rattle.ch_param.specs.ChapterM.{Entered, entered, session_places}

abbrev pub same_entered : Entered → Entered → Bool
same_entered e later = same_param e.param later.param

pub record LogsInOrder : Type 0 where
  -- Logs stand oldest first by the later of their coded halves, in order of any number that never falls along the history.
  pub oldest_first : (number_of : Sent → ℕ) (channel checkpoint : ℕ) (sent : List Sent) → InOrder number_of sent
      → InOrder (λ e. number_of e.latest) (entered channel checkpoint (session_places channel sent))
  -- No two are of one parameter.
  pub distinct : (channel checkpoint : ℕ) (sent : List Sent) → Unended same_entered (entered channel checkpoint (session_places channel sent))
