-- What the laws of this crate say.
use Rattle.std.specs.Prelude.{◌≡◌, ℕ, ◌≤◌, ◌<◌, ◌^◌, List, [], ◌∷◌, ◌++◌}
use Rattle.jm_cmds.specs.declared.commands.Command.{Command}
use Rattle.jm_cmds.specs.declared.history.Sent.{Sent}
use Rattle.ch_sysex.specs.ChapterX.{sysex_octets}
use Rattle.jm_journal.specs.declared.fits.Fit.TheVariants.{Yes}
use Rattle.jm_journal.specs.Limits.{KeepsLimits, fit_of, told}

-- What is coded keeps its limits as commands that fit are sent and the checkpoint goes on.
pub record KeepsWhatFits : Type 0 where
  pub nothing : (checkpoint : ℕ) → KeepsLimits checkpoint []
  pub one_more : (checkpoint : ℕ) (sent : List Sent) (last : Sent) → checkpoint ≤ last.packet → fit_of checkpoint sent last.command ≡ Yes → KeepsLimits checkpoint sent → KeepsLimits checkpoint (sent ++ last ∷ [])
  pub later : (checkpoint later : ℕ) (sent : List Sent) → checkpoint ≤ later → KeepsLimits checkpoint sent → KeepsLimits later sent
  pub whole : (checkpoint : ℕ) (sent : List Sent) (command : Command) → sysex_octets checkpoint sent < 2 ^ 64 → told (fit_of checkpoint sent command) ≡ fit_of checkpoint sent command
