-- Which command fits: the limits of Chapters M, A and X over the commands from a checkpoint on.
use Rattle.std.specs.Prelude.{ℕ, ◌+◌, ◌-◌, ◌^◌, ◌≤◌, ◌<◌, min, Bool, not, ◌||◌, ◌&&◌, List, Option, Some, None, length, nat_le, nat_lt, if◌then◌else◌}
use Rattle.jm_cmds.specs.declared.commands.Command.{Command}
use Rattle.jm_cmds.specs.declared.commands.Command.TheVariants.{Control, PolyPressure, Sysex}
use Rattle.jm_cmds.specs.declared.history.Sent.{Sent}
use Rattle.jm_cmds.specs.Control.{is_entry, is_reset_message}
use Rattle.jm_cmds.specs.Data.{is_kept_message}
use Rattle.ch_param.specs.ChapterM.{param_count, has_param, selected}
use Rattle.ch_notes.specs.ChapterA.{poly_count, has_poly}
use Rattle.ch_sysex.specs.ChapterX.{sysex_logs, sysex_octets}
use Rattle.jm_journal.specs.declared.fits.Fit.{Fit}
use Rattle.jm_journal.specs.declared.fits.Fit.TheVariants.{Yes, ParamsFull, PolyFull, SysexFull}

-- What is coded of these commands for this checkpoint keeps the limits: 16 parameters and 64 notes' pressures in a
-- channel, 128 SysEx in 1,000 octets.
pub record KeepsLimits (checkpoint : ℕ) (sent : List Sent) : Type 0 where
  pub params : (channel : ℕ) → channel < 16 → param_count channel checkpoint sent ≤ 16
  pub notes : (channel : ℕ) → channel < 16 → poly_count channel checkpoint sent ≤ 64
  pub logs : sysex_logs checkpoint sent ≤ 128
  pub octets : sysex_octets checkpoint sent ≤ 1000

-- a value of the selected parameter fits where that parameter is coded, or fewer than 16 are
abbrev pub entry_fit : (channel checkpoint : ℕ) → List Sent → Option (Bool × ℕ × ℕ) → Fit
entry_fit channel checkpoint sent None = Yes
entry_fit channel checkpoint sent (Some parameter) =
    if nat_lt (param_count channel checkpoint sent) 16 || has_param channel checkpoint parameter.0 parameter.1 parameter.2 sent then Yes
    else ParamsFull channel (param_count channel checkpoint sent)

abbrev pub control_fit : (channel number checkpoint : ℕ) → List Sent → Fit
control_fit channel number checkpoint sent =
    if is_entry number then entry_fit channel checkpoint sent (selected channel sent) else Yes

-- a note's pressure fits where that note is coded, or fewer than 64 are
abbrev pub poly_fit : (channel note checkpoint : ℕ) → List Sent → Fit
poly_fit channel note checkpoint sent =
    if nat_lt (poly_count channel checkpoint sent) 64 || has_poly channel checkpoint note sent then Yes
    else PolyFull channel (poly_count channel checkpoint sent)

-- a SysEx that is kept and is no Reset State command fits where 128 logs and 1,000 octets hold its log too
abbrev pub sysex_fit : (octets : List ℕ) → (checkpoint : ℕ) → List Sent → Fit
sysex_fit octets checkpoint sent =
    if not (is_kept_message octets) || is_reset_message octets then Yes
    else if nat_lt (sysex_logs checkpoint sent) 128 && nat_le (sysex_octets checkpoint sent + (2 + length octets)) 1000 then Yes
    else SysexFull (sysex_logs checkpoint sent) (sysex_octets checkpoint sent)

-- Whether a command fits behind these, were they all sent.
unfoldable pub fit_of : (checkpoint : ℕ) → List Sent → Command → Fit
fit_of checkpoint sent (Control channel number value) = control_fit channel number checkpoint sent
fit_of checkpoint sent (PolyPressure channel note value) = poly_fit channel note checkpoint sent
fit_of checkpoint sent (Sysex octets) = sysex_fit octets checkpoint sent
fit_of checkpoint sent _ = Yes

-- An answer in numbers of 64 bits: octets past them are told as the greatest of them.
abbrev pub told : Fit → Fit
told Yes = Yes
told (ParamsFull channel kept) = ParamsFull channel kept
told (PolyFull channel kept) = PolyFull channel kept
told (SysexFull logs octets) = SysexFull logs (min octets (2 ^ 64 - 1))
