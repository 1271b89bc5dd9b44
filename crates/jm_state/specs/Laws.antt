-- What the laws of this crate say.
use Rattle.std.specs.Prelude.{◌≡◌, ℕ, ◌<◌, ◌≤◌, Bool, true, false, List, Some, None, length, filter}
use Rattle.jm_cmds.specs.declared.param.Param.{Param}
use Rattle.jm_cmds.specs.Param.{same_param}
use Rattle.jm_cmds.specs.declared.history.Sent.{Sent}
use Rattle.jm_cmds.specs.History.{InOrder}
use Rattle.jm_cmds.specs.Pedal.{pedal_after}
use Rattle.jm_cmds.specs.Sent.{packet_of}
use Rattle.jm_state.specs.declared.entered.Entry.{Entry}
use Rattle.jm_state.specs.Entered.{halves_in, half_set, is_other, entered_with}
use Rattle.jm_cmds.specs.declared.commands.Command.{Command}
use Rattle.jm_cmds.specs.Command.{is_long}
use Rattle.jm_state.specs.declared.state.State.{State}
use Rattle.jm_state.specs.Parts.{no_state, pedal_of}
use Rattle.jm_state.specs.Apply.{applied}
use Rattle.jm_state.specs.Kept.{IsState}
use Rattle.jm_state.specs.PartLaws.{AppliesByPart}
use Rattle.jm_state.specs.SettingLaws.{SetsAlone, ReadsAsSet}
use Rattle.jm_state.specs.ReplayLaws.{PlaysAgain, state_behind}

-- The state as a session begins has 16 channels with their tables, and each command keeps them.
pub record StaysWhole : Type 0 where
  pub begins : IsState no_state
  pub goes_on : (s : State) (command : Command) → IsState s → IsState (applied s command)

-- Each part is a last writer: a command sets it, drops it or leaves it, whatever the other parts are. Only a program reads
-- Controls 0 and 32, and the toggles Control 64, with which they are the channel's sustain pedal.
abbrev pub ByPart : Type 0
ByPart = (s : State) (command : Command) → IsState s → AppliesByPart s command

-- A long command sets no part, counts for none and drops none: the state behind it is the one before.
abbrev pub LongSetsNothing : Type 0
LongSetsNothing = (s : State) (command : Command) → is_long command ≡ true → applied s command ≡ s

-- Each call that sets a part leaves each other part as it is, and the part reads as it was set.
pub record SetsParts (s : State) : Type 0 where
  pub alone : SetsAlone s
  pub as_set : ReadsAsSet s

abbrev pub SetsOnePart : Type 0
SetsOnePart = (s : State) → IsState s → SetsParts s

-- A half that is entered is there, with the other half that its parameter has, and at most 16 parameters are kept. Where
-- fewer than 16 others are there each of them stays as it is, and so they do where a half is taken away.
pub record EntersLast : Type 0 where
  pub own : (high : Bool) (p : Param) (value : ℕ) (es : List Entry) → halves_in (entered_with high p (Some value) es) p ≡ half_set high (Some value) (halves_in es p)
  pub few : (high : Bool) (p : Param) (value : ℕ) (es : List Entry) → length (entered_with high p (Some value) es) ≤ 16
  pub others : (high : Bool) (p other : Param) (value : ℕ) (es : List Entry) → length (filter (is_other p) es) < 16 → same_param p other ≡ false → halves_in (entered_with high p (Some value) es) other ≡ halves_in es other
  pub taken : (high : Bool) (p other : Param) (es : List Entry) → same_param p other ≡ false → halves_in (entered_with high p None es) other ≡ halves_in es other

-- For every history in the order of its packets: the commands from a packet on, played once more over what the packets below another
-- left that isn't earlier, leave what all commands leave.
abbrev pub CommandsPlayAgain : Type 0
CommandsPlayAgain = (checkpoint packet : ℕ) (sent : List Sent) → InOrder packet_of sent → checkpoint ≤ packet → PlaysAgain checkpoint packet sent

-- The pedal of each channel, up or down with its toggles, is the one that the commands of a session leave.
abbrev pub CountsToggles : Type 0
CountsToggles = (channel : ℕ) (sent : List Sent) → channel < 16 → pedal_of (state_behind no_state sent) channel ≡ pedal_after channel sent
