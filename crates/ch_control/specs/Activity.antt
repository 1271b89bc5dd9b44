-- What ends a controller, by the standard's words for activity (RFC 6295, A.1) and for items (A.3.1). Which controllers
-- Control 121 leaves as they are is this project's own choice.
use Rattle.std.specs.Prelude.{◌≡◌, ℕ, Bool, false, ◌||◌, ◌==◌, if◌then◌else◌}
use Rattle.jm_cmds.specs.declared.history.Sent.{Sent}
use Rattle.jm_cmds.specs.Control.{is_reset, ends_controllers}
use Rattle.ch_control.specs.declared.events.ControlEvent.{ControlEvent}
use Rattle.ch_control.specs.declared.events.ControlEvent.TheVariants.{Set, Dropped, Other}
use Rattle.ch_control.specs.ControlEvent.{item_of, is_kept, event_at, control_ends}

-- whether it is a control of the same item
abbrev pub is_same : (number : ℕ) → ControlEvent → Bool
is_same number (Set other value) = item_of number == item_of other
is_same number Dropped = false
is_same number Other = false

-- A control is ended by a later one of its item, and by what makes it no longer active where Control 121 leaves
-- it as it is, else by what makes it no longer C-active.
abbrev pub EndsByActivity : Type 0
EndsByActivity = (channel number value : ℕ) (place later : Sent) → event_at channel place ≡ Set number value →
    control_ends channel place later ≡ (is_same number (event_at channel later) || (if is_kept number then is_reset later.command else ends_controllers channel later.command))
