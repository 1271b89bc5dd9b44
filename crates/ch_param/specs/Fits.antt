-- Of commands within their bounds each half of a parameter's number and each value has seven bits.
use Rattle.std.proofs.Common.{ℕ, ◌<◌, Bool, true, false, cond, ◌&&◌, eqb, leb, List, [], ◌∷◌, Option, Some, None, inl, inr}
use Rattle.std.specs.List.{filter_map, cons_option, AllByRecursion}
use Rattle.std.proofs.lemmas.Bool.{cases_Bool}
use Rattle.jm_cmds.specs.declared.commands.Command.{Command}
use Rattle.jm_cmds.specs.declared.commands.Command.TheVariants.{Control}
use Rattle.jm_cmds.specs.declared.controls.ControlKind.{ControlKind}
use Rattle.jm_cmds.specs.declared.controls.ControlKind.TheVariants.{DataEntry, Selection as Selecting}
use Rattle.jm_cmds.specs.declared.history.Sent.{Sent}
use Rattle.jm_cmds.specs.declared.param.Param.{Param}
use Rattle.jm_cmds.specs.declared.selection.ParamCommand.{ParamCommand}
use Rattle.jm_cmds.specs.declared.selection.ParamCommand.TheVariants.{Select, Enter, Unselect, Clear, Pass}
use Rattle.jm_cmds.specs.declared.selection.Selection.{Selection}
use Rattle.jm_cmds.specs.Command.{IsCommand}
use Rattle.jm_cmds.specs.Control.{control_kind, is_reset}
use Rattle.jm_cmds.specs.History.{standing, coded}
use Rattle.jm_cmds.specs.HistoryLaws.{AllByRecursion-filter, AllByRecursion-standing}
use Rattle.jm_cmds.specs.Param.{param_of}
use Rattle.jm_cmds.specs.Selection.{param_command, control_command, selection_with, selection_after, selected_param}
use Rattle.ch_param.specs.declared.events.ParamEvent.{ParamEvent}
use Rattle.ch_param.specs.declared.events.ParamEvent.TheVariants.{Entry, Cleared, Other}
use Rattle.ch_param.specs.Event.{Place, placed, selection_step, packet_at, entry, event_at, param_event, param_ends}
use Rattle.ch_param.specs.ChapterM.{Entered, entered, entered_at, entered_by, event_param, is_half, event_value, half_among}

abbrev pub FitsHalf : Option ℕ → Type 0
FitsHalf (Some value) = value < 128
FitsHalf None = Unit {0}

abbrev pub FitsNumber : Param → Type 0
FitsNumber param = (param.high < 128) × (param.low < 128)

abbrev FitsSelected : Option Param → Type 0
FitsSelected (Some param) = FitsNumber param
FitsSelected None = Unit {0}

abbrev pub FitsEvent : ParamEvent → Type 0
FitsEvent (Entry param high value) = FitsNumber param × (value < 128)
FitsEvent Cleared = Unit {0}
FitsEvent Other = Unit {0}

abbrev FitsCommand : ParamCommand → Type 0
FitsCommand (Select nrpn high value) = value < 128
FitsCommand (Enter high value) = value < 128
FitsCommand Unselect = Unit {0}
FitsCommand Clear = Unit {0}
FitsCommand Pass = Unit {0}

abbrev pub FitsSelection : Selection → Type 0
FitsSelection s = FitsHalf s.rpn_high × FitsHalf s.rpn_low × FitsHalf s.nrpn_high × FitsHalf s.nrpn_low

fits-control : (kind : ControlKind) (value : ℕ) → value < 128 → FitsCommand (control_command kind value)
fits-control (DataEntry high) value l = l
fits-control (Selecting nrpn high) value l = l
fits-control kind value l = tt

fits-clear : (b : Bool) → FitsCommand (cond b Clear Pass)
fits-clear true = tt
fits-clear false = tt

pub fits-command : (channel : ℕ) (command : Command) → IsCommand command → FitsCommand (param_command channel command)
fits-command channel (Control at number value) h =
    elim (cases_Bool (eqb at channel)) [ inl t ↦ rw t (fits-control (control_kind number) value h.2) | inr f ↦ rw f tt ]
fits-command channel command h = fits-clear (is_reset command)

fits-with : (nrpn high : Bool) (value : ℕ) (s : Selection) → value < 128 → FitsSelection s → FitsSelection (selection_with nrpn high value s)
fits-with true true value s l f = (f.0, f.1, l, f.3)
fits-with true false value s l f = (f.0, f.1, f.2, l)
fits-with false true value s l f = (l, f.1, f.2, f.3)
fits-with false false value s l f = (f.0, l, f.2, f.3)

pub fits-after : (s : Selection) (command : ParamCommand) → FitsSelection s → FitsCommand command → FitsSelection (selection_after s command)
fits-after s (Select nrpn high value) f c = fits-with nrpn high value s c f
fits-after s (Enter high value) f c = f
fits-after s Unselect f c = (tt, tt, tt, tt)
fits-after s Clear f c = (tt, tt, tt, tt)
fits-after s Pass f c = f

fits-param_of : (nrpn : Bool) (high low : Option ℕ) → FitsHalf high → FitsHalf low → FitsSelected (param_of nrpn high low)
fits-param_of nrpn (Some high) (Some low) h l =
    elim (cases_Bool (eqb high 127 && eqb low 127)) [ inl t ↦ rw t tt | inr f ↦ rw f (h, l) ]
fits-param_of nrpn (Some high) None h l = tt
fits-param_of nrpn None low h l = tt

fits-selected : (s : Selection) → FitsSelection s → FitsSelected (selected_param s)
fits-selected s f =
    elim (cases_Bool s.nrpn) [
      | inl t ↦ rw t (fits-param_of true s.nrpn_high s.nrpn_low f.2 f.3)
      | inr n ↦ rw n (fits-param_of false s.rpn_high s.rpn_low f.0 f.1)
    ]

fits-entry : (high : Bool) (value : ℕ) (param : Option Param) → value < 128 → FitsSelected param → FitsEvent (entry high value param)
fits-entry high value (Some param) l f = (f, l)
fits-entry high value None l f = tt

pub fits-event : (s : Selection) (command : ParamCommand) → FitsSelection s → FitsCommand command → FitsEvent (param_event s command)
fits-event s (Enter high value) f c = fits-entry high value (selected_param s) c (fits-selected s f)
fits-event s (Select nrpn high value) f c = tt
fits-event s Unselect f c = tt
fits-event s Clear f c = tt
fits-event s Pass f c = tt

pub fits-placed : (channel : ℕ) (s : Selection) (sent : List Sent) → FitsSelection s → AllByRecursion (λ place. IsCommand place.command) sent →
    AllByRecursion (λ place. FitsEvent (event_at channel place)) (placed channel s sent)
fits-placed channel s [] f h = tt
fits-placed channel s (x ∷ xs) f h =
    let command = fits-command channel x.command h.0 in
    (fits-event s (param_command channel x.command) f command, fits-placed channel (selection_step channel s x) xs (fits-after s (param_command channel x.command) f command) h.1)

-- ## What is coded fits

fits-value : (b : Bool) (event : ParamEvent) (more : Option ℕ) → FitsEvent event → FitsHalf more → FitsHalf (cond b (event_value event) more)
fits-value true (Entry param high value) more e m = e.1
fits-value true Cleared more e m = tt
fits-value true Other more e m = tt
fits-value false event more e m = m

pub fits-among : (channel : ℕ) (param : Param) (high : Bool) (places : List Place) → AllByRecursion (λ place. FitsEvent (event_at channel place)) places →
    FitsHalf (half_among channel param high places)
fits-among channel param high [] h = tt
fits-among channel param high (x ∷ xs) h =
    fits-value (is_half param high (event_at channel x)) (event_at channel x) (half_among channel param high xs) h.0 (fits-among channel param high xs h.1)

fits-cons : (sent : Sent) (event : ParamEvent) (more : List Entered) → FitsEvent event → AllByRecursion (λ e. FitsNumber e.param) more →
    AllByRecursion (λ e. FitsNumber e.param) (cons_option (entered_by sent (event_param event)) more)
fits-cons sent (Entry param high value) more e m = (e.0, m)
fits-cons sent Cleared more e m = m
fits-cons sent Other more e m = m

fits-filtered : (channel : ℕ) (places : List Place) → AllByRecursion (λ place. FitsEvent (event_at channel place)) places →
    AllByRecursion (λ e. FitsNumber e.param) (filter_map (entered_at channel) places)
fits-filtered channel [] h = tt
fits-filtered channel (x ∷ xs) h = fits-cons x.1 (event_at channel x) (filter_map (entered_at channel) xs) h.0 (fits-filtered channel xs h.1)

pub fits-coded : (channel checkpoint : ℕ) (ends : Place → Place → Bool) (places : List Place) → AllByRecursion (λ place. FitsEvent (event_at channel place)) places →
    AllByRecursion (λ place. FitsEvent (event_at channel place)) (coded ends packet_at checkpoint places)
fits-coded channel checkpoint ends places h =
    AllByRecursion-filter (λ place. FitsEvent (event_at channel place)) (λ place. leb checkpoint (packet_at place)) (standing ends places)
    (AllByRecursion-standing (λ place. FitsEvent (event_at channel place)) ends places h)

pub fits-entered : (channel checkpoint : ℕ) (places : List Place) → AllByRecursion (λ place. FitsEvent (event_at channel place)) places →
    AllByRecursion (λ e. FitsNumber e.param) (entered channel checkpoint places)
fits-entered channel checkpoint places h = fits-filtered channel (coded (param_ends channel) packet_at checkpoint places) (fits-coded channel checkpoint (param_ends channel) places h)
