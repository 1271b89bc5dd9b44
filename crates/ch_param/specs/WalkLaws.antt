-- The coded parameters, one place of the history after another.
use Rattle.std.proofs.Common.{◌≡◌, ℕ, ◌<◌, Bool, true, false, cond, leb, List, ◌∷◌, Option, Some, None, length, refl, ap, ◌∙◌}
use Rattle.std.specs.List.{list_any, cons_option}
use Rattle.jm_cmds.specs.declared.history.Sent.{Sent}
use Rattle.jm_cmds.specs.HistoryLaws.{filter_map-coded}
use Rattle.jm_cmds.specs.declared.param.Param.{Param}
use Rattle.jm_cmds.specs.declared.selection.Selection.{Selection}
use Rattle.ch_param.specs.declared.events.ParamEvent.{ParamEvent}
use Rattle.ch_param.specs.declared.events.ParamEvent.TheVariants.{Entry, Cleared, Other}
use Rattle.ch_param.specs.Event.{Place, selection_step, placed, packet_at, event_at, takes_param, param_event_ends, param_ends}
use Rattle.ch_param.specs.ChapterM.{Entered, entered, entered_at, entered_by, event_param}

-- the parameter of this event, unless one of the later places enters it again or clears it
abbrev pub lasting_param : (channel : ℕ) → ParamEvent → List Place → Option Param
lasting_param channel (Entry param high value) later =
    cond (list_any (λ place. takes_param param (event_at channel place)) later) None (Some param)
lasting_param channel Cleared later = None
lasting_param channel Other later = None

-- the parameter whose latest entry is this place, where it is coded
abbrev pub coded_param : (channel checkpoint : ℕ) → Place → List Place → Option Param
coded_param channel checkpoint place later = cond (leb checkpoint (packet_at place)) (lasting_param channel (event_at channel place) later) None

-- the next coded parameter of a walk over places, of which there are so many
pub record IsNext (channel checkpoint : ℕ) (places : List Place) (count : ℕ) (param : Param) (latest : Sent) (selection : Selection) (later : List Sent) : Type 0 where
  pub next : entered channel checkpoint places ≡ record { param = param; latest = latest } ∷ entered channel checkpoint (placed channel selection later)
  pub fewer : length later < count

no_entry : (sent : Sent) (ended is_coded : Bool) → cond ended None (cond is_coded (entered_by sent None) None) ≡ entered_by sent (cond is_coded None None)
no_entry sent true true = refl
no_entry sent true false = refl
no_entry sent false true = refl
no_entry sent false false = refl

an_entry : (sent : Sent) (param : Param) (ended is_coded : Bool) → cond ended None (cond is_coded (entered_by sent (Some param)) None) ≡ entered_by sent (cond is_coded (cond ended None (Some param)) None)
an_entry sent param true true = refl
an_entry sent param true false = refl
an_entry sent param false true = refl
an_entry sent param false false = refl

lasting : (channel : ℕ) (sent : Sent) (is_coded : Bool) (event : ParamEvent) (later : List Place) →
    cond (list_any (λ place. param_event_ends event (event_at channel place)) later) None (cond is_coded (entered_by sent (event_param event)) None)
    ≡ entered_by sent (cond is_coded (lasting_param channel event later) None)
lasting channel sent is_coded (Entry param high value) later = an_entry sent param (list_any (λ place. takes_param param (event_at channel place)) later) is_coded
lasting channel sent is_coded Cleared later = no_entry sent (list_any (λ place. param_event_ends Cleared (event_at channel place)) later) is_coded
lasting channel sent is_coded Other later = no_entry sent (list_any (λ place. param_event_ends Other (event_at channel place)) later) is_coded

-- one place more of the places that a walk has before it
pub entered_more : (channel checkpoint : ℕ) (place : Place) (later : List Place) →
    entered channel checkpoint (place ∷ later) ≡ cons_option (entered_by place.1 (coded_param channel checkpoint place later)) (entered channel checkpoint later)
entered_more channel checkpoint place later =
    filter_map-coded (param_ends channel) packet_at checkpoint (entered_at channel) place later
    ∙ ap (λ (e : Option Entered). cons_option e (entered channel checkpoint later)) (lasting channel place.1 (leb checkpoint (packet_at place)) (event_at channel place) later)

-- the same, where a walk has come to this place
pub entered_on : (channel checkpoint : ℕ) (selection behind : Selection) (rest : List Sent) (place : Sent) (later : List Sent) (found : Option Param) →
    rest ≡ place ∷ later → behind ≡ selection_step channel selection place → found ≡ coded_param channel checkpoint (selection, place) (placed channel (selection_step channel selection place) later) →
    entered channel checkpoint (placed channel selection rest) ≡ cons_option (entered_by place found) (entered channel checkpoint (placed channel behind later))
entered_on channel checkpoint selection behind rest place later found r b f =
    rw (r, b, f) (entered_more channel checkpoint (selection, place) (placed channel (selection_step channel selection place) later))
