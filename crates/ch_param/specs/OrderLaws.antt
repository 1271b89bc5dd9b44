-- The coded parameters are distinct, and stand oldest first.
use Rattle.std.proofs.Common.{◌≡◌, ℕ, ◌≤◌, false, List, [], ◌∷◌}
use Rattle.std.specs.List.{filter_map, cons_option, AllByRecursion}
use Rattle.jm_cmds.specs.declared.history.Sent.{Sent}
use Rattle.jm_cmds.specs.History.{InOrder, Unended, coded}
use Rattle.jm_cmds.specs.HistoryLaws.{InOrder-coded, InOrder-scanned, Unended-coded}
use Rattle.jm_cmds.specs.Param.{same_param}
use Rattle.jm_cmds.specs.Selection.{no_selection}
use Rattle.jm_cmds.specs.declared.param.Param.{Param}
use Rattle.ch_param.specs.declared.events.ParamEvent.{ParamEvent}
use Rattle.ch_param.specs.declared.events.ParamEvent.TheVariants.{Entry, Cleared, Other}
use Rattle.ch_param.specs.Event.{Place, selection_step, packet_at, event_at, takes_param, param_event_ends, param_ends}
use Rattle.ch_param.specs.ChapterM.{Entered, entered_at, entered_by, event_param, session_places}
use Rattle.ch_param.specs.InOrder.{same_entered, LogsInOrder}

-- ## Order

all_one : (P : Sent → Type 0) (sent : Sent) (event : ParamEvent) (more : List Entered) → P sent → AllByRecursion (λ e. P e.latest) more → AllByRecursion (λ e. P e.latest) (cons_option (entered_by sent (event_param event)) more)
all_one P sent (Entry param high value) more h m = (h, m)
all_one P sent Cleared more h m = m
all_one P sent Other more h m = m

all_entered : (P : Sent → Type 0) (channel : ℕ) (places : List Place) → AllByRecursion (λ place. P place.1) places → AllByRecursion (λ e. P e.latest) (filter_map (entered_at channel) places)
all_entered P channel [] h = tt
all_entered P channel (x ∷ xs) h = all_one P x.1 (event_at channel x) (filter_map (entered_at channel) xs) h.0 (all_entered P channel xs h.1)

order_one : (number_of : Sent → ℕ) (sent : Sent) (event : ParamEvent) (more : List Entered) → AllByRecursion (λ e. number_of sent ≤ number_of e.latest) more → InOrder (λ e. number_of e.latest) more →
    InOrder (λ e. number_of e.latest) (cons_option (entered_by sent (event_param event)) more)
order_one number_of sent (Entry param high value) more h m = (h, m)
order_one number_of sent Cleared more h m = m
order_one number_of sent Other more h m = m

order_entered : (number_of : Sent → ℕ) (channel : ℕ) (places : List Place) → InOrder (λ (place : Place). number_of place.1) places → InOrder (λ e. number_of e.latest) (filter_map (entered_at channel) places)
order_entered number_of channel [] h = tt
order_entered number_of channel (x ∷ xs) h =
    order_one number_of x.1 (event_at channel x) (filter_map (entered_at channel) xs)
    (all_entered (λ (y : Sent). number_of x.1 ≤ number_of y) channel xs h.0) (order_entered number_of channel xs h.1)

-- ## Distinct

apart_one : (param : Param) (sent : Sent) (event : ParamEvent) (more : List Entered) → takes_param param event ≡ false → AllByRecursion (λ e. same_param param e.param ≡ false) more →
    AllByRecursion (λ e. same_param param e.param ≡ false) (cons_option (entered_by sent (event_param event)) more)
apart_one param sent (Entry other high value) more h m = (h, m)
apart_one param sent Cleared more h m = m
apart_one param sent Other more h m = m

apart : (channel : ℕ) (param : Param) (places : List Place) → AllByRecursion (λ place. takes_param param (event_at channel place) ≡ false) places →
    AllByRecursion (λ e. same_param param e.param ≡ false) (filter_map (entered_at channel) places)
apart channel param [] h = tt
apart channel param (x ∷ xs) h = apart_one param x.1 (event_at channel x) (filter_map (entered_at channel) xs) h.0 (apart channel param xs h.1)

distinct_one : (channel : ℕ) (sent : Sent) (event : ParamEvent) (places : List Place) → AllByRecursion (λ place. param_event_ends event (event_at channel place) ≡ false) places →
    Unended same_entered (filter_map (entered_at channel) places) → Unended same_entered (cons_option (entered_by sent (event_param event)) (filter_map (entered_at channel) places))
distinct_one channel sent (Entry param high value) places h u = (apart channel param places h, u)
distinct_one channel sent Cleared places h u = u
distinct_one channel sent Other places h u = u

distinct_entered : (channel : ℕ) (places : List Place) → Unended (param_ends channel) places → Unended same_entered (filter_map (entered_at channel) places)
distinct_entered channel [] h = tt
distinct_entered channel (x ∷ xs) h = distinct_one channel x.1 (event_at channel x) xs h.0 (distinct_entered channel xs h.1)

pub logs_in_order : LogsInOrder
logs_in_order = record {
  oldest_first = λ number_of channel checkpoint sent h.
      let places = session_places channel sent in
      order_entered number_of channel (coded (param_ends channel) packet_at checkpoint places)
      (InOrder-coded (λ (place : Place). number_of place.1) (param_ends channel) packet_at checkpoint places (InOrder-scanned number_of (selection_step channel) no_selection sent h));
  distinct = λ channel checkpoint sent.
      let places = session_places channel sent in
      distinct_entered channel (coded (param_ends channel) packet_at checkpoint places) (Unended-coded (param_ends channel) packet_at checkpoint places);
}
