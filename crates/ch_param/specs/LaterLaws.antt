-- The latest entry of a parameter is the later of its coded halves.
use Rattle.std.proofs.Common.{◌≡◌, ℕ, true, List, refl, sym, ap, ◌∙◌}
use Rattle.std.proofs.Math.Bool.{beq}
use Rattle.std.specs.List.{filter_map}
use Rattle.std.proofs.lemmas.Bool.{and_parts}
use Rattle.jm_cmds.specs.History.{InOrder, standing, since, coded}
use Rattle.jm_cmds.specs.HistoryLaws.{InOrder-standing, since-standing, standing-standing}
use Rattle.ch_param.specs.declared.events.ParamEvent.{ParamEvent}
use Rattle.ch_param.specs.declared.events.ParamEvent.TheVariants.{Entry, Cleared, Other}
use Rattle.jm_cmds.specs.Param.{same_param}
use Rattle.ch_param.specs.Event.{Place, packet_at, event_at, param_event_ends, half_event_ends, param_ends, half_ends}
use Rattle.ch_param.specs.ChapterM.{entered, entered_at}
use Rattle.jm_cmds.specs.ParamLaws.{same_param-equal}

-- ## Halves and parameters

half_weaker : (x y : ParamEvent) → half_event_ends x y ≡ true → param_event_ends x y ≡ true
half_weaker (Entry param high value) (Entry other half v) h = (and_parts (same_param param other) (beq high half) h).0
half_weaker (Entry param high value) Cleared h = refl
half_weaker (Entry param high value) Other h = h
half_weaker Cleared y h = h
half_weaker Other y h = h

half_on : (x y z : ParamEvent) → param_event_ends x y ≡ true → half_event_ends y z ≡ true → param_event_ends x z ≡ true
half_on (Entry param high value) (Entry other half v) z h e =
    let p = same_param-equal param other h in
    rw p (half_weaker (Entry other half v) z e)
half_on (Entry param high value) Cleared z h e = cc
half_on (Entry param high value) Other z h e = cc
half_on Cleared y z h e = h
half_on Other y z h e = h

-- ## In order

pub entered-halves : (channel checkpoint : ℕ) (places : List Place) → InOrder packet_at places →
    entered channel checkpoint places ≡ filter_map (entered_at channel) (standing (param_ends channel) (coded (half_ends channel) packet_at checkpoint places))
entered-halves channel checkpoint places o =
    let halves = standing (half_ends channel) places in
    let same = standing-standing (half_ends channel) (param_ends channel)
    (λ x y h. half_weaker (event_at channel x) (event_at channel y) h) (λ x y z h e. half_on (event_at channel x) (event_at channel y) (event_at channel z) h e) places in
    ap (λ (k : List Place). filter_map (entered_at channel) (since packet_at checkpoint k)) (sym same)
    ∙ ap (filter_map (entered_at channel)) (since-standing (param_ends channel) packet_at checkpoint halves (InOrder-standing packet_at (half_ends channel) places o))
