-- The entered parameters of a channel, the one entered longest ago first (RFC 6295, A.4).
use Rattle.std.specs.Prelude.{ℕ, ◌-◌, Bool, not, ◌&&◌, List, [], ◌∷◌, ◌++◌, Option, Some, None, length, drop, filter, eqb, if◌then◌else◌}
use Rattle.std.specs.List.{filter_map, list_all}
use Rattle.std.specs.Option.{option_eq}
use Rattle.jm_cmds.specs.declared.param.Param.{Param}
use Rattle.jm_cmds.specs.Param.{same_param}
use Rattle.jm_state.specs.declared.entered.Halves.{Halves}
use Rattle.jm_state.specs.declared.entered.Entry.{Entry}

-- nothing was entered
abbrev pub no_halves : Halves
no_halves = record { entry_high = None; entry_low = None }

-- with this as the high or the low half
abbrev pub half_set : Bool → Option ℕ → Halves → Halves
half_set high value h = if high then record h { entry_high = value } else record h { entry_low = value }

-- the halves of this parameter: none where it isn't there
abbrev pub halves_in : List Entry → Param → Halves
halves_in [] p = no_halves
halves_in (e ∷ es) p = if same_param e.param p then e.halves else halves_in es p

-- an entry of another parameter
abbrev pub is_other : Param → Entry → Bool
is_other p e = not (same_param e.param p)

-- an entry with these halves, where one of them is there
abbrev pub with_halves : Param → Option ℕ → Option ℕ → Option Entry
with_halves p None None = None
with_halves p (Some high) low = Some (record { param = p; halves = record { entry_high = Some high; entry_low = low } })
with_halves p None (Some low) = Some (record { param = p; halves = record { entry_high = None; entry_low = Some low } })

-- what is left of an entry where this half of the parameter is taken away
abbrev pub half_dropped : Bool → Param → Entry → Option Entry
half_dropped high p e =
    if same_param e.param p
    then with_halves e.param (half_set high None e.halves).entry_high (half_set high None e.halves).entry_low
    else Some e

-- the 16 entered last
unfoldable pub latest : List Entry → List Entry
latest es = drop (length es - 16) es

-- A half with a value puts its parameter last, with the other half that it has, and a seventeenth pushes out the
-- one entered longest ago. A half that is taken away leaves the order as it is; a parameter with no half left is no longer
-- there.
abbrev pub entered_with : Bool → Param → Option ℕ → List Entry → List Entry
entered_with high p (Some value) es =
    latest (filter (is_other p) es ++ record { param = p; halves = half_set high (Some value) (halves_in es p) } ∷ [])
entered_with high p None es = filter_map (half_dropped high p) es

-- the same halves are there, with the same values
abbrev pub halves_eq : Halves → Halves → Bool
halves_eq a b = option_eq eqb a.entry_high b.entry_high && option_eq eqb a.entry_low b.entry_low

-- each parameter of the entries es has the same halves in both lists
abbrev pub agrees : (ours theirs es : List Entry) → Bool
agrees ours theirs es = list_all (λ e. halves_eq (halves_in ours e.param) (halves_in theirs e.param)) es

-- each parameter has the same halves in both, whatever their order
abbrev pub same_entered : (ours theirs : List Entry) → Bool
same_entered ours theirs = agrees ours theirs ours && agrees ours theirs theirs
