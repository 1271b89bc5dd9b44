-- Which books and routes make groups.
use Rattle.std.specs.Prelude.{ℕ, ◌+◌, Bool, ◌==◌, nat_lt, if◌then◌else◌, List, length, Option, Some}
use Rattle.std.specs.List.{position_from}
use Rattle.std.specs.Option.{option_map}
use Rattle.jm_groups.specs.declared.route.Route.{Route}
use Rattle.jm_groups.specs.declared.fault.GroupsFault.{GroupsFault}
use Rattle.jm_groups.specs.declared.fault.GroupsFault.TheVariants as fault

-- the route has more bits than a host
abbrev pub is_long : Route → Bool
is_long route = nat_lt 32 route.bits

-- the place of the first route that has
abbrev pub long_route : List Route → Option ℕ
long_route routes = position_from is_long 0 routes

-- why so many books with these routes make no groups: the first that holds
abbrev pub refusal : (books : ℕ) → List Route → Option GroupsFault
refusal books routes =
    if books == 0 then Some fault.NoGroup
    else if nat_lt 8 books then Some (fault.TooMany books)
    else if length routes + 1 == books then option_map (λ place. fault.BadRoute place) (long_route routes)
    else Some (fault.RouteCount (length routes))
