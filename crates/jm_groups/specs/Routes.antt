-- Which group an address is of.
use Rattle.std.specs.Prelude.{ℕ, ◌-◌, ◌/◌, ◌^◌, ◌==◌, Bool, List, unwrap_or}
use Rattle.std.specs.List.{position_from}
use Rattle.jm_groups.specs.declared.route.Route.{Route}

-- the number that the first `bits` of a host's 32 bits spell
abbrev pub front_of : (bits host : ℕ) → ℕ
front_of bits host = host / 2 ^ (32 - bits)

-- the host meets the route: as many bits at the front as the route says are those of the route's host
abbrev pub meets : (host : ℕ) → Route → Bool
meets host route = front_of route.bits host == front_of route.bits route.host

-- the place of the first route that the host meets, counted from 1, and 0 where it meets none
abbrev pub group_of : (host : ℕ) → List Route → ℕ
group_of host routes = unwrap_or (position_from (meets host) 1 routes) 0
