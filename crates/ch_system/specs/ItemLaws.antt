-- What holds of an item's places: one at most is coded.
use Rattle.std.proofs.Common.{◌≡◌, ℕ, List, refl, ap}
use Rattle.std.specs.List.{filter}
use Rattle.jm_cmds.specs.declared.history.Sent.{Sent}
use Rattle.jm_cmds.specs.History.{standing, coded, below}
use Rattle.jm_cmds.specs.HistoryLaws.{Unended-coded}
use Rattle.jm_cmds.specs.OnePlace.{one_standing, Touching, one-unended}
use Rattle.jm_cmds.specs.Sent.{packet_of}
use Rattle.ch_system.specs.declared.items.SystemItem.{SystemItem}
use Rattle.ch_system.specs.Items.{is_place_of, touches, item_ends, item_coded}
pub use Rattle.jm_cmds.specs.OnePlace.{OneAtMost, none, one}

pub touching : (item : SystemItem) → Touching (is_place_of item) (touches item)
touching item x h = rw h refl

-- a packet's journal codes the item once at most
pub one-coded : (item : SystemItem) (checkpoint packet : ℕ) (sent : List Sent) → OneAtMost (item_coded item checkpoint packet sent)
unfolding item_coded
one-coded item checkpoint packet sent =
    let seen = below packet_of packet sent in
    one-unended (is_place_of item) (touches item) (touching item) (coded (item_ends item) packet_of checkpoint seen) (Unended-coded (item_ends item) packet_of checkpoint seen)

-- what stands in the checkpoint history is coded
pub standing-coded : (item : SystemItem) (checkpoint packet : ℕ) (sent places : List Sent) →
    standing (item_ends item) places ≡ coded (item_ends item) packet_of checkpoint (below packet_of packet sent) →
    one_standing (is_place_of item) (touches item) places ≡ item_coded item checkpoint packet sent
unfolding one_standing item_coded
standing-coded item checkpoint packet sent places e = ap (filter (is_place_of item)) e
