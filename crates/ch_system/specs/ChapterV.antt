-- Chapter V (RFC 6295, B.2, Figure B.2.1).
use Rattle.std.specs.Prelude.{ℕ, ◌+◌, Bool, List, map}
use Rattle.jm_cmds.specs.declared.history.Sent.{Sent}
use Rattle.jm_cmds.specs.History.{below}
use Rattle.jm_cmds.specs.Sent.{packet_of, s_bit}
use Rattle.ch_system.specs.declared.items.SystemItem.TheVariants.{Sensing}
use Rattle.ch_system.specs.Items.{item_coded, item_count, item_fresh}

-- Chapter V in the journal of a packet: S COUNT
unfoldable pub chapter_v : (checkpoint packet : ℕ) → List Sent → List ℕ
chapter_v checkpoint packet sent = map (λ place. s_bit packet place + item_count Sensing (below packet_of packet sent)) (item_coded Sensing checkpoint packet sent)

-- whether its S is 0
unfoldable pub fresh_v : (checkpoint packet : ℕ) → List Sent → Bool
fresh_v checkpoint packet sent = item_fresh Sensing checkpoint packet sent
