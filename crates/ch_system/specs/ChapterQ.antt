-- Chapter Q (RFC 6295, B.3, Figure B.3.1). That C is 0 wherever the position is 0 is this project's own.
use Rattle.std.specs.Prelude.{ℕ, ◌/◌, ◌%◌, Bool, true, false, not, List, [], ◌++◌, Option, Some, None, ◌==◌, if◌then◌else◌}
use Rattle.std.specs.List.{flat_map}
use Rattle.jm_wire.specs.Numbers.{be16}
use Rattle.jm_wire.specs.Heads.{seq_octets}
use Rattle.jm_wire.specs.declared.heads.SeqHead.{SeqHead}
use Rattle.jm_cmds.specs.declared.history.Sent.{Sent}
use Rattle.jm_cmds.specs.History.{below}
use Rattle.jm_cmds.specs.Sent.{packet_of, is_fresh}
use Rattle.ch_system.specs.declared.items.SystemItem.TheVariants.{Sequence}
use Rattle.jm_cmds.specs.declared.sequencing.SequencerPart.{SequencerPart}
use Rattle.ch_system.specs.Items.{item_coded, item_fresh}
use Rattle.jm_cmds.specs.Sequencing.{sequencer_after}

-- the header: C says whether a position other than 0 follows, TOP has its high three bits
abbrev pub sequencer_head : (fresh moved : Bool) → SequencerPart → SeqHead
sequencer_head fresh moved state = record {
  s = not fresh;
  n = state.running;
  d = state.downbeat;
  c = moved;
  t = false;
  top = state.position / 65536;
}

-- S N D C 0 TOP, and CLOCK where the position isn't 0
abbrev pub sequencer_octets : (fresh : Bool) → SequencerPart → List ℕ
sequencer_octets fresh state =
    if state.position == 0 then seq_octets (sequencer_head fresh false state)
    else seq_octets (sequencer_head fresh true state) ++ be16 (state.position % 65536)

abbrev pub position_octets : (fresh : Bool) → Option SequencerPart → List ℕ
position_octets fresh None = []
position_octets fresh (Some state) = sequencer_octets fresh state

-- Chapter Q in the journal of a packet
unfoldable pub chapter_q : (checkpoint packet : ℕ) → List Sent → List ℕ
chapter_q checkpoint packet sent =
    flat_map (λ place. position_octets (is_fresh packet place) (sequencer_after (below packet_of packet sent))) (item_coded Sequence checkpoint packet sent)

-- whether its S is 0
unfoldable pub fresh_q : (checkpoint packet : ℕ) → List Sent → Bool
fresh_q checkpoint packet sent = item_fresh Sequence checkpoint packet sent
