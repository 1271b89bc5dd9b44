-- Chapter F (RFC 6295, B.4, Figures B.4.1 and B.4.2). That COMPLETE has the nibbles as they were sent, forwards too, is this project's own.
use Rattle.std.specs.Prelude.{ℕ, Bool, not, List, [], ◌++◌, Option, Some, None}
use Rattle.std.specs.List.{flat_map}
use Rattle.std.specs.Option.{is_some}
use Rattle.jm_wire.specs.Numbers.{be32}
use Rattle.jm_wire.specs.Heads.{time_octets}
use Rattle.jm_wire.specs.declared.heads.TimeHead.{TimeHead}
use Rattle.jm_cmds.specs.declared.history.Sent.{Sent}
use Rattle.jm_cmds.specs.History.{below}
use Rattle.jm_cmds.specs.Sent.{packet_of, is_fresh}
use Rattle.ch_system.specs.declared.items.SystemItem.TheVariants.{Frames}
use Rattle.jm_cmds.specs.declared.frames.TimePart.{TimePart}
use Rattle.ch_system.specs.Items.{item_coded, item_fresh}
use Rattle.jm_cmds.specs.Frames.{time_code_after}

-- The header: C and P say which words follow. Q, that COMPLETE is of quarter frames, is as C.
abbrev pub code_head : (fresh : Bool) → TimePart → TimeHead
code_head fresh code = record {
  s = not fresh;
  c = is_some code.complete;
  p = is_some code.partial;
  q = is_some code.complete;
  d = code.backward;
  point = code.point;
}

abbrev pub word_octets : Option ℕ → List ℕ
word_octets None = []
word_octets (Some word) = be32 word

-- S C P Q D POINT, COMPLETE and PARTIAL
abbrev pub code_octets : (fresh : Bool) → TimePart → List ℕ
code_octets fresh code = time_octets (code_head fresh code) ++ word_octets code.complete ++ word_octets code.partial

abbrev pub time_octets_of : (fresh : Bool) → Option TimePart → List ℕ
time_octets_of fresh None = []
time_octets_of fresh (Some code) = code_octets fresh code

-- Chapter F in the journal of a packet
unfoldable pub chapter_f : (checkpoint packet : ℕ) → List Sent → List ℕ
chapter_f checkpoint packet sent =
    flat_map (λ place. time_octets_of (is_fresh packet place) (time_code_after (below packet_of packet sent))) (item_coded Frames checkpoint packet sent)

-- whether its S is 0
unfoldable pub fresh_f : (checkpoint packet : ℕ) → List Sent → Bool
fresh_f checkpoint packet sent = item_fresh Frames checkpoint packet sent
