-- What is written of active sensing is read: Chapter V (RFC 6295, B.2, Figure B.2.1).
use Rattle.std.proofs.Common.{◌≡◌, ℕ, ◌<◌, true, false, List, [], ◌++◌, Some, length, map, refl, arith}
use Rattle.jm_cmds.specs.declared.history.Sent.{Sent}
use Rattle.jm_cmds.specs.History.{below}
use Rattle.jm_cmds.specs.Sent.{packet_of, is_fresh}
use Rattle.ch_system.specs.declared.items.SystemItem.TheVariants.{Sensing}
use Rattle.ch_system.specs.Items.{item_coded, item_count}
use Rattle.ch_system.specs.ItemLaws.{none, one, one-coded}
use Rattle.ch_system.specs.ChapterV.{chapter_v}
use Rattle.jm_journal.specs.Channel.{is_there}
use Rattle.jm_reader.specs.declared.logs.Log.{Log}
use Rattle.jm_reader.specs.declared.logs.LogKind.TheVariants as logs
use Rattle.jm_reader.specs.ChapterV.{v_read}
use Rattle.jm_reader.specs.Octets.{shows, low_bits}

-- The latest Active Sense command, where it is coded: how often it was sent.
unfoldable pub v_said : (checkpoint packet : ℕ) → List Sent → List Log
v_said checkpoint packet sent =
    map (λ place. let log : Log = record { fresh = is_fresh packet place; what = logs.Sensing (item_count Sensing (below packet_of packet sent)) } in log) (item_coded Sensing checkpoint packet sent)

small : (session : List Sent) → item_count Sensing session < 128
unfolding item_count
small session = omega arith

-- What is written of active sensing is read as what is coded of it, whatever follows.
pub v_again : (checkpoint packet : ℕ) (sent : List Sent) → is_there (chapter_v checkpoint packet sent) ≡ true → (rest : List ℕ) →
    v_read (chapter_v checkpoint packet sent ++ rest) ≡ Some (v_said checkpoint packet sent, length (chapter_v checkpoint packet sent))
unfolding chapter_v v_said
v_again checkpoint packet sent there rest =
    let count = item_count Sensing (below packet_of packet sent) in
    let few = small (below packet_of packet sent) in
    elim (one-coded Sensing checkpoint packet sent) [
      | none e ↦ absurd (let empty : is_there (chapter_v checkpoint packet sent) ≡ false = rw e refl in cc)
      | one x e ↦ rw e (rw (shows (is_fresh packet x) count few, low_bits (is_fresh packet x) count few) refl)
    ]

-- Where the chapter isn't there, nothing of it is coded.
pub v_none : (checkpoint packet : ℕ) (sent : List Sent) → is_there (chapter_v checkpoint packet sent) ≡ false → v_said checkpoint packet sent ≡ []
unfolding chapter_v v_said
v_none checkpoint packet sent n =
    elim (one-coded Sensing checkpoint packet sent) [
      | none e ↦ rw e refl
      | one x e ↦ absurd (let some : is_there (chapter_v checkpoint packet sent) ≡ true = rw e refl in cc)
    ]

pub record SensingIsRead : Type 0 where
  pub there : (checkpoint packet : ℕ) (sent : List Sent) → is_there (chapter_v checkpoint packet sent) ≡ true → (rest : List ℕ) →
      v_read (chapter_v checkpoint packet sent ++ rest) ≡ Some (v_said checkpoint packet sent, length (chapter_v checkpoint packet sent))
  pub none : (checkpoint packet : ℕ) (sent : List Sent) → is_there (chapter_v checkpoint packet sent) ≡ false → v_said checkpoint packet sent ≡ []

pub sensing_is_read : SensingIsRead
sensing_is_read = record { there = v_again; none = v_none }
