use Rattle.std.proofs.Common.{length}
use Rattle.jm_wire.specs.Octets.{Owes}
use Rattle.jm_recency.specs.Recency.{from_key, IsAtKey}
use Rattle.ch_notes.specs.KeptRows.{key_texts}
use Rattle.ch_notes.proofs.key_logs.write_key_logs.Given as goal

abbrev pub invariant-loop-at : goal.invariant-loop-at
invariant-loop-at g l =
    IsAtKey l.recent l.at
    × Owes l.initial.out l.out (key_texts (g.T.KeyLogs.logs l.table) l.packet l.recent) (key_texts (g.T.KeyLogs.logs l.table) l.packet (from_key l.recent l.at))

abbrev pub decreases-loop-at : goal.decreases-loop-at
decreases-loop-at g l = length (from_key l.recent l.at)
