use Rattle.std.proofs.Common.{◌-◌, length}
use Rattle.jm_reader.specs.Chapter.{chapter}
use Rattle.jm_reader.specs.ChapterX.{x_read}
use Rattle.jm_reader.proofs.LogsRead.{ReadsOn}
use Rattle.jm_reader.proofs.x.read.Given as goal

abbrev pub invariant-loop : goal.invariant-loop
invariant-loop l =
    ReadsOn (chapter l.place l.fn.logs (x_read l.body)) (length l.body) l.place l.logs l.used (length l.body - l.counter) l.rest
