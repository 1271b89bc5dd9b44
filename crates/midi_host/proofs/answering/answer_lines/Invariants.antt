use Rattle.std.proofs.Common.{◌≡◌, ◌≤◌, [], length}
use Rattle.midi_host.specs.Text.{lines_of}
use Rattle.midi_host.specs.LineReader.{IsKept, octets_to_come}
use Rattle.midi_host.proofs.Progress.{Comes, ReadSoFar}
use Rattle.midi_host.proofs.answering.answer_lines.Given as goal

abbrev pub invariant-reads : goal.invariant-reads
invariant-reads g l = record {
  kept : IsKept g.V.Conversation.LONGEST l.reader;
  written : l.reader.answers ≡ [];
  comes : Comes (λ text. g.V.Conversation.told l.initial.verb 0 (lines_of text)) (g.V.Conversation.told l.verb l.reader.before) l.reader.line.items (g.S.Source.left l.initial.source) (g.S.Source.left l.source) (g.K.Sink.written l.initial.sink) (g.K.Sink.written l.sink);
  reads : g.S.Source.faults l.initial.source ≤ g.S.Source.faults l.source;
  writes : g.K.Sink.faults l.initial.sink ≤ g.K.Sink.faults l.sink;
  few : ReadSoFar (g.S.Source.left l.initial.source) (g.S.Source.left l.source) (g.S.Source.reads l.initial.source) (g.S.Source.reads l.source);
  room : length l.buf ≡ 4096;
}

abbrev pub decreases-reads : goal.decreases-reads
decreases-reads g l = octets_to_come l.reader
