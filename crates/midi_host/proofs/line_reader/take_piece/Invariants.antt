use Rattle.std.proofs.Common.{◌+◌, ◌≤◌, take}
use Rattle.midi_host.specs.LineReader.{IsKept, Goes, octets_to_come}
use Rattle.midi_host.proofs.line_reader.take_piece.Given as goal

abbrev pub invariant-loop-octet : goal.invariant-loop-octet
invariant-loop-octet g l = record {
  kept : IsKept g.V.Conversation.LONGEST l.reader;
  goes : Goes (g.V.Conversation.told l.initial.verb l.initial.reader.before) (g.V.Conversation.told l.verb l.reader.before) l.initial.reader.answers l.reader.answers l.initial.reader.line.items l.reader.line.items (take l.octet-index l.piece);
  near : octets_to_come l.reader + l.octet-index ≤ octets_to_come l.initial.reader;
}
