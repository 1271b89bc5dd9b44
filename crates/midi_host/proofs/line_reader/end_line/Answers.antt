-- A line more is within the limits, since no verb takes longer lines than the longest.
use Rattle.std.proofs.Common.{arith}
use Rattle.midi_host.proofs.TextLemmas.{has_end-none}
use Rattle.midi_host.proofs.line_reader.end_line.Goals as goal

pub returns-in-Taken-clause-nears : goal.returns-in-Taken-clause-nears
returns-in-Taken-clause-nears g c =
    (record { few = omega arith; short = omega arith; of_line = rw c.clear.ensures.items has_end-none }, omega (arith, g.met.V.Conversation.bounded))
