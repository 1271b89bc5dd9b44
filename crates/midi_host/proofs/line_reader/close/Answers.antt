-- The line so far is the last line, or there is none.
use Rattle.std.proofs.Common.{◌≡◌, ◌<◌, [], length, arith}
use Rattle.std.proofs.lemmas.Bool.Decides.{nat_tests}
use Rattle.std.proofs.lemmas.Grind.{common_steps}
use Rattle.midi_host.proofs.LineReaderLemmas.{Closed-none, Closed-ended}
use Rattle.midi_host.proofs.line_reader.close.Goals as goal

pub returns-then-is_empty : goal.returns-then-is_empty
returns-then-is_empty g c =
    let reader = c.args.reader.now in
    let empty : reader.line.items ≡ [] = grind (arith, common_steps, nat_tests, reader.line.ok.0) in
    Closed-none (g.V.Conversation.told c.args.verb.now reader.before) reader.answers reader.line.items empty (g.met.V.Conversation.told_nothing c.args.verb.now reader.before)

pub returns : goal.returns
returns g c =
    let reader = c.args.reader.now in
    let some : 0 < length reader.line.items = grind (arith, nat_tests, reader.line.ok.0) in
    Closed-ended c.end_line.result _ (g.V.Conversation.told c.end_line.new.verb c.end_line.new.reader.before) reader c.end_line.new.reader c.requires.of_line some (g.met.V.Conversation.told_nothing c.end_line.new.verb c.end_line.new.reader.before) c.end_line.ensures.ended
