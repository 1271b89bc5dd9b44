-- An octet ends the line, goes past a limit, or stands at the line's end.
use Rattle.std.proofs.Common.{◌≡◌, ◌==◌, ◌+◌, [], ◌∷◌, ◌++◌, ℕ, false, arith, length-append}
use Rattle.std.proofs.lemmas.Bool.Decides.{nat_tests}
use Rattle.jm_script.specs.declared.answer.Cause.TheVariants.{Lines, TooLong}
use Rattle.midi_host.proofs.TextLemmas.{has_end-push}
use Rattle.midi_host.proofs.LineReaderLemmas.{Fed-line, Fed-bad, Goes-octet}
use Rattle.midi_host.proofs.line_reader.take_octet.Goals as goal

pub returns-then-octet-eq10-clause-fed : goal.returns-then-octet-eq10-clause-fed
returns-then-octet-eq10-clause-fed g c =
    rw c.if-octet-eq10.true (Fed-line c.end_line.result _ _ c.args.reader.now c.end_line.new.reader c.requires.of_line c.end_line.ensures.ended)

pub returns-then-reader-eq-MOST_LINES-clause-fed : goal.returns-then-reader-eq-MOST_LINES-clause-fed
returns-then-reader-eq-MOST_LINES-clause-fed g c =
    let before = c.args.reader.now.before in
    let no_end : (c.args.octet == 10) ≡ false = grind (arith, nat_tests) in
    Fed-bad c.stop.result (g.V.Conversation.told c.args.verb.now before) (g.V.Conversation.told c.args.verb.now c.stop.new.reader.before) c.args.reader.now c.stop.new.reader c.args.octet (before + 1) Lines c.requires.of_line no_end c.stop.ensures.ok c.stop.ensures.stop
    (λ rest lines. g.met.V.Conversation.told_lines c.args.verb.now before ((c.args.reader.now.line.items ++ c.args.octet ∷ []) ++ rest) lines (omega arith))

pub returns-then-len-LONGEST-clause-fed : goal.returns-then-len-LONGEST-clause-fed
returns-then-len-LONGEST-clause-fed g c =
    let before = c.args.reader.now.before in
    let no_end : (c.args.octet == 10) ≡ false = grind (arith, nat_tests) in
    Fed-bad c.stop-then-len-LONGEST.result (g.V.Conversation.told c.args.verb.now before) (g.V.Conversation.told c.args.verb.now c.stop-then-len-LONGEST.new.reader.before) c.args.reader.now c.stop-then-len-LONGEST.new.reader c.args.octet (before + 1) TooLong c.requires.of_line no_end c.stop-then-len-LONGEST.ensures.ok c.stop-then-len-LONGEST.ensures.stop
    (λ rest lines. g.met.V.Conversation.told_too_long c.args.verb.now before ((c.args.reader.now.line.items ++ c.args.octet ∷ []) ++ rest) lines (omega arith) (omega (arith, length-append {A = ℕ}, c.args.reader.now.line.ok.0)))

pub returns-clause-fed : goal.returns-clause-fed
returns-clause-fed g c =
    Goes-octet _ c.args.reader.now.answers c.args.reader.now.line.items c.push.new.self.items c.args.octet c.in_ok-push.ensures.items

pub returns-clause-nears : goal.returns-clause-nears
returns-clause-nears g c =
    let no_end : (c.args.octet == 10) ≡ false = grind (arith, nat_tests) in (
      record {
        few = omega arith;
        short = omega arith;
        of_line = rw c.in_ok-push.ensures.items (has_end-push c.args.reader.now.line.items c.args.octet c.requires.of_line no_end);
      },
      omega (arith, g.met.V.Conversation.bounded, c.in_ok-push.ensures.len, c.len.ensures, c.LONGEST.ensures),
    )
