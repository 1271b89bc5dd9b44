-- What was done with the line is what the verb makes of it.
use Rattle.std.proofs.Common.{false}
use Rattle.jm_script.specs.declared.line.LineKind.TheVariants as kinds
use Rattle.midi_host.specs.declared.conversation.TheConstants.{MOST_OCTETS}
use Rattle.jm_script.specs.Line.{line_of}
use Rattle.midi_host.specs.Read.{read_out, read_lined}
use Rattle.midi_host.specs.ToldBy.{hears}
use Rattle.midi_host.proofs.ConversationLemmas.{did-taken, did-refused}
use Rattle.midi_host.proofs.read.ReadConversation.line.Goals as goal

pub returns-in-Ok : goal.returns-in-Ok
returns-in-Ok c =
    hears MOST_OCTETS read_lined c.args.before tt tt c.args.line.now c.args.answers.now c.read_out.new.answers c.read_out.result c.requires.few c.requires.short
    (did-taken read_out c.in-Ok.line _ c.read_out.result _ _ _ c.in-Ok.ensures.line c.read_out.ensures)

pub returns-in-Err : goal.returns-in-Err
returns-in-Err c =
    hears MOST_OCTETS read_lined c.args.before tt tt c.args.line.now c.args.answers.now c.args.answers.now c.refuse.result c.requires.few c.requires.short
    (did-refused read_out c.in-Err.error c.refuse.result (line_of kinds.Read 1 false c.args.line.now) tt c.args.answers.now c.in-Err.ensures.line c.refuse.ensures)
