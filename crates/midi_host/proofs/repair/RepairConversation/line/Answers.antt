-- What was done with the line is what the verb makes of it.
use Rattle.std.proofs.Common.{false}
use Rattle.jm_script.specs.declared.line.LineKind.TheVariants as kinds
use Rattle.midi_host.specs.declared.conversation.TheConstants.{MOST_OCTETS}
use Rattle.jm_script.specs.Line.{line_of}
use Rattle.midi_host.specs.Repair.{repaired_line, repair_lined}
use Rattle.midi_host.specs.ToldBy.{hears}
use Rattle.midi_host.proofs.ConversationLemmas.{did-taken, did-refused}
use Rattle.midi_host.proofs.repair.RepairConversation.line.Goals as goal

pub returns-in-Ok : goal.returns-in-Ok
returns-in-Ok c =
    let receiver = c.args.self.now.receiver in
    hears MOST_OCTETS repair_lined c.args.before receiver c.take.new.self.receiver c.args.line.now c.args.answers.now c.take.new.answers c.take.result c.requires.few c.requires.short
    (did-taken (repaired_line receiver) c.in-Ok.line _ c.take.result _ _ _ c.in-Ok.ensures.line c.take.ensures)

pub returns-in-Err : goal.returns-in-Err
returns-in-Err c =
    let receiver = c.args.self.now.receiver in
    hears MOST_OCTETS repair_lined c.args.before receiver receiver c.args.line.now c.args.answers.now c.args.answers.now c.refuse.result c.requires.few c.requires.short
    (did-refused (repaired_line receiver) c.in-Err.error c.refuse.result (line_of kinds.Repair 1 false c.args.line.now) receiver c.args.answers.now c.in-Err.ensures.line c.refuse.ensures)
