-- What was done with the line is what the verb makes of it.
use Rattle.jm_script.specs.declared.line.LineKind.TheVariants as kinds
use Rattle.midi_host.specs.declared.conversation.TheConstants.{MOST_OCTETS}
use Rattle.jm_script.specs.Line.{line_of}
use Rattle.midi_host.specs.Replay.{replayed, scripted, state_of, version_of, is_started}
use Rattle.midi_host.specs.ToldBy.{hears}
use Rattle.midi_host.proofs.ConversationLemmas.{did-taken, did-refused}
use Rattle.midi_host.proofs.replay.ReplayConversation.line.Goals as goal

pub returns-in-Ok : goal.returns-in-Ok
returns-in-Ok c =
    let state = state_of c.args.self.now in
    let read = rw (c.place-version.ensures.version, c.place-version.ensures.started) at c.in-Ok.ensures.line in
    hears MOST_OCTETS replayed c.args.before state (state_of c.take.new.self) c.args.line.now c.args.answers.now c.take.new.answers c.take.result c.requires.few c.requires.short
    (did-taken (scripted state) c.in-Ok.line _ c.take.result _ _ _ read c.take.ensures)

pub returns-in-Err : goal.returns-in-Err
returns-in-Err c =
    let state = state_of c.args.self.now in
    let read = rw (c.place-version.ensures.version, c.place-version.ensures.started) at c.in-Err.ensures.line in
    hears MOST_OCTETS replayed c.args.before state state c.args.line.now c.args.answers.now c.args.answers.now c.refuse.result c.requires.few c.requires.short
    (did-refused (scripted state) c.in-Err.error c.refuse.result (line_of kinds.Session (version_of state) (is_started state) c.args.line.now) state c.args.answers.now read c.refuse.ensures)
