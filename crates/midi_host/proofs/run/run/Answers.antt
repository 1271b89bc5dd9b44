-- A text without a bad line has few lines, and `repair` shows sessions.
use Rattle.std.proofs.Common.{◌≡◌, Option, None, Some, sym, ap, ◌∙◌}
use Rattle.midi_host.specs.declared.conversation.TheConstants.{MOST_OCTETS}
use Rattle.midi_host.specs.declared.run.VerbWord.{VerbWord}
use Rattle.midi_host.specs.declared.run.VerbWord.TheVariants.{Replay, Read, Repair}
use Rattle.midi_host.specs.Replay.{opening, replayed}
use Rattle.midi_host.specs.Read.{read_lined}
use Rattle.midi_host.specs.Repair.{repair_lined}
use Rattle.midi_host.specs.SessionShown.{ShowsSessions}
use Rattle.midi_host.proofs.Progress.{HasFewLines-from, ReadsFew-none}
use Rattle.midi_host.proofs.SessionShownLaws.{shows_sessions, shows_none}
use Rattle.midi_host.proofs.run.run.Goals as goal

pub returns-in-Some-Replay-clause-few_lines : goal.returns-in-Some-Replay-clause-few_lines
returns-in-Some-Replay-clause-few_lines g c = HasFewLines-from c.answer_lines.result MOST_OCTETS replayed (opening 1) _ _ _ _ c.answer_lines.ensures.ends

pub returns-in-Some-Read-clause-few_lines : goal.returns-in-Some-Read-clause-few_lines
returns-in-Some-Read-clause-few_lines g c = HasFewLines-from c.answer_lines-in-Some-Read.result MOST_OCTETS read_lined tt _ _ _ _ c.answer_lines-in-Some-Read.ensures.ends

pub returns-in-Some-Repair-clause-few_lines : goal.returns-in-Some-Repair-clause-few_lines
returns-in-Some-Repair-clause-few_lines g c = HasFewLines-from c.answer_lines-in-Some-Repair.result MOST_OCTETS repair_lined None _ _ _ _ c.answer_lines-in-Some-Repair.ensures.ends

pub returns-in-None-clause-reads_few : goal.returns-in-None-clause-reads_few
returns-in-None-clause-reads_few g c = ReadsFew-none (g.S.Source.left c.args.source.now) (g.S.Source.reads c.args.source.now)

pub returns-in-Some-Repair-clause-shows_sessions : goal.returns-in-Some-Repair-clause-shows_sessions
returns-in-Some-Repair-clause-shows_sessions g c = shows_sessions c.answer_lines-in-Some-Repair.result _ _ _ _ _ c.answer_lines-in-Some-Repair.ensures.ends

-- words have one verb at most
other_verb : (verb : VerbWord) {o : Option VerbWord} → o ≡ Some verb → o ≡ Some Repair → (Some verb ≡ Some Repair → ⊥) → ⊥
other_verb verb this repair other = other (sym this ∙ repair)

replay_other : Some Replay ≡ Some Repair → ⊥
replay_other e = cc

read_other : Some Read ≡ Some Repair → ⊥
read_other e = cc

pub returns-in-None-clause-shows_sessions : goal.returns-in-None-clause-shows_sessions
unfolding ShowsSessions
returns-in-None-clause-shows_sessions g c = tt

pub returns-in-Some-Replay-clause-shows_sessions : goal.returns-in-Some-Replay-clause-shows_sessions
returns-in-Some-Replay-clause-shows_sessions g c =
    shows_none c.answer_lines.result c.args.words.now _ _ _ (λ e. other_verb Replay (sym c.verb_of.ensures ∙ c.in-Some-Replay.is ∙ ap (λ (verb : VerbWord). Some verb) c.in-Some-Replay.field-0-is) e replay_other)

pub returns-in-Some-Read-clause-shows_sessions : goal.returns-in-Some-Read-clause-shows_sessions
returns-in-Some-Read-clause-shows_sessions g c =
    shows_none c.answer_lines-in-Some-Read.result c.args.words.now _ _ _ (λ e. other_verb Read (sym c.verb_of.ensures ∙ c.in-Some-Read.is ∙ ap (λ (verb : VerbWord). Some verb) c.in-Some-Read.field-0-is) e read_other)
