-- What `jam` does: a whole jam, and the text that is told of its tape.
use Rattle.std.specs.Prelude.{◌≡◌, List, [], Option, Some, None}
use Rattle.jm_book.specs.declared.steps.Step.{Step}
use Rattle.jm_book.specs.Legal.{IsLegal}
use Rattle.jm_jam.specs.Summary.{summary_text}
use Rattle.jm_jam.specs.Whole.{jam_config, IsJamTape}
use Rattle.midi_host.specs.declared.jam_words.JamWords.{JamWords}
use Rattle.midi_host.specs.declared.status.Status.{Status}
use Rattle.midi_host.specs.declared.status.Status.TheVariants.{Done, Usage, BadScript, ReadFault, WriteFault, NoMemory, PortFault, RecordFull}
use Rattle.midi_host.specs.Wrote.{Wrote}
use Rattle.midi_host.specs.Invite.{Paper, Breaks}

-- the ways in which the text of a tape is told
abbrev pub Tells : Status → List Step → (before after : Paper) → Type 0
Tells Done tape before after = Wrote before.written after.written (summary_text tape)
Tells WriteFault tape before after = Breaks (summary_text tape) before after
Tells NoMemory tape before after = after.written ≡ before.written
Tells Usage tape before after = ⊥
Tells BadScript tape before after = ⊥
Tells ReadFault tape before after = ⊥
Tells PortFault tape before after = ⊥
Tells RecordFull tape before after = ⊥

-- the tape is a jam's, unless there was no memory
abbrev pub Jams : Status → JamWords → List Step → Type 0
Jams NoMemory asked tape = Unit {0}
Jams Done asked tape = IsJamTape asked.seed asked.count tape
Jams Usage asked tape = ⊥
Jams BadScript asked tape = ⊥
Jams ReadFault asked tape = ⊥
Jams WriteFault asked tape = IsJamTape asked.seed asked.count tape
Jams PortFault asked tape = ⊥
Jams RecordFull asked tape = ⊥

-- the ends of a jam that the words ask for
pub record EndsJam (status : Status) (asked : JamWords) (tape : List Step) (before after : Paper) : Type 0 where
  pub legal : IsLegal jam_config tape
  pub jam : Jams status asked tape
  pub told : Tells status tape before after

-- nothing was done
pub record IsRefused (status : Status) (tape : List Step) (before after : Paper) : Type 0 where
  pub usage : status ≡ Usage
  pub empty : tape ≡ []
  pub paper : after.written ≡ before.written

-- the same, where they may not be such words
abbrev pub EndsJamBy : Option JamWords → Status → List Step → (before after : Paper) → Type 0
EndsJamBy None status tape before after = IsRefused status tape before after
EndsJamBy (Some asked) status tape before after = EndsJam status asked tape before after
