-- The numbers with which the process ends.
use Rattle.std.specs.Prelude.{ℕ}
use Rattle.midi_host.specs.declared.status.Status.{Status}
use Rattle.midi_host.specs.declared.status.Status.TheVariants.{Done, Usage, BadScript, ReadFault, WriteFault, NoMemory, PortFault, RecordFull}

abbrev pub status_number : Status → ℕ
status_number Done = 0
status_number Usage = 2
status_number BadScript = 3
status_number ReadFault = 4
status_number WriteFault = 5
status_number NoMemory = 6
status_number PortFault = 8
status_number RecordFull = 9
