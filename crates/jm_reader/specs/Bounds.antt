-- The fields of logs that aren't of seven bits are within their widths.
use Rattle.std.specs.Prelude.{◌<◌, List}
use Rattle.std.specs.List.{AllByRecursion}
use Rattle.jm_reader.specs.declared.logs.Log.{Log}
use Rattle.jm_reader.specs.declared.logs.LogKind.{LogKind}
use Rattle.jm_reader.specs.declared.logs.LogKind.TheVariants as kinds

abbrev pub IsWithin : LogKind → Type 0
IsWithin (kinds.Reset count) = count < 128
IsWithin (kinds.Tune count) = count < 128
IsWithin (kinds.Song song) = Unit {0}
IsWithin (kinds.Sensing count) = count < 128
IsWithin (kinds.Sequencer running downbeat position) = position < 524288
IsWithin (kinds.TimeCode complete partial backward point) = point < 8
IsWithin (kinds.Sysex count octets) = Unit {0}
IsWithin (kinds.Program channel program bank) = Unit {0}
IsWithin (kinds.Param channel nrpn high low entry_high entry_low) = Unit {0}
IsWithin (kinds.Control channel number value) = Unit {0}
IsWithin (kinds.Toggle channel count) = count < 64
IsWithin (kinds.Count channel number count) = count < 64
IsWithin (kinds.Wheel channel first second) = Unit {0}
IsWithin (kinds.NoteOff channel note) = Unit {0}
IsWithin (kinds.NoteOn channel note velocity soon) = Unit {0}
IsWithin (kinds.Extra channel note release value) = Unit {0}
IsWithin (kinds.Pressure channel value) = Unit {0}
IsWithin (kinds.Poly channel note value) = Unit {0}

abbrev pub IsLog : Log → Type 0
IsLog log = IsWithin log.what

abbrev pub AreLogs : List Log → Type 0
AreLogs logs = AllByRecursion IsLog logs
