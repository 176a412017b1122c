-- What a text in memory tells, as a sink.
use Rattle.std.specs.Prelude.{Some}
use Rattle.outside.specs.SinkView.{SinkView}
use Rattle.filter_style.specs.declared.memory.Memory.{Memory}

abbrev pub memory_view : Memory → SinkView
memory_view m = record { told = Some m.bytes.items; faults = m.starved }
