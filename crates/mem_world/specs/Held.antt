-- What a source, a sink and a scratch in memory tell.
use Rattle.std.specs.Prelude.{drop, Some}
use Rattle.outside.specs.SourceView.{SourceView}
use Rattle.outside.specs.SinkView.{SinkView}
use Rattle.outside.specs.ScratchView.{ScratchView}
use Rattle.mem_world.specs.declared.source.MemSource.{MemSource}
use Rattle.mem_world.specs.declared.sink.MemSink.{MemSink}
use Rattle.mem_world.specs.declared.scratch.MemScratch.{MemScratch}

-- the bytes that weren't read
abbrev pub source_view : MemSource → SourceView
source_view s = record { told = Some (drop s.at s.bytes.items); faults = s.device.faults }

abbrev pub sink_view : MemSink → SinkView
sink_view s = record { told = Some s.bytes.items; faults = s.device.faults }

abbrev pub scratch_view : MemScratch → ScratchView
scratch_view s = record { told = Some s.bytes.items; faults = s.device.faults; reads = s.reads }
