-- What the forms in memory hold.
use Rattle.std.specs.Prelude.{ℕ, List, map}
use Rattle.ddb_outside.specs.Listeners.{Connections}
use Rattle.ddb_outside.specs.declared.source.MemSource.{MemSource}
use Rattle.ddb_outside.specs.declared.sink.MemSink.{MemSink}
use Rattle.ddb_outside.specs.declared.clock.ListClock.{ListClock}
use Rattle.ddb_outside.specs.declared.memory_listener.MemListener.{MemListener}

-- the content that the source was made with
abbrev pub content_of : MemSource → List ℕ
content_of source = source.content

-- the numbers of the source's calls that fail
abbrev pub failing_reads : MemSource → List ℕ
failing_reads source = source.failing

-- the numbers of the sink's calls that fail
abbrev pub failing_writes : MemSink → List ℕ
failing_writes sink = sink.failing

-- the moments that the clock was made with
abbrev pub moments_of : ListClock → List ℕ
moments_of clock = clock.moments

-- what the listener tells of its connections
abbrev pub told_by : MemListener → Connections
told_by l = record {
  parts = map (λ part. part.coming.items) l.parts.items;
  coming = l.coming.items;
  hung = l.hung.items;
  out = l.out;
  lent = l.lent;
}
