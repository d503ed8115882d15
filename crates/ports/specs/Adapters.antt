-- What the adapters over std's streams and files wrap and count.
use Rattle.std.specs.Prelude.{ℕ}
use Rattle.ports.specs.declared.std_source.StdSource.{StdSource}
use Rattle.ports.specs.declared.std_sink.StdSink.{StdSink}
use Rattle.ports.specs.declared.file_shelf.FileShelf.{FileShelf}

-- the reader that a source takes from
abbrev pub source_reader : {R : Type 0} → StdSource R → R
source_reader source = source.reader

-- how many reads failed
abbrev pub reader_faults : {R : Type 0} → StdSource R → ℕ
reader_faults source = source.fault_count

-- the writer that a sink puts into
abbrev pub sink_writer : {W : Type 0} → StdSink W → W
sink_writer sink = sink.writer

-- how many writes failed
abbrev pub writer_faults : {W : Type 0} → StdSink W → ℕ
writer_faults sink = sink.fault_count

-- how many reads failed
abbrev pub file_faults : {R File Dir : Type 0} → FileShelf R File Dir → ℕ
file_faults shelf = shelf.fault_count

-- how many writes failed
abbrev pub file_write_faults : {R File Dir : Type 0} → FileShelf R File Dir → ℕ
file_write_faults shelf = shelf.write_fault_count

-- how many reads asked for a file that isn't there
abbrev pub file_misses : {R File Dir : Type 0} → FileShelf R File Dir → ℕ
file_misses shelf = shelf.miss_count
