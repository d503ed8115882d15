-- What a source in memory has left, and how it gives it.
use Rattle.std.specs.Prelude.{ℕ, List, Option, Some}
use Rattle.ports.specs.declared.memory_source.MemorySource.{MemorySource}
use Rattle.ports.specs.FailingCalls.{failing_numbers, calls_made}

-- the bytes still to come
abbrev pub source_bytes : MemorySource → List ℕ
source_bytes source = source.bytes.now

-- what the source tells of them: all
abbrev pub source_left : MemorySource → Option (List ℕ)
source_left source = Some (source_bytes source)

-- the most bytes that a call gives
abbrev pub source_piece : MemorySource → ℕ
source_piece source = source.piece

-- the numbers of the calls that are to fail
abbrev pub source_failing : MemorySource → List ℕ
source_failing source = failing_numbers source.calls

-- the number of the last call, and 0 before the first
abbrev pub source_calls : MemorySource → ℕ
source_calls source = calls_made source.calls

-- how many calls failed
abbrev pub source_faults : MemorySource → ℕ
source_faults source = source.fault_count
