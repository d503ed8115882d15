-- What a sink in memory holds.
use Rattle.std.specs.Prelude.{◌≡◌, ℕ, ◌/◌, ◌≤◌, List, ◌++◌, length, take, ◌⊎◌}
use Rattle.ports.specs.declared.memory_sink.MemorySink.{MemorySink}
use Rattle.ports.specs.FailingCalls.{failing_numbers, calls_made}
use Rattle.ports.specs.Outside.{one_more}

-- the bytes so far
abbrev pub sink_bytes : MemorySink → List ℕ
sink_bytes sink = sink.bytes.items

-- the numbers of the calls that are to fail
abbrev pub sink_failing : MemorySink → List ℕ
sink_failing sink = failing_numbers sink.calls

-- the number of the last call, and 0 before the first
abbrev pub sink_calls : MemorySink → ℕ
sink_calls sink = calls_made sink.calls

-- how many calls failed, and how many growths found no memory
abbrev pub sink_faults : MemorySink → ℕ
sink_faults sink = sink.fault_count

-- the first half of the bytes, rounded down, was appended; or that growth found no memory and is a second fault
abbrev pub GainsHalf : MemorySink → MemorySink → List ℕ → Type 0
GainsHalf before after bytes = (sink_bytes after ≡ sink_bytes before ++ take (length bytes / 2) bytes)
    ⊎ ((sink_bytes after ≡ sink_bytes before) × (one_more (one_more (sink_faults before)) ≤ sink_faults after))
