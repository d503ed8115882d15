-- What a shelf in memory holds.
use Rattle.std.specs.Prelude.{◌≡◌, ◌⊎◌, ℕ, ◌/◌, ◌≤◌, List, length, take}
use Rattle.ports.specs.declared.memory_shelf.MemoryShelf.{MemoryShelf}
use Rattle.ports.specs.FailingCalls.{failing_numbers, calls_made}
use Rattle.ports.specs.Outside.{Files, IsExtended, one_more}
use Rattle.ports.specs.HeldFiles.{files_of}

-- the bytes of each name that is held
abbrev pub shelf_files : MemoryShelf → Files
shelf_files shelf = files_of shelf.held

-- the numbers of the calls that are to fail
abbrev pub shelf_failing : MemoryShelf → List ℕ
shelf_failing shelf = failing_numbers shelf.calls

-- the number of the last call, and 0 before the first
abbrev pub shelf_calls : MemoryShelf → ℕ
shelf_calls shelf = calls_made shelf.calls

-- how many reads failed
abbrev pub shelf_faults : MemoryShelf → ℕ
shelf_faults shelf = shelf.fault_count

-- how many writes failed, and how many growths found no memory
abbrev pub shelf_write_faults : MemoryShelf → ℕ
shelf_write_faults shelf = shelf.write_fault_count

-- how many reads asked for a name that is not held
abbrev pub shelf_misses : MemoryShelf → ℕ
shelf_misses shelf = shelf.miss_count

-- the first half of the bytes, rounded down, was put behind the name's; or that growth found no memory and is a second
-- fault
abbrev pub GainsHalf : List ℕ → List ℕ → MemoryShelf → MemoryShelf → Type 0
GainsHalf name bytes before after = IsExtended name (take (length bytes / 2) bytes) (shelf_files before) (shelf_files after)
    ⊎ ((shelf_files after name ≡ shelf_files before name) × (one_more (one_more (shelf_write_faults before)) ≤ shelf_write_faults after))
