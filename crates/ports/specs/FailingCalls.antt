-- Which calls of an object in memory are to fail.
use Rattle.std.specs.Prelude.{ℕ, List}
use Rattle.ports.specs.declared.failing_calls.FailingCalls.{FailingCalls}

-- the numbers of the calls that are to fail
abbrev pub failing_numbers : FailingCalls → List ℕ
failing_numbers calls = calls.numbers.now

-- the number of the last call, and 0 before the first
abbrev pub calls_made : FailingCalls → ℕ
calls_made calls = calls.made
