use Rattle.std.proofs.Common.{◌≡◌, ◌≤◌, take}
use Rattle.pemb_file.specs.Served.{contents_of_view}
use Rattle.file_parts.proofs.by_number.forward_bits.Given as goal

abbrev pub invariant-loop-edge : goal.invariant-loop-edge
invariant-loop-edge g l = record { forward : l.forward.items ≡ take l.edge (contents_of_view l.fn.served).forward; grows : l.fn.steps ≤ l.steps }
