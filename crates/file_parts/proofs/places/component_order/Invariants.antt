use Rattle.std.proofs.Common.{◌≡◌, ◌≤◌, take}
use Rattle.pemb_file.specs.Served.{contents_of_view}
use Rattle.file_parts.proofs.places.component_order.Given as goal

abbrev pub invariant-loop-j : goal.invariant-loop-j
invariant-loop-j g l = record { order : l.order.items ≡ take l.j (contents_of_view l.fn.served).place_order; grows : l.fn.steps ≤ l.steps }
