use Rattle.std.proofs.Common.{◌≡◌, ◌≤◌, take}
use Rattle.pemb_file.specs.Served.{contents_of_view}
use Rattle.file_parts.proofs.places.component_places.Given as goal

abbrev pub invariant-loop-component : goal.invariant-loop-component
invariant-loop-component g l = record { places : l.places.items ≡ take l.component (contents_of_view l.fn.served).places; grows : l.fn.steps ≤ l.steps }
