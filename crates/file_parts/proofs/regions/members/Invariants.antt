use Rattle.std.proofs.Common.{◌≡◌, ◌≤◌, take}
use Rattle.pemb_file.specs.Served.{contents_of_view}
use Rattle.file_parts.proofs.regions.members.Given as goal

abbrev pub invariant-loop-place : goal.invariant-loop-place
invariant-loop-place g l = record { members : l.members.items ≡ take l.place (contents_of_view l.fn.served).members; grows : l.fn.steps ≤ l.steps }
