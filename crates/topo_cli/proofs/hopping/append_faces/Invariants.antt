use Rattle.std.specs.Prelude.{if◌then◌else◌}
use Rattle.std.proofs.Common.{◌≡◌, ◌+◌, ◌≤◌, ◌++◌, length}
use Rattle.face_hops.specs.HopWalk.{allowance, is_begun, rest}
use Rattle.topo_cli.proofs.HopLine.{spaced}
use Rattle.topo_cli.proofs.hopping.append_faces.Given as goal

abbrev pub invariant-loop-face : goal.invariant-loop-face
invariant-loop-face g l =
    record {
      text : l.line.items ++ spaced (rest l.walk) ≡ l.fn.line.items ++ spaced (rest l.fn.walk);
      least : l.fn.steps + length (rest l.fn.walk) ≤ l.steps + length (rest l.walk) + (if is_begun l.walk then 1 else 0);
      grows : l.fn.steps ≤ l.steps;
      most : l.steps + allowance l.walk ≤ l.fn.steps + allowance l.fn.walk;
    }

abbrev pub decreases-loop-face : goal.decreases-loop-face
decreases-loop-face g l = length (rest l.walk)
