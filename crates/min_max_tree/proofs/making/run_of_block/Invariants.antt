use Rattle.std.proofs.Common.{◌*◌, min, length}
use Rattle.min_max_tree.specs.Node.{IsRun}
use Rattle.min_max_tree.proofs.making.run_of_block.Given as goal

abbrev pub invariant-loop-word : goal.invariant-loop-word
invariant-loop-word l = record {
  run : IsRun l.bits (512 * l.block) (min (length l.bits) (64 * l.word)) l.run;
}
