use Rattle.std.proofs.Common.{◌≡◌, ◌+◌, ◌*◌, min, length, arith, subst}
use Rattle.min_max_tree.specs.Node.{IsRun, no_bits}
use Rattle.min_max_tree.proofs.Runs.{run-none}
use Rattle.min_max_tree.proofs.Fronts.{block-front}
use Rattle.min_max_tree.proofs.making.run_of_block.Goals as goal

pub loop-word-init : goal.loop-word-init
loop-word-init c =
    let bits = c.args.bits.now in
    let e : 512 * c.args.block ≡ min (length bits) (64 * (8 * c.args.block)) = omega arith in
    record { run = rw c.empty-run.ensures (subst (λ n. IsRun bits (512 * c.args.block) n no_bits) e (run-none bits (512 * c.args.block))) }

pub joined-run-requires : goal.joined-run-requires
joined-run-requires c =
    let r = block-front c.args.bits.now c.args.block c.loop-word.word c.chunk.result c.min-count.result c.loop-word.run c.run_of_front.result c.requires.few (omega arith) (omega arith) c.chunk.ensures (omega arith) c.loop-word.invariant.run c.run_of_front.ensures in
    r.0

pub loop-word-preserved : goal.loop-word-preserved
loop-word-preserved c =
    let r = block-front c.args.bits.now c.args.block c.loop-word.word c.chunk.result c.min-count.result c.loop-word.run c.run_of_front.result c.requires.few (omega arith) (omega arith) c.chunk.ensures (omega arith) c.loop-word.invariant.run c.run_of_front.ensures in
    record { run = rw c.joined-run.ensures r.1 }

pub returns : goal.returns
returns c =
    let bits = c.args.bits.now in
    let e : min (length bits) (64 * c.loop-word.word) ≡ min (length bits) (512 * (c.args.block + 1)) = omega arith in
    subst (λ n. IsRun bits (512 * c.args.block) n c.loop-word.run) e c.loop-word.invariant.run
