use Rattle.std.proofs.Common.{arith, rules}
use Rattle.bit_words.specs.BitView.{bits_of}
use Rattle.min_max_tree.proofs.Runs.{run-none, runs-joinable, run-joined}
use Rattle.min_max_tree.proofs.scan.run_of_bits.Goals as goal

pub loop-at-init : goal.loop-at-init
loop-at-init g c = record {
  low = search rules;
  high = search rules;
  run = rw c.empty-run.ensures (run-none (bits_of c.args.bits.now) c.args.from);
  first = search rules;
  later = search rules;
  grows = search rules;
  count = search rules;
}

pub joined-run-requires : goal.joined-run-requires
joined-run-requires g c =
    let i = c.loop-at.invariant in
    runs-joinable (bits_of c.args.bits.now) c.args.from c.loop-at.at c.min-end.result c.loop-at.run c.run_of_word.result i.low (omega arith) i.run c.run_of_word.ensures.run c.requires.few (omega arith)

pub loop-at-preserved : goal.loop-at-preserved
loop-at-preserved g c =
    let i = c.loop-at.invariant in
    record {
      low = search rules;
      high = search rules;
      run = rw c.joined-run.ensures (run-joined (bits_of c.args.bits.now) c.args.from c.loop-at.at c.min-end.result c.loop-at.run c.run_of_word.result i.low (omega arith) i.run c.run_of_word.ensures.run c.requires.few (omega arith));
      first = search rules;
      later = search rules;
      grows = search rules;
      count = search rules;
    }
