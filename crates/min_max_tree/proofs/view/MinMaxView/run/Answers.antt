use Rattle.std.proofs.Common.{arith, ℕ, ◌+◌, ◌*◌, ◌/◌}
use Rattle.min_max_tree.specs.MinMaxView.{searched}
use Rattle.min_max_tree.specs.Node.{joined}
use Rattle.min_max_tree.proofs.Runs.{runs-joinable, run-joined}
use Rattle.min_max_tree.proofs.view.MinMaxView.run.Goals as goal

pub joined-requires : goal.joined-requires
joined-requires g c =
    let first : ℕ = 512 * (c.args.from / 512 + 1) in
    let last : ℕ = 512 * (c.args.to / 512) in
    runs-joinable (searched c.args.self.now) c.args.from first last c.run_of_bits-left.result c.blocks-blocks.result (omega arith) (omega arith) c.run_of_bits-left.ensures.run c.blocks-blocks.ensures.run c.args.self.now.few (omega arith)

pub joined-requires-2 : goal.joined-requires-2
joined-requires-2 g c =
    let bits = searched c.args.self.now in
    let first : ℕ = 512 * (c.args.from / 512 + 1) in
    let last : ℕ = 512 * (c.args.to / 512) in
    let r = run-joined bits c.args.from first last c.run_of_bits-left.result c.blocks-blocks.result (omega arith) (omega arith) c.run_of_bits-left.ensures.run c.blocks-blocks.ensures.run c.args.self.now.few (omega arith) in
    rw c.joined.ensures (runs-joinable bits c.args.from last c.args.to (joined c.run_of_bits-left.result c.blocks-blocks.result) c.run_of_bits-right.result (omega arith) (omega arith) r c.run_of_bits-right.ensures.run c.args.self.now.few c.requires.within)

pub returns-clause-run : goal.returns-clause-run
returns-clause-run g c =
    let bits = searched c.args.self.now in
    let first : ℕ = 512 * (c.args.from / 512 + 1) in
    let last : ℕ = 512 * (c.args.to / 512) in
    let r = run-joined bits c.args.from first last c.run_of_bits-left.result c.blocks-blocks.result (omega arith) (omega arith) c.run_of_bits-left.ensures.run c.blocks-blocks.ensures.run c.args.self.now.few (omega arith) in
    rw (c.joined-2.ensures, c.joined.ensures) (run-joined bits c.args.from last c.args.to (joined c.run_of_bits-left.result c.blocks-blocks.result) c.run_of_bits-right.result (omega arith) (omega arith) r c.run_of_bits-right.ensures.run c.args.self.now.few c.requires.within)
