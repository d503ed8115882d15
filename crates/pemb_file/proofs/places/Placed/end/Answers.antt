use Rattle.std.proofs.Common.{arith}
use Rattle.turan_code.specs.TuranView.{code_of_view}
use Rattle.pemb_file.proofs.Smallest.{end-last}
use Rattle.pemb_file.proofs.places.Placed.end.Goals as goal

pub returns-then-component-count-clause-end : goal.returns-then-component-count-clause-end
returns-then-component-count-clause-end g c =
    let f = c.args.self.now.fits in
    let e = end-last (code_of_view c.args.self.now.code) c.args.self.now.code.sound c.args.component (omega (arith, f.places, c.count.ensures)) in
    omega (arith, e, f.positions, c.count-then-component-count.ensures)
