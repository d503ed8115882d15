use Rattle.code_laws.specs.Tour.{code_of}
use Rattle.turan_code.proofs.Numbered.{first_gap, one_more}
use Rattle.turan_code.proofs.numbering.number.Goals as goal

pub loop-p-init : goal.loop-p-init
loop-p-init c =
    let code = code_of c.args.tree.now c.args.first.now c.args.starts.now in
    record {
      gap = first_gap code c.new-gap.result c.new-gap.ensures.tree c.new-gap.ensures.dual c.new-gap.ensures.begun;
      numbers = c.in_ok-numbering.ensures;
    }

pub loop-p-preserved : goal.loop-p-preserved
loop-p-preserved c =
    let code = code_of c.args.tree.now c.args.first.now c.args.starts.now in
    record {
      gap = c.in_ok-numbers.ensures.gap;
      numbers = one_more code c.loop-p.p c.loop-p.numbering c.push.new.self c.in_ok-numbers.numbers c.loop-p.invariant.numbers c.in_ok-numbers.ensures.numbers c.in_ok-push.ensures;
    }
