use Rattle.std.proofs.Common.{true, false, arith}
use Rattle.turan_code.specs.TuranView.{code_of_parts}
use Rattle.code_tour.proofs.Opened.{none_open, none_begun}
use Rattle.code_tour.proofs.gap.Gap.new.Goals as goal

pub returns : goal.returns
returns c =
    let code = code_of_parts c.args.parts in
    record {
      tree = none_open code true c.new.result c.new.ensures.numbers c.new.ensures.depth c.new.ensures.opened c.new.ensures.place (omega (arith, c.requires.tree, c.new.ensures.room));
      dual = none_open code false c.new-2.result c.new-2.ensures.numbers c.new-2.ensures.depth c.new-2.ensures.opened c.new-2.ensures.place (omega (arith, c.requires.dual, c.new-2.ensures.room));
      begun = none_begun code c.requires.short.sound;
    }
