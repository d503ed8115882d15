use Rattle.std.proofs.Common.{map, ap, ◌∙◌}
use Rattle.euler_check.specs.Marks.{number_in}
use Rattle.euler_check.proofs.Entries.{none_in}
use Rattle.euler_check.proofs.marks.DartNumbers.none.Goals as goal

pub returns : goal.returns
returns c = ap (map number_in) (c.in_ok-vec.ensures.items_if_clones_equal (λ y same. same)) ∙ none_in c.args.darts
