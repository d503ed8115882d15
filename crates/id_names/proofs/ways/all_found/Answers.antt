use Rattle.std.proofs.Common.{◌+◌, ◌∙◌}
use Rattle.std.proofs.lemmas.Bool.{eqb-true}
use Rattle.bit_words.specs.PackedView.{fields_of}
use Rattle.rank_select.specs.RankView.{counted}
use Rattle.id_names.proofs.OnWays.{all_counted}
use Rattle.id_names.proofs.PointBack.{all_at_once}
use Rattle.id_names.proofs.ways.all_found.Goals as goal

pub returns-clause-all : goal.returns-clause-all
returns-clause-all g c all =
    let v = c.args.inverse in
    let ways = c.in-Some.ways in
    let cycles = c.in-Some-on_cycles.cycles in
    all_counted (fields_of v.places) (counted v.marks) (fields_of v.back) ways cycles c.in-Some.ensures.many c.in-Some-on_cycles.ensures.many (eqb-true (ways + cycles) c.count-2.result all ∙ c.count-2.ensures)

pub returns-then-all_point_back-clause-all : goal.returns-then-all_point_back-clause-all
returns-then-all_point_back-clause-all g c = λ _.
    let v = c.args.inverse in
    all_at_once (fields_of v.places) (counted v.marks) (fields_of v.back) (c.all_point_back.ensures.found c.if-all_point_back.true)
