use Rattle.std.proofs.Common.{◌-◌, ap, ◌∙◌, arith}
use Rattle.code_laws.specs.Numbers.{enclosing_pair}
use Rattle.turan_code.specs.TuranView.{code_of_view}
use Rattle.turan_code.proofs.Views.{others_before, round_at, place_le}
use Rattle.turan_code.proofs.view.TuranView.pair_across.Goals as goal

pub overflow_sub-mate : goal.overflow_sub-mate
overflow_sub-mate g c =
    let mate = c.mated-mate.result in
    (others_before (code_of_view c.args.self.now) c.is_tree-own.result c.args.kind mate.position mate.place c.if-own-kind.false (omega arith) c.mated-mate.ensures.place).0

pub pair_round-requires : goal.pair_round-requires
pair_round-requires g c =
    let v = c.args.self.now in
    let mate = c.mated-mate.result in
    let others = (others_before (code_of_view v) c.is_tree-own.result c.args.kind mate.position mate.place c.if-own-kind.false (omega arith) c.mated-mate.ensures.place).1 in
    let l = place_le (code_of_view v) v.sound c.args.kind mate.position (omega arith) in
    omega (arith, others, l)

pub returns-clause-pair : goal.returns-clause-pair
returns-clause-pair g c =
    let v = c.args.self.now in
    let mate = c.mated-mate.result in
    let others = (others_before (code_of_view v) c.is_tree-own.result c.args.kind mate.position mate.place c.if-own-kind.false (omega arith) c.mated-mate.ensures.place).1 in
    c.pair_round.ensures.pair ∙ round_at (code_of_view v) c.args.kind mate.position (mate.position - mate.place) others ∙ ap (enclosing_pair (code_of_view v) c.args.kind) c.mated-mate.ensures.mate
