use Rattle.std.proofs.Common.{true, false, sym, ◌∙◌, arith}
use Rattle.turan_code.specs.TuranView.{code_of_parts}
use Rattle.turan_code.proofs.Numbered.{tree_edge_is, other_edge_is}
use Rattle.turan_code.proofs.Views.{edge_below, place_lt}
use Rattle.code_tour.proofs.Opened.{same_open, few_opened, few_before, opens_at, room_there, some_open, passed}
use Rattle.code_tour.proofs.gap.Gap.pass_edge.Goals as goal

pub is_open-first-requires : goal.is_open-first-requires
is_open-first-requires g c =
    let w = c.requires.short in
    let code = code_of_parts c.args.parts in
    let is = c.requires.kind ∙ c.if-tree.true in
    let below = place_lt code w.sound true c.args.p c.requires.within is in
    omega (arith, below, c.place.ensures, c.requires.tree.place)

pub pass-number-requires-clause-room : goal.pass-number-requires-clause-room
pass-number-requires-clause-room g c =
    let w = c.requires.short in
    let code = code_of_parts c.args.parts in
    let is = c.requires.kind ∙ c.if-tree.true in
    λ opens.
    let first = opens_at code w.sound true c.args.p c.requires.within is true c.place.result (c.place.ensures ∙ c.requires.tree.place) (sym c.is_open-first.ensures.open ∙ opens) in
    room_there code w.sound true c.args.p c.requires.within is c.args.self.now.tree first c.requires.tree

pub pass-number-requires-clause-few : goal.pass-number-requires-clause-few
pass-number-requires-clause-few g c =
    let w = c.requires.short in
    let code = code_of_parts c.args.parts in
    let is = c.requires.kind ∙ c.if-tree.true in
    few_opened code w.sound true c.args.p c.requires.within c.args.self.now.tree w.few c.requires.tree

pub pass-number-requires-clause-before : goal.pass-number-requires-clause-before
pass-number-requires-clause-before g c =
    let w = c.requires.short in
    let code = code_of_parts c.args.parts in
    let is = c.requires.kind ∙ c.if-tree.true in
    few_before code w.sound true c.args.p c.requires.within c.args.self.now.tree w.few c.requires.tree

pub pass-number-requires-clause-open : goal.pass-number-requires-clause-open
pass-number-requires-clause-open g c =
    let w = c.requires.short in
    let code = code_of_parts c.args.parts in
    let is = c.requires.kind ∙ c.if-tree.true in
    let first = opens_at code w.sound true c.args.p c.requires.within is _ c.place.result (c.place.ensures ∙ c.requires.tree.place) (sym c.is_open-first.ensures.open) in
    some_open code w.sound true c.args.p c.requires.within is _ c.args.self.now.tree c.args.self.now.tree.within first c.requires.tree

pub overflow_cast-result : goal.overflow_cast-result
overflow_cast-result g c =
    let w = c.requires.short in
    let code = code_of_parts c.args.parts in
    let is = c.requires.kind ∙ c.if-tree.true in
    let first = opens_at code w.sound true c.args.p c.requires.within is _ c.place.result (c.place.ensures ∙ c.requires.tree.place) (sym c.is_open-first.ensures.open) in
    let number = (passed code w.sound true c.args.p c.requires.within is _ c.args.self.now.tree c.pass-number.new.self c.pass-number.result first c.requires.tree c.pass-number.ensures.passes c.pass-number.ensures.room c.pass-number.ensures.place).1 ∙ tree_edge_is code w.sound c.args.p is in
    let below = edge_below code w.sound c.args.p c.requires.within in
    omega (arith, number, below, w.few)

pub returns-then-tree-clause-edge : goal.returns-then-tree-clause-edge
returns-then-tree-clause-edge g c =
    let w = c.requires.short in
    let code = code_of_parts c.args.parts in
    let is = c.requires.kind ∙ c.if-tree.true in
    let first = opens_at code w.sound true c.args.p c.requires.within is _ c.place.result (c.place.ensures ∙ c.requires.tree.place) (sym c.is_open-first.ensures.open) in
    (passed code w.sound true c.args.p c.requires.within is _ c.args.self.now.tree c.pass-number.new.self c.pass-number.result first c.requires.tree c.pass-number.ensures.passes c.pass-number.ensures.room c.pass-number.ensures.place).1 ∙ tree_edge_is code w.sound c.args.p is

pub returns-then-tree-clause-first : goal.returns-then-tree-clause-first
returns-then-tree-clause-first g c =
    let w = c.requires.short in
    let code = code_of_parts c.args.parts in
    let is = c.requires.kind ∙ c.if-tree.true in
    let first = opens_at code w.sound true c.args.p c.requires.within is _ c.place.result (c.place.ensures ∙ c.requires.tree.place) (sym c.is_open-first.ensures.open) in
    sym first

pub returns-then-tree-clause-tree : goal.returns-then-tree-clause-tree
returns-then-tree-clause-tree g c =
    let w = c.requires.short in
    let code = code_of_parts c.args.parts in
    let is = c.requires.kind ∙ c.if-tree.true in
    let first = opens_at code w.sound true c.args.p c.requires.within is _ c.place.result (c.place.ensures ∙ c.requires.tree.place) (sym c.is_open-first.ensures.open) in
    (passed code w.sound true c.args.p c.requires.within is _ c.args.self.now.tree c.pass-number.new.self c.pass-number.result first c.requires.tree c.pass-number.ensures.passes c.pass-number.ensures.room c.pass-number.ensures.place).0

pub returns-then-tree-clause-dual : goal.returns-then-tree-clause-dual
returns-then-tree-clause-dual g c =
    let w = c.requires.short in
    let code = code_of_parts c.args.parts in
    let is = c.requires.kind ∙ c.if-tree.true in
    same_open code w.sound false c.args.p c.requires.within c.args.self.now.dual is c.requires.dual

pub is_open-first-requires-else-tree : goal.is_open-first-requires-else-tree
is_open-first-requires-else-tree g c =
    let w = c.requires.short in
    let code = code_of_parts c.args.parts in
    let is = c.requires.kind ∙ c.if-tree.false in
    let below = place_lt code w.sound false c.args.p c.requires.within is in
    omega (arith, below, c.place-else-tree.ensures, c.requires.dual.place)

pub pass-number-requires-else-tree-clause-room : goal.pass-number-requires-else-tree-clause-room
pass-number-requires-else-tree-clause-room g c =
    let w = c.requires.short in
    let code = code_of_parts c.args.parts in
    let is = c.requires.kind ∙ c.if-tree.false in
    λ opens.
    let first = opens_at code w.sound false c.args.p c.requires.within is true c.place-else-tree.result (c.place-else-tree.ensures ∙ c.requires.dual.place) (sym c.is_open-first-else-tree.ensures.open ∙ opens) in
    room_there code w.sound false c.args.p c.requires.within is c.args.self.now.dual first c.requires.dual

pub pass-number-requires-else-tree-clause-few : goal.pass-number-requires-else-tree-clause-few
pass-number-requires-else-tree-clause-few g c =
    let w = c.requires.short in
    let code = code_of_parts c.args.parts in
    let is = c.requires.kind ∙ c.if-tree.false in
    few_opened code w.sound false c.args.p c.requires.within c.args.self.now.dual w.few c.requires.dual

pub pass-number-requires-else-tree-clause-before : goal.pass-number-requires-else-tree-clause-before
pass-number-requires-else-tree-clause-before g c =
    let w = c.requires.short in
    let code = code_of_parts c.args.parts in
    let is = c.requires.kind ∙ c.if-tree.false in
    few_before code w.sound false c.args.p c.requires.within c.args.self.now.dual w.few c.requires.dual

pub pass-number-requires-else-tree-clause-open : goal.pass-number-requires-else-tree-clause-open
pass-number-requires-else-tree-clause-open g c =
    let w = c.requires.short in
    let code = code_of_parts c.args.parts in
    let is = c.requires.kind ∙ c.if-tree.false in
    let first = opens_at code w.sound false c.args.p c.requires.within is _ c.place-else-tree.result (c.place-else-tree.ensures ∙ c.requires.dual.place) (sym c.is_open-first-else-tree.ensures.open) in
    some_open code w.sound false c.args.p c.requires.within is _ c.args.self.now.dual c.args.self.now.dual.within first c.requires.dual

pub overflow_add-result : goal.overflow_add-result
overflow_add-result g c =
    let w = c.requires.short in
    let code = code_of_parts c.args.parts in
    let is = c.requires.kind ∙ c.if-tree.false in
    let first = opens_at code w.sound false c.args.p c.requires.within is _ c.place-else-tree.result (c.place-else-tree.ensures ∙ c.requires.dual.place) (sym c.is_open-first-else-tree.ensures.open) in
    let number = (passed code w.sound false c.args.p c.requires.within is _ c.args.self.now.dual c.pass-number-else-tree.new.self c.pass-number-else-tree.result first c.requires.dual c.pass-number-else-tree.ensures.passes c.pass-number-else-tree.ensures.room c.pass-number-else-tree.ensures.place).1 in
    let edge = other_edge_is code w.sound c.args.p is in
    let below = edge_below code w.sound c.args.p c.requires.within in
    omega (arith, number, edge, below, w.few, c.len.ensures.len)

pub overflow_cast-result-else-tree : goal.overflow_cast-result-else-tree
overflow_cast-result-else-tree g c =
    let w = c.requires.short in
    let code = code_of_parts c.args.parts in
    let is = c.requires.kind ∙ c.if-tree.false in
    let first = opens_at code w.sound false c.args.p c.requires.within is _ c.place-else-tree.result (c.place-else-tree.ensures ∙ c.requires.dual.place) (sym c.is_open-first-else-tree.ensures.open) in
    let number = (passed code w.sound false c.args.p c.requires.within is _ c.args.self.now.dual c.pass-number-else-tree.new.self c.pass-number-else-tree.result first c.requires.dual c.pass-number-else-tree.ensures.passes c.pass-number-else-tree.ensures.room c.pass-number-else-tree.ensures.place).1 in
    let edge = other_edge_is code w.sound c.args.p is in
    let below = edge_below code w.sound c.args.p c.requires.within in
    omega (arith, number, edge, below, w.few, c.len.ensures.len)

pub returns-else-tree-clause-edge : goal.returns-else-tree-clause-edge
returns-else-tree-clause-edge g c =
    let w = c.requires.short in
    let code = code_of_parts c.args.parts in
    let is = c.requires.kind ∙ c.if-tree.false in
    let first = opens_at code w.sound false c.args.p c.requires.within is _ c.place-else-tree.result (c.place-else-tree.ensures ∙ c.requires.dual.place) (sym c.is_open-first-else-tree.ensures.open) in
    let number = (passed code w.sound false c.args.p c.requires.within is _ c.args.self.now.dual c.pass-number-else-tree.new.self c.pass-number-else-tree.result first c.requires.dual c.pass-number-else-tree.ensures.passes c.pass-number-else-tree.ensures.room c.pass-number-else-tree.ensures.place).1 in
    let edge = other_edge_is code w.sound c.args.p is in
    let below = edge_below code w.sound c.args.p c.requires.within in
    omega (arith, number, edge, c.len.ensures.len)

pub returns-else-tree-clause-first : goal.returns-else-tree-clause-first
returns-else-tree-clause-first g c =
    let w = c.requires.short in
    let code = code_of_parts c.args.parts in
    let is = c.requires.kind ∙ c.if-tree.false in
    let first = opens_at code w.sound false c.args.p c.requires.within is _ c.place-else-tree.result (c.place-else-tree.ensures ∙ c.requires.dual.place) (sym c.is_open-first-else-tree.ensures.open) in
    sym first

pub returns-else-tree-clause-dual : goal.returns-else-tree-clause-dual
returns-else-tree-clause-dual g c =
    let w = c.requires.short in
    let code = code_of_parts c.args.parts in
    let is = c.requires.kind ∙ c.if-tree.false in
    let first = opens_at code w.sound false c.args.p c.requires.within is _ c.place-else-tree.result (c.place-else-tree.ensures ∙ c.requires.dual.place) (sym c.is_open-first-else-tree.ensures.open) in
    (passed code w.sound false c.args.p c.requires.within is _ c.args.self.now.dual c.pass-number-else-tree.new.self c.pass-number-else-tree.result first c.requires.dual c.pass-number-else-tree.ensures.passes c.pass-number-else-tree.ensures.room c.pass-number-else-tree.ensures.place).0

pub returns-else-tree-clause-tree : goal.returns-else-tree-clause-tree
returns-else-tree-clause-tree g c =
    let w = c.requires.short in
    let code = code_of_parts c.args.parts in
    let is = c.requires.kind ∙ c.if-tree.false in
    same_open code w.sound true c.args.p c.requires.within c.args.self.now.tree is c.requires.tree
