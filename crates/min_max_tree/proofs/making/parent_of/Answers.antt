use Rattle.std.proofs.Common.{arith, length, subst, sym, ◌≡◌, ◌<◌, ◌≤◌, ◌+◌, ◌*◌}
use Rattle.min_max_tree.specs.Tree.{size_at}
use Rattle.min_max_tree.proofs.Levels.{size-le}
use Rattle.min_max_tree.proofs.Builds.{left-place, left-small, left-run, right-place, right-run, parent-only, parent-both, children-joinable}
use Rattle.min_max_tree.proofs.making.parent_of.Goals as goal

pub overflow_mul-at : goal.overflow_mul-at
overflow_mul-at c =
    let s = size-le (length c.args.bits.now) (c.args.level.height + 1) in
    let w = c.requires.within in
    let f = c.requires.few in
    omega arith

pub overflow_add-at : goal.overflow_add-at
overflow_add-at c =
    let s = left-small c.args.bits.now c.requires.few c.args.level c.requires.level c.args.nodes.now c.requires.holds c.args.j c.requires.within in
    omega arith

pub offset_bounds-nodes-at : goal.offset_bounds-nodes-at
offset_bounds-nodes-at c =
    let s = left-small c.args.bits.now c.requires.few c.args.level c.requires.level c.args.nodes.now c.requires.holds c.args.j c.requires.within in
    omega arith

pub bounds-nodes-at : goal.bounds-nodes-at
bounds-nodes-at c =
    let s = left-place c.args.bits.now c.requires.few c.args.level c.requires.level c.args.nodes.now c.requires.holds c.args.j c.requires.within in
    let e = c.requires.size in
    omega arith

pub overflow_mul-j : goal.overflow_mul-j
overflow_mul-j c =
    let s = size-le (length c.args.bits.now) (c.args.level.height + 1) in
    let w = c.requires.within in
    let f = c.requires.few in
    omega arith

pub overflow_add-j : goal.overflow_add-j
overflow_add-j c =
    let s = size-le (length c.args.bits.now) (c.args.level.height + 1) in
    let w = c.requires.within in
    let f = c.requires.few in
    omega arith

pub returns-then-j-size : goal.returns-then-j-size
returns-then-j-size c =
    let bits = c.args.bits.now in
    let h = c.args.level.height in
    let m : size_at (length bits) h ≡ c.size.result = subst (λ n. size_at n h ≡ c.size.result) c.len.ensures (sym c.size.ensures) in
    let none : size_at (length bits) h ≤ 2 * c.args.j + 1 = omega (arith, m, c.if-j-size.true) in
    rw c.of_word-left.ensures (parent-only bits c.requires.few h c.args.j c.requires.within _ none (left-run bits c.requires.few c.args.level c.requires.level c.args.nodes.now c.requires.holds c.args.j c.requires.within))

pub overflow_add-at-2 : goal.overflow_add-at-2
overflow_add-at-2 c =
    let s = left-small c.args.bits.now c.requires.few c.args.level c.requires.level c.args.nodes.now c.requires.holds c.args.j c.requires.within in
    omega arith

pub offset_bounds-nodes-at-2 : goal.offset_bounds-nodes-at-2
offset_bounds-nodes-at-2 c =
    let s = left-small c.args.bits.now c.requires.few c.args.level c.requires.level c.args.nodes.now c.requires.holds c.args.j c.requires.within in
    omega arith

pub bounds-nodes-at-2 : goal.bounds-nodes-at-2
bounds-nodes-at-2 c =
    let bits = c.args.bits.now in
    let h = c.args.level.height in
    let m : size_at (length bits) h ≡ c.size.result = subst (λ n. size_at n h ≡ c.size.result) c.len.ensures (sym c.size.ensures) in
    let there : 2 * c.args.j + 1 < size_at (length bits) h = omega (arith, m, c.if-j-size.false) in
    let s = right-place bits c.requires.few c.args.level c.requires.level c.args.nodes.now c.requires.holds c.args.j c.requires.within there in
    let e = c.requires.size in
    omega arith

pub joined-requires : goal.joined-requires
joined-requires c =
    let bits = c.args.bits.now in
    let h = c.args.level.height in
    let m : size_at (length bits) h ≡ c.size.result = subst (λ n. size_at n h ≡ c.size.result) c.len.ensures (sym c.size.ensures) in
    let there : 2 * c.args.j + 1 < size_at (length bits) h = omega (arith, m, c.if-j-size.false) in
    rw (c.of_word-left.ensures, c.of_word.ensures)
    (children-joinable bits c.requires.few h c.args.j c.requires.within _ _ there
    (left-run bits c.requires.few c.args.level c.requires.level c.args.nodes.now c.requires.holds c.args.j c.requires.within)
    (right-run bits c.requires.few c.args.level c.requires.level c.args.nodes.now c.requires.holds c.args.j c.requires.within there))

pub returns : goal.returns
returns c =
    let bits = c.args.bits.now in
    let h = c.args.level.height in
    let m : size_at (length bits) h ≡ c.size.result = subst (λ n. size_at n h ≡ c.size.result) c.len.ensures (sym c.size.ensures) in
    let there : 2 * c.args.j + 1 < size_at (length bits) h = omega (arith, m, c.if-j-size.false) in
    rw (c.joined.ensures, c.of_word-left.ensures, c.of_word.ensures)
    (parent-both bits c.requires.few h c.args.j c.requires.within _ _ there
    (left-run bits c.requires.few c.args.level c.requires.level c.args.nodes.now c.requires.holds c.args.j c.requires.within)
    (right-run bits c.requires.few c.args.level c.requires.level c.args.nodes.now c.requires.holds c.args.j c.requires.within there))
