use Rattle.std.proofs.Common.{arith, length, subst, sym, ◌≡◌, ◌<◌, ◌≤◌, ◌+◌, ◌*◌}
use Rattle.bit_words.specs.BitView.{bits_of}
use Rattle.bit_words.specs.WordView.{words_of}
use Rattle.min_max_tree.specs.Tree.{size_at}
use Rattle.min_max_tree.proofs.Levels.{size-le}
use Rattle.min_max_tree.proofs.Builds.{left-place, left-small, left-run, right-place, right-run, parent-only, parent-both, children-joinable}
use Rattle.min_max_tree.proofs.checking.parent_seen.Goals as goal

pub overflow_mul-at : goal.overflow_mul-at
overflow_mul-at g c =
    let s = size-le (length (bits_of c.args.bits.now)) (c.args.level.height + 1) in
    let w = c.requires.within in
    let f = c.requires.few in
    omega arith

pub overflow_add-at : goal.overflow_add-at
overflow_add-at g c =
    let s = left-small (bits_of c.args.bits.now) c.requires.few c.args.level c.requires.level (words_of c.args.nodes.now) c.requires.holds c.args.j c.requires.within in
    omega arith

pub word-requires : goal.word-requires
word-requires g c =
    let s = left-place (bits_of c.args.bits.now) c.requires.few c.args.level c.requires.level (words_of c.args.nodes.now) c.requires.holds c.args.j c.requires.within in
    let e = c.requires.size in
    omega arith

pub overflow_mul-j : goal.overflow_mul-j
overflow_mul-j g c =
    let s = size-le (length (bits_of c.args.bits.now)) (c.args.level.height + 1) in
    let w = c.requires.within in
    let f = c.requires.few in
    omega arith

pub overflow_add-j : goal.overflow_add-j
overflow_add-j g c =
    let s = size-le (length (bits_of c.args.bits.now)) (c.args.level.height + 1) in
    let w = c.requires.within in
    let f = c.requires.few in
    omega arith

pub returns-then-j-size-clause-run : goal.returns-then-j-size-clause-run
returns-then-j-size-clause-run g c =
    let bits = (bits_of c.args.bits.now) in
    let h = c.args.level.height in
    let m : size_at (length bits) h ≡ c.size.result = subst (λ n. size_at n h ≡ c.size.result) c.len.ensures (sym c.size.ensures) in
    let none : size_at (length bits) h ≤ 2 * c.args.j + 1 = omega (arith, m, c.if-j-size.true) in
    rw (c.of_word-left.ensures, c.word.ensures.word) (parent-only bits c.requires.few h c.args.j c.requires.within _ none (left-run bits c.requires.few c.args.level c.requires.level (words_of c.args.nodes.now) c.requires.holds c.args.j c.requires.within))

pub overflow_add-at-2 : goal.overflow_add-at-2
overflow_add-at-2 g c =
    let s = left-small (bits_of c.args.bits.now) c.requires.few c.args.level c.requires.level (words_of c.args.nodes.now) c.requires.holds c.args.j c.requires.within in
    omega arith

pub word-requires-2 : goal.word-requires-2
word-requires-2 g c =
    let bits = (bits_of c.args.bits.now) in
    let h = c.args.level.height in
    let m : size_at (length bits) h ≡ c.size.result = subst (λ n. size_at n h ≡ c.size.result) c.len.ensures (sym c.size.ensures) in
    let there : 2 * c.args.j + 1 < size_at (length bits) h = omega (arith, m, c.if-j-size.false) in
    let s = right-place bits c.requires.few c.args.level c.requires.level (words_of c.args.nodes.now) c.requires.holds c.args.j c.requires.within there in
    let e = c.requires.size in
    omega arith

pub joined-requires : goal.joined-requires
joined-requires g c =
    let bits = (bits_of c.args.bits.now) in
    let h = c.args.level.height in
    let m : size_at (length bits) h ≡ c.size.result = subst (λ n. size_at n h ≡ c.size.result) c.len.ensures (sym c.size.ensures) in
    let there : 2 * c.args.j + 1 < size_at (length bits) h = omega (arith, m, c.if-j-size.false) in
    rw (c.of_word-left.ensures, c.of_word.ensures, c.word.ensures.word, c.word-2.ensures.word)
    (children-joinable bits c.requires.few h c.args.j c.requires.within _ _ there
    (left-run bits c.requires.few c.args.level c.requires.level (words_of c.args.nodes.now) c.requires.holds c.args.j c.requires.within)
    (right-run bits c.requires.few c.args.level c.requires.level (words_of c.args.nodes.now) c.requires.holds c.args.j c.requires.within there))

pub returns-clause-run : goal.returns-clause-run
returns-clause-run g c =
    let bits = (bits_of c.args.bits.now) in
    let h = c.args.level.height in
    let m : size_at (length bits) h ≡ c.size.result = subst (λ n. size_at n h ≡ c.size.result) c.len.ensures (sym c.size.ensures) in
    let there : 2 * c.args.j + 1 < size_at (length bits) h = omega (arith, m, c.if-j-size.false) in
    rw (c.joined.ensures, c.of_word-left.ensures, c.of_word.ensures, c.word.ensures.word, c.word-2.ensures.word)
    (parent-both bits c.requires.few h c.args.j c.requires.within _ _ there
    (left-run bits c.requires.few c.args.level c.requires.level (words_of c.args.nodes.now) c.requires.holds c.args.j c.requires.within)
    (right-run bits c.requires.few c.args.level c.requires.level (words_of c.args.nodes.now) c.requires.holds c.args.j c.requires.within there))
