use Rattle.std.proofs.Common.{arith, ◌≡◌, ◌∙◌}
use Rattle.min_max_tree.specs.MinMaxView.{searched}
use Rattle.min_max_tree.specs.Tree.{node}
use Rattle.min_max_tree.proofs.Builds.{child-small}
use Rattle.min_max_tree.proofs.Nodes.{node-at, word-total, word-least}
use Rattle.min_max_tree.proofs.view.MinMaxView.node.Goals as goal

pub overflow_add-level : goal.overflow_add-level
overflow_add-level g c =
    let s = child-small (searched c.args.self.now) c.args.self.now.few c.args.level c.requires.level c.args.j c.requires.within in
    omega arith

pub word-requires : goal.word-requires
word-requires g c =
    let bits = searched c.args.self.now in
    let level = c.args.level in
    let r = node-at bits level.height c.args.j c.requires.level.reached c.requires.within in
    rw (c.args.self.now.right, c.requires.level.start) r.0

pub returns-clause-total : goal.returns-clause-total
returns-clause-total g c =
    let bits = searched c.args.self.now in
    let level = c.args.level in
    let r = node-at bits level.height c.args.j c.requires.level.reached c.requires.within in
    let e : c.word.result ≡ node bits level.height c.args.j = rw (c.args.self.now.right, c.requires.level.start) at c.word.ensures.word ∙ r.1 in
    rw c.of_word.ensures (word-total bits level.height c.args.j c.word.result c.args.self.now.few c.requires.within e)

pub returns-clause-least : goal.returns-clause-least
returns-clause-least g c =
    let bits = searched c.args.self.now in
    let level = c.args.level in
    let r = node-at bits level.height c.args.j c.requires.level.reached c.requires.within in
    let e : c.word.result ≡ node bits level.height c.args.j = rw (c.args.self.now.right, c.requires.level.start) at c.word.ensures.word ∙ r.1 in
    rw c.of_word.ensures (word-least bits level.height c.args.j c.word.result c.args.self.now.few c.requires.within e)
