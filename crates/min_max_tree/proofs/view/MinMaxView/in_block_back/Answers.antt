use Rattle.std.proofs.Common.{arith, ◌≡◌, ◌+◌, ◌*◌, length, ap, ◌∙◌, min}
use Rattle.min_max_tree.specs.MinMaxView.{searched}
use Rattle.min_max_tree.proofs.Nodes.{node-order}
use Rattle.min_max_tree.proofs.Climb.{small-index}
use Rattle.min_max_tree.proofs.Backs.{spot_block_back, block_start, block_missed_back, block_hit_back}
use Rattle.min_max_tree.proofs.view.MinMaxView.in_block_back.Goals as goal

pub overflow_mul-from : goal.overflow_mul-from
overflow_mul-from g c =
    let s = small-index (length (searched c.args.self.now)) c.args.spot.level.height c.args.spot.j c.requires.spot.within c.args.self.now.few in
    omega arith

pub overflow_add-from : goal.overflow_add-from
overflow_add-from g c =
    let s = small-index (length (searched c.args.self.now)) c.args.spot.level.height c.args.spot.j c.requires.spot.within c.args.self.now.few in
    omega arith

pub scan_bits_back-requires-clause-order : goal.scan_bits_back-requires-clause-order
scan_bits_back-requires-clause-order g c =
    let bits = searched c.args.self.now in
    let b = spot_block_back bits c.args.spot c.requires.spot c.requires.height in
    let o = node-order (length bits) 0 c.args.spot.j b.0 in
    let f = block_start c.args.spot.j in
    let e = c.len.ensures in
    omega arith

pub unreachable-requires : goal.unreachable-requires
unreachable-requires g c =
    let bits = searched c.args.self.now in
    let e : c.min-end.result ≡ min (length bits) (512 * c.args.spot.j + 512) = c.min-end.ensures ∙ ap (λ n. min n (512 * c.args.spot.j + 512)) c.len.ensures in
    block_missed_back bits c.args.spot c.min-end.result c.in-Above.field-0 c.requires.spot c.requires.height e c.in-Above.ensures.scanned

pub returns-clause-found : goal.returns-clause-found
returns-clause-found g c =
    let bits = searched c.args.self.now in
    let e : c.min-end.result ≡ min (length bits) (512 * c.args.spot.j + 512) = c.min-end.ensures ∙ ap (λ n. min n (512 * c.args.spot.j + 512)) c.len.ensures in
    block_hit_back bits c.args.spot.j c.args.spot.need _ c.min-end.result c.in-Found.place e c.in-Found.ensures.scanned
