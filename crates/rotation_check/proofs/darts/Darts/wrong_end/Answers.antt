use Rattle.std.proofs.Common.{◌∙◌, refl, sym, ap, get_or, arith}
use Rattle.plane_model.specs.Rows.{rows_of}
use Rattle.rotation_check.specs.Darts.{reverse_dart, signed_edge}
use Rattle.rotation_check.proofs.EndLemmas.{right_end, not_right_end, value_is, ends_are}
use Rattle.rotation_check.proofs.Turning.{reverse-within}
use Rattle.rotation_check.proofs.ReadAt.{read_at}
use Rattle.rotation_check.proofs.darts.Darts.wrong_end.Goals as goal

pub returns-then-index : goal.returns-then-index
returns-then-index c =
    let t = rows_of c.args.self.now.tables.now in
    let nexts = c.args.self.now.next.items in
    let rows = c.args.self.now.node.items in
    let k = c.args.dart in
    let d = c.requires.numbered in
    let n = d.next_darts.1 k c.requires.within in
    let after = read_at nexts k k _ refl (let a = d.next_darts.0 in let b = c.requires.within in omega arith) c.index-next.ensures in
    let first = read_at rows (get_or nexts k 0) c.index-next.result.now _ after (let a = d.node_rows.0 in let b = n.0 in omega arith) c.index.ensures in
    let second = read_at rows (reverse_dart k) c.reversed.result _ c.reversed.ensures (let a = d.node_rows.0 in let b = reverse-within t.edges k c.requires.within in omega arith) c.index-2.ensures in
    sym (right_end t nexts rows d k c.requires.within (sym first ∙ c.if-index.true ∙ second))

pub returns : goal.returns
returns c =
    let t = rows_of c.args.self.now.tables.now in
    let nexts = c.args.self.now.next.items in
    let rows = c.args.self.now.node.items in
    let k = c.args.dart in
    let d = c.requires.numbered in
    let n = d.next_darts.1 k c.requires.within in
    let after = read_at nexts k k _ refl (let a = d.next_darts.0 in let b = c.requires.within in omega arith) c.index-next.ensures in
    let first = read_at rows (get_or nexts k 0) c.index-next.result.now _ after (let a = d.node_rows.0 in let b = n.0 in omega arith) c.index.ensures in
    let second = read_at rows (reverse_dart k) c.reversed.result _ c.reversed.ensures (let a = d.node_rows.0 in let b = reverse-within t.edges k c.requires.within in omega arith) c.index-2.ensures in
    let edge = value_is c.value.result c.signed.result _ c.value.ensures.value c.value.ensures.in_range c.signed.ensures in
    let next = value_is c.value-2.result c.signed-2.result _ c.value-2.ensures.value c.value-2.ensures.in_range (c.signed-2.ensures ∙ ap (signed_edge t.edges) after) in
    ends_are _ _ _ _ edge next ∙ sym (not_right_end t nexts rows d k c.requires.within (λ e. c.if-index.false (first ∙ e ∙ sym second)))
