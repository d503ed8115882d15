use Rattle.std.proofs.Common.{◌∙◌, ◌==◌, get_or, sym, ap}
use Rattle.std.specs.Prelude.{not}
use Rattle.std.proofs.lemmas.Bool.{le-ltb}
use Rattle.plane_model.specs.Rows.{rows_of}
use Rattle.rotation_check.proofs.SplitNodes.{meets, split_is, split_none, place_leaves}
use Rattle.rotation_check.proofs.darts.Darts.is_split.Goals as goal

pub round_length-requires-clause-permutes : goal.round_length-requires-clause-permutes
round_length-requires-clause-permutes c =
    (meets (rows_of c.args.self.now.tables.now) c.args.self.now.next.items c.args.self.now.node.items c.requires.numbered c.requires.ends c.requires.once).permutes

pub round_length-requires-clause-within : goal.round_length-requires-clause-within
round_length-requires-clause-within c =
    (place_leaves (rows_of c.args.self.now.tables.now) c.args.self.now.next.items c.args.self.now.node.items c.args.counts.now c.args.places.now c.requires.numbered c.requires.counts c.requires.places c.args.row
    c.requires.row c.if-counts-row-gt0.true).0

pub returns-then-counts-row-gt0 : goal.returns-then-counts-row-gt0
returns-then-counts-row-gt0 c =
    let t = rows_of c.args.self.now.tables.now in
    let ok = meets t c.args.self.now.next.items c.args.self.now.node.items c.requires.numbered c.requires.ends c.requires.once in
    ap (λ n. not (n == get_or c.args.counts.now (c.args.row) 0)) c.round_length.ensures
    ∙ sym (ap not (split_is t c.args.self.now.next.items c.args.self.now.node.items c.args.counts.now c.args.places.now c.requires.numbered c.requires.counts c.requires.places ok c.args.row c.requires.row
    c.if-counts-row-gt0.true))

pub returns-else-counts-row-gt0 : goal.returns-else-counts-row-gt0
returns-else-counts-row-gt0 c =
    let t = rows_of c.args.self.now.tables.now in
    le-ltb 0 (get_or c.args.counts.now (c.args.row) 0) c.if-counts-row-gt0.false
    ∙ sym (ap not (split_none t c.args.self.now.next.items c.args.self.now.node.items c.args.counts.now c.requires.numbered c.requires.counts c.args.row c.requires.row c.if-counts-row-gt0.false))
