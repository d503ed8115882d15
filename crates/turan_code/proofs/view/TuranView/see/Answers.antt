use Rattle.std.proofs.Common.{◌≡◌, ◌+◌, ℕ, Bool, List, true, if◌then◌else◌, ap, sym, ◌∙◌, subst, arith}
use Rattle.bit_words.specs.Bits.{rank}
use Rattle.parens.specs.Matching.{is_open, mate_of}
use Rattle.code_laws.specs.Code.{is_tree, parens, place}
use Rattle.code_laws.specs.Numbers.{tree_edges, edge_of}
use Rattle.turan_code.specs.declared.view.TuranView.{TuranView}
use Rattle.turan_code.specs.TuranView.{code_of_view}
use Rattle.turan_code.proofs.Views.{edge_found, edge_below}
use Rattle.turan_code.proofs.view.TuranView.see.Goals as goal

-- the edge that a pair is of
edge_is : (v : TuranView) (kind : Bool) (p x opening pair : ℕ) (bits : List Bool) → kind ≡ is_tree (code_of_view v) p → x ≡ place (code_of_view v) kind p → bits ≡ parens (code_of_view v) kind
    → opening ≡ (if is_open (parens (code_of_view v) kind) x then x else mate_of (parens (code_of_view v) kind) x) → pair ≡ rank true bits opening
    → (if kind then pair else tree_edges (code_of_view v) + pair) ≡ edge_of (code_of_view v) p
edge_is v kind p x opening pair bits k e b o r =
    let code = code_of_view v in
    edge_found code v.sound kind p x pair (sym k) e (r ∙ ap (λ bits. rank true bits opening) b ∙ ap (rank true (parens code kind)) o)

pub edge_number-edge-requires-clause-tree : goal.edge_number-edge-requires-clause-tree
edge_number-edge-requires-clause-tree g c t =
    let v = c.args.self.now in
    let code = code_of_view v in
    let kind = c.is_tree-tree.result in
    let pair = c.opens_before-pair.result in
    let found = edge_is v kind c.args.p c.place_of-place.result c.opening-opening.result.0 pair _ c.is_tree-tree.ensures.kind c.place_of-place.ensures.place c.parens.ensures.parens c.opening-opening.ensures.opening c.opens_before-pair.ensures.opens in
    let below = edge_below code v.sound c.args.p c.requires in
    let edge : pair ≡ edge_of code c.args.p = subst (λ k. (if k then pair else tree_edges code + pair) ≡ edge_of code c.args.p) t found in
    omega (arith, edge, below, v.few)

pub edge_number-edge-requires-clause-other : goal.edge_number-edge-requires-clause-other
edge_number-edge-requires-clause-other g c t =
    let v = c.args.self.now in
    let code = code_of_view v in
    let kind = c.is_tree-tree.result in
    let pair = c.opens_before-pair.result in
    let found = edge_is v kind c.args.p c.place_of-place.result c.opening-opening.result.0 pair _ c.is_tree-tree.ensures.kind c.place_of-place.ensures.place c.parens.ensures.parens c.opening-opening.ensures.opening c.opens_before-pair.ensures.opens in
    let below = edge_below code v.sound c.args.p c.requires in
    let edge : tree_edges code + pair ≡ edge_of code c.args.p = subst (λ k. (if k then pair else tree_edges code + pair) ≡ edge_of code c.args.p) t found in
    omega (arith, edge, below, v.few)

pub returns-clause-seen : goal.returns-clause-seen
returns-clause-seen g c =
    let v = c.args.self.now in
    let code = code_of_view v in
    let kind = c.is_tree-tree.result in
    let pair = c.opens_before-pair.result in
    let found = edge_is v kind c.args.p c.place_of-place.result c.opening-opening.result.0 pair _ c.is_tree-tree.ensures.kind c.place_of-place.ensures.place c.parens.ensures.parens c.opening-opening.ensures.opening c.opens_before-pair.ensures.opens in
    let edge = c.edge_number-edge.ensures ∙ found in
    let below = edge_below code v.sound c.args.p c.requires in
    record {
      tree = c.is_tree-tree.ensures.kind;
      place = c.place_of-place.ensures.place;
      place_within = c.place_of-place.ensures.within;
      first = c.opening-opening.ensures.open;
      opening = c.opening-opening.ensures.opening;
      edge = edge;
      edge_within = omega (arith, edge, below);
    }
