use Rattle.std.proofs.Common.{arith, ap, sym, ◌∙◌, ◌<◌, ◌≡◌, ◌-◌, ℕ, length, subst, Option}
use Rattle.std.specs.Prelude.{slice_index, IsNone}
use Rattle.turan_code.specs.TuranView.{code_of_view}
use Rattle.code_laws.specs.Code.{Code, component_of}
use Rattle.code_laws.specs.Numbers.{node_count}
use Rattle.pemb_file.specs.Served.{contents_of_view}
use Rattle.file_laws.specs.MapOfFile.{joined_count}
use Rattle.navigate.proofs.Facts.{w, digits_view}
use Rattle.navigate.proofs.Rings.{outer_place}
use Rattle.navigate.proofs.MapLists.{joined}
use Rattle.navigate.proofs.NodePlaces.{isolated_in, joined_in, component_in, first_node}
use Rattle.navigate.proofs.names.place_of_node.Goals as goal

pub overflow_sub-joined : goal.overflow_sub-joined
overflow_sub-joined g c =
    let m = contents_of_view c.args.served in
    let s = (w m c.args.served.whole).sizes.nodes in
    omega (arith, s, c.counts-counts.ensures.nodes, c.counts-counts.ensures.isolated)

pub isolated-requires : goal.isolated-requires
isolated-requires g c =
    omega (arith, c.requires, c.if-number-joined.true, c.counts-counts.ensures.nodes, c.counts-counts.ensures.isolated)

pub returns-then-number-joined-clause-within : goal.returns-then-number-joined-clause-within
returns-then-number-joined-clause-within g c =
    let m = contents_of_view c.args.served in
    let n = c.counts-counts.ensures.nodes in
    let i = c.counts-counts.ensures.isolated in
    let l = (w m c.args.served.whole).isolated (c.args.number - (c.counts-counts.result.nodes - c.counts-counts.result.isolated)) (omega (arith, c.requires, c.if-number-joined.true, n, i)) in
    omega (arith, l, c.isolated.ensures.place)

pub returns-then-number-joined-clause-face : goal.returns-then-number-joined-clause-face
returns-then-number-joined-clause-face g c =
    let m = contents_of_view c.args.served in
    let n = c.counts-counts.ensures.nodes in
    let i = c.counts-counts.ensures.isolated in
    let same : c.args.number - (c.counts-counts.result.nodes - c.counts-counts.result.isolated) ≡ c.args.number - joined_count m = omega (arith, n, i) in
    isolated_in m c.args.served.whole c.args.number c.isolated.result c.requires (omega (arith, c.if-number-joined.true, n, i)) (c.isolated.ensures.place ∙ ap (slice_index m.isolated) same)

pub place-requires : goal.place-requires
place-requires g c =
    let m = contents_of_view c.args.served in
    component_in m c.args.served.whole (code_of_view c.code-code.result.now) c.component_of.result c.code-code.ensures.code c.component_of.ensures.within

pub unreachable-requires : goal.unreachable-requires
unreachable-requires g c =
    let m = contents_of_view c.args.served in
    let none = c.first_of_node.ensures.none.0 (subst (λ (o : Option ℕ). IsNone o) (sym c.in-None.is) Rattle.std.proofs.Common.refl) in
    let same = ap (λ (k : Code). node_count k) c.code-code.ensures.code in
    let j = joined m c.args.served.whole in
    absurd (omega (arith, none, same, j, c.if-number-joined.false, c.counts-counts.ensures.nodes, c.counts-counts.ensures.isolated))

pub returns-clause-within : goal.returns-clause-within
returns-clause-within g c =
    let m = contents_of_view c.args.served in
    let l = component_in m c.args.served.whole (code_of_view c.code-code.result.now) c.component_of.result c.code-code.ensures.code c.component_of.ensures.within in
    let p = outer_place m c.args.served.whole c.component_of.result l in
    omega (arith, p, c.place.ensures.place)

pub returns-clause-face : goal.returns-clause-face
returns-clause-face g c =
    let m = contents_of_view c.args.served in
    let code = c.code-code.ensures.code in
    let p = c.in-Some.p in
    let p_in = subst (λ (k : Code). p < length k.a) code c.in-Some.ensures.within in
    let at = first_node m (code_of_view c.code-code.result.now) c.args.number p code c.in-Some.ensures.position in
    let component = c.component_of.ensures.component ∙ ap (λ (k : Code). component_of k p) code in
    joined_in m c.args.served.whole c.args.number p c.place.result c.requires (omega (arith, c.if-number-joined.false, c.counts-counts.ensures.nodes, c.counts-counts.ensures.isolated)) p_in at
    (c.place.ensures.place ∙ ap (slice_index m.places) component)

pub returns-clause-cost : goal.returns-clause-cost
returns-clause-cost g c =
    let d = digits_view (contents_of_view c.args.served) c.args.served.whole (code_of_view c.code-code.result.now) c.code-code.ensures.code in
    omega (arith, d, c.in-Some.ensures.cost, c.component_of.ensures.cost, c.place.ensures.one_step)
