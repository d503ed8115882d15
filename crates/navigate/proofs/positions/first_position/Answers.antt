use Rattle.std.proofs.Common.{arith, ap, sym, ◌∙◌, ◌+◌, List, ℕ, length, Some, None}
use Rattle.std.specs.Prelude.{slice_index}
use mathlib.Core.Bool.{beq}
use Rattle.bit_words.specs.Digits.{digits}
use Rattle.turan_code.specs.TuranView.{code_of_view}
use Rattle.id_names.specs.Views.{ids_of}
use Rattle.file_laws.specs.MapOfFile.{signed_at}
use Rattle.code_laws.specs.Code.{mate}
use Rattle.pemb_file.specs.Served.{contents_of_view}
use Rattle.navigate.proofs.Facts.{digits_view, digits_edges, few_edges, forward_many, edge_known, edge_missing, first_edge}
use Rattle.std.specs.Prelude.{if◌then◌else◌}
use Rattle.navigate.proofs.positions.first_position.Goals as goal

pub returns-in_default-clause-known : goal.returns-in_default-clause-known
returns-in_default-clause-known g c = edge_known (contents_of_view c.args.served) (ids_of c.edges.result.now) c.edge.result.0 c.args.edge None c.edges.ensures c.edge.ensures c.in_default.ensures.found

pub returns-in_default-clause-cost : goal.returns-in_default-clause-cost
returns-in_default-clause-cost g c =
    let d = digits_edges (contents_of_view c.args.served) c.args.served.whole in
    let same = ap (λ (xs : List ℕ). digits (length xs + 2)) c.edges.ensures in
    omega (arith, d, same, c.in_default.ensures.cost)

pub unreachable-requires : goal.unreachable-requires
unreachable-requires g c =
    let m = contents_of_view c.args.served in
    let many = ap (λ (xs : List ℕ). length xs) c.edges.ensures in
    edge_missing m c.args.served.whole (code_of_view c.code-code.result.now) c.in-Some.number c.first_of_edge.result c.code-code.ensures.code c.in_default-first_of_edge.is c.first_of_edge.ensures.none (omega (arith, many, c.in-Some.ensures.found.0))

pub forward-forward-requires : goal.forward-forward-requires
forward-forward-requires g c =
    let many = ap (λ (xs : List ℕ). length xs) c.edges.ensures in
    let all = forward_many (contents_of_view c.args.served) c.args.served.whole in
    omega (arith, many, all, c.in-Some.ensures.found.0)

pub returns-clause-known : goal.returns-clause-known
returns-clause-known g c = edge_known (contents_of_view c.args.served) (ids_of c.edges.result.now) c.edge.result.0 c.args.edge (Some c.in-Some.number) c.edges.ensures c.edge.ensures c.in-Some.ensures.found

pub returns-clause-edge : goal.returns-clause-edge
returns-clause-edge g c =
    let m = contents_of_view c.args.served in
    ap (λ b. signed_at m (if beq c.forward-forward.result b then c.in-Some-first_of_edge.first else mate m.code c.in-Some-first_of_edge.first)) c.is_forward.ensures
    ∙ first_edge m c.args.served.whole (code_of_view c.code-code.result.now) c.in-Some.number c.in-Some-first_of_edge.first c.forward-forward.result c.args.edge c.code-code.ensures.code
    c.in-Some-first_of_edge.ensures.position c.forward-forward.ensures.forward (ap (λ (xs : List ℕ). slice_index xs c.in-Some.number) (sym c.edges.ensures) ∙ c.in-Some.ensures.found.1 ∙ c.edge.ensures)

pub returns-clause-cost : goal.returns-clause-cost
returns-clause-cost g c =
    let m = contents_of_view c.args.served in
    let d = digits_edges m c.args.served.whole in
    let k = digits_view m c.args.served.whole (code_of_view c.code-code.result.now) c.code-code.ensures.code in
    let same = ap (λ (xs : List ℕ). digits (length xs + 2)) c.edges.ensures in
    omega (arith, d, k, same, c.in-Some.ensures.cost, c.first_of_edge.ensures.cost, c.forward-forward.ensures.one_step)

pub overflow_cast-number : goal.overflow_cast-number
overflow_cast-number g c =
    let many = ap (λ (xs : List ℕ). length xs) c.edges.ensures in
    let few = few_edges (contents_of_view c.args.served) c.args.served.whole in
    omega (arith, many, few, c.in-Some.ensures.found.0)
