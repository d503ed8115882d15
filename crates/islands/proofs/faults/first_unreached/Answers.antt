use Rattle.std.proofs.Common.{rules, ◌≡◌, ◌<◌, ◌≤◌, ◌∙◌, ℕ, length, false, arith, sym, ap, Some}
use Rattle.std.specs.Prelude.{slice_index}
use Rattle.topo_base.specs.SignedEdge.{edge_of}
use Rattle.topo_base.specs.declared.refusal.Refusal.TheVariants as refusal
use Rattle.islands.specs.Rounds.{is_marked}
use Rattle.islands.proofs.MapFaults.{unplaced_at, none_unplaced}
use Rattle.islands.proofs.faults.first_unreached.Goals as goal

pub returns-then-not-reached-component_of : goal.returns-then-not-reached-component_of
returns-then-not-reached-component_of c m e told =
    let number = slice_index c.args.parts.now.components.of_darts in
    let k : ℕ = c.loop-dart.dart-index in
    let h : k < length c.args.darts.now = c.loop-dart-test.true in
    let here : is_marked c.args.reached.now (number (slice_index c.args.darts.now k)) ≡ false = search rules in
    ap (λ x. Some (refusal.Unplaced x)) (c.edge.ensures ∙ ap edge_of c.id.ensures)
    ∙ sym (unplaced_at m c.args.rotation.now.edges c.args.darts.now number c.args.reached.now e told k h c.loop-dart.invariant here)

pub returns : goal.returns
returns c m e told =
    let past : length c.args.darts.now ≤ c.loop-dart.dart-index = c.loop-dart-test.false in
    sym (none_unplaced m c.args.rotation.now.edges c.args.darts.now (slice_index c.args.parts.now.components.of_darts) c.args.reached.now e told (λ j lt. c.loop-dart.invariant j (omega arith)))
