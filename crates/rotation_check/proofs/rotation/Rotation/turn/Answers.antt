use Rattle.std.proofs.Common.{◌≡◌, ◌∙◌, ◌<◌, ◌*◌, ap, subst, length, get_or, arith}
use Rattle.std.proofs.lemmas.Grind.{get_or_default_zero}
use Rattle.plane_model.specs.PlaneMap.{turn}
use Rattle.rotation_check.specs.Darts.{RotationRows, map_of_rotation, reverse_dart, signed_edge}
use Rattle.rotation_check.proofs.Turning.{turn_is, reverse-within}
use Rattle.rotation_check.proofs.rotation.Rotation.turn.Goals as goal

pub returns-clause-turn : goal.returns-clause-turn
returns-clause-turn c =
    let P : RotationRows → Type 0 = λ r. signed_edge r.edges c.index.result.now ≡ turn (map_of_rotation r) (signed_edge r.edges c.args.dart) in
    let edges = c.self.inside.tables.now.edges in
    let within : c.args.dart < 2 * length edges = rw (ap (λ r. length r.edges) c.self.view_is) c.requires in
    let inside = reverse-within edges c.args.dart within in
    let size = c.self.invariant.1.0 in
    let read : c.index.result.now ≡ get_or c.self.inside.next.items (reverse_dart c.args.dart) 0 =
    c.index.ensures ∙ ap (λ j. get_or c.self.inside.next.items j c.index.result.now) c.reversed.ensures ∙ get_or_default_zero c.self.inside.next.items (reverse_dart c.args.dart) c.index.result.now (omega arith) in
    subst P c.self.view_is (ap (signed_edge edges) read ∙ turn_is edges c.self.inside.next.items c.args.dart c.self.invariant.1 within)
