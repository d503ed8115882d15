use Rattle.std.proofs.Common.{[], ◌∷◌, refl, sym, ap, ◌∙◌, subst}
use Rattle.orbits.specs.Components as sets
use Rattle.plane_model.specs.PlaneMap.{signed_edges}
use Rattle.plane_model.specs.Sets.{put, rising}
use Rattle.rotation_check.specs.Darts.{rotation_rows}
use Rattle.spanning_pair.specs.Rotations.{AreComponentStarts}
use Rattle.spanning_pair.proofs.Computed.{all_below, is_connected, passes_starts, place_below, starts_from_test}
use Rattle.spanning_pair.proofs.tests.the_rim_of_a_wheel_is_its_tree.Goals as goal

pub tour-requires : goal.tour-requires
unfolding all_below sets.grown_by is_connected passes_starts place_below put rising signed_edges
tour-requires g c = record { starts = subst (λ r. AreComponentStarts r (0 ∷ [])) (sym (c.in_ok-rotation.ensures ∙ ap rotation_rows c.in_ok-given.ensures.rows)) (starts_from_test _ (0 ∷ []) refl) }
