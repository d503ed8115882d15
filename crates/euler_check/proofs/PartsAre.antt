-- When a rotation has parts.
use Rattle.std.proofs.Common.{◌≡◌, ◌&&◌, ◌∙◌, length, sym, ap, subst, Option, None}
use Rattle.std.specs.Prelude.{is_none}
use Rattle.topo_base.specs.declared.refusal.Refusal.{Refusal}
use Rattle.plane_model.specs.PlaneMap.{ring, rings}
use Rattle.plane_model.specs.Component.{component, components, is_plane}
use Rattle.plane_model.specs.Faces.{is_labelled}
use Rattle.plane_model.specs.Faults.{not_plane}
use Rattle.plane_model.proofs.AllFaults.{none-euler_fault, none-not_plane}
use Rattle.rotation_check.specs.Darts.{RotationRows, map_of_rotation}
use Rattle.euler_check.specs.Numbers.{Numbers, ArePartNumbers}
use Rattle.euler_check.specs.Parts.{AreParts, PartNumbers, parts_fault}
use Rattle.euler_check.proofs.Walking.{own_rows}

pub no_fault : (r : RotationRows) → is_none (parts_fault r) ≡ (is_labelled (map_of_rotation r) && is_plane (map_of_rotation r))
no_fault r = none-euler_fault (own_rows r)

-- what the checks and the numbers of both make
pub are_parts : (r : RotationRows) (p : PartNumbers) (mixed crossed : Option Refusal) (rs cs : Numbers) → is_none mixed ≡ is_labelled (map_of_rotation r) → mixed ≡ None → crossed ≡ not_plane (map_of_rotation r) → crossed ≡ None
    → p.rings ≡ rs → ArePartNumbers r.edges (ring (map_of_rotation r)) rs → rs.count ≡ length (rings (map_of_rotation r))
    → p.components ≡ cs → ArePartNumbers r.edges (component (map_of_rotation r)) cs → cs.count ≡ length (components (map_of_rotation r)) → AreParts r p
are_parts r p mixed crossed rs cs labelled no_mixed plane none rs_is rs_are rs_many cs_is cs_are cs_many =
    record {
      labelled = sym labelled ∙ ap is_none no_mixed;
      plane = sym (none-not_plane (map_of_rotation r)) ∙ ap is_none (sym plane ∙ none);
      ring_numbers = subst (ArePartNumbers r.edges (ring (map_of_rotation r))) (sym rs_is) rs_are;
      as_many_rings = ap (λ n. n.count) rs_is ∙ rs_many;
      component_numbers = subst (ArePartNumbers r.edges (component (map_of_rotation r))) (sym cs_is) cs_are;
      as_many_components = ap (λ n. n.count) cs_is ∙ cs_many;
    }
