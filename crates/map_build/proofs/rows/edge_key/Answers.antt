use Rattle.std.proofs.Common.{◌≡◌, ℕ, zero, suc, ◌/◌, ◌<◌, ◌≤◌, true, List, [], ◌∷◌, length, arith, nat_le}
use Rattle.std.specs.List.{list_all}
use Rattle.std.specs.Prelude.{slice_get, unwrap_or}
use Rattle.std.proofs.lemmas.Bool.{and_parts, leb-true}
use Rattle.topo_base.specs.declared.id.TheConstants.{LARGEST_ID}
use Rattle.plane_model.specs.declared.rows.EdgeRow.{EdgeRow}
use Rattle.plane_model.specs.PlaneMap.{no_edge}
use Rattle.map_build.proofs.rows.edge_key.Goals as goal

small : (edges : List EdgeRow) (i : ℕ) → list_all (λ e. nat_le e.id LARGEST_ID) edges ≡ true → i < length edges → (unwrap_or (slice_get edges i) no_edge).id ≤ LARGEST_ID
small [] i h l = absurd (omega (arith, l))
small (e ∷ es) zero h l = leb-true e.id LARGEST_ID (and_parts (nat_le e.id LARGEST_ID) (list_all (λ e. nat_le e.id LARGEST_ID) es) h).0
small (e ∷ es) (suc i) h l = small es i (and_parts (nat_le e.id LARGEST_ID) (list_all (λ e. nat_le e.id LARGEST_ID) es) h).1 (omega (arith, l))

pub overflow_mul-result : goal.overflow_mul-result
overflow_mul-result c =
    let within : c.args.dart / 2 < length c.args.edges.now = omega (arith, c.requires.dart) in
    omega (arith, c.edge_id.ensures, small c.args.edges.now (c.args.dart / 2) c.requires.ids within)

pub overflow_add-result : goal.overflow_add-result
overflow_add-result c =
    let within : c.args.dart / 2 < length c.args.edges.now = omega (arith, c.requires.dart) in
    omega (arith, c.edge_id.ensures, small c.args.edges.now (c.args.dart / 2) c.requires.ids within)
