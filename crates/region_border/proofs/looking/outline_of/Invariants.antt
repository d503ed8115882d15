use Rattle.std.proofs.Common.{◌≡◌, ◌≤◌, ◌+◌, ◌-◌, ◌*◌, true, length}
use Rattle.std.specs.Prelude.{slice_index}
use Rattle.plane_model.specs.PlaneMap.{signed_edges}
use Rattle.plane_model.specs.Answers.{has_signed_edge}
use Rattle.plane_model.specs.Border.{first_border, outline}
use Rattle.pemb_file.specs.Served.{contents_of_view}
use Rattle.navigate.specs.Bound.{map_with}
use Rattle.region_border.specs.Looked.{looked, passed_from}
use Rattle.region_border.specs.Prices.{look_price, border_price}
use Rattle.region_border.proofs.looking.outline_of.Given as goal

abbrev pub invariant-loop : goal.invariant-loop
invariant-loop g l =
    let c = contents_of_view l.served in
    let m = map_with c in
    let r = slice_index c.regions l.region in
    let left = length (signed_edges m) - l.counter in
    record {
      known : has_signed_edge m l.at ≡ true;
      goes : first_border left m r l.at ≡ outline m r l.fn.edge;
      some : l.fn.steps + 1 ≤ l.steps;
      paid : l.steps + (look_price c * length (passed_from left m r l.at) + border_price c) ≤ l.fn.steps + look_price c * length (looked m r l.fn.edge);
    }
