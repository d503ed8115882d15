use Rattle.std.specs.Prelude.{map, nat_eq}
use Rattle.std.specs.List.{IsDistinct}
use Rattle.std.proofs.Common.{List, subst, sym}
use Rattle.map_build.specs.declared.standing.Standing.{Standing}
use Rattle.map_build.proofs.Standings.{apart_nodes}
use Rattle.map_build.proofs.places.FacePlaces.isolated_nodes.Goals as goal

pub in_order-requires : goal.in_order-requires
in_order-requires c =
    let P : List Standing → Type 0 = λ ss. IsDistinct nat_eq (map (λ s. s.key) ss) in
    record { apart = subst P (sym c.in_ok-standing.ensures) (apart_nodes c.args.self.now.faces.now c.args.nodes.now c.requires.apart) }
