use Rattle.std.proofs.Common.{arith, ◌∙◌, sym}
use Rattle.pemb_file.specs.Served.{contents_of_view}
use Rattle.navigate.proofs.Rings.{outer_in, shell_in, outer_place}
use Rattle.navigate.proofs.positions.place_of_ring.Goals as goal

pub place-requires : goal.place-requires
place-requires g c =
    let r = c.requires in
    outer_in (contents_of_view c.args.served) c.args.served.whole r.0 c.in-Outer.component r.1 (sym c.in-Outer.is ∙ r.2)

pub returns-in-Outer-clause-within : goal.returns-in-Outer-clause-within
returns-in-Outer-clause-within g c =
    let m = contents_of_view c.args.served in
    let r = c.requires in
    let l = outer_in m c.args.served.whole r.0 c.in-Outer.component r.1 (sym c.in-Outer.is ∙ r.2) in
    let place = outer_place m c.args.served.whole c.in-Outer.component l in
    omega (arith, place, c.place.ensures.place)

pub returns-in-Shell-clause-within : goal.returns-in-Shell-clause-within
returns-in-Shell-clause-within g c =
    let r = c.requires in
    let l = shell_in (contents_of_view c.args.served) c.args.served.whole r.0 c.in-Shell.shell r.1 (sym c.in-Shell.is ∙ r.2) in
    omega (arith, l)
