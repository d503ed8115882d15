use Rattle.std.proofs.Common.{arith, ap, sym, subst, refl, ℕ, Option}
use Rattle.std.specs.Prelude.{IsNone}
use Rattle.code_laws.specs.Code.{Code, component_count}
use Rattle.pemb_file.specs.Served.{contents_of_view}
use Rattle.file_laws.proofs.Fits.{components_same}
use Rattle.navigate.proofs.Facts.{w}
use Rattle.pemb_file.proofs.PlaceLaws.{component_at}
use Rattle.navigate.proofs.places.start_at.Goals as goal

pub unreachable-requires : goal.unreachable-requires
unreachable-requires g c =
    let m = contents_of_view c.args.served in
    let none = c.start_of.ensures.none.0 (subst (λ (o : Option ℕ). IsNone o) (sym c.in-None.is) refl) in
    let same = ap (λ (k : Code). component_count k) c.code-code.ensures.code in
    let both = components_same m (w m c.args.served.whole) in
    let l = component_at m c.args.served.whole c.args.j c.requires in
    absurd (omega (arith, none, same, both, l, c.place_order-component.ensures.component))
