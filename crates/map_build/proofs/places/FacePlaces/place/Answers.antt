use Rattle.std.proofs.Common.{◌≡◌, sym, ◌∙◌, arith, refl, inl, inr, Bool, true, false}
use Rattle.std.proofs.lemmas.Bool.{ne_eqb}
use Rattle.std.proofs.lemmas.Option.{slice_get_within, get_or_from_slice_get}
use Rattle.plane_model.specs.Sets.{has}
use Rattle.id_names.proofs.NumberLaws.{number_of-at}
use Rattle.id_index.proofs.Indexes.{index_there, index_missing}
use Rattle.map_build.proofs.places.FacePlaces.place.Goals as goal

not_both : (b : Bool) → b ≡ false → b ≡ true → ⊥
not_both b f t = cc

pub overflow_add-result : goal.overflow_add-result
overflow_add-result c =
    let places = c.args.self.now in
    let inside = slice_get_within places.faces.now c.in-Some.number c.args.face (index_there places.faces.now places.numbers c.args.face c.in-Some.number places.index (sym c.row_of.ensures ∙ c.in-Some.is)) in
    omega (arith, inside, places.few)

pub returns : goal.returns
returns c =
    let places = c.args.self.now in
    let faces = places.faces.now in
    let at = index_there places.faces.now places.numbers c.args.face c.in-Some.number places.index (sym c.row_of.ensures ∙ c.in-Some.is) in
    let number = number_of-at faces c.in-Some.number c.args.face places.names.distinct (slice_get_within faces c.in-Some.number c.args.face at) (get_or_from_slice_get faces c.in-Some.number c.args.face 0 at) in
    rw (ne_eqb c.args.face 0 c.if-face-eq0.false, number) refl

pub unreachable-requires : goal.unreachable-requires
unreachable-requires c =
    let places = c.args.self.now in
    let missing = index_missing places.faces.now places.numbers c.args.face places.index (sym c.row_of.ensures ∙ c.in-None.is) in
    elim c.requires [
      | inl zero ↦ c.if-face-eq0.false zero
      | inr there ↦ not_both (has places.faces.now c.args.face) missing there
    ]
