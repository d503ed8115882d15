use Rattle.std.proofs.Common.{arith, ap, sym, ◌∙◌, ◌∷◌, [], ◌++◌}
use Rattle.std.specs.Prelude.{map, take}
use Rattle.std.proofs.Common.{get_or}
use Rattle.std.proofs.lemmas.List.{take_more, map-append}
use Rattle.file_laws.specs.MapOfFile.{face_at_place}
use Rattle.pemb_file.specs.Served.{contents_of_view}
use Rattle.navigate.proofs.ClearLaws.{item_in, later_in}
use Rattle.navigate.proofs.neighbours.put_down_faces.Goals as goal

pub face_in-requires : goal.face_in-requires
face_in-requires g c =
    let i = c.loop-place.invariant in
    i.low _ (item_in c.args.places.now c.loop-place.place-index (omega arith))

pub loop-place-preserved : goal.loop-place-preserved
loop-place-preserved g c =
    let m = contents_of_view c.args.served in
    let i = c.loop-place.invariant in
    let xs = c.args.places.now in
    let at = c.loop-place.place-index in
    let face = face_at_place m in
    record {
      low = λ j there. i.low j (later_in xs at j (omega arith) there);
      faces = c.push.ensures.items ∙ ap (λ zs. zs ++ c.face_in.result.0 ∷ []) i.faces ∙ ap (λ f. map face (take at xs) ++ f ∷ []) c.face_in.ensures.face
          ∙ sym (ap (map face) (take_more xs at 0 (omega arith)) ∙ map-append face (take at xs) (get_or xs at 0 ∷ []));
      grows = omega (arith, i.grows, c.face_in.ensures.grows);
      cost = omega (arith, i.cost, c.face_in.ensures.cost);
    }
