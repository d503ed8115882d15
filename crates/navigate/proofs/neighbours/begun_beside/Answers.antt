use Rattle.std.proofs.Common.{arith, refl, sym, ◌∙◌, ap, subst, ◌≡◌, ◌<◌, ◌≤◌, ◌+◌, ◌*◌, ◌++◌, ◌==◌, ℕ, true, length, length-append}
use Rattle.std.specs.Prelude.{map, take, drop}
use Rattle.std.proofs.lemmas.List.{length-map}
use Rattle.scratch_region.specs.Marks.{is_marked}
use Rattle.plane_model.specs.Sets.{has}
use Rattle.plane_model.specs.Lists.{face_edges}
use Rattle.file_laws.specs.Contents.{Contents}
use Rattle.file_laws.specs.MapOfFile.{signed_at, face_at_place}
use Rattle.pemb_file.specs.Served.{contents_of_view}
use Rattle.navigate.specs.Bound.{map_with, line_digits, line_words}
use Rattle.navigate.specs.Beside.{place_across, adjacent_places}
use Rattle.navigate.specs.Holes.{components_between, outer_positions}
use Rattle.navigate.specs.OrbitWalk.{positions_left}
use Rattle.navigate.specs.FaceWalk.{contents_in, face_positions, pass_price}
use Rattle.navigate.specs.AdjacentWalk.{rest, allowance, step_price}
use Rattle.navigate.proofs.Facts.{digits_components}
use Rattle.navigate.proofs.FaceLaws.{rest-is}
use Rattle.navigate.proofs.HoleLaws.{AreAt, in_order}
use Rattle.navigate.proofs.ShellLaws.{face_list}
use Rattle.navigate.proofs.WithinLaws.{face-in}
use Rattle.navigate.proofs.AcrossLaws.{few_places, adjacent_named}
use Rattle.navigate.proofs.BegunLaws.{IsSplit, split, split-length, IsBegun, begun_marked, taken_in, standing_in, all_named, given_is, across_low, given-low, begun_paid}
use Rattle.navigate.proofs.neighbours.begun_beside.Goals as goal

pub enter_turned-requires-clause-marked : goal.enter_turned-requires-clause-marked
enter_turned-requires-clause-marked g c = λ j there.
    let m = contents_of_view c.args.served in
    let h = c.args.served.whole in
    let place = c.args.place in
    let whole = c.settled-whole.result in
    let ring = c.shell_places-before.result.0 in
    let k = c.shell_places-before.result.1 in
    let xs = c.as_slice.result.now in
    let ps = face_positions whole in
    let first : contents_in whole ≡ m = c.settled-whole.ensures.contents in
    let within : (x : ℕ) → has ps x ≡ true → x < length m.code.a = λ x there. subst (λ (y : Contents). x < length y.code.a) first (face-in whole x there) in
    let outer = outer_positions m (components_between m c.components_below-hole.result c.components_to-end.result) in
    let low = across_low m h ps (positions_left ring) outer xs k c.settled-whole.ensures.positions
    (subst (λ zs. 0 < length zs → drop k zs ++ take k zs ≡ map (place_across m) (positions_left ring)) (sym c.as_slice.ensures.value) c.shell_places-before.ensures.places) within j there in
    omega (arith, low, c.requires.room)

pub put_down_faces-requires-clause-low : goal.put_down_faces-requires-clause-low
put_down_faces-requires-clause-low g c = λ j there.
    let m = contents_of_view c.args.served in
    let h = c.args.served.whole in
    let place = c.args.place in
    let whole = c.settled-whole.result in
    let ring = c.shell_places-before.result.0 in
    let k = c.shell_places-before.result.1 in
    let xs = c.as_slice.result.now in
    let ps = face_positions whole in
    let first : contents_in whole ≡ m = c.settled-whole.ensures.contents in
    let within : (x : ℕ) → has ps x ≡ true → x < length m.code.a = λ x there. subst (λ (y : Contents). x < length y.code.a) first (face-in whole x there) in
    let mid = face_positions c.left_of-left.result in
    let outer = outer_positions m (components_between m c.components_below-hole.result c.components_to-end.result) in
    let s : IsSplit m ps mid (drop k xs ++ take k xs) = split m ps (positions_left ring) outer mid xs k c.is_empty.result c.settled-whole.ensures.positions c.left_of-left.ensures.positions
    (c.is_empty.ensures ∙ ap (λ zs. length zs == 0) (sym c.as_slice.ensures.value))
    (subst (λ zs. 0 < length zs → drop k zs ++ take k zs ≡ map (place_across m) (positions_left ring)) (sym c.as_slice.ensures.value) c.shell_places-before.ensures.places) in
    let given = c.enter_turned.new.given.items in
    given-low m h place ps mid xs given k s c.enter_turned.ensures.places within j (ap (λ zs. has zs j) (sym c.as_slice-2.ensures.value) ∙ there)

pub begun-requires-clause-places : goal.begun-requires-clause-places
begun-requires-clause-places g c =
    let m = contents_of_view c.args.served in
    let h = c.args.served.whole in
    let place = c.args.place in
    let whole = c.settled-whole.result in
    let ring = c.shell_places-before.result.0 in
    let k = c.shell_places-before.result.1 in
    let xs = c.as_slice.result.now in
    let ps = face_positions whole in
    let first : contents_in whole ≡ m = c.settled-whole.ensures.contents in
    let within : (x : ℕ) → has ps x ≡ true → x < length m.code.a = λ x there. subst (λ (y : Contents). x < length y.code.a) first (face-in whole x there) in
    let mid = face_positions c.left_of-left.result in
    let outer = outer_positions m (components_between m c.components_below-hole.result c.components_to-end.result) in
    let s : IsSplit m ps mid (drop k xs ++ take k xs) = split m ps (positions_left ring) outer mid xs k c.is_empty.result c.settled-whole.ensures.positions c.left_of-left.ensures.positions
    (c.is_empty.ensures ∙ ap (λ zs. length zs == 0) (sym c.as_slice.ensures.value))
    (subst (λ zs. 0 < length zs → drop k zs ++ take k zs ≡ map (place_across m) (positions_left ring)) (sym c.as_slice.ensures.value) c.shell_places-before.ensures.places) in
    let given = c.enter_turned.new.given.items in
    let left = face_positions c.to_unseen-next.new.ring in
    let o = contents_in c.to_unseen-next.new.ring in
    let at : o ≡ m = c.to_unseen-next.ensures.contents ∙ c.left_of-left.ensures.contents in
    let b : IsBegun m place ps left given c.to_unseen-next.result = begun_marked m (contents_in c.left_of-left.result) place ps mid left (drop k xs ++ take k xs) given c.to_unseen-next.result
    (is_marked c.enter_turned.new.marks) c.left_of-left.ensures.contents s c.enter_turned.ensures.places c.enter_turned.ensures.marks c.to_unseen-next.ensures.unseen c.to_unseen-next.ensures.stands
    (few_places m h place ps within) in
    taken_in m o place ps left given c.as_slice-3.result.now c.to_unseen-next.result at c.as_slice-3.ensures.value b

pub begun-requires-clause-standing : goal.begun-requires-clause-standing
begun-requires-clause-standing g c =
    let m = contents_of_view c.args.served in
    let h = c.args.served.whole in
    let place = c.args.place in
    let whole = c.settled-whole.result in
    let ring = c.shell_places-before.result.0 in
    let k = c.shell_places-before.result.1 in
    let xs = c.as_slice.result.now in
    let ps = face_positions whole in
    let first : contents_in whole ≡ m = c.settled-whole.ensures.contents in
    let within : (x : ℕ) → has ps x ≡ true → x < length m.code.a = λ x there. subst (λ (y : Contents). x < length y.code.a) first (face-in whole x there) in
    let mid = face_positions c.left_of-left.result in
    let outer = outer_positions m (components_between m c.components_below-hole.result c.components_to-end.result) in
    let s : IsSplit m ps mid (drop k xs ++ take k xs) = split m ps (positions_left ring) outer mid xs k c.is_empty.result c.settled-whole.ensures.positions c.left_of-left.ensures.positions
    (c.is_empty.ensures ∙ ap (λ zs. length zs == 0) (sym c.as_slice.ensures.value))
    (subst (λ zs. 0 < length zs → drop k zs ++ take k zs ≡ map (place_across m) (positions_left ring)) (sym c.as_slice.ensures.value) c.shell_places-before.ensures.places) in
    let given = c.enter_turned.new.given.items in
    let left = face_positions c.to_unseen-next.new.ring in
    let o = contents_in c.to_unseen-next.new.ring in
    let at : o ≡ m = c.to_unseen-next.ensures.contents ∙ c.left_of-left.ensures.contents in
    let b : IsBegun m place ps left given c.to_unseen-next.result = begun_marked m (contents_in c.left_of-left.result) place ps mid left (drop k xs ++ take k xs) given c.to_unseen-next.result
    (is_marked c.enter_turned.new.marks) c.left_of-left.ensures.contents s c.enter_turned.ensures.places c.enter_turned.ensures.marks c.to_unseen-next.ensures.unseen c.to_unseen-next.ensures.stands
    (few_places m h place ps within) in
    standing_in m o place ps left given c.as_slice-3.result.now c.to_unseen-next.result at c.as_slice-3.ensures.value b

pub returns-clause-list : goal.returns-clause-list
returns-clause-list g c =
    let m = contents_of_view c.args.served in
    let h = c.args.served.whole in
    let place = c.args.place in
    let whole = c.settled-whole.result in
    let ring = c.shell_places-before.result.0 in
    let k = c.shell_places-before.result.1 in
    let xs = c.as_slice.result.now in
    let ps = face_positions whole in
    let first : contents_in whole ≡ m = c.settled-whole.ensures.contents in
    let within : (x : ℕ) → has ps x ≡ true → x < length m.code.a = λ x there. subst (λ (y : Contents). x < length y.code.a) first (face-in whole x there) in
    let mid = face_positions c.left_of-left.result in
    let outer = outer_positions m (components_between m c.components_below-hole.result c.components_to-end.result) in
    let s : IsSplit m ps mid (drop k xs ++ take k xs) = split m ps (positions_left ring) outer mid xs k c.is_empty.result c.settled-whole.ensures.positions c.left_of-left.ensures.positions
    (c.is_empty.ensures ∙ ap (λ zs. length zs == 0) (sym c.as_slice.ensures.value))
    (subst (λ zs. 0 < length zs → drop k zs ++ take k zs ≡ map (place_across m) (positions_left ring)) (sym c.as_slice.ensures.value) c.shell_places-before.ensures.places) in
    let given = c.enter_turned.new.given.items in
    let left = face_positions c.to_unseen-next.new.ring in
    let o = contents_in c.to_unseen-next.new.ring in
    let at : o ≡ m = c.to_unseen-next.ensures.contents ∙ c.left_of-left.ensures.contents in
    let b : IsBegun m place ps left given c.to_unseen-next.result = begun_marked m (contents_in c.left_of-left.result) place ps mid left (drop k xs ++ take k xs) given c.to_unseen-next.result
    (is_marked c.enter_turned.new.marks) c.left_of-left.ensures.contents s c.enter_turned.ensures.places c.enter_turned.ensures.marks c.to_unseen-next.ensures.unseen c.to_unseen-next.ensures.stands
    (few_places m h place ps within) in
    let spot : AreAt m place c.components_below-hole.result c.components_to-end.result = record {
      within = c.components_to-end.ensures.within;
      before_from = c.components_below-hole.ensures.before;
      from_from = c.components_below-hole.ensures.from;
      before_to = c.components_to-end.ensures.before;
      from_to = c.components_to-end.ensures.from;
    } in
    let edges : map (signed_at m) ps ≡ face_edges (map_with m) (face_at_place m place) = ap (λ (x : Contents). map (signed_at x) ps) (sym first) ∙ sym (rest-is whole)
    ∙ face_list m h whole ring place c.components_below-hole.result c.components_to-end.result first c.shell_places-before.ensures.contents
    c.requires.place (in_order m place c.components_below-hole.result c.components_to-end.result c.components_below-hole.ensures.within spot) spot c.settled-whole.ensures.positions c.shell_places-before.ensures.list in
    let face = face_at_place m in
    let all = adjacent_places m place ps in
    let rest_is : rest c.begun.result ≡ map face (drop (length given) all) = c.begun.ensures.rest
    ∙ ap (λ (x : Contents). map (face_at_place x) (drop (length c.as_slice-3.result.now) (adjacent_places x place ps))) at ∙ ap (λ zs. map face (drop (length zs) all)) c.as_slice-3.ensures.value in
    ap (λ zs. zs ++ rest c.begun.result) (c.put_down_faces.ensures.faces ∙ ap (map face) c.as_slice-2.ensures.value) ∙ ap (λ zs. map face given ++ zs) rest_is
    ∙ all_named face (length given) all given b.taken ∙ adjacent_named m h place (face_at_place m place) ps c.requires.place refl within edges

pub returns-clause-given : goal.returns-clause-given
returns-clause-given g c =
    let m = contents_of_view c.args.served in
    let at : contents_in c.to_unseen-next.new.ring ≡ m = c.to_unseen-next.ensures.contents ∙ c.left_of-left.ensures.contents in
    given_is c.begun.result m c.enter_turned.new.given.items (c.begun.ensures.contents ∙ at) (c.begun.ensures.places ∙ c.as_slice-3.ensures.value)
    ∙ sym (c.put_down_faces.ensures.faces ∙ ap (map (face_at_place m)) c.as_slice-2.ensures.value)

pub returns-clause-marks : goal.returns-clause-marks
returns-clause-marks g c = λ j.
    c.enter_turned.ensures.marks j ∙ ap (λ zs. has zs j) (sym (c.begun.ensures.places ∙ c.as_slice-3.ensures.value))

pub returns-clause-least : goal.returns-clause-least
returns-clause-least g c =
    let m = contents_of_view c.args.served in
    let faces = ap length (c.put_down_faces.ensures.faces ∙ ap (map (face_at_place m)) c.as_slice-2.ensures.value) ∙ length-map c.enter_turned.new.given.items (face_at_place m) in
    let list = ap length c.as_slice.ensures.value in
    omega (
      arith,
      faces,
      list,
      c.enter_turned.ensures.few,
      c.components_below-hole.ensures.grows,
      c.components_to-end.ensures.grows,
      c.shell_places-before.ensures.least,
      c.settled-whole.ensures.grows,
      c.left_of-left.ensures.grows,
      c.put_down_faces.ensures.grows,
      c.to_unseen-next.ensures.grows,
    )

pub returns-clause-paid : goal.returns-clause-paid
returns-clause-paid g c =
    let m = contents_of_view c.args.served in
    let h = c.args.served.whole in
    let place = c.args.place in
    let whole = c.settled-whole.result in
    let ring = c.shell_places-before.result.0 in
    let k = c.shell_places-before.result.1 in
    let xs = c.as_slice.result.now in
    let ps = face_positions whole in
    let first : contents_in whole ≡ m = c.settled-whole.ensures.contents in
    let within : (x : ℕ) → has ps x ≡ true → x < length m.code.a = λ x there. subst (λ (y : Contents). x < length y.code.a) first (face-in whole x there) in
    let mid = face_positions c.left_of-left.result in
    let outer = outer_positions m (components_between m c.components_below-hole.result c.components_to-end.result) in
    let s : IsSplit m ps mid (drop k xs ++ take k xs) = split m ps (positions_left ring) outer mid xs k c.is_empty.result c.settled-whole.ensures.positions c.left_of-left.ensures.positions
    (c.is_empty.ensures ∙ ap (λ zs. length zs == 0) (sym c.as_slice.ensures.value))
    (subst (λ zs. 0 < length zs → drop k zs ++ take k zs ≡ map (place_across m) (positions_left ring)) (sym c.as_slice.ensures.value) c.shell_places-before.ensures.places) in
    let given = c.enter_turned.new.given.items in
    let spot : AreAt m place c.components_below-hole.result c.components_to-end.result = record {
      within = c.components_to-end.ensures.within;
      before_from = c.components_below-hole.ensures.before;
      from_from = c.components_below-hole.ensures.from;
      before_to = c.components_to-end.ensures.before;
      from_to = c.components_to-end.ensures.from;
    } in
    let edges : map (signed_at m) ps ≡ face_edges (map_with m) (face_at_place m place) = ap (λ (x : Contents). map (signed_at x) ps) (sym first) ∙ sym (rest-is whole)
    ∙ face_list m h whole ring place c.components_below-hole.result c.components_to-end.result first c.shell_places-before.ensures.contents
    c.requires.place (in_order m place c.components_below-hole.result c.components_to-end.result c.components_below-hole.ensures.within spot) spot c.settled-whole.ensures.positions c.shell_places-before.ensures.list in
    let left = face_positions c.to_unseen-next.new.ring in
    let o = contents_in c.to_unseen-next.new.ring in
    let at : o ≡ m = c.to_unseen-next.ensures.contents ∙ c.left_of-left.ensures.contents in
    let listed = length (c.put_down_faces.new.faces.items ++ rest c.begun.result) in
    let walked : length (face_edges (map_with m) (face_at_place m place)) ≡ length ps = ap length (sym edges) ∙ length-map ps (signed_at m) in
    let shell = ap length c.settled-whole.ensures.positions ∙ length-append (positions_left ring) outer in
    let long = split-length m ps mid xs k s in
    let few = digits_components m h in
    let put = ap length c.as_slice-2.ensures.value in
    let put_paid : (3 * line_digits m + 20) * length c.as_slice-2.result.now ≡ (3 * line_digits m + 20) * length given = ap (λ n. (3 * line_digits m + 20) * n) put in
    let to : c.to_unseen-next.new.steps + pass_price m * length left ≤ c.put_down_faces.new.steps + (pass_price m * length mid + (12 * line_digits m + 121))
    = subst (λ (x : Contents). c.to_unseen-next.new.steps + pass_price x * length left ≤ c.put_down_faces.new.steps + (pass_price x * length mid + (12 * line_digits x + 121))) c.left_of-left.ensures.contents c.to_unseen-next.ensures.paid in
    let fits = begun_paid m h ps (length (positions_left ring)) (length given) (length mid) (length left) listed c.args.steps.now c.settled-whole.new.steps c.left_of-left.new.steps c.put_down_faces.new.steps c.to_unseen-next.new.steps
    within (omega (arith, shell)) (omega (arith, long, c.enter_turned.ensures.few)) c.to_unseen-next.ensures.shorter
    (omega (arith, few, c.components_below-hole.ensures.cost, c.components_to-end.ensures.cost, c.shell_places-before.ensures.cost, c.settled-whole.ensures.cost)) c.left_of-left.ensures.cost
    (omega (arith, put_paid, c.put_down_faces.ensures.cost)) to in
    let allowed : allowance c.begun.result ≡ step_price m * length left + pass_price m * length ps = c.begun.ensures.paid ∙ ap (λ (x : Contents). step_price x * length left + pass_price x * length ps) at in
    let words = ap (λ (x : ℕ). line_words m x listed) walked in
    omega (arith, fits, allowed, words)
