use Rattle.std.specs.Prelude.{slice_index, map, find}
use Rattle.std.proofs.Common.{arith, sym, ◌∙◌, ap, subst, ◌≡◌, ◌<◌, ◌+◌, ◌==◌, ℕ, true, Some, None, length, refl}
use Rattle.std.proofs.lemmas.List.{length-map}
use Rattle.std.proofs.lemmas.Bool.{eq-eqb, ne_eqb}
use Rattle.scratch_region.specs.Numbers.{numbers_of}
use Rattle.plane_model.specs.Sets.{has}
use Rattle.plane_model.specs.Lists.{face_edges}
use Rattle.file_laws.specs.Contents.{Contents}
use Rattle.file_laws.specs.MapOfFile.{signed_at, face_at_place}
use Rattle.pemb_file.specs.Served.{contents_of_view}
use Rattle.navigate.specs.Bound.{map_with, line_digits}
use Rattle.navigate.specs.Beside.{place_across}
use Rattle.navigate.specs.FaceWalk as rings
use Rattle.navigate.specs.FaceWalk.{face_positions}
use Rattle.navigate.specs.declared.face_rings.FaceWalk.{FaceWalk}
use Rattle.navigate.proofs.FaceLaws.{rest-is, face_cleared_cost}
use Rattle.navigate.proofs.WithinLaws.{face-in}
use Rattle.face_hops.proofs.Ahead.{found_here, passed_by, none_left, small_number, goes_on_at, some_ahead}
use Rattle.face_hops.proofs.Paid.{round_begun}
use Rattle.face_hops.proofs.walk.HopWalk.nearer.Goals as goal

-- what is known of the rings of the face at a place
edges_of : (m : Contents) (place : ℕ) (walk : FaceWalk) → rings.contents_in walk ≡ m → rings.rest walk ≡ face_edges (map_with m) (face_at_place m place) → map (signed_at m) (face_positions walk) ≡ face_edges (map_with m) (face_at_place m place)
edges_of m place walk first list = ap (λ (x : Contents). map (signed_at x) (face_positions walk)) (sym first) ∙ sym (rest-is walk) ∙ list

within_of : (m : Contents) (walk : FaceWalk) → rings.contents_in walk ≡ m → (x : ℕ) → has (face_positions walk) x ≡ true → x < length m.code.a
within_of m walk first x there = subst (λ (y : Contents). x < length y.code.a) first (face-in walk x there)

pub loop-p-init : goal.loop-p-init
loop-p-init g c =
    let v = c.args.self.now in
    let m = contents_of_view v.served in
    let walk = c.rings_at-rings.result in
    let first = c.rings_at-rings.ensures.contents in
    let edges = edges_of m v.place walk first c.rings_at-rings.ensures.list in
    record {
      same = first;
      left = refl;
      read = c.rings_at-rings.ensures.grows;
      paid = round_begun m (face_at_place m v.place) (length (face_positions walk)) (length (rings.rest walk)) c.args.steps.now c.rings_at-rings.new.steps (sym (length-map (face_positions walk) (signed_at m)) ∙ ap length edges) (ap length c.rings_at-rings.ensures.list)
          c.rings_at-rings.ensures.cost;
    }

pub overflow_add-get : goal.overflow_add-get
overflow_add-get g c =
    let v = c.args.self.now in
    let m = contents_of_view v.served in
    let many = ap (λ (x : Contents). length x.faces) (c.in-Some.ensures.contents ∙ c.loop-p.invariant.same) in
    let small = small_number m v.served.whole v.to c.place_across-across.result (numbers_of v.distances) v.right (omega (arith, many, c.place_across-across.ensures.within)) in
    omega (arith, small, c.get.ensures)

pub returns-then-get-number-clause-way : goal.returns-then-get-number-clause-way
returns-then-get-number-clause-way g c =
    let v = c.args.self.now in
    let m = contents_of_view v.served in
    let i = c.loop-p.invariant in
    let ds = numbers_of v.distances in
    let walk = c.rings_at-rings.result in
    let q = c.place_across-across.result in
    let number = c.get-number.result in
    let first = c.rings_at-rings.ensures.contents in
    let at : rings.contents_in c.pass.new.self ≡ m = c.in-Some.ensures.contents ∙ i.same in
    let across = c.place_across-across.ensures.place ∙ ap (λ (x : Contents). place_across x c.in-Some.p) at in
    let test : (slice_index ds q + 1 == number) ≡ true = eq-eqb (slice_index ds q + 1) number (omega (arith, c.get.ensures)) in
    let here = found_here m (λ x. slice_index ds x + 1 == number) (face_positions c.loop-p.rings) (face_positions c.pass.new.self) c.in-Some.p q c.in-Some.ensures.next across test in
    let all : find (λ x. slice_index ds x + 1 == slice_index ds v.place) (map (place_across m) (face_positions walk)) ≡ Some q
    = ap (λ n. find (λ x. slice_index ds x + 1 == n) (map (place_across m) (face_positions walk))) (sym c.get-number.ensures) ∙ sym i.left ∙ here in
    (goes_on_at m v.served.whole v.to v.place ds (face_positions walk) v.right v.place_in (within_of m walk first) (edges_of m v.place walk first c.rings_at-rings.ensures.list) q c.requires all).1

pub returns-then-get-number-clause-paid : goal.returns-then-get-number-clause-paid
returns-then-get-number-clause-paid g c =
    let v = c.args.self.now in
    let m = contents_of_view v.served in
    let i = c.loop-p.invariant in
    let at : rings.contents_in c.pass.new.self ≡ m = c.in-Some.ensures.contents ∙ i.same in
    let paid = face_cleared_cost m (face_positions c.loop-p.rings) (face_positions c.pass.new.self) c.in-Some.p c.loop-p.steps c.pass.new.steps c.place_across-across.new.steps _ c.in-Some.ensures.next i.paid
    (omega (arith, ap line_digits i.same, c.in-Some.ensures.cost.1)) (omega (arith, ap line_digits at, c.place_across-across.ensures.cost)) in
    omega (arith, paid)

pub loop-p-preserved : goal.loop-p-preserved
loop-p-preserved g c =
    let v = c.args.self.now in
    let m = contents_of_view v.served in
    let i = c.loop-p.invariant in
    let ds = numbers_of v.distances in
    let q = c.place_across-across.result in
    let number = c.get-number.result in
    let at : rings.contents_in c.pass.new.self ≡ m = c.in-Some.ensures.contents ∙ i.same in
    let across = c.place_across-across.ensures.place ∙ ap (λ (x : Contents). place_across x c.in-Some.p) at in
    let test = ne_eqb (slice_index ds q + 1) number (λ e. c.if-get-number.false (omega (arith, e, c.get.ensures))) in
    let past = passed_by m (λ x. slice_index ds x + 1 == number) (face_positions c.loop-p.rings) (face_positions c.pass.new.self) c.in-Some.p q c.in-Some.ensures.next across test in
    record {
      same = at;
      left = past ∙ i.left;
      read = omega (arith, i.read, c.in-Some.ensures.cost.0, c.place_across-across.ensures.some_steps);
      paid = face_cleared_cost m (face_positions c.loop-p.rings) (face_positions c.pass.new.self) c.in-Some.p c.loop-p.steps c.pass.new.steps c.place_across-across.new.steps _ c.in-Some.ensures.next i.paid
          (omega (arith, ap line_digits i.same, c.in-Some.ensures.cost.1)) (omega (arith, ap line_digits at, c.place_across-across.ensures.cost));
    }

pub unreachable-requires : goal.unreachable-requires
unreachable-requires g c =
    let v = c.args.self.now in
    let m = contents_of_view v.served in
    let i = c.loop-p.invariant in
    let ds = numbers_of v.distances in
    let walk = c.rings_at-rings.result in
    let number = c.get-number.result in
    let first = c.rings_at-rings.ensures.contents in
    let none = none_left m (λ x. slice_index ds x + 1 == number) (face_positions c.loop-p.rings) c.in_default.ensures.next in
    let all : find (λ x. slice_index ds x + 1 == slice_index ds v.place) (map (place_across m) (face_positions walk)) ≡ None
    = ap (λ n. find (λ x. slice_index ds x + 1 == n) (map (place_across m) (face_positions walk))) (sym c.get-number.ensures) ∙ sym i.left ∙ none in
    some_ahead m v.served.whole v.to v.place ds (face_positions walk) v.right v.place_in (within_of m walk first) (edges_of m v.place walk first c.rings_at-rings.ensures.list) c.requires all
