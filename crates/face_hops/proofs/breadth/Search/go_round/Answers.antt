use Rattle.std.specs.Prelude.{slice_index, map}
use Rattle.std.proofs.Common.{arith, sym, ◌∙◌, ap, subst, ◌≡◌, ◌<◌, ◌+◌, ℕ, [], ◌∷◌, true, length, refl}
use Rattle.std.proofs.lemmas.List.{length-map}
use Rattle.scratch_region.specs.Numbers.{numbers_of}
use Rattle.plane_model.specs.Sets.{has}
use Rattle.plane_model.specs.Lists.{face_edges}
use Rattle.file_laws.specs.Contents.{Contents}
use Rattle.file_laws.specs.MapOfFile.{signed_at, face_at_place}
use Rattle.pemb_file.specs.Served.{contents_of_view}
use Rattle.navigate.specs.Bound.{map_with, line_digits}
use Rattle.navigate.specs.Beside.{place_across}
use Rattle.navigate.specs.FaceWalk as rings
use Rattle.navigate.specs.FaceWalk.{face_positions}
use Rattle.navigate.proofs.FaceLaws.{rest-is, face_cleared_cost}
use Rattle.navigate.proofs.Facts.{few_faces}
use Rattle.navigate.proofs.WithinLaws.{face-in}
use Rattle.face_hops.specs.Prices.{rounds_price}
use Rattle.face_hops.specs.Search.{IsSearch}
use Rattle.face_hops.proofs.MapFacts.{beside-sym}
use Rattle.face_hops.proofs.Searching.{tail_few}
use Rattle.face_hops.proofs.Rounding.{IsRounding, next_at, room_for, few_tail, end, queue_kept}
use Rattle.face_hops.proofs.Paid.{round_begun}
use Rattle.face_hops.proofs.Across.{started}
use Rattle.face_hops.proofs.breadth.Search.go_round.Goals as goal

pub get-place-requires : goal.get-place-requires
get-place-requires g c =
    let v = c.args.self.now in
    let m = contents_of_view v.served in
    let s = c.requires.searching in
    let few = tail_few m v.from (beside-sym m v.served.whole) (slice_index (numbers_of v.numbers)) (slice_index (numbers_of v.queue)) v.head v.tail s.search in
    let long = s.queue_long in
    omega (arith, few, long, c.requires.more)

pub get-number-requires : goal.get-number-requires
get-number-requires g c =
    let s = c.requires.searching in
    let low = s.search.place c.args.self.now.head c.requires.more in
    let long = s.numbers_long in
    omega (arith, low, long, c.get-place.ensures)

pub overflow_add-number : goal.overflow_add-number
overflow_add-number g c =
    let v = c.args.self.now in
    let m = contents_of_view v.served in
    let s = c.requires.searching in
    let few = s.search.few v.head c.requires.more in
    let tail = tail_few m v.from (beside-sym m v.served.whole) (slice_index (numbers_of v.numbers)) (slice_index (numbers_of v.queue)) v.head v.tail s.search in
    let all = few_faces m v.served.whole in
    let same = ap (slice_index (numbers_of v.numbers)) c.get-place.ensures in
    omega (arith, few, tail, all, same, c.requires.more, c.get-number.ensures)

pub rings_at-rings-requires : goal.rings_at-rings-requires
rings_at-rings-requires g c =
    let s = c.requires.searching in
    let low = s.search.place c.args.self.now.head c.requires.more in
    omega (arith, low, c.get-place.ensures)

pub loop-p-init : goal.loop-p-init
loop-p-init g c =
    let v = c.args.self.now in
    let m = contents_of_view v.served in
    let s = c.requires.searching in
    let low = s.search.place v.head c.requires.more in
    let walk = c.rings_at-rings.result in
    let place = c.get-place.result in
    let first : rings.contents_in walk ≡ m = c.rings_at-rings.ensures.contents in
    let edges : map (signed_at m) (face_positions walk) ≡ face_edges (map_with m) (face_at_place m place)
    = ap (λ (x : Contents). map (signed_at x) (face_positions walk)) (sym first) ∙ sym (rest-is walk) ∙ c.rings_at-rings.ensures.list in
    let within : (x : ℕ) → has (face_positions walk) x ≡ true → x < length m.code.a = λ x there. subst (λ (y : Contents). x < length y.code.a) first (face-in walk x there) in
    let begun = started m v.served.whole place (face_positions walk) (omega (arith, low, c.get-place.ensures)) within edges v.from v.head v.tail (numbers_of v.numbers) (numbers_of v.queue) s.search s.numbers_long s.queue_long c.requires.more (sym c.get-place.ensures) in
    record {
      served = refl;
      from = refl;
      head = refl;
      same = first;
      rounding = subst (λ x. IsRounding m v.from v.head place x (numbers_of v.numbers) (numbers_of v.queue) v.tail (map (place_across m) (face_positions walk))) (ap (λ x. x + 1) (sym c.get-number.ensures)) begun;
      kept = λ i l. refl;
      grows = c.rings_at-rings.ensures.grows;
      paid = round_begun m (face_at_place m place) (length (face_positions walk)) (length (rings.rest walk)) c.args.steps.now c.rings_at-rings.new.steps (sym (length-map (face_positions walk) (signed_at m)) ∙ ap length edges) (ap length c.rings_at-rings.ensures.list)
          c.rings_at-rings.ensures.cost;
    }

pub reach-self-requires-clause-room : goal.reach-self-requires-clause-room
reach-self-requires-clause-room g c =
    let v = c.args.self.now in
    let m = contents_of_view v.served in
    let i = c.loop-p.invariant in
    let many = ap (λ (x : Contents). length x.faces) (c.in-Some.ensures.contents ∙ i.same) in
    λ none. room_for m v.from (beside-sym m v.served.whole) v.head c.get-place.result _ c.place_across-across.result (numbers_of c.loop-p.self.numbers) (numbers_of c.loop-p.self.queue) c.loop-p.self.tail _ i.rounding (omega (arith, many, c.place_across-across.ensures.within)) none

pub reach-self-requires-clause-fits : goal.reach-self-requires-clause-fits
reach-self-requires-clause-fits g c =
    let v = c.args.self.now in
    let m = contents_of_view v.served in
    let few = few_tail m v.from (beside-sym m v.served.whole) v.head _ _ (numbers_of c.loop-p.self.numbers) (numbers_of c.loop-p.self.queue) c.loop-p.self.tail _ c.loop-p.invariant.rounding in
    let all = few_faces m v.served.whole in
    omega (arith, few, all)

pub loop-p-preserved : goal.loop-p-preserved
loop-p-preserved g c =
    let v = c.args.self.now in
    let m = contents_of_view v.served in
    let i = c.loop-p.invariant in
    let at : rings.contents_in c.pass.new.self ≡ m = c.in-Some.ensures.contents ∙ i.same in
    let across = c.place_across-across.ensures.place ∙ ap (λ (x : Contents). place_across x c.in-Some.p) at in
    let more = i.rounding.more in
    let before = ap line_digits i.same in
    let after = ap line_digits at in
    record {
      served = i.served;
      from = i.from;
      head = i.head;
      same = at;
      rounding = next_at m v.from (beside-sym m v.served.whole) v.head _ _ c.in-Some.p c.place_across-across.result (numbers_of c.loop-p.self.numbers) (numbers_of c.loop-p.self.queue) _ _ c.loop-p.self.tail _ (face_positions c.loop-p.rings) (face_positions c.pass.new.self) i.rounding
          c.in-Some.ensures.next across c.reach-self.ensures.numbers c.reach-self.ensures.queue c.reach-self.ensures.tail;
      kept = λ k l. queue_kept (numbers_of c.loop-p.self.numbers) (numbers_of c.loop-p.self.queue) _ c.loop-p.self.tail c.place_across-across.result k c.reach-self.ensures.queue (omega (arith, l, more)) ∙ i.kept k l;
      grows = omega (arith, i.grows, c.in-Some.ensures.cost.0, c.place_across-across.ensures.some_steps);
      paid = face_cleared_cost m (face_positions c.loop-p.rings) (face_positions c.pass.new.self) c.in-Some.p c.loop-p.steps c.pass.new.steps c.place_across-across.new.steps _ c.in-Some.ensures.next i.paid (omega (arith, before, c.in-Some.ensures.cost.1))
          (omega (arith, after, c.place_across-across.ensures.cost));
    }

pub returns-clause-searching : goal.returns-clause-searching
returns-clause-searching g c =
    let v = c.args.self.now in
    let m = contents_of_view v.served in
    let i = c.loop-p.invariant in
    let s = c.requires.searching in
    let ds = numbers_of c.loop-p.self.numbers in
    let qs = numbers_of c.loop-p.self.queue in
    let place = c.get-place.result in
    let number = c.get-number.result + 1 in
    let tail = c.loop-p.self.tail in
    let over : IsRounding m v.from v.head place number ds qs tail [] = subst (IsRounding m v.from v.head place number ds qs tail) (ap (map (place_across m)) c.in_default.ensures.next) i.rounding in
    let back : m ≡ contents_of_view c.loop-p.self.served = ap contents_of_view (sym i.served) in
    let many = ap (λ (x : Contents). length x.faces) back in
    let done = end m v.from (beside-sym m v.served.whole) v.head place number ds qs tail over in
    let one = subst (λ x. IsSearch m x (slice_index ds) (slice_index qs) (v.head + 1) tail) (sym i.from) done in
    let two = subst (λ x. IsSearch m c.loop-p.self.from (slice_index ds) (slice_index qs) (x + 1) tail) (sym i.head) one in
    let low = s.from_in in
    let same = i.from in
    record {
      numbers_long = subst (λ (x : Contents). length ds ≡ length x.faces + 1) back over.numbers_long;
      queue_long = subst (λ (x : Contents). length qs ≡ length x.faces + 1) back over.queue_long;
      from_in = omega (arith, low, same, many);
      search = subst (λ (x : Contents). IsSearch x c.loop-p.self.from (slice_index ds) (slice_index qs) (c.loop-p.self.head + 1) tail) back two;
    }

pub returns-clause-kept : goal.returns-clause-kept
returns-clause-kept g c = c.loop-p.invariant.kept

pub returns-clause-paid : goal.returns-clause-paid
returns-clause-paid g c =
    let m = contents_of_view c.args.self.now.served in
    let at = ap (λ x. rounds_price m (face_at_place m x ∷ [])) c.get-place.ensures in
    omega (arith, at, c.loop-p.invariant.paid, c.in_default.ensures.cost)
