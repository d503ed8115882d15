use Rattle.std.proofs.Common.{rules, ◌≡◌, ◌<◌, ℕ, Bool, List, length, true, [], ◌∷◌, ◌++◌, sym, ◌∙◌, subst, ap}
use Rattle.std.specs.Prelude.{slice_index, slice_set}
use Rattle.islands.specs.Lists.{listed}
use Rattle.islands.specs.Rounds.{AreRoundRings, AreNextFaces, KeysAreMarked}
use Rattle.islands.proofs.Numbered.{AreSoFar, step, at_end, at_begin}
use Rattle.islands.proofs.Open.{falls}
use Rattle.islands.proofs.Assembled.{these_of, front_of, places_of}
use Rattle.islands.proofs.Start.{unmarked, first_marked, one_marked, empty}
use Rattle.islands.proofs.rounds.outer_rings.Goals as goal

pub loop-alloc-init : goal.loop-alloc-init
loop-alloc-init c =
    let F : List ℕ = c.args.faces.now in
    let C : List ℕ = c.args.components.now in
    let n : ℕ = c.args.face_count in
    let opened : List Bool = c.in_ok-entered.entered.items in
    let marks : List Bool = slice_set opened 0 true in
    let none = unmarked opened n (c.in_ok-entered.ensures.items_if_clones_equal (λ y h. h)) in
    let some : 0 < length opened = search rules in
    record {
      so_far = subst (λ (front : List ℕ). AreSoFar F C n front c.new-starts.result.items c.in_ok-reached.reached.items marks) (sym (c.in_ok-front.ensures.items_if_clones_equal (λ y h. h)))
          (subst (λ (starts : List ℕ). AreSoFar F C n (0 ∷ []) starts c.in_ok-reached.reached.items marks) (sym c.new-starts.ensures.items)
          (at_begin F C n c.in_ok-reached.reached.items marks c.requires.below.some (unmarked c.in_ok-reached.reached.items c.args.component_count (c.in_ok-reached.ensures.items_if_clones_equal (λ y h. h))) (first_marked opened some) (one_marked opened none)));
      reached_many = search rules;
      entered_many = search rules;
    }

pub round_rings-requires-clause-front : goal.round_rings-requires-clause-front
round_rings-requires-clause-front c = front_of c.loop-alloc.front.items c.deref-in-loop-alloc.result.now (length c.in_ok-on_face.on_face.last.items) c.args.face_count c.deref-in-loop-alloc.ensures.value c.in_ok-on_face.ensures.keys c.loop-alloc.invariant.so_far.front_below

pub enter-requires-clause-places : goal.enter-requires-clause-places
enter-requires-clause-places c =
    let F : List ℕ = c.args.faces.now in
    let C : List ℕ = c.args.components.now in
    let now : List ℕ = c.in_ok-now.now.items in
    let these : AreRoundRings F C c.loop-alloc.front.items c.loop-alloc.reached.items now =
    these_of F C c.loop-alloc.front.items now c.loop-alloc.reached.items c.deref-in-loop-alloc.result.now c.deref.result.now (listed c.in_ok-on_face.on_face.last.items c.in_ok-on_face.on_face.before.items) c.deref-in-loop-alloc.ensures.value c.deref.ensures.value
    c.in_ok-on_face.ensures.lists c.in_ok-now.ensures in
    places_of F C c.loop-alloc.front.items now c.deref-in-loop-alloc-2.result.now c.loop-alloc.reached.items c.deref-in-loop-alloc-2.ensures.value c.requires.below.same these

pub loop-alloc-smaller : goal.loop-alloc-smaller
loop-alloc-smaller c =
    let F : List ℕ = c.args.faces.now in
    let C : List ℕ = c.args.components.now in
    let nexts : AreNextFaces F C c.deref-in-loop-alloc-2.result.now c.loop-alloc.entered.items c.in_ok-next.next.items = c.in_ok-next.ensures.next in
    falls F C c.deref-in-loop-alloc-2.result.now c.in_ok-next.next.items c.loop-alloc.front.items c.loop-alloc.entered.items c.enter.new.entered.items (search rules) nexts c.in_ok-next.ensures.entered

pub loop-alloc-preserved : goal.loop-alloc-preserved
loop-alloc-preserved c =
    let F : List ℕ = c.args.faces.now in
    let C : List ℕ = c.args.components.now in
    let n : ℕ = c.args.face_count in
    let now : List ℕ = c.in_ok-now.now.items in
    let next : List ℕ = c.in_ok-next.next.items in
    let starts : List ℕ = c.loop-alloc.starts.items in
    let front : List ℕ = c.loop-alloc.front.items in
    let reached : List Bool = c.loop-alloc.reached.items in
    let entered : List Bool = c.loop-alloc.entered.items in
    let reached' : List Bool = c.enter.new.reached.items in
    let entered' : List Bool = c.enter.new.entered.items in
    let these : AreRoundRings F C front reached now =
    these_of F C front now reached c.deref-in-loop-alloc.result.now c.deref.result.now (listed c.in_ok-on_face.on_face.last.items c.in_ok-on_face.on_face.before.items) c.deref-in-loop-alloc.ensures.value c.deref.ensures.value
    c.in_ok-on_face.ensures.lists c.in_ok-now.ensures in
    let is_now : c.deref-in-loop-alloc-2.result.now ≡ now = c.deref-in-loop-alloc-2.ensures.value in
    let nexts : AreNextFaces F C now entered next = subst (λ (xs : List ℕ). AreNextFaces F C xs entered next) is_now c.in_ok-next.ensures.next in
    let marked : KeysAreMarked (slice_index C) now reached reached' = subst (λ (xs : List ℕ). KeysAreMarked (slice_index C) xs reached reached') is_now c.in_ok-next.ensures.reached in
    let opened : KeysAreMarked (λ f. f) next entered entered' = c.in_ok-next.ensures.entered in
    record {
      so_far = subst (λ (xs : List ℕ). AreSoFar F C n next xs reached' entered') (ap (λ (xs : List ℕ). starts ++ xs) (sym c.deref-in-loop-alloc-3.ensures.value) ∙ sym c.in_ok-extend_from_slice.ensures.items)
          (step F C n c.args.component_count c.requires.below front starts reached entered c.loop-alloc.invariant.so_far now next reached' entered' these nexts marked opened);
      reached_many = marked.same ∙ c.loop-alloc.invariant.reached_many;
      entered_many = opened.same ∙ c.loop-alloc.invariant.entered_many;
    }

pub returns-clause-below : goal.returns-clause-below
returns-clause-below c = c.loop-alloc.invariant.so_far.starts_below

pub returns-clause-rings : goal.returns-clause-rings
returns-clause-rings c =
    let short : length c.loop-alloc.front.items ≡ 0 = search rules in
    let front = empty c.loop-alloc.front.items short in
    at_end c.args.faces.now c.args.components.now c.args.face_count c.loop-alloc.starts.items c.loop-alloc.reached.items c.loop-alloc.entered.items
    (subst (λ (fs : List ℕ). AreSoFar c.args.faces.now c.args.components.now c.args.face_count fs c.loop-alloc.starts.items c.loop-alloc.reached.items c.loop-alloc.entered.items) front c.loop-alloc.invariant.so_far)
