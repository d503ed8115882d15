-- A shortest path goes through faces that differ, so that its moves are no more than there are faces.
use Rattle.std.specs.Prelude.{find}
use Rattle.std.specs.List.{list_any}
use Rattle.std.proofs.Common.{◌≡◌, ℕ, zero, suc, ◌<◌, ◌≤◌, inl, inr, Bool, true, false, not, ◌==◌, List, [], ◌∷◌, length, refl, sym, ap, subst, arith, Option, Some, None}
use Rattle.std.proofs.lemmas.Bool.{cases_Bool, eqb-true, eq-eqb, or_cases, or_left, or_right, and_from, both_ways, false_from_ne_true}
use Rattle.orbits.proofs.Lists.{pigeon}
use Rattle.orbits.proofs.Numbers.{same_numbers}
use Rattle.plane_model.specs.Sets.{has, is_distinct}
use Rattle.plane_model.specs.PlaneMap.{PlaneMap}
use Rattle.plane_model.specs.Rotation.{is_face}
use Rattle.plane_model.specs.Lists.{adjacent}
use Rattle.plane_model.specs.Hops.{is_within, distance, hops_in, hops}
use Rattle.face_hops.proofs.PathLaws.{least_up, within-more, within-later, within-step, distance_is, distance_first}

-- the first that passes
pub first_of_some : (p : ℕ → Bool) (xs : List ℕ) → list_any p xs ≡ true → (x : ℕ) × (find p xs ≡ Some x) × (has xs x ≡ true) × (p x ≡ true)
first_of_some p [] h = absurd (both_ways false refl h)
first_of_some p (y ∷ ys) h = elim (cases_Bool (p y)) [
  | inl e ↦ (y, rw e refl, or_left (y == y) (has ys y) (eq-eqb y y refl), e)
  | inr e ↦
      let more : list_any p ys ≡ true = rw e at h in
      let r = first_of_some p ys more in
      (r.0, rw e r.1, or_right (r.0 == y) (has ys r.0) r.2, r.3)
]

-- no path of fewer moves leads from one face to the other
pub record IsNearest (m : PlaneMap) (g n f : ℕ) : Type 0 where
  pub here : is_within n m f g ≡ true
  pub before : (j : ℕ) → j < n → is_within j m f g ≡ false

-- where a shortest path goes on
pub record GoesOn (m : PlaneMap) (g n f : ℕ) : Type 0 where
  pub next : ℕ
  pub found : find (λ x. is_within n m x g) (adjacent m f) ≡ Some next
  pub beside : has (adjacent m f) next ≡ true
  pub nearest : IsNearest m g n next

pub goes_on : (m : PlaneMap) (g n f : ℕ) → IsNearest m g (suc n) f → GoesOn m g n f
goes_on m g n f h =
    let off : (f == g) ≡ false = h.before 0 (omega arith) in
    let some : list_any (λ x. is_within n m x g) (adjacent m f) ≡ true = rw off at h.here in
    let r = first_of_some (λ x. is_within n m x g) (adjacent m f) some in
    record {
      next = r.0;
      found = r.1;
      beside = r.2;
      nearest = record {
        here = r.3;
        before = λ j l. false_from_ne_true (is_within j m r.0 g) (λ t. both_ways (is_within (suc j) m f g) (h.before (suc j) (omega (arith, l))) (within-step j m f r.0 g r.2 t));
      };
    }

-- the way of some moves, and its first move
pub hops_at : (m : PlaneMap) (f g n : ℕ) → distance m f g ≡ Some n → hops m f g ≡ hops_in n m f g
hops_at m f g n e = ap (λ (o : Option ℕ). elim o [ None ↦ [] | Some n ↦ hops_in n m f g ]) e

pub hops_more : (m : PlaneMap) (g n f x : ℕ) → find (λ y. is_within n m y g) (adjacent m f) ≡ Some x → hops_in (suc n) m f g ≡ f ∷ hops_in n m x g
hops_more m g n f x e = ap (λ (o : Option ℕ). f ∷ elim o [ None ↦ [] | Some y ↦ hops_in n m y g ]) e

-- the way from a face
pub record IsWay (m : PlaneMap) (g n : ℕ) (faces : List ℕ) : Type 0 where
  pub long : length faces ≡ suc n
  pub apart : is_distinct faces ≡ true
  pub within : (x : ℕ) → has faces x ≡ true → is_within n m x g ≡ true
  pub known : (x : ℕ) → has faces x ≡ true → is_face m x ≡ true

module _ (m : PlaneMap) (g : ℕ) (beside_known : (f x : ℕ) → has (adjacent m f) x ≡ true → is_face m x ≡ true) where
  way_zero : (f : ℕ) → is_face m f ≡ true → IsNearest m g zero f → IsWay m g zero (hops_in zero m f g)
  way_zero f there h =
      let only : (x : ℕ) → has (f ∷ []) x ≡ true → x ≡ f = λ x k. elim (or_cases (x == f) false k) [ inl e ↦ eqb-true x f e | inr none ↦ absurd (both_ways false refl none) ] in
      record {
        long = refl;
        apart = refl;
        within = λ x k. subst (λ y. is_within zero m y g ≡ true) (sym (only x k)) h.here;
        known = λ x k. subst (λ y. is_face m y ≡ true) (sym (only x k)) there;
      }

  way_more : (n f x : ℕ) (xs : List ℕ) → is_face m f ≡ true → IsNearest m g (suc n) f → IsWay m g n xs → IsWay m g (suc n) (f ∷ xs)
  way_more n f x xs there h w =
      let new : has xs f ≡ false = false_from_ne_true (has xs f) (λ t. both_ways (is_within n m f g) (h.before n (omega arith)) (w.within f t)) in
      record {
        long = ap suc w.long;
        apart = and_from (not (has xs f)) (is_distinct xs) (rw new refl) w.apart;
        within = λ y k. elim (or_cases (y == f) (has xs y) k) [
          | inl e ↦ subst (λ z. is_within (suc n) m z g ≡ true) (sym (eqb-true y f e)) h.here
          | inr more ↦ within-more n m y g (w.within y more)
        ];
        known = λ y k. elim (or_cases (y == f) (has xs y) k) [
          | inl e ↦ subst (λ z. is_face m z ≡ true) (sym (eqb-true y f e)) there
          | inr more ↦ w.known y more
        ];
      }

  pub way : (n f : ℕ) → is_face m f ≡ true → IsNearest m g n f → IsWay m g n (hops_in n m f g)
  way zero f there h = way_zero f there h
  way (suc n) f there h =
      let on = goes_on m g n f h in
      let more = way n on.next (beside_known f on.next on.beside) on.nearest in
      let is : hops_in (suc n) m f g ≡ f ∷ hops_in n m on.next g = hops_more m g n f on.next on.found in
      subst (IsWay m g (suc n)) (sym is) (way_more n f on.next (hops_in n m on.next g) there h more)

  -- so there are no more moves than faces other than 0
  pub few_moves : (n f : ℕ) → is_face m f ≡ true → IsNearest m g n f → n ≤ length m.faces
  few_moves n f there h =
      let w = way n f there h in
      let fit = pigeon same_numbers (hops_in n m f g) (0 ∷ m.faces) w.apart w.known in
      let long = w.long in
      omega (arith, fit, long)

  -- some path leads there, so one of few moves does
  pub nearest_of : (n f : ℕ) → is_within n m f g ≡ true → (k : ℕ) × (k ≤ n) × IsNearest m g k f
  nearest_of n f h = elim (least_up (λ j. is_within j m f g) n) [
    | inl k ↦ (k.0, k.1.low, record { here = k.1.here; before = k.1.before })
    | inr none ↦ absurd (both_ways (is_within n m f g) (none n (omega arith)) h)
  ]

  pub within-few : (n f : ℕ) → is_face m f ≡ true → is_within n m f g ≡ true → is_within (length m.faces) m f g ≡ true
  within-few n f there h =
      let k = nearest_of n f h in
      within-later (length m.faces) k.0 m f g (few_moves k.0 f there k.2) k.2.here

  pub distance_some : (n f : ℕ) → is_face m f ≡ true → is_within n m f g ≡ true → (k : ℕ) × (distance m f g ≡ Some k) × IsNearest m g k f
  distance_some n f there h =
      let k = nearest_of n f h in
      let few = few_moves k.0 f there k.2 in
      (k.0, distance_is m f g k.0 (omega (arith, few)) k.2.here k.2.before, k.2)

-- the distance as a shortest path
pub nearest : (m : PlaneMap) (f g k : ℕ) → distance m f g ≡ Some k → IsNearest m g k f
nearest m f g k e = let r = distance_first m f g k e in record { here = r.here; before = r.before }
