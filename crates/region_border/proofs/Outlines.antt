-- How an outline goes from one border edge to the next: by next from a border edge and by turn from each other signed edge, which never takes two inside to one.
use Rattle.std.proofs.Common.{◌≡◌, ℕ, zero, suc, ◌+◌, ◌<◌, ◌≤◌, inl, inr, ℤ, Bool, true, false, not, ◌&&◌, List, [], ◌∷◌, ◌++◌, length, refl, sym, ap, ◌∙◌, subst, arith}
use Rattle.std.specs.Prelude.{if◌then◌else◌, filter}
use Rattle.std.proofs.lemmas.Bool.{and_parts, and_from, or_cases, cases_Bool, or_left, or_right, both_ways, not-true}
use Rattle.orbits.specs.Walks.{stepped}
use Rattle.orbits.proofs.Lists.{pigeon, in_filter, from_filter, in_either, among}
use Rattle.topo_base.specs.SignedEdge.{reverse, same_edge}
use Rattle.plane_model.specs.Rows.{Rows}
use Rattle.plane_model.specs.Sets.{has_edge, is_distinct_edges}
use Rattle.plane_model.specs.PlaneMap.{PlaneMap, map_of, signed_edges, side, next, turn}
use Rattle.plane_model.specs.Rotation.{is_rotation}
use Rattle.plane_model.specs.Faces.{is_labelled}
use Rattle.plane_model.specs.Orders.{Permutes}
use Rattle.plane_model.specs.Border.{is_inside, is_border, first_border, outline}
use Rattle.plane_model.proofs.SetLaws.{same_is, same_self, same_edges}
use Rattle.plane_model.proofs.OuterRings.{distinct_append}
use Rattle.plane_model.proofs.RotationOrbits.{reverse-reverse, signed-reverse, next_permutes, turn_permutes}
use Rattle.region_border.specs.Looked.{passed_from, passed, looked}

-- what the laws ask of a map
pub record IsTurned (m : PlaneMap) : Type 0 where
  pub nexts : Permutes (signed_edges m) (next m)
  pub turns : Permutes (signed_edges m) (turn m)
  pub labelled : (d : ℤ) → has_edge (signed_edges m) d ≡ true → side m (next m d) ≡ side m d

pub turned_of : (t : Rows) → is_rotation (map_of t) ≡ true → is_labelled (map_of t) ≡ true → IsTurned (map_of t)
turned_of t h l =
    record {
      nexts = next_permutes t h;
      turns = turn_permutes t h;
      labelled = λ d there. Rattle.std.proofs.lemmas.Bool.eqb-true _ _ (among same_edges _ (signed_edges (map_of t)) d l there);
    }

module _ (m : PlaneMap) (r : ℕ) (w : IsTurned m) where
  abbrev all : List ℤ
  all = signed_edges m

  abbrev border : ℤ → Bool
  border d = is_border m r d

  -- a signed edge of the map with the region on its left
  pub record IsIn (d : ℤ) : Type 0 where
    pub there : has_edge all d ≡ true
    pub left : is_inside m r (side m d) ≡ true

  -- the next of a border edge, and the turn of each other
  abbrev onward : ℤ → ℤ
  onward d = if border d then next m d else turn m d

  onward-border : (d : ℤ) → border d ≡ true → onward d ≡ next m d
  onward-border d b = rw b refl

  onward-other : (d : ℤ) → border d ≡ false → onward d ≡ turn m d
  onward-other d b = rw b refl

  -- one that is no border edge has the region on both hands
  pub both_hands : (d : ℤ) → IsIn d → border d ≡ false → is_inside m r (side m (reverse d)) ≡ true
  both_hands d i b = elim (cases_Bool (is_inside m r (side m (reverse d)))) [
    | inl t ↦ t
    | inr f ↦ absurd (both_ways _ b (and_from (is_inside m r (side m d)) (not (is_inside m r (side m (reverse d)))) i.left (rw f refl)))
  ]

  right_out : (d : ℤ) → border d ≡ true → is_inside m r (side m (reverse d)) ≡ false
  right_out d b = not-true _ (and_parts (is_inside m r (side m d)) (not (is_inside m r (side m (reverse d)))) b).1

  next_in : (d : ℤ) → IsIn d → IsIn (next m d)
  next_in d i = record { there = w.nexts.stays d i.there; left = ap (is_inside m r) (w.labelled d i.there) ∙ i.left }

  turn_in : (d : ℤ) → IsIn d → border d ≡ false → IsIn (turn m d)
  turn_in d i b = next_in (reverse d) (record { there = signed-reverse m d ∙ i.there; left = both_hands d i b })

  onward_in : (d : ℤ) → IsIn d → IsIn (onward d)
  onward_in d i = elim (cases_Bool (border d)) [
    | inl t ↦ subst IsIn (sym (onward-border d t)) (next_in d i)
    | inr f ↦ subst IsIn (sym (onward-other d f)) (turn_in d i f)
  ]

  -- next of a border edge is not the turn of another
  apart : (d e : ℤ) → IsIn d → IsIn e → border d ≡ true → border e ≡ false → next m d ≡ turn m e → ⊥
  apart d e i j b f same =
      let is : d ≡ reverse e = w.nexts.one d (reverse e) i.there (signed-reverse m e ∙ j.there) same in
      let back : reverse d ≡ e = ap reverse is ∙ reverse-reverse e in
      both_ways _ (right_out d b) (ap (λ x. is_inside m r (side m x)) back ∙ j.left)

  onward_one : (d e : ℤ) → IsIn d → IsIn e → onward d ≡ onward e → d ≡ e
  onward_one d e i j same = elim (cases_Bool (border d)) [
    | inl t ↦ elim (cases_Bool (border e)) [
      | inl u ↦ w.nexts.one d e i.there j.there (sym (onward-border d t) ∙ same ∙ onward-border e u)
      | inr g ↦ absurd (apart d e i j t g (sym (onward-border d t) ∙ same ∙ onward-other e g))
    ]
    | inr f ↦ elim (cases_Bool (border e)) [
      | inl u ↦ absurd (apart e d j i u f (sym (onward-border e u) ∙ sym same ∙ onward-other d f))
      | inr g ↦ w.turns.one d e i.there j.there (sym (onward-other d f) ∙ same ∙ onward-other e g)
    ]
  ]

  -- the signed edge i places behind the next of d
  abbrev at : ℤ → ℕ → ℤ
  at d i = stepped onward (suc i) d

  at_in : (d : ℤ) → IsIn d → (i : ℕ) → IsIn (at d i)
  at_in d h zero = onward_in d h
  at_in d h (suc i) = onward_in (at d i) (at_in d h i)

  -- none of the first k is a border edge
  abbrev ArePassed : ℤ → ℕ → Type 0
  ArePassed d k = (j : ℕ) → j < k → border (at d j) ≡ false

  -- where two border edges come to one signed edge over others alone, they are one
  pub one_way : (k l : ℕ) (d e : ℤ) → IsIn d → IsIn e → border d ≡ true → border e ≡ true → ArePassed d k → ArePassed e l → at d k ≡ at e l → (d ≡ e) × (k ≡ l)
  one_way zero zero d e i j b f p q same = (onward_one d e i j same, refl)
  one_way zero (suc l) d e i j b f p q same =
      let is = onward_one d (at e l) i (at_in e j l) same in
      absurd (both_ways _ (q l (omega arith)) (ap border (sym is) ∙ b))
  one_way (suc k) zero d e i j b f p q same =
      let is = onward_one (at d k) e (at_in d i k) j same in
      absurd (both_ways _ (p k (omega arith)) (ap border is ∙ f))
  one_way (suc k) (suc l) d e i j b f p q same =
      let more = one_way k l d e i j b f (λ x h. p x (omega (arith, h))) (λ x h. q x (omega (arith, h))) (onward_one (at d k) (at e l) (at_in d i k) (at_in e j l) same) in
      (more.0, ap suc more.1)

  -- the signed edges looked at from the one i places behind
  abbrev seen_from : ℕ → ℤ → List ℤ
  seen_from n d = passed_from n m r d ++ first_border n m r d ∷ []

  seen-here : (n : ℕ) (d : ℤ) → border d ≡ true → seen_from (suc n) d ≡ d ∷ []
  unfolding passed_from
  seen-here n d b = rw b refl

  seen-on : (n : ℕ) (d : ℤ) → border d ≡ false → seen_from (suc n) d ≡ d ∷ seen_from n (turn m d)
  unfolding passed_from
  seen-on n d b = rw b refl

  seen-none : (d : ℤ) → seen_from zero d ≡ d ∷ []
  unfolding passed_from
  seen-none d = refl

  only : (d x : ℤ) → has_edge (d ∷ []) x ≡ true → x ≡ d
  only d x h = elim (or_cases (same_edge x d) false h) [ inl e ↦ same_is x d e | inr none ↦ absurd (both_ways false refl none) ]

  passed_more : (d : ℤ) (i : ℕ) → ArePassed d i → border (at d i) ≡ false → ArePassed d (suc i)
  passed_more d i p f j l = elim (Rattle.std.proofs.lemmas.Bool.cases_eq j i) [
    | inl e ↦ ap (λ x. border (at d x)) e ∙ f
    | inr n ↦ p j (omega (arith, l, n))
  ]

  turn-at : (d : ℤ) (i : ℕ) → border (at d i) ≡ false → turn m (at d i) ≡ at d (suc i)
  turn-at d i f = sym (onward-other (at d i) f)

  -- where a signed edge that was looked at stands
  pub place_of : (n i : ℕ) (d x : ℤ) → ArePassed d i → has_edge (seen_from n (at d i)) x ≡ true → (k : ℕ) × (i ≤ k) × (x ≡ at d k) × ArePassed d k
  place_of zero i d x p h = (i, omega arith, only (at d i) x (subst (λ ds. has_edge ds x ≡ true) (seen-none (at d i)) h), p)
  place_of (suc n) i d x p h = elim (cases_Bool (border (at d i))) [
    | inl b ↦ (i, omega arith, only (at d i) x (subst (λ ds. has_edge ds x ≡ true) (seen-here n (at d i) b) h), p)
    | inr f ↦
        let h' : has_edge (at d i ∷ seen_from n (at d (suc i))) x ≡ true = subst (λ ds. has_edge ds x ≡ true) (seen-on n (at d i) f ∙ ap (λ y. at d i ∷ seen_from n y) (turn-at d i f)) h in
        elim (or_cases (same_edge x (at d i)) _ h') [
          | inl e ↦ (i, omega arith, same_is x (at d i) e, p)
          | inr more ↦ let k = place_of n (suc i) d x (passed_more d i p f) more in (k.0, omega (arith, k.1), k.2, k.3)
        ]
  ]

  seen_apart : (n i : ℕ) (d : ℤ) → IsIn d → border d ≡ true → ArePassed d i → is_distinct_edges (seen_from n (at d i)) ≡ true
  seen_apart zero i d h b p = subst (λ ds. is_distinct_edges ds ≡ true) (sym (seen-none (at d i))) refl
  seen_apart (suc n) i d h b p = elim (cases_Bool (border (at d i))) [
    | inl t ↦ subst (λ ds. is_distinct_edges ds ≡ true) (sym (seen-here n (at d i) t)) refl
    | inr f ↦
        let p' = passed_more d i p f in
        subst (λ ds. is_distinct_edges ds ≡ true) (sym (seen-on n (at d i) f ∙ ap (λ y. at d i ∷ seen_from n y) (turn-at d i f)))
        (and_from (not (has_edge (seen_from n (at d (suc i))) (at d i))) (is_distinct_edges (seen_from n (at d (suc i))))
        (elim (cases_Bool (has_edge (seen_from n (at d (suc i))) (at d i))) [
          | inl again ↦
              let k = place_of n (suc i) d (at d i) p' again in
              let same = one_way i k.0 d d h h b b p k.3 k.2 in
              absurd (omega (arith, same.1, k.1))
          | inr none ↦ rw none refl
        ])
        (seen_apart n (suc i) d h b p'))
  ]

  seen_in : (n i : ℕ) (d x : ℤ) → IsIn d → ArePassed d i → has_edge (seen_from n (at d i)) x ≡ true → IsIn x
  seen_in n i d x h p on = let k = place_of n i d x p on in subst IsIn (sym k.2) (at_in d h k.0)

  none_passed : (d : ℤ) → ArePassed d zero
  none_passed d j l = absurd (omega (arith, l))

  next-at : (d : ℤ) → border d ≡ true → next m d ≡ at d 0
  next-at d b = sym (onward-border d b)

  looked-at : (d : ℤ) → border d ≡ true → looked m r d ≡ seen_from (length all) (at d 0)
  looked-at d b = ap (seen_from (length all)) (next-at d b)

  -- those looked at from a border edge on have the region on their left
  pub looked_in : (d x : ℤ) → IsIn d → border d ≡ true → has_edge (looked m r d) x ≡ true → IsIn x
  looked_in d x h b on = seen_in (length all) 0 d x h (none_passed d) (subst (λ ds. has_edge ds x ≡ true) (looked-at d b) on)

  pub looked_apart : (d : ℤ) → IsIn d → border d ≡ true → is_distinct_edges (looked m r d) ≡ true
  looked_apart d h b = subst (λ ds. is_distinct_edges ds ≡ true) (sym (looked-at d b)) (seen_apart (length all) 0 d h b (none_passed d))

  -- two border edges from which one signed edge is looked at are one
  pub looked_one : (d e x : ℤ) → IsIn d → IsIn e → border d ≡ true → border e ≡ true → has_edge (looked m r d) x ≡ true → has_edge (looked m r e) x ≡ true → d ≡ e
  looked_one d e x i j b f on on' =
      let k = place_of (length all) 0 d x (none_passed d) (subst (λ ds. has_edge ds x ≡ true) (looked-at d b) on) in
      let l = place_of (length all) 0 e x (none_passed e) (subst (λ ds. has_edge ds x ≡ true) (looked-at e f) on') in
      (one_way k.0 l.0 d e i j b f k.3 l.3 (sym k.2 ∙ l.2)).0

  length-seen : (n : ℕ) (d : ℤ) → length (seen_from n d) ≡ length (passed_from n m r d) + 1
  length-seen n d = snoc (passed_from n m r d) (first_border n m r d)
    where
      snoc : (ds : List ℤ) (x : ℤ) → length (ds ++ x ∷ []) ≡ length ds + 1
      snoc [] x = refl
      snoc (d ∷ ds) x = let more = snoc ds x in omega (arith, more)

  -- a search that passes fewer than it may has found a border edge
  found : (n : ℕ) (d : ℤ) → length (passed_from n m r d) < n → border (first_border n m r d) ≡ true
  unfolding passed_from
  found zero d l = absurd (omega (arith, l))
  found (suc n) d l = elim (cases_Bool (border d)) [
    | inl b ↦ rw b b
    | inr f ↦ rw f (found n (turn m d) (fewer n d f l))
  ]
    where
      fewer : (n : ℕ) (d : ℤ) → border d ≡ false → length (passed_from (suc n) m r d) < suc n → length (passed_from n m r (turn m d)) < n
      fewer n d f l = let l' : suc (length (passed_from n m r (turn m d))) < suc n = rw f at l in omega (arith, l')

  last_seen : (n : ℕ) (d : ℤ) → has_edge (seen_from n d) (first_border n m r d) ≡ true
  last_seen n d = Rattle.orbits.proofs.Lists.in_back same_edges (passed_from n m r d) (first_border n m r d ∷ []) (first_border n m r d) (or_left _ _ (same_self (first_border n m r d)))

  -- the outline of a border edge is one
  pub outline_border : (d : ℤ) → IsIn d → border d ≡ true → border (outline m r d) ≡ true
  outline_border d h b =
      let few = pigeon same_edges (looked m r d) all (looked_apart d h b) (λ x on. (looked_in d x h b on).there) in
      let long = length-seen (length all) (next m d) in
      found (length all) (next m d) (omega (arith, few, long))

  pub outline_in : (d : ℤ) → IsIn d → border d ≡ true → IsIn (outline m r d)
  outline_in d h b = looked_in d (outline m r d) h b (last_seen (length all) (next m d))

  pub outline_one : (d e : ℤ) → IsIn d → IsIn e → border d ≡ true → border e ≡ true → outline m r d ≡ outline m r e → d ≡ e
  outline_one d e i j b f same =
      looked_one d e (outline m r d) i j b f (last_seen (length all) (next m d))
      (subst (λ x. has_edge (looked m r e) x ≡ true) (sym same) (last_seen (length all) (next m e)))

  pub border_in : (d : ℤ) → has_edge all d ≡ true → border d ≡ true → IsIn d
  border_in d there b = record { there = there; left = (and_parts (is_inside m r (side m d)) (not (is_inside m r (side m (reverse d)))) b).0 }

  abbrev pub borders : List ℤ
  borders = filter (is_border m r) all

  pub listed : (d : ℤ) → has_edge borders d ≡ true → (border d ≡ true) × IsIn d
  listed d on = let p = from_filter same_edges (is_border m r) all d on in (p.0, border_in d p.1 p.0)

  pub outlines_permute : Permutes borders (outline m r)
  outlines_permute =
      record {
        stays = λ d on. let p = listed d on in in_filter same_edges (is_border m r) all (outline m r d) (outline_border d p.1 p.0) (outline_in d p.1 p.0).there;
        one = λ d e on on' same. let p = listed d on in let q = listed e on' in outline_one d e p.1 q.1 p.0 q.0 same;
      }

  -- none that is passed is a border edge
  passed_other : (n : ℕ) (d x : ℤ) → has_edge (passed_from n m r d) x ≡ true → border x ≡ false
  unfolding passed_from
  passed_other zero d x h = absurd (both_ways false refl h)
  passed_other (suc n) d x h = elim (cases_Bool (border d)) [
    | inl b ↦ let none : false ≡ true = rw b at h in absurd (both_ways false refl none)
    | inr f ↦
        let h' : has_edge (d ∷ passed_from n m r (turn m d)) x ≡ true = rw f at h in
        elim (or_cases (same_edge x d) _ h') [ inl e ↦ ap border (same_is x d e) ∙ f | inr more ↦ passed_other n (turn m d) x more ]
  ]

  pub passed_inside : (d x : ℤ) → has_edge all d ≡ true → border d ≡ true → has_edge (passed m r d) x ≡ true → (is_inside m r (side m x) ≡ true) × (is_inside m r (side m (reverse x)) ≡ true)
  passed_inside d x there b on =
      let i = looked_in d x (border_in d there b) b (Rattle.orbits.proofs.Lists.in_front same_edges (passed m r d) (outline m r d ∷ []) x on) in
      (i.left, both_hands x i (passed_other (length all) (next m d) x on))
