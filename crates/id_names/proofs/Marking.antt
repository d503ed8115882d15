-- A walk along a cycle that marks every so many members.
use Rattle.std.proofs.Common.{◌≡◌, ℕ, suc, ◌+◌, ◌-◌, ◌*◌, ◌/◌, ◌%◌, ◌<◌, ◌≤◌, inl, inr, true, false, ◌==◌, cond, List, [], ◌∷◌, ◌++◌, length, get_or, refl, sym, ap, subst, ◌∙◌, arith, eq-eqb, Option, Some, None}
use Rattle.std.proofs.Math.ListN.{set, length-set}
use Rattle.std.proofs.lemmas.Bool.{both_ways, cases_eq, cases_lt, ne_eqb, lt-ltb, le-ltb}
use Rattle.std.proofs.lemmas.List.{get_or-set_same, get_or-set_other}
use Rattle.std.proofs.lemmas.Nat.{div-add-mod', div-mul-add, mod_below}
use Rattle.orbits.specs.Points.{has}
use Rattle.orbits.proofs.Numbers.{has_place}
use Rattle.id_names.specs.Cycles.{HavePointers, mark_at}
use Rattle.id_names.specs.Marker.{marker_past, marks_past}
use Rattle.id_names.specs.declared.cycles.Marker.{Marker}
use Rattle.id_names.proofs.Members.{AreMembers}
use Rattle.id_names.proofs.Visiting.{AreBehind, behind_fewer}

-- a number by the one before it: a multiple of the stride, and none
multiple_after : (i stride : ℕ) → 1 ≤ stride → 1 ≤ i → (i - 1) % stride + 1 ≡ stride → (i % stride ≡ 0) × (i / stride * stride ≡ i)
multiple_after i stride some more full =
    let next = suc ((i - 1) / stride) in
    let before = div-add-mod' (i - 1) stride in
    let parts = div-add-mod' i stride in
    let whole : next * stride + 0 ≡ i = omega arith in
    let quotient : i / stride ≡ next = subst (λ z. z / stride ≡ next) whole (div-mul-add next stride 0 some) in
    let multiple : i / stride * stride ≡ i = ap (λ q. q * stride) quotient ∙ omega arith in
    (omega arith, multiple)

between_multiples : (i stride : ℕ) → 1 ≤ stride → 1 ≤ i → ((i - 1) % stride + 1 ≡ stride → ⊥) → (i % stride ≡ (i - 1) % stride + 1) × (i / stride * stride ≡ (i - 1) / stride * stride)
between_multiples i stride some more ne =
    let quotient = (i - 1) / stride in
    let rest = (i - 1) % stride + 1 in
    let before = div-add-mod' (i - 1) stride in
    let below = mod_below (i - 1) stride some in
    let parts = div-add-mod' i stride in
    let less : rest < stride = elim (cases_eq rest stride) [ inl is ↦ absurd (ne is) | inr other ↦ omega arith ] in
    let whole : quotient * stride + rest ≡ i = omega arith in
    let same : i / stride * stride ≡ quotient * stride = ap (λ q. q * stride) (subst (λ z. z / stride ≡ quotient) whole (div-mul-add quotient stride rest less)) in
    (omega arith, same)

-- the greatest multiple up to a number below the stride is 0
multiple_below : (i stride : ℕ) → i < stride → i / stride * stride ≡ 0
multiple_below i stride l =
    let e : 0 * stride + i ≡ i = omega arith in
    ap (λ q. q * stride) (subst (λ z. z / stride ≡ 0) e (div-mul-add 0 stride i l)) ∙ omega arith

-- the pointer of a member behind the first
abbrev pub mark_before : ℕ → List ℕ → ℕ → Option ℕ
mark_before stride members i = cond (i % stride == 0) (Some (get_or members (i - stride) 0)) None

-- The first `count` members are passed. These have their pointers; the first one gets its own in the end.
pub record IsMarking (stride : ℕ) (members : List ℕ) (count : ℕ) (marker : Marker) (old new : List (Option ℕ)) : Type 0 where
  pub stride_is : marker.stride ≡ stride
  pub since_is : marker.since ≡ (count - 1) % stride
  pub last_is : marker.last ≡ get_or members ((count - 1) / stride * stride) 0
  pub size : length new ≡ length old
  pub begins : get_or new (get_or members 0 0) None ≡ None
  pub done : (j : ℕ) → 0 < j → j < count → get_or new (get_or members j 0) None ≡ mark_before stride members j
  pub left : (j : ℕ) → count ≤ j → j < length members → get_or new (get_or members j 0) None ≡ None
  pub outside : (x : ℕ) → x < length old → has (λ x y. x == y) members x ≡ false → get_or new x None ≡ get_or old x None

-- the last members are still to be passed
pub record IsMarkingLast (stride : ℕ) (members behind : List ℕ) (marker : Marker) (old new : List (Option ℕ)) : Type 0 where
  pub last : AreBehind members behind
  pub marking : IsMarking stride members (length members - length behind) marker old new

module _ (places : List ℕ) (stride first : ℕ) (members : List ℕ) (m : AreMembers places first members) (some : 1 ≤ stride) where
  pub marking_first : (old : List (Option ℕ)) → ((i : ℕ) → i < length members → get_or old (get_or members i 0) None ≡ None) → IsMarking stride members 1 (record { stride = stride; last = first; since = 0 }) old old
  marking_first old fresh =
      let d = div-add-mod' 0 stride in
      let at_start : 0 / stride * stride ≡ 0 = omega arith in
      record {
        stride_is = refl;
        since_is = omega arith;
        last_is = sym m.begins ∙ ap (λ z. get_or members z 0) (sym at_start);
        size = refl;
        begins = fresh 0 m.some;
        done = λ j more h. absurd (omega arith);
        left = λ j h l. fresh j l;
        outside = λ x h off. refl;
      }

  -- a member between two marks is passed
  marking_pass : (count : ℕ) (marker : Marker) (old new : List (Option ℕ)) → IsMarking stride members count marker old new → 1 ≤ count → count < length members → (marker.since + 1 ≡ stride → ⊥)
      → IsMarking stride members (count + 1) (record { stride = marker.stride; last = marker.last; since = marker.since + 1 }) old new
  marking_pass count marker old new k more l ne =
      let next = between_multiples count stride some more (λ e. ne (ap (λ z. z + 1) k.since_is ∙ e)) in
      let none : count % stride ≡ 0 → ⊥ = λ e. omega (arith, next.0) in
      let count_is : count + 1 - 1 ≡ count = omega arith in
      record {
        stride_is = k.stride_is;
        since_is = ap (λ z. z + 1) k.since_is ∙ sym next.0 ∙ ap (λ z. z % stride) (sym count_is);
        last_is = k.last_is ∙ ap (λ z. get_or members z 0) (sym next.1 ∙ ap (λ z. z / stride * stride) (sym count_is));
        size = k.size;
        begins = k.begins;
        done = λ j from h. elim (cases_lt j count) [
          | inl less ↦ k.done j from less
          | inr g ↦ (let is : j ≡ count = omega arith in k.left j g (omega arith) ∙ sym (ap (λ b. cond b (Some (get_or members (j - stride) 0)) None) (subst (λ z. (z % stride == 0) ≡ false) (sym is) (ne_eqb (count % stride) 0 none))))
        ];
        left = λ j h q. k.left j (omega arith) q;
        outside = k.outside;
      }

  -- a member is marked
  marking_mark : (count at : ℕ) (marker : Marker) (old new : List (Option ℕ)) → length old ≡ length places → IsMarking stride members count marker old new → 1 ≤ count → count < length members → marker.since + 1 ≡ stride → at ≡ get_or members count 0
      → IsMarking stride members (count + 1) (record { stride = marker.stride; last = at; since = 0 }) old (set new at (Some marker.last))
  marking_mark count at marker old new size k more l full here =
      let last = marker.last in
      let w = m.within count l in
      let multiple = multiple_after count stride some more (ap (λ z. z + 1) (sym k.since_is) ∙ full) in
      let before = div-add-mod' (count - 1) stride in
      let count_is : count + 1 - 1 ≡ count = omega arith in
      let pointer : last ≡ get_or members (count - stride) 0 = k.last_is ∙ ap (λ z. get_or members z 0) (omega (arith, k.since_is)) in
      let other : (j : ℕ) → j < length members → (j ≡ count → ⊥) → get_or (set new at (Some last)) (get_or members j 0) None ≡ get_or new (get_or members j 0) None =
      λ j q ne. get_or-set_other new at (get_or members j 0) (Some last) None (λ is. ne (m.once j count q l (is ∙ here))) in
      record {
        stride_is = k.stride_is;
        since_is = sym multiple.0 ∙ ap (λ z. z % stride) (sym count_is);
        last_is = here ∙ ap (λ z. get_or members z 0) (sym multiple.1 ∙ ap (λ z. z / stride * stride) (sym count_is));
        size = length-set new at (Some last) ∙ k.size;
        begins = other 0 m.some (λ is. absurd (omega arith)) ∙ k.begins;
        done = λ j from h. elim (cases_eq j count) [
          | inl is ↦
              subst (λ z. get_or (set new at (Some last)) z None ≡ mark_before stride members j) (here ∙ ap (λ z. get_or members z 0) (sym is))
              (get_or-set_same new at (Some last) None (omega (arith, k.size))
              ∙ ap (λ z. Some z) (pointer ∙ ap (λ z. get_or members (z - stride) 0) (sym is))
              ∙ sym (ap (λ b. cond b (Some (get_or members (j - stride) 0)) None) (subst (λ z. (z % stride == 0) ≡ true) (sym is) (eq-eqb (count % stride) 0 multiple.0))))
          | inr ne ↦ other j (omega arith) ne ∙ k.done j from (omega arith)
        ];
        left = λ j h q. other j q (λ is. absurd (omega arith)) ∙ k.left j (omega arith) q;
        outside = λ x h off. get_or-set_other new at x (Some last) None (λ is. both_ways _ off (subst (λ z. has (λ x y. x == y) members z ≡ true) (sym (is ∙ here)) (has_place members count l))) ∙ k.outside x h off;
      }

  -- a member is passed
  pub marking_next : (count at : ℕ) (marker : Marker) (old new : List (Option ℕ)) → length old ≡ length places → IsMarking stride members count marker old new → 1 ≤ count → count < length members → at ≡ get_or members count 0
      → IsMarking stride members (count + 1) (marker_past marker at) old (marks_past marker at new)
  marking_next count at marker old new size k more l here = elim (cases_eq (marker.since + 1) marker.stride) [
    | inl is ↦ rw (eq-eqb (marker.since + 1) marker.stride is) (marking_mark count at marker old new size k more l (is ∙ k.stride_is) here)
    | inr ne ↦ rw (ne_eqb (marker.since + 1) marker.stride ne) (marking_pass count marker old new k more l (λ is. ne (is ∙ sym k.stride_is)))
  ]

  last_of_all : (count : ℕ) (marker : Marker) (old new : List (Option ℕ)) → IsMarking stride members count marker old new → count ≡ length members → marker.last ≡ get_or members ((length members - 1) / stride * stride) 0
  last_of_all count marker old new k all = subst (λ n. marker.last ≡ get_or members ((n - 1) / stride * stride) 0) all k.last_is

  -- a cycle has a second mark where it is long
  long_of : (count : ℕ) (marker : Marker) (old new : List (Option ℕ)) → IsMarking stride members count marker old new → count ≡ length members → (marker.last ≡ first → ⊥) → stride < length members
  long_of count marker old new k all ne = elim (cases_lt stride (length members)) [
    | inl long ↦ long
    | inr few ↦ (let none = multiple_below (length members - 1) stride (omega (arith, m.some)) in absurd (ne (last_of_all count marker old new k all ∙ ap (λ z. get_or members z 0) none ∙ m.begins)))
  ]

  few_of : (count : ℕ) (marker : Marker) (old new : List (Option ℕ)) → IsMarking stride members count marker old new → count ≡ length members → marker.last ≡ first → length members ≤ stride
  few_of count marker old new k all is = elim (cases_lt stride (length members)) [
    | inl long ↦
        let place = (length members - 1) / stride * stride in
        let d = div-add-mod' (length members - 1) stride in
        let b = mod_below (length members - 1) stride some in
        let none = m.once place 0 (omega arith) m.some (sym (last_of_all count marker old new k all) ∙ is ∙ sym m.begins) in
        absurd (omega arith)
    | inr few ↦ few
  ]

  -- at the end of a long cycle the first one gets the last mark
  pub are_marked : (count : ℕ) (marker : Marker) (old new : List (Option ℕ)) → length old ≡ length places → IsMarking stride members count marker old new → count ≡ length members → (marker.last ≡ first → ⊥)
      → HavePointers stride members old (set new first (Some marker.last))
  unfolding mark_at
  are_marked count marker old new size k all ne =
      let last = marker.last in
      let begins = m.begins in
      let w = m.within 0 m.some in
      let l = lt-ltb stride (length members) (long_of count marker old new k all ne) in
      record {
        size = length-set new first (Some last) ∙ k.size;
        inside = λ j h. elim (cases_eq j 0) [
          | inl z ↦
              let zero_is : 0 % stride ≡ 0 = (let d = div-add-mod' 0 stride in omega arith) in
              let wrote : get_or (set new first (Some last)) (get_or members 0 0) None ≡ Some last = subst (λ x. get_or (set new first (Some last)) x None ≡ Some last) (sym begins) (get_or-set_same new first (Some last) None (omega (arith, k.size))) in
              rw z (rw l (rw zero_is (wrote ∙ ap (λ x. Some x) (last_of_all count marker old new k all))))
          | inr other ↦
              let not_zero : (j == 0) ≡ false = ne_eqb j 0 other in
              get_or-set_other new first (get_or members j 0) (Some last) None (λ is. other (m.once j 0 h m.some (is ∙ sym begins)))
              ∙ k.done j (omega arith) (omega arith)
              ∙ rw l (rw not_zero refl)
        ];
        outside = λ x h off. get_or-set_other new first x (Some last) None (λ is. both_ways _ off (subst (λ z. has (λ x y. x == y) members z ≡ true) (begins ∙ sym is) (has_place members 0 m.some))) ∙ k.outside x h off;
      }

  -- a cycle of few members has no mark
  pub none_marked : (count : ℕ) (marker : Marker) (old new : List (Option ℕ)) → IsMarking stride members count marker old new → count ≡ length members → marker.last ≡ first → HavePointers stride members old new
  unfolding mark_at
  none_marked count marker old new k all is =
      let few = few_of count marker old new k all is in
      let short = le-ltb stride (length members) few in
      record {
        size = k.size;
        inside = λ j h. elim (cases_eq j 0) [
          | inl z ↦ rw z (rw short k.begins)
          | inr other ↦
              let d = div-add-mod' j stride in
              let none = multiple_below j stride (omega arith) in
              k.done j (omega arith) (omega arith)
              ∙ ap (λ b. cond b (Some (get_or members (j - stride) 0)) None) (ne_eqb (j % stride) 0 (λ e. other (omega arith)))
              ∙ rw short refl
        ];
        outside = k.outside;
      }

  pub marking_last : (behind behind' : List ℕ) (at : ℕ) (marker : Marker) (old new : List (Option ℕ)) → length old ≡ length places → IsMarkingLast stride members behind marker old new → behind ≡ behind' ++ at ∷ []
      → IsMarkingLast stride members behind' (marker_past marker at) old (marks_past marker at new)
  marking_last behind behind' at marker old new size k popped =
      let few = k.last.few in
      let f = behind_fewer members behind behind' at k.last popped in
      let next : (length members - length behind) + 1 ≡ length members - length behind' = omega (arith, f.2) in
      record {
        last = f.0;
        marking = subst (λ n. IsMarking stride members n (marker_past marker at) old (marks_past marker at new)) next
            (marking_next (length members - length behind) at marker old new size k.marking (omega arith) (omega (arith, f.2)) f.1);
      }
