-- Numbers of darts, one dart further.
use Rattle.std.proofs.Common.{◌≡◌, ℕ, zero, suc, ◌+◌, ◌*◌, ◌<◌, ◌⊎◌, inl, inr, ℤ, true, List, [], ◌∷◌, map, length, get_or, replicate, refl, sym, ap, ◌∙◌, subst, arith, Option, Some, None}
use Rattle.std.specs.Prelude.{unwrap_or}
use Rattle.std.proofs.lemmas.Bool.{cases_Bool, cases_lt}
use Rattle.std.proofs.lemmas.List.{length-map, length-replicate}
use Rattle.plane_model.specs.declared.rows.EdgeRow.{EdgeRow}
use Rattle.plane_model.specs.Sets.{has_edge}
use Rattle.plane_model.specs.Orders.{IsPartition}
use Rattle.rotation_check.specs.Darts.{signed_edge}
use Rattle.euler_check.specs.Marks.{number_at, DartsGetNumber, FirstAreNumbered}
use Rattle.euler_check.specs.Numbers.{Numbers, ArePartNumbers}

-- two numbers of one dart are one
one_number : (o : Option ℕ) (x y : ℕ) → o ≡ Some x → o ≡ Some y → x ≡ y
one_number o x y h k = let e : Some x ≡ Some y = sym h ∙ k in ap (λ o. unwrap_or o 0) e

pub is_option : (o : Option ℕ) → (o ≡ None) ⊎ ((x : ℕ) × (o ≡ Some x))
is_option None = inl refl
is_option (Some x) = inr (x, refl)

pub not_both : (o : Option ℕ) (x : ℕ) (P : Type 0) → o ≡ None → o ≡ Some x → P
not_both o x P h k = let e : None ≡ Some x = sym h ∙ k in cc

value-map : (xs : List (Option ℕ)) (d : ℕ) → get_or (map (λ n. unwrap_or n 0) xs) d 0 ≡ unwrap_or (get_or xs d None) 0
value-map [] d = refl
value-map (x ∷ xs) zero = refl
value-map (x ∷ xs) (suc d) = value-map xs d

none_at : (n d : ℕ) → number_at (replicate n None) d ≡ None
none_at zero d = refl
none_at (suc n) zero = refl
none_at (suc n) (suc d) = none_at n d

module _ (edges : List EdgeRow) (us : List ℤ) (part : ℤ → List ℤ) (p : IsPartition us part) (there : (d : ℕ) → d < 2 * length edges → has_edge us (signed_edge edges d) ≡ true) where
  part_same : (d e : ℕ) → d < 2 * length edges → e < 2 * length edges → has_edge (part (signed_edge edges d)) (signed_edge edges e) ≡ true → (y : ℤ) → has_edge (part (signed_edge edges d)) y ≡ has_edge (part (signed_edge edges e)) y
  part_same d e h q on y = p.same (signed_edge edges d) (signed_edge edges e) (signed_edge edges e) (there d h) (there e q) on (p.own (signed_edge edges e) (there e q)) y

  part_back : (d e : ℕ) → d < 2 * length edges → e < 2 * length edges → has_edge (part (signed_edge edges d)) (signed_edge edges e) ≡ true → has_edge (part (signed_edge edges e)) (signed_edge edges d) ≡ true
  part_back d e h q on = sym (part_same d e h q on (signed_edge edges d)) ∙ p.own (signed_edge edges d) (there d h)

  module _ (k count : ℕ) (old new : List (Option ℕ)) (h : k < 2 * length edges) (before : FirstAreNumbered edges part k count old) (none : number_at old k ≡ None) (marked : DartsGetNumber edges (part (signed_edge edges k)) count old new) where
    read : (d x : ℕ) → d < 2 * length edges → number_at new d ≡ Some x → ((has_edge (part (signed_edge edges k)) (signed_edge edges d) ≡ true) × (x ≡ count)) ⊎ (number_at old d ≡ Some x)
    read d x q has = elim (cases_Bool (has_edge (part (signed_edge edges k)) (signed_edge edges d))) [
      | inl on ↦ inl (on, one_number (number_at new d) x count has (marked.inside d q on))
      | inr off ↦ inr (sym (marked.outside d q off) ∙ has)
    ]

    kept : (d x : ℕ) → d < 2 * length edges → number_at old d ≡ Some x → number_at new d ≡ Some x
    kept d x q has = elim (cases_Bool (has_edge (part (signed_edge edges k)) (signed_edge edges d))) [
      | inl on ↦ not_both (number_at old k) x _ none (before.whole d k x q h has (part_back k d h q on))
      | inr off ↦ marked.outside d q off ∙ has
    ]

    -- the darts before it have the numbers that they had
    earlier_read : (d x : ℕ) → d < k → number_at new d ≡ Some x → number_at old d ≡ Some x
    earlier_read d x lt has =
        let y = before.done d lt in
        let same = one_number (number_at new d) y.0 x (kept d y.0 (omega arith) y.1) has in
        subst (λ z. number_at old d ≡ Some z) same y.1

    own : number_at new k ≡ Some count
    own = marked.inside k h (p.own (signed_edge edges k) (there k h))

    below : (d x : ℕ) → d < 2 * length edges → number_at new d ≡ Some x → x < count + 1
    below d x q has = elim (read d x q has) [ inl is ↦ (let e = is.1 in omega arith) | inr was ↦ (let lt = before.below d x q was in omega arith) ]

    one : (d e x : ℕ) → d < 2 * length edges → e < 2 * length edges → number_at new d ≡ Some x → number_at new e ≡ Some x → has_edge (part (signed_edge edges d)) (signed_edge edges e) ≡ true
    one d e x q l has also = elim (read d x q has) [
      | inl is ↦ elim (read e x l also) [
        | inl too ↦ sym (part_same k d h q is.0 (signed_edge edges e)) ∙ too.0
        | inr was ↦ let lt = before.below e x l was in let s = is.1 in absurd (omega arith)
      ]
      | inr was ↦ elim (read e x l also) [
        | inl too ↦ let lt = before.below d x q was in let s = too.1 in absurd (omega arith)
        | inr both ↦ before.one d e x q l was both
      ]
    ]

    whole : (d e x : ℕ) → d < 2 * length edges → e < 2 * length edges → number_at new d ≡ Some x → has_edge (part (signed_edge edges d)) (signed_edge edges e) ≡ true → number_at new e ≡ Some x
    whole d e x q l has on = elim (read d x q has) [
      | inl is ↦ subst (λ z. number_at new e ≡ Some z) (sym is.1) (marked.inside e l (part_same k d h q is.0 (signed_edge edges e) ∙ on))
      | inr was ↦ kept e x l (before.whole d e x q l was on)
    ]

    first : (x : ℕ) → x < count + 1 → (d : ℕ) × (d < k + 1) × (number_at new d ≡ Some x) × ((e : ℕ) → e < d → number_at new e ≡ Some x → ⊥)
    first x lt = elim (cases_lt x count) [
      | inl old_one ↦
          let f = before.first x old_one in
          let f1 : f.0 < k = f.1 in
          (f.0, omega arith, kept f.0 x (omega arith) f.2, λ e le has. f.3 e le (earlier_read e x (omega arith) has))
      | inr ge ↦
          let is : x ≡ count = omega arith in
          (k, omega arith, subst (λ z. number_at new k ≡ Some z) (sym is) own, λ e le has. let b = before.below e x (omega arith) (earlier_read e x le has) in absurd (omega arith))
    ]

    earlier : (d x y : ℕ) → d < 2 * length edges → number_at new d ≡ Some x → y < x → (e : ℕ) × (e < d) × (number_at new e ≡ Some y)
    earlier d x y q has lt = elim (read d x q has) [
      | inl is ↦
          let s = is.1 in
          let f = before.first y (omega arith) in
          let f1 : f.0 < k = f.1 in
          elim (cases_lt d k) [
            | inl low ↦ let b = before.below d x q (earlier_read d x low has) in absurd (omega arith)
            | inr ge ↦ (f.0, omega arith, kept f.0 y (omega arith) f.2)
          ]
      | inr was ↦
          let f = before.earlier d x y q was lt in
          let f1 : f.0 < d = f.1 in
          (f.0, f.1, kept f.0 y (omega arith) f.2)
    ]

    pub numbered_next : FirstAreNumbered edges part (k + 1) (count + 1) new
    numbered_next =
        let f = before.few in
        record {
          size = marked.size ∙ before.size;
          few = omega arith;
          below = below;
          one = one;
          whole = whole;
          done = λ d lt. elim (cases_lt d k) [
            | inl low ↦ let x = before.done d low in (x.0, kept d x.0 (omega arith) x.1)
            | inr ge ↦ let is : k ≡ d = omega arith in (count, subst (λ z. number_at new z ≡ Some count) is own)
          ];
          first = first;
          earlier = earlier;
        }

  -- before the first dart
  pub numbered_none : (numbers : List (Option ℕ)) (n : ℕ) → n ≡ length edges → numbers ≡ replicate (2 * n) None → FirstAreNumbered edges part 0 0 numbers
  numbered_none numbers n n_is is = let none : (d : ℕ) → number_at numbers d ≡ None = λ d. ap (λ xs. number_at xs d) is ∙ none_at (2 * n) d in record {
    size = ap length is ∙ length-replicate (2 * n) None ∙ ap (λ k. 2 * k) n_is;
    few = omega arith;
    below = λ d x h has. not_both (number_at numbers d) x _ (none d) has;
    one = λ d e x h q has also. not_both (number_at numbers d) x _ (none d) has;
    whole = λ d e x h q has on. not_both (number_at numbers d) x _ (none d) has;
    done = λ d lt. absurd (omega arith);
    first = λ x lt. absurd (omega arith);
    earlier = λ d x y h has lt. not_both (number_at numbers d) x _ (none d) has;
  }

  -- where it has a number already
  pub numbered_skip : (k count x : ℕ) (numbers : List (Option ℕ)) → FirstAreNumbered edges part k count numbers → number_at numbers k ≡ Some x → FirstAreNumbered edges part (k + 1) count numbers
  numbered_skip k count x numbers before has =
      let f = before.few in
      record {
        size = before.size;
        few = omega arith;
        below = before.below;
        one = before.one;
        whole = before.whole;
        done = λ d lt. elim (cases_lt d k) [
          | inl low ↦ before.done d low
          | inr ge ↦ let is : k ≡ d = omega arith in (x, subst (λ z. number_at numbers z ≡ Some x) is has)
        ];
        first = λ y lt. (let g = before.first y lt in let g1 : g.0 < k = g.1 in (g.0, omega arith, g.2, g.3));
        earlier = before.earlier;
      }

  module _ (count : ℕ) (numbers : List (Option ℕ)) (all : FirstAreNumbered edges part (2 * length edges) count numbers) where
    values : List ℕ
    values = map (λ n. unwrap_or n 0) numbers

    value : (d : ℕ) → d < 2 * length edges → number_at numbers d ≡ Some (get_or (map (λ n. unwrap_or n 0) numbers) d 0)
    value d h = let x = all.done d h in x.1 ∙ ap Some (sym (value-map numbers d ∙ ap (λ o. unwrap_or o 0) x.1))

    is_value : (d x : ℕ) → number_at numbers d ≡ Some x → get_or (map (λ n. unwrap_or n 0) numbers) d 0 ≡ x
    is_value d x has = value-map numbers d ∙ ap (λ o. unwrap_or o 0) has

    pub numbered_all : ArePartNumbers edges part (record { count = count; of_darts = map (λ n. unwrap_or n 0) numbers })
    numbered_all =
        let size_is : length (map (λ n. unwrap_or n 0) numbers) ≡ 2 * length edges = length-map numbers (λ (n : Option ℕ). unwrap_or n 0) ∙ all.size in
        record {
          size = size_is;
          below = λ d h. all.below d _ h (value d h);
          same = λ d e h q. (
            λ is. all.one d e _ h q (value d h) (value e q ∙ ap Some (sym is)),
            λ on. sym (is_value e _ (all.whole d e _ h q (value d h) on)),
          );
          first = λ k lt.
              let f = all.first k lt in
              let f1 : f.0 < 2 * length edges = f.1 in
              (f.0, record { within = omega arith; has = is_value f.0 k f.2; none_before = λ d le has. f.3 d le (value d (omega arith) ∙ ap Some has) });
          in_order = λ j k d e lt first_d first_e.
              let w : e < 2 * length edges = (let a = first_e.within in omega arith) in
              let g = all.earlier e k j w (value e w ∙ ap Some first_e.has) lt in
              let g1 : g.0 < e = g.1 in
              elim (cases_lt d e) [
                | inl lower ↦ lower
                | inr ge ↦ absurd (first_d.none_before g.0 (omega arith) (is_value g.0 j g.2))
              ];
        }

    pub numbers_are : (n : Numbers) → n.count ≡ count → n.of_darts ≡ map (λ n. unwrap_or n 0) numbers → ArePartNumbers edges part n
    numbers_are n count_is of_darts_is =
        subst (λ k. ArePartNumbers edges part (record { count = k; of_darts = n.of_darts })) (sym count_is)
        (subst (λ v. ArePartNumbers edges part (record { count = count; of_darts = v })) (sym of_darts_is) numbered_all)
