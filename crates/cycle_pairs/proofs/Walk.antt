-- A walk w 0, w 1, .., w n that goes along each pair once in each direction, and stays where a point has no pair. Each
-- new place is reached by the first step of a pair, so with as many places as can be, each second step goes back along
-- the step that was opened last.
use Rattle.std.proofs.Common.{◌≡◌, ℕ, zero, suc, ◌<◌, ◌≤◌, Bool, true, false, cond, ltb, eqb, List, [], ◌∷◌, ◌⊎◌, inl, inr, ⊎_elim, refl, sym, ap, ◌∙◌, subst, arith}
use Rattle.std.proofs.lemmas.Bool.{false≢true, ltb-false, lt-ltb, eqb-true, eq-eqb, or_cases, or_left, or_right, cases_lt, cases_eq}
use Rattle.cycle_pairs.specs.Pairs.{IsPairing, pairs, is_used, colours}

pub used_true : (c : ℕ → ℕ) (v k : ℕ) → is_used c v k ≡ true → (j : ℕ) × (j < k) × (c j ≡ v)
used_true c v zero h = absurd (false≢true h)
used_true c v (suc k) h =
    ⊎_elim
    (λ e. (k, omega arith, eqb-true (c k) v e))
    (λ e. let r : (j : ℕ) × (j < k) × (c j ≡ v) = used_true c v k e in (r.0, omega arith, r.2))
    (or_cases (eqb (c k) v) (is_used c v k) h)

pub used_from : (c : ℕ → ℕ) (v k j : ℕ) → j < k → c j ≡ v → is_used c v k ≡ true
used_from c v zero j lt e = absurd (omega arith)
used_from c v (suc k) j lt e =
    ⊎_elim
    (λ same. or_left (eqb (c k) v) (is_used c v k) (eq-eqb (c k) v (ap c (sym same) ∙ e)))
    (λ other. or_right (eqb (c k) v) (is_used c v k) (used_from c v k j (omega arith) e))
    (cases_eq j k)

pub unused : (c : ℕ → ℕ) (v k j : ℕ) → is_used c v k ≡ false → j < k → c j ≡ v → ⊥
unused c v k j h lt e = false≢true (sym h ∙ used_from c v k j lt e)

-- each first step below k leads to a new place
abbrev pub AllFresh : (ℕ → ℕ) → (ℕ → ℕ) → ℕ → Type 0
AllFresh mate w k = (i : ℕ) → i < k → i < mate i → is_used w (w (suc i)) (suc i) ≡ false

count_step : (first used : Bool) (c o : ℕ) → c ≤ suc o → (first ≡ false → used ≡ true) → cond used c (suc c) ≤ suc (cond first (suc o) o)
count_step true true c o h back = omega arith
count_step true false c o h back = omega arith
count_step false true c o h back = omega arith
count_step false false c o h back = absurd (false≢true (back refl))

tight_step : (first used : Bool) (c o : ℕ) → c ≤ suc o → (first ≡ false → used ≡ true) → suc (cond first (suc o) o) ≤ cond used c (suc c) → (suc o ≤ c) × (first ≡ true → used ≡ false)
tight_step true true c o h back e = absurd (omega arith)
tight_step true false c o h back e = (omega arith, λ _. refl)
tight_step false true c o h back e = (omega arith, λ t. absurd (false≢true t))
tight_step false false c o h back e = absurd (false≢true (back refl))

abbrev pub In : ℕ → List ℕ → Type 0
In i [] = ⊥
In i (j ∷ r) = (i ≡ j) ⊎ In i r

abbrev pub IsHeadOf : ℕ → List ℕ → Type 0
IsHeadOf i [] = ⊥
IsHeadOf i (j ∷ r) = i ≡ j

-- the steps that are open where the walk stands at v before step b, the last one first
abbrev pub IsStack : (ℕ → ℕ) → (ℕ → ℕ) → List ℕ → ℕ → ℕ → Type 0
IsStack mate w [] v b = Unit {0}
IsStack mate w (j ∷ r) v b = (v ≡ w (suc j)) × (j < b) × (j < mate j) × IsStack mate w r (w j) j

pub in_below : (mate w : ℕ → ℕ) (st : List ℕ) (v b i : ℕ) → IsStack mate w st v b → In i st → i < b
in_below mate w [] v b i s m = absurd m
in_below mate w (j ∷ r) v b i s m =
    ⊎_elim (λ e. let h : j < b = s.1 in omega arith)
    (λ n. let h : j < b = s.1 in let l : i < j = in_below mate w r (w j) j i s.3 n in omega arith) m

pub weaken : (mate w : ℕ → ℕ) (st : List ℕ) (v v' b b' : ℕ) → v ≡ v' → b ≤ b' → IsStack mate w st v b → IsStack mate w st v' b'
weaken mate w [] v v' b b' e le s = tt
weaken mate w (j ∷ r) v v' b b' e le s = let h : j < b = s.1 in (sym e ∙ s.0, omega arith, s.2, s.3)

pub first_is_last : (mate w : ℕ → ℕ) (st : List ℕ) (v b i j : ℕ) → IsStack mate w st v b → IsHeadOf i st → In j st → j ≤ i
first_is_last mate w [] v b i j s f m = absurd f
first_is_last mate w (t ∷ r) v b i j s f m =
    ⊎_elim (λ e. let h : i ≡ t = f in omega arith)
    (λ deep. let h : i ≡ t = f in let l : j < t = in_below mate w r (w t) t j s.3 deep in omega arith) m

abbrev pub IsWalk : ℕ → (ℕ → ℕ) → (ℕ → ℕ) → Type 0
IsWalk n mate w = (i : ℕ) → i < n → w (suc (mate i)) ≡ w i

module _ (n : ℕ) (mate w : ℕ → ℕ) (p : IsPairing n mate) (walk : IsWalk n mate w) where
  -- a second step leads to where its first step came from
  back_used : (k : ℕ) → k < n → ltb k (mate k) ≡ false → is_used w (w (suc k)) (suc k) ≡ true
  back_used k lt e =
      let le : mate k ≤ k = ltb-false k (mate k) e in
      let at : w (suc (mate (mate k))) ≡ w (mate k) = walk (mate k) (p.in_range k lt) in
      let at_k : w (suc k) ≡ w (mate k) = ap (λ x. w (suc x)) (sym (p.back k lt)) ∙ at in
      used_from w (w (suc k)) (suc k) (mate k) (omega arith) (sym at_k)

  pub counted : (k : ℕ) → k ≤ n → (colours w (suc k) ≤ suc (pairs mate k)) × (suc (pairs mate k) ≤ colours w (suc k) → AllFresh mate w k)
  counted zero le = (omega arith, λ _ i lt. absurd (omega arith))
  counted (suc k) le =
      let ih : (colours w (suc k) ≤ suc (pairs mate k)) × (suc (pairs mate k) ≤ colours w (suc k) → AllFresh mate w k) = counted k (omega arith) in
      let back : ltb k (mate k) ≡ false → is_used w (w (suc k)) (suc k) ≡ true = back_used k le in (
        count_step (ltb k (mate k)) (is_used w (w (suc k)) (suc k)) (colours w (suc k)) (pairs mate k) ih.0 back,
        λ e i lt first.
            let t : (suc (pairs mate k) ≤ colours w (suc k)) × (ltb k (mate k) ≡ true → is_used w (w (suc k)) (suc k) ≡ false) =
            tight_step (ltb k (mate k)) (is_used w (w (suc k)) (suc k)) (colours w (suc k)) (pairs mate k) ih.0 back e in
            ⊎_elim
            (λ same. subst (λ x. x < mate x → is_used w (w (suc x)) (suc x) ≡ false) (sym same) (λ f. t.1 (lt-ltb k (mate k) f)) first)
            (λ other. ih.1 t.0 i (omega arith) first)
            (cases_eq i k),
      )

  module _ (fresh : AllFresh mate w n) where
    -- a second step closes the step that was opened last
    pub closes_last : (k : ℕ) → k < n → (st : List ℕ) → IsStack mate w st (w k) k → In (mate k) st → IsHeadOf (mate k) st
    closes_last k lt [] s m = absurd m
    closes_last k lt (j ∷ r) s m =
        ⊎_elim (λ e. e)
        (λ deep.
        let below : mate k < j = in_below mate w r (w j) j (mate k) s.3 deep in
        let before : j < k = s.1 in
        let same : w (suc (mate k)) ≡ w (suc j) = walk k lt ∙ s.0 in
        absurd (unused w (w (suc j)) (suc j) (suc (mate k)) (fresh j (omega arith) s.2) (omega arith) same))
        m

    closed : (k : ℕ) → k < n → mate k < k → (st : List ℕ) → IsStack mate w st (w k) k → ((i : ℕ) → i < k → k ≤ mate i → In i st) → IsHeadOf (mate k) st → (st' : List ℕ) × IsStack mate w st' (w (suc k)) (suc k) × ((i : ℕ) → i < suc k → suc k ≤ mate i → In i st')
    closed k lt second [] s all f = absurd f
    closed k lt second (j ∷ r) s all f =
        let before : j < k = s.1 in
        let is_j : mate k ≡ j = f in
        let at : w (suc (mate (mate k))) ≡ w (mate k) = walk (mate k) (p.in_range k lt) in
        let at_k : w (suc k) ≡ w (mate k) = ap (λ x. w (suc x)) (sym (p.back k lt)) ∙ at in
        let mate_j : mate j ≡ k = ap mate (sym is_j) ∙ p.back k lt in (
          r,
          weaken mate w r (w j) (w (suc k)) j (suc k) (ap w (sym is_j) ∙ sym at_k) (omega arith) s.3,
          λ i i_lt opened.
              ⊎_elim
              (λ same. let m : mate i ≡ mate k = ap mate same in absurd (omega arith))
              (λ other. ⊎_elim
              (λ e. let m : mate i ≡ mate j = ap mate e in absurd (omega arith))
              (λ deep. deep)
              (all i (omega arith) (omega arith)))
              (cases_eq i k),
        )

    pub stack_at : (k : ℕ) → k ≤ n → (st : List ℕ) × IsStack mate w st (w k) k × ((i : ℕ) → i < k → k ≤ mate i → In i st)
    stack_at zero le = ([], tt, λ i lt. absurd (omega arith))
    stack_at (suc k) le =
        let ih : (st : List ℕ) × IsStack mate w st (w k) k × ((i : ℕ) → i < k → k ≤ mate i → In i st) = stack_at k (omega arith) in
        ⊎_elim
        (λ first. (
          k ∷ ih.0,
          (refl, omega arith, first, ih.1),
          λ i lt opened. ⊎_elim (λ same. inl same) (λ other. inr (ih.2 i (omega arith) (omega arith))) (cases_eq i k),
        ))
        (λ not_first. ⊎_elim
        (λ alone. (
          ih.0,
          weaken mate w ih.0 (w k) (w (suc k)) k (suc k) (sym (ap (λ x. w (suc x)) (sym alone) ∙ walk k le)) (omega arith) ih.1,
          λ i lt opened. ⊎_elim (λ same. let m : mate i ≡ mate k = ap mate same in absurd (omega arith)) (λ other. ih.2 i (omega arith) (omega arith)) (cases_eq i k),
        ))
        (λ paired.
        let lower : mate k < k = omega arith in
        let back : mate (mate k) ≡ k = p.back k le in
        closed k le lower ih.0 ih.1 ih.2 (closes_last k le ih.0 ih.1 (ih.2 (mate k) lower (omega arith))))
        (cases_eq (mate k) k))
        (cases_lt k (mate k))

    pub nests : (i j : ℕ) → i < j → j < n → j < mate i → mate i < mate j → ⊥
    nests i j ij jn inside cross =
        let k_lt : mate i < n = p.in_range i (omega arith) in
        let back : mate (mate i) ≡ i = p.back i (omega arith) in
        let at : (st : List ℕ) × IsStack mate w st (w (mate i)) (mate i) × ((l : ℕ) → l < mate i → mate i ≤ mate l → In l st) = stack_at (mate i) (omega arith) in
        let i_in : In (mate (mate i)) at.0 = at.2 (mate (mate i)) (omega arith) (omega (arith, ap mate back)) in
        let j_in : In j at.0 = at.2 j inside (omega arith) in
        let first : IsHeadOf (mate (mate i)) at.0 = closes_last (mate i) k_lt at.0 at.1 i_in in
        let le : j ≤ mate (mate i) = first_is_last mate w at.0 (w (mate i)) (mate i) (mate (mate i)) j at.1 first j_in in
        omega arith
