-- A step back undoes a step, and a step undoes a step back.
use Rattle.std.proofs.Common.{◌≡◌, ◌≢◌, ℕ, ◌+◌, ◌-◌, ◌<◌, inl, inr, Bool, length, refl, ap, sym, ◌∙◌, arith, subst}
use Rattle.std.proofs.lemmas.Bool.{cases_eq, eq-eqb, ne_eqb}
use Rattle.rank_select.proofs.Selects.{cases_kind}
use Rattle.code_laws.specs.Code.{Code, is_tree, mate, over, after, before, step, step_back, component_of, start_of, end_of}
use Rattle.code_laws.specs.Laws.{StepLaws}
use Rattle.code_laws.proofs.Places.{over_mate, over_other}
use Rattle.code_laws.proofs.Steps.{IsIn, after_next, after_last}
use Rattle.code_laws.proofs.Sound.{SoundParts, in_one, is_component}
use Rattle.code_laws.proofs.Edges.{laws}
use Rattle.code_laws.proofs.Beside.{step_beside}

pub before_first : (c : Code) (x m : ℕ) → component_of c x ≡ m → x ≡ start_of c m → before c x ≡ end_of c m - 1
unfolding before
before_first c x m is h = rw is (rw (eq-eqb _ _ h) refl)

pub before_other : (c : Code) (x m : ℕ) → component_of c x ≡ m → x ≢ start_of c m → before c x ≡ x - 1
unfolding before
before_other c x m is h = rw is (rw (ne_eqb _ _ h) refl)

module _ (c : Code) (s : SoundParts c) where
  before-after : (p m : ℕ) → IsIn c p m → before c (after c p) ≡ p
  before-after p m i =
      elim (cases_eq (p + 1) (end_of c m)) [
        | inl e ↦
            let at_start = is_component c s (start_of c m) m i.count (omega arith) (omega (arith, i.from, i.to)) in
            let up = after_last c p m i.is e in
            let back = before_first c (start_of c m) m at_start refl in
            ap (before c) up ∙ back ∙ omega (arith, e)
        | inr e ↦
            let there = is_component c s (p + 1) m i.count (omega (arith, i.from)) (omega (arith, i.to, e)) in
            let up = after_next c p m i.is e in
            let back = before_other c (p + 1) m there (λ x. omega (arith, x, i.from)) in
            ap (before c) up ∙ back ∙ omega arith
      ]

  before_in : (p m : ℕ) → IsIn c p m → (x : ℕ) × (before c p ≡ x) × (x < length c.a) × (component_of c x ≡ m) × (after c x ≡ p)
  before_in p m i =
      elim (cases_eq p (start_of c m)) [
        | inl e ↦
            let x = end_of c m - 1 in
            let is = is_component c s x m i.count (omega (arith, i.from, i.to)) (omega (arith, i.from, i.to)) in
            (x, before_first c p m i.is e, omega (arith, i.from, i.to, i.within), is, after_last c x m is (omega (arith, i.from, i.to)) ∙ sym e)
        | inr e ↦
            let x = p - 1 in
            let is = is_component c s x m i.count (omega (arith, i.from, e)) (omega (arith, i.to)) in
            let up : x + 1 ≡ p = omega (arith, i.from, e) in
            (x, before_other c p m i.is e, omega (arith, i.to, i.within), is, after_next c x m is (λ z. omega (arith, z, up, i.to)) ∙ up)
      ]

  over-over : (kind : Bool) (p : ℕ) → p < length c.a → over c kind (over c kind p) ≡ p
  over-over kind p l =
      elim (cases_kind kind (is_tree c p)) [
        | inl is ↦
            let g = laws c s p l in
            ap (over c kind) (over_mate c kind p is) ∙ over_mate c kind (mate c p) (g.kind ∙ is) ∙ g.back
        | inr other ↦ ap (over c kind) (over_other c kind p other) ∙ over_other c kind p other
      ]

  over_in : (kind : Bool) (p : ℕ) → p < length c.a → (over c kind p < length c.a) × (component_of c (over c kind p) ≡ component_of c p)
  over_in kind p l =
      elim (cases_kind kind (is_tree c p)) [
        | inl is ↦
            let g = laws c s p l in
            let e = over_mate c kind p is in
            subst (λ x. (x < length c.a) × (component_of c x ≡ component_of c p)) (sym e) (g.within, g.component)
        | inr other ↦
            let e = over_other c kind p other in
            subst (λ x. (x < length c.a) × (component_of c x ≡ component_of c p)) (sym e) (l, refl)
      ]

  pub step_laws : (kind : Bool) (p : ℕ) → p < length c.a → StepLaws c kind p
  step_laws kind p l =
      let o = over_in kind p l in
      let i = in_one c s (over c kind p) o.0 in
      let p_in = in_one c s p l in
      let b = before_in p p_in.0 p_in.1 in
      let back_in = over_in kind b.0 b.2 in
      let beside = step_beside c s kind p l in
      let at_back : step_back c kind p ≡ over c kind b.0 = ap (over c kind) b.1 in
      record {
        within = beside.0;
        within_back = subst (λ x. x < length c.a) (sym at_back) back_in.0;
        back = ap (over c kind) (before-after (over c kind p) i.0 i.1) ∙ over-over kind p l;
        forth = ap (step c kind) at_back ∙ ap (after c) (over-over kind b.0 b.2) ∙ b.4;
        component = beside.1.component;
        number = beside.1.number;
      }
