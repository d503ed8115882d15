-- A step stays in the component and keeps the number.
use Rattle.std.specs.Prelude.{find}
use Rattle.std.proofs.Common.{◌≡◌, ℕ, ◌+◌, ◌<◌, inl, inr, Bool, true, false, ◌&&◌, length, refl, sym, ◌∙◌, arith, subst, Option, Some, None, ◌==◌}
use Rattle.std.specs.List.{range_with_len}
use Rattle.std.proofs.lemmas.Bool.{and_parts, and_from, eqb-true, eq-eqb, both_ways}
use Rattle.bit_words.proofs.Finds.{IsLeast, least-find, none-find}
use Rattle.code_laws.specs.Code.{Code, step, component_of, next, turn}
use Rattle.code_laws.specs.Numbers.{node_of, ring_of, node_or_root, shell_or_outer, enclosing_pair}
use Rattle.code_laws.specs.Orbits.{same_number, is_beside}
use Rattle.code_laws.proofs.Walks.{Goes}
use Rattle.code_laws.proofs.Steps.{same_number-self, same_number-true, goes}
use Rattle.code_laws.proofs.Sound.{SoundParts, is_well}

-- two positions with one component and one number of a kind
pub record AreBeside (c : Code) (kind : Bool) (p q : ℕ) : Type 0 where
  pub component : component_of c q ≡ component_of c p
  pub number : enclosing_pair c kind q ≡ enclosing_pair c kind p

pub beside-from : (c : Code) (kind : Bool) (p q : ℕ) → is_beside c kind p q ≡ true → AreBeside c kind p q
beside-from c kind p q h =
    let parts = and_parts (component_of c p == component_of c q) (same_number (enclosing_pair c kind p) (enclosing_pair c kind q)) h in
    record { component = sym (eqb-true _ _ parts.0); number = sym (same_number-true _ _ parts.1) }

pub beside-to : (c : Code) (kind : Bool) (p q : ℕ) → AreBeside c kind p q → is_beside c kind p q ≡ true
beside-to c kind p q b = and_from _ _ (eq-eqb _ _ (sym b.component)) (subst (λ o. same_number (enclosing_pair c kind p) o ≡ true) (sym b.number) (same_number-self (enclosing_pair c kind p)))

pub beside-self : (c : Code) (kind : Bool) (p : ℕ) → is_beside c kind p p ≡ true
beside-self c kind p = beside-to c kind p p (record { component = refl; number = refl })

first_at : (c : Code) (kind : Bool) (p : ℕ) → p < length c.a → (o : Option ℕ) → find (is_beside c kind p) (range_with_len 0 (length c.a)) ≡ o → (f : ℕ) × IsLeast (is_beside c kind p) 0 (0 + length c.a) f
first_at c kind p l None e = absurd (both_ways _ (none-find (is_beside c kind p) 0 (length c.a) e p (omega arith) (omega (arith, l))) (beside-self c kind p))
first_at c kind p l (Some f) e = (f, least-find (is_beside c kind p) 0 (length c.a) f e)

-- the first position beside p
pub first_beside : (c : Code) (kind : Bool) (p : ℕ) → p < length c.a → (f : ℕ) × IsLeast (is_beside c kind p) 0 (0 + length c.a) f
first_beside c kind p l = first_at c kind p l (find (is_beside c kind p) (range_with_len 0 (length c.a))) refl

goes_beside : (c : Code) (kind : Bool) (f p q : ℕ) → Goes (is_beside c kind f) (length c.a) f p q → f < length c.a → (q < length c.a) × AreBeside c kind f q
goes_beside c kind f p q (inl a) l = (a.within, beside-from c kind f q a.passes)
goes_beside c kind f p q (inr e) l = (subst (λ x. x < length c.a) (sym e.0) l, subst (AreBeside c kind f) (sym e.0) (record { component = refl; number = refl }))

pub step_beside : (c : Code) → SoundParts c → (kind : Bool) (p : ℕ) → p < length c.a → (step c kind p < length c.a) × AreBeside c kind p (step c kind p)
step_beside c s kind p l =
    let w = is_well c s in
    let f = first_beside c kind p l in
    let to_first = beside-from c kind p f.0 f.1.passes in
    let back = beside-to c kind f.0 p (record { component = sym to_first.component; number = sym to_first.number }) in
    let i = w.in_one p l in
    let f_in : f.0 < length c.a = omega (arith, f.1.within) in
    let before : (y : ℕ) → y < f.0 → is_beside c kind f.0 y ≡ false
    = λ y b. not_beside c kind p f.0 y to_first (f.1.before y (omega arith) b) in
    let r = goes_beside c kind f.0 p (step c kind p) (goes c w kind f.0 f_in before p i.0 i.1 back) f_in in
    (r.0, record { component = r.1.component ∙ to_first.component; number = r.1.number ∙ to_first.number })
  where
    not_beside : (c : Code) (kind : Bool) (p f y : ℕ) → AreBeside c kind p f → is_beside c kind p y ≡ false → is_beside c kind f y ≡ false
    not_beside c kind p f y b h =
        subst (λ m. ((m == component_of c y) && same_number (enclosing_pair c kind f) (enclosing_pair c kind y)) ≡ false) (sym b.component)
        (subst (λ o. ((component_of c p == component_of c y) && same_number o (enclosing_pair c kind y)) ≡ false) (sym b.number) h)

pub next_ring : (c : Code) → SoundParts c → (p : ℕ) → p < length c.a → (next c p < length c.a) × (ring_of c (next c p) ≡ ring_of c p)
unfolding ring_of
next_ring c s p l =
    let b = step_beside c s false p l in
    (b.0, shells (enclosing_pair c false p) (enclosing_pair c false (next c p)) b.1.number b.1.component)
  where
    shells : (o r : Option ℕ) → r ≡ o → component_of c (next c p) ≡ component_of c p → shell_or_outer c (next c p) r ≡ shell_or_outer c p o
    shells o r e m = subst (λ x. shell_or_outer c (next c p) x ≡ shell_or_outer c p o) (sym e) (at o m)
      where
        at : (o : Option ℕ) → component_of c (next c p) ≡ component_of c p → shell_or_outer c (next c p) o ≡ shell_or_outer c p o
        at None m = rw m refl
        at (Some j) m = refl

pub turn_node : (c : Code) → SoundParts c → (p : ℕ) → p < length c.a → (turn c p < length c.a) × (node_of c (turn c p) ≡ node_of c p)
unfolding node_of
turn_node c s p l =
    let b = step_beside c s true p l in
    (b.0, nodes (enclosing_pair c true p) (enclosing_pair c true (turn c p)) b.1.number b.1.component)
  where
    nodes : (o r : Option ℕ) → r ≡ o → component_of c (turn c p) ≡ component_of c p → node_or_root c (turn c p) r ≡ node_or_root c p o
    nodes o r e m = subst (λ x. node_or_root c (turn c p) x ≡ node_or_root c p o) (sym e) (at o m)
      where
        at : (o : Option ℕ) → component_of c (turn c p) ≡ component_of c p → node_or_root c (turn c p) o ≡ node_or_root c p o
        at None m = m
        at (Some j) m = refl
