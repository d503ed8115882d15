-- What stands round a gap: a pair of the same component. Two positions have one number exactly where they are beside
-- each other.
use Rattle.std.specs.Prelude.{option_map, filter, Contains, ◌++◌}
use Rattle.std.specs.List.{range_with_len}
use Rattle.std.proofs.Common.{◌≡◌, ℕ, zero, suc, ◌+◌, ◌-◌, ◌<◌, ◌≤◌, inl, inr, Bool, true, false, List, [], ◌∷◌, length, refl, ap, sym, ◌∙◌, arith, subst, Option, Some, None}
use Rattle.std.proofs.lemmas.Bool.{cases_lt, cases_Bool, cases_order, and_parts, both_ways}
use Rattle.bit_words.specs.Bits.{rank}
use Rattle.rank_select.proofs.Selects.{select-placed}
use Rattle.parens.specs.Matching.{is_open, close_of, is_from, is_enclosing, innermost}
use Rattle.parens.proofs.Enclosing.{from_some}
use Rattle.parens.proofs.Arcs.{IsArc, arc-close, close-arc, arc-opens, arc-closes}
use Rattle.code_laws.specs.Code.{Code, is_tree, parens, place, mate, component_of, end_of}
use Rattle.code_laws.specs.Numbers.{node_of, ring_of, node_or_root, shell_or_outer, enclosing_pair}
use Rattle.code_laws.specs.Orbits.{is_beside, orbit, from_on}
use Rattle.code_laws.specs.declared.ring_number.RingNumber.TheVariants.{Outer, Shell}
use Rattle.parens.proofs.Greatest.{greatest-find}
use Rattle.code_laws.proofs.Apart.{fewer}
use Rattle.code_laws.proofs.Places.{place_before, place_next}
use Rattle.code_laws.proofs.Steps.{IsIn, HasMate, Opens, Closes}
use Rattle.code_laws.proofs.Sound.{SoundParts, whole, all_places, places_within, in_one, is_component, mates}
use Rattle.code_laws.proofs.Mates.{one_place}
use Rattle.code_laws.proofs.Edges.{place_in}
use Rattle.code_laws.proofs.Beside.{AreBeside, beside-from, beside-to}
use Rattle.code_laws.proofs.Turned.{orbit_on}

-- the opening position of the pair round a gap
pub record IsRoundAt (c : Code) (kind : Bool) (p x o : ℕ) : Type 0 where
  pub within : o < length c.a
  pub kind_of : is_tree c o ≡ kind
  pub opens : is_open (parens c kind) (place c kind o) ≡ true
  pub number : rank true (parens c kind) (place c kind o) ≡ x
  pub component : component_of c o ≡ component_of c p

module _ (c : Code) (s : SoundParts c) (kind : Bool) where
  round_of : (p x : ℕ) → p < length c.a → (o : Option ℕ) → innermost (parens c kind) (place c kind p) ≡ o → option_map (rank true (parens c kind)) o ≡ Some x → (q : ℕ) × IsRoundAt c kind p x q
  unfolding innermost
  round_of p x l None e n = cc
  round_of p x l (Some i) e n =
      let bits = parens c kind in
      let g = greatest-find (is_enclosing bits (place c kind p)) (place c kind p) i e in
      let parts = and_parts (is_open bits i) (is_from (place c kind p) (close_of bits i)) g.passes in
      let close = from_some (place c kind p) (close_of bits i) parts.1 in
      let p_place = places_within c s.laid kind p (omega arith) in
      let i_in : i < length bits = omega (arith, g.below, p_place) in
      let arc = arc-close bits i close.0 parts.0 i_in close.1 in
      let all = all_places c s.laid kind in
      let q = select-placed kind c.a i (omega (arith, i_in, all)) in
      let at : q.0 < p = elim (cases_lt q.0 p) [ inl h ↦ h | inr h ↦ let v = place_before c kind p q.0 h in absurd (omega (arith, v, q.2.rank, g.below)) ] in
      let iq = in_one c s q.0 q.2.within in
      let same : rank true bits i ≡ x = same_some (rank true bits i) x n in
      let to : p < end_of c iq.0 = mated q.0 iq.0 iq.1 q.2.kind i close.0 q.2.rank arc p close.2 l (mates c s kind q.0 iq.0 iq.1 q.2.kind) in
      let p_is : component_of c p ≡ iq.0 = is_component c s p iq.0 iq.1.count (omega (arith, iq.1.from, at)) to in (
        q.0,
        record {
          within = q.2.within;
          kind_of = q.2.kind;
          opens = subst (λ y. is_open bits y ≡ true) (sym q.2.rank) parts.0;
          number = ap (rank true bits) q.2.rank ∙ same;
          component = iq.1.is ∙ sym p_is;
        },
      )
    where
      same_some : (x y : ℕ) → Some x ≡ Some y → x ≡ y
      same_some x y e = cc

      arc_end : (bits : List Bool) (i j x : ℕ) → IsArc bits i j → IsArc bits i x → j ≡ x
      arc_end bits i j x a b = same_some j x (sym (close-arc bits i j a) ∙ close-arc bits i x b)

      mated : (q m : ℕ) → IsIn c q m → is_tree c q ≡ kind → (i j : ℕ) → place c kind q ≡ i → IsArc (parens c kind) i j → (p : ℕ) → place c kind p ≤ j → p < length c.a → HasMate c kind q m → p < end_of c m
      mated q m i is x j e arc p low l (Opens r k a mate order inside) =
          let same : j ≡ k = arc_end (parens c kind) x j k arc (subst (λ y. IsArc (parens c kind) y k) e a) in
          elim (cases_lt r p) [
            | inl h ↦
                let next = place_next c kind r mate.within mate.is_kind in
                let v = place_before c kind (r + 1) p (omega arith) in
                absurd (omega (arith, next, v, low, same, mate.at_place))
            | inr h ↦ omega (arith, h, inside)
          ]
      mated q m i is x j e arc p low l (Closes r k a mate order from) =
          absurd (both_ways _ (arc-closes (parens c kind) k (place c kind q) a) (subst (λ y. is_open (parens c kind) y ≡ true) (sym e) (arc-opens (parens c kind) x j arc)))

  pub round_at : (p x : ℕ) → p < length c.a → enclosing_pair c kind p ≡ Some x → (q : ℕ) × IsRoundAt c kind p x q
  unfolding enclosing_pair
  round_at p x l e = round_of p x l (innermost (parens c kind) (place c kind p)) refl e

  -- one opening place has so many before it
  same_opening : (i j : ℕ) → i ≤ length (parens c kind) → j ≤ length (parens c kind) → is_open (parens c kind) i ≡ true → is_open (parens c kind) j ≡ true → rank true (parens c kind) i ≡ rank true (parens c kind) j → i ≡ j
  same_opening i j l m o x e =
      elim (cases_order i j) [
        | inl same ↦ same
        | inr other ↦ elim other [
          | inl less ↦ let v = fewer (parens c kind) (whole c s kind) i j less m o in absurd (omega (arith, v, e))
          | inr less ↦ let v = fewer (parens c kind) (whole c s kind) j i less l x in absurd (omega (arith, v, e))
        ]
      ]

  -- gaps with one pair round them are in one component
  pub one_component : (p q x : ℕ) → p < length c.a → q < length c.a → enclosing_pair c kind p ≡ Some x → enclosing_pair c kind q ≡ Some x → component_of c q ≡ component_of c p
  one_component p q x l m e f =
      let a = round_at p x l e in
      let b = round_at q x m f in
      let at_a = places_within c s.laid kind a.0 (let v = a.1.within in omega arith) in
      let at_b = places_within c s.laid kind b.0 (let v = b.1.within in omega arith) in
      let places = same_opening (place c kind a.0) (place c kind b.0) at_a at_b a.1.opens b.1.opens (a.1.number ∙ sym b.1.number) in
      let same = one_place c kind a.0 b.0 a.1.within b.1.within a.1.kind_of b.1.kind_of places in
      sym b.1.component ∙ ap (component_of c) (sym same) ∙ a.1.component

  -- such a number is below the number of pairs
  pub round_below : (p x : ℕ) → p < length c.a → enclosing_pair c kind p ≡ Some x → x < rank true (parens c kind) (length (parens c kind))
  round_below p x l e =
      let a = round_at p x l e in
      let w = place_in c s kind a.0 a.1.within a.1.kind_of in
      let v = fewer (parens c kind) (whole c s kind) (place c kind a.0) (length (parens c kind)) w (omega arith) a.1.opens in
      omega (arith, v, a.1.number)

shell-same : (i j : ℕ) → Shell i ≡ Shell j → i ≡ j
shell-same i j e = cc

outer-same : (i j : ℕ) → Outer i ≡ Outer j → i ≡ j
outer-same i j e = cc

module _ (c : Code) (s : SoundParts c) (p q : ℕ) (l : p < length c.a) (m : q < length c.a) where
  rings-beside : (o r : Option ℕ) → enclosing_pair c false p ≡ o → enclosing_pair c false q ≡ r → shell_or_outer c p o ≡ shell_or_outer c q r → AreBeside c false p q
  rings-beside None None e f h = record { component = sym (outer-same _ _ h); number = f ∙ sym e }
  rings-beside None (Some j) e f h = cc
  rings-beside (Some i) None e f h = cc
  rings-beside (Some i) (Some j) e f h =
      let same = shell-same i j h in
      let there : enclosing_pair c false q ≡ Some i = f ∙ ap Some (sym same) in
      record { component = one_component c s false p q i l m e there; number = there ∙ sym e }

  pub ring-beside : ring_of c p ≡ ring_of c q → AreBeside c false p q
  unfolding ring_of
  ring-beside h = rings-beside (enclosing_pair c false p) (enclosing_pair c false q) refl refl h

  beside-rings : (o r : Option ℕ) → r ≡ o → component_of c q ≡ component_of c p → shell_or_outer c p o ≡ shell_or_outer c q r
  beside-rings o r e m = subst (λ x. shell_or_outer c p o ≡ shell_or_outer c q x) (sym e) (at o)
    where
      at : (o : Option ℕ) → shell_or_outer c p o ≡ shell_or_outer c q o
      at None = ap Outer (sym m)
      at (Some j) = refl

  pub beside-ring : AreBeside c false p q → ring_of c p ≡ ring_of c q
  unfolding ring_of
  beside-ring b = beside-rings (enclosing_pair c false p) (enclosing_pair c false q) b.number b.component

  nodes-beside : (o r : Option ℕ) → enclosing_pair c true p ≡ o → enclosing_pair c true q ≡ r → node_or_root c p o ≡ node_or_root c q r → AreBeside c true p q
  nodes-beside None None e f h = record { component = sym h; number = f ∙ sym e }
  nodes-beside None (Some j) e f h = let i = in_one c s p l in absurd (omega (arith, h, i.1.count, i.1.is))
  nodes-beside (Some i) None e f h = let k = in_one c s q m in absurd (omega (arith, h, k.1.count, k.1.is))
  nodes-beside (Some i) (Some j) e f h =
      let same : j ≡ i = omega (arith, h) in
      let there : enclosing_pair c true q ≡ Some i = f ∙ ap Some same in
      record { component = one_component c s true p q i l m e there; number = there ∙ sym e }

  pub node-beside : node_of c p ≡ node_of c q → AreBeside c true p q
  unfolding node_of
  node-beside h = nodes-beside (enclosing_pair c true p) (enclosing_pair c true q) refl refl h

  beside-nodes : (o r : Option ℕ) → r ≡ o → component_of c q ≡ component_of c p → node_or_root c p o ≡ node_or_root c q r
  beside-nodes o r e m = subst (λ x. node_or_root c p o ≡ node_or_root c q x) (sym e) (at o)
    where
      at : (o : Option ℕ) → node_or_root c p o ≡ node_or_root c q o
      at None = sym m
      at (Some j) = refl

  pub beside-node : AreBeside c true p q → node_of c p ≡ node_of c q
  unfolding node_of
  beside-node b = beside-nodes (enclosing_pair c true p) (enclosing_pair c true q) b.number b.component

-- what is in a filtered list
in-filter : (test : ℕ → Bool) (xs : List ℕ) (x : ℕ) → Contains xs x → test x ≡ true → Contains (filter test xs) x
in-filter test [] x k t = absurd (omega (arith, k.1))
in-filter test (y ∷ xs) x (zero, l, e) t =
    let same : y ≡ x = e in
    rw (subst (λ z. test z ≡ true) (sym same) t) (0, omega arith, same)
in-filter test (y ∷ xs) x (suc k, l, e) t =
    let more = in-filter test xs x (k, omega arith, e) t in
    elim (cases_Bool (test y)) [
      | inl w ↦ rw w (suc more.0, omega (arith, more.1), more.2)
      | inr f ↦ rw f more
    ]

at_head : (test : ℕ → Bool) (y : ℕ) (xs : List ℕ) (x : ℕ) → test y ≡ true → (Contains (filter test xs) x → test x ≡ true) → Contains (y ∷ filter test xs) x → test x ≡ true
at_head test y xs x w more (zero, l, e) = subst (λ z. test z ≡ true) e w
at_head test y xs x w more (suc i, l, e) = more (i, omega arith, e)

of-filter : (test : ℕ → Bool) (xs : List ℕ) (x : ℕ) → Contains (filter test xs) x → test x ≡ true
of-filter test [] x k = absurd (omega (arith, k.1))
of-filter test (y ∷ xs) x k =
    elim (cases_Bool (test y)) [
      | inl w ↦ at_head test y xs x w (of-filter test xs x) (rw w at k)
      | inr f ↦ of-filter test xs x (rw f at k)
    ]

in-append-left : (xs ys : List ℕ) (x : ℕ) → Contains xs x → Contains (xs ++ ys) x
in-append-left [] ys x k = absurd (omega (arith, k.1))
in-append-left (y ∷ xs) ys x (zero, l, e) = (0, omega arith, e)
in-append-left (y ∷ xs) ys x (suc k, l, e) = let more = in-append-left xs ys x (k, omega arith, e) in (suc more.0, omega (arith, more.1), more.2)

in-append-right : (xs ys : List ℕ) (x : ℕ) → Contains ys x → Contains (xs ++ ys) x
in-append-right [] ys x k = k
in-append-right (y ∷ xs) ys x k = let more = in-append-right xs ys x k in (suc more.0, omega (arith, more.1), more.2)

in-range : (low n x : ℕ) → low ≤ x → x < low + n → Contains (range_with_len low n) x
in-range low zero x l h = absurd (omega arith)
in-range low (suc n) x l h =
    elim (cases_lt low x) [
      | inl m ↦ let more = in-range (low + 1) n x (omega arith) (omega arith) in (suc more.0, omega (arith, more.1), more.2)
      | inr g ↦ (0, omega arith, omega arith)
    ]

on_all : (c : Code) (p q : ℕ) → p < length c.a → q < length c.a → Contains (from_on c p) q
on_all c p q l m =
    elim (cases_lt q p) [
      | inl h ↦ in-append-right (range_with_len p (length c.a - p)) (range_with_len 0 p) q (in-range 0 p q (omega arith) (omega arith))
      | inr h ↦ in-append-left (range_with_len p (length c.a - p)) (range_with_len 0 p) q (in-range p (length c.a - p) q h (omega arith))
    ]

pub in_orbit : (c : Code) → SoundParts c → (kind : Bool) (p q : ℕ) → p < length c.a → q < length c.a → AreBeside c kind p q → Contains (orbit c kind p) q
in_orbit c s kind p q l m b =
    subst (λ (xs : List ℕ). Contains xs q) (sym (orbit_on c s kind p l)) (in-filter (is_beside c kind p) (from_on c p) q (on_all c p q l m) (beside-to c kind p q b))

pub of_orbit : (c : Code) → SoundParts c → (kind : Bool) (p q : ℕ) → p < length c.a → Contains (orbit c kind p) q → AreBeside c kind p q
of_orbit c s kind p q l k =
    beside-from c kind p q (of-filter (is_beside c kind p) (from_on c p) q (subst (λ (xs : List ℕ). Contains xs q) (orbit_on c s kind p l) k))
