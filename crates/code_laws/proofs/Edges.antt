-- The first position of each edge.
use Rattle.std.specs.Prelude.{not}
use Rattle.std.proofs.Common.{◌≡◌, ℕ, ◌+◌, ◌-◌, ◌*◌, ◌/◌, ◌<◌, ◌≤◌, ◌⊎◌, inl, inr, Bool, true, false, List, length, refl, ap, sym, ◌∙◌, arith, Some, ◌==◌, IsTrue}
use Rattle.std.proofs.lemmas.Bool.{cases_lt, cases_Bool, cases_order, both_ways, eqb-true, eq-eqb, false_from_ne_true}
use Rattle.std.proofs.lemmas.Int.{ints}
use Rattle.bit_words.specs.Bits.{rank, excess}
use Rattle.bit_words.proofs.Ranks.{rank_both}
use Rattle.bit_words.proofs.Finds.{find-least}
use Rattle.rank_select.proofs.Selects.{select-placed}
use Rattle.parens.proofs.Balances.{IsBalanced}
use Rattle.parens.specs.Matching.{is_open, pair_number}
use Rattle.parens.proofs.Arcs.{IsArc, arc-opens}
use Rattle.code_laws.specs.Code.{Code, is_tree, is_first, parens, place, mate}
use Rattle.code_laws.specs.Numbers.{edge_of, tree_edges, first_of_edge}
use Rattle.code_laws.specs.SeqFault.{is_sound}
use Rattle.code_laws.proofs.Apart.{fewer}
use Rattle.code_laws.proofs.Places.{place_next}
use Rattle.code_laws.proofs.Steps.{IsIn, HasMate, Opens, Closes}
use Rattle.code_laws.proofs.Sound.{SoundParts, sound_parts, all_places, whole, places_within, mates, in_one}
use Rattle.code_laws.proofs.Mates.{one_place, first_at, laws_at}
use Rattle.code_laws.specs.Laws.{MateLaws}

abbrev pub before_kind : Code → Bool → ℕ
before_kind c true = 0
before_kind c false = tree_edges c

number_open : (bits : List Bool) (i : ℕ) → is_open bits i ≡ true → pair_number bits i ≡ rank true bits i
unfolding pair_number
number_open bits i opens = rw opens refl

pub edge_of_kind : (c : Code) (kind : Bool) (p : ℕ) → is_tree c p ≡ kind → is_open (parens c kind) (place c kind p) ≡ true → edge_of c p ≡ before_kind c kind + rank true (parens c kind) (place c kind p)
unfolding edge_of
edge_of_kind c true p is opens = rw is (rw (number_open c.tree (place c true p) opens) (omega arith))
edge_of_kind c false p is opens = rw is (rw (number_open c.dual (place c false p) opens) refl)

-- as many close as open
pub closed : (bits : List Bool) → IsBalanced bits → rank false bits (length bits) ≡ rank true bits (length bits)
unfolding excess
closed bits b = let e = b.end in omega (arith, ints, e)

pub half : (bits : List Bool) → IsBalanced bits → rank true bits (length bits) ≡ length bits / 2
half bits b = let r = rank_both bits (length bits) (omega arith) in let e = closed bits b in omega (arith, r, e)

module _ (c : Code) (s : SoundParts c) where
  pub open_place : (kind : Bool) (p : ℕ) → p < length c.a → is_tree c p ≡ kind → is_first c p ≡ true → is_open (parens c kind) (place c kind p) ≡ true
  open_place kind p l is f = sym (first_at c kind p (place c kind p) is refl) ∙ f

  pub place_in : (kind : Bool) (p : ℕ) → p < length c.a → is_tree c p ≡ kind → place c kind p < length (parens c kind)
  place_in kind p l is = let n = place_next c kind p l is in let w = places_within c s.laid kind (p + 1) (omega arith) in omega (arith, n, w)

  -- edges of the tree come first
  pub tree_below : (p : ℕ) → p < length c.a → is_tree c p ≡ true → is_first c p ≡ true → edge_of c p < tree_edges c
  tree_below p l is f =
      let o = open_place true p l is f in
      let e = edge_of_kind c true p is o in
      let w = place_in true p l is in
      let m = fewer c.tree (whole c s true) (place c true p) (length c.tree) w (omega arith) o in
      let h = half c.tree (whole c s true) in
      omega (arith, e, m, h)

  pub other_from : (p : ℕ) → p < length c.a → is_tree c p ≡ false → is_first c p ≡ true → tree_edges c ≤ edge_of c p
  other_from p l is f = let o = open_place false p l is f in let e = edge_of_kind c false p is o in omega (arith, e)

  same_kind : (kind : Bool) (p q : ℕ) → p < length c.a → q < length c.a → is_tree c p ≡ kind → is_tree c q ≡ kind → is_first c p ≡ true → is_first c q ≡ true → edge_of c p ≡ edge_of c q → p ≡ q
  same_kind kind p q l m is at f g e =
      let o = open_place kind p l is f in
      let x = open_place kind q m at g in
      let u = edge_of_kind c kind p is o in
      let v = edge_of_kind c kind q at x in
      one_place c kind p q l m is at (elim (cases_order (place c kind p) (place c kind q)) [
        | inl same ↦ same
        | inr other ↦ elim other [
          | inl less ↦ let w = place_in kind q m at in let n = fewer (parens c kind) (whole c s kind) (place c kind p) (place c kind q) less (omega (arith, w)) o in absurd (omega (arith, n, u, v, e))
          | inr less ↦ let w = place_in kind p l is in let n = fewer (parens c kind) (whole c s kind) (place c kind q) (place c kind p) less (omega (arith, w)) x in absurd (omega (arith, n, u, v, e))
        ]
      ])

  -- an edge has one first position
  pub one_first : (p q : ℕ) → p < length c.a → q < length c.a → is_first c p ≡ true → is_first c q ≡ true → edge_of c p ≡ edge_of c q → p ≡ q
  one_first p q l m f g e =
      elim (cases_Bool (is_tree c p)) [
        | inl is ↦ elim (cases_Bool (is_tree c q)) [
          | inl at ↦ same_kind true p q l m is at f g e
          | inr at ↦ let u = tree_below p l is f in let v = other_from q m at g in absurd (omega (arith, u, v, e))
        ]
        | inr is ↦ elim (cases_Bool (is_tree c q)) [
          | inl at ↦ let u = tree_below q m at g in let v = other_from p l is f in absurd (omega (arith, u, v, e))
          | inr at ↦ same_kind false p q l m is at f g e
        ]
      ]

  -- a position that is not the first of its edge comes after its mate, which is
  second_at : (kind : Bool) (y m : ℕ) → IsIn c y m → is_tree c y ≡ kind → is_first c y ≡ false → HasMate c kind y m → mate c y < y
  second_at kind y m i is f (Opens q j arc k order inside) = absurd (both_ways _ (sym (first_at c kind y (place c kind y) is refl) ∙ f) (opens_at (parens c kind) kind y j arc))
    where
      opens_at : (bits : List Bool) (kind : Bool) (y j : ℕ) → IsArc (parens c kind) (place c kind y) j → is_open (parens c kind) (place c kind y) ≡ true
      opens_at bits kind y j arc = arc-opens (parens c kind) (place c kind y) j arc
  second_at kind y m i is f (Closes q n arc k order from) = rw k.is_mate order

  pub second : (y : ℕ) → y < length c.a → is_first c y ≡ false → mate c y < y
  second y l f = let i = in_one c s y l in second_at (is_tree c y) y i.0 i.1 refl f (mates c s (is_tree c y) y i.0 i.1 refl)

  pub laws : (y : ℕ) → y < length c.a → MateLaws c y
  laws y l = let i = in_one c s y l in laws_at c s (is_tree c y) y i.0 i.1 refl (mates c s (is_tree c y) y i.0 i.1 refl)

  -- two positions of one edge are the same, or mates
  pub one_edge : (p q : ℕ) → p < length c.a → q < length c.a → edge_of c p ≡ edge_of c q → (p ≡ q) ⊎ (p ≡ mate c q)
  one_edge p q l m e =
      let a = laws p l in
      let b = laws q m in
      elim (cases_Bool (is_first c p)) [
        | inl f ↦ elim (cases_Bool (is_first c q)) [
          | inl g ↦ inl (one_first p q l m f g e)
          | inr g ↦ inr (one_first p (mate c q) l b.within f (b.first ∙ ap not g) (e ∙ sym b.edge))
        ]
        | inr f ↦ elim (cases_Bool (is_first c q)) [
          | inl g ↦ let x = one_first (mate c p) q a.within m (a.first ∙ ap not f) g (a.edge ∙ e) in inr (sym a.back ∙ ap (mate c) x)
          | inr g ↦ let x = one_first (mate c p) (mate c q) a.within b.within (a.first ∙ ap not f) (b.first ∙ ap not g) (a.edge ∙ e ∙ sym b.edge) in inl (sym a.back ∙ ap (mate c) x ∙ b.back)
        ]
      ]

  not_earlier : (q p : ℕ) → q < p → p < length c.a → is_first c p ≡ true → edge_of c q ≡ edge_of c p → ⊥
  not_earlier q p b l f e =
      let m : q < length c.a = omega arith in
      elim (cases_Bool (is_first c q)) as (λ _. ⊥) [
        | inl g ↦ let x = one_first q p m l g f e in omega (arith, x, b)
        | inr g ↦ let w = laws q m in let x = one_first (mate c q) p w.within l (w.first ∙ ap not g) f (w.edge ∙ e) in let y = second q m g in omega (arith, x, y, b)
      ]

  -- the first position with an edge's number is the first of the edge
  pub first_edge : (p : ℕ) → p < length c.a → is_first c p ≡ true → first_of_edge c (edge_of c p) ≡ Some p
  unfolding first_of_edge
  first_edge p l f =
      find-least (λ x. edge_of c x == edge_of c p) 0 (length c.a) p (record {
        from = omega arith;
        within = omega (arith, l);
        passes = eq-eqb _ _ refl;
        before = λ q a b. false_from_ne_true _ (λ t. not_earlier q p b l f (eqb-true _ _ t));
      })

pub edges_first : (c : Code) → IsTrue (is_sound c) → (p : ℕ) → p < length c.a → is_first c p ≡ true → first_of_edge c (edge_of c p) ≡ Some p
edges_first c h = first_edge c (sound_parts c h)

-- edges are half as many as positions
pub edge_within : (c : Code) (s : SoundParts c) (p : ℕ) → p < length c.a → 2 * edge_of c p + 2 ≤ length c.a
edge_within c s p l =
    elim (cases_Bool (is_first c p)) [
      | inl f ↦ at p l f
      | inr f ↦ let w = laws c s p l in let r = at (mate c p) w.within (w.first ∙ ap not f) in let e = w.edge in omega (arith, r, e)
    ]
  where
    at : (p : ℕ) → p < length c.a → is_first c p ≡ true → 2 * edge_of c p + 2 ≤ length c.a
    at p l f =
        let h = half c.tree (whole c s true) in
        let d = half c.dual (whole c s false) in
        let ht = rank_both c.tree (length c.tree) (omega arith) in
        let hd = rank_both c.dual (length c.dual) (omega arith) in
        let ct = closed c.tree (whole c s true) in
        let cd = closed c.dual (whole c s false) in
        elim (cases_Bool (is_tree c p)) [
          | inl is ↦ let v = tree_below c s p l is f in omega (arith, v, s.laid.sizes, h, d, ht, hd, ct, cd)
          | inr is ↦
              let o = open_place c s false p l is f in
              let e = edge_of_kind c false p is o in
              let w = place_in c s false p l is in
              let m = fewer c.dual (whole c s false) (place c false p) (length c.dual) w (omega arith) o in
              omega (arith, e, m, s.laid.sizes, h, d, ht, hd, ct, cd)
        ]

-- each number of an edge is that of a position
module _ (c : Code) (s : SoundParts c) where
  place_whole : (kind : Bool) → rank kind c.a (length c.a) ≡ length (parens c kind)
  place_whole kind = all_places c s.laid kind

  from_place : (kind : Bool) (i : ℕ) → i < length (parens c kind) → is_open (parens c kind) i ≡ true
      → (p : ℕ) × (p < length c.a) × (is_first c p ≡ true) × (edge_of c p ≡ before_kind c kind + rank true (parens c kind) i)
  from_place kind i l opens =
      let w = place_whole kind in
      let q = select-placed kind c.a i (omega (arith, l, w)) in
      let at : place c kind q.0 ≡ i = q.2.rank in
      let o : is_open (parens c kind) (place c kind q.0) ≡ true = rw at opens in
      (q.0, q.2.within, first_at c kind q.0 i q.2.kind at ∙ opens, edge_of_kind c kind q.0 q.2.kind o ∙ ap (λ x. before_kind c kind + rank true (parens c kind) x) at)

  of_kind : (kind : Bool) (x : ℕ) → x < length (parens c kind) / 2 → (p : ℕ) × (p < length c.a) × (is_first c p ≡ true) × (edge_of c p ≡ before_kind c kind + x)
  of_kind kind x l =
      let h = half (parens c kind) (whole c s kind) in
      let q = select-placed true (parens c kind) x (omega (arith, l, h)) in
      let f = from_place kind q.0 q.2.within q.2.kind in
      (f.0, f.1, f.2, f.3 ∙ ap (λ y. before_kind c kind + y) q.2.rank)

  pub edge_there : (e : ℕ) → 2 * e < length c.a → (p : ℕ) × (p < length c.a) × (is_first c p ≡ true) × (edge_of c p ≡ e)
  edge_there e l =
      let ht = rank_both c.tree (length c.tree) (omega arith) in
      let hd = rank_both c.dual (length c.dual) (omega arith) in
      let ct = closed c.tree (whole c s true) in
      let cd = closed c.dual (whole c s false) in
      elim (cases_lt e (length c.tree / 2)) [
        | inl m ↦ let r = of_kind true e m in (r.0, r.1, r.2, r.3 ∙ zero_add e)
        | inr m ↦ let r = of_kind false (e - length c.tree / 2) (omega (arith, s.laid.sizes, l, ht, hd, ct, cd)) in (r.0, r.1, r.2, r.3 ∙ back (length c.tree / 2) e m)
      ]
    where
      zero_add : (e : ℕ) → 0 + e ≡ e
      zero_add e = omega arith

      back : (t e : ℕ) → t ≤ e → t + (e - t) ≡ e
      back t e h = omega arith
