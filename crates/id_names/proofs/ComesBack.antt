-- In a cycle that is marked every so many members, the walk from a place comes to its number.
use Rattle.std.specs.Prelude.{is_some, min, fold, nat_lt, ◌&&◌}
use Rattle.std.proofs.Common.{◌≡◌, ◌≢◌, ℕ, zero, suc, ◌+◌, ◌-◌, ◌*◌, ◌/◌, ◌%◌, ◌<◌, ◌≤◌, ◌==◌, ◌⊎◌, Bool, true, false, cond, inl, inr, List, [], ◌∷◌, length, get_or, refl, ap, sym, subst, ◌∙◌, arith, eq-eqb, Option, Some, None}
use Rattle.std.proofs.Math.Nat.{mul-le-mul_right}
use Rattle.std.proofs.lemmas.Bool.{both_ways, cases_Bool, cases_lt, ne_eqb, lt-ltb, le-ltb, eqb-true, or_cases}
use Rattle.std.proofs.lemmas.List.{get_or-map}
use Rattle.std.proofs.lemmas.Nat.{div-add-mod', mod-mul-add, mod_below}
use Rattle.bit_words.specs.Bits.{rank}
use Rattle.orbits.specs.Points.{has}
use Rattle.orbits.proofs.Numbers.{place_in}
use Rattle.id_names.specs.Cycles.{IsPlacePermutation, cycle, least_member, mark_at, marks_of, marked, back_pointers}
use Rattle.id_names.specs.Inverse.{stride, walk, back_from, number_at}
use Rattle.id_names.specs.Making.{spacing}
use Rattle.id_names.proofs.Members.{members_of}
use Rattle.id_names.proofs.Pointers.{least_below, spacing_some, spacing_near, length-marks, mark_is, value_at}
use Rattle.id_names.proofs.Sweeping.{mark_of_member, own, back, on_same}
use Rattle.id_names.proofs.Walks.{walk_here, walk_jumps, walk_follows, walk_longer}

-- the least of some numbers is one of them, and none is below it
least_in : (a : ℕ) (xs : List ℕ) → (fold min a xs ≡ a) ⊎ (has (λ x y. x == y) xs (fold min a xs) ≡ true)
least_in a [] = inl refl
least_in a (x ∷ xs) = elim (least_in (min a x) xs) [
  | inl is ↦ elim (cases_lt a x) [
    | inl less ↦ inl (is ∙ omega arith)
    | inr more ↦ (let e : fold min (min a x) xs ≡ x = is ∙ omega arith in inr (rw (eq-eqb (fold min (min a x) xs) x e) refl))
  ]
  | inr on ↦ elim (cases_Bool (fold min (min a x) xs == x)) [ inl e ↦ inr (rw e refl) | inr e ↦ inr (rw e on) ]
]

least_lower : (a : ℕ) (xs : List ℕ) (y : ℕ) → has (λ x y. x == y) xs y ≡ true → fold min a xs ≤ y
least_lower a [] y on = absurd (both_ways false refl on)
least_lower a (x ∷ xs) y on = elim (or_cases (y == x) (has (λ x y. x == y) xs y) on) [
  | inl is ↦ (let e = eqb-true y x is in let m = least_below (min a x) xs in omega arith)
  | inr more ↦ least_lower (min a x) xs y more
]

-- what is marked
mark_yes : (s : ℕ) (xs : List ℕ) (e : ℕ) → s < length xs → e % s ≡ 0 → mark_at s xs e ≡ Some (get_or xs (cond (e == 0) ((length xs - 1) / s * s) (e - s)) 0)
unfolding mark_at
mark_yes s xs e l z = rw (lt-ltb s (length xs) l, z) refl

mark_no : (s : ℕ) (xs : List ℕ) (e : ℕ) → e % s ≢ 0 → is_some (mark_at s xs e) ≡ false
unfolding mark_at
mark_no s xs e ne = elim (cases_Bool (nat_lt s (length xs))) [
  | inl l ↦ rw (l, ne_eqb (e % s) 0 ne) refl
  | inr l ↦ rw l refl
]

mark_none : (s : ℕ) (xs : List ℕ) (e : ℕ) → length xs ≤ s → is_some (mark_at s xs e) ≡ false
unfolding mark_at
mark_none s xs e l = rw (le-ltb s (length xs) l) refl

-- the next multiple of the stride
record IsNextMultiple (s a p v : ℕ) : Type 0 where
  is : p ≡ v * s
  above : a ≤ p
  near : p < a + s
  none : (e : ℕ) → a ≤ e → e < p → e % s ≢ 0

next_multiple : (s a : ℕ) → 1 ≤ s → (p : ℕ) × (v : ℕ) × IsNextMultiple s a p v
next_multiple s a some =
    let q = a / s in
    let d = div-add-mod' a s in
    let b = mod_below a s some in
    elim (cases_lt 0 (a % s)) [
      | inl rest ↦ (
        q * s + s,
        q + 1,
        record {
          is = omega arith;
          above = omega arith;
          near = omega arith;
          none = λ e l h z.
              let r = e - q * s in
              let is : q * s + r ≡ e = omega arith in
              let f = mod-mul-add q s r (omega arith) in
              let g = ap (λ x. x % s) is in
              omega arith;
        },
      )
      | inr none ↦ (
        a,
        q,
        record {
          is = omega arith;
          above = omega arith;
          near = omega arith;
          none = λ e l h. absurd (omega arith);
        },
      )
    ]

multiple_mod : (s v : ℕ) → 1 ≤ s → (v * s) % s ≡ 0
multiple_mod s v some = let z : v * s + 0 ≡ v * s = omega arith in ap (λ x. x % s) (sym z) ∙ mod-mul-add v s 0 some

module _ (places : List ℕ) (are : IsPlacePermutation places) (first : ℕ) (within : first < length places) (least : (y : ℕ) → has (λ x y. x == y) (cycle places first) y ≡ true → first ≤ y) (s : ℕ) (some : 1 ≤ s) (i : ℕ) (i_in : i < length (cycle places first)) where
  abbrev xs : List ℕ
  xs = cycle places first

  abbrev target : ℕ
  target = get_or places (get_or (cycle places first) i 0) 0

  -- a walk of so many tests from a member
  abbrev W : ℕ → Bool → ℕ → Option ℕ
  W t may b = walk places (marked places s) (back_pointers places s) target t may (get_or xs b 0)

  member_in : (b : ℕ) → b < length xs → get_or xs b 0 < length places
  member_in b h = (members_of places are first within).within b h

  pointer : (b : ℕ) → b < length xs → get_or (marks_of places s) (get_or xs b 0) None ≡ mark_at s xs b
  pointer b h = mark_is places are s some (get_or xs b 0) (member_in b h) ∙ mark_of_member places are s first b within least h

  is_marked : (b : ℕ) → b < length xs → get_or (marked places s) (get_or xs b 0) false ≡ is_some (mark_at s xs b)
  is_marked b h =
      let m = member_in b h in
      get_or-map is_some (marks_of places s) (get_or xs b 0) None false (omega (arith, length-marks places are s some)) ∙ ap is_some (pointer b h)

  differs : (b : ℕ) → b < length xs → b ≢ i → get_or places (get_or xs b 0) 0 ≢ target
  differs b h ne e = ne ((members_of places are first within).once b i h i_in (are.one (get_or xs b 0) (get_or xs i 0) (member_in b h) (member_in i i_in) e))

  here : (t : ℕ) (may : Bool) → 0 < t → W t may i ≡ Some (get_or xs i 0)
  here t may l = walk_here places (marked places s) (back_pointers places s) target t (get_or xs i 0) may l (member_in i i_in) refl

  step : (t : ℕ) (may : Bool) (b : ℕ) → b + 1 < length xs → b ≢ i → (may && is_some (mark_at s xs b)) ≡ false → W (t + 1) may b ≡ W t may (b + 1)
  step t may b h ne free =
      let l : b < length xs = omega arith in
      let t_is : t + 1 - 1 ≡ t = omega arith in
      walk_follows places (marked places s) (back_pointers places s) target (t + 1) (get_or xs b 0) may (omega arith) (member_in b l) (differs b l ne) (ap (λ m. may && m) (is_marked b l) ∙ free)
      ∙ ap (λ t. walk places (marked places s) (back_pointers places s) target t may (get_or places (get_or xs b 0) 0)) t_is
      ∙ ap (λ x. walk places (marked places s) (back_pointers places s) target t may x) ((members_of places are first within).follows b h)

  wrap : (t : ℕ) (may : Bool) (b : ℕ) → b + 1 ≡ length xs → b ≢ i → (may && is_some (mark_at s xs b)) ≡ false → W (t + 1) may b ≡ W t may 0
  wrap t may b h ne free =
      let m = members_of places are first within in
      let l : b < length xs = omega arith in
      let t_is : t + 1 - 1 ≡ t = omega arith in
      walk_follows places (marked places s) (back_pointers places s) target (t + 1) (get_or xs b 0) may (omega arith) (member_in b l) (differs b l ne) (ap (λ m. may && m) (is_marked b l) ∙ free)
      ∙ ap (λ t. walk places (marked places s) (back_pointers places s) target t may (get_or places (get_or xs b 0) 0)) t_is
      ∙ ap (λ x. walk places (marked places s) (back_pointers places s) target t may x) (m.ends b h ∙ sym m.begins)

  jump : (t b q : ℕ) → b < length xs → b ≢ i → mark_at s xs b ≡ Some (get_or xs q 0) → W (t + 1) true b ≡ W t false q
  unfolding rank
  jump t b q l ne e =
      let m = member_in b l in
      let t_is : t + 1 - 1 ≡ t = omega arith in
      let to : back_from (marked places s) (back_pointers places s) (get_or xs b 0) ≡ get_or xs q 0 =
      value_at (marks_of places s) (get_or xs b 0) (get_or xs q 0) (omega (arith, length-marks places are s some)) (pointer b l ∙ e) in
      walk_jumps places (marked places s) (back_pointers places s) target (t + 1) (get_or xs b 0) (omega arith) m (differs b l ne) (is_marked b l ∙ ap is_some e)
      ∙ ap (λ t. walk places (marked places s) (back_pointers places s) target t false (back_from (marked places s) (back_pointers places s) (get_or xs b 0))) t_is
      ∙ ap (λ x. walk places (marked places s) (back_pointers places s) target t false x) to

  -- some steps along members that the walk passes
  along : (d t : ℕ) (may : Bool) (b to n : ℕ) → n ≡ d + t → to ≡ b + d → to < length xs → ((e : ℕ) → b ≤ e → e < to → (e ≢ i) × ((may && is_some (mark_at s xs e)) ≡ false)) → W n may b ≡ W t may to
  along zero t may b to n e f h free = let a : n ≡ t = omega arith in let g : b ≡ to = omega arith in ap (λ n. W n may b) a ∙ ap (W t may) g
  along (suc d) t may b to n e f h free =
      let a : n ≡ d + t + 1 = omega arith in
      let now = free b (omega arith) (omega arith) in
      ap (λ n. W n may b) a ∙ step (d + t) may b (omega arith) now.0 now.1 ∙ along d t may (b + 1) to (d + t) refl (omega arith) h (λ e l m. free e (omega arith) m)

  -- after the jump, on to the member
  on : (t b : ℕ) → b ≤ i → i < b + t → W t false b ≡ Some (get_or xs i 0)
  on t b h l = along (i - b) (t - (i - b)) false b i t (omega arith) (omega arith) i_in (λ e m n. ((λ is. absurd (omega arith)), refl)) ∙ here (t - (i - b)) false (omega arith)

  -- where no member is marked
  few_members : length xs ≤ s → (a : ℕ) → (a ≡ i + 1) × (a < length xs) ⊎ (a ≡ 0) × (i + 1 ≡ length xs) → W (s + 1) true a ≡ Some (get_or xs i 0)
  few_members few a at = elim at [
    | inl next ↦
        let l : a < length xs = next.1 in
        let e : a ≡ i + 1 = next.0 in
        let last = length xs - 1 in
        let t = s + 1 - (last - a) - 1 in
        along (last - a) (t + 1) true a last (s + 1) (omega arith) (omega arith) (omega arith) (λ e m n. ((λ is. absurd (omega arith)), mark_none s xs e few))
        ∙ wrap t true last (omega arith) (λ is. absurd (omega arith)) (mark_none s xs last few)
        ∙ along i (t - i) true 0 i t (omega arith) (omega arith) i_in (λ e m n. ((λ is. absurd (omega arith)), mark_none s xs e few))
        ∙ here (t - i) true (omega arith)
    | inr round ↦
        let z : a ≡ 0 = round.0 in
        let e : i + 1 ≡ length xs = round.1 in
        along i (s + 1 - i) true a i (s + 1) (omega arith) (omega arith) i_in (λ e m n. ((λ is. absurd (omega arith)), mark_none s xs e few))
        ∙ here (s + 1 - i) true (omega arith)
  ]

  -- the last mark
  last_mark : s < length xs → (m u : ℕ) × (m ≡ u * s) × (m < length xs) × (length xs ≤ m + s) × (mark_at s xs 0 ≡ Some (get_or xs m 0))
  last_mark many =
      let d = div-add-mod' (length xs - 1) s in
      let b = mod_below (length xs - 1) s some in
      let zero_mod : 0 % s ≡ 0 = (let d = div-add-mod' 0 s in omega arith) in
      ((length xs - 1) / s * s, (length xs - 1) / s, refl, omega arith, omega arith, mark_yes s xs 0 many zero_mod)

  many_members : s < length xs → (a : ℕ) → (a ≡ i + 1) × (a < length xs) ⊎ (a ≡ 0) × (i + 1 ≡ length xs) → W (s + 1) true a ≡ Some (get_or xs i 0)
  many_members many a at =
      let last_one = last_mark many in
      let m = last_one.0 in
      let u = last_one.1 in
      let m_is : m ≡ u * s = last_one.2 in
      let m_in : m < length xs = last_one.3 in
      let m_near : length xs ≤ m + s = last_one.4 in
      elim at [
        | inl next ↦
            let l : a < length xs = next.1 in
            let e : a ≡ i + 1 = next.0 in
            let n = next_multiple s a some in
            let p = n.0 in
            let v = n.1 in
            let k = n.2 in
            let above = k.above in
            let near = k.near in
            let p_is = k.is in
            elim (cases_lt p (length xs)) [
              | inl p_in ↦
                  let p_mod : p % s ≡ 0 = ap (λ x. x % s) p_is ∙ multiple_mod s v some in
                  let not_zero : (p == 0) ≡ false = ne_eqb p 0 (λ z. absurd (omega arith)) in
                  let mark : mark_at s xs p ≡ Some (get_or xs (p - s) 0) = mark_yes s xs p many p_mod ∙ ap (λ b. Some (get_or xs (cond b ((length xs - 1) / s * s) (p - s)) 0)) not_zero in
                  let t = s - (p - a) in
                  along (p - a) (t + 1) true a p (s + 1) (omega arith) (omega arith) p_in (λ e m n. ((λ is. absurd (omega arith)), mark_no s xs e (k.none e m n)))
                  ∙ jump t p (p - s) p_in (λ is. absurd (omega arith)) mark
                  ∙ on t (p - s) (omega arith) (from_multiple p v p_is (omega arith) a i t e above near (omega arith))
              | inr p_out ↦
                  let less : u + 1 ≤ v = elim (cases_lt u v) [ inl l ↦ omega arith | inr g ↦ (let c = mul-le-mul_right s g in absurd (omega arith)) ] in
                  let c : (u + 1) * s ≤ v * s = mul-le-mul_right s less in
                  let m_low : m + s ≤ p = omega arith in
                  let last = length xs - 1 in
                  let t = s + 1 - (last - a) - 2 in
                  along (last - a) (t + 1 + 1) true a last (s + 1) (omega arith) (omega arith) (omega arith) (λ e m n. ((λ is. absurd (omega arith)), mark_no s xs e (k.none e m (omega arith))))
                  ∙ wrap (t + 1) true last (omega arith) (λ is. absurd (omega arith)) (mark_no s xs last (k.none last (omega arith) (omega arith)))
                  ∙ jump t 0 m (omega arith) (λ is. absurd (omega arith)) last_one.5
                  ∙ on t m (omega arith) (omega arith)
            ]
        | inr round ↦
            let z : a ≡ 0 = round.0 in
            let e : i + 1 ≡ length xs = round.1 in
            ap (W (s + 1) true) z ∙ jump s 0 m (omega arith) (λ is. absurd (omega arith)) last_one.5 ∙ on s m (omega arith) (omega arith)
      ]
    where
      from_multiple : (p v : ℕ) → p ≡ v * s → 0 < p → (a i t : ℕ) → a ≡ i + 1 → a ≤ p → p < a + s → t ≡ s - (p - a) → i < p - s + t
      from_multiple p zero f more a i t e above near is = absurd (omega arith)
      from_multiple p (suc v) f more a i t e above near is = omega arith

  -- the walk from the place of a member comes to the member
  from_place : (a : ℕ) → target ≡ get_or xs a 0 → (a ≡ i + 1) × (a < length xs) ⊎ (a ≡ 0) × (i + 1 ≡ length xs) → s ≤ stride (length places) → number_at places (marked places s) (back_pointers places s) target ≡ Some (get_or xs i 0)
  from_place a e at near =
      walk_longer places (marked places s) (back_pointers places s) target (s + 1) (stride (length places) + 1) target true (get_or xs i 0) (omega arith)
      (ap (λ x. walk places (marked places s) (back_pointers places s) target (s + 1) true x) e
      ∙ elim (cases_lt s (length xs)) [ inl many ↦ many_members many a at | inr few ↦ few_members few a at ])

  pub member_found : s ≤ stride (length places) → number_at places (marked places s) (back_pointers places s) target ≡ Some (get_or xs i 0)
  member_found near =
      let m = members_of places are first within in
      elim (cases_lt (i + 1) (length xs)) [
        | inl more ↦ from_place (i + 1) (m.follows i more) (inl (refl, more)) near
        | inr over ↦ (let e : i + 1 ≡ length xs = omega arith in from_place 0 (m.ends i e ∙ sym m.begins) (inr (refl, e)) near)
      ]

-- where a number stands in its cycle, which begins at its least member
pub record OwnPlace (places : List ℕ) (k : ℕ) : Type 0 where
  pub first : ℕ
  pub at : ℕ
  pub within : first < length places
  pub least : (y : ℕ) → has (λ x y. x == y) (cycle places first) y ≡ true → first ≤ y
  pub inside : at < length (cycle places first)
  pub is : get_or (cycle places first) at 0 ≡ k

pub own_place : (places : List ℕ) → IsPlacePermutation places → (k : ℕ) → k < length places → OwnPlace places k
own_place places are k h =
    let s : ℕ = 1 in
    let first = least_member places k in
    let within : first < length places = omega (arith, least_below k (cycle places k)) in
    let on_first : has (λ x y. x == y) (cycle places k) first ≡ true = elim (least_in k (cycle places k)) [
      | inl is ↦ subst (λ z. has (λ x y. x == y) (cycle places k) z ≡ true) (sym is) (own places are s k h)
      | inr on ↦ on
    ] in
    let at = place_in (cycle places first) k (back places are s k first h on_first) in
    record {
      first = first;
      at = at.0;
      within = within;
      least = λ y on. least_lower k (cycle places k) y (on_same places are s k first y h on_first on);
      inside = at.1;
      is = at.2;
    }

-- and so it does from the place of each number
pub comes_back : (places : List ℕ) → IsPlacePermutation places → (k : ℕ) → k < length places → number_at places (marked places (spacing (length places))) (back_pointers places (spacing (length places))) (get_or places k 0) ≡ Some k
comes_back places are k h =
    let s = spacing (length places) in
    let o = own_place places are k h in
    subst (λ x. number_at places (marked places s) (back_pointers places s) (get_or places x 0) ≡ Some x) o.is
    (member_found places are o.first o.within o.least s (spacing_some (length places)) o.at o.inside (spacing_near (length places)))
