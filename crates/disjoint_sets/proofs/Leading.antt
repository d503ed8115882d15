-- Where links lead to.
use Rattle.std.proofs.Common.{◌≡◌, ℕ, zero, suc, ◌<◌, ◌≤◌, ◌⊎◌, inl, inr, ◌==◌, List, map, length, get_or, set, refl, sym, ap, ◌∙◌, subst, arith, eq-eqb}
use Rattle.std.specs.Prelude.{if◌then◌else◌, min, max}
use Rattle.std.specs.List.{range_with_len}
use Rattle.std.proofs.lemmas.Bool.{cases_eq, cases_lt, ne_eqb}
use Rattle.std.proofs.lemmas.List.{ext_get_or, get_or-map, get_or-set_same, get_or-set_other, length-map, length-set}
use Rattle.std.proofs.lemmas.List.FromFn.{get_or-map-range_with_len, length-map-range_with_len, get_or-range_with_len, length-range_with_len}
use Rattle.disjoint_sets.specs.Links.{AreLinks, leasts, led}
use Rattle.disjoint_sets.specs.Sets.{AreSets, joined}

-- a list that has itself at each least number, and at each other number what it has at its link
pub record Solves (links xs : List ℕ) : Type 0 where
  pub size : length xs ≡ length links
  pub root : (i : ℕ) → i < length links → get_or links i 0 ≡ i → get_or xs i 0 ≡ i
  pub step : (i : ℕ) → i < length links → get_or xs (get_or links i 0) 0 ≡ get_or xs i 0

stays : (k : ℕ) (links : List ℕ) (i : ℕ) → get_or links i 0 ≡ i → led k links i ≡ i
unfolding led
stays zero links i h = refl
stays (suc k) links i h = ap (led k links) h ∙ stays k links i h

-- after as many links as the number is large, one more leads no further
enough : (k : ℕ) (links : List ℕ) → AreLinks links → (i : ℕ) → i < length links → i ≤ k → led k links (get_or links i 0) ≡ led k links i
unfolding led
enough zero links are i lt le = let h = are i lt in omega arith
enough (suc k) links are i lt le =
    let h = are i lt in
    elim (cases_eq (get_or links i 0) i) [
      | inl e ↦ ap (led (suc k) links) e
      | inr ne ↦ enough k links are (get_or links i 0) (omega arith) (omega arith)
    ]

led_least : (links : List ℕ) (i : ℕ) → i < length links → get_or (leasts links) i 0 ≡ led (length links) links i
led_least links i lt = get_or-map-range_with_len (λ j. led (length links) links j) 0 (length links) i i 0 lt (omega arith)

pub leasts_length : (links : List ℕ) → length (leasts links) ≡ length links
leasts_length links = length-map-range_with_len (λ j. led (length links) links j) 0 (length links)

pub solved : (links : List ℕ) → AreLinks links → Solves links (leasts links)
solved links are =
    record {
      size = leasts_length links;
      root = λ i lt e. led_least links i lt ∙ stays (length links) links i e;
      step = λ i lt.
          let h = are i lt in
          led_least links (get_or links i 0) (omega arith) ∙ enough (length links) links are i lt (omega arith) ∙ sym (led_least links i lt);
    }

led_only : (k : ℕ) (links xs : List ℕ) → AreLinks links → Solves links xs → (i : ℕ) → i < length links → i ≤ k → led k links i ≡ get_or xs i 0
unfolding led
led_only zero links xs are s i lt le =
    let h = are i lt in
    let e : get_or links i 0 ≡ i = omega arith in
    sym (s.root i lt e)
led_only (suc k) links xs are s i lt le =
    let h = are i lt in
    elim (cases_eq (get_or links i 0) i) [
      | inl e ↦ stays (suc k) links i e ∙ sym (s.root i lt e)
      | inr ne ↦ led_only k links xs are s (get_or links i 0) (omega arith) (omega arith) ∙ s.step i lt
    ]

-- there is one such list
pub only : (links xs : List ℕ) → AreLinks links → Solves links xs → leasts links ≡ xs
only links xs are s =
    ext_get_or 0 (leasts links) xs (leasts_length links ∙ sym s.size)
    (λ i lt.
    let long = leasts_length links in
    let l : i < length links = omega arith in
    led_least links i l ∙ led_only (length links) links xs are s i l (omega arith))

ends : (k : ℕ) (links xs : List ℕ) → AreLinks links → Solves links xs → (i : ℕ) → i < length links → i ≤ k → (get_or xs i 0 ≤ i) × (get_or links (get_or xs i 0) 0 ≡ get_or xs i 0)
ends zero links xs are s i lt le =
    let h = are i lt in
    let e : get_or links i 0 ≡ i = omega arith in
    let r = s.root i lt e in
    (omega arith, ap (λ n. get_or links n 0) r ∙ e ∙ sym r)
ends (suc k) links xs are s i lt le =
    let h = are i lt in
    elim (cases_eq (get_or links i 0) i) [
      | inl e ↦ let r = s.root i lt e in (omega arith, ap (λ n. get_or links n 0) r ∙ e ∙ sym r)
      | inr ne ↦
          let more = ends k links xs are s (get_or links i 0) (omega arith) (omega arith) in
          let below = more.0 in
          let same = s.step i lt in
          (omega arith, subst (λ n. get_or links n 0 ≡ n) same more.1)
    ]

-- the least of a set is no greater, and its link is itself
pub least_ends : (links : List ℕ) → AreLinks links → (i : ℕ) → i < length links → (get_or (leasts links) i 0 ≤ i) × (get_or links (get_or (leasts links) i 0) 0 ≡ get_or (leasts links) i 0)
least_ends links are i lt = ends i links (leasts links) are (solved links are) i lt (omega arith)

pub are_sets : (links : List ℕ) → AreLinks links → AreSets (leasts links)
are_sets links are =
    let long = leasts_length links in
    record {
      below = λ i lt. (least_ends links are i (omega arith)).0;
      own = λ i lt.
          let l : i < length links = omega arith in
          let e = least_ends links are i l in
          let b = e.0 in
          (solved links are).root (get_or (leasts links) i 0) (omega arith) e.1;
    }

-- a number is the least of its set exactly where its link is itself
pub root_least : (links : List ℕ) → AreLinks links → (i : ℕ) → i < length links → get_or (leasts links) i 0 ≡ i → get_or links i 0 ≡ i
root_least links are i lt e = let h = (least_ends links are i lt).1 in subst (λ n. get_or links n 0 ≡ n) e h

-- a link set to a number no greater
pub links_set : (links : List ℕ) → AreLinks links → (i up : ℕ) → up ≤ i → AreLinks (set links i up)
links_set links are i up le j lt =
    let long = length-set links i up in
    let l : j < length links = omega arith in
    elim (cases_eq j i) [
      | inl e ↦ subst (λ n. get_or (set links i up) n 0 ≤ n) (sym e) (let at = get_or-set_same links i up 0 (omega arith) in omega arith)
      | inr ne ↦ (let at = get_or-set_other links i j up 0 ne in let h = are j l in omega arith)
    ]

-- a link led past the one above it
pub halved : (links : List ℕ) → AreLinks links → (i : ℕ) → i < length links → leasts (set links i (get_or links (get_or links i 0) 0)) ≡ leasts links
halved links are i lt =
    let up = get_or links (get_or links i 0) 0 in
    let first = are i lt in
    let second = are (get_or links i 0) (omega arith) in
    let long = length-set links i up in
    let s = solved links are in
    let at : get_or (set links i up) i 0 ≡ up = get_or-set_same links i up 0 lt in
    only (set links i up) (leasts links) (links_set links are i up (omega arith))
    record {
      size = leasts_length links ∙ sym long;
      root = λ j l e. elim (cases_eq j i) [
        | inl same ↦
            let here : get_or (set links i up) i 0 ≡ i = subst (λ n. get_or (set links i up) n 0 ≡ n) same e in
            subst (λ n. get_or (leasts links) n 0 ≡ n) (sym same) (s.root i lt (omega arith))
        | inr ne ↦ s.root j (omega arith) (sym (get_or-set_other links i j up 0 ne) ∙ e)
      ];
      step = λ j l. elim (cases_eq j i) [
        | inl same ↦
            subst (λ n. get_or (leasts links) (get_or (set links i up) n 0) 0 ≡ get_or (leasts links) n 0) (sym same)
            (ap (λ n. get_or (leasts links) n 0) at ∙ s.step (get_or links i 0) (omega arith) ∙ s.step i lt)
        | inr ne ↦ ap (λ n. get_or (leasts links) n 0) (get_or-set_other links i j up 0 ne) ∙ s.step j (omega arith)
      ];
    }

-- the lesser and the greater of two numbers are these in some order
pub in_order : (x y : ℕ) → ((min x y ≡ x) × (max x y ≡ y)) ⊎ ((min x y ≡ y) × (max x y ≡ x))
in_order x y = elim (cases_lt x y) [ inl lt ↦ inl (omega arith, omega arith) | inr ge ↦ inr (omega arith, omega arith) ]

-- one least number in the place of another
abbrev pub moved : ℕ → ℕ → ℕ → ℕ
moved low high least = if least == high then low else least

pub moved_at : (low high least : ℕ) → least ≡ high → moved low high least ≡ low
moved_at low high least e = rw (eq-eqb least high e) refl

pub moved_other : (low high least : ℕ) → (least ≡ high → ⊥) → moved low high least ≡ least
moved_other low high least ne = rw (ne_eqb least high ne) refl

pub moved_low : (low high : ℕ) → moved low high low ≡ low
moved_low low high = elim (cases_eq low high) [ inl e ↦ moved_at low high low e | inr ne ↦ moved_other low high low ne ]

-- a least number linked to another one
pub linked : (links : List ℕ) → AreLinks links → (low high : ℕ) → low ≤ high → high < length links → get_or links low 0 ≡ low → get_or links high 0 ≡ high
    → leasts (set links high low) ≡ map (moved low high) (leasts links)
linked links are low high le lt is_low is_high =
    let long = length-set links high low in
    let wide = leasts_length links in
    let s = solved links are in
    let xs = leasts links in
    let at : get_or (set links high low) high 0 ≡ low = get_or-set_same links high low 0 lt in
    let read : (j : ℕ) → j < length links → get_or (map (moved low high) xs) j 0 ≡ moved low high (get_or xs j 0) = λ j l. get_or-map (moved low high) xs j 0 0 (omega arith) in
    only (set links high low) (map (moved low high) xs) (links_set links are high low le)
    record {
      size = length-map xs (moved low high) ∙ wide ∙ sym long;
      root = λ j l e. elim (cases_eq j high) [
        | inl same ↦
            let here : get_or (set links high low) high 0 ≡ high = subst (λ n. get_or (set links high low) n 0 ≡ n) same e in
            let is : get_or xs high 0 ≡ high = s.root high lt is_high in
            let there : get_or (map (moved low high) xs) high 0 ≡ high = read high lt ∙ moved_at low high (get_or xs high 0) is ∙ sym at ∙ here in
            subst (λ n. get_or (map (moved low high) xs) n 0 ≡ n) (sym same) there
        | inr ne ↦
            let is : get_or xs j 0 ≡ j = s.root j (omega arith) (sym (get_or-set_other links high j low 0 ne) ∙ e) in
            read j (omega arith) ∙ ap (moved low high) is ∙ moved_other low high j ne
      ];
      step = λ j l. elim (cases_eq j high) [
        | inl same ↦
            let from : get_or (map (moved low high) xs) high 0 ≡ low = read high lt ∙ moved_at low high (get_or xs high 0) (s.root high lt is_high) in
            let to : get_or (map (moved low high) xs) low 0 ≡ low = read low (omega arith) ∙ ap (moved low high) (s.root low (omega arith) is_low) ∙ moved_low low high in
            subst (λ n. get_or (map (moved low high) xs) (get_or (set links high low) n 0) 0 ≡ get_or (map (moved low high) xs) n 0) (sym same)
            (ap (λ n. get_or (map (moved low high) xs) n 0) at ∙ to ∙ sym from)
        | inr ne ↦
            let h = are j (omega arith) in
            ap (λ n. get_or (map (moved low high) xs) n 0) (get_or-set_other links high j low 0 ne) ∙ read (get_or links j 0) (omega arith)
            ∙ ap (moved low high) (s.step j (omega arith)) ∙ sym (read j (omega arith))
      ];
    }

-- each number alone
pub alone_at : (n i : ℕ) → i < n → get_or (range_with_len 0 n) i 0 ≡ i
alone_at n i lt = get_or-range_with_len 0 n i 0 lt ∙ omega arith

pub alone_links : (n : ℕ) → AreLinks (range_with_len 0 n)
alone_links n i lt = let long = length-range_with_len 0 n in let at = alone_at n i (omega arith) in omega arith

pub alone : (n : ℕ) → leasts (range_with_len 0 n) ≡ range_with_len 0 n
alone n =
    let long = length-range_with_len 0 n in
    only (range_with_len 0 n) (range_with_len 0 n) (alone_links n)
    record {
      size = refl;
      root = λ i lt e. e;
      step = λ i lt. ap (λ k. get_or (range_with_len 0 n) k 0) (alone_at n i (omega arith));
    }

-- on the way from a member to the least number of its set, with some links halved
pub record IsLed (start links : List ℕ) (member place : ℕ) : Type 0 where
  pub are : AreLinks links
  pub kept : leasts links ≡ leasts start
  pub within : place < length links
  pub one : get_or (leasts start) place 0 ≡ get_or (leasts start) member 0

pub led_next : (start links : List ℕ) (member place : ℕ) → IsLed start links member place
    → IsLed start (set links place (get_or links (get_or links place 0) 0)) member (get_or links (get_or links place 0) 0)
led_next start links member place h =
    let w = h.within in
    let le = h.are place w in
    let up = h.are (get_or links place 0) (omega arith) in
    let long = length-set links place (get_or links (get_or links place 0) 0) in
    let s = solved links h.are in
    record {
      are = links_set links h.are place (get_or links (get_or links place 0) 0) (omega arith);
      kept = halved links h.are place w ∙ h.kept;
      within = omega arith;
      one = subst (λ xs. get_or xs (get_or links (get_or links place 0) 0) 0 ≡ get_or xs place 0) h.kept (s.step (get_or links place 0) (omega arith) ∙ s.step place w) ∙ h.one;
    }

pub led_last : (start links : List ℕ) (member place : ℕ) → IsLed start links member place → get_or links place 0 ≡ place → place ≡ get_or (leasts start) member 0
led_last start links member place h e =
    sym ((solved links h.are).root place h.within e) ∙ ap (λ xs. get_or xs place 0) h.kept ∙ h.one

-- the least of a member's set, over links that lead to the same leasts
least_root : (start links : List ℕ) → AreLinks links → leasts links ≡ leasts start → (a x : ℕ) → a < length start → x ≡ get_or (leasts start) a 0 → (x < length links) × (get_or links x 0 ≡ x)
least_root start links are kept a x lt is =
    let wide : length links ≡ length start = sym (leasts_length links) ∙ ap length kept ∙ leasts_length start in
    let e : get_or (leasts links) a 0 ≡ x = ap (λ xs. get_or xs a 0) kept ∙ sym is in
    let h = least_ends links are a (omega arith) in
    let below = h.0 in
    (omega arith, subst (λ n. get_or links n 0 ≡ n) e h.1)

-- the least numbers of two members linked, the greater to the lesser
module _ (start links : List ℕ) (are : AreLinks links) (kept : leasts links ≡ leasts start) (a b x y : ℕ) (in_a : a < length start) (in_b : b < length start)
    (x_is : x ≡ get_or (leasts start) a 0) (y_is : y ≡ get_or (leasts start) b 0) where
  within_links : (x < length links) × (y < length links)
  within_links = ((least_root start links are kept a x in_a x_is).0, (least_root start links are kept b y in_b y_is).0)

  own_links : (get_or links (min x y) 0 ≡ min x y) × (get_or links (max x y) 0 ≡ max x y)
  own_links =
      let own_x = (least_root start links are kept a x in_a x_is).1 in
      let own_y = (least_root start links are kept b y in_b y_is).1 in
      let own = λ (n : ℕ). get_or links n 0 ≡ n in
      elim (in_order x y) [
        | inl o ↦ (subst own (sym o.0) own_x, subst own (sym o.1) own_y)
        | inr o ↦ (subst own (sym o.0) own_y, subst own (sym o.1) own_x)
      ]

  pub joined_links : leasts (set links (max x y) (min x y)) ≡ joined (leasts start) a b
  joined_links =
      let w = within_links in
      let in_x = w.0 in
      let in_y = w.1 in
      linked links are (min x y) (max x y) (omega arith) (omega arith) own_links.0 own_links.1 ∙ ap (map (moved (min x y) (max x y))) kept
      ∙ ap (λ n. map (moved (min n y) (max n y)) (leasts start)) x_is
      ∙ ap (λ n. map (moved (min (get_or (leasts start) a 0) n) (max (get_or (leasts start) a 0) n)) (leasts start)) y_is
