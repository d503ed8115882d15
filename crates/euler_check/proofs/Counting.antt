-- Counts of the numbers that pass, and of lists and darts by them.
use Rattle.std.proofs.Common.{◌≡◌, ℕ, zero, suc, ◌+◌, ◌<◌, ◌≤◌, inl, inr, Bool, true, false, ◌==◌, List, [], ◌∷◌, filter, length, get_or, replicate, refl, sym, ap, ◌∙◌, subst, arith, eq-eqb, Option, Some, None, add-one}
use Rattle.std.specs.Prelude.{nat_le, slice_set}
use Rattle.std.proofs.Math.ListN.{set, length-set}
use Rattle.std.proofs.lemmas.Bool.{cases_Bool, cases_eq, cases_lt, ne_eqb}
use Rattle.std.proofs.lemmas.Grind.{get_or_default_zero}
use Rattle.std.proofs.lemmas.List.{get_or-set_same, get_or-set_other, length-replicate}
use Rattle.plane_model.specs.Sets.{put, rising}
use Rattle.euler_check.specs.Counts.{AreLabelParts, AreCounted, count_below, is_in}
use Rattle.euler_check.specs.Marks.{number_at}
use Rattle.euler_check.specs.Numbers.{Numbers}
use Rattle.euler_check.proofs.Numbered.{not_both}

-- 1 where a test holds
abbrev pub one_if : Bool → ℕ
one_if true = 1
one_if false = 0

pub count-next : (n : ℕ) (p : ℕ → Bool) → count_below (n + 1) p ≡ count_below n p + one_if (p n)
unfolding count_below
count-next n p = elim (cases_Bool (p n)) [ inl e ↦ rw (add-one n, e) (omega arith) | inr e ↦ rw (add-one n, e) (omega arith) ]

pub count-most : (n : ℕ) (p : ℕ → Bool) → count_below n p ≤ n
unfolding count_below
count-most zero p = omega arith
count-most (suc n) p = let more = count-most n p in elim (cases_Bool (p n)) [ inl e ↦ rw e (omega arith) | inr e ↦ rw e (omega arith) ]

pub count-same : (n : ℕ) (p q : ℕ → Bool) → ((i : ℕ) → i < n → p i ≡ q i) → count_below n p ≡ count_below n q
unfolding count_below
count-same zero p q same = refl
count-same (suc n) p q same =
    let more = count-same n p q (λ i h. same i (omega arith)) in
    let here = same n (omega arith) in
    rw (here, more) refl

count-first : (n : ℕ) (p : ℕ → Bool) → count_below (suc n) p ≡ one_if (p 0) + count_below n (λ i. p (suc i))
unfolding count_below
count-first zero p = elim (cases_Bool (p 0)) [ inl e ↦ rw e refl | inr e ↦ rw e refl ]
count-first (suc n) p =
    let more = count-first n p in
    elim (cases_Bool (p (suc n))) [
      | inl e ↦ let b : count_below (suc (suc n)) p ≡ suc (count_below (suc n) p) = rw e refl in let c : count_below (suc n) (λ i. p (suc i)) ≡ suc (count_below n (λ i. p (suc i))) = rw e refl in omega arith
      | inr e ↦ let b : count_below (suc (suc n)) p ≡ count_below (suc n) p = rw e refl in let c : count_below (suc n) (λ i. p (suc i)) ≡ count_below n (λ i. p (suc i)) = rw e refl in omega arith
    ]

-- as many of a list pass as of its places
pub count-list : {X : Type 0} (p : X → Bool) (xs : List X) (d : X) → length (filter p xs) ≡ count_below (length xs) (λ i. p (get_or xs i d))
unfolding count_below
count-list p [] d = refl
count-list p (x ∷ xs) d =
    let more = count-list p xs d in
    let first : count_below (suc (length xs)) (λ i. p (get_or (x ∷ xs) i d)) ≡ one_if (p x) + count_below (length xs) (λ i. p (get_or xs i d)) = count-first (length xs) (λ i. p (get_or (x ∷ xs) i d)) in
    elim (cases_Bool (p x)) [
      | inl e ↦ let one : one_if (p x) ≡ 1 = ap one_if e in let l : length (filter p (x ∷ xs)) ≡ suc (length (filter p xs)) = rw e refl in omega arith
      | inr e ↦ let none : one_if (p x) ≡ 0 = ap one_if e in let l : length (filter p (x ∷ xs)) ≡ length (filter p xs) = rw e refl in omega arith
    ]

pass_put : (p : ℕ → Bool) (x : ℕ) (xs : List ℕ) → length (filter p (put x xs)) ≡ length (filter p (x ∷ xs))
unfolding put
pass_put p x [] = refl
pass_put p x (y ∷ ys) = elim (cases_Bool (nat_le x y)) [
  | inl e ↦ rw e refl
  | inr e ↦
      let more = pass_put p x ys in
      elim (cases_Bool (p x)) [
        | inl a ↦ elim (cases_Bool (p y)) [ inl b ↦ rw (e, a, b) (ap suc (more ∙ rw a refl)) | inr b ↦ rw (e, a, b) (more ∙ rw a refl) ]
        | inr a ↦ elim (cases_Bool (p y)) [ inl b ↦ rw (e, a, b) (ap suc (more ∙ rw a refl)) | inr b ↦ rw (e, a, b) (more ∙ rw a refl) ]
      ]
]

-- as many of the numbers in order pass
pub pass_rising : (p : ℕ → Bool) (xs : List ℕ) → length (filter p (rising xs)) ≡ length (filter p xs)
unfolding rising
pass_rising p [] = refl
pass_rising p (x ∷ xs) = pass_put p x (rising xs) ∙ behind (pass_rising p xs)
  where
    behind : length (filter p (rising xs)) ≡ length (filter p xs) → length (filter p (x ∷ rising xs)) ≡ length (filter p (x ∷ xs))
    behind h = elim (cases_Bool (p x)) [ inl e ↦ rw e (ap suc h) | inr e ↦ rw e h ]

-- counts of parts, one further
none_counted : (parts x : ℕ) → get_or (replicate parts (let z : ℕ = 0 in z)) x 0 ≡ 0
none_counted zero x = refl
none_counted (suc n) zero = refl
none_counted (suc n) (suc x) = none_counted n x

pub counted_none : (parts : ℕ) (part : ℕ → Option ℕ) (counts : List ℕ) → counts ≡ replicate parts 0 → AreCounted parts part 0 counts
unfolding count_below
counted_none parts part counts is =
    record {
      size = ap length is ∙ length-replicate parts 0;
      counted = λ x h. ap (λ xs. get_or xs x 0) is ∙ none_counted parts x;
    }

pub counted_skip : (parts : ℕ) (part : ℕ → Option ℕ) (k : ℕ) (counts : List ℕ) → part k ≡ None → AreCounted parts part k counts → AreCounted parts part (k + 1) counts
counted_skip parts part k counts none old =
    record {
      size = old.size;
      counted = λ x h.
          let next = count-next k (λ i. is_in x (part i)) in
          let zero_more : one_if (is_in x (part k)) ≡ 0 = ap (λ o. one_if (is_in x o)) none in
          let was = old.counted x h in
          omega arith;
    }

-- where the next is the part y
pub counted_next : (parts : ℕ) (part : ℕ → Option ℕ) (k y : ℕ) (counts : List ℕ) → part k ≡ Some y → y < parts → AreCounted parts part k counts → AreCounted parts part (k + 1) (slice_set counts y (get_or counts y 0 + 1))
counted_next parts part k y counts some below old =
    let size = old.size in
    record {
      size = length-set counts y (get_or counts y 0 + 1) ∙ old.size;
      counted = λ x h.
          let next = count-next k (λ i. is_in x (part i)) in
          let more : one_if (is_in x (part k)) ≡ one_if (y == x) = ap (λ o. one_if (is_in x o)) some in
          let was = old.counted x h in
          elim (cases_eq x y) [
            | inl e ↦
                let one : one_if (y == x) ≡ 1 = ap one_if (eq-eqb y x (sym e)) in
                let here : get_or (slice_set counts y (get_or counts y 0 + 1)) x 0 ≡ get_or counts y 0 + 1 = ap (λ z. get_or (slice_set counts y (get_or counts y 0 + 1)) z 0) e ∙ get_or-set_same counts y (get_or counts y 0 + 1) 0 (omega arith) in
                let same : get_or counts y 0 ≡ get_or counts x 0 = ap (λ z. get_or counts z 0) (sym e) in
                omega arith
            | inr ne ↦
                let none : one_if (y == x) ≡ 0 = ap one_if (ne_eqb y x (λ e. ne (sym e))) in
                let there = get_or-set_other counts y x (get_or counts y 0 + 1) 0 ne in
                omega arith
          ];
    }

-- the same as a loop reads and writes it; a count that is read has room for one more
pub counted_further : (parts : ℕ) (part : ℕ → Option ℕ) (k y v : ℕ) (counts : List ℕ) → part k ≡ Some y → y < parts → v ≡ get_or counts y v → AreCounted parts part k counts → AreCounted parts part (k + 1) (slice_set counts y (v + 1))
counted_further parts part k y v counts some below read old =
    let size = old.size in
    let value : get_or counts y 0 ≡ v = sym (read ∙ get_or_default_zero counts y v (omega arith)) in
    subst (λ n. AreCounted parts part (k + 1) (slice_set counts y (n + 1))) value (counted_next parts part k y counts some below old)

pub counted_room : (parts : ℕ) (part : ℕ → Option ℕ) (k y v : ℕ) (counts : List ℕ) → y < parts → v ≡ get_or counts y v → AreCounted parts part k counts → v ≤ k
counted_room parts part k y v counts h read old =
    let size = old.size in
    let was = old.counted y h in
    let most = count-most k (λ i. is_in y (part i)) in
    let value = read ∙ get_or_default_zero counts y v (omega arith) in
    omega arith

-- the part of each label, one dart further
pub places_next : (parts : Numbers) (Has : ℕ → ℕ → Type 0) (labels k y part : ℕ) (numbers : List (Option ℕ)) → y < labels → Has y k → part ≡ get_or parts.of_darts k 0 → ((x : ℕ) → x < labels → Has x k → x ≡ y) → AreLabelParts parts Has labels k numbers
    → AreLabelParts parts Has labels (k + 1) (slice_set numbers y (Some part))
places_next parts Has labels k y part numbers below here is_part one old =
    let size = old.size in
    let at : number_at (slice_set numbers y (Some part)) y ≡ Some part = get_or-set_same numbers y (Some part) None (omega arith) in
    record {
      size = length-set numbers y (Some part) ∙ old.size;
      none = λ x d h lt e has. elim (cases_eq x y) [
        | inl same ↦ not_both (number_at (slice_set numbers y (Some part)) x) part _ e (ap (number_at (slice_set numbers y (Some part))) same ∙ at)
        | inr ne ↦
            let missing : number_at numbers x ≡ None = sym (get_or-set_other numbers y x (Some part) None ne) ∙ e in
            elim (cases_lt d k) [
              | inl before ↦ old.none x d h before missing has
              | inr after ↦ let is : d ≡ k = omega arith in ne (one x h (subst (Has x) is has))
            ]
      ];
      some = λ x p h e. elim (cases_eq x y) [
        | inl same ↦
            let is : Some part ≡ Some p = sym at ∙ ap (number_at (slice_set numbers y (Some part))) (sym same) ∙ e in
            let part_is : part ≡ p = cc in
            (k, omega arith, subst (λ z. Has z k) (sym same) here, sym is_part ∙ part_is)
        | inr ne ↦
            let was = old.some x p h (sym (get_or-set_other numbers y x (Some part) None ne) ∙ e) in
            let lt : was.0 < k = was.1 in
            (was.0, omega arith, was.2, was.3)
      ];
    }
