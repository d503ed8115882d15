-- Counts and places, one value further.
use Rattle.std.proofs.Common.{◌≡◌, ℕ, ◌+◌, ◌<◌, ◌≤◌, inl, inr, ◌==◌, List, [], ◌∷◌, length, take, set, get_or, sym, ap, ◌∙◌, subst, arith}
use Rattle.std.proofs.lemmas.Bool.{cases_Bool, cases_eq}
use Rattle.std.proofs.lemmas.List.{length-take-le, length-set, get_or-take, get_or-set_same, get_or-set_other}
use Rattle.plane_model.specs.Orders.{how_often}
use Rattle.rotation_check.specs.Counts.{ArePlacesOfEach}

pub how_often-most : (xs : List ℕ) (x : ℕ) → how_often xs x ≤ length xs
how_often-most [] x = omega arith
how_often-most (y ∷ ys) x = let more = how_often-most ys x in elim (cases_Bool (x == y)) [ inl e ↦ rw e (omega arith) | inr e ↦ rw e (omega arith) ]

-- a count of some of the values has room for one more
pub how_often-take : (xs : List ℕ) (k x : ℕ) → k < length xs → how_often (take k xs) x < length xs
how_often-take xs k x h =
    let most = how_often-most (take k xs) x in
    let l = length-take-le k xs (omega arith) in
    omega arith

pub places_next : (vs : List ℕ) (b k : ℕ) (ps : List ℕ) → k < length vs → get_or vs k 0 < b → ArePlacesOfEach (take k vs) b ps → ArePlacesOfEach (take (k + 1) vs) b (set ps (get_or vs k 0) k)
places_next vs b k ps h lt old =
    let l = length-take-le (k + 1) vs (omega arith) in
    let l0 = length-take-le k vs (omega arith) in
    let size = old.size in
    let at : (j : ℕ) → j < k + 1 → get_or (take (k + 1) vs) j 0 ≡ get_or vs j 0 = λ j q. get_or-take (k + 1) vs j 0 q in
    let at0 : (j : ℕ) → j < k → get_or (take k vs) j 0 ≡ get_or vs j 0 = λ j q. get_or-take k vs j 0 q in
    let new : List ℕ = set ps (get_or vs k 0) k in
    let here : (j : ℕ) → get_or vs j 0 ≡ get_or vs k 0 → get_or new (get_or vs j 0) 0 ≡ k = λ j e.
    ap (λ i. get_or new i 0) e ∙ get_or-set_same ps (get_or vs k 0) k 0 (omega arith) in
    let there : (j : ℕ) → (get_or vs j 0 ≡ get_or vs k 0 → ⊥) → get_or new (get_or vs j 0) 0 ≡ get_or ps (get_or vs j 0) 0 = λ j e.
    get_or-set_other ps (get_or vs k 0) (get_or vs j 0) k 0 e in
    let below : (j : ℕ) → j < k + 1 → (get_or vs j 0 ≡ get_or vs k 0 → ⊥) → j < k = λ j q e.
    elim (cases_eq j k) [ inl is ↦ absurd (e (ap (λ i. get_or vs i 0) is)) | inr ne ↦ omega arith ] in
    let within : (j : ℕ) → j < k + 1 → get_or new (get_or vs j 0) 0 < k + 1 = λ j q.
    elim (cases_eq (get_or vs j 0) (get_or vs k 0)) [
      | inl e ↦ let a = here j e in omega arith
      | inr e ↦
          let a = there j e in
          let lt_j = below j q e in
          let b = at0 j lt_j in
          let w = old.within j (omega arith) in
          let w2 : get_or ps (get_or vs j 0) 0 < length (take k vs) = subst (λ v. get_or ps v 0 < length (take k vs)) b w in
          omega arith
    ] in
    let stands : (j : ℕ) → j < k + 1 → get_or vs (get_or new (get_or vs j 0) 0) 0 ≡ get_or vs j 0 = λ j q.
    elim (cases_eq (get_or vs j 0) (get_or vs k 0)) [
      | inl e ↦ ap (λ i. get_or vs i 0) (here j e) ∙ sym e
      | inr e ↦
          let lt_j = below j q e in
          let b = at0 j lt_j in
          let w = old.within j (omega arith) in
          let w2 : get_or ps (get_or vs j 0) 0 < length (take k vs) = subst (λ v. get_or ps v 0 < length (take k vs)) b w in
          let s = old.stands j (omega arith) in
          let s2 : get_or (take k vs) (get_or ps (get_or vs j 0) 0) 0 ≡ get_or vs j 0 = subst (λ v. get_or (take k vs) (get_or ps v 0) 0 ≡ v) b s in
          ap (λ i. get_or vs i 0) (there j e) ∙ sym (at0 (get_or ps (get_or vs j 0) 0) (omega arith)) ∙ s2
    ] in
    record {
      size = length-set ps (get_or vs k 0) k ∙ old.size;
      within = λ j q. let q' : j < k + 1 = omega arith in
          rw (at j q') (let w = within j q' in omega arith);
      stands = λ j q. let q' : j < k + 1 = omega arith in
          rw (at j q') (at (get_or new (get_or vs j 0) 0) (within j q') ∙ stands j q');
    }
