-- The smallest of a walk, as the walk goes on.
use Rattle.std.specs.Prelude.{if◌then◌else◌, Contains, drop}
use Rattle.std.proofs.Common.{◌≡◌, ℕ, zero, suc, ◌+◌, ◌*◌, ◌≤◌, inl, inr, ℤ, true, false, List, [], ◌∷◌, length, refl, ap, sym, ◌∙◌, arith}
use Rattle.std.proofs.lemmas.Bool.{cases_Bool}
use Rattle.topo_base.specs.SignedEdge.{comes_before}
use Rattle.file_laws.specs.Contents.{Contents}
use Rattle.file_laws.specs.MapOfFile.{signed_at}
use Rattle.navigate.specs.Least.{least}
use Rattle.navigate.specs.OrbitWalk.{rank_price}

-- none comes before itself
least-own : (m : Contents) (p : ℕ) (qs : List ℕ) → least m p (p ∷ qs) ≡ least m p qs
unfolding least
least-own m p qs =
    elim (cases_Bool (comes_before (signed_at m p) (signed_at m p))) [ inl w ↦ rw w refl | inr f ↦ rw f refl ]

-- the smallest of an orbit is that of its first and what follows it
pub least-first : (m : Contents) (p q : ℕ) (xs qs : List ℕ) → xs ≡ p ∷ drop 1 xs → xs ≡ q ∷ qs → least m q qs ≡ least m p xs
least-first m p q xs qs e h =
    let same : q ≡ p = cc in
    ap (λ x. least m x qs) same ∙ sym (least-own m p qs) ∙ ap (λ x. least m p (x ∷ qs)) (sym same) ∙ ap (least m p) (sym h)

pub least-none : (m : Contents) (p : ℕ) (xs : List ℕ) (x : ℕ) → xs ≡ [] → least m p xs ≡ x → p ≡ x
unfolding least
least-none m p xs x e h = sym (ap (least m p) e) ∙ h

pub least-taken : (m : Contents) (p q : ℕ) (xs qs : List ℕ) (d e : ℤ) (x : ℕ) → d ≡ signed_at m p → e ≡ signed_at m q → comes_before e d ≡ true → xs ≡ q ∷ qs → least m p xs ≡ x → least m q qs ≡ x
unfolding least
least-taken m p q xs qs d e x f g b h k =
    let test : comes_before (signed_at m q) (signed_at m p) ≡ true = ap (λ y. comes_before y (signed_at m p)) (sym g) ∙ ap (comes_before e) (sym f) ∙ b in
    let one : least m p (q ∷ qs) ≡ least m q qs = ap (λ t. least m (if t then q else p) qs) test in
    sym one ∙ ap (least m p) (sym h) ∙ k

pub least-left : (m : Contents) (p q : ℕ) (xs qs : List ℕ) (d e : ℤ) (x : ℕ) → d ≡ signed_at m p → e ≡ signed_at m q → comes_before e d ≡ false → xs ≡ q ∷ qs → least m p xs ≡ x → least m p qs ≡ x
unfolding least
least-left m p q xs qs d e x f g b h k =
    let test : comes_before (signed_at m q) (signed_at m p) ≡ false = ap (λ y. comes_before y (signed_at m p)) (sym g) ∙ ap (comes_before e) (sym f) ∙ b in
    let one : least m p (q ∷ qs) ≡ least m p qs = ap (λ t. least m (if t then q else p) qs) test in
    sym one ∙ ap (least m p) (sym h) ∙ k

-- what one more of a walk costs, at a price
pub paid-more : (price q : ℕ) (xs qs : List ℕ) (first last bound : ℕ) → xs ≡ q ∷ qs → first + price * length xs ≤ bound
    → last ≤ first + price → last + price * length qs ≤ bound
paid-more price q xs qs first last bound e b h =
    let more : price * suc (length qs) ≡ price * length qs + price = omega arith in
    let l : price * length xs ≡ price * length qs + price = ap (λ ys. price * length ys) e ∙ more in
    omega (arith, l, b, h)

pub paid-one : (m : Contents) (q : ℕ) (xs qs : List ℕ) (first last bound : ℕ) → xs ≡ q ∷ qs → first + rank_price m * length xs ≤ bound
    → last ≤ first + rank_price m → last + rank_price m * length qs ≤ bound
paid-one m q xs qs first last bound e b h = paid-more (rank_price m) q xs qs first last bound e b h

-- the smallest is one of them
pub least-among : (m : Contents) (p : ℕ) (qs : List ℕ) → Contains (p ∷ qs) (least m p qs)
unfolding least
least-among m p [] = (0, omega arith, refl)
least-among m p (q ∷ qs) =
    elim (cases_Bool (comes_before (signed_at m q) (signed_at m p))) [
      | inl w ↦ rw w (let more = least-among m q qs in (suc more.0, omega (arith, more.1), more.2))
      | inr f ↦ rw f (later (least-among m p qs))
    ]
  where
    later : {x : ℕ} → Contains (p ∷ qs) x → Contains (p ∷ q ∷ qs) x
    later (zero, l, e) = (0, omega arith, e)
    later (suc k, l, e) = (suc (suc k), omega (arith, l), e)
