-- How first occurrences go on.
use Rattle.std.specs.Prelude.{map, ◌==◌, ◌||◌}
use Rattle.std.proofs.Common.{◌≡◌, ◌≢◌, ℕ, inl, inr, Bool, true, false, List, [], ◌∷◌, refl, ap, subst}
use Rattle.std.proofs.lemmas.Bool.{cases_Bool, eq-eqb, ne_eqb, eqb-false, or_cases, or_parts}
use Rattle.file_laws.specs.Contents.{Contents}
use Rattle.plane_model.specs.Sets.{has, first_occurrences_but}
use Rattle.navigate.specs.Beside.{place_across, others, unseen}

-- a face that is left out, or was seen, is passed over
pub unseen-known : (m : Contents) (f : ℕ) (seen : List ℕ) (p x : ℕ) (ps : List ℕ) → x ≡ place_across m p → ((x == f) || has seen x) ≡ true → unseen m f seen (p ∷ ps) ≡ unseen m f seen ps
unfolding unseen
unseen-known m f seen p x ps e h = subst (λ y. first_occurrences_but seen (others f (y ∷ map (place_across m) ps)) ≡ first_occurrences_but seen (others f (map (place_across m) ps))) e (elim (cases_Bool (x == f)) [
  | inl w ↦ rw w refl
  | inr n ↦ rw n (elim (or_cases (x == f) (has seen x) h) [
    | inl w ↦ cc
    | inr s ↦ rw s refl
  ])
])

-- any other face is listed, and seen from then on
pub unseen-new : (m : Contents) (f : ℕ) (seen : List ℕ) (p x : ℕ) (ps : List ℕ) → x ≡ place_across m p → x ≢ f → has seen x ≡ false → unseen m f seen (p ∷ ps) ≡ x ∷ unseen m f (x ∷ seen) ps
unfolding unseen
unseen-new m f seen p x ps e n h = subst (λ y. first_occurrences_but seen (others f (y ∷ map (place_across m) ps)) ≡ x ∷ first_occurrences_but (x ∷ seen) (others f (map (place_across m) ps))) e
    (rw (ne_eqb x f n, h) refl)

pub unseen-none : (m : Contents) (f : ℕ) (seen : List ℕ) → unseen m f seen [] ≡ []
unfolding unseen
unseen-none m f seen = refl

pub occurrences-alike : (seen other xs : List ℕ) → ((j : ℕ) → has seen j ≡ has other j) → first_occurrences_but seen xs ≡ first_occurrences_but other xs
occurrences-alike seen other [] h = refl
occurrences-alike seen other (x ∷ xs) h =
    elim (cases_Bool (has other x)) [
      | inl w ↦ rw (h x, w) (occurrences-alike seen other xs h)
      | inr f ↦ rw (h x, f) (ap (λ ys. x ∷ ys) (occurrences-alike (x ∷ seen) (x ∷ other) xs (λ j. ap (λ b. (j == x) || b) (h j))))
    ]

-- what was seen counts as a set
pub unseen-alike : (m : Contents) (f : ℕ) (seen other ps : List ℕ) → ((j : ℕ) → has seen j ≡ has other j) → unseen m f seen ps ≡ unseen m f other ps
unfolding unseen
unseen-alike m f seen other ps h = occurrences-alike seen other (others f (map (place_across m) ps)) h

-- what one test says of the other
pub test_parts : (x f : ℕ) (b : Bool) → ((x == f) || b) ≡ false → (x ≢ f) × (b ≡ false)
test_parts x f b h = let p = or_parts (x == f) b h in (eqb-false x f p.0, p.1)

pub unseen-own : (m : Contents) (f : ℕ) (seen : List ℕ) (p x : ℕ) (ps : List ℕ) → x ≡ place_across m p → x ≡ f → unseen m f seen (p ∷ ps) ≡ unseen m f seen ps
unseen-own m f seen p x ps e h = unseen-known m f seen p x ps e (rw (eq-eqb x f h) refl)

pub one_head : (p q : ℕ) (ps qs : List ℕ) → p ∷ ps ≡ q ∷ qs → p ≡ q
one_head p q ps qs e = cc
