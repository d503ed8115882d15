-- Which marks are left where those of a list are taken away one by one, and the places that a walk keeps.
use Rattle.std.specs.Prelude.{not, map, ◌==◌, ◌&&◌, if◌then◌else◌, take, drop, slice_set}
use Rattle.std.proofs.Common.{◌≡◌, ℕ, zero, suc, ◌+◌, ◌<◌, ◌≤◌, inl, inr, Bool, true, false, List, [], ◌∷◌, ◌++◌, length, get_or, refl, ap, sym, ◌∙◌, arith}
use Rattle.std.proofs.lemmas.Bool.{cases_Bool, eq-eqb, or_cases, or_left, or_right}
use Rattle.std.proofs.lemmas.List.{drop_more, take_more_set}
use Rattle.plane_model.specs.Sets.{has}
use Rattle.file_laws.specs.Contents.{Contents}
use Rattle.navigate.specs.Beside.{place_across}
use Rattle.navigate.proofs.StandingLaws.{has-first}

nothing : (b : Bool) → (b && not true) ≡ false
nothing true = refl
nothing false = refl

all_of_it : (b : Bool) → (b && not false) ≡ b
all_of_it true = refl
all_of_it false = refl

-- one mark less, and one less to take away
pub clear_next : (x j : ℕ) (xs : List ℕ) (old new : Bool) → new ≡ (if j == x then false else old) → (new && not (has xs j)) ≡ (old && not (has (x ∷ xs) j))
clear_next x j xs old new e =
    elim (cases_Bool (j == x)) [
      | inl w ↦
          let off : new ≡ false = e ∙ rw w refl in
          let there : has (x ∷ xs) j ≡ true = has-first xs x j ∙ rw w refl in
          ap (λ b. b && not (has xs j)) off ∙ sym (nothing old) ∙ ap (λ b. old && not b) (sym there)
      | inr o ↦
          let stays : new ≡ old = e ∙ rw o refl in
          let more : has (x ∷ xs) j ≡ has xs j = has-first xs x j ∙ rw o refl in
          ap (λ b. b && not (has xs j)) stays ∙ ap (λ b. old && not b) (sym more)
    ]

-- at the end none is to be taken away
pub clear_end : (xs : List ℕ) (j : ℕ) (b : Bool) → xs ≡ [] → b ≡ (b && not (has xs j))
clear_end xs j b e = sym (all_of_it b) ∙ ap (λ ys. b && not (has ys j)) (sym e)

-- the same for the items of a list from one on
pub clear_at : (xs : List ℕ) (i j : ℕ) (old new : Bool) → i < length xs → new ≡ (if j == get_or xs i 0 then false else old) → (new && not (has (drop (i + 1) xs) j)) ≡ (old && not (has (drop i xs) j))
clear_at xs i j old new l e = clear_next (get_or xs i 0) j (drop (i + 1) xs) old new e ∙ ap (λ ys. old && not (has ys j)) (sym (drop_more xs i 0 l))

pub item_in : (xs : List ℕ) (i : ℕ) → i < length xs → has (drop i xs) (get_or xs i 0) ≡ true
item_in xs i l =
    let x = get_or xs i 0 in
    ap (λ ys. has ys x) (drop_more xs i 0 l) ∙ or_left (x == x) (has (drop (i + 1) xs) x) (eq-eqb x x refl)

pub later_in : (xs : List ℕ) (i j : ℕ) → i < length xs → has (drop (i + 1) xs) j ≡ true → has (drop i xs) j ≡ true
later_in xs i j l there = ap (λ ys. has ys j) (drop_more xs i 0 l) ∙ or_right (j == get_or xs i 0) (has (drop (i + 1) xs) j) there

-- and for the places across the edges of rings
pub across_next : (m : Contents) (xs mid : List ℕ) (p face j : ℕ) (old new : Bool) → xs ≡ p ∷ mid → face ≡ place_across m p → new ≡ (if j == face then false else old)
    → (new && not (has (map (place_across m) mid) j)) ≡ (old && not (has (map (place_across m) xs) j))
across_next m xs mid p face j old new e f n =
    clear_next (place_across m p) j (map (place_across m) mid) old new (n ∙ ap (λ x. if j == x then false else old) f)
    ∙ ap (λ ys. old && not (has (map (place_across m) ys) j)) (sym e)

pub across_end : (m : Contents) (xs : List ℕ) (j : ℕ) (b : Bool) → xs ≡ [] → b ≡ (b && not (has (map (place_across m) xs) j))
across_end m xs j b e = clear_end (map (place_across m) xs) j b (ap (map (place_across m)) e)

-- where each that is marked is taken away, none is left
pub none_left : (b h : Bool) → (b ≡ true → h ≡ true) → (b && not h) ≡ false
none_left true h among = ap not (among refl)
none_left false h among = refl

-- the places that are kept, with one more
pub kept_next : (kept new all : List ℕ) (count face : ℕ) → count < length kept → take count kept ≡ take count all → take (count + 1) all ≡ take count all ++ face ∷ [] → new ≡ slice_set kept count face
    → take (count + 1) new ≡ take (count + 1) all
kept_next kept new all count face l same more is = ap (take (count + 1)) is ∙ take_more_set kept count face l ∙ ap (λ xs. xs ++ face ∷ []) same ∙ sym more

-- what stands among fewer of them stands among more
pub fewer_in : (k n : ℕ) (xs : List ℕ) (j : ℕ) → has (take k xs) j ≡ true → k ≤ n → has (take n xs) j ≡ true
fewer_in zero n xs j there l = cc
fewer_in (suc k) zero xs j there l = absurd (omega (arith, l))
fewer_in (suc k) (suc n) [] j there l = there
fewer_in (suc k) (suc n) (x ∷ xs) j there l =
    elim (or_cases (j == x) (has (take k xs) j) there) [
      | inl e ↦ or_left (j == x) (has (take n xs) j) e
      | inr more ↦ or_right (j == x) (has (take n xs) j) (fewer_in k n xs j more (omega (arith, l)))
    ]
