-- How a walk to the faces across a ring goes on, and what was given of it.
use Rattle.std.specs.Prelude.{not, filter, map, ◌==◌, ◌||◌, if◌then◌else◌, take, drop}
use Rattle.std.proofs.Common.{◌≡◌, ℕ, zero, suc, ◌+◌, ◌*◌, ◌<◌, ◌≤◌, inl, inr, Bool, true, List, [], ◌∷◌, ◌++◌, length, refl, ap, sym, ◌∙◌, arith, subst, length-drop}
use Rattle.std.proofs.lemmas.Bool.{cases_Bool, or_cases, or_left, or_right}
use Rattle.std.proofs.Math.Nat.{mul-le-mul_left}
use Rattle.std.proofs.lemmas.List.{map-append}
use Rattle.file_laws.specs.Contents.{Contents}
use Rattle.file_laws.specs.MapOfFile.{face_at_place}
use Rattle.navigate.specs.Bound.{line_digits}
use Rattle.plane_model.specs.Sets.{has, first_occurrences_but}
use Rattle.navigate.specs.Beside.{place_across, others, adjacent_places, unseen}
use Rattle.navigate.specs.Standing.{IsUnseen, IsStanding}
use Rattle.navigate.specs.FaceWalk.{pass_price}
use Rattle.navigate.specs.AdjacentWalk.{step_price}
use Rattle.navigate.proofs.FreshLaws.{unseen-new, unseen-none, unseen-alike}

-- where all is left
pub begin : (m : Contents) (f : ℕ) (all left : List ℕ) (next : ℕ) → unseen m f [] left ≡ unseen m f [] all → ((p : ℕ) (ps : List ℕ) → left ≡ p ∷ ps → IsUnseen m f [] p next) → length (adjacent_places m f all) ≤ length m.faces + 1 → IsStanding m f all left 0 next
unfolding unseen
begin m f all left next h ahead few = record { stays = sym h; ahead = ahead; few = few }

-- one item on
drop-suc : (n : ℕ) (xs ys : List ℕ) (x : ℕ) → drop n xs ≡ x ∷ ys → (drop (suc n) xs ≡ ys) × (take (suc n) xs ≡ take n xs ++ x ∷ [])
drop-suc n [] ys x e = let none : drop n [] ≡ [] = drop-nil n in cc
  where
    drop-nil : (n : ℕ) → drop {A = ℕ} n [] ≡ []
    drop-nil zero = refl
    drop-nil (suc n) = refl
drop-suc zero (z ∷ xs) ys x e =
    let head : z ≡ x = cc in
    let tail : xs ≡ ys = cc in
    (tail, ap (λ w. w ∷ []) head)
drop-suc (suc n) (z ∷ xs) ys x e = let more = drop-suc n xs ys x e in (more.0, ap (λ ws. z ∷ ws) more.1)

pub drop-next : (n : ℕ) (xs ys : List ℕ) (x : ℕ) → drop n xs ≡ x ∷ ys → (drop (n + 1) xs ≡ ys) × (take (n + 1) xs ≡ take n xs ++ x ∷ [])
drop-next n xs ys x e =
    let more = drop-suc n xs ys x e in
    let one : n + 1 ≡ suc n = omega arith in
    (ap (λ k. drop k xs) one ∙ more.0, ap (λ k. take k xs) one ∙ more.1)

pub has-last : (xs : List ℕ) (x j : ℕ) → has (xs ++ x ∷ []) j ≡ (if j == x then true else has xs j)
has-last [] x j = elim (cases_Bool (j == x)) [ inl w ↦ rw w refl | inr o ↦ rw o refl ]
has-last (y ∷ xs) x j =
    let more = has-last xs x j in
    elim (cases_Bool (j == x)) [
      | inl w ↦ rw w (ap (λ b. (j == y) || b) (more ∙ rw w refl) ∙ or_right (j == y) true refl)
      | inr o ↦ rw o (ap (λ b. (j == y) || b) (more ∙ rw o refl))
    ]

pub has-first : (xs : List ℕ) (x j : ℕ) → has (x ∷ xs) j ≡ (if j == x then true else has xs j)
has-first xs x j = elim (cases_Bool (j == x)) [ inl w ↦ rw w refl | inr o ↦ rw o refl ]

-- what one item more gives
pub record IsNextOf (m : Contents) (f : ℕ) (all mid : List ℕ) (count face : ℕ) : Type 0 where
  pub rest : drop count (adjacent_places m f all) ≡ face ∷ drop (count + 1) (adjacent_places m f all)
  pub given : take (count + 1) (adjacent_places m f all) ≡ take count (adjacent_places m f all) ++ face ∷ []
  pub after : drop (count + 1) (adjacent_places m f all) ≡ unseen m f (take (count + 1) (adjacent_places m f all)) mid
  pub marked : (j : ℕ) → has (take (count + 1) (adjacent_places m f all)) j ≡ (if j == face then true else has (take count (adjacent_places m f all)) j)

pub next_of : (m : Contents) (f : ℕ) (all left mid : List ℕ) (count face p : ℕ) → IsStanding m f all left count face → left ≡ p ∷ mid → IsNextOf m f all mid count face
next_of m f all left mid count face p s e =
    let whole = adjacent_places m f all in
    let before = take count whole in
    let u = s.ahead p mid e in
    let first : drop count whole ≡ face ∷ unseen m f (face ∷ before) mid = s.stays ∙ ap (unseen m f before) e ∙ unseen-new m f before p face mid u.face u.other u.new in
    let n = drop-next count whole (unseen m f (face ∷ before) mid) face first in
    let marked : (j : ℕ) → has (take (count + 1) whole) j ≡ (if j == face then true else has before j) = λ j. ap (λ xs. has xs j) n.1 ∙ has-last before face j in
    record {
      rest = first ∙ ap (λ xs. face ∷ xs) (sym n.0);
      given = n.1;
      after = n.0 ∙ unseen-alike m f (face ∷ before) (take (count + 1) whole) mid (λ j. has-first before face j ∙ sym (marked j));
      marked = marked;
    }

pub stand_again : (m : Contents) (f : ℕ) (all mid left : List ℕ) (count face next : ℕ) → IsNextOf m f all mid count face
    → unseen m f (take (count + 1) (adjacent_places m f all)) left ≡ unseen m f (take (count + 1) (adjacent_places m f all)) mid
    → ((p : ℕ) (ps : List ℕ) → left ≡ p ∷ ps → IsUnseen m f (take (count + 1) (adjacent_places m f all)) p next)
    → length (adjacent_places m f all) ≤ length m.faces + 1 → IsStanding m f all left (count + 1) next
stand_again m f all mid left count face next n h ahead few = record { stays = n.after ∙ sym h; ahead = ahead; few = few }

-- at the end of the ring nothing is left
pub stand_end : (m : Contents) (f : ℕ) (all left : List ℕ) (count next : ℕ) → IsStanding m f all left count next → left ≡ [] → drop count (adjacent_places m f all) ≡ []
stand_end m f all left count next s e = s.stays ∙ ap (unseen m f (take count (adjacent_places m f all))) e ∙ unseen-none m f (take count (adjacent_places m f all))

filter-length : (t : ℕ → Bool) (xs : List ℕ) → length (filter t xs) ≤ length xs
filter-length t [] = omega arith
filter-length t (x ∷ xs) =
    let more = filter-length t xs in
    elim (cases_Bool (t x)) [ inl w ↦ rw w (omega (arith, more)) | inr o ↦ rw o (omega (arith, more)) ]

occurrences-length : (seen xs : List ℕ) → length (first_occurrences_but seen xs) ≤ length xs
occurrences-length seen [] = omega arith
occurrences-length seen (x ∷ xs) =
    elim (cases_Bool (has seen x)) [
      | inl w ↦ rw w (let more = occurrences-length seen xs in omega (arith, more))
      | inr o ↦ rw o (let more = occurrences-length (x ∷ seen) xs in omega (arith, more))
    ]

map-length : (g : ℕ → ℕ) (xs : List ℕ) → length (map g xs) ≡ length xs
map-length g [] = refl
map-length g (x ∷ xs) = ap suc (map-length g xs)

pub adjacent-length : (m : Contents) (f : ℕ) (all : List ℕ) → length (adjacent_places m f all) ≤ length all
adjacent-length m f all =
    let first = occurrences-length [] (others f (map (place_across m) all)) in
    let second = filter-length (λ g. not (g == f)) (map (place_across m) all) in
    let third = map-length (place_across m) all in
    omega (arith, first, second, third)

pub drop-some : (n : ℕ) (xs ys : List ℕ) (x : ℕ) → drop n xs ≡ x ∷ ys → n < length xs
drop-some n xs ys x e =
    let l : length (drop n xs) ≡ suc (length ys) = ap length e in
    omega (arith, l, length-drop n xs)

-- what was given lies across the ring
pub occurrences-among : (seen xs : List ℕ) (j : ℕ) → has (first_occurrences_but seen xs) j ≡ true → has xs j ≡ true
occurrences-among seen [] j h = h
occurrences-among seen (x ∷ xs) j h =
    elim (cases_Bool (has seen x)) [
      | inl w ↦ or_right (j == x) (has xs j) (occurrences-among seen xs j (rw w at h))
      | inr o ↦ elim (or_cases (j == x) (has (first_occurrences_but (x ∷ seen) xs) j) (rw o at h)) [
        | inl e ↦ or_left (j == x) (has xs j) e
        | inr more ↦ or_right (j == x) (has xs j) (occurrences-among (x ∷ seen) xs j more)
      ]
    ]

pub filter-among : (t : ℕ → Bool) (xs : List ℕ) (j : ℕ) → has (filter t xs) j ≡ true → has xs j ≡ true
filter-among t [] j h = h
filter-among t (x ∷ xs) j h =
    elim (cases_Bool (t x)) [
      | inl w ↦ elim (or_cases (j == x) (has (filter t xs) j) (rw w at h)) [
        | inl e ↦ or_left (j == x) (has xs j) e
        | inr more ↦ or_right (j == x) (has xs j) (filter-among t xs j more)
      ]
      | inr o ↦ or_right (j == x) (has xs j) (filter-among t xs j (rw o at h))
    ]

take-among : (n : ℕ) (xs : List ℕ) (j : ℕ) → has (take n xs) j ≡ true → has xs j ≡ true
take-among zero xs j h = cc
take-among (suc n) [] j h = h
take-among (suc n) (x ∷ xs) j h =
    elim (or_cases (j == x) (has (take n xs) j) h) [
      | inl e ↦ or_left (j == x) (has xs j) e
      | inr more ↦ or_right (j == x) (has xs j) (take-among n xs j more)
    ]

pub given_across : (m : Contents) (f : ℕ) (all : List ℕ) (count j : ℕ) → has (take count (adjacent_places m f all)) j ≡ true → has (map (place_across m) all) j ≡ true
given_across m f all count j h =
    filter-among (λ g. not (g == f)) (map (place_across m) all) j (occurrences-among [] (others f (map (place_across m) all)) j (take-among count (adjacent_places m f all) j h))

-- the price of a step
pub step_paid : (m : Contents) (xs mid left : List ℕ) (p first second third last : ℕ) → xs ≡ p ∷ mid → length left ≤ length mid → second ≤ first + (8 * line_digits m + 66) → third ≤ second + (3 * line_digits m + 20)
    → last + pass_price m * length left ≤ third + (pass_price m * length mid + (12 * line_digits m + 121)) → last + step_price m * length left ≤ first + step_price m * length xs
step_paid m xs mid left p first second third last e l h j k =
    let d = line_digits m in
    let long : length xs ≡ suc (length mid) = ap length e in
    let all : step_price m * length xs ≡ step_price m * suc (length mid) = ap (λ n. step_price m * n) long in
    let over : (3 * d + 20) * length left ≤ (3 * d + 20) * length mid = mul-le-mul_left (3 * d + 20) l in
    omega (arith, all, over, h, j, k)

-- what a step does, where it gives `face` and `next` comes after it
pub record StepDone (m : Contents) (f : ℕ) (all : List ℕ) (count face next : ℕ) (new : List ℕ) (marked : ℕ → Bool) : Type 0 where
  pub standing : IsStanding m f all new (count + 1) next
  pub given : take (count + 1) (adjacent_places m f all) ≡ take count (adjacent_places m f all) ++ face ∷ []
  pub rest : drop count (adjacent_places m f all) ≡ face ∷ drop (count + 1) (adjacent_places m f all)
  pub marks : (j : ℕ) → marked j ≡ has (take (count + 1) (adjacent_places m f all)) j

pub step_done :
    (m o : Contents) (f : ℕ) (all : List ℕ) (count face next p : ℕ) (left mid new : List ℕ) (before marked : ℕ → Bool) → o ≡ m → IsStanding m f all left count face → left ≡ p ∷ mid
    → ((j : ℕ) → before j ≡ has (take count (adjacent_places m f all)) j) → ((j : ℕ) → marked j ≡ (if j == face then true else before j))
    → ((seen : List ℕ) → ((j : ℕ) → marked j ≡ has seen j) → unseen o f seen new ≡ unseen o f seen mid)
    → ((seen : List ℕ) → ((j : ℕ) → marked j ≡ has seen j) → (q : ℕ) (qs : List ℕ) → new ≡ q ∷ qs → IsUnseen o f seen q next)
    → StepDone m f all count face next new marked
step_done m o f all count face next p left mid new before marked o_is s e old set un st =
    let x = next_of m f all left mid count face p s e in
    let seen = take (count + 1) (adjacent_places m f all) in
    let match : (j : ℕ) → marked j ≡ has seen j = λ j. set j ∙ ap (λ b. if j == face then true else b) (old j) ∙ sym (x.marked j) in
    let un_m : unseen m f seen new ≡ unseen m f seen mid = subst (λ (y : Contents). unseen y f seen new ≡ unseen y f seen mid) o_is (un seen match) in
    let st_m : (q : ℕ) (qs : List ℕ) → new ≡ q ∷ qs → IsUnseen m f seen q next = λ q qs h. subst (λ (y : Contents). IsUnseen y f seen q next) o_is (st seen match q qs h) in
    record { standing = stand_again m f all mid new count face next x un_m st_m s.few; given = x.given; rest = x.rest; marks = match }

-- the same by faces
pub gives_next : (m o q : Contents) (f : ℕ) (all : List ℕ) (count face id : ℕ) → o ≡ m → q ≡ m → id ≡ face_at_place q face → drop count (adjacent_places m f all) ≡ face ∷ drop (count + 1) (adjacent_places m f all)
    → map (face_at_place m) (drop count (adjacent_places m f all)) ≡ id ∷ map (face_at_place o) (drop (count + 1) (adjacent_places o f all))
gives_next m o q f all count face id o_is q_is named next =
    ap (map (face_at_place m)) next ∙ ap (λ g. g ∷ map (face_at_place m) (drop (count + 1) (adjacent_places m f all))) (sym (named ∙ ap (λ (x : Contents). face_at_place x face) q_is))
    ∙ ap (λ (x : Contents). id ∷ map (face_at_place x) (drop (count + 1) (adjacent_places x f all))) (sym o_is)

pub gave_next : (m o q : Contents) (f : ℕ) (all : List ℕ) (count face id : ℕ) → o ≡ m → q ≡ m → id ≡ face_at_place q face → take (count + 1) (adjacent_places m f all) ≡ take count (adjacent_places m f all) ++ face ∷ []
    → map (face_at_place o) (take (count + 1) (adjacent_places o f all)) ≡ map (face_at_place m) (take count (adjacent_places m f all)) ++ id ∷ []
gave_next m o q f all count face id o_is q_is named next =
    ap (λ (x : Contents). map (face_at_place x) (take (count + 1) (adjacent_places x f all))) o_is ∙ ap (map (face_at_place m)) next ∙ map-append (face_at_place m) (take count (adjacent_places m f all)) (face ∷ [])
    ∙ ap (λ g. map (face_at_place m) (take count (adjacent_places m f all)) ++ g ∷ []) (sym (named ∙ ap (λ (x : Contents). face_at_place x face) q_is))
