-- What is kept of the front of a line decides on the lines that end behind it.
use Rattle.std.proofs.Common.{◌≡◌, ℕ, ◌+◌, ◌*◌, List, [], ◌∷◌, ◌++◌, flat_map, true, false, refl, sym, ap, ◌∙◌, arith}
use Rattle.std.specs.Prelude.{◌==◌, if◌then◌else◌}
use Rattle.std.proofs.lemmas.List.{take-take}
use Rattle.topo_base.specs.Script.{line}
use Rattle.bit_words.specs.Digits.{digits}
use Rattle.plane_model.specs.PlaneMap.{PlaneMap}
use Rattle.plane_model.specs.Consistent.{size}
use Rattle.plane_model.specs.Answers.{answer, answer_to, line_walked, items_listed}
use Rattle.topo_serve.specs.Pieces.{ended_behind, open_behind, last_line, cut}
use Rattle.topo_serve.specs.Serving.{over_lines, words_of_line, found_by_reads, found_in}
use Rattle.topo_serve.proofs.Cutting.{same_line, cut_more}

pub cut_twice : (xs : List ℕ) → cut (cut xs) ≡ cut xs
cut_twice xs = take-take 257 257 xs (omega arith)

same_cut : (kept xs : List ℕ) → cut kept ≡ cut xs → line kept ≡ line xs
same_cut kept xs e = sym (same_line (cut kept) kept refl) ∙ ap line e ∙ same_line (cut xs) xs refl

cut_behind : (kept xs ys : List ℕ) → cut kept ≡ cut xs → cut (kept ++ ys) ≡ cut (xs ++ ys)
cut_behind kept xs ys e = sym (cut_more kept ys) ∙ ap (λ z. cut (z ++ ys)) e ∙ cut_more xs ys

pub open_kept : (kept xs bytes : List ℕ) → cut kept ≡ cut xs → cut (open_behind kept bytes) ≡ cut (open_behind xs bytes)
unfolding open_behind
open_kept kept xs [] e = e
open_kept kept xs (b ∷ bytes) e = elim (b == 10) as (λ v. cut (if v then open_behind [] bytes else open_behind (kept ++ b ∷ []) bytes) ≡ cut (if v then open_behind [] bytes else open_behind (xs ++ b ∷ []) bytes))
    [ true ↦ refl | false ↦ open_kept (kept ++ b ∷ []) (xs ++ b ∷ []) bytes (cut_behind kept xs (b ∷ []) e) ]

over_kept : (f : List ℕ → ℕ) → ((x y : List ℕ) → cut x ≡ cut y → f x ≡ f y) → (kept xs bytes : List ℕ) → cut kept ≡ cut xs → over_lines f (ended_behind kept bytes) ≡ over_lines f (ended_behind xs bytes)
unfolding ended_behind over_lines
over_kept f same kept xs [] e = refl
over_kept f same kept xs (b ∷ bytes) e =
    elim (b == 10) as (λ v. over_lines f (if v then kept ∷ ended_behind [] bytes else ended_behind (kept ++ b ∷ []) bytes) ≡ over_lines f (if v then xs ∷ ended_behind [] bytes else ended_behind (xs ++ b ∷ []) bytes))
    [ true ↦ ap (λ z. z + over_lines f (ended_behind [] bytes)) (same kept xs e) | false ↦ over_kept f same (kept ++ b ∷ []) (xs ++ b ∷ []) bytes (cut_behind kept xs (b ∷ []) e) ]

over_last_kept : (f : List ℕ → ℕ) → ((x y : List ℕ) → cut x ≡ cut y → f x ≡ f y) → (xs : List ℕ) → over_lines f (last_line (cut xs)) ≡ over_lines f (last_line xs)
unfolding over_lines
over_last_kept f same [] = refl
over_last_kept f same (x ∷ xs) = ap (λ z. z + 0) (same (cut (x ∷ xs)) (x ∷ xs) (cut_twice (x ∷ xs)))

words_same : (m : PlaneMap) (x y : List ℕ) → cut x ≡ cut y → words_of_line m x ≡ words_of_line m y
words_same m x y e = ap (λ l. 256 * digits (size m) * (line_walked m l + items_listed m l + 2)) (same_cut x y e)

found_same : (m : PlaneMap) (x y : List ℕ) → cut x ≡ cut y → found_by_reads m x ≡ found_by_reads m y
found_same m x y e = ap (found_in m) (same_cut x y e)

pub words_kept : (m : PlaneMap) (kept xs bytes : List ℕ) → cut kept ≡ cut xs → over_lines (words_of_line m) (ended_behind kept bytes) ≡ over_lines (words_of_line m) (ended_behind xs bytes)
words_kept m = over_kept (words_of_line m) (words_same m)

pub found_kept : (m : PlaneMap) (kept xs bytes : List ℕ) → cut kept ≡ cut xs → over_lines (found_by_reads m) (ended_behind kept bytes) ≡ over_lines (found_by_reads m) (ended_behind xs bytes)
found_kept m = over_kept (found_by_reads m) (found_same m)

pub last_words_kept : (m : PlaneMap) (xs : List ℕ) → over_lines (words_of_line m) (last_line (cut xs)) ≡ over_lines (words_of_line m) (last_line xs)
last_words_kept m = over_last_kept (words_of_line m) (words_same m)

pub last_found_kept : (m : PlaneMap) (xs : List ℕ) → over_lines (found_by_reads m) (last_line (cut xs)) ≡ over_lines (found_by_reads m) (last_line xs)
last_found_kept m = over_last_kept (found_by_reads m) (found_same m)

pub answers_kept : (m : PlaneMap) (kept xs bytes : List ℕ) → cut kept ≡ cut xs → flat_map (answer m) (ended_behind kept bytes) ≡ flat_map (answer m) (ended_behind xs bytes)
unfolding ended_behind
answers_kept m kept xs [] e = refl
answers_kept m kept xs (b ∷ bytes) e =
    elim (b == 10) as (λ v. flat_map (answer m) (if v then kept ∷ ended_behind [] bytes else ended_behind (kept ++ b ∷ []) bytes) ≡ flat_map (answer m) (if v then xs ∷ ended_behind [] bytes else ended_behind (xs ++ b ∷ []) bytes))
    [ true ↦ ap (λ l. answer_to m l ++ flat_map (answer m) (ended_behind [] bytes)) (same_cut kept xs e) | false ↦ answers_kept m (kept ++ b ∷ []) (xs ++ b ∷ []) bytes (cut_behind kept xs (b ∷ []) e) ]

pub last_answers_kept : (m : PlaneMap) (xs : List ℕ) → flat_map (answer m) (last_line (cut xs)) ≡ flat_map (answer m) (last_line xs)
last_answers_kept m [] = refl
last_answers_kept m (x ∷ xs) = ap (λ l. answer_to m l ++ []) (same_line (cut (x ∷ xs)) (x ∷ xs) refl)
