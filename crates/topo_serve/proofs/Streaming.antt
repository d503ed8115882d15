-- A script that is taken piece by piece.
use Rattle.std.proofs.Common.{◌≡◌, ℕ, suc, List, [], ◌∷◌, ◌++◌, filter, length, Option, None, Some, true, false, refl, sym, ap, ◌∙◌, append_assoc, append-nil, arith}
use Rattle.std.specs.Prelude.{◌==◌, if◌then◌else◌}
use Rattle.std.specs.Io.KnownBytes.{Consumes}
use Rattle.std.proofs.lemmas.List.{take_all, take-append-le}
use Rattle.topo_base.specs.Script.{lines, onto_first}
use Rattle.topo_serve.specs.Pieces.{ended_lines, ended_behind, open_behind, last_line}

-- bytes behind others
pub ended_more : (front xs ys : List ℕ) → ended_behind front (xs ++ ys) ≡ ended_behind front xs ++ ended_behind (open_behind front xs) ys
unfolding ended_behind open_behind
ended_more front [] ys = refl
ended_more front (b ∷ xs) ys = elim (b == 10) as (λ v. (if v then front ∷ ended_behind [] (xs ++ ys) else ended_behind (front ++ b ∷ []) (xs ++ ys))
    ≡ (if v then front ∷ ended_behind [] xs else ended_behind (front ++ b ∷ []) xs) ++ ended_behind (if v then open_behind [] xs else open_behind (front ++ b ∷ []) xs) ys)
    [ true ↦ ap (λ z. front ∷ z) (ended_more [] xs ys) | false ↦ ended_more (front ++ b ∷ []) xs ys ]

pub open_more : (front xs ys : List ℕ) → open_behind front (xs ++ ys) ≡ open_behind (open_behind front xs) ys
unfolding open_behind
open_more front [] ys = refl
open_more front (b ∷ xs) ys = elim (b == 10) as (λ v. (if v then open_behind [] (xs ++ ys) else open_behind (front ++ b ∷ []) (xs ++ ys))
    ≡ open_behind (if v then open_behind [] xs else open_behind (front ++ b ∷ []) xs) ys)
    [ true ↦ open_more [] xs ys | false ↦ open_more (front ++ b ∷ []) xs ys ]

-- some bytes before the first of some lines
onto : List ℕ → List (List ℕ) → List (List ℕ)
onto front [] = last_line front
onto front (l ∷ ls) = (front ++ l) ∷ ls

onto_nothing : (ls : List (List ℕ)) → onto [] ls ≡ ls
unfolding onto
onto_nothing [] = refl
onto_nothing (l ∷ ls) = refl

last_behind : (front : List ℕ) (b : ℕ) → last_line (front ++ b ∷ []) ≡ (front ++ b ∷ []) ∷ []
last_behind [] b = refl
last_behind (x ∷ front) b = refl

onto_more : (front : List ℕ) (b : ℕ) (ls : List (List ℕ)) → onto front (onto_first b ls) ≡ onto (front ++ b ∷ []) ls
unfolding onto
onto_more front b [] = sym (last_behind front b)
onto_more front b (l ∷ ls) = ap (λ z. z ∷ ls) (sym (append_assoc front (b ∷ []) l))

lines_behind : (front bytes : List ℕ) → onto front (lines bytes) ≡ ended_behind front bytes ++ last_line (open_behind front bytes)
unfolding onto ended_behind open_behind
lines_behind front [] = refl
lines_behind front (b ∷ bytes) = elim (b == 10) as (λ v. onto front (if v then [] ∷ lines bytes else onto_first b (lines bytes))
    ≡ (if v then front ∷ ended_behind [] bytes else ended_behind (front ++ b ∷ []) bytes) ++ last_line (if v then open_behind [] bytes else open_behind (front ++ b ∷ []) bytes)) [
      | true ↦ ap (λ z. z ∷ lines bytes) (append-nil front) ∙ ap (λ z. front ∷ z) (sym (onto_nothing (lines bytes)) ∙ lines_behind [] bytes)
      | false ↦ onto_more front b (lines bytes) ∙ lines_behind (front ++ b ∷ []) bytes
    ]

-- the lines are those that ended, and the last one
pub all_lines : (bytes : List ℕ) → lines bytes ≡ ended_behind [] bytes ++ last_line (open_behind [] bytes)
all_lines bytes = sym (onto_nothing (lines bytes)) ∙ lines_behind [] bytes

count_ended : (front bytes : List ℕ) → length (filter (λ b. b == 10) bytes) ≡ length (ended_behind front bytes)
unfolding ended_behind
count_ended front [] = refl
count_ended front (b ∷ bytes) = elim (b == 10) as (λ v. length (if v then b ∷ filter (λ c. c == 10) bytes else filter (λ c. c == 10) bytes)
    ≡ length (if v then front ∷ ended_behind [] bytes else ended_behind (front ++ b ∷ []) bytes))
    [ true ↦ ap suc (count_ended [] bytes) | false ↦ count_ended (front ++ b ∷ []) bytes ]

-- as many lines ended as there are line feeds
pub these_ended : (bytes : List ℕ) → ended_lines bytes ≡ ended_behind [] bytes
these_ended bytes =
    rw (all_lines bytes, count_ended [] bytes)
    (take-append-le (length (ended_behind [] bytes)) (ended_behind [] bytes) (last_line (open_behind [] bytes)) (omega arith) ∙ take_all (length (ended_behind [] bytes)) (ended_behind [] bytes) (omega arith))

pub consumes_more : (a b c : Option (List ℕ)) (xs ys : List ℕ) → Consumes a b xs → Consumes b c ys → Consumes a c (xs ++ ys)
consumes_more None b c xs ys p q = tt
consumes_more (Some a) None c xs ys p q = absurd p
consumes_more (Some a) (Some b) None xs ys p q = absurd q
consumes_more (Some a) (Some b) (Some c) xs ys p q = p ∙ ap (λ z. xs ++ z) q ∙ sym (append_assoc xs ys c)

pub consumes_nothing : (a : Option (List ℕ)) → Consumes a a []
consumes_nothing None = tt
consumes_nothing (Some a) = refl
