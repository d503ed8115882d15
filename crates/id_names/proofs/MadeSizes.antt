-- The sizes of the parts that are made.
use Rattle.std.specs.Prelude.{count_by, find, unwrap_or, is_some}
use Rattle.std.proofs.Common.{◌≡◌, ℕ, ◌%◌, ◌^◌, ◌==◌, true, List, [], ◌∷◌, take, length, refl, ap, ◌∙◌}
use Rattle.std.proofs.lemmas.List.{length-map}
use Rattle.std.proofs.lemmas.List.FromFn.{length-map-range_with_len}
use Rattle.bit_words.specs.Bits.{rank, same}
use Rattle.bit_words.specs.Lists.{tabulate}
use Rattle.id_names.specs.Cycles.{mark_of, marks_of, marked}
use Rattle.id_names.specs.Making.{made, below, rising, places_of, spacing}
use Rattle.id_names.proofs.Pointers.{ones_of_values}

length-rising : (ids : List ℕ) → length (rising ids) ≡ length ids
unfolding rising tabulate
length-rising ids = length-map-range_with_len (λ j. unwrap_or (find (λ id. below ids id == j) ids) 0) 0 (length ids)

pub length-lows : (low : ℕ) (ids : List ℕ) → length (made low ids).lows ≡ length ids
length-lows low ids = length-map (rising ids) (λ id. id % 2 ^ low) ∙ length-rising ids

pub length-places : (low : ℕ) (ids : List ℕ) → length (made low ids).places ≡ length ids
unfolding places_of
length-places low ids = length-map ids (below ids)

pub length-made_marks : (low : ℕ) (ids : List ℕ) → length (made low ids).marks ≡ length ids
unfolding tabulate
length-made_marks low ids =
    let s = spacing (length ids) in
    length-map (marks_of (places_of ids) s) is_some ∙ length-map-range_with_len (mark_of (places_of ids) s) 0 (length (places_of ids)) ∙ length-places low ids

take_all : {X : Type 0} (xs : List X) → take (length xs) xs ≡ xs
take_all [] = refl
take_all (x ∷ xs) = ap (λ ys. x ∷ ys) (take_all xs)

-- as many marks as back pointers
pub as_many_marks : (low : ℕ) (ids : List ℕ) → rank true (made low ids).marks (length (made low ids).marks) ≡ length (made low ids).back
unfolding rank
as_many_marks low ids =
    let s = spacing (length ids) in
    ap (count_by (same true)) (take_all (marked (places_of ids) s)) ∙ ones_of_values (marks_of (places_of ids) s)
