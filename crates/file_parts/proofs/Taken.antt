-- A list that is gathered item by item.
use Rattle.std.specs.Prelude.{map}
use Rattle.std.specs.List.{range_with_len}
use Rattle.std.proofs.Common.{◌≡◌, ℕ, ◌+◌, ◌<◌, ◌≤◌, List, [], ◌∷◌, ◌++◌, length, get_or, take, ap, sym, ◌∙◌, arith}
use Rattle.std.proofs.lemmas.List.{take_more, take_all}
use Rattle.std.proofs.lemmas.List.FromFn.{map-range_with_len_more}

pub taken_more : {X : Type 0} → (all : List X) (i : ℕ) (d : X) (done next : List X) (x : X) → i < length all → done ≡ take i all → next ≡ done ++ x ∷ [] → x ≡ get_or all i d → next ≡ take (i + 1) all
taken_more all i d done next x l was grown is = grown ∙ ap (λ xs. xs ++ x ∷ []) was ∙ ap (λ y. take i all ++ y ∷ []) is ∙ sym (take_more all i d l)

pub taken_all : {X : Type 0} → (all done : List X) (i : ℕ) → done ≡ take i all → length all ≤ i → done ≡ all
taken_all all done i was l = was ∙ take_all i all l

pub mapped_more : {X : Type 0} → (f : ℕ → X) (i : ℕ) (done next : List X) (x : X) → done ≡ map f (range_with_len 0 i) → next ≡ done ++ x ∷ [] → x ≡ f i → next ≡ map f (range_with_len 0 (i + 1))
mapped_more f i done next x was grown is = grown ∙ ap (λ xs. xs ++ x ∷ []) was ∙ ap (λ y. map f (range_with_len 0 i) ++ y ∷ []) is ∙ sym (map-range_with_len_more f 0 i i (omega arith))
