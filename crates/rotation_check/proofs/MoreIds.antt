-- a number of each row, one row further
use Rattle.std.specs.List.{slice_get}
use Rattle.std.proofs.Common.{◌≡◌, ℕ, ◌+◌, List, [], ◌∷◌, ◌++◌, Some, map, take, ap, sym, ◌∙◌}
use Rattle.std.proofs.lemmas.List.{map-append, take_more}
use Rattle.std.proofs.lemmas.Option.{get_or_from_slice_get, slice_get_within}

pub more_ids : {R : Type 0} (id : R → ℕ) (rows : List R) (k : ℕ) (row : R) (ids more : List ℕ) → slice_get rows k ≡ Some row → ids ≡ map id (take k rows) → more ≡ ids ++ id row ∷ [] → more ≡ map id (take (k + 1) rows)
more_ids id rows k row ids more at old is =
    let here : take (k + 1) rows ≡ take k rows ++ row ∷ [] = take_more rows k row (slice_get_within rows k row at) ∙ ap (λ r. take k rows ++ r ∷ []) (get_or_from_slice_get rows k row row at) in
    is ∙ ap (λ xs. xs ++ id row ∷ []) old ∙ sym (ap (map id) here ∙ map-append id (take k rows) (row ∷ []))
