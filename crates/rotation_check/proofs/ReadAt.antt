-- What is read from a list at a place that is known by another name.
use Rattle.std.proofs.Common.{◌≡◌, ℕ, ◌<◌, List, length, get_or, ap, ◌∙◌}
use Rattle.std.proofs.lemmas.Grind.{get_or_default_zero}

pub read_at : (xs : List ℕ) (i j x : ℕ) → j ≡ i → i < length xs → x ≡ get_or xs j x → x ≡ get_or xs i 0
read_at xs i j x same h read = read ∙ ap (λ k. get_or xs k x) same ∙ get_or_default_zero xs i x h
