-- The line whose front is kept.
use Rattle.std.proofs.Common.{◌≡◌, ℕ, List, [], ◌∷◌, ◌++◌, length, take, drop, refl, sym, ap, ◌∙◌, arith}
use Rattle.std.proofs.lemmas.List.{take-append-drop}
use Rattle.query_text.specs.Lines.{HasNoFeed}
use Rattle.topo_serve.specs.Pieces.{ended_behind, open_behind, front_ended}
use Rattle.topo_serve.proofs.Ending.{none_ended, all_open}

-- it is the first of the lines that end, or none
pub front_first : (front bytes : List ℕ) → (others : List (List ℕ)) × (ended_behind front bytes ≡ front_ended front bytes ++ others)
front_first [] bytes = (ended_behind [] bytes, refl)
front_first (b ∷ front) bytes = (drop 1 (ended_behind (b ∷ front) bytes), sym (take-append-drop 1 (ended_behind (b ∷ front) bytes)))

-- where no front is kept
pub front_none : (front bytes : List ℕ) → length front ≡ 0 → front_ended front bytes ≡ []
front_none [] bytes none = refl
front_none (b ∷ front) bytes none = absurd (omega (arith, none))

-- where it doesn't end
pub front_open : (front bytes : List ℕ) → HasNoFeed (length bytes) bytes → front_ended front bytes ≡ []
front_open [] bytes feedless = refl
front_open (b ∷ front) bytes feedless = ap (take 1) (none_ended (b ∷ front) bytes feedless)

pub ended_open : (front bytes : List ℕ) → HasNoFeed (length bytes) bytes → ended_behind front bytes ≡ front_ended front bytes ++ ended_behind [] bytes
ended_open front bytes feedless = none_ended front bytes feedless ∙ sym (ap (λ z. z ++ ended_behind [] bytes) (front_open front bytes feedless) ∙ none_ended [] bytes feedless)

pub open_open : (front bytes : List ℕ) → HasNoFeed (length bytes) bytes → open_behind front bytes ≡ front ++ open_behind [] bytes
open_open front bytes feedless = all_open front bytes feedless ∙ sym (ap (λ z. front ++ z) (all_open [] bytes feedless))

-- where it ends
pub front_line : (front bytes l : List ℕ) (others : List (List ℕ)) → (length front ≡ 0 → ⊥) → ended_behind front bytes ≡ l ∷ others → front_ended front bytes ≡ l ∷ []
front_line [] bytes l others some e = absurd (some refl)
front_line (b ∷ front) bytes l others some e = ap (take 1) e

pub ended_line : (front bytes l : List ℕ) (others : List (List ℕ)) → (length front ≡ 0 → ⊥) → ended_behind front bytes ≡ l ∷ others → ended_behind front bytes ≡ front_ended front bytes ++ others
ended_line front bytes l others some e = e ∙ sym (ap (λ z. z ++ others) (front_line front bytes l others some e))
