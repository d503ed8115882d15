-- A name that is set leaves the others.
use Rattle.std.proofs.Common.{◌≡◌, ◌≢◌, ℕ, List, Option, true, false, cond, ap, sym, ◌∙◌, rules}
use Rattle.std.specs.Str.{bytes_eq}
use Rattle.std.proofs.lemmas.Bool.{false_from_ne_true}
use Rattle.std.proofs.lemmas.Slice.Eq.{bytes_eq-Decides}
use Rattle.std.specs.BTreeMap.{BTreeMap, get_by_text, UpdatesBy}
use Rattle.std.specs.Cmp.Lexicographic.{slice_cmp}
use Rattle.std.specs.Ordering.{nat_cmp}
use Rattle.std.specs.Prelude.{String}
use Rattle.std.specs.String.{string_cmp, string_bytes}
use Rattle.std.proofs.lemmas.Map.Text.{btree_map_updates_text}

bytes_eq_true : (xs ys : List ℕ) → bytes_eq xs ys ≡ true → xs ≡ ys
bytes_eq_true xs ys h = search (rules, bytes_eq-Decides)

other_name : (name other : List ℕ) → other ≢ name → bytes_eq name other ≡ false
other_name name other ne = false_from_ne_true (bytes_eq name other) (λ e. ne (sym (bytes_eq_true name other e)))

pub others_stay : {Y X : Type 0} (name : List ℕ) (m n : BTreeMap (String Y) X) (w : Option X) → UpdatesBy string_cmp (λ k. slice_cmp nat_cmp name (string_bytes k)) m n w → (other : List ℕ) → other ≢ name → get_by_text n other ≡ get_by_text m other
others_stay name m n w u other ne = btree_map_updates_text name m n w u other ∙ ap (λ b. cond b w (get_by_text m other)) (other_name name other ne)
