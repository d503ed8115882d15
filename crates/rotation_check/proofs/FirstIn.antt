-- The first fault of rows, one row further.
use Rattle.std.proofs.Common.{◌≡◌, ℕ, zero, suc, ◌+◌, ◌<◌, ◌≤◌, ℤ, pos, neg_ℤ, List, [], ◌∷◌, length, drop, get_or, refl, sym, ap, ◌∙◌, true, false, Option, Some, None, drop-cons, add-one, arith}
use Rattle.std.specs.Prelude.{is_some}
use Rattle.topo_base.specs.declared.refusal.Refusal.{Refusal}
use Rattle.plane_model.specs.declared.rows.EdgeRow.{EdgeRow}
use Rattle.plane_model.specs.Sets.{or_else}
use Rattle.plane_model.specs.Faults.{first_in, either_way}
use Rattle.rotation_check.proofs.DartLists.{dart_edges}

passes : {R : Type 0} (fault : R → Option Refusal) (r : R) (rows : List R) → fault r ≡ None → first_in fault (r ∷ rows) ≡ first_in fault rows
passes fault r rows h = rw h refl

-- a row without a fault may be left out
pub first_in-drop : {R : Type 0} (fault : R → Option Refusal) (rows : List R) (i : ℕ) (d : R) → i < length rows → fault (get_or rows i d) ≡ None → first_in fault (drop (i + 1) rows) ≡ first_in fault (drop i rows)
first_in-drop fault rows i d h fine = rw (add-one i) (sym (ap (first_in fault) (drop-cons rows i d h) ∙ passes fault (get_or rows i d) (drop (suc i) rows) fine))

found : {R : Type 0} (fault : R → Option Refusal) (r : R) (rows : List R) (e : Refusal) → fault r ≡ Some e → first_in fault (r ∷ rows) ≡ Some e
found fault r rows e h = rw h refl

-- a row with a fault has the first
pub first_in-here : {R : Type 0} (fault : R → Option Refusal) (rows : List R) (i : ℕ) (d : R) (e : Refusal) → i < length rows → fault (get_or rows i d) ≡ Some e → first_in fault (drop i rows) ≡ Some e
first_in-here fault rows i d e h is = ap (first_in fault) (drop-cons rows i d h) ∙ found fault (get_or rows i d) (drop (suc i) rows) e is

pub first_in-end : {R : Type 0} (fault : R → Option Refusal) (rows : List R) (i : ℕ) → length rows ≤ i → first_in fault (drop i rows) ≡ None
first_in-end fault [] zero h = refl
first_in-end fault [] (suc i) h = refl
first_in-end fault (r ∷ rows) zero h = absurd (omega arith)
first_in-end fault (r ∷ rows) (suc i) h = first_in-end fault rows i (omega arith)

two_one : (a b c : Option Refusal) → or_else (or_else a (or_else b None)) c ≡ or_else a (or_else b c)
two_one (Some x) b c = refl
two_one None (Some x) c = refl
two_one None None c = refl

-- the first fault of edges either way is that of the darts
pub first_in-darts : (fault : ℤ → Option Refusal) (edges : List EdgeRow) → first_in (either_way fault) edges ≡ first_in fault (dart_edges edges)
first_in-darts fault [] = refl
first_in-darts fault (e ∷ edges) = two_one (fault (pos e.id)) (fault (neg_ℤ (pos e.id))) (first_in (either_way fault) edges) ∙ ap (λ c. or_else (fault (pos e.id)) (or_else (fault (neg_ℤ (pos e.id))) c)) (first_in-darts fault edges)

-- what is and what is not some
pub not_some : {X : Type 0} (a : Option X) → is_some a ≡ false → a ≡ None
not_some None h = refl
not_some (Some x) h = cc

pub is_its_value : {X : Type 0} (a : Option X) → is_some a ≡ true → (x : X) × (a ≡ Some x)
is_its_value None h = cc
is_its_value (Some x) h = (x, refl)

-- the same for a loop that reads the fault of the row
pub first_in-further : {R : Type 0} (fault : R → Option Refusal) (rows : List R) (i : ℕ) (d : R) (read all : Option Refusal) → i < length rows → read ≡ fault (get_or rows i d) → is_some read ≡ false
    → first_in fault (drop i rows) ≡ all → first_in fault (drop (i + 1) rows) ≡ all
first_in-further fault rows i d read all h is none old = first_in-drop fault rows i d h (sym is ∙ not_some read none) ∙ old

pub first_in-found : {R : Type 0} (fault : R → Option Refusal) (rows : List R) (i : ℕ) (d : R) (read all : Option Refusal) → i < length rows → read ≡ fault (get_or rows i d) → is_some read ≡ true
    → first_in fault (drop i rows) ≡ all → read ≡ all
first_in-found fault rows i d read all h is some old =
    let e = is_its_value read some in
    e.1 ∙ sym (first_in-here fault rows i d e.0 h (sym is ∙ e.1)) ∙ old
