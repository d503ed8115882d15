-- What a round asks and gives, where its arguments are views of vectors.
use Rattle.std.proofs.Common.{◌≡◌, ℕ, ◌<◌, Bool, true, List, length, sym, subst}
use Rattle.std.specs.Prelude.{slice_index}
use Rattle.plane_model.specs.Sets.{has}
use Rattle.islands.specs.Lists.{AreLists}
use Rattle.islands.specs.Rounds.{AreRoundRings}
use Rattle.islands.proofs.Collected.{has_index}

pub these_of : (F C front now : List ℕ) (reached : List Bool) (dfront : List ℕ) (dreached : List Bool) (on_face : ℕ → List ℕ) → dfront ≡ front → dreached ≡ reached → AreLists F on_face → ((faces : List ℕ) → AreLists faces on_face → AreRoundRings faces C dfront dreached now) → AreRoundRings F C front reached now
these_of F C front now reached dfront dreached on_face ef er by these = subst (λ (fs : List ℕ). AreRoundRings F C fs reached now) ef (subst (λ (rs : List Bool). AreRoundRings F C dfront rs now) er (these F by))

pub front_of : (front dfront : List ℕ) (n count : ℕ) → dfront ≡ front → n ≡ count → ((f : ℕ) → has front f ≡ true → f < count) → (k : ℕ) → k < length dfront → slice_index dfront k < n
front_of front dfront n count ef many below =
    subst (λ (fs : List ℕ). (k : ℕ) → k < length fs → slice_index fs k < n) (sym ef)
    (λ k lt. let it = below (slice_index front k) (has_index front k lt) in subst (λ n. slice_index front k < n) (sym many) it)

pub places_of : (F C front now dnow : List ℕ) (reached : List Bool) → dnow ≡ now → length C ≡ length F → AreRoundRings F C front reached now → (k : ℕ) → k < length dnow → slice_index dnow k < length C
places_of F C front now dnow reached e same these =
    subst (λ (xs : List ℕ). (k : ℕ) → k < length xs → slice_index xs k < length C) (sym e)
    (λ k lt. let it = (these.sound (slice_index now k) (has_index now k lt)).0 in subst (λ n. slice_index now k < n) (sym same) it)
