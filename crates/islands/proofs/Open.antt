-- How many faces were not entered: what falls in the loop.
use Rattle.std.proofs.Common.{◌≡◌, ℕ, zero, suc, ◌+◌, ◌*◌, ◌<◌, ◌≤◌, Bool, true, false, ◌==◌, List, [], ◌∷◌, length, refl, arith, eq-eqb}
use Rattle.std.specs.Prelude.{slice_index_or, min}
use Rattle.std.proofs.lemmas.Bool.{or_left, both_ways}
use Rattle.plane_model.specs.Sets.{has}
use Rattle.islands.specs.Rounds.{KeysAreMarked, AreNextFaces}

abbrev pub open_count : List Bool → ℕ
open_count [] = 0
open_count (true ∷ bs) = open_count bs
open_count (false ∷ bs) = suc (open_count bs)

no_more_open : (old new : List Bool) → length new ≡ length old → ((k : ℕ) → slice_index_or old k false ≡ true → slice_index_or new k false ≡ true) → open_count new ≤ open_count old
no_more_open [] [] same stays = omega arith
no_more_open [] (b ∷ new) same stays = absurd (omega arith)
no_more_open (a ∷ old) [] same stays = absurd (omega arith)
no_more_open (true ∷ old) (true ∷ new) same stays = no_more_open old new (omega arith) (λ k h. stays (suc k) h)
no_more_open (true ∷ old) (false ∷ new) same stays = absurd (both_ways false refl (stays 0 refl))
no_more_open (false ∷ old) (true ∷ new) same stays = let more = no_more_open old new (omega arith) (λ k h. stays (suc k) h) in omega arith
no_more_open (false ∷ old) (false ∷ new) same stays = let more = no_more_open old new (omega arith) (λ k h. stays (suc k) h) in omega arith

one_less_open : (old new : List Bool) → length new ≡ length old → ((k : ℕ) → slice_index_or old k false ≡ true → slice_index_or new k false ≡ true) → (k : ℕ) → slice_index_or old k false ≡ false → slice_index_or new k false ≡ true → open_count new < open_count old
one_less_open [] [] same stays k h on = absurd (both_ways false refl on)
one_less_open [] (b ∷ new) same stays k h on = absurd (omega arith)
one_less_open (a ∷ old) [] same stays k h on = absurd (omega arith)
one_less_open (true ∷ old) (b ∷ new) same stays zero h on = absurd (both_ways true h refl)
one_less_open (false ∷ old) (true ∷ new) same stays zero h on = let more = no_more_open old new (omega arith) (λ k h. stays (suc k) h) in omega arith
one_less_open (false ∷ old) (false ∷ new) same stays zero h on = absurd (both_ways false refl on)
one_less_open (true ∷ old) (true ∷ new) same stays (suc k) h on = one_less_open old new (omega arith) (λ j i. stays (suc j) i) k h on
one_less_open (true ∷ old) (false ∷ new) same stays (suc k) h on = absurd (both_ways false refl (stays 0 refl))
one_less_open (false ∷ old) (true ∷ new) same stays (suc k) h on = let more = one_less_open old new (omega arith) (λ j i. stays (suc j) i) k h on in omega arith
one_less_open (false ∷ old) (false ∷ new) same stays (suc k) h on = let more = one_less_open old new (omega arith) (λ j i. stays (suc j) i) k h on in omega arith

abbrev pub work_left : List Bool → List ℕ → ℕ
work_left entered front = 2 * open_count entered + min 1 (length front)

pub falls : (faces components now next : List ℕ) (front : List ℕ) (entered entered' : List Bool) → 0 < length front → AreNextFaces faces components now entered next → KeysAreMarked (λ f. f) next entered entered' → work_left entered' next < work_left entered front
falls faces components now [] front entered entered' some nexts opened = let le = no_more_open entered entered' opened.same opened.stays in omega arith
falls faces components now (f ∷ next) front entered entered' some nexts opened =
    let here : has (f ∷ next) f ≡ true = or_left (f == f) _ (eq-eqb f f refl) in
    let lt = one_less_open entered entered' opened.same opened.stays f (nexts.sound f here).0 (opened.marks f here) in
    omega arith
