-- The code of a walk has the walk back.
use Rattle.std.specs.Prelude.{slice_index_or, if◌then◌else◌}
use Rattle.std.proofs.Common.{◌≡◌, ℕ, zero, suc, ◌+◌, ◌<◌, inl, inr, Bool, true, false, List, [], ◌∷◌, length, get_or, take, refl, ◌∙◌, arith}
use Rattle.std.proofs.lemmas.Bool.{cases_Bool}
use Rattle.std.proofs.lemmas.List.Sums.{sum_by-cons}
use Rattle.bit_words.specs.Bits.{rank, same}
use Rattle.bit_words.proofs.Ranks.{rank-zero}
use Rattle.rank_select.proofs.Selects.{same-self}
use Rattle.code_laws.specs.Code.{is_first, parens}
use Rattle.code_laws.specs.Tour.{picked, code_of}

rank-cons : (bit b : Bool) (bits : List Bool) (i : ℕ) → rank bit (b ∷ bits) (suc i) ≡ (if same bit b then 1 else 0) + rank bit bits i
unfolding rank
rank-cons bit b bits i = sum_by-cons (λ x. if same bit x then 1 else 0) b (take i bits)

pub picked-same : (kind t f : Bool) (tree first : List Bool) → same kind t ≡ true → picked kind (t ∷ tree) (f ∷ first) ≡ f ∷ picked kind tree first
unfolding picked
picked-same kind t f tree first e = rw e refl

pub picked-other : (kind t f : Bool) (tree first : List Bool) → same kind t ≡ false → picked kind (t ∷ tree) (f ∷ first) ≡ picked kind tree first
unfolding picked
picked-other kind t f tree first e = rw e refl

-- the bit picked at a position of the kind is the one that the walk has there
pub picked-at : (kind : Bool) (tree first : List Bool) (p : ℕ) → length tree ≡ length first → p < length tree → get_or tree p false ≡ kind → get_or (picked kind tree first) (rank kind tree p) false ≡ get_or first p false
picked-at kind [] first p same l is = absurd (omega arith)
picked-at kind (t ∷ tree) [] p same l is = absurd (omega arith)
picked-at kind (t ∷ tree) (f ∷ first) zero same l is =
    rw (rank-zero kind (t ∷ tree)) (rw (picked-same kind t f tree first (rw is (same-self kind))) refl)
picked-at kind (t ∷ tree) (f ∷ first) (suc p) same_length l is =
    let more = picked-at kind tree first p (omega arith) (omega arith) is in
    elim (cases_Bool (same kind t)) [
      | inl w ↦
          let e : rank kind (t ∷ tree) (suc p) ≡ suc (rank kind tree p) = rank-cons kind t tree p ∙ rw w (omega arith) in
          rw e (rw (picked-same kind t f tree first w) more)
      | inr n ↦
          let e : rank kind (t ∷ tree) (suc p) ≡ rank kind tree p = rank-cons kind t tree p ∙ rw n (omega arith) in
          rw e (rw (picked-other kind t f tree first n) more)
    ]

none-picked : (kind : Bool) (first : List Bool) → length (picked kind [] first) ≡ rank kind [] 0
unfolding picked rank
none-picked kind first = refl

-- how many bits are picked
pub length-picked : (kind : Bool) (tree first : List Bool) → length tree ≡ length first → length (picked kind tree first) ≡ rank kind tree (length tree)
length-picked kind [] first same = none-picked kind first
length-picked kind (t ∷ tree) [] same = absurd (omega arith)
length-picked kind (t ∷ tree) (f ∷ first) same_length =
    let more = length-picked kind tree first (omega arith) in
    elim (cases_Bool (same kind t)) [
      | inl w ↦ rw (picked-same kind t f tree first w) (rw (rank-cons kind t tree (length tree)) (rw w (omega (arith, more))))
      | inr n ↦ rw (picked-other kind t f tree first n) (rw (rank-cons kind t tree (length tree)) (rw n (omega (arith, more))))
    ]

pub first_of_walk : (tree first : List Bool) (starts : List ℕ) → length tree ≡ length first → (p : ℕ) → p < length tree → is_first (code_of tree first starts) p ≡ slice_index_or first p false
unfolding is_first
first_of_walk tree first starts same p l = at (get_or tree p false) refl
  where
    at : (kind : Bool) → get_or tree p false ≡ kind → slice_index_or (parens (code_of tree first starts) kind) (rank kind tree p) false ≡ slice_index_or first p false
    at true is = picked-at true tree first p same l is
    at false is = picked-at false tree first p same l is
