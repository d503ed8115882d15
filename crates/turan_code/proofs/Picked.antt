-- The bits of one kind: what each position adds, and that there are no more than positions.
use Rattle.std.specs.Prelude.{slice_index_or, filter}
use Rattle.std.specs.List.{count_by}
use Rattle.std.proofs.Common.{◌≡◌, ℕ, ◌+◌, ◌<◌, ◌≤◌, Bool, true, false, List, [], ◌∷◌, length, drop, ap, sym, ◌∙◌, arith, add-one, drop-cons}
use Rattle.std.proofs.Math.Bool.{beq}
use Rattle.std.proofs.lemmas.List.{drop_all, take_all}
use Rattle.std.proofs.lemmas.List.Sums.{length-filter}
use Rattle.bit_words.specs.Bits.{same, rank}
use Rattle.code_laws.specs.Tour.{picked}
use Rattle.code_laws.proofs.Walked.{picked-same, picked-other}

pub length_picked : (kind : Bool) (tree first : List Bool) → length (picked kind tree first) ≤ length tree
unfolding picked
length_picked kind [] first = omega arith
length_picked kind (at ∷ tree) [] = omega arith
length_picked true (true ∷ tree) (bit ∷ first) = omega (arith, length_picked true tree first)
length_picked true (false ∷ tree) (bit ∷ first) = omega (arith, length_picked true tree first)
length_picked false (true ∷ tree) (bit ∷ first) = omega (arith, length_picked false tree first)
length_picked false (false ∷ tree) (bit ∷ first) = omega (arith, length_picked false tree first)

same_test : (kind at b : Bool) → beq at kind ≡ b → same kind at ≡ b
same_test true true b e = e
same_test true false b e = e
same_test false true b e = e
same_test false false b e = e

-- a position of this kind gives its bit, and one of the other kind none
pub picked_kept : (kind : Bool) (tree first : List Bool) (p : ℕ)
    → p < length tree → length tree ≡ length first → beq (slice_index_or tree p false) kind ≡ true
    → picked kind (drop p tree) (drop p first) ≡ slice_index_or first p false ∷ picked kind (drop (p + 1) tree) (drop (p + 1) first)
picked_kept kind tree first p h e is =
    let within : p < length first = omega arith in
    rw (add-one, drop-cons tree p false, drop-cons first p false) (picked-same kind _ _ _ _ (same_test kind _ true is))

pub picked_passed : (kind : Bool) (tree first : List Bool) (p : ℕ)
    → p < length tree → length tree ≡ length first → beq (slice_index_or tree p false) kind ≡ false
    → picked kind (drop p tree) (drop p first) ≡ picked kind (drop (p + 1) tree) (drop (p + 1) first)
picked_passed kind tree first p h e is =
    let within : p < length first = omega arith in
    rw (add-one, drop-cons tree p false, drop-cons first p false) (picked-other kind _ _ _ _ (same_test kind _ false is))

-- past the last position there is none
pub picked_end : (kind : Bool) (tree first : List Bool) (p : ℕ) → length tree ≤ p → picked kind (drop p tree) first ≡ []
unfolding picked
picked_end kind tree first p h = rw (drop_all p tree h)

-- how many bits of a kind there are
pub kind_ranked : (kind : Bool) (bits : List Bool) → length (filter (same kind) bits) ≡ rank kind bits (length bits)
unfolding rank
kind_ranked kind bits = length-filter (same kind) bits ∙ ap (count_by (same kind)) (sym (take_all (length bits) bits (omega arith)))
