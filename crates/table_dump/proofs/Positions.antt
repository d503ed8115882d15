-- Positions one after the other, and the ends of two positions.
use Rattle.std.specs.Prelude.{not, slice_index_or}
use Rattle.std.proofs.Common.{◌≡◌, ◌≢◌, ℕ, ◌+◌, ◌*◌, ◌<◌, inl, inr, Bool, true, false, List, length, refl, ap, sym, ◌∙◌, arith, subst}
use Rattle.std.proofs.lemmas.Bool.{cases_Bool, cases_lt, false≢true}
use Rattle.bit_words.specs.Bits.{same}
use Rattle.code_laws.specs.Code.{Code, after, component_count, component_of, end_of, is_first, is_tree, mate, over, start_of}
use Rattle.code_laws.specs.Numbers.{edge_of}
use Rattle.code_laws.proofs.Edges.{laws, one_edge}
use Rattle.code_laws.proofs.Places.{over_mate, over_other}
use Rattle.code_laws.proofs.Sound.{SoundParts, in_one, is_component, last_start, rises}
use Rattle.code_laws.proofs.Steps.{after_last, after_next}
use Rattle.table_dump.specs.Ends.{end_at}

-- the place of an end and its side
pub one_end : (i j : ℕ) (a b : Bool) → end_at i a ≡ end_at j b → (i ≡ j) × (a ≡ b)
one_end i j true true e = (omega (arith, e), refl)
one_end i j true false e = absurd (omega (arith, e))
one_end i j false true e = absurd (omega (arith, e))
one_end i j false false e = (omega (arith, e), refl)

pub end_below : (i n : ℕ) (a : Bool) → i < n → end_at i a < 2 * n
end_below i n true l = omega (arith, l)
end_below i n false l = omega (arith, l)

other_side : (a b : Bool) → same (not a) b ≡ not (same a b)
other_side true true = refl
other_side true false = refl
other_side false true = refl
other_side false false = refl

never : (a : Bool) → a ≡ not a → ⊥
never true e = false≢true (sym e)
never false e = false≢true e

-- whether a position is the forward one of its edge
abbrev pub forward_at : Code → List Bool → ℕ → Bool
forward_at k forward p = same (is_first k p) (slice_index_or forward (edge_of k p) false)

module _ (k : Code) (s : SoundParts k) where
  -- the mate of a position stands on the other side
  pub mate_side : (forward : List Bool) (p : ℕ) → p < length k.a → forward_at k forward (mate k p) ≡ not (forward_at k forward p)
  mate_side forward p l =
      let m = laws k s p l in
      ap (λ e. same (is_first k (mate k p)) (slice_index_or forward e false)) m.edge
      ∙ ap (λ f. same f (slice_index_or forward (edge_of k p) false)) m.first
      ∙ other_side (is_first k p) (slice_index_or forward (edge_of k p) false)

  -- two positions of one edge that stand on one side are the same
  pub one_side : (forward : List Bool) (p q : ℕ) → p < length k.a → q < length k.a → edge_of k p ≡ edge_of k q → forward_at k forward p ≡ forward_at k forward q → p ≡ q
  one_side forward p q l m e f =
      elim (one_edge k s p q l m e) [
        | inl same_one ↦ same_one
        | inr other ↦ absurd (never (forward_at k forward q) (sym f ∙ ap (forward_at k forward) other ∙ mate_side forward q m))
      ]

  -- a step over an edge that is none of the trees, twice
  pub over_within : (p : ℕ) → p < length k.a → over k false p < length k.a
  over_within p l =
      elim (cases_Bool (is_tree k p)) [
        | inl tree ↦ subst (λ x. x < length k.a) (sym (over_other k false p tree)) l
        | inr dual ↦ subst (λ x. x < length k.a) (sym (over_mate k false p dual)) (laws k s p l).within
      ]

  pub over_twice : (p : ℕ) → p < length k.a → over k false (over k false p) ≡ p
  over_twice p l =
      elim (cases_Bool (is_tree k p)) [
        | inl tree ↦ ap (over k false) (over_other k false p tree) ∙ over_other k false p tree
        | inr dual ↦
            let m = laws k s p l in
            ap (over k false) (over_mate k false p dual) ∙ over_mate k false (mate k p) (m.kind ∙ dual) ∙ m.back
      ]

  pub over_once : (p q : ℕ) → p < length k.a → q < length k.a → over k false p ≡ over k false q → p ≡ q
  over_once p q l m e = sym (over_twice p l) ∙ ap (over k false) e ∙ over_twice q m

  -- the side and the edge of a position after such a step
  pub over_edge : (p : ℕ) → p < length k.a → edge_of k (over k false p) ≡ edge_of k p
  over_edge p l =
      elim (cases_Bool (is_tree k p)) [
        | inl tree ↦ ap (edge_of k) (over_other k false p tree)
        | inr dual ↦ ap (edge_of k) (over_mate k false p dual) ∙ (laws k s p l).edge
      ]

  pub over_side : (forward : List Bool) (p : ℕ) → p < length k.a → forward_at k forward (over k false p) ≡ same (forward_at k forward p) (is_tree k p)
  over_side forward p l =
      elim (cases_Bool (is_tree k p)) [
        | inl tree ↦ ap (forward_at k forward) (over_other k false p tree) ∙ sym (ap (same (forward_at k forward p)) tree ∙ kept (forward_at k forward p))
        | inr dual ↦ ap (forward_at k forward) (over_mate k false p dual) ∙ mate_side forward p l ∙ sym (ap (same (forward_at k forward p)) dual ∙ turned (forward_at k forward p))
      ]
    where
      kept : (b : Bool) → same b true ≡ b
      kept true = refl
      kept false = refl

      turned : (b : Bool) → same b false ≡ not b
      turned true = refl
      turned false = refl

  -- the position after one in its component, where there is another one
  pub goes_on : (p : ℕ) → p + 1 < length k.a → component_of k (p + 1) ≡ component_of k p → after k p ≡ p + 1
  goes_on p l same_one =
      let i = in_one k s (p + 1) l in
      let is : i.0 ≡ component_of k p = sym i.1.is ∙ same_one in
      let below : p + 1 < end_of k (component_of k p) = subst (λ m. p + 1 < end_of k m) is i.1.to in
      after_next k p (component_of k p) refl (λ e. omega (arith, e, below))

  -- where its component ends, and where the next one begins
  pub ends_there : (p : ℕ) → p + 1 < length k.a → component_of k (p + 1) ≢ component_of k p → (after k p ≡ start_of k (component_of k p)) × (start_of k (component_of k (p + 1)) ≡ p + 1)
  ends_there p l other =
      let i = in_one k s p (omega (arith, l)) in
      let m = i.0 in
      let from = i.1.from in
      let to = i.1.to in
      let end : p + 1 ≡ end_of k m =
      elim (cases_lt (p + 1) (end_of k m)) [
        | inl more ↦ absurd (other (is_component k s (p + 1) m i.1.count (omega (arith, from)) more ∙ sym i.1.is))
        | inr all ↦ omega (arith, all, to)
      ] in
      let count : m + 1 < component_count k =
      elim (cases_lt (m + 1) (component_count k)) [
        | inl more ↦ more
        | inr all ↦
            let same_one : m + 1 ≡ component_count k = omega (arith, all, i.1.count) in
            let last = ap (start_of k) same_one ∙ last_start k s.laid in
            absurd (omega (arith, last, end, l))
      ] in
      let up = rises k s.laid (m + 1) count in
      let begins = is_component k s (p + 1) (m + 1) count (omega (arith, end)) (omega (arith, end, up)) in (
        after_last k p m i.1.is end ∙ ap (start_of k) (sym i.1.is),
        ap (start_of k) begins ∙ sym end,
      )

  -- the last position of all
  pub ends_last : (p : ℕ) → p + 1 ≡ length k.a → after k p ≡ start_of k (component_of k p)
  ends_last p e =
      let i = in_one k s p (omega (arith, e)) in
      after_last k p i.0 i.1.is (omega (arith, e, i.1.to, i.1.within)) ∙ ap (start_of k) (sym i.1.is)

  -- the first one
  pub begins_first : 0 < length k.a → start_of k (component_of k 0) ≡ 0
  begins_first l = let i = in_one k s 0 l in ap (start_of k) i.1.is ∙ omega (arith, i.1.from)
