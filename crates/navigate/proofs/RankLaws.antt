-- Signed edges are in the order of their ranks.
use Rattle.std.specs.Prelude.{nat_lt, nat_le, IsTrue, ◌==◌, neg_ℤ, if◌then◌else◌}
use Rattle.std.proofs.Common.{◌≡◌, ℕ, ◌+◌, suc, zero, ◌<◌, inl, inr, ℤ, pos, Bool, true, false, length, refl, ap, sym, ◌∙◌, subst, arith}
use Rattle.std.proofs.lemmas.Bool.{cases_order, lt-ltb, le-ltb, eq-eqb, ne_eqb, leb-true, and_parts}
use Rattle.topo_base.specs.SignedEdge.{edge_of, is_forward, comes_before}
use Rattle.topo_base.specs.declared.id.TheConstants.{LARGEST_ID}
use Rattle.id_names.specs.Names.{is_id}
use Rattle.id_names.specs.RisingNames.{RisingNames, ids_by_number, id_at}
use Rattle.navigate.specs.Ranked.{IsRankOf, ranks_before}
use Rattle.navigate.specs.declared.ranked.RankedEdge.{RankedEdge}

-- ids that rise
abbrev pub AreRising : RisingNames → Type 0
AreRising names = (i j : ℕ) → i < j → j < length (ids_by_number names) → id_at names i < id_at names j

-- ids are in the order of their ranks
less_ids : (names : RisingNames) (i j : ℕ) → AreRising names → i < length (ids_by_number names) → j < length (ids_by_number names) → nat_lt (id_at names i) (id_at names j) ≡ nat_lt i j
less_ids names i j rising l m = elim (cases_order i j) [
  | inl e ↦ rw e (le-ltb (id_at names j) (id_at names j) (omega arith) ∙ sym (le-ltb j j (omega arith)))
  | inr o ↦ elim o [
    | inl h ↦ lt-ltb (id_at names i) (id_at names j) (rising i j h m) ∙ sym (lt-ltb i j h)
    | inr h ↦ let r = rising j i h l in le-ltb (id_at names i) (id_at names j) (omega (arith, r)) ∙ sym (le-ltb i j (omega (arith, h)))
  ]
]

same_ids : (names : RisingNames) (i j : ℕ) → AreRising names → i < length (ids_by_number names) → j < length (ids_by_number names) → (id_at names i == id_at names j) ≡ (i == j)
same_ids names i j rising l m = elim (cases_order i j) [
  | inl e ↦ rw e (eq-eqb (id_at names j) (id_at names j) refl ∙ sym (eq-eqb j j refl))
  | inr o ↦ elim o [
    | inl h ↦ let r = rising i j h m in ne_eqb (id_at names i) (id_at names j) (λ e. omega (arith, r, e)) ∙ sym (ne_eqb i j (λ e. omega (arith, h, e)))
    | inr h ↦ let r = rising j i h l in ne_eqb (id_at names i) (id_at names j) (λ e. omega (arith, r, e)) ∙ sym (ne_eqb i j (λ e. omega (arith, h, e)))
  ]
]

pub before_by_rank : (names : RisingNames) (a b : RankedEdge) (d e : ℤ) → AreRising names → IsRankOf names a d → IsRankOf names b e → comes_before d e ≡ ranks_before a b
before_by_rank names a b d e rising of_d of_e =
    let less : nat_lt (edge_of d) (edge_of e) ≡ nat_lt a.rank b.rank
    = ap (λ x. nat_lt x (edge_of e)) (sym of_d.id) ∙ ap (nat_lt (id_at names a.rank)) (sym of_e.id) ∙ less_ids names a.rank b.rank rising of_d.within of_e.within in
    let same : (edge_of d == edge_of e) ≡ (a.rank == b.rank)
    = ap (λ x. x == edge_of e) (sym of_d.id) ∙ ap (λ x. id_at names a.rank == x) (sym of_e.id) ∙ same_ids names a.rank b.rank rising of_d.within of_e.within in
    rw less (rw same (rw (sym of_d.direction) (rw (sym of_e.direction) refl)))

-- an id with a direction, whose rank this is
pub rank_of_signed : (names : RisingNames) (ranked : RankedEdge) (id : ℕ) (d : ℤ) → IsTrue (is_id (LARGEST_ID + 1) id) → id_at names ranked.rank ≡ id → ranked.rank < length (ids_by_number names) → d ≡ (if ranked.is_forward then pos id else neg_ℤ (pos id)) → IsRankOf names ranked d
rank_of_signed names ranked zero d one at within is = absurd (omega (arith, leb-true 1 zero (and_parts (nat_le 1 zero) (nat_lt zero (LARGEST_ID + 1)) one).0))
rank_of_signed names ranked (suc n) d one at within is = by_direction ranked.is_forward refl
  where
    by_direction : (b : Bool) → ranked.is_forward ≡ b → IsRankOf names ranked d
    by_direction true e =
        let here : d ≡ pos (suc n) = is ∙ ap (λ t. if t then pos (suc n) else neg_ℤ (pos (suc n))) e in
        record { id = at ∙ ap edge_of (sym here); within = within; direction = e ∙ ap is_forward (sym here); in_range = subst (λ x. IsTrue (is_id (LARGEST_ID + 1) (edge_of x))) (sym here) one }
    by_direction false e =
        let here : d ≡ neg_ℤ (pos (suc n)) = is ∙ ap (λ t. if t then pos (suc n) else neg_ℤ (pos (suc n))) e in
        record { id = at ∙ ap edge_of (sym here); within = within; direction = e ∙ ap is_forward (sym here); in_range = subst (λ x. IsTrue (is_id (LARGEST_ID + 1) (edge_of x))) (sym here) one }
