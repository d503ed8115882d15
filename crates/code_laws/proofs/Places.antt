-- Where positions stand among the parentheses of a kind.
use Rattle.std.specs.Prelude.{not, unwrap_or}
use Rattle.std.proofs.Common.{◌≡◌, ℕ, ◌+◌, ◌<◌, ◌≤◌, Bool, false, length, refl, ap, sym, arith, subst}
use Rattle.bit_words.specs.Bits.{rank, select}
use Rattle.bit_words.proofs.Ranks.{rank-le-rank, rank_more_yes, rank_more_no}
use Rattle.rank_select.proofs.Selects.{same-self, same-other, select-placed}
use Rattle.parens.specs.Matching.{mate_of}
use Rattle.code_laws.specs.Code.{Code, is_tree, parens, place, mate, over}

-- a position and its mate
pub record IsMate (c : Code) (kind : Bool) (p i j q : ℕ) : Type 0 where
  pub is_mate : mate c p ≡ q
  pub within : q < length c.a
  pub is_kind : is_tree c q ≡ kind
  pub at_place : place c kind q ≡ j

-- the mate of a position of a kind stands where the mate among the parentheses does
pub mate_placed : (c : Code) (kind : Bool) (p i j : ℕ) → is_tree c p ≡ kind → place c kind p ≡ i → mate_of (parens c kind) i ≡ j → j < rank kind c.a (length c.a) → (q : ℕ) × IsMate c kind p i j q
unfolding mate
mate_placed c kind p i j is at m h =
    let s = select-placed kind c.a j h in
    let e : mate c p ≡ s.0 =
    subst (λ k. unwrap_or (select k c.a (mate_of (parens c k) (place c k p))) p ≡ s.0) (sym is)
    (subst (λ x. unwrap_or (select kind c.a (mate_of (parens c kind) x)) p ≡ s.0) (sym at)
    (subst (λ x. unwrap_or (select kind c.a x) p ≡ s.0) (sym m) (ap (λ o. unwrap_or o p) s.1))) in
    (s.0, record { is_mate = e; within = s.2.within; is_kind = s.2.kind; at_place = s.2.rank })

-- the places of the positions up to one of a kind, and after it
pub place_before : (c : Code) (kind : Bool) (x p : ℕ) → x ≤ p → place c kind x ≤ place c kind p
place_before c kind x p h = rank-le-rank kind c.a x p h

pub place_next : (c : Code) (kind : Bool) (p : ℕ) → p < length c.a → is_tree c p ≡ kind → place c kind (p + 1) ≡ place c kind p + 1
place_next c kind p h is = rank_more_yes kind c.a p false h is

pub place_other : (c : Code) (kind : Bool) (p : ℕ) → p < length c.a → is_tree c p ≡ not kind → place c kind (p + 1) ≡ place c kind p
place_other c kind p h is = rank_more_no kind c.a p false h is

pub place_after : (c : Code) (kind : Bool) (p x : ℕ) → p < length c.a → is_tree c p ≡ kind → p < x → place c kind p + 1 ≤ place c kind x
place_after c kind p x h is l = let n = place_next c kind p h is in let m = rank-le-rank kind c.a (p + 1) x (omega arith) in omega (arith, n, m)

-- a step from a position that is not of the kind, and from one that is
pub over_other : (c : Code) (kind : Bool) (p : ℕ) → is_tree c p ≡ not kind → over c kind p ≡ p
over_other c kind p is = rw is (rw (same-other kind) refl)

pub over_mate : (c : Code) (kind : Bool) (p : ℕ) → is_tree c p ≡ kind → over c kind p ≡ mate c p
over_mate c kind p is = rw is (rw (same-self kind) refl)
