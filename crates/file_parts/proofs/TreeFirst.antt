-- The edges of the trees have the first numbers.
use Rattle.std.specs.Prelude.{nat_lt}
use Rattle.std.proofs.Common.{◌≡◌, ℕ, ◌<◌, true, inl, inr, length, refl, ap, sym, ◌∙◌}
use Rattle.std.proofs.lemmas.Bool.{cases_Bool, lt-ltb, le-ltb}
use Rattle.code_laws.specs.Code.{Code, is_tree, is_first, mate}
use Rattle.code_laws.specs.Numbers.{edge_of, tree_edges}
use Rattle.code_laws.proofs.Sound.{SoundParts, sound_parts}
use Rattle.code_laws.proofs.Edges.{tree_below, other_from, laws}
use Rattle.code_laws.specs.SeqFault.{is_sound}

module _ (c : Code) (s : SoundParts c) where
  at_first : (p : ℕ) → p < length c.a → is_first c p ≡ true → nat_lt (edge_of c p) (tree_edges c) ≡ is_tree c p
  at_first p l f = elim (cases_Bool (is_tree c p)) [
    | inl t ↦ lt-ltb (edge_of c p) (tree_edges c) (tree_below c s p l t f) ∙ sym t
    | inr o ↦ le-ltb (edge_of c p) (tree_edges c) (other_from c s p l o f) ∙ sym o
  ]

  at_any : (p : ℕ) → p < length c.a → nat_lt (edge_of c p) (tree_edges c) ≡ is_tree c p
  at_any p l = elim (cases_Bool (is_first c p)) [
    | inl f ↦ at_first p l f
    | inr n ↦
        let m = laws c s p l in
        let first : is_first c (mate c p) ≡ true = m.first ∙ rw n refl in
        ap (λ e. nat_lt e (tree_edges c)) (sym m.edge) ∙ at_first (mate c p) m.within first ∙ m.kind
  ]

pub kind_by_number : (c : Code) → is_sound c ≡ true → (count p : ℕ) → count ≡ tree_edges c → p < length c.a → nat_lt (edge_of c p) count ≡ is_tree c p
kind_by_number c sound count p e l = ap (nat_lt (edge_of c p)) e ∙ at_any c (sound_parts c sound) p l
