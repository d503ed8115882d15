-- Which ring a position has.
use Rattle.std.specs.Prelude.{slice_index}
use Rattle.std.proofs.Common.{◌≡◌, ℕ, ◌<◌, ◌≤◌, true, length, ◌∙◌, subst}
use Rattle.code_laws.specs.Numbers.{ring_of}
use Rattle.code_laws.specs.declared.ring_number.RingNumber.TheVariants.{Outer, Shell}
use Rattle.file_laws.specs.Contents.{Contents, component_count}
use Rattle.file_laws.specs.Lawful.{is_whole}
use Rattle.file_laws.proofs.Rotation.{RingAt, IsOuter, IsShell, ring_at}
use Rattle.navigate.proofs.Facts.{w}

module _ (c : Contents) (h : is_whole c ≡ true) where
  pub outer_in : (p j : ℕ) → p < length c.code.a → Outer j ≡ ring_of c.code p → j < component_count c
  outer_in p j l e = at (ring_at c (w c h) p l)
    where
      same : (i : ℕ) → Outer j ≡ Outer i → i < component_count c → j < component_count c
      same i x k = let s : i ≡ j = cc in subst (λ y. y < component_count c) s k

      at : RingAt c p → j < component_count c
      at (IsOuter i k r x) = same i (e ∙ r) k
      at (IsShell s k r x) = let no : Outer j ≡ Shell s = e ∙ r in cc

  pub shell_in : (p s : ℕ) → p < length c.code.a → Shell s ≡ ring_of c.code p → s < length c.faces
  shell_in p s l e = at (ring_at c (w c h) p l)
    where
      same : (i : ℕ) → Shell s ≡ Shell i → i < length c.faces → s < length c.faces
      same i x k = let t : i ≡ s = cc in subst (λ y. y < length c.faces) t k

      at : RingAt c p → s < length c.faces
      at (IsOuter i k r x) = let no : Shell s ≡ Outer i = e ∙ r in cc
      at (IsShell i k r x) = same i (e ∙ r) k

  pub outer_place : (j : ℕ) → j < component_count c → slice_index c.places j ≤ length c.faces
  outer_place j l = ((w c h).placed j l).place
