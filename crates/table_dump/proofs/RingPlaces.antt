-- The place of the face beside a position, from its ring as one number.
use Rattle.std.specs.Prelude.{slice_index}
use Rattle.std.proofs.Common.{◌≡◌, ◌≢◌, ℕ, ◌+◌, ◌-◌, ◌<◌, ◌≤◌, false, true, refl, ap, sym, ◌∙◌, arith, length, Option, Some, None}
use Rattle.code_laws.specs.Code.{Code, component_of}
use Rattle.code_laws.specs.Numbers.{enclosing_pair, ring_of, shell_or_outer}
use Rattle.code_laws.specs.Tour.{ring_code}
use Rattle.code_laws.specs.declared.ring_number.RingNumber.TheVariants.{Outer, Shell}
use Rattle.file_laws.specs.Contents.{Contents, component_count}
use Rattle.file_laws.specs.Lawful.{is_whole}
use Rattle.file_laws.specs.MapOfFile.{place_of_ring}
use Rattle.navigate.proofs.Rings.{outer_in, outer_place, shell_in}

outer_ring : (k : Code) (p : ℕ) → ring_code (ring_of k p) ≡ 0 → ring_of k p ≡ Outer (component_of k p)
unfolding ring_of
outer_ring k p e = by (enclosing_pair k false p) e
  where
    by : (o : Option ℕ) → ring_code (shell_or_outer k p o) ≡ 0 → shell_or_outer k p o ≡ Outer (component_of k p)
    by None x = refl
    by (Some shell) x = absurd (omega (arith, x))

shell_ring : (k : Code) (p ring : ℕ) → ring ≡ ring_code (ring_of k p) → ring ≢ 0 → ring_of k p ≡ Shell (ring - 1)
unfolding ring_of
shell_ring k p ring e some = by (enclosing_pair k false p) e
  where
    by : (o : Option ℕ) → ring ≡ ring_code (shell_or_outer k p o) → shell_or_outer k p o ≡ Shell (ring - 1)
    by None x = absurd (some x)
    by (Some shell) x = let same : shell ≡ ring - 1 = omega (arith, x) in ap Shell same

module _ (c : Contents) (h : is_whole c ≡ true) (p ring : ℕ) (is : ring ≡ ring_code (ring_of c.code p)) where
  -- an outer ring has the place of its component
  pub outer_beside : (component place : ℕ) → ring ≡ 0 → component ≡ component_of c.code p → place ≡ slice_index c.places component → place ≡ place_of_ring c (ring_of c.code p)
  outer_beside component place none at e = e ∙ ap (slice_index c.places) at ∙ ap (place_of_ring c) (sym (outer_ring c.code p (sym is ∙ none)))

  pub outer_there : (component : ℕ) → p < length c.code.a → ring ≡ 0 → component ≡ component_of c.code p → component < component_count c
  outer_there component l none at =
      let low = outer_in c h p (component_of c.code p) l (sym (outer_ring c.code p (sym is ∙ none))) in
      omega (arith, low, at)

  pub outer_within : (component place : ℕ) → p < length c.code.a → ring ≡ 0 → component ≡ component_of c.code p → place ≡ slice_index c.places component → place ≤ length c.faces
  outer_within component place l none at e =
      let low = outer_place c h component (outer_there component l none at) in
      omega (arith, low, e)

  -- and a shell its own
  pub shell_beside : ring ≢ 0 → ring ≡ place_of_ring c (ring_of c.code p)
  shell_beside some = let one : ring ≡ ring - 1 + 1 = omega (arith, some) in one ∙ ap (place_of_ring c) (sym (shell_ring c.code p ring is some))

  pub shell_within : p < length c.code.a → ring ≢ 0 → ring ≤ length c.faces
  shell_within l some = let low = shell_in c h p (ring - 1) l (sym (shell_ring c.code p ring is some)) in omega (arith, low, some)
