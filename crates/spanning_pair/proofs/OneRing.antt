-- Where the ring of dart 0 has all darts of a rotation, dart 0 is the start of its one component.
use Rattle.std.proofs.Common.{◌≡◌, ℕ, zero, suc, ◌*◌, ◌<◌, List, [], ◌∷◌, length, set, replicate, Bool, true, false, inl, inr, sym, ◌∙◌, subst, arith, get_or-set_other, length-set}
use Rattle.std.specs.List.{list_all}
use Rattle.std.proofs.lemmas.List.{length-replicate}
use Rattle.std.proofs.lemmas.Bool.{and_parts, cases_eq, both_ways}
use Rattle.plane_model.specs.PlaneMap.{next}
use Rattle.rotation_check.specs.Darts.{RotationRows, IsRotation, map_of_rotation, signed_edge}
use Rattle.spanning_pair.specs.Darts.{reverse_dart, InComponent}
use Rattle.orbits.specs.Components.InComponent.{itself, reversed, turned_on}
use Rattle.spanning_pair.specs.Rotations.{next_dart, AreComponentStarts}
use Rattle.spanning_pair.specs.Tours.{flag_at}
use Rattle.spanning_pair.proofs.ComponentDarts.{to_component}
use Rattle.spanning_pair.proofs.OtherDart.{reverse_reverse}
use Rattle.spanning_pair.proofs.RotationDarts.{next_is}
use Rattle.spanning_pair.proofs.Touring.{flags_none}

-- the darts that were met, and the one that is next, are in the component of dart 0
pub record AreMet (r : RotationRows) (met : List Bool) (dart : ℕ) : Type 0 where
  pub size : length met ≡ 2 * length r.edges
  pub within : dart < 2 * length r.edges
  pub here : InComponent (next_dart r) 0 dart
  pub marks : (d : ℕ) → flag_at met d ≡ true → InComponent (next_dart r) 0 d

pub met_none : (r : RotationRows) (n : ℕ) → n ≡ 2 * length r.edges → 0 < n → AreMet r (replicate n false) 0
met_none r n e some =
    record {
      size = length-replicate n false ∙ e;
      within = omega arith;
      here = itself;
      marks = λ d h. absurd (both_ways _ (flags_none n d) h);
    }

next_in : (f : ℕ → ℕ) (d : ℕ) → InComponent f 0 d → InComponent f 0 (f d)
next_in f d c = subst (λ e. InComponent f 0 (f e)) (reverse_reverse d) (turned_on (reverse_dart d) (reversed d c))

pub met_next : (r : RotationRows) → IsRotation r → (met : List Bool) (dart after : ℕ) → AreMet r met dart → after < 2 * length r.edges
    → signed_edge r.edges after ≡ next (map_of_rotation r) (signed_edge r.edges dart) → AreMet r (set met dart true) after
met_next r is met dart after w h e =
    record {
      size = length-set met dart true ∙ w.size;
      within = h;
      here = subst (InComponent (next_dart r) 0) (sym (next_is r is dart after h e)) (next_in (next_dart r) dart w.here);
      marks = λ d on. elim (cases_eq d dart) [
        | inl same ↦ subst (InComponent (next_dart r) 0) (sym same) w.here
        | inr other ↦ w.marks d (sym (get_or-set_other met dart d true false other) ∙ on)
      ];
    }

each_flag : (flags : List Bool) → list_all (λ flag. flag) flags ≡ true → (d : ℕ) → d < length flags → flag_at flags d ≡ true
each_flag [] all d h = absurd (omega arith)
each_flag (f ∷ flags) all zero h = (and_parts f (list_all (λ flag. flag) flags) all).0
each_flag (f ∷ flags) all (suc d) h = each_flag flags (and_parts f (list_all (λ flag. flag) flags) all).1 d (omega arith)

pub one_start : (r : RotationRows) → IsRotation r → (met : List Bool) (dart : ℕ) → AreMet r met dart → list_all (λ flag. flag) met ≡ true → AreComponentStarts r (0 ∷ [])
one_start r is met dart w all =
    let some : 0 < 2 * length r.edges = (let l = w.within in omega arith) in
    record {
      below = λ i h. (let e : i ≡ 0 = omega arith in rw e some);
      apart = λ i j h k c. omega arith;
      each = λ d h. (0, omega arith, to_component r is 0 d some (w.marks d (each_flag met all d (omega (arith, h, w.size)))));
    }
