-- Where each place points back to its number, or is it, the walk from each comes to a number.
use Rattle.std.specs.Option.{is_some}
use Rattle.std.specs.Prelude.{◌&&◌}
use Rattle.std.proofs.Common.{◌≡◌, ℕ, ◌+◌, ◌-◌, ◌<◌, ◌≤◌, inl, inr, Bool, true, false, cond, List, length, get_or, refl, ap, sym, subst, ◌∙◌, arith, None}
use Rattle.std.proofs.lemmas.Bool.{cases_Bool, cases_eq}
use Rattle.bit_words.specs.Bits.{rank}
use Rattle.id_names.specs.Faults.{is_ordered, first_failing}
use Rattle.id_names.specs.Inverse.{walk, back_from, stride, number_at}
use Rattle.id_names.specs.Ways.{AreMany, pointed_from}
use Rattle.id_names.proofs.FoundAlong.{IsFound, none_fails}
use Rattle.id_names.proofs.Pointers.{stride_some}
use Rattle.id_names.proofs.Walks.{walk_here, walk_jumps}

module _ (places : List ℕ) (marks : List Bool) (back : List ℕ) where
  pub found_at_once : (place number : ℕ) → place < length places → number ≡ pointed_from marks back place → number < length places → get_or places number 0 ≡ place → is_some (number_at places marks back place) ≡ true
  found_at_once place number within at there has =
      let s = stride (length places) in
      let tests : 0 < s + 1 = omega arith in
      elim (cases_eq (get_or places place 0) place) [
        | inl own ↦ ap is_some (walk_here places marks back place (s + 1) place true tests within own)
        | inr other ↦ elim (cases_Bool (get_or marks place false)) [
          | inl marked ↦
              let to : number ≡ back_from marks back place = subst (λ b. number ≡ cond b (back_from marks back place) place) marked at in
              let later : s + 1 - 1 ≡ s = omega arith in
              ap is_some
              (walk_jumps places marks back place (s + 1) place tests within other marked
              ∙ ap (λ t. walk places marks back place t false (back_from marks back place)) later
              ∙ ap (λ x. walk places marks back place s false x) (sym to)
              ∙ walk_here places marks back place s number false (omega (arith, stride_some (length places))) there has)
          | inr free ↦
              let to : number ≡ place = subst (λ b. number ≡ cond b (back_from marks back place) place) free at in
              absurd (other (ap (λ x. get_or places x 0) (sym to) ∙ has))
        ]
      ]

  -- where the walk from each place comes to a number, no number fails
  pub all_at_once : ((place : ℕ) → place < length places → is_some (number_at places marks back place) ≡ true) → first_failing (is_ordered places (number_at places marks back)) (length places) ≡ None
  all_at_once found =
      let many : AreMany (IsFound places marks back) (length places) = record { item = λ i. i; each = λ i h. (h, found i h); once = λ i j h l e. e } in
      none_fails places marks back many
