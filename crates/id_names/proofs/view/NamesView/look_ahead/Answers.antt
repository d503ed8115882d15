use Rattle.std.proofs.Common.{◌≡◌, ℕ, ◌+◌, length, get_or, ap, sym, ◌∙◌, arith, Option, Some, None, rules}
use Rattle.bit_words.specs.Digits.{digits}
use Rattle.bit_words.specs.PackedView.{fields_of}
use Rattle.rank_select.specs.Counts.{counts_of}
use Rattle.rank_select.specs.RankView.{counted}
use Rattle.id_names.specs.Names.{number_of}
use Rattle.id_names.specs.Searches.{number_for}
use Rattle.id_names.specs.Views.{ids_of, names_in}
use Rattle.id_names.proofs.LookAhead.{of_four, known_by_items, looked_up}
use Rattle.id_names.proofs.NameLaws.{length-ids}
use Rattle.id_names.proofs.view.NamesView.look_ahead.Goals as goal

pub invariant_of-self : goal.invariant_of-self
invariant_of-self g c =
    let v = c.args.self.now in
    let p = names_in v in
    let hc = counts_of (counted v.ids.high) in
    let mc = counts_of (counted v.inverse.marks) in
    let four : length c.args.ids ≡ 4 = search rules in
    let first = c.place_for.result in
    let second = c.place_for-2.result in
    let third = c.place_for-3.result in
    let fourth = c.place_for-4.result in
    let found = c.four_numbers-numbers.ensures.numbers in
    let none : (place : Option ℕ) → place ≡ None → number_for v.inverse place ≡ None = λ place e. ap (number_for v.inverse) e in
    let some : (place : Option ℕ) (j : ℕ) → place ≡ Some j → number_for v.inverse place ≡ number_for v.inverse (Some j) = λ place j e. ap (number_for v.inverse) e in
    record {
      count = v.count;
      right = v.right;
      gapless = v.gapless;
      looked_up = known_by_items (ids_of v) c.args.ids c.four_numbers-numbers.result c.known_numbers-self.result c.known_numbers-self.ensures.asked c.known_numbers-self.ensures.numbers (λ j h.
          of_four (λ j. (id : ℕ) → get_or c.args.ids j None ≡ Some id → get_or c.four_numbers-numbers.result j None ≡ number_of (ids_of v) id)
          (λ id e. ap (λ xs. get_or xs 0 None) found ∙ looked_up p hc mc v.right (get_or c.args.ids 0 None) first (number_for v.inverse first) c.place_for.ensures.place (none first) (some first) id e)
          (λ id e. ap (λ xs. get_or xs 1 None) found ∙ looked_up p hc mc v.right (get_or c.args.ids 1 None) second (number_for v.inverse second) c.place_for-2.ensures.place (none second) (some second) id e)
          (λ id e. ap (λ xs. get_or xs 2 None) found ∙ looked_up p hc mc v.right (get_or c.args.ids 2 None) third (number_for v.inverse third) c.place_for-3.ensures.place (none third) (some third) id e)
          (λ id e. ap (λ xs. get_or xs 3 None) found ∙ looked_up p hc mc v.right (get_or c.args.ids 3 None) fourth (number_for v.inverse fourth) c.place_for-4.ensures.place (none fourth) (some fourth) id e)
          j (omega (arith, h, four)));
    }

pub returns-clause-cost : goal.returns-clause-cost
returns-clause-cost g c =
    let v = c.args.self.now in
    let e : digits (length (fields_of v.inverse.places) + 2) ≡ digits (length (ids_of v) + 2) = ap (λ n. digits (n + 2)) (sym (length-ids (names_in v))) in
    omega (arith, e, c.four_numbers-numbers.ensures.cost, c.place_for.ensures.cost, c.place_for-2.ensures.cost, c.place_for-3.ensures.cost, c.place_for-4.ensures.cost)
