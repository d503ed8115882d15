use Rattle.std.proofs.Common.{◌≡◌, ◌+◌, ◌<◌, ◌≢◌, ℕ, inl, inr, arith, ap, sym, subst, ◌∙◌, length, set, get_or-set_same, get_or-set_other, slice_index}
use Rattle.std.proofs.lemmas.Bool.{cases_lt}
use Rattle.std.proofs.lemmas.List.{length-set}
use Rattle.region_tree.proofs.PlacesOf.{apart_places}
use Rattle.region_tree.proofs.numbering.numbers.Goals as goal

pub loop-number-preserved : goal.loop-number-preserved
loop-number-preserved c =
    let order = c.args.order.now in
    let numbers = c.loop-number.numbers.items in
    let i = c.loop-number.number in
    let l : i < length order = omega arith in
    let place = slice_index order i in
    let fits : place < length numbers = (let w = c.requires.within i l in let m = c.loop-number.invariant.many in omega (arith, w, m)) in
    record {
      many = length-set numbers place i ∙ c.loop-number.invariant.many;
      number = λ x lx. elim (cases_lt x i) [
        | inl before ↦
            let other : slice_index order x ≢ place = λ e. let same = apart_places order c.requires.apart x i (omega arith) l e in omega (arith, same) in
            get_or-set_other numbers place (slice_index order x) i 0 other ∙ c.loop-number.invariant.number x before
        | inr here ↦
            let e : x ≡ i = omega arith in
            ap (λ z. slice_index (set numbers place i) (slice_index order z)) e ∙ get_or-set_same numbers place i 0 fits ∙ sym e
      ];
    }
