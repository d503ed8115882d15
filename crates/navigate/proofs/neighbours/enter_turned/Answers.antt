use Rattle.std.proofs.Common.{arith, ap, sym, ◌∙◌, [], ◌≡◌, ◌-◌, ◌++◌, length, ℕ}
use Rattle.std.specs.Prelude.{take, drop}
use Rattle.plane_model.specs.Sets.{has, first_occurrences}
use Rattle.navigate.specs.Beside.{others}
use Rattle.navigate.proofs.BegunLaws.{entered-twice, dropped-has, taken-has, all-of}
use Rattle.navigate.proofs.neighbours.enter_turned.Goals as goal

pub enter_unseen-requires-clause-marked : goal.enter_unseen-requires-clause-marked
enter_unseen-requires-clause-marked c = λ j there.
    let xs = c.args.across.now in
    let k = c.args.before in
    c.requires.marked j (dropped-has k xs j (ap (λ zs. has zs j) (sym (all-of k xs)) ∙ there))

pub enter_unseen-requires-2-clause-marked : goal.enter_unseen-requires-2-clause-marked
enter_unseen-requires-2-clause-marked c = λ j there.
    let low = c.requires.marked j (taken-has c.args.before c.args.across.now j there) in
    omega (arith, low, c.enter_unseen.ensures.room)

pub returns-clause-places : goal.returns-clause-places
returns-clause-places c =
    let xs = c.args.across.now in
    let k = c.args.before in
    let place = c.args.place in
    let mid : c.enter_unseen.new.given.items ≡ first_occurrences (others place (drop k xs))
    = c.enter_unseen.ensures.places [] c.requires.empty ∙ ap (λ zs. zs ++ first_occurrences (others place (take (length xs - k) (drop k xs)))) c.requires.none ∙ ap (λ zs. first_occurrences (others place zs)) (all-of k xs) in
    entered-twice place (drop k xs) (take k xs) c.enter_unseen.new.given.items c.enter_unseen-2.new.given.items mid
    (c.enter_unseen-2.ensures.places c.enter_unseen.new.given.items
    (λ j. c.enter_unseen.ensures.marks [] c.requires.empty j ∙ ap (λ zs. has zs j) (ap (λ zs. first_occurrences (others place zs)) (all-of k xs) ∙ sym mid)))

pub returns-clause-marks : goal.returns-clause-marks
returns-clause-marks c = λ j.
    let xs = c.args.across.now in
    let k = c.args.before in
    let place = c.args.place in
    let first = c.enter_unseen.new.given.items in
    let mid : first ≡ first_occurrences (others place (drop k xs))
    = c.enter_unseen.ensures.places [] c.requires.empty ∙ ap (λ zs. zs ++ first_occurrences (others place (take (length xs - k) (drop k xs)))) c.requires.none ∙ ap (λ zs. first_occurrences (others place zs)) (all-of k xs) in
    let marked : (i : ℕ) → _ = λ i. c.enter_unseen.ensures.marks [] c.requires.empty i ∙ ap (λ zs. has zs i) (ap (λ zs. first_occurrences (others place zs)) (all-of k xs) ∙ sym mid) in
    c.enter_unseen-2.ensures.marks first marked j ∙ ap (λ zs. has zs j) (sym (c.enter_unseen-2.ensures.places first marked))
