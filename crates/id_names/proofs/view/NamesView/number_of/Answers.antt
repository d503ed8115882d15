use Rattle.std.proofs.Common.{◌≡◌, ◌≢◌, ℕ, ◌+◌, ◌<◌, length, ap, sym, ◌∙◌, subst, arith, None}
use Rattle.std.specs.Prelude.{MatchOption, slice_index}
use Rattle.bit_words.specs.Digits.{digits}
use Rattle.bit_words.specs.PackedView.{fields_of}
use Rattle.rank_select.specs.Counts.{counts_of}
use Rattle.rank_select.specs.RankView.{counted}
use Rattle.id_names.specs.Views.{ids_of, names_in}
use Rattle.id_names.proofs.NameLaws.{length-ids, right_names, no_number, its_number}
use Rattle.id_names.proofs.LookAhead.{number_told}
use Rattle.id_names.proofs.NumberLaws.{number_of-at, number_of-none}
use Rattle.id_names.proofs.view.NamesView.number_of.Goals as goal

pub returns-in_err-place-clause-number : goal.returns-in_err-place-clause-number
returns-in_err-place-clause-number g c =
    let v = c.args.self.now in
    let p = names_in v in
    let none = no_number p (counts_of (counted v.ids.high)) (counts_of (counted v.inverse.marks)) v.right c.args.id (λ j h. c.in_err-place.ensures.place j (omega (arith, h, length-ids p))) in
    let e : c.from_residual.result ≡ None = c.from_residual.ensures in
    e ∙ sym (number_of-none (ids_of v) c.args.id none)

pub returns-in_err-place-clause-found : goal.returns-in_err-place-clause-found
returns-in_err-place-clause-found g c =
    let v = c.args.self.now in
    let p = names_in v in
    let none = no_number p (counts_of (counted v.ids.high)) (counts_of (counted v.inverse.marks)) v.right c.args.id (λ j h. c.in_err-place.ensures.place j (omega (arith, h, length-ids p))) in
    let e : c.from_residual.result ≡ None = c.from_residual.ensures in
    subst (λ o. MatchOption o ((k : ℕ) → k < length (ids_of v) → slice_index (ids_of v) k ≢ c.args.id) (λ number. (number < length (ids_of v)) × (slice_index (ids_of v) number ≡ c.args.id))) (sym e) none

pub returns-clause-number : goal.returns-clause-number
returns-clause-number g c =
    let v = c.args.self.now in
    let p = names_in v in
    let n = its_number p (counts_of (counted v.ids.high)) (counts_of (counted v.inverse.marks)) v.right c.args.id c.in_ok-place.place (omega (arith, c.in_ok-place.ensures.place.0, length-ids p)) c.in_ok-place.ensures.place.1 in
    c.number.ensures.number ∙ n.1 ∙ sym (number_of-at (ids_of v) n.0 c.args.id (right_names p (counts_of (counted v.ids.high)) (counts_of (counted v.inverse.marks)) v.right).distinct n.2 n.3)

pub returns-clause-found : goal.returns-clause-found
returns-clause-found g c =
    let v = c.args.self.now in
    let p = names_in v in
    let n = its_number p (counts_of (counted v.ids.high)) (counts_of (counted v.inverse.marks)) v.right c.args.id c.in_ok-place.place (omega (arith, c.in_ok-place.ensures.place.0, length-ids p)) c.in_ok-place.ensures.place.1 in
    subst (λ o. MatchOption o ((k : ℕ) → k < length (ids_of v) → slice_index (ids_of v) k ≢ c.args.id) (λ number. (number < length (ids_of v)) × (slice_index (ids_of v) number ≡ c.args.id))) (sym (c.number.ensures.number ∙ n.1)) (n.2, n.3)

pub returns-clause-cost : goal.returns-clause-cost
returns-clause-cost g c =
    let v = c.args.self.now in
    let e : digits (length (fields_of v.inverse.places) + 2) ≡ digits (length (ids_of v) + 2) = ap (λ n. digits (n + 2)) (sym (length-ids (names_in v))) in
    omega (arith, e, c.number.ensures.cost, c.place_of.ensures.cost)

pub returns-in-Some-clause-found : goal.returns-in-Some-clause-found
returns-in-Some-clause-found g c =
    let ids = ids_of c.args.self.now in
    let is = c.in-Some.ensures.right ids c.args.self.now.looked_up c.args.id c.in-Some.ensures.this in
    number_told ids c.args.id c.in-Some.known.number is
