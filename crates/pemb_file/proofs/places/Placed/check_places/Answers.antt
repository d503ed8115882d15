use Rattle.std.specs.Prelude.{option_map}
use Rattle.std.proofs.Common.{ap, sym, ◌∙◌}
use Rattle.std.proofs.lemmas.Result.{err_from_is_err_and}
use Rattle.file_laws.specs.Faults.{places_fault, place_fault, order_fault, isolated_fault}
use Rattle.pemb_file.specs.PlacedView.{contents_of_placed}
use Rattle.file_laws.specs.declared.fault.FileFault.TheVariants as fault
use Rattle.pemb_file.proofs.FrontFaults.{first-some, first-none, first-last}
use Rattle.pemb_file.proofs.Wrong.{some-finds}
use Rattle.pemb_file.proofs.places.Placed.check_places.Goals as goal

pub returns-in_err-place-clause-fault : goal.returns-in_err-place-clause-fault
unfolding places_fault
returns-in_err-place-clause-fault g c =
    let p = err_from_is_err_and c.from_residual.result c.from_residual.ensures.1 in
    rw (p.1, p.2) (first-some (option_map (fault.Place 17) (place_fault (contents_of_placed c.args.self.now))) _ _ (ap (option_map (fault.Place 17)) (sym c.wrong_place.ensures.place) ∙ c.in_err-place.ensures))

pub returns-in_err-place-2-clause-fault : goal.returns-in_err-place-2-clause-fault
unfolding places_fault
returns-in_err-place-2-clause-fault g c =
    let p = err_from_is_err_and c.from_residual-in_err-place-2.result c.from_residual-in_err-place-2.ensures.1 in
    rw (p.1, p.2) (first-none (option_map (fault.Place 17) (place_fault (contents_of_placed c.args.self.now))) _ (ap (option_map (fault.Place 17)) (sym c.wrong_place.ensures.place) ∙ c.in_ok-place.ensures) ∙ first-some (option_map (fault.Place 18) (order_fault (contents_of_placed c.args.self.now))) _ _ (ap (option_map (fault.Place 18)) (sym c.wrong_order.ensures.order) ∙ c.in_err-place-2.ensures))

pub returns-clause-fault : goal.returns-clause-fault
unfolding places_fault
returns-clause-fault g c = some-finds _ _ c.place-3.result (first-none (option_map (fault.Place 17) (place_fault (contents_of_placed c.args.self.now))) _ (ap (option_map (fault.Place 17)) (sym c.wrong_place.ensures.place) ∙ c.in_ok-place.ensures) ∙ first-none (option_map (fault.Place 18) (order_fault (contents_of_placed c.args.self.now))) _ (ap (option_map (fault.Place 18)) (sym c.wrong_order.ensures.order) ∙ c.in_ok-place-2.ensures) ∙ first-last (option_map (fault.Place 19) (isolated_fault (contents_of_placed c.args.self.now))) ∙ ap (option_map (fault.Place 19)) (sym c.wrong_isolated.ensures.isolated)) c.place-3.ensures
