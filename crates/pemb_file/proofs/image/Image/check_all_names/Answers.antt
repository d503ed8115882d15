use Rattle.std.specs.Prelude.{option_map}
use Rattle.std.proofs.Common.{ap, arith, ◌∙◌}
use Rattle.std.proofs.lemmas.Result.{err_from_is_err_and}
use Rattle.bit_words.specs.WordView.{words_of}
use Rattle.file_laws.specs.Layout.{counts_in}
use Rattle.file_laws.specs.Held.{contents_of}
use Rattle.file_laws.specs.Faults.{all_names_fault, names_fault, told_in}
use Rattle.file_laws.specs.declared.fault.FileFault.TheVariants as fault
use Rattle.pemb_file.specs.Costs.{names_cost}
use Rattle.pemb_file.proofs.KindLaws.{counted}
use Rattle.pemb_file.proofs.FrontFaults.{first-some, first-none, first-last}
use Rattle.pemb_file.proofs.Wrong.{some-finds}
use Rattle.pemb_file.proofs.image.Image.check_all_names.Goals as goal

pub returns-in_err-name-clause-fault : goal.returns-in_err-name-clause-fault
unfolding all_names_fault contents_of
returns-in_err-name-clause-fault g c =
    let p = err_from_is_err_and c.from_residual.result c.from_residual.ensures.1 in
    rw (p.1, p.2) (first-some (option_map (told_in fault.Name 30) (names_fault (words_of c.args.self.now.words) 30)) _ _ (c.in_err-name.ensures _ c.check_names.ensures.fault))

pub returns-in_err-name-clause-cost : goal.returns-in_err-name-clause-cost
returns-in_err-name-clause-cost g c = let k = counted (counts_in (words_of c.args.self.now.words)) in let a = ap names_cost k.n34 in let b = ap names_cost k.n44 in let d = ap names_cost k.n54 in omega (arith, a, b, d, c.check_names.ensures.cost)

pub returns-in_err-name-2-clause-fault : goal.returns-in_err-name-2-clause-fault
unfolding all_names_fault contents_of
returns-in_err-name-2-clause-fault g c =
    let p = err_from_is_err_and c.from_residual-in_err-name-2.result c.from_residual-in_err-name-2.ensures.1 in
    rw (p.1, p.2) (first-none (option_map (told_in fault.Name 30) (names_fault (words_of c.args.self.now.words) 30)) _ (c.in_ok-name.ensures _ c.check_names.ensures.fault) ∙ first-some (option_map (told_in fault.Name 40) (names_fault (words_of c.args.self.now.words) 40)) _ _ (c.in_err-name-2.ensures _ c.check_names-2.ensures.fault))

pub returns-in_err-name-2-clause-cost : goal.returns-in_err-name-2-clause-cost
returns-in_err-name-2-clause-cost g c = let k = counted (counts_in (words_of c.args.self.now.words)) in let a = ap names_cost k.n34 in let b = ap names_cost k.n44 in let d = ap names_cost k.n54 in omega (arith, a, b, d, c.check_names.ensures.cost, c.check_names-2.ensures.cost)

pub returns-clause-fault : goal.returns-clause-fault
unfolding all_names_fault contents_of
returns-clause-fault g c = some-finds (option_map (told_in fault.Name 50) (names_fault (words_of c.args.self.now.words) 50)) _ c.name-3.result (first-none (option_map (told_in fault.Name 30) (names_fault (words_of c.args.self.now.words) 30)) _ (c.in_ok-name.ensures _ c.check_names.ensures.fault) ∙ first-none (option_map (told_in fault.Name 40) (names_fault (words_of c.args.self.now.words) 40)) _ (c.in_ok-name-2.ensures _ c.check_names-2.ensures.fault) ∙ first-last (option_map (told_in fault.Name 50) (names_fault (words_of c.args.self.now.words) 50))) (c.name-3.ensures _ c.check_names-3.ensures.fault)

pub returns-clause-cost : goal.returns-clause-cost
returns-clause-cost g c = let k = counted (counts_in (words_of c.args.self.now.words)) in let a = ap names_cost k.n34 in let b = ap names_cost k.n44 in let d = ap names_cost k.n54 in omega (arith, a, b, d, c.check_names.ensures.cost, c.check_names-2.ensures.cost, c.check_names-3.ensures.cost)
