use Rattle.std.proofs.Common.{refl, ap, sym, ◌∙◌}
use Rattle.std.proofs.lemmas.Result.{err_from_is_err_and}
use Rattle.file_laws.specs.Faults.{unless}
use Rattle.file_laws.specs.declared.fault.FileFault.TheVariants as fault
use Rattle.pemb_file.specs.Header.{counts_of_header}
use Rattle.pemb_file.proofs.Wrong.{some-finds}
use Rattle.pemb_file.proofs.CountFaults.{at-6, at-7, at-8, at-9, at-10, at-11, at-12, at-13, at-14}
use Rattle.pemb_file.proofs.header.check_counts.Goals as goal

pub returns-in_err-check_count : goal.returns-in_err-check_count
returns-in_err-check_count c =
    let p = err_from_is_err_and c.from_residual.result c.from_residual.ensures.1 in
    rw (p.1, p.2) (at-6 (counts_of_header c.args.header) _ c.in_err-check_count.ensures)

pub returns-in_err-check_count-2 : goal.returns-in_err-check_count-2
returns-in_err-check_count-2 c =
    let p = err_from_is_err_and c.from_residual-in_err-check_count-2.result c.from_residual-in_err-check_count-2.ensures.1 in
    rw (p.1, p.2) (at-7 (counts_of_header c.args.header) _ c.in_ok-check_count.ensures c.in_err-check_count-2.ensures)

pub returns-in_err-check_count-3 : goal.returns-in_err-check_count-3
returns-in_err-check_count-3 c =
    let p = err_from_is_err_and c.from_residual-in_err-check_count-3.result c.from_residual-in_err-check_count-3.ensures.1 in
    rw (p.1, p.2) (at-8 (counts_of_header c.args.header) _ c.in_ok-check_count.ensures c.in_ok-check_count-2.ensures (ap (λ b. unless b (fault.Count 8 c.args.header.components)) (sym c.components_fit.ensures) ∙ c.in_err-check_count-3.ensures))

pub returns-in_err-check_count-4 : goal.returns-in_err-check_count-4
returns-in_err-check_count-4 c =
    let p = err_from_is_err_and c.from_residual-in_err-check_count-4.result c.from_residual-in_err-check_count-4.ensures.1 in
    rw (p.1, p.2) (at-9 (counts_of_header c.args.header) _ c.in_ok-check_count.ensures c.in_ok-check_count-2.ensures (ap (λ b. unless b (fault.Count 8 c.args.header.components)) (sym c.components_fit.ensures) ∙ c.in_ok-check_count-3.ensures) (ap (λ b. unless b (fault.Count 9 c.args.header.isolated)) (sym c.nodes_fit.ensures) ∙ c.in_err-check_count-4.ensures))

pub returns-in_err-check_count-5 : goal.returns-in_err-check_count-5
returns-in_err-check_count-5 c =
    let p = err_from_is_err_and c.from_residual-in_err-check_count-5.result c.from_residual-in_err-check_count-5.ensures.1 in
    rw (p.1, p.2) (at-10 (counts_of_header c.args.header) _ c.in_ok-check_count.ensures c.in_ok-check_count-2.ensures (ap (λ b. unless b (fault.Count 8 c.args.header.components)) (sym c.components_fit.ensures) ∙ c.in_ok-check_count-3.ensures) (ap (λ b. unless b (fault.Count 9 c.args.header.isolated)) (sym c.nodes_fit.ensures) ∙ c.in_ok-check_count-4.ensures) c.in_err-check_count-5.ensures)

pub returns-in_err-check_count-6 : goal.returns-in_err-check_count-6
returns-in_err-check_count-6 c =
    let p = err_from_is_err_and c.from_residual-in_err-check_count-6.result c.from_residual-in_err-check_count-6.ensures.1 in
    rw (p.1, p.2) (at-11 (counts_of_header c.args.header) _ c.in_ok-check_count.ensures c.in_ok-check_count-2.ensures (ap (λ b. unless b (fault.Count 8 c.args.header.components)) (sym c.components_fit.ensures) ∙ c.in_ok-check_count-3.ensures) (ap (λ b. unless b (fault.Count 9 c.args.header.isolated)) (sym c.nodes_fit.ensures) ∙ c.in_ok-check_count-4.ensures) c.in_ok-check_count-5.ensures (ap (λ b. unless b (fault.Count 11 c.args.header.node_back)) (sym c.node_back_fits.ensures) ∙ c.in_err-check_count-6.ensures))

pub returns-in_err-check_count-7 : goal.returns-in_err-check_count-7
returns-in_err-check_count-7 c =
    let p = err_from_is_err_and c.from_residual-in_err-check_count-7.result c.from_residual-in_err-check_count-7.ensures.1 in
    rw (p.1, p.2) (at-12 (counts_of_header c.args.header) _ c.in_ok-check_count.ensures c.in_ok-check_count-2.ensures (ap (λ b. unless b (fault.Count 8 c.args.header.components)) (sym c.components_fit.ensures) ∙ c.in_ok-check_count-3.ensures) (ap (λ b. unless b (fault.Count 9 c.args.header.isolated)) (sym c.nodes_fit.ensures) ∙ c.in_ok-check_count-4.ensures) c.in_ok-check_count-5.ensures (ap (λ b. unless b (fault.Count 11 c.args.header.node_back)) (sym c.node_back_fits.ensures) ∙ c.in_ok-check_count-6.ensures) c.in_err-check_count-7.ensures)

pub returns-in_err-check_count-8 : goal.returns-in_err-check_count-8
returns-in_err-check_count-8 c =
    let p = err_from_is_err_and c.from_residual-in_err-check_count-8.result c.from_residual-in_err-check_count-8.ensures.1 in
    rw (p.1, p.2) (at-13 (counts_of_header c.args.header) _ c.in_ok-check_count.ensures c.in_ok-check_count-2.ensures (ap (λ b. unless b (fault.Count 8 c.args.header.components)) (sym c.components_fit.ensures) ∙ c.in_ok-check_count-3.ensures) (ap (λ b. unless b (fault.Count 9 c.args.header.isolated)) (sym c.nodes_fit.ensures) ∙ c.in_ok-check_count-4.ensures) c.in_ok-check_count-5.ensures (ap (λ b. unless b (fault.Count 11 c.args.header.node_back)) (sym c.node_back_fits.ensures) ∙ c.in_ok-check_count-6.ensures) c.in_ok-check_count-7.ensures (ap (λ b. unless b (fault.Count 13 c.args.header.face_back)) (sym c.face_back_fits.ensures) ∙ c.in_err-check_count-8.ensures))

pub returns : goal.returns
returns c = some-finds _ _ c.check_count-9.result (at-14 (counts_of_header c.args.header) _ c.in_ok-check_count.ensures c.in_ok-check_count-2.ensures (ap (λ b. unless b (fault.Count 8 c.args.header.components)) (sym c.components_fit.ensures) ∙ c.in_ok-check_count-3.ensures) (ap (λ b. unless b (fault.Count 9 c.args.header.isolated)) (sym c.nodes_fit.ensures) ∙ c.in_ok-check_count-4.ensures) c.in_ok-check_count-5.ensures (ap (λ b. unless b (fault.Count 11 c.args.header.node_back)) (sym c.node_back_fits.ensures) ∙ c.in_ok-check_count-6.ensures) c.in_ok-check_count-7.ensures (ap (λ b. unless b (fault.Count 13 c.args.header.face_back)) (sym c.face_back_fits.ensures) ∙ c.in_ok-check_count-8.ensures) refl) c.check_count-9.ensures
