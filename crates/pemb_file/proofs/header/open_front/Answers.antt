use Rattle.std.proofs.lemmas.Result.{err_from_is_err_and}
use Rattle.pemb_file.proofs.FrontFaults.{at-bytes, at-head, at-form, at-header, at-length, front-none}
use Rattle.pemb_file.proofs.header.open_front.Goals as goal

pub returns-in_err-words-clause-fault : goal.returns-in_err-words-clause-fault
returns-in_err-words-clause-fault g c =
    let p = err_from_is_err_and c.from_residual.result c.from_residual.ensures.1 in
    rw (p.1, p.2) (at-bytes c.args.bytes.now _ c.in_err-words.ensures.fault)

pub returns-in_err-check_head-clause-fault : goal.returns-in_err-check_head-clause-fault
returns-in_err-check_head-clause-fault g c =
    let p = err_from_is_err_and c.from_residual-in_err-check_head.result c.from_residual-in_err-check_head.ensures.1 in
    let w = c.in_ok-words.ensures in
    rw (p.1, p.2) (at-head c.args.bytes.now _ _ w.words w.fault c.in_err-check_head.ensures.fault)

pub returns-in_err-form-clause-fault : goal.returns-in_err-form-clause-fault
returns-in_err-form-clause-fault g c =
    let p = err_from_is_err_and c.from_residual-in_err-form.result c.from_residual-in_err-form.ensures.1 in
    let w = c.in_ok-words.ensures in
    rw (p.1, p.2) (at-form c.args.bytes.now _ _ w.words w.fault c.in_ok-check_head.ensures.fault c.in_err-form.ensures.fault)

pub returns-in_err-check_header-clause-fault : goal.returns-in_err-check_header-clause-fault
returns-in_err-check_header-clause-fault g c =
    let p = err_from_is_err_and c.from_residual-in_err-check_header.result c.from_residual-in_err-check_header.ensures.1 in
    let w = c.in_ok-words.ensures in
    rw (p.1, p.2) (at-header c.args.bytes.now _ _ w.words w.fault c.in_ok-check_head.ensures.fault c.in_ok-form.ensures.fault c.in_err-check_header.ensures.fault)

pub returns-in_err-check_length-clause-fault : goal.returns-in_err-check_length-clause-fault
returns-in_err-check_length-clause-fault g c =
    let p = err_from_is_err_and c.from_residual-in_err-check_length.result c.from_residual-in_err-check_length.ensures.1 in
    let w = c.in_ok-words.ensures in
    rw (p.1, p.2) (at-length c.args.bytes.now _ _ _ w.words c.header-header.ensures.counts w.fault c.in_ok-check_head.ensures.fault c.in_ok-form.ensures.fault c.in_ok-check_header.ensures.fault c.in_err-check_length.ensures)

pub returns-clause-fault : goal.returns-clause-fault
returns-clause-fault g c =
    let w = c.in_ok-words.ensures in
    front-none c.args.bytes.now _ _ w.words c.header-header.ensures.counts w.fault c.in_ok-check_head.ensures.fault c.in_ok-form.ensures.fault c.in_ok-check_header.ensures.fault c.in_ok-check_length.ensures
