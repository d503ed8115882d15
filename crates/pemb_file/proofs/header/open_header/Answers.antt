use Rattle.std.proofs.lemmas.Result.{err_from_is_err_and}
use Rattle.pemb_file.proofs.FrontFaults.{front-begun, at-digest, at-counts, long-bytes}
use Rattle.pemb_file.proofs.header.open_header.Goals as goal

pub returns-in_err-front-clause-fault : goal.returns-in_err-front-clause-fault
returns-in_err-front-clause-fault g c =
    let p = err_from_is_err_and c.from_residual.result c.from_residual.ensures.1 in
    rw (p.1, p.2) (front-begun c.args.bytes.now _ c.in_err-front.ensures.fault)

pub check_digest-requires : goal.check_digest-requires
check_digest-requires g c = long-bytes c.args.bytes.now _ c.in_ok-front.ensures.words c.in_ok-front.front.long

pub returns-in_err-check_digest-clause-fault : goal.returns-in_err-check_digest-clause-fault
returns-in_err-check_digest-clause-fault g c =
    let p = err_from_is_err_and c.from_residual-in_err-check_digest.result c.from_residual-in_err-check_digest.ensures.1 in
    rw (p.1, p.2) (at-digest c.args.bytes.now _ c.in_ok-front.ensures.fault c.in_err-check_digest.ensures)

pub returns-in_err-check_counts-clause-fault : goal.returns-in_err-check_counts-clause-fault
returns-in_err-check_counts-clause-fault g c =
    let p = err_from_is_err_and c.from_residual-in_err-check_counts.result c.from_residual-in_err-check_counts.ensures.1 in
    let f = c.in_ok-front.ensures in
    rw (p.1, p.2) (at-counts c.args.bytes.now _ _ _ f.words c.in_ok-front.front.counts f.fault c.in_ok-check_digest.ensures c.in_err-check_counts.ensures)

pub returns-clause-fault : goal.returns-clause-fault
returns-clause-fault g c =
    let f = c.in_ok-front.ensures in
    at-counts c.args.bytes.now _ _ _ f.words c.in_ok-front.front.counts f.fault c.in_ok-check_digest.ensures c.in_ok-check_counts.ensures
