use Rattle.std.proofs.Common.{arith}
use Rattle.pemb_file.proofs.DigestFault.{digest-wrong, digest-right, rest_digest}
use Rattle.pemb_file.proofs.header.check_digest.Goals as goal

pub returns-then-bytes-at : goal.returns-then-bytes-at
returns-then-bytes-at c =
    let d = rest_digest c.args.bytes.now c.digest_of-digest.result c.digest_of-digest.ensures in
    digest-wrong c.args.bytes.now c.digest_of-digest.result c.loop-at.at d (omega arith) c.loop-at.invariant.same c.if-bytes-at.true

pub returns : goal.returns
returns c =
    let d = rest_digest c.args.bytes.now c.digest_of-digest.result c.digest_of-digest.ensures in
    digest-right c.args.bytes.now c.digest_of-digest.result d (λ k l. c.loop-at.invariant.same k (omega arith))
