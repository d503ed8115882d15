use Rattle.std.specs.Prelude.{if◌then◌else◌}
use Rattle.std.proofs.Common.{◌≡◌, arith, ◌∙◌, subst}
use Rattle.topo_base.specs.SignedEdge.{reverse}
use Rattle.code_laws.specs.Code.{mate}
use Rattle.code_laws.proofs.Mates.{mate_laws}
use Rattle.file_laws.specs.MapOfFile.{signed_at}
use Rattle.pemb_file.specs.Served.{contents_of_view}
use Rattle.navigate.proofs.Facts.{sound_code, words_line}
use Rattle.navigate.proofs.MapLists.{origin_at, other_at}
use Rattle.navigate.proofs.OrbitLengths.{some_digits}
use Rattle.navigate.proofs.look_ups.ends.Goals as goal

pub returns-in_default-clause-paid : goal.returns-in_default-clause-paid
returns-in_default-clause-paid g c =
    let d = some_digits (contents_of_view c.args.served) in
    let words = words_line (contents_of_view c.args.served) c.args.served.whole 0 0 in
    omega (arith, d, words, c.in_default.ensures.cost)

pub returns-then-is_own-clause-ends : goal.returns-then-is_own-clause-ends
returns-then-is_own-clause-ends g c =
    let m = contents_of_view c.args.served in
    let h = c.args.served.whole in
    let first = c.in-Some.first in
    let within = c.in-Some.ensures.within in
    let mate_in = (mate_laws m.code (sound_code m h) first within).within in
    let other = other_at m h first c.in-Some.is_own c.args.edge within c.in-Some.ensures.edge in
    let own : signed_at m first ≡ c.args.edge = subst (λ b. signed_at m (if b then first else mate m.code first) ≡ c.args.edge) c.if-is_own.true c.in-Some.ensures.edge in
    let reversed : signed_at m (mate m.code first) ≡ reverse c.args.edge = subst (λ b. signed_at m (if b then mate m.code first else first) ≡ reverse c.args.edge) c.if-is_own.true other in (
      c.node_left-left.ensures.node ∙ origin_at m h first c.args.edge within own,
      c.node_reached-reached.ensures.node ∙ origin_at m h (mate m.code first) (reverse c.args.edge) mate_in reversed,
    )

pub returns-else-is_own-clause-ends : goal.returns-else-is_own-clause-ends
returns-else-is_own-clause-ends g c =
    let m = contents_of_view c.args.served in
    let h = c.args.served.whole in
    let first = c.in-Some.first in
    let within = c.in-Some.ensures.within in
    let mate_in = (mate_laws m.code (sound_code m h) first within).within in
    let other = other_at m h first c.in-Some.is_own c.args.edge within c.in-Some.ensures.edge in
    let own : signed_at m (mate m.code first) ≡ c.args.edge = subst (λ b. signed_at m (if b then first else mate m.code first) ≡ c.args.edge) c.if-is_own.false c.in-Some.ensures.edge in
    let reversed : signed_at m first ≡ reverse c.args.edge = subst (λ b. signed_at m (if b then mate m.code first else first) ≡ reverse c.args.edge) c.if-is_own.false other in (
      c.node_reached-reached.ensures.node ∙ origin_at m h (mate m.code first) c.args.edge mate_in own,
      c.node_left-left.ensures.node ∙ origin_at m h first (reverse c.args.edge) within reversed,
    )

pub returns-then-is_own-clause-paid : goal.returns-then-is_own-clause-paid
returns-then-is_own-clause-paid g c =
    let d = some_digits (contents_of_view c.args.served) in
    let words = words_line (contents_of_view c.args.served) c.args.served.whole 0 2 in
    omega (arith, d, words, c.in-Some.ensures.cost, c.node_left-left.ensures.cost, c.node_reached-reached.ensures.cost)

pub returns-else-is_own-clause-paid : goal.returns-else-is_own-clause-paid
returns-else-is_own-clause-paid g c =
    let d = some_digits (contents_of_view c.args.served) in
    let words = words_line (contents_of_view c.args.served) c.args.served.whole 0 2 in
    omega (arith, d, words, c.in-Some.ensures.cost, c.node_left-left.ensures.cost, c.node_reached-reached.ensures.cost)
