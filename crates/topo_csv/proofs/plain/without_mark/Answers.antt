use Rattle.topo_csv.proofs.Cutting.{marked, unmarked}
use Rattle.topo_csv.proofs.plain.without_mark.Goals as goal

pub returns-in-Some : goal.returns-in-Some
returns-in-Some c = let cases = c.in-Some.ensures.cases in marked c.args.bytes.now _ cases.0 cases.1

pub returns-in-None : goal.returns-in-None
returns-in-None c = unmarked c.args.bytes.now c.in-None.ensures.cases
