use Rattle.std.proofs.Common.{◌∙◌, ap, length, subst, sym, arith}
use Rattle.std.specs.List.{range_with_len}
use Rattle.std.proofs.lemmas.List.FromFn.{length-range_with_len}
use Rattle.disjoint_sets.specs.Links.{AreLinks, leasts}
use Rattle.disjoint_sets.specs.Sets.{AreSets}
use Rattle.disjoint_sets.proofs.Leading.{alone, alone_links, are_sets}
use Rattle.disjoint_sets.proofs.sets.DisjointSets.new.Goals as goal

pub invariant_of-result : goal.invariant_of-result
invariant_of-result c =
    let long = length-range_with_len 0 c.args.count in
    let size = ap length c.in_ok-own_links.ensures in
    let fits = c.ranges.count.fits in
    (subst AreLinks (sym c.in_ok-own_links.ensures) (alone_links c.args.count), omega arith)

pub returns-clause-alone : goal.returns-clause-alone
returns-clause-alone c = ap leasts c.in_ok-own_links.ensures ∙ alone c.args.count

pub returns-clause-sets : goal.returns-clause-sets
returns-clause-sets c = subst (λ xs. AreSets (leasts xs)) (sym c.in_ok-own_links.ensures) (are_sets (range_with_len 0 c.args.count) (alone_links c.args.count))
