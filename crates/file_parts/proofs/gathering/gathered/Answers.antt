use Rattle.std.proofs.Common.{◌∙◌, ap, sym, subst, length, arith, IsTrue}
use Rattle.code_laws.specs.Code.{Code}
use Rattle.file_laws.specs.Contents.{Contents}
use Rattle.file_laws.specs.Lawful.{is_whole}
use Rattle.region_tree.specs.RegionView.{Regions}
use Rattle.turan_code.specs.TuranView.{code_of_view}
use Rattle.pemb_file.specs.Served.{contents_of_view}
use Rattle.pemb_file.proofs.MadeCounts.{many}
use Rattle.pemb_file.proofs.MadeImage.{same_contents}
use Rattle.file_parts.specs.Walk.{firsts}
use Rattle.file_parts.proofs.WalkBack.{firsts_many, walk_gathered}
use Rattle.file_parts.proofs.gathering.gathered.Goals as goal

pub starts-requires : goal.starts-requires
starts-requires g c =
    let m = many (contents_of_view c.args.served) c.args.served.whole in
    let each = m.starts in
    let same = ap (λ (k : Code). length k.starts) c.code-code.ensures.code in
    omega (arith, each, same, c.counts-counts.ensures.components)

pub returns-clause-contents : goal.returns-clause-contents
returns-clause-contents g c =
    same_contents _ _ _ _ _ _ _ _ _ _ _ _ _ _ _ _ _ _ _ _ _ _
    (walk_gathered (code_of_view c.code-code.result.now) c.code-code.result.now.sound c.in_ok-tree.tree.items c.in_ok-first.first.items c.in_ok-starts.starts.items c.in_ok-tree.ensures.tree c.in_ok-first.ensures.first c.in_ok-starts.ensures.starts
    ∙ c.code-code.ensures.code)
    c.in_ok-forward.ensures.forward
    (c.in_ok-nodes.ensures.ids ∙ c.nodes-names.ensures) (c.in_ok-edges.ensures.ids ∙ c.edges-names.ensures)
    (c.in_ok-faces.ensures.ids ∙ c.faces-names.ensures) (c.in_ok-regions.ensures.ids ∙ ap (λ (r : Regions). r.ids) c.regions-region_tree.ensures)
    c.in_ok-places.ensures.places c.in_ok-place_order.ensures.order c.in_ok-isolated.ensures.places
    (c.in_ok-region_bits.ensures.bits ∙ ap (λ (r : Regions). r.bits) c.regions-region_tree.ensures) c.in_ok-members.ensures.members

pub returns-clause-walk : goal.returns-clause-walk
returns-clause-walk g c = ap length c.in_ok-tree.ensures.tree ∙ firsts_many (code_of_view c.code-code.result.now) ∙ sym (ap length c.in_ok-first.ensures.first)

pub returns-clause-first : goal.returns-clause-first
returns-clause-first g c = c.in_ok-first.ensures.first ∙ ap firsts c.code-code.ensures.code

pub returns-clause-whole : goal.returns-clause-whole
returns-clause-whole g c = subst (λ (k : Contents). IsTrue (is_whole k)) (sym (returns-clause-contents g c)) c.args.served.whole
