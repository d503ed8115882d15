use Rattle.std.proofs.Common.{◌<◌, ◌∙◌, ap, length, subst, sym}
use Rattle.std.proofs.lemmas.List.{with_items_is}
use Rattle.disjoint_sets.specs.Links.{leasts}
use Rattle.disjoint_sets.specs.Sets.{AreSets}
use Rattle.disjoint_sets.proofs.Leading.{are_sets, leasts_length}
use Rattle.disjoint_sets.proofs.sets.DisjointSets.join.Goals as goal

pub join_sets-requires-clause-a : goal.join_sets-requires-clause-a
join_sets-requires-clause-a c = subst (λ n. c.args.a < n) (ap length (sym c.self.view_is) ∙ leasts_length c.self.inside.links.items ∙ ap length (sym c.deref_mut.ensures.value)) c.requires.a

pub join_sets-requires-clause-b : goal.join_sets-requires-clause-b
join_sets-requires-clause-b c = subst (λ n. c.args.b < n) (ap length (sym c.self.view_is) ∙ leasts_length c.self.inside.links.items ∙ ap length (sym c.deref_mut.ensures.value)) c.requires.b

pub returns-clause-sets : goal.returns-clause-sets
returns-clause-sets c =
    subst (λ xs. AreSets (leasts xs))
    (sym (with_items_is c.self.inside.links c.join_sets.new.links (c.join_sets.auto.links ∙ ap length c.deref_mut.ensures.value ∙ sym c.self.inside.links.ok.0)))
    (are_sets c.join_sets.new.links c.join_sets.ensures.links)
