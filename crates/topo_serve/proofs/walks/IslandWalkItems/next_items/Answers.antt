use Rattle.std.proofs.Common.{◌∙◌, ◌∷◌, ap, sym}
use Rattle.navigate.specs.IslandWalk.{rest}
use Rattle.topo_serve.proofs.walks.IslandWalkItems.next_items.Goals as goal

pub returns-in-Some-clause-next : goal.returns-in-Some-clause-next
returns-in-Some-clause-next g c = c.in-Some.ensures.next ∙ ap (λ x. x ∷ rest c.step.new.self) (sym c.island_item.ensures)
