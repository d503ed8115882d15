use Rattle.std.proofs.Common.{map, ap, ◌∙◌}
use Rattle.std.specs.Prelude.{is_some}
use Rattle.id_index.proofs.Indexes.{index-has}
use Rattle.region_tree.proofs.faces.FaceIndex.has.Goals as goal

pub returns : goal.returns
returns c = c.is_some.ensures ∙ ap is_some c.row_of.ensures ∙ index-has (map (λ f. f.id) c.args.self.now.faces.now) c.args.self.now.rows c.args.id c.args.self.now.index
