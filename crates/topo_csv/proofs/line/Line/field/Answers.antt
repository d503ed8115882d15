use Rattle.std.proofs.Common.{sym, ◌∙◌}
use Rattle.topo_csv.proofs.Fields.{no_text_there, text_there}
use Rattle.topo_csv.proofs.line.Line.field.Goals as goal

pub returns-in-Some-get : goal.returns-in-Some-get
returns-in-Some-get c = let found = c.in-Some-get.ensures.lookup in text_there c.args.self.now.fields.now _ _ _ c.in-Some.ensures (sym found.0) found.1

pub returns-in-None : goal.returns-in-None
returns-in-None c = let found = c.in-None.ensures.lookup in c.new-in-None.ensures ∙ no_text_there c.args.self.now.fields.now _ _ c.in-Some.ensures (sym found.0)
