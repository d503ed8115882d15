use Rattle.std.proofs.Common.{◌+◌, map, set, ap, ◌∙◌, Some}
use Rattle.std.proofs.lemmas.List.{map-set}
use Rattle.euler_check.specs.Marks.{number_in}
use Rattle.euler_check.proofs.Entries.{some_in}
use Rattle.euler_check.proofs.marks.DartNumbers.set.Goals as goal

pub returns : goal.returns
returns c =
    let entries = c.self.inside.entries.items in
    map-set number_in entries c.args.dart (c.args.number + 1) ∙ ap (set (map number_in entries) c.args.dart) (some_in c.args.number) ∙ ap (λ xs. set xs c.args.dart (Some c.args.number)) c.self.view_is
