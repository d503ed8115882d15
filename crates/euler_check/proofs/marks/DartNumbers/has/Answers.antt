use Rattle.std.proofs.Common.{◌<◌, ◌==◌, not, length, ap, sym, subst, ◌∙◌, is_some}
use Rattle.std.proofs.lemmas.List.{get_or_read, length-map}
use Rattle.euler_check.specs.Marks.{number_at, number_in}
use Rattle.euler_check.proofs.Entries.{has_in}
use Rattle.euler_check.proofs.marks.DartNumbers.has.Goals as goal

pub returns : goal.returns
returns c =
    let entries = c.self.inside.entries.items in
    let within : c.args.dart < length entries = subst (λ n. c.args.dart < n) (ap length (sym c.self.view_is) ∙ length-map entries number_in) c.requires in
    ap (λ e. not (e == 0)) (get_or_read entries c.args.dart c.index.result.now within c.index.ensures 0)
    ∙ has_in entries c.args.dart ∙ ap (λ xs. is_some (number_at xs c.args.dart)) c.self.view_is
