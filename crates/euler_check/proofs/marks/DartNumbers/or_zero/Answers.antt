use Rattle.std.proofs.Common.{◌-◌, map, length, ap, sym, ◌∙◌}
use Rattle.std.specs.Prelude.{unwrap_or}
use Rattle.std.proofs.lemmas.List.{with_items_is, length-map}
use Rattle.euler_check.proofs.Entries.{values_in}
use Rattle.euler_check.proofs.marks.DartNumbers.or_zero.Goals as goal

pub returns : goal.returns
returns c =
    let entries = c.self.inside.entries in
    let less = c.less_one.ensures ∙ ap (map (λ e. e - 1)) c.deref_mut.ensures.value in
    with_items_is entries c.less_one.new.entries (ap length less ∙ length-map entries.items (λ e. e - 1) ∙ sym entries.ok.0)
    ∙ less ∙ values_in entries.items ∙ ap (map (λ n. unwrap_or n 0)) c.self.view_is
