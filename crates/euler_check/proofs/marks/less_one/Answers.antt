use Rattle.std.proofs.Common.{◌≡◌, ◌-◌, set, get_or, ap, ◌∙◌, add-one}
use Rattle.euler_check.proofs.Entries.{same_entry, one_less}
use Rattle.euler_check.proofs.marks.less_one.Goals as goal

pub loop-entry-preserved : goal.loop-entry-preserved
loop-entry-preserved c =
    let old = c.args.entries.now in
    let i = c.loop-entry.entry-index in
    let value : c.saturating_sub.result ≡ get_or old i 0 - 1 = c.saturating_sub.ensures ∙ ap (λ xs. get_or xs i 0 - 1) c.loop-entry.invariant ∙ ap (λ e. e - 1) (same_entry old i) in
    rw add-one (ap (λ xs. set xs i c.saturating_sub.result) c.loop-entry.invariant ∙ ap (set _ i) value ∙ one_less old i c.loop-entry-test.true)
