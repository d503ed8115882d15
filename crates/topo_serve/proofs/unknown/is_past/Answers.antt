use Rattle.std.proofs.Common.{◌≡◌, refl, ℕ, ◌+◌, ◌<◌, length, arith}
use Rattle.std.proofs.lemmas.Bool.Decides.{nat_tests}
use Rattle.rank_select.specs.Counts.{counts_of}
use Rattle.rank_select.specs.RankView.{counted}
use Rattle.id_names.specs.RisingNames.{count, id_at}
use Rattle.id_names.specs.Views.{names_in}
use Rattle.id_names.proofs.NameLaws.{length-ids, no_number}
use Rattle.topo_serve.proofs.unknown.is_past.Goals as goal

pub returns-then-is_gapless-clause-missing : goal.returns-then-is_gapless-clause-missing
returns-then-is_gapless-clause-missing c past =
    let v = c.args.names.now in
    let p = names_in v in
    let less : c.count.result < c.args.id = grind (arith, nat_tests, past) in
    no_number p (counts_of (counted v.ids.high)) (counts_of (counted v.inverse.marks)) v.right c.args.id
    (λ j h e. absurd (omega (arith, h, e, less, c.count.ensures.count, length-ids p, c.if-is_gapless.ensures.gapless refl j h)))
