use Rattle.std.proofs.Common.{◌≡◌, ◌≤◌, ◌+◌, ◌*◌, length, vec_len, arith}
use Rattle.pemb_file.specs.Served.{contents_of_view}
use Rattle.navigate.proofs.Facts.{few_faces}
use Rattle.topo_cli.proofs.CountsLine.{if_ok_more}
use Rattle.topo_cli.proofs.hopping.words_for_hops.Goals as goal

pub returns-clause-few : goal.returns-clause-few
returns-clause-few c =
    let few = few_faces (contents_of_view c.args.served.now) c.args.served.now.whole in
    let faces = c.counts.ensures.faces in
    if_ok_more c.vec.result (λ words. vec_len words ≡ 2 * (c.counts.result.faces + 1)) (λ words. length words.items ≤ 2147483647) c.vec.ensures.len
    (λ words is. let long = words.ok.0 in omega (arith, long, is, few, faces))
