use Rattle.std.proofs.Common.{arith, ap, ◌∙◌, ◌+◌, ℕ, List, length}
use Rattle.std.specs.Prelude.{slice_index}
use Rattle.bit_words.specs.Digits.{digits}
use Rattle.turan_code.specs.TuranView.{code_of_view}
use Rattle.code_laws.specs.Code.{Code, mate}
use Rattle.code_laws.specs.Numbers.{node_of}
use Rattle.code_laws.proofs.Mates.{mate_laws}
use Rattle.pemb_file.specs.Served.{contents_of_view}
use Rattle.file_laws.specs.MapOfFile.{node_at}
use Rattle.file_laws.proofs.Fits.{node_in}
use Rattle.navigate.proofs.Facts.{w, digits_view, digits_nodes, sound_code}
use Rattle.navigate.proofs.names.node_reached.Goals as goal

pub id_of-requires : goal.id_of-requires
id_of-requires g c =
    let m = contents_of_view c.args.served in
    let laws = mate_laws m.code (sound_code m c.args.served.whole) c.args.p c.requires in
    let l = node_in m (w m c.args.served.whole) (mate m.code c.args.p) laws.within in
    let is = c.node_reached-number.ensures.node ∙ ap (λ (k : Code). node_of k (mate k c.args.p)) c.code.ensures.code in
    let many = ap (λ (xs : List ℕ). length xs) c.nodes.ensures in
    omega (arith, l, is, many)

pub returns-clause-node : goal.returns-clause-node
unfolding node_at
returns-clause-node g c =
    let m = contents_of_view c.args.served in
    let is = c.node_reached-number.ensures.node ∙ ap (λ (k : Code). node_of k (mate k c.args.p)) c.code.ensures.code in
    c.id_of.ensures.id ∙ ap (λ (xs : List ℕ). slice_index xs c.node_reached-number.result) c.nodes.ensures ∙ ap (slice_index m.nodes) is

pub returns-clause-cost : goal.returns-clause-cost
returns-clause-cost g c =
    let d = digits_view (contents_of_view c.args.served) c.args.served.whole (code_of_view c.code.result.now) c.code.ensures.code in
    let k = digits_nodes (contents_of_view c.args.served) c.args.served.whole in
    let same = ap (λ (xs : List ℕ). digits (length xs + 2)) c.nodes.ensures in
    omega (arith, d, k, same, c.node_reached-number.ensures.cost, c.id_of.ensures.cost)
