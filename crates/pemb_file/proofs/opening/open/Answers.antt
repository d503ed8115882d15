use Rattle.std.proofs.Common.{◌*◌, ◌+◌, ◌≡◌, ◌∙◌, arith, ap, length}
use Rattle.std.proofs.lemmas.Result.{err_from_is_err_and}
use Rattle.bit_words.specs.WordView.{words_of as view_words}
use Rattle.bit_words.specs.Digits.{digits}
use Rattle.file_laws.specs.Layout.{counts_in, words_of}
use Rattle.file_laws.specs.Lawful.{file_size}
use Rattle.pemb_file.specs.OpenFile.{contents_of_file}
use Rattle.pemb_file.proofs.Cost.{head_cost, whole_cost}
use Rattle.pemb_file.proofs.Opened.{none-some, begun-some, begun-none, ordered_many}
use Rattle.pemb_file.proofs.opening.open.Goals as goal

pub returns-in_err-image-clause-fault : goal.returns-in_err-image-clause-fault
returns-in_err-image-clause-fault g c =
    let p = err_from_is_err_and c.from_residual.result c.from_residual.ensures.1 in
    rw (p.1, p.2) (begun-some c.args.bytes.now _ c.in_err-image.ensures.fault)

pub returns-in_err-file-clause-fault : goal.returns-in_err-file-clause-fault
returns-in_err-file-clause-fault g c =
    let p = err_from_is_err_and c.from_residual-in_err-file.result c.from_residual-in_err-file.ensures.1 in
    let i = c.in_ok-image.ensures in
    rw (p.1, p.2) (begun-none c.args.bytes.now _ _ i.words i.fault c.in_err-file.ensures.fault)

pub returns-clause-fault : goal.returns-clause-fault
returns-clause-fault g c =
    let i = c.in_ok-image.ensures in
    begun-none c.args.bytes.now _ _ i.words i.fault c.in_ok-file.ensures.fault

pub returns-in_err-image-clause-few_words : goal.returns-in_err-image-clause-few_words
returns-in_err-image-clause-few_words g c h = omega (arith, c.in_err-image.ensures.cost)

pub returns-in_err-file-clause-few_words : goal.returns-in_err-file-clause-few_words
returns-in_err-file-clause-few_words g c h = absurd (none-some _ c.in_ok-image.ensures.fault h)

pub returns-clause-few_words : goal.returns-clause-few_words
returns-clause-few_words g c h = absurd (none-some _ c.in_ok-image.ensures.fault h)

pub returns-in_err-image-clause-cost : goal.returns-in_err-image-clause-cost
returns-in_err-image-clause-cost g c = let h = head_cost (counts_in (words_of c.args.bytes.now)) in omega (arith, h, c.in_err-image.ensures.cost)

pub returns-in_err-file-clause-cost : goal.returns-in_err-file-clause-cost
returns-in_err-file-clause-cost g c =
    let i = c.in_ok-image.image in
    let w = whole_cost (counts_in (view_words i.words)) i.few in
    let e = ap (λ ws. 1024 * digits (file_size (counts_in ws)) * (file_size (counts_in ws) + 2)) c.in_ok-image.ensures.words in
    omega (arith, w, e, c.in_ok-image.ensures.cost, c.in_err-file.ensures.cost)

pub returns-clause-cost : goal.returns-clause-cost
returns-clause-cost g c =
    let i = c.in_ok-image.image in
    let w = whole_cost (counts_in (view_words i.words)) i.few in
    let e = ap (λ ws. 1024 * digits (file_size (counts_in ws)) * (file_size (counts_in ws) + 2)) c.in_ok-image.ensures.words in
    let many = ordered_many (view_words i.words) in
    let order : length (contents_of_file c.in_ok-file.file).place_order ≡ (counts_in (view_words i.words)).components = ap (λ k. length k.place_order) c.in_ok-file.ensures.contents ∙ many.0 in
    let isolated : length (contents_of_file c.in_ok-file.file).isolated ≡ (counts_in (view_words i.words)).isolated = ap (λ k. length k.isolated) c.in_ok-file.ensures.contents ∙ many.1 in
    omega (arith, w, e, order, isolated, c.in_ok-image.ensures.cost, c.in_ok-file.ensures.cost, c.mark_places.ensures.cost, c.note_gaps.ensures.cost)
