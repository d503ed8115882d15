use Rattle.std.proofs.Common.{arith}
use Rattle.std.proofs.lemmas.Result.{err_from_is_err_and}
use Rattle.bit_words.specs.WordView.{words_of as view_words}
use Rattle.pemb_file.proofs.Opened.{at-sequence, at-directories, at-names, at-placed, at-regions, at-padding, whole_content}
use Rattle.file_laws.specs.Layout.{counts_in}
use Rattle.file_laws.proofs.Sections.{counts_fit}
use Rattle.pemb_file.proofs.opening.content.Goals as goal

pub returns-in_err-check_code-clause-fault : goal.returns-in_err-check_code-clause-fault
returns-in_err-check_code-clause-fault g c = let p = err_from_is_err_and c.from_residual.result c.from_residual.ensures.1 in rw (p.1, p.2) (at-sequence (view_words c.args.image.now.words) _ c.in_err-check_code.ensures.fault)

pub returns-in_err-check_directories-clause-fault : goal.returns-in_err-check_directories-clause-fault
returns-in_err-check_directories-clause-fault g c = let p = err_from_is_err_and c.from_residual-in_err-check_directories.result c.from_residual-in_err-check_directories.ensures.1 in rw (p.1, p.2) (at-directories (view_words c.args.image.now.words) _ c.in_ok-check_code.ensures.fault c.in_err-check_directories.ensures.fault)

pub returns-in_err-check_all_names-clause-fault : goal.returns-in_err-check_all_names-clause-fault
returns-in_err-check_all_names-clause-fault g c = let p = err_from_is_err_and c.from_residual-in_err-check_all_names.result c.from_residual-in_err-check_all_names.ensures.1 in rw (p.1, p.2) (at-names (view_words c.args.image.now.words) _ c.in_ok-check_code.ensures.fault c.in_ok-check_directories.ensures.fault c.in_err-check_all_names.ensures.fault)

pub returns-in_err-check_placed-clause-fault : goal.returns-in_err-check_placed-clause-fault
returns-in_err-check_placed-clause-fault g c = let p = err_from_is_err_and c.from_residual-in_err-check_placed.result c.from_residual-in_err-check_placed.ensures.1 in rw (p.1, p.2) (at-placed (view_words c.args.image.now.words) _ c.in_ok-check_code.ensures.fault c.in_ok-check_directories.ensures.fault c.in_ok-check_all_names.ensures.fault c.in_err-check_placed.ensures.fault)

pub returns-in_err-check_regions-clause-fault : goal.returns-in_err-check_regions-clause-fault
returns-in_err-check_regions-clause-fault g c = let p = err_from_is_err_and c.from_residual-in_err-check_regions.result c.from_residual-in_err-check_regions.ensures.1 in rw (p.1, p.2) (at-regions (view_words c.args.image.now.words) _ c.in_ok-check_code.ensures.fault c.in_ok-check_directories.ensures.fault c.in_ok-check_all_names.ensures.fault c.in_ok-check_placed.ensures.fault c.in_err-check_regions.ensures.fault)

pub returns-in_err-check_padding-clause-fault : goal.returns-in_err-check_padding-clause-fault
returns-in_err-check_padding-clause-fault g c = let p = err_from_is_err_and c.from_residual-in_err-check_padding.result c.from_residual-in_err-check_padding.ensures.1 in rw (p.1, p.2) (at-padding (view_words c.args.image.now.words) _ c.in_ok-check_code.ensures.fault c.in_ok-check_directories.ensures.fault c.in_ok-check_all_names.ensures.fault c.in_ok-check_placed.ensures.fault c.in_ok-check_regions.ensures.fault c.in_err-check_padding.ensures.fault)

pub check_placed-requires-clause-names : goal.check_placed-requires-clause-names
check_placed-requires-clause-names g c = c.in_ok-check_all_names.ensures.fault

pub returns-clause-fault : goal.returns-clause-fault
returns-clause-fault g c = at-padding (view_words c.args.image.now.words) _ c.in_ok-check_code.ensures.fault c.in_ok-check_directories.ensures.fault c.in_ok-check_all_names.ensures.fault c.in_ok-check_placed.ensures.fault c.in_ok-check_regions.ensures.fault c.in_ok-check_padding.ensures.fault

pub open_file-requires-clause-whole : goal.open_file-requires-clause-whole
open_file-requires-clause-whole g c = whole_content (view_words c.args.image.now.words) c.args.image.now.few c.in_ok-check_code.ensures.fault c.in_ok-check_directories.ensures.fault c.in_ok-check_all_names.ensures.fault c.in_ok-check_placed.ensures.fault c.in_ok-check_regions.ensures.fault c.in_ok-check_padding.ensures.fault

pub returns-in_err-check_code-clause-cost : goal.returns-in_err-check_code-clause-cost
returns-in_err-check_code-clause-cost g c = let k = counts_fit (counts_in (view_words c.args.image.now.words)) c.args.image.now.few in omega (arith, k, c.in_err-check_code.ensures.cost)

pub returns-in_err-check_directories-clause-cost : goal.returns-in_err-check_directories-clause-cost
returns-in_err-check_directories-clause-cost g c = let k = counts_fit (counts_in (view_words c.args.image.now.words)) c.args.image.now.few in omega (arith, k, c.in_ok-check_code.ensures.cost, c.in_err-check_directories.ensures.cost)

pub returns-in_err-check_all_names-clause-cost : goal.returns-in_err-check_all_names-clause-cost
returns-in_err-check_all_names-clause-cost g c = let k = counts_fit (counts_in (view_words c.args.image.now.words)) c.args.image.now.few in omega (arith, k, c.in_ok-check_code.ensures.cost, c.in_ok-check_directories.ensures.cost, c.in_err-check_all_names.ensures.cost)

pub returns-in_err-check_placed-clause-cost : goal.returns-in_err-check_placed-clause-cost
returns-in_err-check_placed-clause-cost g c = let k = counts_fit (counts_in (view_words c.args.image.now.words)) c.args.image.now.few in omega (arith, k, c.in_ok-check_code.ensures.cost, c.in_ok-check_directories.ensures.cost, c.in_ok-check_all_names.ensures.cost, c.in_err-check_placed.ensures.cost)

pub returns-in_err-check_regions-clause-cost : goal.returns-in_err-check_regions-clause-cost
returns-in_err-check_regions-clause-cost g c = let k = counts_fit (counts_in (view_words c.args.image.now.words)) c.args.image.now.few in omega (arith, k, c.in_ok-check_code.ensures.cost, c.in_ok-check_directories.ensures.cost, c.in_ok-check_all_names.ensures.cost, c.in_ok-check_placed.ensures.cost, c.in_err-check_regions.ensures.cost)

pub returns-in_err-check_padding-clause-cost : goal.returns-in_err-check_padding-clause-cost
returns-in_err-check_padding-clause-cost g c = let k = counts_fit (counts_in (view_words c.args.image.now.words)) c.args.image.now.few in omega (arith, k, c.in_ok-check_code.ensures.cost, c.in_ok-check_directories.ensures.cost, c.in_ok-check_all_names.ensures.cost, c.in_ok-check_placed.ensures.cost, c.in_ok-check_regions.ensures.cost, c.in_err-check_padding.ensures.cost)

pub returns-clause-cost : goal.returns-clause-cost
returns-clause-cost g c = let k = counts_fit (counts_in (view_words c.args.image.now.words)) c.args.image.now.few in omega (arith, k, c.in_ok-check_code.ensures.cost, c.in_ok-check_directories.ensures.cost, c.in_ok-check_all_names.ensures.cost, c.in_ok-check_placed.ensures.cost, c.in_ok-check_regions.ensures.cost, c.in_ok-check_padding.ensures.cost)
