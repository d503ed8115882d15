use Rattle.std.specs.Prelude.{option_map}
use Rattle.std.proofs.Common.{arith, ◌∙◌}
use Rattle.std.proofs.lemmas.Result.{err_from_is_err_and}
use Rattle.bit_words.specs.WordView.{words_of}
use Rattle.bit_words.specs.WrongEntry.{first_wrong}
use Rattle.bit_words.specs.declared.wrong_entry.WrongEntry.{WrongEntry}
use Rattle.rank_select.specs.Counts.{counts_of}
use Rattle.min_max_tree.specs.Tree.{nodes_of}
use Rattle.file_laws.specs.Layout.{counts_in, bits_at, fields_at, part}
use Rattle.file_laws.specs.Held.{contents_of}
use Rattle.file_laws.specs.Faults.{directories_fault}
use Rattle.file_laws.specs.declared.fault.FileFault.TheVariants as fault
use Rattle.pemb_file.proofs.KindLaws.{counted}
use Rattle.pemb_file.proofs.FrontFaults.{first-some, first-none, first-last}
use Rattle.pemb_file.proofs.Wrong.{some-finds}
use Rattle.pemb_file.proofs.image.Image.check_directories.Goals as goal

pub returns-in_err-directory-clause-fault : goal.returns-in_err-directory-clause-fault
unfolding directories_fault contents_of
returns-in_err-directory-clause-fault g c =
    let p = err_from_is_err_and c.from_residual.result c.from_residual.ensures.1 in
    rw (p.1, p.2) (first-some (option_map (λ (w : WrongEntry). fault.Directory 2 w.at w.want w.found) (first_wrong (counts_of (bits_at (words_of c.args.self.now.words) 1)) (fields_at (words_of c.args.self.now.words) 2))) _ _ (c.in_err-directory.ensures _ c.check_counts.ensures.fault))

pub returns-in_err-directory-clause-cost : goal.returns-in_err-directory-clause-cost
returns-in_err-directory-clause-cost g c = let k = counted (counts_in (words_of c.args.self.now.words)) in omega (arith, k, c.check_counts.ensures.cost)

pub returns-in_err-directory-2-clause-fault : goal.returns-in_err-directory-2-clause-fault
unfolding directories_fault contents_of
returns-in_err-directory-2-clause-fault g c =
    let p = err_from_is_err_and c.from_residual-in_err-directory-2.result c.from_residual-in_err-directory-2.ensures.1 in
    rw (p.1, p.2) (first-none (option_map (λ (w : WrongEntry). fault.Directory 2 w.at w.want w.found) (first_wrong (counts_of (bits_at (words_of c.args.self.now.words) 1)) (fields_at (words_of c.args.self.now.words) 2))) _ (c.in_ok-directory.ensures _ c.check_counts.ensures.fault) ∙ first-some (option_map (λ (w : WrongEntry). fault.Directory 4 w.at w.want w.found) (first_wrong (counts_of (bits_at (words_of c.args.self.now.words) 3)) (fields_at (words_of c.args.self.now.words) 4))) _ _ (c.in_err-directory-2.ensures _ c.check_counts-2.ensures.fault))

pub returns-in_err-directory-2-clause-cost : goal.returns-in_err-directory-2-clause-cost
returns-in_err-directory-2-clause-cost g c = let k = counted (counts_in (words_of c.args.self.now.words)) in omega (arith, k, c.check_counts.ensures.cost, c.check_counts-2.ensures.cost)

pub returns-in_err-directory-3-clause-fault : goal.returns-in_err-directory-3-clause-fault
unfolding directories_fault contents_of
returns-in_err-directory-3-clause-fault g c =
    let p = err_from_is_err_and c.from_residual-in_err-directory-3.result c.from_residual-in_err-directory-3.ensures.1 in
    rw (p.1, p.2) (first-none (option_map (λ (w : WrongEntry). fault.Directory 2 w.at w.want w.found) (first_wrong (counts_of (bits_at (words_of c.args.self.now.words) 1)) (fields_at (words_of c.args.self.now.words) 2))) _ (c.in_ok-directory.ensures _ c.check_counts.ensures.fault) ∙ first-none (option_map (λ (w : WrongEntry). fault.Directory 4 w.at w.want w.found) (first_wrong (counts_of (bits_at (words_of c.args.self.now.words) 3)) (fields_at (words_of c.args.self.now.words) 4))) _ (c.in_ok-directory-2.ensures _ c.check_counts-2.ensures.fault) ∙ first-some (option_map (λ (w : WrongEntry). fault.Directory 5 w.at w.want w.found) (first_wrong (nodes_of (bits_at (words_of c.args.self.now.words) 3)) (part (words_of c.args.self.now.words) 5))) _ _ (c.in_err-directory-3.ensures _ c.check_tree.ensures.fault))

pub returns-in_err-directory-3-clause-cost : goal.returns-in_err-directory-3-clause-cost
returns-in_err-directory-3-clause-cost g c = let k = counted (counts_in (words_of c.args.self.now.words)) in omega (arith, k, c.check_counts.ensures.cost, c.check_counts-2.ensures.cost, c.check_tree.ensures.cost)

pub returns-in_err-directory-4-clause-fault : goal.returns-in_err-directory-4-clause-fault
unfolding directories_fault contents_of
returns-in_err-directory-4-clause-fault g c =
    let p = err_from_is_err_and c.from_residual-in_err-directory-4.result c.from_residual-in_err-directory-4.ensures.1 in
    rw (p.1, p.2) (first-none (option_map (λ (w : WrongEntry). fault.Directory 2 w.at w.want w.found) (first_wrong (counts_of (bits_at (words_of c.args.self.now.words) 1)) (fields_at (words_of c.args.self.now.words) 2))) _ (c.in_ok-directory.ensures _ c.check_counts.ensures.fault) ∙ first-none (option_map (λ (w : WrongEntry). fault.Directory 4 w.at w.want w.found) (first_wrong (counts_of (bits_at (words_of c.args.self.now.words) 3)) (fields_at (words_of c.args.self.now.words) 4))) _ (c.in_ok-directory-2.ensures _ c.check_counts-2.ensures.fault) ∙ first-none (option_map (λ (w : WrongEntry). fault.Directory 5 w.at w.want w.found) (first_wrong (nodes_of (bits_at (words_of c.args.self.now.words) 3)) (part (words_of c.args.self.now.words) 5))) _ (c.in_ok-directory-3.ensures _ c.check_tree.ensures.fault) ∙ first-some (option_map (λ (w : WrongEntry). fault.Directory 7 w.at w.want w.found) (first_wrong (counts_of (bits_at (words_of c.args.self.now.words) 6)) (fields_at (words_of c.args.self.now.words) 7))) _ _ (c.in_err-directory-4.ensures _ c.check_counts-3.ensures.fault))

pub returns-in_err-directory-4-clause-cost : goal.returns-in_err-directory-4-clause-cost
returns-in_err-directory-4-clause-cost g c = let k = counted (counts_in (words_of c.args.self.now.words)) in omega (arith, k, c.check_counts.ensures.cost, c.check_counts-2.ensures.cost, c.check_tree.ensures.cost, c.check_counts-3.ensures.cost)

pub returns-clause-fault : goal.returns-clause-fault
unfolding directories_fault contents_of
returns-clause-fault g c = some-finds (option_map (λ (w : WrongEntry). fault.Directory 8 w.at w.want w.found) (first_wrong (nodes_of (bits_at (words_of c.args.self.now.words) 6)) (part (words_of c.args.self.now.words) 8))) _ c.directory-5.result (first-none (option_map (λ (w : WrongEntry). fault.Directory 2 w.at w.want w.found) (first_wrong (counts_of (bits_at (words_of c.args.self.now.words) 1)) (fields_at (words_of c.args.self.now.words) 2))) _ (c.in_ok-directory.ensures _ c.check_counts.ensures.fault) ∙ first-none (option_map (λ (w : WrongEntry). fault.Directory 4 w.at w.want w.found) (first_wrong (counts_of (bits_at (words_of c.args.self.now.words) 3)) (fields_at (words_of c.args.self.now.words) 4))) _ (c.in_ok-directory-2.ensures _ c.check_counts-2.ensures.fault) ∙ first-none (option_map (λ (w : WrongEntry). fault.Directory 5 w.at w.want w.found) (first_wrong (nodes_of (bits_at (words_of c.args.self.now.words) 3)) (part (words_of c.args.self.now.words) 5))) _ (c.in_ok-directory-3.ensures _ c.check_tree.ensures.fault) ∙ first-none (option_map (λ (w : WrongEntry). fault.Directory 7 w.at w.want w.found) (first_wrong (counts_of (bits_at (words_of c.args.self.now.words) 6)) (fields_at (words_of c.args.self.now.words) 7))) _ (c.in_ok-directory-4.ensures _ c.check_counts-3.ensures.fault) ∙ first-last (option_map (λ (w : WrongEntry). fault.Directory 8 w.at w.want w.found) (first_wrong (nodes_of (bits_at (words_of c.args.self.now.words) 6)) (part (words_of c.args.self.now.words) 8)))) (c.directory-5.ensures _ c.check_tree-2.ensures.fault)

pub returns-clause-cost : goal.returns-clause-cost
returns-clause-cost g c = let k = counted (counts_in (words_of c.args.self.now.words)) in omega (arith, k, c.check_counts.ensures.cost, c.check_counts-2.ensures.cost, c.check_tree.ensures.cost, c.check_counts-3.ensures.cost, c.check_tree-2.ensures.cost)
