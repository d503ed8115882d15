use Rattle.std.specs.Prelude.{option_map}
use Rattle.std.proofs.Common.{ap, length, arith, ◌∙◌}
use Rattle.std.proofs.lemmas.Result.{err_from_is_err_and}
use Rattle.bit_words.specs.WordView.{words_of}
use Rattle.bit_words.specs.WrongEntry.{first_wrong}
use Rattle.bit_words.specs.declared.wrong_entry.WrongEntry.{WrongEntry}
use Rattle.rank_select.specs.Counts.{counts_of}
use Rattle.min_max_tree.specs.Tree.{nodes_of}
use Rattle.file_laws.specs.Layout.{counts_in, bits_at, fields_at, part}
use Rattle.file_laws.specs.Held.{contents_of}
use Rattle.file_laws.specs.Faults.{regions_fault, names_fault, member_fault, told_in}
use Rattle.file_laws.specs.declared.fault.FileFault.TheVariants as fault
use Rattle.pemb_file.specs.Costs.{names_cost}
use Rattle.pemb_file.proofs.KindLaws.{counted}
use Rattle.pemb_file.proofs.FrontFaults.{first-some, first-none, first-last}
use Rattle.pemb_file.proofs.Wrong.{some-finds}
use Rattle.parens.specs.Matching.{balance_fault}
use Rattle.pemb_file.proofs.Wrong.{balance-found}
use Rattle.pemb_file.proofs.image.Image.check_regions.Goals as goal

pub returns-in_err-region-clause-fault : goal.returns-in_err-region-clause-fault
unfolding regions_fault contents_of
returns-in_err-region-clause-fault g c =
    let p = err_from_is_err_and c.from_residual.result c.from_residual.ensures.1 in
    rw (p.1, p.2) (first-some (option_map (fault.RegionPart 20) (balance_fault (bits_at (words_of c.args.self.now.words) 20) 0 (length (bits_at (words_of c.args.self.now.words) 20)))) _ _ (c.in_err-region.ensures _ (balance-found c.check_balanced.result _ (bits_at (words_of c.args.self.now.words) 20) _ c.bits-bits.ensures.bits c.len.ensures c.check_balanced.ensures.fault)))

pub returns-in_err-region-clause-cost : goal.returns-in_err-region-clause-cost
returns-in_err-region-clause-cost g c = let k = counted (counts_in (words_of c.args.self.now.words)) in let a = ap names_cost k.n64 in omega (arith, k.n20, k.n25, a, c.check_balanced.ensures.cost, c.len.ensures, c.bits-bits.ensures.len)

pub returns-in_err-region_entry-clause-fault : goal.returns-in_err-region_entry-clause-fault
unfolding regions_fault contents_of
returns-in_err-region_entry-clause-fault g c =
    let p = err_from_is_err_and c.from_residual-in_err-region_entry.result c.from_residual-in_err-region_entry.ensures.1 in
    rw (p.1, p.2) (first-none (option_map (fault.RegionPart 20) (balance_fault (bits_at (words_of c.args.self.now.words) 20) 0 (length (bits_at (words_of c.args.self.now.words) 20)))) _ (c.in_ok-region.ensures _ (balance-found c.check_balanced.result _ (bits_at (words_of c.args.self.now.words) 20) _ c.bits-bits.ensures.bits c.len.ensures c.check_balanced.ensures.fault)) ∙ first-some (option_map (λ (w : WrongEntry). fault.RegionPart 21 w.at) (first_wrong (counts_of (bits_at (words_of c.args.self.now.words) 20)) (fields_at (words_of c.args.self.now.words) 21))) _ _ (c.in_err-region_entry.ensures _ c.check_counts.ensures.fault))

pub returns-in_err-region_entry-clause-cost : goal.returns-in_err-region_entry-clause-cost
returns-in_err-region_entry-clause-cost g c = let k = counted (counts_in (words_of c.args.self.now.words)) in let a = ap names_cost k.n64 in omega (arith, k.n20, k.n25, a, c.check_balanced.ensures.cost, c.len.ensures, c.bits-bits.ensures.len, c.check_counts.ensures.cost)

pub returns-in_err-region_entry-2-clause-fault : goal.returns-in_err-region_entry-2-clause-fault
unfolding regions_fault contents_of
returns-in_err-region_entry-2-clause-fault g c =
    let p = err_from_is_err_and c.from_residual-in_err-region_entry-2.result c.from_residual-in_err-region_entry-2.ensures.1 in
    rw (p.1, p.2) (first-none (option_map (fault.RegionPart 20) (balance_fault (bits_at (words_of c.args.self.now.words) 20) 0 (length (bits_at (words_of c.args.self.now.words) 20)))) _ (c.in_ok-region.ensures _ (balance-found c.check_balanced.result _ (bits_at (words_of c.args.self.now.words) 20) _ c.bits-bits.ensures.bits c.len.ensures c.check_balanced.ensures.fault)) ∙ first-none (option_map (λ (w : WrongEntry). fault.RegionPart 21 w.at) (first_wrong (counts_of (bits_at (words_of c.args.self.now.words) 20)) (fields_at (words_of c.args.self.now.words) 21))) _ (c.in_ok-region_entry.ensures _ c.check_counts.ensures.fault) ∙ first-some (option_map (λ (w : WrongEntry). fault.RegionPart 22 w.at) (first_wrong (nodes_of (bits_at (words_of c.args.self.now.words) 20)) (part (words_of c.args.self.now.words) 22))) _ _ (c.in_err-region_entry-2.ensures _ c.check_tree.ensures.fault))

pub returns-in_err-region_entry-2-clause-cost : goal.returns-in_err-region_entry-2-clause-cost
returns-in_err-region_entry-2-clause-cost g c = let k = counted (counts_in (words_of c.args.self.now.words)) in let a = ap names_cost k.n64 in omega (arith, k.n20, k.n25, a, c.check_balanced.ensures.cost, c.len.ensures, c.bits-bits.ensures.len, c.check_counts.ensures.cost, c.check_tree.ensures.cost)

pub returns-in_err-region_name-clause-fault : goal.returns-in_err-region_name-clause-fault
unfolding regions_fault contents_of
returns-in_err-region_name-clause-fault g c =
    let p = err_from_is_err_and c.from_residual-in_err-region_name.result c.from_residual-in_err-region_name.ensures.1 in
    rw (p.1, p.2) (first-none (option_map (fault.RegionPart 20) (balance_fault (bits_at (words_of c.args.self.now.words) 20) 0 (length (bits_at (words_of c.args.self.now.words) 20)))) _ (c.in_ok-region.ensures _ (balance-found c.check_balanced.result _ (bits_at (words_of c.args.self.now.words) 20) _ c.bits-bits.ensures.bits c.len.ensures c.check_balanced.ensures.fault)) ∙ first-none (option_map (λ (w : WrongEntry). fault.RegionPart 21 w.at) (first_wrong (counts_of (bits_at (words_of c.args.self.now.words) 20)) (fields_at (words_of c.args.self.now.words) 21))) _ (c.in_ok-region_entry.ensures _ c.check_counts.ensures.fault) ∙ first-none (option_map (λ (w : WrongEntry). fault.RegionPart 22 w.at) (first_wrong (nodes_of (bits_at (words_of c.args.self.now.words) 20)) (part (words_of c.args.self.now.words) 22))) _ (c.in_ok-region_entry-2.ensures _ c.check_tree.ensures.fault) ∙ first-some (option_map (told_in fault.RegionPart 60) (names_fault (words_of c.args.self.now.words) 60)) _ _ (c.in_err-region_name.ensures _ c.check_names.ensures.fault))

pub returns-in_err-region_name-clause-cost : goal.returns-in_err-region_name-clause-cost
returns-in_err-region_name-clause-cost g c = let k = counted (counts_in (words_of c.args.self.now.words)) in let a = ap names_cost k.n64 in omega (arith, k.n20, k.n25, a, c.check_balanced.ensures.cost, c.len.ensures, c.bits-bits.ensures.len, c.check_counts.ensures.cost, c.check_tree.ensures.cost, c.check_names.ensures.cost)

pub returns-clause-fault : goal.returns-clause-fault
unfolding regions_fault contents_of
returns-clause-fault g c = some-finds (option_map (fault.RegionPart 25) (member_fault (contents_of (words_of c.args.self.now.words)))) _ c.region-2.result (first-none (option_map (fault.RegionPart 20) (balance_fault (bits_at (words_of c.args.self.now.words) 20) 0 (length (bits_at (words_of c.args.self.now.words) 20)))) _ (c.in_ok-region.ensures _ (balance-found c.check_balanced.result _ (bits_at (words_of c.args.self.now.words) 20) _ c.bits-bits.ensures.bits c.len.ensures c.check_balanced.ensures.fault)) ∙ first-none (option_map (λ (w : WrongEntry). fault.RegionPart 21 w.at) (first_wrong (counts_of (bits_at (words_of c.args.self.now.words) 20)) (fields_at (words_of c.args.self.now.words) 21))) _ (c.in_ok-region_entry.ensures _ c.check_counts.ensures.fault) ∙ first-none (option_map (λ (w : WrongEntry). fault.RegionPart 22 w.at) (first_wrong (nodes_of (bits_at (words_of c.args.self.now.words) 20)) (part (words_of c.args.self.now.words) 22))) _ (c.in_ok-region_entry-2.ensures _ c.check_tree.ensures.fault) ∙ first-none (option_map (told_in fault.RegionPart 60) (names_fault (words_of c.args.self.now.words) 60)) _ (c.in_ok-region_name.ensures _ c.check_names.ensures.fault) ∙ first-last (option_map (fault.RegionPart 25) (member_fault (contents_of (words_of c.args.self.now.words))))) (c.region-2.ensures _ c.check_members.ensures.fault)

pub returns-clause-cost : goal.returns-clause-cost
returns-clause-cost g c = let k = counted (counts_in (words_of c.args.self.now.words)) in let a = ap names_cost k.n64 in omega (arith, k.n20, k.n25, a, c.check_balanced.ensures.cost, c.len.ensures, c.bits-bits.ensures.len, c.check_counts.ensures.cost, c.check_tree.ensures.cost, c.check_names.ensures.cost, c.check_members.ensures.cost)
