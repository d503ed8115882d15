use Rattle.std.specs.Prelude.{option_map}
use Rattle.std.proofs.Common.{◌≡◌, true, arith, ap, sym, ◌∙◌, subst}
use Rattle.bit_words.specs.WordView.{words_of}
use Rattle.code_laws.specs.SeqFault.{seq_fault, is_sound}
use Rattle.file_laws.specs.Layout.{counts_in}
use Rattle.file_laws.specs.declared.fault.FileFault.TheVariants as fault
use Rattle.pemb_file.proofs.CodeParts.{code-is, sound-none, code_counts}
use Rattle.file_laws.proofs.Sections.{counts_fit}
use Rattle.pemb_file.proofs.image.Image.check_code.Goals as goal

pub check-requires-clause-some : goal.check-requires-clause-some
check-requires-clause-some g c = let k = code_counts (counts_in (words_of c.args.self.now.words)) in omega (arith, k.starts, c.fields.ensures.len)

pub check-requires-clause-sizes : goal.check-requires-clause-sizes
check-requires-clause-sizes g c =
    let h = counts_in (words_of c.args.self.now.words) in
    let k = code_counts h in
    let f = counts_fit h c.args.self.now.few in
    omega (arith, k.a, k.tree, k.dual, f.tree, c.bits.ensures.len, c.bits-2.ensures.len, c.bits-3.ensures.len)

pub returns-in-Ok-clause-sound : goal.returns-in-Ok-clause-sound
returns-in-Ok-clause-sound g c =
    let e = code-is (words_of c.args.self.now.words) _ _ _ _ c.bits.ensures.bits c.bits-2.ensures.bits c.bits-3.ensures.bits c.fields.ensures.fields in
    subst (λ code. is_sound code ≡ true) e c.in-Ok.ensures.checked

pub returns-in-Ok-clause-fault : goal.returns-in-Ok-clause-fault
returns-in-Ok-clause-fault g c =
    let e = code-is (words_of c.args.self.now.words) _ _ _ _ c.bits.ensures.bits c.bits-2.ensures.bits c.bits-3.ensures.bits c.fields.ensures.fields in
    ap (option_map fault.Sequence) (sound-none _ (subst (λ code. is_sound code ≡ true) e c.in-Ok.ensures.checked))

pub returns-in-Err-clause-fault : goal.returns-in-Err-clause-fault
returns-in-Err-clause-fault g c =
    let e = code-is (words_of c.args.self.now.words) _ _ _ _ c.bits.ensures.bits c.bits-2.ensures.bits c.bits-3.ensures.bits c.fields.ensures.fields in
    ap (option_map fault.Sequence) (sym (ap seq_fault e) ∙ c.in-Err.ensures.checked)

pub returns-in-Ok-clause-cost : goal.returns-in-Ok-clause-cost
returns-in-Ok-clause-cost g c =
    let k = code_counts (counts_in (words_of c.args.self.now.words)) in omega (arith, k.a, k.starts, c.bits.ensures.len, c.fields.ensures.len, c.in-Ok.ensures.cost)

pub returns-in-Err-clause-cost : goal.returns-in-Err-clause-cost
returns-in-Err-clause-cost g c =
    let k = code_counts (counts_in (words_of c.args.self.now.words)) in omega (arith, k.a, k.starts, c.bits.ensures.len, c.fields.ensures.len, c.in-Err.ensures.cost)
