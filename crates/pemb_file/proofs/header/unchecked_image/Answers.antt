use Rattle.std.proofs.Common.{◌≡◌, Option, None, Some, ap, sym, ◌∙◌}
use Rattle.file_laws.specs.Layout.{counts_in}
use Rattle.file_laws.specs.Faults.{count_fault}
use Rattle.file_laws.specs.declared.fault.FileFault.{FileFault}
use Rattle.pemb_file.proofs.header.unchecked_image.Goals as goal

pub unreachable-requires : goal.unreachable-requires
unreachable-requires g c =
    let no : ◌≡◌ {A = Option FileFault} None (Some c.in-Err.field-0) = sym c.requires.right.front ∙ c.in-Err.ensures.fault in
    cc

pub invariant_of-result : goal.invariant_of-result
invariant_of-result g c =
    let front = c.in-Ok.front in
    record {
      counts = front.counts;
      size = front.size;
      few = ap (λ ws. count_fault (counts_in ws)) c.in-Ok.ensures.words ∙ c.requires.right.counts;
    }
