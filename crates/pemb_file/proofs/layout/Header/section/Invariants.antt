use Rattle.std.proofs.Common.{◌≡◌, drop}
use Rattle.pemb_file.specs.Section.{all_seen}
use Rattle.pemb_file.proofs.SectionWalk.{found}
use Rattle.pemb_file.proofs.layout.Header.section.Given as goal

abbrev pub invariant-loop-section : goal.invariant-loop-section
invariant-loop-section l = record { rest : found l.number (all_seen (drop l.section-index l.section-items)) ≡ found l.number (all_seen l.section-items) }
