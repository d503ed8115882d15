use Rattle.std.proofs.Common.{◌≡◌, ◌≤◌, ◌+◌, ◌*◌, ◌^◌, drop}
use Rattle.file_laws.specs.Layout.{total_words}
use Rattle.pemb_file.specs.Section.{all_seen}
use Rattle.pemb_file.proofs.layout.Header.file_words.Given as goal

abbrev pub invariant-loop-section : goal.invariant-loop-section
invariant-loop-section l = record {
  rest : l.words + total_words (all_seen (drop l.section-index l.section-items)) ≡ 15 + total_words (all_seen l.section-items);
  few : l.words ≤ 15 + l.section-index * 2 ^ 70;
}
