use Rattle.std.proofs.Common.{◌≡◌, ◌+◌, ◌^◌, ◌≤◌, Bool, List, length, ap, sym, ◌∙◌, subst, arith}
use Rattle.bit_words.specs.BitView.{bits_of}
use Rattle.bit_words.specs.Digits.{digits}
use Rattle.bit_words.specs.PackedView.{fields_of, width_of}
use Rattle.rank_select.specs.RankView.{counted}
use Rattle.id_names.specs.RisingNames.{RisingNames}
use Rattle.id_names.specs.Parts.{names_of}
use Rattle.id_names.proofs.CheckCosts.{bits_few}
use Rattle.id_names.proofs.FaultOrder.{counts_right, ones_right, ones_over, right_over}
use Rattle.id_names.proofs.NameLaws.{no_fault_parts}
use Rattle.id_names.proofs.view.NamesView.new.Goals as goal

pub new-requires-clause-few : goal.new-requires-clause-few
new-requires-clause-few c = bits_few (length (fields_of c.args.parts.places)) (length (bits_of c.args.parts.high)) c.requires.sizes.high c.requires.sizes.few

pub new-requires-clause-right : goal.new-requires-clause-right
new-requires-clause-right c =
    let p = c.args.parts in
    counts_right (bits_of p.high) (fields_of p.high_counts) c.requires.sizes.high_counts (no_fault_parts (names_of p) (fields_of p.high_counts) (fields_of p.mark_counts) c.requires.right).high_counts_right

pub new-requires-2-clause-right : goal.new-requires-2-clause-right
new-requires-2-clause-right c =
    let p = c.args.parts in
    counts_right (bits_of p.marks) (fields_of p.mark_counts) c.requires.sizes.mark_counts (no_fault_parts (names_of p) (fields_of p.high_counts) (fields_of p.mark_counts) c.requires.right).mark_counts_right

pub invariant_of-result : goal.invariant_of-result
invariant_of-result c =
    let p = c.args.parts in
    let parts = no_fault_parts (names_of p) (fields_of p.high_counts) (fields_of p.mark_counts) c.requires.right in
    let lows = sym c.requires.sizes.lows in
    record {
      few = omega (arith, c.requires.sizes.few, lows);
      narrow = subst (λ n. digits n + width_of p.lows ≤ 63) lows c.requires.sizes.narrow;
      size = subst (λ n. length (counted c.new.result) ≡ n + 2 ^ digits n) lows (ap (λ bits. length bits) c.new.ensures ∙ c.requires.sizes.high);
      ones = ones_over (bits_of p.high) (counted c.new.result) (length (fields_of p.lows)) c.new.ensures (ones_right (bits_of p.high) (length (fields_of p.places)) parts.ones ∙ lows);
    }

pub invariant_of-result-2 : goal.invariant_of-result-2
invariant_of-result-2 c =
    let p = c.args.parts in
    let parts = no_fault_parts (names_of p) (fields_of p.high_counts) (fields_of p.mark_counts) c.requires.right in
    record {
      few = c.requires.sizes.few;
      size = ap (λ bits. length bits) c.new-2.ensures ∙ c.requires.sizes.marks;
      ones = ones_over (bits_of p.marks) (counted c.new-2.result) (length (fields_of p.back)) c.new-2.ensures (ones_right (bits_of p.marks) (length (fields_of p.back)) parts.mark_ones);
    }

pub invariant_of-result-3 : goal.invariant_of-result-3
invariant_of-result-3 c =
    let p = c.args.parts in
    let parts = no_fault_parts (names_of p) (fields_of p.high_counts) (fields_of p.mark_counts) c.requires.right in
    let names : List Bool → List Bool → RisingNames = λ high marks. record { high = high; lows = fields_of p.lows; low = width_of p.lows; places = fields_of p.places; marks = marks; back = fields_of p.back } in
    record {
      count = c.requires.sizes.lows;
      right =
          right_over names (bits_of p.high) (counted c.new.result) (bits_of p.marks) (counted c.new-2.result) (fields_of p.high_counts) (fields_of p.mark_counts) c.new.ensures c.new-2.ensures
          (counts_right (bits_of p.high) (fields_of p.high_counts) c.requires.sizes.high_counts parts.high_counts_right)
          (counts_right (bits_of p.marks) (fields_of p.mark_counts) c.requires.sizes.mark_counts parts.mark_counts_right)
          c.requires.right;
      gapless = λ e. cc;
      looked_up = c.none_known.ensures _;
    }

pub returns : goal.returns
returns c =
    let p = c.args.parts in
    let names : List Bool → List Bool → RisingNames = λ high marks. record { high = high; lows = fields_of p.lows; low = width_of p.lows; places = fields_of p.places; marks = marks; back = fields_of p.back } in
    ap (λ high. names high (counted c.new-2.result)) c.new.ensures ∙ ap (names (bits_of p.high)) c.new-2.ensures
