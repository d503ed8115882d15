-- Without fault, counts and trees are right, and the code's parentheses are balanced.
use Rattle.std.specs.Prelude.{not, find, slice_index, option_map}
use Rattle.std.proofs.Common.{◌≡◌, ℕ, ◌+◌, ◌-◌, true, false, List, length, drop, length-drop, refl, ap, sym, ◌∙◌, arith, None, ◌==◌}
use Rattle.std.specs.List.{range_with_len}
use Rattle.std.proofs.lemmas.Bool.{eqb-true, not-false}
use Rattle.std.proofs.lemmas.List.{length-take-le}
use Rattle.std.proofs.lemmas.Grind.{same_number_lists}
use Rattle.bit_words.specs.WrongEntry.{wrong_entry, first_wrong}
use Rattle.bit_words.specs.declared.wrong_entry.WrongEntry.{WrongEntry}
use Rattle.bit_words.proofs.Finds.{none-find, first_none}
use Rattle.rank_select.specs.Counts.{blocks, counts_of}
use Rattle.rank_select.proofs.CountLaws.{length-counts_of}
use Rattle.min_max_tree.specs.Tree.{nodes_of, tree_size}
use Rattle.min_max_tree.proofs.Sizes.{nodes-length}
use Rattle.parens.specs.Matching.{balance_fault}
use Rattle.parens.proofs.Balances.{balanced-none}
use Rattle.code_laws.specs.SeqFault.{is_sound}
use Rattle.code_laws.proofs.Sound.{sound_parts, whole}
use Rattle.region_tree.proofs.Stacks.{balanced_all}
use Rattle.file_laws.specs.Layout.{counts_in, section, section_from, section_words, file_words, bits_at, fields_at, part}
use Rattle.file_laws.specs.Held.{contents_of}
use Rattle.pemb_file.specs.Kinds.{is_directory, is_tree}
use Rattle.pemb_file.specs.Parens.{HasParens}
use Rattle.file_laws.specs.Faults.{directories_fault, regions_fault}
use Rattle.file_laws.specs.declared.fault.FileFault.TheVariants as fault
use Rattle.file_laws.proofs.Whole.{option_none}
use Rattle.file_laws.proofs.Sections.{length-bits, length-fields}
use Rattle.file_laws.proofs.Following.{section_within}
use Rattle.pemb_file.proofs.KindLaws.{directory-count, tree-words}

none_wrong : (want found : List ℕ) → length found ≡ length want → first_wrong want found ≡ None → found ≡ want
unfolding first_wrong
none_wrong want found same h =
    let none = option_none (wrong_entry want found) (find (λ j. not (slice_index want j == slice_index found j)) (range_with_len 0 (length want))) h in
    same_number_lists found want same
    (λ k l. sym (eqb-true _ _ (not-false _ (none-find (λ j. not (slice_index want j == slice_index found j)) 0 (length want) none k (omega arith) (omega arith)))))

length-part : (words : List ℕ) (n : ℕ) → length words ≡ file_words (counts_in words) → length (part words n) ≡ section_words (section (counts_in words) n)
unfolding part
length-part words n size =
    let c = counts_in words in
    let w = section_within c n in
    let d = length-drop (section_from c n) words in
    length-take-le (section_words (section c n)) (drop (section_from c n) words) (omega (arith, w, d, size))

pub counts_right : (words : List ℕ) (n : ℕ) → is_directory n ≡ true → first_wrong (counts_of (bits_at words (n - 1))) (fields_at words n) ≡ None → fields_at words n ≡ counts_of (bits_at words (n - 1))
counts_right words n kind h =
    let c = counts_in words in
    let b = length-bits words (n - 1) in
    let e = directory-count c n kind in
    let same : length (fields_at words n) ≡ length (counts_of (bits_at words (n - 1))) =
    length-fields words n ∙ e ∙ ap (λ m. blocks m + 1) (sym b) ∙ sym (length-counts_of (bits_at words (n - 1))) in
    none_wrong (counts_of (bits_at words (n - 1))) (fields_at words n) same h

pub tree_right : (words : List ℕ) (n : ℕ) → length words ≡ file_words (counts_in words) → is_tree n ≡ true → first_wrong (nodes_of (bits_at words (n - 2))) (part words n) ≡ None → part words n ≡ nodes_of (bits_at words (n - 2))
tree_right words n size kind h =
    let c = counts_in words in
    let b = length-bits words (n - 2) in
    let same : length (part words n) ≡ length (nodes_of (bits_at words (n - 2))) =
    length-part words n size ∙ tree-words c n kind ∙ ap tree_size (sym b) ∙ sym (nodes-length (bits_at words (n - 2))) in
    none_wrong (nodes_of (bits_at words (n - 2))) (part words n) same h

-- the counts and trees of the code
pub record Rights (words : List ℕ) : Type 0 where
  pub a : fields_at words 2 ≡ counts_of (bits_at words 1)
  pub tree : fields_at words 4 ≡ counts_of (bits_at words 3)
  pub tree_nodes : part words 5 ≡ nodes_of (bits_at words 3)
  pub dual : fields_at words 7 ≡ counts_of (bits_at words 6)
  pub dual_nodes : part words 8 ≡ nodes_of (bits_at words 6)

pub rights : (words : List ℕ) → length words ≡ file_words (counts_in words) → directories_fault words (contents_of words).code ≡ None → Rights words
unfolding directories_fault contents_of
rights words size h =
    let w2 = first_wrong (counts_of (bits_at words 1)) (fields_at words 2) in
    let w4 = first_wrong (counts_of (bits_at words 3)) (fields_at words 4) in
    let w5 = first_wrong (nodes_of (bits_at words 3)) (part words 5) in
    let w7 = first_wrong (counts_of (bits_at words 6)) (fields_at words 7) in
    let w8 = first_wrong (nodes_of (bits_at words 6)) (part words 8) in
    let d2 = first_none (option_map (λ (w : WrongEntry). fault.Directory 2 w.at w.want w.found) w2) _ h in
    let d4 = first_none (option_map (λ (w : WrongEntry). fault.Directory 4 w.at w.want w.found) w4) _ d2.1 in
    let d5 = first_none (option_map (λ (w : WrongEntry). fault.Directory 5 w.at w.want w.found) w5) _ d4.1 in
    let d7 = first_none (option_map (λ (w : WrongEntry). fault.Directory 7 w.at w.want w.found) w7) _ d5.1 in
    let d8 = first_none (option_map (λ (w : WrongEntry). fault.Directory 8 w.at w.want w.found) w8) _ d7.1 in
    record {
      a = counts_right words 2 refl (option_none _ w2 d2.0);
      tree = counts_right words 4 refl (option_none _ w4 d4.0);
      tree_nodes = tree_right words 5 size refl (option_none _ w5 d5.0);
      dual = counts_right words 7 refl (option_none _ w7 d7.0);
      dual_nodes = tree_right words 8 size refl (option_none _ w8 d8.0);
    }

pub tree_parens : (words : List ℕ) → Rights words → is_sound (contents_of words).code ≡ true → HasParens words 3
unfolding contents_of
tree_parens words r sound = record { kind = refl; counts = r.tree; tree = r.tree_nodes; balanced = balanced_all (bits_at words 3) (whole (contents_of words).code (sound_parts (contents_of words).code sound) true) }

pub dual_parens : (words : List ℕ) → Rights words → is_sound (contents_of words).code ≡ true → HasParens words 6
unfolding contents_of
dual_parens words r sound = record { kind = refl; counts = r.dual; tree = r.dual_nodes; balanced = balanced_all (bits_at words 6) (whole (contents_of words).code (sound_parts (contents_of words).code sound) false) }

pub region_parens : (words : List ℕ) → length words ≡ file_words (counts_in words) → regions_fault words (contents_of words) ≡ None → HasParens words 20
unfolding regions_fault contents_of
region_parens words size h =
    let bits = bits_at words 20 in
    let w21 = first_wrong (counts_of bits) (fields_at words 21) in
    let w22 = first_wrong (nodes_of bits) (part words 22) in
    let r20 = first_none (option_map (fault.RegionPart 20) (balance_fault bits 0 (length bits))) _ h in
    let r21 = first_none (option_map (λ (w : WrongEntry). fault.RegionPart 21 w.at) w21) _ r20.1 in
    let r22 = first_none (option_map (λ (w : WrongEntry). fault.RegionPart 22 w.at) w22) _ r21.1 in
    record {
      kind = refl;
      counts = counts_right words 21 refl (option_none _ w21 r21.0);
      tree = tree_right words 22 size refl (option_none _ w22 r22.0);
      balanced = balanced-none bits 0 (length bits) (option_none _ (balance_fault bits 0 (length bits)) r20.0);
    }
