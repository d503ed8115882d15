-- The first wrong entry, as a function and by its properties.
use Rattle.std.specs.Prelude.{not, slice_index, option_map}
use Rattle.std.proofs.Common.{◌≡◌, ℕ, List, length, refl, ap, sym, ◌∙◌, arith, Some, None, ◌==◌}
use Rattle.std.proofs.lemmas.Bool.{eq-eqb, ne_eqb}
use Rattle.bit_words.specs.WrongEntry.{IsFirstWrong, wrong_entry, first_wrong}
use Rattle.bit_words.specs.declared.wrong_entry.WrongEntry.{WrongEntry}
use Rattle.bit_words.proofs.Finds.{find-least, find-none}

-- what a check that answers Err says is the function's answer
pub first_wrong-is : (want found : List ℕ) (w : WrongEntry) → IsFirstWrong want found w → first_wrong want found ≡ Some w
unfolding first_wrong
first_wrong-is want found w h =
    let e : wrong_entry want found w.at ≡ w = rw (sym h.wanted, sym h.was) refl in
    ap (option_map (wrong_entry want found)) (find-least (λ j. not (slice_index want j == slice_index found j)) 0 (length want) w.at (record {
      from = omega arith;
      within = omega (arith, h.within);
      passes = ap not (ne_eqb _ _ (λ x. h.differs (h.wanted ∙ x ∙ sym h.was)));
      before = λ q a b. ap not (eq-eqb _ _ (sym (h.first q b)));
    })) ∙ ap Some e

-- and so is none where all are right
pub first_wrong-none : (want found : List ℕ) → found ≡ want → first_wrong want found ≡ None
unfolding first_wrong
first_wrong-none want found e =
    ap (option_map (wrong_entry want found)) (find-none (λ j. not (slice_index want j == slice_index found j)) 0 (length want) (λ q a b. ap not (eq-eqb _ _ (ap (λ xs. slice_index xs q) (sym e)))))
