-- What checks find, as the faults that they are.
use Rattle.std.specs.Prelude.{Result, Ok, Err, MatchResult, option_map}
use Rattle.std.proofs.Common.{◌≡◌, ℕ, Bool, List, length, ap, sym, ◌∙◌, subst, Option, Some, None, IsTrue}
use Rattle.bit_words.specs.WrongEntry.{IsFirstWrong, first_wrong}
use Rattle.bit_words.specs.declared.wrong_entry.WrongEntry.{WrongEntry}
use Rattle.bit_words.proofs.FirstWrong.{first_wrong-is, first_wrong-none}
use Rattle.parens.specs.Matching.{is_balanced, balance_fault}
use Rattle.file_laws.proofs.Lengths.{none-is_none}
use Rattle.pemb_file.specs.Checked.{Finds}

wrong-found : {S : Type 0} (r : Result S WrongEntry) (want found : List ℕ) → MatchResult r (λ _. found ≡ want) (IsFirstWrong want found) → Finds (first_wrong want found) r
wrong-found (Ok s) want found h = first_wrong-none want found h
wrong-found (Err w) want found h = first_wrong-is want found w h

pub wrong-at : {S : Type 0} (r : Result S WrongEntry) (f : List Bool → List ℕ) (bits bits' : List Bool) (found found' : List ℕ) → bits ≡ bits' → found ≡ found'
    → MatchResult r (λ _. found ≡ f bits) (IsFirstWrong (f bits) found) → Finds (first_wrong (f bits') found') r
wrong-at r f bits bits' found found' a b h =
    let one = wrong-found r (f bits) found h in
    let two = subst (λ xs. Finds (first_wrong (f xs) found) r) a one in
    subst (λ ys. Finds (first_wrong (f bits') ys) r) b two

pub right-at : {S : Type 0} (r : Result S WrongEntry) (f : List Bool → List ℕ) (bits bits' : List Bool) (found found' : List ℕ) → bits ≡ bits' → found ≡ found'
    → MatchResult r (λ _. found ≡ f bits) (IsFirstWrong (f bits) found) → MatchResult r (λ _. found' ≡ f bits') (λ _. Unit {0})
right-at (Ok s) f bits bits' found found' a b h = sym b ∙ h ∙ ap f a
right-at (Err w) f bits bits' found found' a b h = tt

pub ok-map : {S F G : Type 0} (f : F → G) (o : Option F) (r : Result S F) (s : S) → r ≡ Ok s → Finds o r → option_map f o ≡ None
ok-map f o r s is h = ap (option_map f) (subst (Finds o) is h)

pub err-map : {S F G : Type 0} (f : F → G) (o : Option F) (r : Result S F) (e : F) → r ≡ Err e → Finds o r → option_map f o ≡ Some (f e)
err-map f o r e is h = ap (option_map f) (subst (Finds o) is h)

-- a last check, whose answer is handed on
pub some-finds : {S F : Type 0} (o : Option F) (p : Option F) (r : Result S F) → p ≡ o → Finds o r → Finds p r
some-finds o p r e h = subst (λ q. Finds q r) (sym e) h

balance-here : {S : Type 0} (r : Result S ℕ) (bits : List Bool) → MatchResult r (λ _. IsTrue (is_balanced bits 0 (length bits))) (λ place. balance_fault bits 0 (length bits) ≡ Some place) → Finds (balance_fault bits 0 (length bits)) r
balance-here (Ok s) bits h = none-is_none (balance_fault bits 0 (length bits)) h
balance-here (Err e) bits h = h

pub balance-found : {S : Type 0} (r : Result S ℕ) (bits bits' : List Bool) (to : ℕ) → bits ≡ bits' → to ≡ length bits
    → MatchResult r (λ _. IsTrue (is_balanced bits 0 to)) (λ place. balance_fault bits 0 to ≡ Some place) → Finds (balance_fault bits' 0 (length bits')) r
balance-found r bits bits' to e f h =
    let at = subst (λ n. MatchResult r (λ _. IsTrue (is_balanced bits 0 n)) (λ place. balance_fault bits 0 n ≡ Some place)) f h in
    subst (λ xs. Finds (balance_fault xs 0 (length xs)) r) e (balance-here r bits at)

-- a check of a fault that is another's
pub fault-found : {S F : Type 0} (r : Result S F) (p o : Option F) → p ≡ o → MatchResult r (λ _. p ≡ None) (λ f. p ≡ Some f) → Finds o r
fault-found (Ok s) p o e h = sym e ∙ h
fault-found (Err f) p o e h = sym e ∙ h
