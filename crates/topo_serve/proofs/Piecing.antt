-- Answering lines one after another: what is done, and what is left.
use Rattle.std.proofs.Common.{◌≡◌, ℕ, suc, ◌+◌, ◌*◌, ◌≤◌, List, [], ◌∷◌, ◌++◌, flat_map, length, Result, Ok, Err, refl, sym, ap, ◌∙◌, append_assoc, append-nil, arith}
use Rattle.std.specs.Prelude.{IsErrAnd}
use Rattle.bit_words.specs.Digits.{digits}
use Rattle.plane_model.specs.PlaneMap.{PlaneMap}
use Rattle.plane_model.specs.Consistent.{size}
use Rattle.plane_model.specs.Answers.{answer, answer_to, line_walked, items_listed, walked, listed}
use Rattle.topo_serve.specs.Gathering.{Out, Writes}
use Rattle.topo_serve.specs.Pieces.{last_line, cut}
use Rattle.topo_serve.proofs.Ending.{last_none, last_one}
use Rattle.topo_serve.specs.Serving.{over_lines, words_to_answer, words_of_line, found_by_reads, found_in}
use Rattle.navigate.specs.Bound.{most_words, words_ahead}
use Rattle.topo_serve.proofs.Answering.{same_bytes}
use Rattle.topo_serve.proofs.Cutting.{same_line}
use Rattle.topo_serve.proofs.Writing.{writes_nothing, writes_more, writes_failed, writes_ok}

pub over_more : (f : List ℕ → ℕ) (xs ys : List (List ℕ)) → over_lines f (xs ++ ys) ≡ over_lines f xs + over_lines f ys
unfolding over_lines
over_more f [] ys = omega arith
over_more f (x ∷ xs) ys = omega (arith, over_more f xs ys)

pub answers_more : (m : PlaneMap) (xs ys : List (List ℕ)) → flat_map (answer m) (xs ++ ys) ≡ flat_map (answer m) xs ++ flat_map (answer m) ys
answers_more m [] ys = refl
answers_more m (x ∷ xs) ys = ap (λ z. answer m x ++ z) (answers_more m xs ys) ∙ sym (append_assoc (answer m x) (flat_map (answer m) xs) (flat_map (answer m) ys))

pub over_one : (f : List ℕ → ℕ) (l : List ℕ) → over_lines f (l ∷ []) ≡ f l
unfolding over_lines
over_one f l = omega arith

pub over_nothing : (f : List ℕ → ℕ) (ls : List (List ℕ)) → ls ≡ [] → over_lines f ls ≡ 0
unfolding over_lines
over_nothing f ls e = ap (over_lines f) e

pub over_single : (f : List ℕ → ℕ) (ls : List (List ℕ)) (l : List ℕ) → ls ≡ l ∷ [] → over_lines f ls ≡ f l
over_single f ls l e = ap (over_lines f) e ∙ over_one f l

pub answers_one : (m : PlaneMap) (l : List ℕ) → flat_map (answer m) (l ∷ []) ≡ answer m l
answers_one m l = append-nil (answer m l)

pub answers_single : (m : PlaneMap) (ls : List (List ℕ)) (l : List ℕ) → ls ≡ l ∷ [] → flat_map (answer m) ls ≡ answer m l
answers_single m ls l e = ap (flat_map (answer m)) e ∙ answers_one m l

-- a line of which as much is kept as is looked at is answered as it is
pub line_answered : {X E : Type 0} (r : Result X E) (m : PlaneMap) (l kept : List ℕ) (a b : Out) → kept ≡ cut l → Writes r a b (answer m kept) → Writes r a b (answer m l)
line_answered r m l kept a b e w = rw (← ap (answer_to m) (same_line kept l e)) w

pub line_found : (m : PlaneMap) (l kept : List ℕ) → kept ≡ cut l → found_by_reads m kept ≡ found_by_reads m l
line_found m l kept e = ap (found_in m) (same_line kept l e)

pub line_words : (m : PlaneMap) (l kept : List ℕ) → kept ≡ cut l → words_to_answer m kept ≡ words_to_answer m l
line_words m l kept e = ap (λ x. most_words m (line_walked m x) (items_listed m x)) (same_line kept l e)

-- what a line may read is what looking it up ahead and answering it may
pub words_in_line : (m : PlaneMap) (l : List ℕ) → words_to_answer m l + words_ahead m ≡ words_of_line m l
words_in_line m l = in_all (digits (size m)) (walked m l + listed m l)
  where
    in_all : (d n : ℕ) → 256 * d * (n + 1) + 128 * d + 128 * d ≡ 256 * d * (n + 2)
    in_all d n = omega arith

-- the same of some lines
pub words_in_lines : (m : PlaneMap) (ls : List (List ℕ)) → over_lines (words_to_answer m) ls + length ls * words_ahead m ≡ over_lines (words_of_line m) ls
unfolding over_lines
words_in_lines m [] = omega arith
words_in_lines m (l ∷ ls) = one_more (length ls) (words_ahead m) (words_to_answer m l) (words_of_line m l) (over_lines (words_to_answer m) ls) (over_lines (words_of_line m) ls) (words_in_line m l) (words_in_lines m ls)
  where
    one_more : (n a w all sum most : ℕ) → w + a ≡ all → sum + n * a ≡ most → w + sum + suc n * a ≡ all + most
    one_more n a w all sum most e h = omega (arith, e, h)

-- lines are looked up ahead, and answered
pub paid_ahead : (m looked served : PlaneMap) (ls : List (List ℕ)) (n s t u : ℕ) → length ls ≡ n → looked ≡ m → served ≡ m
    → t ≤ s + n * words_ahead looked → u ≤ t + over_lines (words_to_answer served) ls → u ≤ s + over_lines (words_of_line m) ls
paid_ahead m looked served ls n s t u many looked_same served_same ahead most =
    omega (arith, words_in_lines m ls, ap (λ k. k * words_ahead m) many, ap (λ x. n * words_ahead x) looked_same, ap (λ x. over_lines (words_to_answer x) ls) served_same, ahead, most)

-- of these lines all but those that are left are answered, each at its price at most
pub record IsAnswered (m : PlaneMap) (price : List ℕ → ℕ) (lines left : List (List ℕ)) (steps_before steps_after : ℕ) (before after : Out) : Type 0 where
  pub done : List (List ℕ)
  pub split : lines ≡ done ++ left
  pub writes : Writes {X = Unit {0}} {E = Unit {0}} (Ok tt) before after (flat_map (answer m) done)
  pub least : steps_before + over_lines (found_by_reads m) done ≤ steps_after
  pub most : steps_after ≤ steps_before + over_lines price done

pub answered_none : (m : PlaneMap) (price : List ℕ → ℕ) (lines : List (List ℕ)) (steps : ℕ) (out : Out) → IsAnswered m price lines lines steps steps out out
unfolding over_lines
answered_none m price lines steps out = record {
  done = [];
  split = refl;
  writes = writes_nothing tt out;
  least = omega arith;
  most = omega arith;
}

-- the next lines are answered
pub answered_more : {X E : Type 0} (x : X) (m : PlaneMap) (price : List ℕ → ℕ) (lines left next others : List (List ℕ)) (s t u : ℕ) (a b c : Out)
    → IsAnswered m price lines left s t a b → left ≡ next ++ others
    → Writes {X = X} {E = E} (Ok x) b c (flat_map (answer m) next) → t + over_lines (found_by_reads m) next ≤ u → u ≤ t + over_lines price next
    → IsAnswered m price lines others s u a c
answered_more x m price lines left next others s t u a b c p e w least most = record {
  done = p.done ++ next;
  split = p.split ∙ ap (λ z. p.done ++ z) e ∙ sym (append_assoc p.done next others);
  writes = rw (answers_more m p.done next) (writes_more tt (Ok tt) a b c (flat_map (answer m) p.done) (flat_map (answer m) next) p.writes (writes_ok x tt b c (flat_map (answer m) next) w));
  least = omega (arith, p.least, least, over_more (found_by_reads m) p.done next);
  most = omega (arith, p.most, most, over_more price p.done next);
}

-- the first of them are answered, from a view of the map
pub answered_first : {X E : Type 0} (x : X) (m served : PlaneMap) (lines first others : List (List ℕ)) (s t : ℕ) (a b : Out)
    → served ≡ m → lines ≡ first ++ others
    → Writes {X = X} {E = E} (Ok x) a b (flat_map (answer served) first) → s + over_lines (found_by_reads served) first ≤ t → t ≤ s + over_lines (words_of_line served) first
    → IsAnswered m (words_of_line m) lines others s t a b
answered_first {X = X} {E = E} x m served lines first others s t a b same e w least most =
    answered_more {X = X} {E = E} x m (words_of_line m) lines lines first others s s t a a b (answered_none m (words_of_line m) lines s a) e
    (same_bytes (Ok x) a b (flat_map (answer served) first) (flat_map (answer m) first) (ap (λ y. flat_map (answer y) first) same) w)
    (omega (arith, ap (λ y. over_lines (found_by_reads y) first) same, least)) (omega (arith, ap (λ y. over_lines (words_of_line y) first) same, most))

-- all that are left are answered
pub answered_last : {X E : Type 0} (x : X) (m : PlaneMap) (price : List ℕ → ℕ) (lines left : List (List ℕ)) (s t u : ℕ) (a b c : Out)
    → IsAnswered m price lines left s t a b
    → Writes {X = X} {E = E} (Ok x) b c (flat_map (answer m) left) → t + over_lines (found_by_reads m) left ≤ u → u ≤ t + over_lines price left
    → IsAnswered m price lines [] s u a c
answered_last {X = X} {E = E} x m price lines left s t u a b c p w least most =
    answered_more {X = X} {E = E} x m price lines left left [] s t u a b c p (sym (append-nil left)) w least most

-- the same of one line
pub answered_one : {X E : Type 0} (x : X) (m : PlaneMap) (price : List ℕ → ℕ) (lines left : List (List ℕ)) (l : List ℕ) (others : List (List ℕ)) (s t u : ℕ) (a b c : Out)
    → IsAnswered m price lines left s t a b → left ≡ l ∷ others
    → Writes {X = X} {E = E} (Ok x) b c (answer m l) → t + found_by_reads m l ≤ u → u ≤ t + price l
    → IsAnswered m price lines others s u a c
answered_one {X = X} {E = E} x m price lines left l others s t u a b c p e w least most =
    answered_more {X = X} {E = E} x m price lines left (l ∷ []) others s t u a b c p e (rw (answers_one m l) w) (omega (arith, least, over_one (found_by_reads m) l)) (omega (arith, most, over_one price l))

-- where writing the answers to the next lines failed
pub answered_part : {X E Y F : Type 0} (r : Result X E) (P : E → Type 0) (f : F) (m : PlaneMap) (price : List ℕ → ℕ) (lines left next others : List (List ℕ)) (s t : ℕ) (a b c : Out)
    → IsAnswered m price lines left s t a b → left ≡ next ++ others → IsErrAnd r P → Writes {X = Y} {E = F} (Err f) b c (flat_map (answer m) next)
    → Writes r a c (flat_map (answer m) lines)
answered_part r P f m price lines left next others s t a b c p e is w =
    let all : flat_map (answer m) lines ≡ flat_map (answer m) p.done ++ (flat_map (answer m) next ++ flat_map (answer m) others) =
    ap (flat_map (answer m)) (p.split ∙ ap (λ z. p.done ++ z) e) ∙ answers_more m p.done (next ++ others) ∙ ap (λ z. flat_map (answer m) p.done ++ z) (answers_more m next others) in
    rw all (writes_more tt r a b c (flat_map (answer m) p.done) (flat_map (answer m) next ++ flat_map (answer m) others) p.writes
    (writes_failed r P f b c (flat_map (answer m) next) (flat_map (answer m) others) is w))

pub paid_part : (m : PlaneMap) (price : List ℕ → ℕ) (lines left next others : List (List ℕ)) (s t u : ℕ) (a b : Out)
    → IsAnswered m price lines left s t a b → left ≡ next ++ others → u ≤ t + over_lines price next → u ≤ s + over_lines price lines
paid_part m price lines left next others s t u a b p e most =
    omega (arith, p.most, most, ap (over_lines price) (p.split ∙ ap (λ z. p.done ++ z) e), over_more price p.done (next ++ others), over_more price next others)

-- the same of one line
pub answered_one_part : {X E Y F : Type 0} (r : Result X E) (P : E → Type 0) (f : F) (m : PlaneMap) (price : List ℕ → ℕ) (lines left : List (List ℕ)) (l : List ℕ) (others : List (List ℕ)) (s t : ℕ) (a b c : Out)
    → IsAnswered m price lines left s t a b → left ≡ l ∷ others → IsErrAnd r P → Writes {X = Y} {E = F} (Err f) b c (answer m l)
    → Writes r a c (flat_map (answer m) lines)
answered_one_part {Y = Y} {F = F} r P f m price lines left l others s t a b c p e is w =
    answered_part {Y = Y} {F = F} r P f m price lines left (l ∷ []) others s t a b c p e is (rw (answers_one m l) w)

pub paid_one_part : (m : PlaneMap) (price : List ℕ → ℕ) (lines left : List (List ℕ)) (l : List ℕ) (others : List (List ℕ)) (s t u : ℕ) (a b : Out)
    → IsAnswered m price lines left s t a b → left ≡ l ∷ others → u ≤ t + price l → u ≤ s + over_lines price lines
paid_one_part m price lines left l others s t u a b p e most =
    paid_part m price lines left (l ∷ []) others s t u a b p e (omega (arith, most, over_one price l))

-- where no line is left
done_all : (m : PlaneMap) (price : List ℕ → ℕ) (lines left : List (List ℕ)) (s t : ℕ) (a b : Out) → (p : IsAnswered m price lines left s t a b) → left ≡ [] → lines ≡ p.done
done_all m price lines left s t a b p e = p.split ∙ ap (λ z. p.done ++ z) e ∙ append-nil p.done

pub answered_all : {X E : Type 0} (x : X) (m : PlaneMap) (price : List ℕ → ℕ) (lines left : List (List ℕ)) (s t : ℕ) (a b : Out)
    → IsAnswered m price lines left s t a b → left ≡ [] → Writes {X = X} {E = E} (Ok x) a b (flat_map (answer m) lines)
answered_all x m price lines left s t a b p e = rw (done_all m price lines left s t a b p e) (writes_ok tt x a b (flat_map (answer m) p.done) p.writes)

-- and what was gathered is put
pub answered_put : {X E : Type 0} (r : Result X E) (m : PlaneMap) (price : List ℕ → ℕ) (lines : List (List ℕ)) (s t : ℕ) (a b c : Out)
    → IsAnswered m price lines [] s t a b → Writes r b c [] → Writes r a c (flat_map (answer m) lines)
answered_put r m price lines s t a b c p w =
    rw (done_all m price lines [] s t a b p refl, ← append-nil (flat_map (answer m) p.done)) (writes_more tt r a b c (flat_map (answer m) p.done) [] p.writes w)

pub least_all : (m : PlaneMap) (price : List ℕ → ℕ) (lines left : List (List ℕ)) (s t : ℕ) (a b : Out) → IsAnswered m price lines left s t a b → left ≡ []
    → s + over_lines (found_by_reads m) lines ≤ t
least_all m price lines left s t a b p e = rw (done_all m price lines left s t a b p e) p.least

pub most_all : (m : PlaneMap) (price : List ℕ → ℕ) (lines left : List (List ℕ)) (s t : ℕ) (a b : Out) → IsAnswered m price lines left s t a b → left ≡ []
    → t ≤ s + over_lines price lines
most_all m price lines left s t a b p e = rw (done_all m price lines left s t a b p e) p.most

-- the last line, unless it is empty
pub answers_last : (m : PlaneMap) (l : List ℕ) → (length l ≡ 0 → ⊥) → flat_map (answer m) (last_line l) ≡ answer m l
answers_last m l some = ap (flat_map (answer m)) (last_one l some) ∙ append-nil (answer m l)

pub over_last : (f : List ℕ → ℕ) (l : List ℕ) → (length l ≡ 0 → ⊥) → over_lines f (last_line l) ≡ f l
unfolding over_lines
over_last f l some = ap (over_lines f) (last_one l some) ∙ omega arith

pub over_none : (f : List ℕ → ℕ) (l : List ℕ) → length l ≡ 0 → over_lines f (last_line l) ≡ 0
unfolding over_lines
over_none f l none = ap (over_lines f) (last_none l none)
