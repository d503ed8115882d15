-- The first face in a region that there isn't.
use Rattle.std.specs.Prelude.{not, nat_le, slice_index}
use Rattle.std.proofs.Common.{◌≡◌, ℕ, ◌<◌, ◌≤◌, true, false, List, length, ap, arith, Some, None}
use Rattle.std.proofs.lemmas.Bool.Decides.{nat_tests}
use Rattle.bit_words.proofs.Finds.{find-least, find-none}
use Rattle.file_laws.specs.Layout.{counts_in, fields_at}
use Rattle.file_laws.specs.Contents.{Contents}
use Rattle.file_laws.specs.Held.{contents_of}
use Rattle.file_laws.specs.Faults.{member_fault}
use Rattle.file_laws.proofs.Sections.{sections_have}

not-above : (x y : ℕ) → x ≤ y → not (nat_le x y) ≡ false
not-above x y h = grind (arith, nat_tests)

is-above : (x y : ℕ) → y < x → not (nat_le x y) ≡ true
is-above x y h = grind (arith, nat_tests)

abbrev pub FineBelow : List ℕ → ℕ → ℕ → Type 0
FineBelow members most n = (k : ℕ) → k < n → slice_index members k ≤ most

member-at : (c : Contents) (at : ℕ) → at < length c.members → FineBelow c.members (length c.regions) at → length c.regions < slice_index c.members at → member_fault c ≡ Some at
unfolding member_fault
member-at c at l fine other =
    find-least (λ x. not (nat_le (slice_index c.members x) (length c.regions))) 0 (length c.members) at
    (record { from = omega arith; within = omega arith; passes = is-above _ _ other; before = λ q a b. not-above _ _ (fine q b) })

members-fine : (c : Contents) → FineBelow c.members (length c.regions) (length c.members) → member_fault c ≡ None
unfolding member_fault
members-fine c fine = find-none (λ x. not (nat_le (slice_index c.members x) (length c.regions))) 0 (length c.members) (λ q a b. not-above _ _ (fine q (omega arith)))

pub wrong-member : (words members : List ℕ) (regions at : ℕ) → members ≡ fields_at words 25 → regions ≡ (counts_in words).regions → at < length members → FineBelow members regions at → regions < slice_index members at
    → member_fault (contents_of words) ≡ Some at
unfolding contents_of
wrong-member words members regions at e f l fine other =
    let n = (sections_have words).regions in
    let ms = ap (λ (xs : List ℕ). length xs) e in
    member-at (contents_of words) at (omega (arith, ms, l)) (λ k q. let here = fine k q in let same = ap (λ xs. slice_index xs k) e in omega (arith, here, same, n, f))
    (let same = ap (λ xs. slice_index xs at) e in omega (arith, same, n, f, other))

pub right-members : (words members : List ℕ) (regions : ℕ) → members ≡ fields_at words 25 → regions ≡ (counts_in words).regions → FineBelow members regions (length members) → member_fault (contents_of words) ≡ None
unfolding contents_of
right-members words members regions e f fine =
    let n = (sections_have words).regions in
    let ms = ap (λ (xs : List ℕ). length xs) e in
    members-fine (contents_of words) (λ k q. let here = fine k (omega (arith, ms, q)) in let same = ap (λ xs. slice_index xs k) e in omega (arith, here, same, n, f))
