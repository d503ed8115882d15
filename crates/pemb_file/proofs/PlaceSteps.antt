-- Steps of the checks of places.
use mathlib.Core.Bool.{beq}
use Rattle.std.specs.Prelude.{pos, neg_ℤ, nat_lt, slice_index, slice_index_or, if◌then◌else◌}
use Rattle.std.proofs.Common.{◌≡◌, ℕ, ◌+◌, ◌-◌, ◌*◌, ◌<◌, ◌≤◌, Bool, true, false, ◌&&◌, ◌==◌, length, refl, ap, sym, ◌∙◌, arith, Some, None}
use Rattle.std.proofs.lemmas.Bool.{eq-eqb, le-ltb, ltb-true, and_parts}
use Rattle.std.proofs.Math.Nat.{mul-le-mul_right}
use Rattle.bit_words.specs.Bits.{same}
use Rattle.code_laws.specs.Code.{Code, is_first, start_of, component_count as components_of_code}
use Rattle.code_laws.specs.Numbers.{edge_of}
use Rattle.code_laws.specs.SeqFault.{is_sound}
use Rattle.code_laws.proofs.Sound.{sound_parts, rises, start_within}
use Rattle.topo_base.specs.SignedEdge.{comes_before}
use Rattle.file_laws.specs.Contents.{Contents, component_count}
use Rattle.file_laws.specs.MapOfFile.{signed_at}
use Rattle.file_laws.specs.Faults.{place_fault, order_fault, isolated_fault, is_place, begins_before, precedes, is_ordered, is_isolated}
use Rattle.pemb_file.proofs.Nots.{PassBelow, first-not, none-not}

same-beq : (a b : Bool) → same a b ≡ beq a b
same-beq true true = refl
same-beq true false = refl
same-beq false true = refl
same-beq false false = refl

same-as : (a b a' b' : Bool) → a ≡ a' → b ≡ b' → same a' b' ≡ beq a b
same-as a b a' b' e f = ap (λ x. same x b') (sym e) ∙ ap (same a) (sym f) ∙ same-beq a b

pub signed-as : (c : Contents) (p e id : ℕ) (a b : Bool) → e ≡ edge_of c.code p → id ≡ slice_index c.edges e → a ≡ is_first c.code p → b ≡ slice_index_or c.forward e false → beq a b ≡ true → signed_at c p ≡ pos id
unfolding signed_at
signed-as c p e id a b is_edge is_id first forward h =
    let f : slice_index_or c.forward (edge_of c.code p) false ≡ slice_index_or c.forward e false = ap (λ x. slice_index_or c.forward x false) (sym is_edge) in
    let t : same (is_first c.code p) (slice_index_or c.forward (edge_of c.code p) false) ≡ true = same-as a b _ _ first (forward ∙ sym f) ∙ h in
    let i : slice_index c.edges (edge_of c.code p) ≡ id = ap (slice_index c.edges) (sym is_edge) ∙ sym is_id in
    rw (t, i) refl

pub signed-other : (c : Contents) (p e id : ℕ) (a b : Bool) → e ≡ edge_of c.code p → id ≡ slice_index c.edges e → a ≡ is_first c.code p → b ≡ slice_index_or c.forward e false → beq a b ≡ false → signed_at c p ≡ neg_ℤ (pos id)
unfolding signed_at
signed-other c p e id a b is_edge is_id first forward h =
    let f : slice_index_or c.forward (edge_of c.code p) false ≡ slice_index_or c.forward e false = ap (λ x. slice_index_or c.forward x false) (sym is_edge) in
    let t : same (is_first c.code p) (slice_index_or c.forward (edge_of c.code p) false) ≡ false = same-as a b _ _ first (forward ∙ sym f) ∙ h in
    let i : slice_index c.edges (edge_of c.code p) ≡ id = ap (slice_index c.edges) (sym is_edge) ∙ sym is_id in
    rw (t, i) refl

pub start-below : (c : Code) → is_sound c ≡ true → (j : ℕ) → j < components_of_code c → start_of c j < length c.a
start-below c h j l =
    let p = sound_parts c h in
    let r = rises c p.laid j l in
    let w = start_within c p.laid (j + 1) (omega arith) in
    omega (arith, r, w)

pub precedes-same : (c : Contents) (i j p q : ℕ) → p ≡ slice_index c.places i → q ≡ slice_index c.places j → p ≡ q → precedes c i j ≡ comes_before (signed_at c (start_of c.code i)) (signed_at c (start_of c.code j))
precedes-same c i j p q a b e =
    let f : slice_index c.places i ≡ slice_index c.places j = sym a ∙ e ∙ b in
    let t = eq-eqb (slice_index c.places i) (slice_index c.places j) f in
    let n = le-ltb (slice_index c.places i) (slice_index c.places j) (omega (arith, f)) in
    rw (t, n) refl

pub ordered-below : (c : Contents) (j : ℕ) → is_ordered c j ≡ true → slice_index c.place_order j < length c.places
ordered-below c j h = ltb-true _ _ (and_parts (nat_lt (slice_index c.place_order j) (component_count c)) (if j == 0 then true else precedes c (slice_index c.place_order (j - 1)) (slice_index c.place_order j)) h).0

pub wrong-place : (c : Contents) (j : ℕ) → j < length c.places → PassBelow (λ k. is_place c (slice_index c.places k) && begins_before c (slice_index c.places k) (start_of c.code k)) j
    → (is_place c (slice_index c.places j) && begins_before c (slice_index c.places j) (start_of c.code j)) ≡ false → place_fault c ≡ Some j
unfolding place_fault
wrong-place c j l before here = first-not (λ k. is_place c (slice_index c.places k) && begins_before c (slice_index c.places k) (start_of c.code k)) (length c.places) j l before here

pub right-places : (c : Contents) → PassBelow (λ k. is_place c (slice_index c.places k) && begins_before c (slice_index c.places k) (start_of c.code k)) (length c.places) → place_fault c ≡ None
unfolding place_fault
right-places c all = none-not (λ k. is_place c (slice_index c.places k) && begins_before c (slice_index c.places k) (start_of c.code k)) (length c.places) all

pub wrong-order : (c : Contents) (j : ℕ) → j < length c.places → PassBelow (is_ordered c) j → is_ordered c j ≡ false → order_fault c ≡ Some j
unfolding order_fault
wrong-order c j l before here = first-not (is_ordered c) (length c.places) j l before here

pub right-order : (c : Contents) → PassBelow (is_ordered c) (length c.places) → order_fault c ≡ None
unfolding order_fault
right-order c all = none-not (is_ordered c) (length c.places) all

pub wrong-isolated : (c : Contents) (j : ℕ) → j < length c.isolated → PassBelow (is_isolated c) j → is_isolated c j ≡ false → isolated_fault c ≡ Some j
unfolding isolated_fault
wrong-isolated c j l before here = first-not (is_isolated c) (length c.isolated) j l before here

pub right-isolated : (c : Contents) → PassBelow (is_isolated c) (length c.isolated) → isolated_fault c ≡ None
unfolding isolated_fault
right-isolated c all = none-not (is_isolated c) (length c.isolated) all

pub at-most : (k n x : ℕ) → k ≤ n → k * x ≤ n * x
at-most k n x h = mul-le-mul_right x h
