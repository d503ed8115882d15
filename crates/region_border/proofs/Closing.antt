-- The marks of a walk round an outline are taken away.
use Rattle.std.specs.Prelude.{map, if◌then◌else◌}
use Rattle.std.proofs.Common.{◌≡◌, ℕ, ◌+◌, ◌*◌, ◌==◌, ◌<◌, ◌≤◌, ◌≢◌, inl, inr, Bool, true, false, length, refl, sym, ◌∙◌, subst, arith, Option}
use Rattle.std.proofs.lemmas.Bool.{cases_eq, cases_lt, ne_eqb, eq-eqb, false_from_ne_true}
use Rattle.orbits.proofs.Numbers.{same_numbers}
use Rattle.orbits.proofs.Carried.{named_in}
use Rattle.plane_model.specs.Sets.{has}
use Rattle.plane_model.proofs.SetLaws.{same_edges}
use Rattle.file_laws.specs.Contents.{Contents}
use Rattle.file_laws.specs.Lawful.{is_whole}
use Rattle.navigate.specs.Bound.{map_with}
use Rattle.scratch_region.specs.Marks.{is_marked}
use Rattle.scratch_region.specs.declared.marks.Marks.{Marks}
use Rattle.region_border.specs.Numbered.{mark_of}
use Rattle.region_border.specs.Standing.{items_left, edges_before, IsStanding}
use Rattle.region_border.specs.BorderWalk.{contents_in, region_in, rest, given, HoldsGiven}
use Rattle.region_border.specs.declared.ring.Ring.{Ring}
use Rattle.region_border.specs.declared.walk.BorderWalk.{BorderWalk}
use Rattle.region_border.proofs.MapFacts.{mark_low}
use Rattle.region_border.proofs.Marking.{known_given}

-- all marks are numbers of signed edges
marks_low : (c : Contents) (h : is_whole c ≡ true) (r seen : ℕ) (ring : Option Ring) → IsStanding (map_with c) r seen ring → (marked : ℕ → Bool)
    → ((j : ℕ) → marked j ≡ has (map (mark_of c) (edges_before (map_with c) r (items_left (map_with c) r seen ring))) j) → (j : ℕ) → marked j ≡ true → j < 2 * length c.edges
marks_low c h r seen ring s marked held j on =
    let given = edges_before (map_with c) r (items_left (map_with c) r seen ring) in
    let d = named_in same_edges same_numbers (mark_of c) given j (sym (held j) ∙ on) in
    subst (λ (x : ℕ). x < 2 * length c.edges) d.2 (mark_low c h d.0 (known_given c h r seen ring s d.0 d.1))

pub given_low : (w : BorderWalk) (marks : Marks) (end : ℕ) → end ≡ 2 * length (contents_in w).edges → HoldsGiven w marks → (j : ℕ) → is_marked marks j ≡ true → j < end
unfolding given rest
given_low w marks end e held j on =
    let low = marks_low (contents_in w) w.served.whole (region_in w) w.seen w.ring w.standing (is_marked marks) held j on in
    omega (arith, e, low)

-- one number more is cleared
pub clear_one : (old new : ℕ → Bool) (i : ℕ) → ((j : ℕ) → new j ≡ (if j == i then false else old j)) → ((j : ℕ) → j < i → old j ≡ false) → (j : ℕ) → j < i + 1 → new j ≡ false
clear_one old new i clear cleared j l = elim (cases_eq j i) [
  | inl e ↦ clear j ∙ rw (eq-eqb j i e) refl
  | inr n ↦ clear j ∙ rw (ne_eqb j i n) (cleared j (omega (arith, l, n)))
]

pub keep_rest : (before old new : ℕ → Bool) (i : ℕ) → ((j : ℕ) → new j ≡ (if j == i then false else old j)) → ((j : ℕ) → i ≤ j → old j ≡ before j) → (j : ℕ) → i + 1 ≤ j → new j ≡ before j
keep_rest before old new i clear kept j l =
    let other : j ≢ i = omega (arith, l) in
    clear j ∙ rw (ne_eqb j i other) (kept j (omega (arith, l)))

-- no mark is left where all were below
pub all_cleared : (before now : ℕ → Bool) (end : ℕ) → ((j : ℕ) → before j ≡ true → j < end) → ((j : ℕ) → j < end → now j ≡ false) → ((j : ℕ) → end ≤ j → now j ≡ before j) → (j : ℕ) → now j ≡ false
all_cleared before now end low cleared kept j = elim (cases_lt j end) [
  | inl l ↦ cleared j l
  | inr l ↦ false_from_ne_true (now j) (λ on. let under = low j (sym (kept j l) ∙ on) in absurd (omega (arith, l, under)))
]
