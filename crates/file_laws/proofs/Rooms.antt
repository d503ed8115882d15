-- How many bits ids have in a form, and what a file of it has room for.
use Rattle.std.specs.Prelude.{nat_lt}
use Rattle.std.proofs.Common.{◌≡◌, ℕ, ◌+◌, ◌^◌, ◌≤◌, inl, inr, true, List, refl, ap, arith, ◌==◌}
use Rattle.std.proofs.lemmas.Bool.{cases_Bool, and_from, lt-ltb}
use Rattle.std.proofs.lemmas.List.{get_or_default}
use Rattle.std.proofs.lemmas.List.Sums.{list_all-from_AllPass}
use Rattle.topo_base.specs.declared.id.TheConstants.{LARGEST_ID}
use Rattle.bit_words.specs.Digits.{digits}
use Rattle.bit_words.proofs.DigitLaws.{digits-pow}
use Rattle.id_names.specs.Names.{AreDistinctIds}
use Rattle.file_laws.specs.Layout.{id_bits, low_width}
use Rattle.file_laws.specs.Contents.{Contents}
use Rattle.file_laws.specs.Lawful.{has_room, has_room_for, is_whole}
use Rattle.file_laws.proofs.Whole.{whole_parts}

-- an id has 31 bits or 63
pub bits_some : (form : ℕ) → (31 ≤ id_bits form) × (id_bits form ≤ 63)
bits_some form =
    elim (cases_Bool (form == 1)) [
      | inl one ↦ rw one (omega arith, omega arith)
      | inr other ↦ rw other (omega arith, omega arith)
    ]

-- what every form has room for is an id
pub bound_small : (form : ℕ) → 2 ^ id_bits form ≤ LARGEST_ID + 1
bound_small form =
    elim (cases_Bool (form == 1)) [
      | inl one ↦ rw one (omega arith)
      | inr other ↦ rw other (omega arith)
    ]

pub few_digits : (c : ℕ) → c ≤ 16777216 → digits c ≤ 25
few_digits c few = digits-pow c 25 (omega (arith, few))

-- the high part and the low part have all bits of an id
pub bits_are : (form c : ℕ) → c ≤ 16777216 → digits c + low_width form c ≡ id_bits form
bits_are form c few = let d = few_digits c few in let b = (bits_some form).0 in omega (arith, d, b)

pub bound_is : (form c : ℕ) → c ≤ 16777216 → 2 ^ (digits c + low_width form c) ≡ 2 ^ id_bits form
bound_is form c few = ap (λ n. 2 ^ n) (bits_are form c few)

-- ids below a smaller bound are ids below a greater one
pub names_wide : (low high : ℕ) (ids : List ℕ) → low ≤ high → AreDistinctIds low ids → AreDistinctIds high ids
names_wide low high ids more names = record { in_range = λ k l. let r = names.in_range k l in (r.0, omega (arith, r.1, more)); distinct = names.distinct }

pub room_of : (form : ℕ) (ids : List ℕ) → AreDistinctIds (2 ^ id_bits form) ids → has_room form ids ≡ true
room_of form ids names =
    list_all-from_AllPass (λ id. nat_lt id (2 ^ id_bits form)) ids (λ k d l. lt-ltb _ _ (let e = get_or_default ids k d 0 l in let r = (names.in_range k l).1 in omega (arith, e, r)))

-- contents have room where each of their kinds of ids does
pub rooms_of : (form : ℕ) (c : Contents) → has_room form c.nodes ≡ true → has_room form c.edges ≡ true → has_room form c.faces ≡ true → has_room form c.regions ≡ true → has_room_for form c ≡ true
unfolding has_room_for
rooms_of form c nodes edges faces regions = and_from _ _ nodes (and_from _ _ edges (and_from _ _ faces (and_from _ _ regions refl)))

-- whole contents have room in form 2
pub whole_room : (c : Contents) → is_whole c ≡ true → has_room_for 2 c ≡ true
whole_room c h =
    let w = whole_parts c h in
    let ids = λ (xs : List ℕ) (names : AreDistinctIds (LARGEST_ID + 1) xs). room_of 2 xs (names_wide (LARGEST_ID + 1) (2 ^ id_bits 2) xs (omega arith) names) in
    rooms_of 2 c (ids c.nodes w.node_names) (ids c.edges w.edge_names) (ids c.faces w.face_names) (ids c.regions w.region_names)
