-- Numbers that are looked up ahead.
use Rattle.std.proofs.Common.{◌≡◌, ◌≢◌, ℕ, zero, suc, ◌<◌, List, map, length, get_or, refl, ap, sym, ◌∙◌, arith, Option, Some, None}
use Rattle.std.specs.Prelude.{IfSome, MatchOption}
use Rattle.std.proofs.lemmas.List.{get_or-map, length-map}
use Rattle.id_names.specs.Names.{number_of}
use Rattle.id_names.specs.RisingNames.{RisingNames, ids_by_number, id_at, number_at}
use Rattle.id_names.specs.Faults.{name_fault}
use Rattle.id_names.specs.Known.{AreKnown}
use Rattle.id_names.specs.declared.known.KnownNumber.{KnownNumber}
use Rattle.id_names.proofs.NameLaws.{length-ids, right_names, no_number, its_number}
use Rattle.id_names.proofs.NumberLaws.{number_of-at, number_of-none, number_of-found, number_of-missing}

-- what holds of each of four
pub of_four : (Holds : ℕ → Type 0) → Holds 0 → Holds 1 → Holds 2 → Holds 3 → (j : ℕ) → j < 4 → Holds j
of_four Holds a b c d zero h = a
of_four Holds a b c d (suc zero) h = b
of_four Holds a b c d (suc (suc zero)) h = c
of_four Holds a b c d (suc (suc (suc zero))) h = d
of_four Holds a b c d (suc (suc (suc (suc j)))) h = absurd (omega (arith, h))

-- what is said of each id by itself is said of all that is known
pub known_by_items : (names : List ℕ) (ids numbers : List (Option ℕ)) (known : List KnownNumber) → map (λ k. k.id) known ≡ ids → map (λ k. k.number) known ≡ numbers → ((j : ℕ) → j < length ids → (id : ℕ) → get_or ids j None ≡ Some id → get_or numbers j None ≡ number_of names id) → AreKnown names known
known_by_items names ids numbers known these those each j d h id e =
    let within : j < length ids = omega (arith, h, ap length these, length-map known (λ (k : KnownNumber). k.id)) in
    let its = ap (λ xs. get_or xs j None) (sym these) ∙ get_or-map (λ (k : KnownNumber). k.id) known j d None h ∙ e in
    sym (ap (λ xs. get_or xs j None) (sym those) ∙ get_or-map (λ (k : KnownNumber). k.number) known j d None h) ∙ each j within id its

-- what a look-up of the names has found, where it was for an id: that id's number, and none for an id that no number has
pub looked_up : (p : RisingNames) (high_counts mark_counts : List ℕ) → name_fault p high_counts mark_counts ≡ None → (id place number : Option ℕ)
    → IfSome id (λ id. MatchOption place ((k : ℕ) → k < length (ids_by_number p) → id_at p k ≢ id) (λ place. (place < length (ids_by_number p)) × (id_at p place ≡ id)))
    → (place ≡ None → number ≡ None) → ((j : ℕ) → place ≡ Some j → number ≡ number_at p j)
    → (wanted : ℕ) → id ≡ Some wanted → number ≡ number_of (ids_by_number p) wanted
looked_up p hc mc right None place number at none some wanted e = cc
looked_up p hc mc right (Some id) None number at none some wanted e =
    let same : id ≡ wanted = cc in
    none refl ∙ sym (number_of-none (ids_by_number p) wanted (no_number p hc mc right wanted (λ j h f. at j (omega (arith, h, length-ids p)) (f ∙ sym same))))
looked_up p hc mc right (Some id) (Some j) number at none some wanted e =
    let same : id ≡ wanted = cc in
    let n = its_number p hc mc right wanted j (omega (arith, at.0, length-ids p)) (at.1 ∙ same) in
    some j refl ∙ n.1 ∙ sym (number_of-at (ids_by_number p) n.0 wanted (right_names p hc mc right).distinct n.2 n.3)

-- a number that is told says what a look-up says
pub number_told : (ids : List ℕ) (id : ℕ) (number : Option ℕ) → number ≡ number_of ids id → MatchOption number ((k : ℕ) → k < length ids → get_or ids k 0 ≢ id) (λ number. (number < length ids) × (get_or ids number 0 ≡ id))
number_told ids id None is = number_of-missing ids id (sym is)
number_told ids id (Some k) is = number_of-found ids id k (sym is)
