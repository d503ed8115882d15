-- The steps of entering faces.
use Rattle.std.proofs.Common.{◌≡◌, ℕ, zero, suc, ◌<◌, ◌⊎◌, inl, inr, Bool, true, false, ◌==◌, List, [], ◌∷◌, ◌++◌, length, refl, sym, ap, ◌∙◌, subst, arith, eq-eqb, get_or}
use Rattle.std.specs.Prelude.{slice_index, slice_index_or, slice_set}
use Rattle.std.proofs.lemmas.Bool.{eqb-true, or_cases, cases_Bool, or_left, both_ways}
use Rattle.plane_model.specs.Sets.{has}
use Rattle.islands.specs.Rounds.{AreAllEntered}
use Rattle.islands.proofs.Members.{has_front, has_back, has_either}

pub last_has : (rings : List ℕ) (q x : ℕ) → has (rings ++ q ∷ []) x ≡ true → (has rings x ≡ true) ⊎ (x ≡ q)
last_has rings q x h = elim (has_either rings (q ∷ []) x h) [
  | inl a ↦ inl a
  | inr b ↦ elim (or_cases (x == q) false b) [ inl is ↦ inr (eqb-true x q is) | inr none ↦ absurd (both_ways false refl none) ]
]

pub has_last : (rings : List ℕ) (q : ℕ) → has (rings ++ q ∷ []) q ≡ true
has_last rings q = has_back rings (q ∷ []) q (or_left (q == q) false (eq-eqb q q refl))

-- a ring whose face was entered
pub opens_skip : (faces rings : List ℕ) (old new : List Bool) (before after : List ℕ) (q : ℕ) → AreAllEntered faces rings old new before after → slice_index_or new (slice_index faces q) false ≡ true → AreAllEntered faces (rings ++ q ∷ []) old new before after
opens_skip faces rings old new before after q o on =
    record {
      same = o.same;
      stays = o.stays;
      all = λ x h. elim (last_has rings q x h) [ inl a ↦ o.all x a | inr is ↦ subst (λ z. slice_index_or new (slice_index faces z) false ≡ true) (sym is) on ];
      kept = o.kept;
      added = λ f h. elim (o.added f h) [ inl a ↦ inl a | inr b ↦ inr (b.0, b.1, (b.2.0, has_front rings (q ∷ []) b.2.0 b.2.1, b.2.2)) ];
      opened = o.opened;
    }

pub set_on : (xs : List Bool) (k : ℕ) → k < length xs → slice_index_or (slice_set xs k true) k false ≡ true
set_on [] k h = absurd (omega arith)
set_on (x ∷ xs) zero h = refl
set_on (x ∷ xs) (suc k) h = set_on xs k (omega arith)

pub set_stays : (xs : List Bool) (k j : ℕ) → slice_index_or xs j false ≡ true → slice_index_or (slice_set xs k true) j false ≡ true
set_stays [] k j h = h
set_stays (x ∷ xs) zero zero h = refl
set_stays (x ∷ xs) zero (suc j) h = h
set_stays (x ∷ xs) (suc k) zero h = h
set_stays (x ∷ xs) (suc k) (suc j) h = set_stays xs k j h

pub set_only : (xs : List Bool) (k j : ℕ) → slice_index_or (slice_set xs k true) j false ≡ true → (slice_index_or xs j false ≡ true) ⊎ (j ≡ k)
set_only [] k j h = inl h
set_only (x ∷ xs) zero zero h = inr refl
set_only (x ∷ xs) zero (suc j) h = inl h
set_only (x ∷ xs) (suc k) zero h = inl h
set_only (x ∷ xs) (suc k) (suc j) h = elim (set_only xs k j h) [ inl a ↦ inl a | inr is ↦ inr (ap suc is) ]

pub set_length : (xs : List Bool) (k : ℕ) → length (slice_set xs k true) ≡ length xs
set_length [] k = refl
set_length (x ∷ xs) zero = refl
set_length (x ∷ xs) (suc k) = ap suc (set_length xs k)

-- a ring whose face was not entered
pub opens_push : (faces rings : List ℕ) (old new : List Bool) (before after : List ℕ) (q : ℕ) → AreAllEntered faces rings old new before after → slice_index faces q < length new → slice_index_or new (slice_index faces q) false ≡ false
    → AreAllEntered faces (rings ++ q ∷ []) old (slice_set new (slice_index faces q) true) before (after ++ slice_index faces q ∷ [])
opens_push faces rings old new before after q o below off =
    let f = slice_index faces q in
    let old_off : slice_index_or old f false ≡ false = elim (cases_Bool (slice_index_or old f false)) [ inl was ↦ absurd (both_ways _ off (o.stays f was)) | inr none ↦ none ] in
    record {
      same = set_length new f ∙ o.same;
      stays = λ k h. set_stays new f k (o.stays k h);
      all = λ x h. elim (last_has rings q x h) [
        | inl a ↦ set_stays new f (slice_index faces x) (o.all x a)
        | inr is ↦ subst (λ z. slice_index_or (slice_set new f true) (slice_index faces z) false ≡ true) (sym is) (set_on new f below)
      ];
      kept = λ g h. has_front after (f ∷ []) g (o.kept g h);
      added = λ g h. elim (last_has after f g h) [
        | inl a ↦ elim (o.added g a) [ inl was ↦ inl was | inr b ↦ inr (b.0, set_stays new f g b.1, (b.2.0, has_front rings (q ∷ []) b.2.0 b.2.1, b.2.2)) ]
        | inr is ↦ inr (
          subst (λ z. slice_index_or old z false ≡ false) (sym is) old_off,
          subst (λ z. slice_index_or (slice_set new f true) z false ≡ true) (sym is) (set_on new f below),
          (q, has_last rings q, sym is),
        )
      ];
      opened = λ k h on. elim (set_only new f k on) [
        | inl was ↦ has_front after (f ∷ []) k (o.opened k h was)
        | inr is ↦ subst (λ z. has (after ++ f ∷ []) z ≡ true) (sym is) (has_last after f)
      ];
    }

pub read_on : (xs : List Bool) (k : ℕ) (r : Bool) → k < length xs → r ≡ get_or xs k r → r ≡ true → slice_index_or xs k false ≡ true
read_on [] k r h e on = absurd (omega arith)
read_on (x ∷ xs) zero r h e on = sym e ∙ on
read_on (x ∷ xs) (suc k) r h e on = read_on xs k r (omega arith) e on
