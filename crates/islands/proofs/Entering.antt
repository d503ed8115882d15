-- The steps of a round's end: components are marked, and the faces beside them entered.
use Rattle.std.proofs.Common.{◌≡◌, ℕ, ◌<◌, ◌⊎◌, inl, inr, Bool, true, false, List, [], ◌∷◌, ◌++◌, length, refl, sym, ap, ◌∙◌, subst, arith}
use Rattle.std.specs.Prelude.{slice_index, slice_index_or, slice_set}
use Rattle.std.proofs.lemmas.Bool.{cases_Bool, both_ways}
use Rattle.plane_model.specs.Sets.{has}
use Rattle.islands.specs.Lists.{AreLists}
use Rattle.islands.specs.Rounds.{AreEntered, AreAllEntered, KeysAreMarked, AreNextFaces, IsBeside}
use Rattle.islands.proofs.Members.{has_front}
use Rattle.islands.proofs.Opening.{last_has, has_last, set_on, set_stays, set_only, set_length}

-- one opening after another
opens_join : (faces : List ℕ) (P Q R : ℕ → Type 0) (old mid new : List Bool) (before a b : List ℕ) → AreEntered faces P old mid before a → AreEntered faces Q mid new a b → ((q : ℕ) → R q → P q ⊎ Q q) → ((q : ℕ) → P q → R q) → ((q : ℕ) → Q q → R q) → AreEntered faces R old new before b
opens_join faces P Q R old mid new before a b p q split first second =
    record {
      same = q.same ∙ p.same;
      stays = λ k h. q.stays k (p.stays k h);
      all = λ x h. elim (split x h) [ inl l ↦ q.stays (slice_index faces x) (p.all x l) | inr r ↦ q.all x r ];
      kept = λ f h. q.kept f (p.kept f h);
      added = λ f h. elim (q.added f h) [
        | inl in_a ↦ elim (p.added f in_a) [ inl was ↦ inl was | inr w ↦ inr (w.0, q.stays f w.1, (w.2.0, first w.2.0 w.2.1, w.2.2)) ]
        | inr w ↦ inr (
          elim (cases_Bool (slice_index_or old f false)) [ inl on ↦ absurd (both_ways _ w.0 (p.stays f on)) | inr off ↦ off ],
          w.1,
          (w.2.0, second w.2.0 w.2.1, w.2.2),
        )
      ];
      opened = λ k off on. elim (cases_Bool (slice_index_or mid k false)) [ inl was ↦ q.kept k (p.opened k off was) | inr none ↦ q.opened k none on ];
    }

opens_as : (faces : List ℕ) (P R : ℕ → Type 0) (old new : List Bool) (before after : List ℕ) → AreEntered faces P old new before after → ((q : ℕ) → R q → P q) → ((q : ℕ) → P q → R q) → AreEntered faces R old new before after
opens_as faces P R old new before after p to from =
    record {
      same = p.same;
      stays = p.stays;
      all = λ x h. p.all x (to x h);
      kept = p.kept;
      added = λ f h. elim (p.added f h) [ inl was ↦ inl was | inr w ↦ inr (w.0, w.1, (w.2.0, from w.2.0 w.2.1, w.2.2)) ];
      opened = p.opened;
    }

-- a component that was not marked
pub marked_push : (key : ℕ → ℕ) (now : List ℕ) (old new : List Bool) (s : ℕ) → KeysAreMarked key now old new → key s < length new → KeysAreMarked key (now ++ s ∷ []) old (slice_set new (key s) true)
marked_push key now old new s m below =
    record {
      same = set_length new (key s) ∙ m.same;
      stays = λ k h. set_stays new (key s) k (m.stays k h);
      marks = λ i h. elim (last_has now s i h) [
        | inl a ↦ set_stays new (key s) (key i) (m.marks i a)
        | inr is ↦ subst (λ z. slice_index_or (slice_set new (key s) true) (key z) false ≡ true) (sym is) (set_on new (key s) below)
      ];
      only = λ k on off. elim (set_only new (key s) k on) [
        | inl was ↦ let i = m.only k was off in (i.0, has_front now (s ∷ []) i.0 i.1, i.2)
        | inr is ↦ (s, has_last now s, sym is)
      ];
    }

-- one that was
pub marked_skip : (key : ℕ → ℕ) (now : List ℕ) (old new : List Bool) (s : ℕ) → KeysAreMarked key now old new → slice_index_or new (key s) false ≡ true → KeysAreMarked key (now ++ s ∷ []) old new
marked_skip key now old new s m on =
    record {
      same = m.same;
      stays = m.stays;
      marks = λ i h. elim (last_has now s i h) [ inl a ↦ m.marks i a | inr is ↦ subst (λ z. slice_index_or new (key z) false ≡ true) (sym is) on ];
      only = λ k was off. let i = m.only k was off in (i.0, has_front now (s ∷ []) i.0 i.1, i.2);
    }

pub beside_push : (faces components : List ℕ) (list : ℕ → List ℕ) (now : List ℕ) (s : ℕ) (old mid new : List Bool) (a b : List ℕ) → length components ≡ length faces → AreLists components list → AreEntered faces (IsBeside faces components now) old mid [] a
    → AreAllEntered faces (list (slice_index components s)) mid new a b → AreEntered faces (IsBeside faces components (now ++ s ∷ [])) old new [] b
beside_push faces components list now s old mid new a b same by p q =
    opens_join faces (IsBeside faces components now) (λ x. has (list (slice_index components s)) x ≡ true) (IsBeside faces components (now ++ s ∷ [])) old mid new [] a b p q
    (λ x h. elim (last_has now s h.1.0 h.1.1) [
      | inl was ↦ inl (h.0, (h.1.0, was, h.1.2))
      | inr is ↦
          let lt : x < length faces = h.0 in
          let e : slice_index components x ≡ slice_index components s = h.1.2 ∙ ap (slice_index components) is in
          inr (subst (λ z. has (list z) x ≡ true) e (by.complete x (omega arith)))
    ])
    (λ x h. (h.0, (h.1.0, has_front now (s ∷ []) h.1.0 h.1.1, h.1.2)))
    (λ x h.
    let it = by.sound (slice_index components s) x h in
    let lt : x < length components = it.0 in
    (omega arith, (s, has_last now s, it.1)))

pub beside_skip : (faces components now : List ℕ) (s : ℕ) (old new : List Bool) (a : List ℕ) → (i : ℕ) → has now i ≡ true → slice_index components i ≡ slice_index components s → AreEntered faces (IsBeside faces components now) old new [] a
    → AreEntered faces (IsBeside faces components (now ++ s ∷ [])) old new [] a
beside_skip faces components now s old new a i on e p =
    opens_as faces (IsBeside faces components now) (IsBeside faces components (now ++ s ∷ [])) old new [] a p
    (λ x h. elim (last_has now s h.1.0 h.1.1) [
      | inl was ↦ (h.0, (h.1.0, was, h.1.2))
      | inr is ↦ (h.0, (i, on, h.1.2 ∙ ap (slice_index components) is ∙ sym e))
    ])
    (λ x h. (h.0, (h.1.0, has_front now (s ∷ []) h.1.0 h.1.1, h.1.2)))

pub next_faces : (faces components now : List ℕ) (old new : List Bool) (next : List ℕ) → AreEntered faces (IsBeside faces components now) old new [] next → AreNextFaces faces components now old next
next_faces faces components now old new next o =
    record {
      sound = λ f h. elim (o.added f h) [
        | inl none ↦ absurd (both_ways false refl none)
        | inr w ↦ (w.0, (w.2.1.1.0, w.2.0, w.2.1.1.1, w.2.1.0, w.2.1.1.2, w.2.2))
      ];
      complete = λ i j on below e off. o.opened (slice_index faces j) off (o.all j (below, (i, on, e)));
    }
