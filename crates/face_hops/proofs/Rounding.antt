-- A search while it goes round the face at the head of its queue: from the beginning, past one place, and to the end.
use Rattle.std.specs.Prelude.{slice_index, slice_set, map}
use Rattle.std.proofs.Common.{◌≡◌, ℕ, ◌+◌, ◌<◌, ◌≤◌, ◌⊎◌, inl, inr, true, ◌==◌, List, [], ◌∷◌, length, refl, sym, ap, ◌∙◌, subst, arith, get_or-set_same, get_or-set_other}
use Rattle.std.proofs.Math.ListN.{length-set}
use Rattle.std.proofs.lemmas.Bool.{cases_Bool, eqb-true, eqb-false, eq-eqb, or_cases, or_left, or_right}
use Rattle.plane_model.specs.Sets.{has}
use Rattle.plane_model.specs.PlaneMap.{PlaneMap}
use Rattle.plane_model.specs.Lists.{adjacent}
use Rattle.file_laws.specs.Contents.{Contents}
use Rattle.file_laws.specs.MapOfFile.{face_at_place}
use Rattle.navigate.specs.Bound.{map_with}
use Rattle.navigate.specs.Beside.{place_across}
use Rattle.face_hops.specs.Search.{IsSearch, IsHalfRound, numbers_with, queue_with, tail_with}
use Rattle.face_hops.proofs.Searching.{IsPush, push, round, room_left, tail_few}

pub record IsRounding (c : Contents) (from head place number : ℕ) (ds qs : List ℕ) (tail : ℕ) (coming : List ℕ) : Type 0 where
  pub search : IsSearch c from (slice_index ds) (slice_index qs) head tail
  pub numbers_long : length ds ≡ length c.faces + 1
  pub queue_long : length qs ≡ length c.faces + 1
  pub more : head < tail
  pub at : slice_index qs head ≡ place
  pub its_number : number ≡ slice_index ds place + 1
  pub half : IsHalfRound c (slice_index ds) place coming
  pub beside : (q : ℕ) → has coming q ≡ true → (q ≤ length c.faces) × ((q ≡ place) ⊎ (has (adjacent (map_with c) (face_at_place c place)) (face_at_place c q) ≡ true))

module _ (c : Contents) (from : ℕ) (beside-sym : (f x : ℕ) → has (adjacent (map_with c) f) x ≡ true → has (adjacent (map_with c) x) f ≡ true) where
  abbrev m : PlaneMap
  m = map_with c

  abbrev face : ℕ → ℕ
  face p = face_at_place c p

  -- the place has a number already
  stays : (head place number across : ℕ) (ds qs : List ℕ) (tail : ℕ) (coming : List ℕ) → IsRounding c from head place number ds qs tail (across ∷ coming) → (slice_index ds across ≡ 0 → ⊥) → IsRounding c from head place number ds qs tail coming
  stays head place number across ds qs tail coming r n =
      let s = r.search in
      let its = r.beside across (or_left (across == across) (has coming across) (eq-eqb across across refl)) in
      let some : 0 < slice_index ds across = omega (arith, n) in
      let i = s.queued across its.0 some in
      let near = s.near i.0 r.more i.1 in
      let same = ap (slice_index ds) i.2 in
      let place_is = ap (slice_index ds) r.at in
      let few : slice_index ds across ≤ slice_index ds place + 1 = omega (arith, near, same, place_is) in
      record {
        search = s;
        numbers_long = r.numbers_long;
        queue_long = r.queue_long;
        more = r.more;
        at = r.at;
        its_number = r.its_number;
        half = λ p l on. elim (r.half p l on) [
          | inl done ↦ inl done
          | inr later ↦ elim (or_cases (p == across) (has coming p) later) [
            | inl e ↦ let is = eqb-true p across e in inl (subst (λ x. (0 < slice_index ds x) × (slice_index ds x ≤ slice_index ds place + 1)) (sym is) (some, few))
            | inr rest ↦ inr rest
          ]
        ];
        beside = λ q on. r.beside q (or_right (q == across) (has coming q) on);
      }

  -- the place gets a number
  pushed : (head place number across : ℕ) (ds qs : List ℕ) (tail : ℕ) (coming : List ℕ) → IsRounding c from head place number ds qs tail (across ∷ coming) → slice_index ds across ≡ 0
      → IsRounding c from head place number (slice_set ds across number) (slice_set qs tail across) (tail + 1) coming
  pushed head place number across ds qs tail coming r none =
      let s = r.search in
      let its = r.beside across (or_left (across == across) (has coming across) (eq-eqb across across refl)) in
      let low = its.0 in
      let room = room_left c from beside-sym (slice_index ds) (slice_index qs) head tail across s low none in
      let numbered = s.numbered head r.more in
      let place_is = ap (slice_index ds) r.at in
      let off : across ≡ place → ⊥ = λ e. let same = ap (slice_index ds) e in absurd (omega (arith, same, none, numbered, place_is)) in
      let adjacent_is : has (adjacent m (face place)) (face across) ≡ true = elim its.1 [ inl own ↦ absurd (off own) | inr on ↦ on ] in
      let queue_low : tail < length qs = let l = r.queue_long in omega (arith, room, l) in
      let numbers_low : across < length ds = let l = r.numbers_long in omega (arith, low, l) in
      let new : slice_index (slice_set ds across number) across ≡ number = get_or-set_same ds across number 0 numbers_low in
      let kept : (p : ℕ) → (p ≡ across → ⊥) → slice_index (slice_set ds across number) p ≡ slice_index ds p = λ p n. get_or-set_other ds across p number 0 n in
      let value : number ≡ slice_index ds (slice_index qs head) + 1 = let e = r.its_number in omega (arith, e, place_is) in
      let last : slice_index (slice_set qs tail across) tail ≡ across = get_or-set_same qs tail across 0 queue_low in
      let before : (i : ℕ) → (i ≡ tail → ⊥) → slice_index (slice_set qs tail across) i ≡ slice_index qs i = λ i n. get_or-set_other qs tail i across 0 n in
      let p : IsPush (slice_index ds) (slice_index qs) (slice_index (slice_set ds across number)) (slice_index (slice_set qs tail across)) tail across (slice_index ds (slice_index qs head) + 1)
      = record { new = new ∙ value; same = kept; last = last; before = before } in
      let place_kept = kept place (λ e. off (sym e)) in
      let under = r.more in
      record {
        search = push c from beside-sym (slice_index ds) (slice_index qs) (slice_index (slice_set ds across number)) (slice_index (slice_set qs tail across)) head tail across s r.more low none
            (subst (λ x. has (adjacent m (face x)) (face across) ≡ true) (sym r.at) adjacent_is) p;
        numbers_long = length-set ds across number ∙ r.numbers_long;
        queue_long = length-set qs tail across ∙ r.queue_long;
        more = omega (arith, under);
        at = before head (λ e. absurd (omega (arith, e, under))) ∙ r.at;
        its_number = r.its_number ∙ ap (λ x. x + 1) (sym place_kept);
        half = λ p l on. elim (r.half p l on) [
          | inl done ↦
              let some = done.0 in
              let few = done.1 in
              let same = kept p (λ e. let z = ap (slice_index ds) e in absurd (omega (arith, z, none, some))) in
              inl (omega (arith, some, same), omega (arith, few, same, place_kept))
          | inr later ↦ elim (or_cases (p == across) (has coming p) later) [
            | inl e ↦
                let is = ap (slice_index (slice_set ds across number)) (eqb-true p across e) in
                let n = r.its_number in
                inl (omega (arith, is, new, n), omega (arith, is, new, n, place_kept))
            | inr rest ↦ inr rest
          ]
        ];
        beside = λ q on. r.beside q (or_right (q == across) (has coming q) on);
      }

  pub next : (head place number across : ℕ) (ds qs ds' qs' : List ℕ) (tail tail' : ℕ) (coming : List ℕ) → IsRounding c from head place number ds qs tail (across ∷ coming)
      → ds' ≡ numbers_with ds across number → qs' ≡ queue_with ds qs tail across → tail' ≡ tail_with ds tail across → IsRounding c from head place number ds' qs' tail' coming
  next head place number across ds qs ds' qs' tail tail' coming r a b e = elim (cases_Bool (slice_index ds across == 0)) [
    | inl t ↦
        let ds_is : ds' ≡ slice_set ds across number = rw t at a in
        let qs_is : qs' ≡ slice_set qs tail across = rw t at b in
        let tail_is : tail' ≡ tail + 1 = rw t at e in
        rw (ds_is, qs_is, tail_is) (pushed head place number across ds qs tail coming r (eqb-true (slice_index ds across) 0 t))
    | inr f ↦
        let ds_is : ds' ≡ ds = rw f at a in
        let qs_is : qs' ≡ qs = rw f at b in
        let tail_is : tail' ≡ tail = rw f at e in
        rw (ds_is, qs_is, tail_is) (stays head place number across ds qs tail coming r (eqb-false (slice_index ds across) 0 f))
  ]

  pub next_at : (head place number p across : ℕ) (ds qs ds' qs' : List ℕ) (tail tail' : ℕ) (xs ys : List ℕ) → IsRounding c from head place number ds qs tail (map (place_across c) xs) → xs ≡ p ∷ ys → across ≡ place_across c p
      → ds' ≡ numbers_with ds across number → qs' ≡ queue_with ds qs tail across → tail' ≡ tail_with ds tail across → IsRounding c from head place number ds' qs' tail' (map (place_across c) ys)
  next_at head place number p across ds qs ds' qs' tail tail' xs ys r e f a b d =
      let all : map (place_across c) xs ≡ across ∷ map (place_across c) ys = ap (map (place_across c)) e ∙ ap (λ x. x ∷ map (place_across c) ys) (sym f) in
      next head place number across ds qs ds' qs' tail tail' (map (place_across c) ys) (subst (IsRounding c from head place number ds qs tail) all r) a b d

  pub room_for : (head place number across : ℕ) (ds qs : List ℕ) (tail : ℕ) (coming : List ℕ) → IsRounding c from head place number ds qs tail coming → across ≤ length c.faces → slice_index ds across ≡ 0 → tail < length qs
  room_for head place number across ds qs tail coming r low none =
      let room = room_left c from beside-sym (slice_index ds) (slice_index qs) head tail across r.search low none in
      let l = r.queue_long in
      omega (arith, room, l)

  pub few_tail : (head place number : ℕ) (ds qs : List ℕ) (tail : ℕ) (coming : List ℕ) → IsRounding c from head place number ds qs tail coming → tail ≤ length c.faces + 1
  few_tail head place number ds qs tail coming r = tail_few c from beside-sym (slice_index ds) (slice_index qs) head tail r.search

  pub end : (head place number : ℕ) (ds qs : List ℕ) (tail : ℕ) → IsRounding c from head place number ds qs tail [] → IsSearch c from (slice_index ds) (slice_index qs) (head + 1) tail
  end head place number ds qs tail r =
      round c from beside-sym (slice_index ds) (slice_index qs) head tail r.search r.more (subst (λ x. IsHalfRound c (slice_index ds) x []) (sym r.at) r.half)

-- what stands in the queue stays
pub queue_kept : (ds qs qs' : List ℕ) (tail across i : ℕ) → qs' ≡ queue_with ds qs tail across → i < tail → slice_index qs' i ≡ slice_index qs i
queue_kept ds qs qs' tail across i e l = elim (cases_Bool (slice_index ds across == 0)) [
  | inl t ↦
      let is : qs' ≡ slice_set qs tail across = rw t at e in
      ap (λ xs. slice_index xs i) is ∙ get_or-set_other qs tail i across 0 (λ same. absurd (omega (arith, same, l)))
  | inr f ↦ let is : qs' ≡ qs = rw f at e in ap (λ xs. slice_index xs i) is
]
