-- A search by breadth: what a push and the end of a round leave, and that the numbers at the end are the distances.
use Rattle.std.specs.Prelude.{slice_index, slice_set, replicate}
use Rattle.std.proofs.Common.{◌≡◌, ℕ, zero, suc, ◌+◌, ◌-◌, ◌<◌, ◌≤◌, inl, inr, true, false, not, ◌==◌, List, [], ◌∷◌, length, refl, sym, ap, ◌∙◌, subst, arith, get_or, get_or-set_same, get_or-set_other}
use Rattle.std.proofs.Math.ListN.{length-set}
use Rattle.std.proofs.lemmas.Bool.{cases_lt, cases_eq, eqb-true, eq-eqb, or_cases, and_from, both_ways, false_from_ne_true}
use Rattle.plane_model.specs.Sets.{has, is_distinct}
use Rattle.plane_model.specs.PlaneMap.{PlaneMap}
use Rattle.plane_model.specs.Rotation.{is_face}
use Rattle.plane_model.specs.Lists.{adjacent}
use Rattle.plane_model.specs.Hops.{is_within, distance}
use Rattle.file_laws.specs.Contents.{Contents}
use Rattle.file_laws.specs.MapOfFile.{face_at_place}
use Rattle.navigate.specs.Bound.{map_with}
use Rattle.navigate.proofs.Occurrences.{few_below}
use Rattle.face_hops.specs.Distances.{as_number}
use Rattle.face_hops.specs.Search.{IsSearch, IsHalfRound}
use Rattle.face_hops.proofs.PathLaws.{within_cases, within-step, distance_is, distance_none}

-- zeros

abbrev zeros : ℕ → List ℕ
zeros n = replicate n 0

zeros_at : (n i : ℕ) → get_or (zeros n) i 0 ≡ 0
zeros_at zero i = refl
zeros_at (suc n) zero = refl
zeros_at (suc n) (suc i) = zeros_at n i

zeros_long : (n : ℕ) → length (zeros n) ≡ n
zeros_long zero = refl
zeros_long (suc n) = ap suc (zeros_long n)

-- the first of a list that a function gives

abbrev pub firsts : (ℕ → ℕ) → ℕ → List ℕ
firsts f zero = []
firsts f (suc n) = f n ∷ firsts f n

pub firsts-length : (f : ℕ → ℕ) (n : ℕ) → length (firsts f n) ≡ n
firsts-length f zero = refl
firsts-length f (suc n) = ap suc (firsts-length f n)

firsts-has : (f : ℕ → ℕ) (n x : ℕ) → has (firsts f n) x ≡ true → (i : ℕ) × (i < n) × (f i ≡ x)
firsts-has f zero x h = absurd (both_ways false refl h)
firsts-has f (suc n) x h = elim (or_cases (x == f n) (has (firsts f n) x) h) [
  | inl e ↦ (n, omega arith, sym (eqb-true x (f n) e))
  | inr more ↦ let r = firsts-has f n x more in let low = r.1 in (r.0, omega (arith, low), r.2)
]

pub firsts-apart : (f : ℕ → ℕ) (n : ℕ) → ((i j : ℕ) → i < n → j < n → f i ≡ f j → i ≡ j) → is_distinct (firsts f n) ≡ true
firsts-apart f zero one = refl
firsts-apart f (suc n) one =
    let new : has (firsts f n) (f n) ≡ false
    = false_from_ne_true (has (firsts f n) (f n)) (λ t. let r = firsts-has f n (f n) t in let low = r.1 in let same = one r.0 n (omega (arith, low)) (omega arith) r.2 in absurd (omega (arith, low, same))) in
    and_from (not (has (firsts f n) (f n))) (is_distinct (firsts f n)) (rw new refl) (firsts-apart f n (λ i j k l e. one i j (omega (arith, k)) (omega (arith, l)) e))

-- one number is changed, and one place is queued
pub record IsPush (number queue number' queue' : ℕ → ℕ) (tail place value : ℕ) : Type 0 where
  pub new : number' place ≡ value
  pub same : (p : ℕ) → (p ≡ place → ⊥) → number' p ≡ number p
  pub last : queue' tail ≡ place
  pub before : (i : ℕ) → (i ≡ tail → ⊥) → queue' i ≡ queue i

module _ (c : Contents) (to : ℕ) (beside-sym : (f x : ℕ) → has (adjacent (map_with c) f) x ≡ true → has (adjacent (map_with c) x) f ≡ true) where
  abbrev m : PlaneMap
  m = map_with c

  abbrev face : ℕ → ℕ
  face p = face_at_place c p

  pub begin : (number queue : ℕ → ℕ) → to ≤ length c.faces → queue 0 ≡ to → number to ≡ 1 → ((p : ℕ) → (p ≡ to → ⊥) → number p ≡ 0) → IsSearch c to number queue 0 1
  begin number queue within first one others =
      let only : (p : ℕ) → 0 < number p → p ≡ to = λ p l. elim (cases_eq p to) [ inl e ↦ e | inr n ↦ let z = others p n in absurd (omega (arith, z, l)) ] in
      let at : (i : ℕ) → i < 1 → queue i ≡ to = λ i l. let z : i ≡ 0 = omega (arith, l) in ap queue z ∙ first in
      let is_one : (i : ℕ) → i < 1 → number (queue i) ≡ 1 = λ i l. ap number (at i l) ∙ one in
      record {
        begins = one;
        started = omega arith;
        within = omega arith;
        place = λ i l. let e = at i l in omega (arith, e, within);
        numbered = λ i l. let e = is_one i l in omega (arith, e);
        queued = λ p l some. (0, omega arith, first ∙ sym (only p some));
        apart = λ i j l k e. omega (arith, l, k);
        rising = λ i j l k. let e = is_one j k in let d = is_one i (omega (arith, l, k)) in omega (arith, e, d);
        near = λ j l k. let e = is_one j k in let d = is_one 0 (omega arith) in omega (arith, e, d);
        few = λ i l. let e = is_one i l in omega (arith, e);
        path = λ p n l e.
            let is = only p (omega (arith, e)) in
            let number_is : number p ≡ 1 = ap number is ∙ one in
            let z : 0 ≡ n = omega (arith, e, number_is) in
            subst (λ k. is_within k m (face p) (face to) ≡ true) z (eq-eqb (face p) (face to) (ap face is));
        passed = λ i p l. absurd (omega (arith, l));
      }

  pub begun : (ds qs ds' qs' : List ℕ) → to ≤ length c.faces → ds ≡ replicate (length c.faces + 1) 0 → qs ≡ replicate (length c.faces + 1) 0 → ds' ≡ slice_set ds to 1 → qs' ≡ slice_set qs 0 to
      → IsSearch c to (slice_index ds') (slice_index qs') 0 1 × (length ds' ≡ length c.faces + 1) × (length qs' ≡ length c.faces + 1)
  begun ds qs ds' qs' within a b d e =
      let ds_long : length ds ≡ length c.faces + 1 = ap length a ∙ zeros_long (length c.faces + 1) in
      let qs_long : length qs ≡ length c.faces + 1 = ap length b ∙ zeros_long (length c.faces + 1) in
      let first : slice_index qs' 0 ≡ to = ap (λ xs. slice_index xs 0) e ∙ get_or-set_same qs 0 to 0 (omega (arith, qs_long)) in
      let one : slice_index ds' to ≡ 1 = ap (λ xs. slice_index xs to) d ∙ get_or-set_same ds to 1 0 (omega (arith, ds_long, within)) in
      let others : (p : ℕ) → (p ≡ to → ⊥) → slice_index ds' p ≡ 0
      = λ p n. ap (λ xs. slice_index xs p) d ∙ get_or-set_other ds to p 1 0 n ∙ ap (λ xs. slice_index xs p) a ∙ zeros_at (length c.faces + 1) p in
      (begin (slice_index ds') (slice_index qs') within first one others, ap length d ∙ length-set ds to 1 ∙ ds_long, ap length e ∙ length-set qs 0 to ∙ qs_long)

  -- the queue has room for the places that have no number
  queue_apart : (number queue : ℕ → ℕ) (head tail : ℕ) → IsSearch c to number queue head tail → is_distinct (firsts queue tail) ≡ true
  queue_apart number queue head tail s = firsts-apart queue tail s.apart

  queue_low : (number queue : ℕ → ℕ) (head tail x : ℕ) → IsSearch c to number queue head tail → has (firsts queue tail) x ≡ true → (x ≤ length c.faces) × (0 < number x)
  queue_low number queue head tail x s on =
      let r = firsts-has queue tail x on in
      let same = r.2 in
      let number_same = ap number r.2 in
      let low = s.place r.0 r.1 in
      let some = s.numbered r.0 r.1 in
      (omega (arith, low, same), omega (arith, some, number_same))

  pub tail_few : (number queue : ℕ → ℕ) (head tail : ℕ) → IsSearch c to number queue head tail → tail ≤ length c.faces + 1
  tail_few number queue head tail s =
      let few = few_below (firsts queue tail) (length c.faces) (queue_apart number queue head tail s) (λ x on. (queue_low number queue head tail x s on).0) in
      let long = firsts-length queue tail in
      omega (arith, few, long)

  pub room_left : (number queue : ℕ → ℕ) (head tail place : ℕ) → IsSearch c to number queue head tail → place ≤ length c.faces → number place ≡ 0 → tail < length c.faces + 1
  room_left number queue head tail place s low none =
      let new : has (firsts queue tail) place ≡ false = false_from_ne_true (has (firsts queue tail) place) (λ t. let r = queue_low number queue head tail place s t in let some = r.1 in absurd (omega (arith, some, none))) in
      let all : is_distinct (place ∷ firsts queue tail) ≡ true = and_from (not (has (firsts queue tail) place)) (is_distinct (firsts queue tail)) (rw new refl) (queue_apart number queue head tail s) in
      let few = few_below (place ∷ firsts queue tail) (length c.faces) all (λ x on. elim (or_cases (x == place) (has (firsts queue tail) x) on) [
        | inl e ↦ let is = eqb-true x place e in omega (arith, is, low)
        | inr more ↦ (queue_low number queue head tail x s more).0
      ]) in
      let long = firsts-length queue tail in
      omega (arith, few, long)

  pub push : (number queue number' queue' : ℕ → ℕ) (head tail place : ℕ) → IsSearch c to number queue head tail → head < tail → place ≤ length c.faces → number place ≡ 0
      → has (adjacent m (face (queue head))) (face place) ≡ true → IsPush number queue number' queue' tail place (number (queue head) + 1) → IsSearch c to number' queue' head (tail + 1)
  push number queue number' queue' head tail place s more within none beside p =
      let value = number (queue head) + 1 in
      let off : (i : ℕ) → i < tail → queue i ≡ place → ⊥ = λ i l e. let some = s.numbered i l in let same = ap number e in absurd (omega (arith, some, same, none)) in
      let was : (i : ℕ) → i < tail → queue' i ≡ queue i = λ i l. p.before i (λ e. absurd (omega (arith, e, l))) in
      let kept : (i : ℕ) → i < tail → number' (queue' i) ≡ number (queue i) = λ i l. ap number' (was i l) ∙ p.same (queue i) (off i l) in
      let at : (i : ℕ) → i < tail + 1 → (tail ≤ i) → i ≡ tail = λ i l k. omega (arith, l, k) in
      let end : (i : ℕ) → i ≡ tail → queue' i ≡ place = λ i e. ap queue' e ∙ p.last in
      let top : (i : ℕ) → i ≡ tail → number' (queue' i) ≡ value = λ i e. ap number' (end i e) ∙ p.new in
      let other : (q : ℕ) → 0 < number q → q ≡ place → ⊥ = λ q some e. let same = ap number e in absurd (omega (arith, some, same, none)) in
      let front = s.few head more in
      record {
        begins = p.same to (other to (let b = s.begins in omega (arith, b))) ∙ s.begins;
        started = omega arith;
        within = omega (arith, more);
        place = λ i l. elim (cases_lt i tail) [
          | inl low ↦ let e = was i low in let k = s.place i low in omega (arith, e, k)
          | inr up ↦ let e = end i (at i l up) in omega (arith, e, within)
        ];
        numbered = λ i l. elim (cases_lt i tail) [
          | inl low ↦ let e = kept i low in let k = s.numbered i low in omega (arith, e, k)
          | inr up ↦ let e = top i (at i l up) in omega (arith, e)
        ];
        queued = λ q l some. elim (cases_eq q place) [
          | inl e ↦ (tail, omega arith, p.last ∙ sym e)
          | inr n ↦ let same = p.same q n in let r = s.queued q l (omega (arith, some, same)) in let low = r.1 in (r.0, omega (arith, low), was r.0 r.1 ∙ r.2)
        ];
        apart = λ i j l k e. elim (cases_lt i tail) [
          | inl low ↦ elim (cases_lt j tail) [
            | inl lower ↦ s.apart i j low lower (sym (was i low) ∙ e ∙ was j lower)
            | inr up ↦ absurd (off i low (sym (was i low) ∙ e ∙ end j (at j k up)))
          ]
          | inr up ↦ elim (cases_lt j tail) [
            | inl lower ↦ absurd (off j lower (sym (was j lower) ∙ sym e ∙ end i (at i l up)))
            | inr upper ↦ at i l up ∙ sym (at j k upper)
          ]
        ];
        rising = λ i j l k. elim (cases_lt j tail) [
          | inl lower ↦
              let low : i < tail = omega (arith, l, lower) in
              let a = kept i low in let b = kept j lower in let r = s.rising i j l lower in omega (arith, a, b, r)
          | inr upper ↦
              let b = top j (at j k upper) in
              elim (cases_lt i tail) [
                | inl low ↦ let a = kept i low in let r = s.near i more low in omega (arith, a, b, r)
                | inr up ↦ let a = top i (at i (omega (arith, l, k)) up) in omega (arith, a, b)
              ]
        ];
        near = λ j l k. let h = kept head more in elim (cases_lt j tail) [
          | inl lower ↦ let b = kept j lower in let r = s.near j more lower in omega (arith, h, b, r)
          | inr upper ↦ let b = top j (at j k upper) in omega (arith, h, b)
        ];
        few = λ i l. elim (cases_lt i tail) [
          | inl low ↦ let a = kept i low in let r = s.few i low in omega (arith, a, r)
          | inr up ↦ let a = top i (at i l up) in let is = at i l up in omega (arith, a, front, more, is)
        ];
        path = λ q n l e. elim (cases_eq q place) [
          | inl is ↦
              let is_value : n + 1 ≡ value = sym e ∙ ap number' is ∙ p.new in
              let some = s.numbered head more in
              let low : number (queue head) ≡ number (queue head) - 1 + 1 = omega (arith, some) in
              let from = s.path (queue head) (number (queue head) - 1) (s.place head more) low in
              let step = within-step (number (queue head) - 1) m (face place) (face (queue head)) (face to) (beside-sym (face (queue head)) (face place) beside) from in
              let n_is : suc (number (queue head) - 1) ≡ n = omega (arith, is_value, some) in
              subst (λ x. is_within n m (face x) (face to) ≡ true) (sym is) (subst (λ k. is_within k m (face place) (face to) ≡ true) n_is step)
          | inr differs ↦ s.path q n l (sym (p.same q differs) ∙ e)
        ];
        passed = λ i q l k on.
            let low : i < tail = omega (arith, l, more) in
            let old = s.passed i q l k (subst (λ x. has (adjacent m (face x)) (face q) ≡ true) (was i low) on) in
            let same = p.same q (other q old.0) in
            let a = kept i low in
            let some = old.0 in
            let few = old.1 in
            (omega (arith, same, some), omega (arith, same, few, a));
      }

  -- at the end of a round the next is at the head
  pub round : (number queue : ℕ → ℕ) (head tail : ℕ) → IsSearch c to number queue head tail → head < tail → IsHalfRound c number (queue head) [] → IsSearch c to number queue (head + 1) tail
  round number queue head tail s more half =
      record {
        begins = s.begins;
        started = s.started;
        within = omega (arith, more);
        place = s.place;
        numbered = s.numbered;
        queued = s.queued;
        apart = s.apart;
        rising = s.rising;
        near = λ j l k. let r = s.near j more k in let up = s.rising head (head + 1) (omega arith) l in omega (arith, r, up);
        few = s.few;
        path = s.path;
        passed = λ i p l k on. elim (cases_lt i head) [
          | inl low ↦ s.passed i p low k on
          | inr up ↦
              let is : i ≡ head = omega (arith, l, up) in
              let done = half p k (subst (λ x. has (adjacent m (face (queue x))) (face p) ≡ true) is on) in
              elim done [
                | inl some ↦ let a = some.0 in let b = some.1 in let e = ap (λ x. number (queue x)) is in (a, omega (arith, b, e))
                | inr none ↦ absurd (both_ways false refl none)
              ]
        ];
      }

  -- at the end of the queue each number is that of the distance
  module _ (one_place : (p q : ℕ) → p ≤ length c.faces → q ≤ length c.faces → face p ≡ face q → p ≡ q) (known_place : (f : ℕ) → is_face m f ≡ true → (p : ℕ) × (p ≤ length c.faces) × (face p ≡ f))
      (beside-known : (f x : ℕ) → has (adjacent m f) x ≡ true → is_face m x ≡ true) (as_many : length m.faces ≡ length c.faces) (within : to ≤ length c.faces) where
    complete : (number queue : ℕ → ℕ) (tail n p : ℕ) → IsSearch c to number queue tail tail → p ≤ length c.faces → is_within n m (face p) (face to) ≡ true → (0 < number p) × (number p ≤ n + 1)
    complete number queue tail zero p s l k =
        let is = one_place p to l within (eqb-true (face p) (face to) k) in
        let e : number p ≡ 1 = ap number is ∙ s.begins in
        (omega (arith, e), omega (arith, e))
    complete number queue tail (suc n) p s l k = elim (within_cases n m (face p) (face to) k) [
      | inl same ↦
          let is = one_place p to l within same in
          let e : number p ≡ 1 = ap number is ∙ s.begins in
          (omega (arith, e), omega (arith, e))
      | inr x ↦
          let v = known_place x.0 (beside-known (face p) x.0 x.1) in
          let low = complete number queue tail n v.0 s v.1 (subst (λ y. is_within n m y (face to) ≡ true) (sym v.2) x.2) in
          let i = s.queued v.0 v.1 low.0 in
          let back = beside-sym (face p) x.0 x.1 in
          let at : has (adjacent m (face (queue i.0))) (face p) ≡ true = subst (λ y. has (adjacent m y) (face p) ≡ true) (sym v.2 ∙ ap face (sym i.2)) back in
          let done = s.passed i.0 p i.1 l at in
          let same = ap number i.2 in
          let a = done.0 in
          let b = done.1 in
          let d = low.1 in
          (a, omega (arith, b, d, same))
    ]

    pub finish : (number queue : ℕ → ℕ) (tail p : ℕ) → tail ≤ length c.faces + 1 → IsSearch c to number queue tail tail → p ≤ length c.faces → number p ≡ as_number (distance m (face p) (face to))
    finish number queue tail p few s l = elim (cases_eq (number p) 0) [
      | inl z ↦
          let none : (j : ℕ) → is_within j m (face p) (face to) ≡ false = λ j. false_from_ne_true (is_within j m (face p) (face to)) (λ k. let r = complete number queue tail j p s l k in let some = r.0 in absurd (omega (arith, some, z))) in
          z ∙ sym (ap as_number (distance_none m (face p) (face to) none))
      | inr n ↦
          let k = number p - 1 in
          let some : 0 < number p = omega (arith, n) in
          let is : number p ≡ k + 1 = omega (arith, some) in
          let i = s.queued p l some in
          let low = s.few i.0 i.1 in
          let same = ap number i.2 in
          let under = i.1 in
          let small : k ≤ length m.faces + 1 = omega (arith, is, low, same, under, few, as_many) in
          let before : (j : ℕ) → j < k → is_within j m (face p) (face to) ≡ false
          = λ j less. false_from_ne_true (is_within j m (face p) (face to)) (λ t. let r = complete number queue tail j p s l t in let up = r.1 in absurd (omega (arith, up, less, is))) in
          is ∙ sym (ap as_number (distance_is m (face p) (face to) k small (s.path p k l is) before))
    ]
