-- Walks of known things, as items.
use Rattle.std.specs.Prelude.{map, length, unwrap_or, option_map, is_some, IfSome, MatchOption, OnOk}
use Rattle.std.proofs.Common.{◌≡◌, refl, ℕ, ◌+◌, ◌≤◌, List, [], ◌++◌, Option, None, Some, Result, Ok, Err, Bool, true, false, if◌then◌else◌, ap, sym, ◌∙◌, arith}
use Rattle.std.proofs.lemmas.List.{length-map, length-append, map-append}
use Rattle.topo_base.specs.Script.{Item}
use Rattle.plane_model.specs.PlaneMap.{PlaneMap}
use Rattle.plane_model.specs.Answers.{where_known}
use Rattle.navigate.specs.Bound.{most_words}

-- the items that a walk lists are the answer's, or there is no walk
pub walk_known : {W : Type 0} (walk : Option W) (its : W → List Item) (known : Bool) (xs : List Item) → is_some walk ≡ known → IfSome walk (λ w. its w ≡ xs) → option_map its walk ≡ where_known known xs
walk_known None its known xs k e = rw (← k) refl
walk_known (Some w) its known xs k e = rw (← k) (ap (λ ys. Some ys) e)

-- what they are as numbers or signed edges, they are as items
pub as_items : {W X : Type 0} (walk : Option W) (rest : W → List X) (item : X → Item) (xs : List X) → IfSome walk (λ w. rest w ≡ xs) → IfSome walk (λ w. map item (rest w) ≡ map item xs)
as_items None rest item xs e = tt
as_items (Some w) rest item xs e = ap (map item) e

least_of : {W : Type 0} (walk : Option W) (its : W → List Item) (s t u : ℕ) → s ≤ t → MatchOption walk (t ≤ u) (λ w. t + length (its w) ≤ u) → s + length (unwrap_or (option_map its walk) []) ≤ u
least_of None its s t u g p = omega (arith, g, p)
least_of (Some w) its s t u g p = omega (arith, g, p)

-- each item was found by a read
pub least_known : {W X E : Type 0} (r : Result X E) (walk : Option W) (its : W → List Item) (items : Option (List Item)) (s t u : ℕ) → option_map its walk ≡ items → s ≤ t
    → OnOk r (MatchOption walk (t ≤ u) (λ w. t + length (its w) ≤ u)) → OnOk r (s + length (unwrap_or items []) ≤ u)
least_known (Err e) walk its items s t u same g p = tt
least_known (Ok x) walk its items s t u same g p = rw (← same) (least_of walk its s t u g p)

-- what is paid for the walk and for its steps is paid for the query, where all that is gone round is listed
pub paid_round : {W X : Type 0} (m : PlaneMap) (walk : Option W) (rest : W → List X) (allowance : W → ℕ) (item : X → Item) (known : Bool) (xs : List X) (s t u : ℕ) → is_some walk ≡ known → IfSome walk (λ w. rest w ≡ xs)
    → MatchOption walk (t ≤ s + most_words m 0 0) (λ w. t + allowance w ≤ s + most_words m (length (rest w)) (length (rest w)))
    → MatchOption walk (u ≡ t) (λ w. u ≤ t + allowance w)
    → u ≤ s + most_words m (if known then length xs else 0) (length (unwrap_or (where_known known (map item xs)) []))
paid_round m None rest allowance item known xs s t u k e p q = rw (← k) (omega (arith, p, q))
paid_round m (Some w) rest allowance item known xs s t u k e p q =
    let bound : t + allowance w ≤ s + most_words m (length xs) (length (map item xs)) = rw (length-map xs item) (rw (← e) p) in
    rw (← k) (omega (arith, bound, q))

-- the same where nothing is gone round
pub paid_listed : {W : Type 0} (m : PlaneMap) (walk : Option W) (its : W → List Item) (allowance : W → ℕ) (known : Bool) (xs : List Item) (s t u : ℕ) → is_some walk ≡ known → IfSome walk (λ w. its w ≡ xs)
    → MatchOption walk (t ≤ s + most_words m 0 0) (λ w. t + allowance w ≤ s + most_words m 0 (length (its w)))
    → MatchOption walk (u ≡ t) (λ w. u ≤ t + allowance w)
    → u ≤ s + most_words m 0 (length (unwrap_or (where_known known xs) []))
paid_listed m None its allowance known xs s t u k e p q = rw (← k) (omega (arith, p, q))
paid_listed m (Some w) its allowance known xs s t u k e p q =
    let bound : t + allowance w ≤ s + most_words m 0 (length xs) = rw (← e) p in
    rw (← k) (omega (arith, bound, q))

-- a bound by the list's length, by its items'
pub by_items : {W X : Type 0} (m : PlaneMap) (walk : Option W) (rest : W → List X) (allowance : W → ℕ) (item : X → Item) (s t : ℕ)
    → MatchOption walk (t ≤ s + most_words m 0 0) (λ w. t + allowance w ≤ s + most_words m 0 (length (rest w)))
    → MatchOption walk (t ≤ s + most_words m 0 0) (λ w. t + allowance w ≤ s + most_words m 0 (length (map item (rest w))))
by_items m None rest allowance item s t p = p
by_items m (Some w) rest allowance item s t p = rw (length-map (rest w) item) p

-- signed edges or numbers that are put down before a walk's are the answer's first
module _ {X : Type 0} (item : X → Item) (known : Bool) (some rest xs : List X) (all : some ++ rest ≡ xs) where
  pub begun_items : map item some ++ map item rest ≡ map item xs
  begun_items = sym (map-append item some rest) ∙ ap (map item) all

  begun_many : length some + length rest ≡ length (map item xs)
  begun_many = sym (length-append some rest) ∙ ap length all ∙ sym (length-map xs item)

  pub least_begun : {Y E : Type 0} (r : Result Y E) (s t u : ℕ) → true ≡ known → s + length some ≤ t → OnOk r (t + length (map item rest) ≤ u) → OnOk r (s + length (unwrap_or (where_known known (map item xs)) []) ≤ u)
  least_begun (Err e) s t u k g p = tt
  least_begun (Ok y) s t u k g p = let n = length-map rest item in rw (← k) (omega (arith, g, p, n, begun_many))

  pub paid_begun : (m : PlaneMap) (s t u a : ℕ) → true ≡ known → t + a ≤ s + most_words m (length (some ++ rest)) (length (some ++ rest)) → u ≤ t + a
      → u ≤ s + most_words m (if known then length xs else 0) (length (unwrap_or (where_known known (map item xs)) []))
  paid_begun m s t u a k p q =
      let bound : t + a ≤ s + most_words m (length xs) (length (map item xs)) = rw (length-map xs item) (rw (← all) p) in
      rw (← k) (omega (arith, bound, q))

pub paid_unknown : {X : Type 0} (m : PlaneMap) (item : X → Item) (known : Bool) (xs : List X) (s t : ℕ) → false ≡ known → t ≤ s + most_words m 0 0
    → t ≤ s + most_words m (if known then length xs else 0) (length (unwrap_or (where_known known (map item xs)) []))
paid_unknown m item known xs s t k p = rw (← k) p
