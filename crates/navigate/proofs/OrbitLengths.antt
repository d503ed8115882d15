-- Orbits of one number are equally long, and the smallest of an orbit is in it.
use Rattle.std.specs.Prelude.{filter, Contains, ◌++◌, ◌&&◌, ◌==◌}
use Rattle.std.specs.List.{range_with_len}
use Rattle.std.proofs.Common.{◌≡◌, ℕ, zero, suc, ◌+◌, ◌-◌, ◌*◌, ◌<◌, ◌≤◌, Bool, true, List, [], ◌∷◌, length, refl, ap, sym, ◌∙◌, arith, subst, inl, inr, length-append}
use Rattle.std.proofs.lemmas.Bool.{cases_Bool}
use Rattle.std.proofs.lemmas.List.{length-map}
use Rattle.std.proofs.lemmas.List.Elements.{filter-append}
use Rattle.std.proofs.Math.Nat.{mul-le-mul_left}
use Rattle.bit_words.specs.Digits.{digits}
use Rattle.bit_words.proofs.DigitLaws.{digits-mono}
use Rattle.code_laws.specs.Code.{Code, component_of}
use Rattle.code_laws.specs.Numbers.{enclosing_pair}
use Rattle.code_laws.specs.Orbits.{orbit, is_beside, same_number}
use Rattle.code_laws.specs.SeqFault.{is_sound}
use Rattle.code_laws.proofs.Sound.{SoundParts, sound_parts}
use Rattle.code_laws.proofs.Beside.{AreBeside}
use Rattle.code_laws.proofs.Turned.{orbit_on}
use Rattle.code_laws.proofs.Numbered.{of_orbit}
use Rattle.file_laws.specs.Contents.{Contents}
use Rattle.file_laws.specs.MapOfFile.{signed_at}
use Rattle.navigate.specs.Bound.{line_digits}
use Rattle.navigate.specs.Least.{from_smallest, smallest_of}
use Rattle.navigate.specs.OrbitWalk.{contents_in, rest, price, rank_price, allowance}
use Rattle.navigate.specs.declared.orbit_walk.OrbitWalk.{OrbitWalk}
use Rattle.navigate.proofs.Leasts.{least-among}

pub filter-same : (t u : ℕ → Bool) (xs : List ℕ) → ((x : ℕ) → t x ≡ u x) → filter t xs ≡ filter u xs
filter-same t u [] h = refl
filter-same t u (x ∷ xs) h =
    elim (cases_Bool (u x)) [
      | inl w ↦ rw (h x, w) (ap (λ ys. x ∷ ys) (filter-same t u xs h))
      | inr f ↦ rw (h x, f) (filter-same t u xs h)
    ]

pub range-split : (low p n total : ℕ) → total ≡ p + n → range_with_len low total ≡ range_with_len low p ++ range_with_len (low + p) n
range-split low zero n total e =
    let same : total ≡ n = omega arith in
    let there : low ≡ low + 0 = omega arith in
    ap (range_with_len low) same ∙ ap (λ x. range_with_len x n) there
range-split low (suc p) n zero e = absurd (omega arith)
range-split low (suc p) n (suc total) e =
    let there : low + 1 + p ≡ low + suc p = omega arith in
    ap (λ xs. low ∷ xs) (range-split (low + 1) p n total (omega arith) ∙ ap (λ x. range_with_len (low + 1) p ++ range_with_len x n) there)

-- how many pass a test does not depend on where one begins
turned : (t : ℕ → Bool) (n p : ℕ) → p ≤ n → length (filter t (range_with_len p (n - p) ++ range_with_len 0 p)) ≡ length (filter t (range_with_len 0 n))
turned t n p l =
    let front = range_with_len 0 p in
    let back = range_with_len p (n - p) in
    let zero_there : 0 + p ≡ p = omega arith in
    let all : range_with_len 0 n ≡ front ++ back = range-split 0 p (n - p) n (omega arith) ∙ ap (λ x. front ++ range_with_len x (n - p)) zero_there in
    let one = ap length (filter-append t back front) ∙ length-append (filter t back) (filter t front) in
    let other = ap (λ xs. length (filter t xs)) all ∙ ap length (filter-append t front back) ∙ length-append (filter t front) (filter t back) in
    omega (arith, one, other)

pub beside-alike : (c : Code) (kind : Bool) (p q x : ℕ) → AreBeside c kind p q → is_beside c kind q x ≡ is_beside c kind p x
beside-alike c kind p q x b =
    ap (λ y. (y == component_of c x) && same_number (enclosing_pair c kind q) (enclosing_pair c kind x)) b.component
    ∙ ap (λ o. (component_of c p == component_of c x) && same_number o (enclosing_pair c kind x)) b.number

pub orbit-length : (c : Code) → SoundParts c → (kind : Bool) (p q : ℕ) → p < length c.a → q < length c.a → AreBeside c kind p q → length (orbit c kind q) ≡ length (orbit c kind p)
orbit-length c s kind p q l k b =
    let n = length c.a in
    let at_q = ap length (orbit_on c s kind q k) ∙ turned (is_beside c kind q) n q (omega arith) in
    let at_p = ap length (orbit_on c s kind p l) ∙ turned (is_beside c kind p) n p (omega arith) in
    at_q ∙ ap length (filter-same (is_beside c kind q) (is_beside c kind p) (range_with_len 0 n) (λ x. beside-alike c kind p q x b)) ∙ sym at_p

module _ (m : Contents) (sound : is_sound m.code ≡ true) (kind : Bool) (p : ℕ) (l : p < length m.code.a) where
  among : (x : ℕ) → Contains (p ∷ orbit m.code kind p) x → AreBeside m.code kind p x
  among x (zero, k, e) = subst (AreBeside m.code kind p) e (record { component = refl; number = refl })
  among x (suc i, k, e) = of_orbit m.code (sound_parts m.code sound) kind p x l (i, omega (arith, k), e)

  pub smallest-beside : AreBeside m.code kind p (smallest_of m kind p)
  smallest-beside = among (smallest_of m kind p) (least-among m p (orbit m.code kind p))

  pub smallest-length : smallest_of m kind p < length m.code.a → length (from_smallest m kind p) ≡ length (orbit m.code kind p)
  smallest-length k =
      length-map (orbit m.code kind (smallest_of m kind p)) (signed_at m) ∙ orbit-length m.code (sound_parts m.code sound) kind p (smallest_of m kind p) l k smallest-beside

digits-two : digits 2 ≡ 2
unfolding digits
digits-two = refl

pub some_digits : (m : Contents) → 2 ≤ line_digits m
some_digits m = let more = digits-mono 2 (2 * length m.edges + length m.isolated + 2 * length m.regions + 2) (omega arith) in omega (arith, more, digits-two)

-- the ranks and then the signed edges of n positions
pub twice_read : (m : Contents) (n : ℕ) → (rank_price m + price m) * n ≤ 512 * line_digits m * n
twice_read m n =
    let two = some_digits m in
    let more : n * 1 ≤ n * line_digits m = mul-le-mul_left n (omega (arith, two)) in
    omega (arith, more)

-- a walk from the smallest, made by one search
pub making_paid : (w : OrbitWalk) (m : Contents) (n first last : ℕ) → contents_in w ≡ m → length (rest w) ≡ n → last ≤ first + rank_price m * n
    → last + allowance w ≤ first + (rank_price m + price m) * length (rest w)
unfolding allowance
making_paid w m n first last same e h =
    let all : price (contents_in w) * length (rest w) ≡ price m * n = ap (λ x. price x * length (rest w)) same ∙ ap (λ x. price m * x) e in
    let other : (rank_price m + price m) * length (rest w) ≡ (rank_price m + price m) * n = ap (λ x. (rank_price m + price m) * x) e in
    omega (arith, all, other, h)

-- a walk that was made without a search
pub walk_made : (w : OrbitWalk) (m : Contents) (first : ℕ) → contents_in w ≡ m → first + allowance w ≤ first + 512 * line_digits m * length (rest w)
unfolding allowance
walk_made w m first same =
    let all : price (contents_in w) * length (rest w) ≡ price m * length (rest w) = ap (λ x. price x * length (rest w)) same in
    let twice = twice_read m (length (rest w)) in
    omega (arith, all, twice)
