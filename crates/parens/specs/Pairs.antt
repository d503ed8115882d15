-- What pairs, the pairs round a gap, and balanced places are.
use Rattle.std.specs.Prelude.{ℕ, ◌≡◌, ◌≢◌, ◌<◌, ◌≤◌, Bool, true, false, not, List, length}
use Rattle.parens.specs.Matching.{is_open, mate_of}

-- places i and j are a pair, and the mate of each place between them is between them
pub record IsPair (bits : List Bool) (i j : ℕ) : Type 0 where
  pub order : i < j
  pub within : j < length bits
  pub opens : is_open bits i ≡ true
  pub closes : is_open bits j ≡ false
  pub forth : mate_of bits i ≡ j
  pub back : mate_of bits j ≡ i
  pub nests : (k : ℕ) → i < k → k < j → (i < mate_of bits k) × (mate_of bits k < j)

-- the pair that opens at i opens before the gap and closes at or after it, and each other pair that does encloses it
pub record IsInnermost (bits : List Bool) (gap i : ℕ) : Type 0 where
  pub opens : is_open bits i ≡ true
  pub before : i < gap
  pub after : gap ≤ mate_of bits i
  pub inside : (k : ℕ) → is_open bits k ≡ true → k < gap → gap ≤ mate_of bits k → (k ≤ i) × (mate_of bits i ≤ mate_of bits k)

-- the pair that opens at k is the pair that opens at i or encloses it
pub record IsOver (bits : List Bool) (k i : ℕ) : Type 0 where
  pub opens : is_open bits k ≡ true
  pub from : k ≤ i
  pub to : mate_of bits i ≤ mate_of bits k

-- the pair that opens at k is or encloses both, and each other pair that is or encloses both encloses it
pub record IsCommon (bits : List Bool) (i j k : ℕ) : Type 0 where
  pub first : IsOver bits k i
  pub second : IsOver bits k j
  pub inside : (q : ℕ) → IsOver bits q i → IsOver bits q j → IsOver bits q k

-- each place from `from` to before `to` has its mate among them
pub record AreMated (bits : List Bool) (from to : ℕ) : Type 0 where
  pub low : (i : ℕ) → from ≤ i → i < to → from ≤ mate_of bits i
  pub high : (i : ℕ) → from ≤ i → i < to → mate_of bits i < to
  pub other : (i : ℕ) → from ≤ i → i < to → is_open bits (mate_of bits i) ≡ not (is_open bits i)

-- place p closes what does not open from `from` on
pub record IsUnmatched (bits : List Bool) (from p : ℕ) : Type 0 where
  pub closes : is_open bits p ≡ false
  pub alone : (i : ℕ) → from ≤ i → i < p → is_open bits i ≡ true → mate_of bits i ≢ p

-- place i opens and nothing before `to` closes it
pub record StaysOpen (bits : List Bool) (to i : ℕ) : Type 0 where
  pub opens : is_open bits i ≡ true
  pub alone : (j : ℕ) → i < j → j < to → mate_of bits i ≢ j

-- p is the first place from `from` on that is unmatched, or `to` where none is and some place stays open
pub record IsFirstUnmatched (bits : List Bool) (from to p : ℕ) : Type 0 where
  pub low : from ≤ p
  pub high : p ≤ to
  pub first : (j : ℕ) → from ≤ j → j < p → ¬ IsUnmatched bits from j
  pub closes : p < to → IsUnmatched bits from p
  pub opens : p ≡ to → (i : ℕ) × (from ≤ i) × (i < to) × StaysOpen bits to i
