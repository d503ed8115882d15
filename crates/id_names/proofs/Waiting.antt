-- The places on ways from marks are counted number by number, while one mark may wait for the next.
use Rattle.std.proofs.Common.{◌≡◌, ℕ, ◌+◌, ◌*◌, ◌<◌, ◌≤◌, Bool, List, length, Option, None, Some, subst, arith}
use Rattle.bit_words.specs.Digits.{digits}
use Rattle.id_names.specs.Ways.{IsWay, IsOnWay, AreMany}
use Rattle.id_names.proofs.Many.{none_yet}
use Rattle.id_names.proofs.OnWays.{ways_kept, ways_more}

-- the mark that waits, or else the number
abbrev pub waiting_or : ℕ → Option ℕ → ℕ
waiting_or number None = number
waiting_or number (Some first) = first

-- so much where a mark waits, and else nothing
abbrev pub owed : ℕ → Option ℕ → ℕ
owed much None = 0
owed much (Some first) = much

-- the most steps that a way from a mark takes
abbrev pub price : List ℕ → ℕ
price places = 3 * digits (length places + 2) + 11

-- So many places are on the ways from the marks below a number, but for the one that waits, and so many steps were taken.
pub record AreCounted (places : List ℕ) (marks : List Bool) (back : List ℕ) (initial number count : ℕ) (waiting : Option ℕ) (steps : ℕ) : Type 0 where
  pub many : AreMany (IsOnWay places marks back (waiting_or number waiting)) count
  pub below : waiting_or number waiting + owed 1 waiting ≤ number
  pub few : count + owed 64 waiting ≤ 64 * number
  pub grows : initial ≤ steps
  pub cost : steps + owed (price places) waiting ≤ initial + number * (price places + 1)

module _ (places : List ℕ) (marks : List Bool) (back : List ℕ) (initial : ℕ) where
  pub counted_none : AreCounted places marks back initial 0 0 None initial
  counted_none = record {
    many = none_yet (IsOnWay places marks back 0);
    below = omega arith;
    few = omega arith;
    grows = omega arith;
    cost = omega arith;
  }

  -- a number that is no mark
  pub counted_on : (number count : ℕ) (waiting : Option ℕ) (steps : ℕ) → AreCounted places marks back initial number count waiting steps → AreCounted places marks back initial (number + 1) count waiting (steps + 1)
  counted_on number count None steps c = record {
    many = ways_kept places marks back number (number + 1) count (omega arith) c.many;
    below = omega arith;
    few = omega (arith, c.few);
    grows = omega (arith, c.grows);
    cost = omega (arith, c.cost);
  }
  counted_on number count (Some first) steps c = record {
    many = c.many;
    below = omega (arith, c.below);
    few = omega (arith, c.few);
    grows = omega (arith, c.grows);
    cost = omega (arith, c.cost);
  }

  -- a mark that waits
  pub counted_waits : (number count steps : ℕ) → AreCounted places marks back initial number count None steps → AreCounted places marks back initial (number + 1) count (Some number) (steps + 1)
  counted_waits number count steps c = record {
    many = c.many;
    below = omega arith;
    few = omega (arith, c.few);
    grows = omega (arith, c.grows);
    cost = omega (arith, c.cost);
  }

  -- the one that waits is below
  waits_below : (number count first steps : ℕ) → AreCounted places marks back initial number count (Some first) steps → first < number
  waits_below number count first steps c = omega (arith, c.below)

  -- a mark, and the one that waited for it
  pub counted_both : (number count first a b steps more : ℕ) → AreCounted places marks back initial number count (Some first) steps → IsWay places marks back first a → IsWay places marks back number b → (a ≤ 64) × (b ≤ 64) → steps + 1 ≤ more → more ≤ steps + 1 + 2 * price places → AreCounted places marks back initial (number + 1) (count + (a + b)) None more
  counted_both number count first a b steps more c one other few grows cost =
      let many =
      ways_more places marks back number (number + 1) (count + a) b (omega arith) (ways_more places marks back first number count a (waits_below number count first steps c) c.many one) other in
      let e : count + a + b ≡ count + (a + b) = omega arith in
      record {
        many = subst (AreMany (IsOnWay places marks back (number + 1))) e many;
        below = omega arith;
        few = omega (arith, c.few, few.0, few.1);
        grows = omega (arith, c.grows, grows);
        cost = omega (arith, c.cost, cost);
      }

  -- the last mark, where it waits alone
  pub counted_last : (number count last a steps : ℕ) → AreCounted places marks back initial number count (Some last) steps → IsWay places marks back last a → AreMany (IsOnWay places marks back number) (count + a)
  counted_last number count last a steps c way = ways_more places marks back last number count a (waits_below number count last steps c) c.many way
