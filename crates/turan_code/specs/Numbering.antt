-- The walk that numbers are made from, and what is known at a place of it.
use Rattle.std.specs.Prelude.{ℕ, ◌≡◌, ◌+◌, ◌-◌, ◌<◌, ◌≤◌, Bool, true, false, List, [], ◌∷◌, ◌++◌, length, IsTrue}
use Rattle.bit_words.specs.Bits.{rank}
use Rattle.code_laws.specs.Code.{Code, parens, place, component_count, start_of}
use Rattle.code_laws.specs.Numbers.{edge_of, node_of, ring_of}
use Rattle.code_laws.specs.SeqFault.{is_sound}
use Rattle.code_laws.specs.Tour.{code_of, ring_code}
use Rattle.code_laws.specs.Enclosing.{enclosing_numbers}
use Rattle.turan_code.specs.declared.numbering.Walk.{Walk}
use Rattle.turan_code.specs.declared.numbering.OpenPairs.{OpenPairs}
use Rattle.turan_code.specs.declared.numbering.Gap.{Gap}
use Rattle.turan_code.specs.declared.numbering.Numbers.{Numbers}
use Rattle.turan_code.specs.declared.numbering.CodeNumbering.{CodeNumbering}

-- the code of a walk
abbrev pub code_of_walk : Walk → Code
code_of_walk w = code_of w.tree.now w.first.now w.starts.now

-- a walk with a sound code, so short that numbers fit
pub record IsWalk (w : Walk) : Type 0 where
  pub same : length w.tree.now ≡ length w.first.now
  pub few : length w.tree.now ≤ 2147483647
  pub sound : IsTrue (is_sound (code_of_walk w))

-- a place was passed that opens or closes the pair of this number
abbrev pub Passes : Bool → OpenPairs → OpenPairs → ℕ → Type 0
Passes true before after number = (number ≡ before.opened) × (after.numbers.items ≡ before.numbers.items ++ number ∷ []) × (after.opened ≡ before.opened + 1)
Passes false before after number = (before.numbers.items ≡ after.numbers.items ++ number ∷ []) × (after.opened ≡ before.opened)

-- the pairs of a kind round the gap before a position, the outermost first, and how many have opened before it
pub record AreEnclosing (c : Code) (kind : Bool) (p : ℕ) (pairs : OpenPairs) : Type 0 where
  pub numbers : pairs.numbers.items ≡ enclosing_numbers (parens c kind) (place c kind p)
  pub opened : pairs.opened ≡ rank true (parens c kind) (place c kind p)

-- how many components have begun before a position
pub record HaveBegun (c : Code) (p begun : ℕ) : Type 0 where
  pub within : begun ≤ component_count c
  pub next : p ≤ start_of c begun
  pub last : 1 ≤ begun → start_of c (begun - 1) < p
  pub none : begun ≡ 0 → p ≡ 0

-- what is known of the gap before a position
pub record IsGap (c : Code) (p : ℕ) (gap : Gap) : Type 0 where
  pub tree : AreEnclosing c true p gap.tree
  pub dual : AreEnclosing c false p gap.dual
  pub begun : HaveBegun c p gap.begun

-- the numbers at a position
pub record AreNumbersAt (c : Code) (p : ℕ) (numbers : Numbers) : Type 0 where
  pub edge : numbers.edge ≡ edge_of c p
  pub node : numbers.node ≡ node_of c p
  pub ring : numbers.ring ≡ ring_code (ring_of c p)

-- a numbering with these lists
pub record HasLists (edges nodes rings : List ℕ) (numbering : CodeNumbering) : Type 0 where
  pub edge : numbering.edge.items ≡ edges
  pub node : numbering.node.items ≡ nodes
  pub ring : numbering.ring.items ≡ rings
