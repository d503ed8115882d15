-- What a map has of the code that it is made from.
use Rattle.std.specs.Prelude.{◌≡◌, ℕ, ◌<◌, ℤ, List, map, length, IsTrue}
use Rattle.topo_base.specs.SignedEdge.{reverse}
use Rattle.plane_model.specs.Sets.{has_edge}
use Rattle.plane_model.specs.PlaneMap.{PlaneMap, signed_edges, origin, side, next as next_edge, turn as turn_edge}
use Rattle.std.specs.List.{range_with_len}
use Rattle.code_laws.specs.Code.{positions, mate, next, turn, start_of}
use Rattle.file_laws.specs.Contents.{Contents, component_count}
use Rattle.file_laws.specs.MapOfFile.{signed_at, node_at, face_at}

-- Each position is one signed edge, and steps, ends and sides agree.
pub record Agrees (c : Contents) (m : PlaneMap) : Type 0 where
  pub there : (p : ℕ) → p < length c.code.a → IsTrue (has_edge (signed_edges m) (signed_at c p))
  pub every : (d : ℤ) → IsTrue (has_edge (signed_edges m) d) → IsTrue (has_edge (map (signed_at c) (positions c.code)) d)
  pub one : (p q : ℕ) → p < length c.code.a → q < length c.code.a → signed_at c p ≡ signed_at c q → p ≡ q
  pub reversed : (p : ℕ) → p < length c.code.a → signed_at c (mate c.code p) ≡ reverse (signed_at c p)
  pub origins : (p : ℕ) → p < length c.code.a → origin m (signed_at c p) ≡ node_at c p
  pub sides : (p : ℕ) → p < length c.code.a → side m (signed_at c p) ≡ face_at c p
  pub nexts : (p : ℕ) → p < length c.code.a → next_edge m (signed_at c p) ≡ signed_at c (next c.code p)
  pub turns : (p : ℕ) → p < length c.code.a → turn_edge m (signed_at c p) ≡ signed_at c (turn c.code p)

-- the signed edges at the starts of components
abbrev pub starts_of : Contents → List ℤ
starts_of c = map (λ j. signed_at c (start_of c.code j)) (range_with_len 0 (component_count c))
