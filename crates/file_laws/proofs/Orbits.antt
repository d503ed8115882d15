-- Rings and rounds of the map are orbits of positions.
use Rattle.std.specs.Prelude.{ℤ, IsTrue, map, unwrap_or}
use Rattle.std.proofs.Common.{◌≡◌, ℕ, ◌*◌, ◌<◌, Bool, true, false, length, refl, ap, sym, ◌∙◌, arith}
use Rattle.orbits.specs.Renaming.{Renames, Carries}
use Rattle.orbits.proofs.Numbers.{same_numbers}
use Rattle.orbits.proofs.Lists.{from_contains}
use Rattle.orbits.proofs.Orbits.{some_steps}
use Rattle.orbits.proofs.Reached.{walk_stepped, kept}
use Rattle.orbits.proofs.Carried.{walk_carried, meets_carried, name_in}
use Rattle.plane_model.specs.Sets.{has_edge, rising}
use Rattle.plane_model.specs.PlaneMap.{PlaneMap, map_of, signed_edges, next as next_edge, turn as turn_edge, until_return, ring, round}
use Rattle.plane_model.proofs.SetLaws.{same_edges}
use Rattle.code_laws.specs.Code.{next, turn}
use Rattle.code_laws.specs.Numbers.{node_of, ring_of}
use Rattle.code_laws.specs.Orbits.{walk, orbit}
use Rattle.code_laws.proofs.Beside.{AreBeside, next_ring, turn_node}
use Rattle.code_laws.proofs.Numbered.{ring-beside, node-beside, in_orbit}
use Rattle.file_laws.specs.Contents.{Contents}
use Rattle.file_laws.specs.MapOfFile.{signed_at, edge_row, rows_of_contents}
use Rattle.file_laws.specs.Agreement.{Agrees}
use Rattle.id_names.specs.Names.{number_of}
use Rattle.file_laws.proofs.Lists.{keys_kept, length-both, length-rising, position_in}
use Rattle.file_laws.proofs.Agreement.{agrees}
use Rattle.file_laws.proofs.Whole.{WholeParts}

module _ (c : Contents) (w : WholeParts c) where
  abbrev m : PlaneMap
  m = map_of (rows_of_contents c)

  -- as many signed edges as positions
  pub many : length (signed_edges m) ≡ length c.code.a
  unfolding signed_edges
  many =
      let keys = keys_kept (λ r. r.id) (λ id. edge_row c id (unwrap_or (number_of c.edges id) 0)) (λ x. refl) (rising c.edges) in
      let s = w.sizes.positions in
      rw keys (length-both (rising (rising c.edges)) ∙ ap (λ x. 2 * x) (length-rising (rising c.edges) ∙ length-rising c.edges) ∙ sym s)

  abbrev a : Agrees c m
  a = agrees c w.seen

  -- signed edges are names of positions, which carry nexts and turns
  pub positions_named : Renames (λ p. p < length c.code.a) (λ d. IsTrue (has_edge (signed_edges m) d)) (signed_at c)
  positions_named = record { into = a.there; one = a.one; onto = λ d h. (let r = position_in (signed_at c) 0 (length c.code.a) d (a.every d h) in (r.0, omega (arith, r.2), r.3)) }

  pub next_carried : Carries (λ p. p < length c.code.a) (signed_at c) (next c.code) (next_edge m)
  next_carried = record { stays = λ p l. (next_ring c.code w.seen.sound p l).0; same = λ p l. sym (a.nexts p l) }

  pub turn_carried : Carries (λ p. p < length c.code.a) (signed_at c) (turn c.code) (turn_edge m)
  turn_carried = record { stays = λ p l. (turn_node c.code w.seen.sound p l).0; same = λ p l. sym (a.turns p l) }

  -- the orbit of a step from a position, by names
  named_orbit : (step : ℕ → ℕ) (go : ℤ → ℤ) → Carries (λ p. p < length c.code.a) (signed_at c) step go → (p : ℕ) → p < length c.code.a
      → until_return (length (signed_edges m)) go (signed_at c p) (signed_at c p) ≡ map (signed_at c) (walk (length c.code.a) step p p)
  named_orbit step go carried p l =
      ap (λ n. until_return n go (signed_at c p) (signed_at c p)) many
      ∙ walk_carried same_numbers same_edges (signed_at c) (λ p. p < length c.code.a) step go a.one carried (length c.code.a) p p l l

  pub ring-orbit : (p : ℕ) → p < length c.code.a → ring m (signed_at c p) ≡ map (signed_at c) (orbit c.code false p)
  ring-orbit p l = named_orbit (next c.code) (next_edge m) next_carried p l

  pub round-orbit : (p : ℕ) → p < length c.code.a → round m (signed_at c p) ≡ map (signed_at c) (orbit c.code true p)
  round-orbit p l = named_orbit (turn c.code) (turn_edge m) turn_carried p l

  -- the positions beside p are on its orbit
  on_named : (kind : Bool) (p q : ℕ) → p < length c.code.a → q < length c.code.a → AreBeside c.code kind p q → has_edge (map (signed_at c) (orbit c.code kind p)) (signed_at c q) ≡ true
  on_named kind p q l k beside = name_in same_numbers same_edges (signed_at c) (orbit c.code kind p) q (from_contains same_numbers (orbit c.code kind p) q (in_orbit c.code w.seen.sound kind p q l k beside))

  -- one ring exactly where the numbers of rings are the same
  pub ring_from : (p q : ℕ) → p < length c.code.a → q < length c.code.a → ring_of c.code p ≡ ring_of c.code q → has_edge (ring m (signed_at c p)) (signed_at c q) ≡ true
  ring_from p q l k same = rw (ring-orbit p l) (on_named false p q l k (ring-beside c.code w.seen.sound p q l k same))

  pub ring_to : (p q : ℕ) → p < length c.code.a → q < length c.code.a → has_edge (ring m (signed_at c p)) (signed_at c q) ≡ true → ring_of c.code p ≡ ring_of c.code q
  ring_to p q l k on =
      let s = some_steps same_edges (length (signed_edges m)) (next_edge m) (signed_at c p) (signed_at c p) (signed_at c q) on in
      let steps = (meets_carried (λ p. p < length c.code.a) (signed_at c) (next c.code) (next_edge m) next_carried a.one p q l k).1 (s.0, sym (walk_stepped (next_edge m) s.0 (signed_at c p)) ∙ s.1) in
      sym (kept (λ p. p < length c.code.a) (next c.code) (ring_of c.code) (next_ring c.code w.seen.sound) steps.0 p l).1 ∙ ap (ring_of c.code) steps.1

  -- one node has one round
  pub round_from : (p q : ℕ) → p < length c.code.a → q < length c.code.a → node_of c.code p ≡ node_of c.code q → has_edge (round m (signed_at c p)) (signed_at c q) ≡ true
  round_from p q l k same = rw (round-orbit p l) (on_named true p q l k (node-beside c.code w.seen.sound p q l k same))
