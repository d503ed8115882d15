-- Components are the same seen from each of their darts.
use Rattle.std.proofs.Common.{◌≡◌, ℕ, zero, suc, ◌*◌, ◌/◌, ◌<◌, sym, subst, inl, inr}
use Rattle.spanning_pair.specs.Darts.{reverse_dart, turn, turned, IsDartSystem, InComponent}
use Rattle.orbits.specs.Components.InComponent.{itself, reversed, turned_on}
use Rattle.spanning_pair.proofs.OtherDart.{reverse_reverse, reverse_below, half_cases}
use Rattle.spanning_pair.proofs.ByRule.{node_of_turn}

pub component_join : (next : ℕ → ℕ) (a b d : ℕ) → InComponent next a b → InComponent next b d → InComponent next a d
component_join next a b d h itself = h
component_join next a b d h (reversed e c) = reversed e (component_join next a b e h c)
component_join next a b d h (turned_on e c) = turned_on e (component_join next a b e h c)

pub component_turned : (next : ℕ → ℕ) (a d k : ℕ) → InComponent next a d → InComponent next a (turned next k d)
component_turned next a d zero h = h
component_turned next a d (suc k) h = turned_on (turned next k d) (component_turned next a d k h)

module _ (m : ℕ) (next node : ℕ → ℕ) (rot : IsDartSystem m next node) where
  pub component_below : (a d : ℕ) → a < 2 * m → InComponent next a d → d < 2 * m
  component_below a d h itself = h
  component_below a d h (reversed e c) = reverse_below e m (component_below a e h c)
  component_below a d h (turned_on e c) = rot.next_below (reverse_dart e) (reverse_below e m (component_below a e h c))

  pub component_back : (a d : ℕ) → a < 2 * m → InComponent next a d → InComponent next d a
  component_back a d h itself = itself
  component_back a d h (reversed e c) =
      let s : InComponent next (reverse_dart e) e = subst (InComponent next (reverse_dart e)) (reverse_reverse e) (reversed (reverse_dart e) itself) in
      component_join next (reverse_dart e) e a s (component_back a e h c)
  component_back a d h (turned_on e c) =
      let l = component_below a e h c in
      let l2 = rot.next_below (reverse_dart e) (reverse_below e m l) in
      let k = rot.round (turn next e) e l2 l (node_of_turn m next node rot e l) in
      let s : InComponent next (turn next e) e = subst (InComponent next (turn next e)) k.1 (component_turned next (turn next e) (turn next e) k.0 itself) in
      component_join next (turn next e) e a s (component_back a e h c)

  -- two components that share a dart are one
  pub component_meet : (a b d : ℕ) → a < 2 * m → b < 2 * m → InComponent next a d → InComponent next b d → InComponent next a b
  component_meet a b d h h2 c c2 = component_join next a d b c (component_back b d h2 c2)

  -- the darts of one edge, and those that leave one node, are of one component
  pub component_of_edge : (a d e : ℕ) → InComponent next a d → d / 2 ≡ e / 2 → InComponent next a e
  component_of_edge a d e c h = elim (half_cases d e h) [
    | inl i ↦ subst (InComponent next a) (sym i) c
    | inr i ↦ subst (InComponent next a) (sym i) (reversed d c)
  ]

  pub component_of_node : (a d e : ℕ) → a < 2 * m → e < 2 * m → InComponent next a d → node d ≡ node e → InComponent next a e
  component_of_node a d e h h2 c s =
      let k = rot.round d e (component_below a d h c) h2 s in
      subst (InComponent next a) k.1 (component_turned next a d k.0 c)
