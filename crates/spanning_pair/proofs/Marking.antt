-- What the marks of edges say once an edge is marked.
use Rattle.std.proofs.Common.{◌≡◌, ℕ, zero, suc, List, ◌∷◌, Bool, true, false, cond, refl, ◌∙◌, ap}
use Rattle.std.proofs.lemmas.List.{map-set}
use Rattle.std.proofs.Math.ListN.{set, replicate}
use Rattle.std.specs.Prelude.{not}
use Rattle.spanning_pair.specs.declared.marks.EdgeMark.{EdgeMark}
use Rattle.spanning_pair.specs.declared.marks.EdgeMark.TheVariants.{New}
use Rattle.spanning_pair.specs.Marks.{is_seen, is_tree, mark_where, seen_in, trees_in}

seen_where : (b : Bool) → is_seen (mark_where b) ≡ true
seen_where true = refl
seen_where false = refl

tree_where : (b : Bool) → is_tree (mark_where b) ≡ not b
tree_where true = refl
tree_where false = refl

pub seen_marked : (f b : Bool) (marks : List EdgeMark) (i : ℕ) → seen_in (cond f (set marks i (mark_where b)) marks) ≡ cond f (set (seen_in marks) i true) (seen_in marks)
seen_marked true b marks i = map-set is_seen marks i (mark_where b) ∙ ap (set (seen_in marks) i) (seen_where b)
seen_marked false b marks i = refl

pub trees_marked : (f b : Bool) (marks : List EdgeMark) (i : ℕ) → trees_in (cond f (set marks i (mark_where b)) marks) ≡ cond f (set (trees_in marks) i (not b)) (trees_in marks)
trees_marked true b marks i = map-set is_tree marks i (mark_where b) ∙ ap (set (trees_in marks) i) (tree_where b)
trees_marked false b marks i = refl

pub none_seen : (n : ℕ) → seen_in (replicate n New) ≡ replicate n false
none_seen zero = refl
none_seen (suc n) = ap (λ bs. false ∷ bs) (none_seen n)

pub no_trees : (n : ℕ) → trees_in (replicate n New) ≡ replicate n false
no_trees zero = refl
no_trees (suc n) = ap (λ bs. false ∷ bs) (no_trees n)
