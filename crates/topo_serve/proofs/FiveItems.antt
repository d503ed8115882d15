-- The items of the answer to `counts`.
use Rattle.std.specs.Prelude.{map, flat_map}
use Rattle.std.proofs.Common.{◌≡◌, List, [], ◌∷◌, ℕ, length, ap, ◌∙◌, sym}
use Rattle.topo_base.specs.Script as script
use Rattle.topo_base.specs.Script.{Item, item_text}
use Rattle.plane_model.specs.PlaneMap.{PlaneMap}
use Rattle.plane_model.specs.Component.{components}
use Rattle.plane_model.specs.Answers.{items, after_colon}
use Rattle.file_laws.specs.Contents.{Contents}
use Rattle.pemb_file.specs.Served.{AreCounts}
use Rattle.file_laws.specs.Counted.{HasCounts}
use Rattle.pemb_file.specs.declared.counts.Counts.{Counts}

same_counts : (c : Contents) (counts : Counts) (m : PlaneMap) → AreCounts c counts → HasCounts c m
    → counts.nodes ∷ counts.edges ∷ counts.faces ∷ counts.components ∷ counts.regions ∷ []
    ≡ length m.nodes.keys ∷ length m.edges.keys ∷ length m.faces ∷ length (components m) ∷ length m.regions.keys ∷ []
same_counts c counts m a h =
    ap (λ (x : ℕ). x ∷ counts.edges ∷ counts.faces ∷ counts.components ∷ counts.regions ∷ []) (a.nodes ∙ sym h.nodes)
    ∙ ap (λ (x : ℕ). length m.nodes.keys ∷ x ∷ counts.faces ∷ counts.components ∷ counts.regions ∷ []) (a.edges ∙ sym h.edges)
    ∙ ap (λ (x : ℕ). length m.nodes.keys ∷ length m.edges.keys ∷ x ∷ counts.components ∷ counts.regions ∷ []) (a.faces ∙ sym h.faces)
    ∙ ap (λ (x : ℕ). length m.nodes.keys ∷ length m.edges.keys ∷ length m.faces ∷ x ∷ counts.regions ∷ []) (a.components ∙ sym h.components)
    ∙ ap (λ (x : ℕ). length m.nodes.keys ∷ length m.edges.keys ∷ length m.faces ∷ length (components m) ∷ x ∷ []) (a.regions ∙ sym h.regions)

pub listed_counts : (c : Contents) (counts : Counts) (m : PlaneMap) → AreCounts c counts → HasCounts c m
    → flat_map item_text (map Item.Number (counts.nodes ∷ counts.edges ∷ counts.faces ∷ counts.components ∷ counts.regions ∷ [])) ≡ after_colon (items m script.Query.Counts)
listed_counts c counts m a h = ap (λ (xs : List ℕ). flat_map item_text (map Item.Number xs)) (same_counts c counts m a h)
