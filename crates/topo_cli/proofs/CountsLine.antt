-- The line of a file's counts.
use Rattle.std.specs.Prelude.{map, flat_map, IfOk}
use Rattle.std.proofs.Common.{◌≡◌, List, [], ◌∷◌, ◌++◌, ℕ, length, ap, ◌∙◌, sym, Result, Ok, Err}
use Rattle.topo_base.specs.Script.{Item, item_text}
use Rattle.plane_model.specs.PlaneMap.{PlaneMap}
use Rattle.plane_model.specs.Component.{components}
use Rattle.file_laws.specs.Contents.{Contents}
use Rattle.pemb_file.specs.Served.{AreCounts}
use Rattle.file_laws.specs.Counted.{HasCounts}
use Rattle.pemb_file.specs.declared.counts.Counts.{Counts}
use Rattle.topo_cli.specs.Text.{counts_line, five}

same_counts : (c : Contents) (counts : Counts) (m : PlaneMap) → AreCounts c counts → HasCounts c m
    → five counts ≡ length m.nodes.keys ∷ length m.edges.keys ∷ length m.faces ∷ length (components m) ∷ length m.regions.keys ∷ []
same_counts c counts m a h =
    ap (λ (x : ℕ). x ∷ counts.edges ∷ counts.faces ∷ counts.components ∷ counts.regions ∷ []) (a.nodes ∙ sym h.nodes)
    ∙ ap (λ (x : ℕ). length m.nodes.keys ∷ x ∷ counts.faces ∷ counts.components ∷ counts.regions ∷ []) (a.edges ∙ sym h.edges)
    ∙ ap (λ (x : ℕ). length m.nodes.keys ∷ length m.edges.keys ∷ x ∷ counts.components ∷ counts.regions ∷ []) (a.faces ∙ sym h.faces)
    ∙ ap (λ (x : ℕ). length m.nodes.keys ∷ length m.edges.keys ∷ length m.faces ∷ x ∷ counts.regions ∷ []) (a.components ∙ sym h.components)
    ∙ ap (λ (x : ℕ). length m.nodes.keys ∷ length m.edges.keys ∷ length m.faces ∷ length (components m) ∷ x ∷ []) (a.regions ∙ sym h.regions)

pub shown_counts : (word : List ℕ) (c : Contents) (counts : Counts) (m : PlaneMap) → AreCounts c counts → HasCounts c m → word ++ flat_map item_text (map Item.Number (five counts)) ++ 10 ∷ [] ≡ counts_line word m
shown_counts word c counts m a h = ap (λ (xs : List ℕ). word ++ flat_map item_text (map Item.Number xs) ++ 10 ∷ []) (same_counts c counts m a h)

pub if_ok_more : {A E : Type 0} (r : Result A E) (P Q : A → Type 0) → IfOk r P → ((x : A) → P x → Q x) → IfOk r Q
if_ok_more (Ok x) P Q p f = f x p
if_ok_more (Err e) P Q p f = p
