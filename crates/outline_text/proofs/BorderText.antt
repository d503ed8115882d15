-- The text of an outline, by what came of looking for the region.
use Rattle.std.specs.Prelude.{codes, flat_map, map, if◌then◌else◌, OnOk}
use Rattle.std.proofs.Common.{◌≡◌, ◌∙◌, ℕ, ◌+◌, ◌*◌, ◌≤◌, Bool, true, false, List, [], ◌∷◌, ◌++◌, length, ap, arith, append_assoc, Result, Ok, Err}
use Rattle.bit_words.specs.Digits.{digits}
use Rattle.topo_base.specs.Script.{Item}
use Rattle.plane_model.specs.PlaneMap.{PlaneMap}
use Rattle.plane_model.specs.Consistent.{size}
use Rattle.plane_model.specs.Regions.{is_region}
use Rattle.plane_model.specs.Border.{border}
use Rattle.plane_model.specs.Answers.{after_colon, where_known}
use Rattle.navigate.specs.Bound.{most_words}
use Rattle.region_border.specs.Items.{items_of}
use Rattle.region_border.specs.Prices.{most_border_words}
use Rattle.region_border.specs.declared.item.BorderItem.{BorderItem}
use Rattle.outline_text.specs.Lines.{border_text, edges_told, region_text, ring_line}
use Rattle.outline_text.specs.Told.{counts_text, edges_among, outline_text, rings_among, rings_text}
use Rattle.outline_text.proofs.RingText.{edges_counted, lines_of_border, rings_counted}

-- the text where the region is known or not
abbrev text_where : PlaneMap → ℕ → Bool → List ℕ
text_where m r known =
    let rings = (if known then border m r else []) in
    flat_map ring_line rings ++ region_text r ++ after_colon (where_known known (map Item.Number (length rings ∷ length (flat_map (λ ds. ds) rings) ∷ []))) ++ 10 ∷ []

regrouped_four : (old a b c d : List ℕ) → old ++ a ++ b ++ c ++ d ≡ old ++ (a ++ b ++ c ++ d)
regrouped_four old a b c d = simp append_assoc

-- the lines of rings and the last line behind them
pub all_lines : (r n k : ℕ) (items : List BorderItem) (old lines new : List ℕ) → lines ≡ old ++ rings_text false items → n ≡ rings_among items → k ≡ edges_among items
    → new ≡ lines ++ region_text r ++ counts_text n k ++ 10 ∷ [] → new ≡ old ++ outline_text r items
all_lines r n k items old lines new rings many edges is =
    is
    ∙ ap (λ (xs : List ℕ). xs ++ region_text r ++ counts_text n k ++ 10 ∷ []) rings
    ∙ ap (λ (x : ℕ). old ++ rings_text false items ++ region_text r ++ counts_text x k ++ 10 ∷ []) many
    ∙ ap (λ (x : ℕ). old ++ rings_text false items ++ region_text r ++ counts_text (rings_among items) x ++ 10 ∷ []) edges
    ∙ regrouped_four old (rings_text false items) (region_text r) (counts_text (rings_among items) (edges_among items)) (10 ∷ [])

-- the map has the region
pub known_text : (m : PlaneMap) (r : ℕ) (items : List BorderItem) (old new : List ℕ) → true ≡ is_region m r → items ≡ items_of (border m r) → new ≡ old ++ outline_text r items → new ≡ old ++ border_text m r
known_text m r items old new known is all =
    let rings = border m r in
    let listed : outline_text r items ≡ text_where m r true =
    ap (outline_text r) is
    ∙ ap (λ (xs : List ℕ). xs ++ region_text r ++ counts_text (rings_among (items_of rings)) (edges_among (items_of rings)) ++ 10 ∷ []) (lines_of_border m r)
    ∙ ap (λ (n : ℕ). flat_map ring_line rings ++ region_text r ++ counts_text n (edges_among (items_of rings)) ++ 10 ∷ []) (rings_counted rings)
    ∙ ap (λ (n : ℕ). flat_map ring_line rings ++ region_text r ++ counts_text (length rings) n ++ 10 ∷ []) (edges_counted rings)
    in
    let here : text_where m r true ≡ border_text m r = ap (text_where m r) known in
    all ∙ ap (λ (xs : List ℕ). old ++ xs) (listed ∙ here)

regrouped : (old a b c : List ℕ) → old ++ a ++ b ++ c ≡ old ++ (a ++ b ++ c)
regrouped old a b c = simp append_assoc

-- the map lacks it
pub unknown_text : (m : PlaneMap) (r : ℕ) (old new : List ℕ) → false ≡ is_region m r → new ≡ old ++ region_text r ++ codes " unknown" ++ 10 ∷ [] → new ≡ old ++ border_text m r
unknown_text m r old new unknown all =
    let here : text_where m r false ≡ border_text m r = ap (text_where m r) unknown in
    all ∙ regrouped old (region_text r) (codes " unknown") (10 ∷ []) ∙ ap (λ (xs : List ℕ). old ++ xs) here

pub known_least : (m : PlaneMap) (r : ℕ) (items : List BorderItem) (first last : ℕ) → true ≡ is_region m r → items ≡ items_of (border m r) → first + edges_among items ≤ last → first + edges_told m r ≤ last
known_least m r items first last known is least =
    let many : edges_among items ≡ edges_told m r =
    ap edges_among is ∙ edges_counted (border m r) ∙ ap (λ (b : Bool). length (flat_map (λ ds. ds) (if b then border m r else []))) known
    in
    omega (arith, many, least)

pub unknown_least : (m : PlaneMap) (r first last : ℕ) → false ≡ is_region m r → first ≤ last → first + edges_told m r ≤ last
unknown_least m r first last unknown grows =
    let none : 0 ≡ edges_told m r = ap (λ (b : Bool). length (flat_map (λ ds. ds) (if b then border m r else []))) unknown in
    omega (arith, none, grows)

few_words : (d n : ℕ) → 256 * d * (0 + 0 + 1) + 128 * d ≤ 8192 * d * (n + 2)
few_words d n = omega arith

-- looking for the region alone reads fewer words
pub unknown_most : (m : PlaneMap) (first last : ℕ) → last ≤ first + most_words m 0 0 → last ≤ first + most_border_words m
unknown_most m first last l = let few = few_words (digits (size m)) (size m) in omega (arith, few, l)

-- a fact of what was done, made stronger
pub on_ok_more : {A E : Type 0} (r : Result A E) (P Q : Type 0) → OnOk r P → (P → Q) → OnOk r Q
on_ok_more (Ok x) P Q p f = f p
on_ok_more (Err e) P Q p f = p
