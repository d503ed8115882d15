-- The text of rings by the items of a walk, and what one item more does to it and to the counts.
use Rattle.std.specs.Prelude.{codes, filter, flat_map, map, if◌then◌else◌, IsTrue}
use Rattle.std.proofs.Common.{◌≡◌, ◌∙◌, ℕ, suc, ◌+◌, ◌≤◌, ℤ, Bool, true, false, List, [], ◌∷◌, ◌++◌, length, refl, sym, ap, arith, append_assoc}
use Rattle.std.proofs.lemmas.List.{length-append}
use Rattle.orbits.specs.Walks as walks
use Rattle.topo_base.specs.SignedEdge.{same_edge}
use Rattle.topo_base.specs.Script.{Item, item_text}
use Rattle.plane_model.specs.PlaneMap.{PlaneMap, signed_edges, until_return}
use Rattle.plane_model.specs.Border.{border, outline}
use Rattle.region_border.specs.Beginnings.{begins_ring}
use Rattle.region_border.specs.Items.{is_edge, items_of, ring_items}
use Rattle.region_border.specs.declared.item.BorderItem.{BorderItem}
use Rattle.region_border.specs.declared.item.BorderItem.TheVariants as item
use Rattle.outline_text.specs.Lines.{ring_line}
use Rattle.outline_text.specs.Told.{edges_among, one_edge, one_ring, rings_among, rings_text, told}

-- one more item was told
pub text_more : (old new all : List ℕ) (begun begun' : Bool) (i : BorderItem) (before after : List BorderItem) → before ≡ i ∷ after → begun' ≡ is_edge i → new ≡ old ++ told begun i → old ++ rings_text begun before ≡ all → new ++ rings_text begun' after ≡ all
text_more old new all begun begun' i before after is begins grown done =
    ap (λ b. new ++ rings_text b after) begins
    ∙ ap (λ xs. xs ++ rings_text (is_edge i) after) grown ∙ append_assoc old (told begun i) (rings_text (is_edge i) after) ∙ ap (λ xs. old ++ rings_text begun xs) (sym is) ∙ done

pub rings_more : (old new all : ℕ) (i : BorderItem) (before after : List BorderItem) → before ≡ i ∷ after → new ≡ old + one_ring i → old + rings_among before ≡ all → new + rings_among after ≡ all
rings_more old new all i before after is grown done =
    let long : rings_among before ≡ one_ring i + rings_among after = ap rings_among is in
    omega (arith, long, grown, done)

pub edges_more : (old new all : ℕ) (i : BorderItem) (before after : List BorderItem) → before ≡ i ∷ after → new ≡ old + one_edge i → old + edges_among before ≡ all → new + edges_among after ≡ all
edges_more old new all i before after is grown done =
    let long : edges_among before ≡ one_edge i + edges_among after = ap edges_among is in
    omega (arith, long, grown, done)

-- a word at least was read for a signed edge
pub least_more : (all first second : ℕ) (i : BorderItem) (before after : List BorderItem) → before ≡ i ∷ after → (IsTrue (is_edge i) → first + 1 ≤ second) → first ≤ second → all ≤ first + edges_among before → all ≤ second + edges_among after
least_more all first second (item.Edge d) before after is more grows least =
    let long : edges_among before ≡ 1 + edges_among after = ap edges_among is in
    let step : first + 1 ≤ second = more refl in
    omega (arith, long, step, least)
least_more all first second item.RingEnd before after is more grows least =
    let long : edges_among before ≡ 0 + edges_among after = ap edges_among is in
    omega (arith, long, grows, least)

byte_more : (old new more : List ℕ) (b : ℕ) → new ≡ old ++ (b ∷ more) → length old + 1 ≤ length new
byte_more old new more b is =
    let long : length new ≡ length old + length (b ∷ more) = ap length is ∙ length-append old (b ∷ more) in
    omega (arith, long)

-- each item adds a byte at least
told_long : (old new : List ℕ) (begun : Bool) (i : BorderItem) → new ≡ old ++ told begun i → length old + 1 ≤ length new
told_long old new true (item.Edge d) is = byte_more old new _ 32 is
told_long old new false (item.Edge d) is = byte_more old new _ 114 is
told_long old new begun item.RingEnd is = byte_more old new [] 10 is

-- no more rings and signed edges than bytes
pub few_more : (rings edges rings' edges' : ℕ) (old new : List ℕ) (begun : Bool) (i : BorderItem) → new ≡ old ++ told begun i → rings' ≡ rings + one_ring i → edges' ≡ edges + one_edge i → rings + edges ≤ length old → rings' + edges' ≤ length new
few_more rings edges rings' edges' old new begun (item.Edge d) is r e few =
    let long = told_long old new begun (item.Edge d) is in
    omega (arith, long, r, e, few)
few_more rings edges rings' edges' old new begun item.RingEnd is r e few =
    let long = told_long old new begun item.RingEnd is in
    omega (arith, long, r, e, few)

-- what is left of a ring that was begun
ring_rest : (ds : List ℤ) (items : List BorderItem) → rings_text true (ring_items ds ++ items) ≡ flat_map item_text (map Item.Signed_edge ds) ++ (10 ∷ rings_text false items)
ring_rest [] items = refl
ring_rest (d ∷ ds) items =
    ap (λ xs. item_text (Item.Signed_edge d) ++ xs) (ring_rest ds items)
    ∙ sym (append_assoc (item_text (Item.Signed_edge d)) (flat_map item_text (map Item.Signed_edge ds)) (10 ∷ rings_text false items))

-- the end of a line in front of what follows
line_end : (front back : List ℕ) → front ++ (10 ∷ back) ≡ (front ++ (10 ∷ [])) ++ back
line_end front back = sym (append_assoc front (10 ∷ []) back)

-- a ring from its first signed edge on
ring_text : (d : ℤ) (ds : List ℤ) (items : List BorderItem) → rings_text false (ring_items (d ∷ ds) ++ items) ≡ ring_line (d ∷ ds) ++ rings_text false items
ring_text d ds items =
    ap (λ xs. codes "ring:" ++ (item_text (Item.Signed_edge d) ++ xs)) (ring_rest ds items)
    ∙ ap (λ xs. codes "ring:" ++ xs) (sym (append_assoc (item_text (Item.Signed_edge d)) (flat_map item_text (map Item.Signed_edge ds)) (10 ∷ rings_text false items)))
    ∙ ap (λ xs. codes "ring:" ++ xs) (line_end (flat_map item_text (map Item.Signed_edge (d ∷ ds))) (rings_text false items))

rings_of : (ds : List ℤ) (items : List BorderItem) → rings_among (ring_items ds ++ items) ≡ 1 + rings_among items
rings_of [] items = refl
rings_of (d ∷ ds) items =
    let more = rings_of ds items in
    let one : rings_among (ring_items (d ∷ ds) ++ items) ≡ 0 + rings_among (ring_items ds ++ items) = refl in
    omega (arith, one, more)

edges_of : (ds : List ℤ) (items : List BorderItem) → edges_among (ring_items ds ++ items) ≡ length ds + edges_among items
edges_of [] items = refl
edges_of (d ∷ ds) items =
    let more = edges_of ds items in
    let one : edges_among (ring_items (d ∷ ds) ++ items) ≡ 1 + edges_among (ring_items ds ++ items) = refl in
    let long : length (d ∷ ds) ≡ suc (length ds) = refl in
    omega (arith, one, long, more)

-- all rings: how many there are, and how many signed edges they have
pub rings_counted : (rings : List (List ℤ)) → rings_among (items_of rings) ≡ length rings
rings_counted [] = refl
rings_counted (ds ∷ rings) =
    let one = rings_of ds (items_of rings) in
    let more = rings_counted rings in
    let long : length (ds ∷ rings) ≡ suc (length rings) = refl in
    let here : rings_among (items_of (ds ∷ rings)) ≡ rings_among (ring_items ds ++ items_of rings) = refl in
    omega (arith, here, one, more, long)

pub edges_counted : (rings : List (List ℤ)) → edges_among (items_of rings) ≡ length (flat_map (λ ds. ds) rings)
edges_counted [] = refl
edges_counted (ds ∷ rings) = edges_of ds (items_of rings) ∙ ap (λ n. length ds + n) (edges_counted rings) ∙ sym (length-append ds (flat_map (λ es. es) rings))

-- the lines of rings none of which is empty
lines_of : (ring : ℤ → List ℤ) → ((d : ℤ) → (e : ℤ) × (es : List ℤ) × (ring d ≡ e ∷ es)) → (ds : List ℤ) → rings_text false (items_of (map ring ds)) ≡ flat_map ring_line (map ring ds)
lines_of ring some [] = refl
lines_of ring some (d ∷ ds) =
    let s = some d in
    ap (λ xs. rings_text false (ring_items xs ++ items_of (map ring ds))) s.2 ∙ ring_text s.0 s.1 (items_of (map ring ds))
    ∙ ap (λ xs. ring_line xs ++ rings_text false (items_of (map ring ds))) (sym s.2)
    ∙ ap (λ xs. ring_line (ring d) ++ xs) (lines_of ring some ds)

-- an orbit begins with its first point
begins : (step : ℤ → ℤ) (n k : ℕ) → n ≡ suc k → (d : ℤ) → (e : ℤ) × (es : List ℤ) × (until_return n step d d ≡ e ∷ es)
unfolding walks.until_return
begins step n k is d = (d, (if same_edge (step d) d then [] else until_return k step d (step d)), ap (λ x. until_return x step d d) is)

lines_among : (step : ℤ → ℤ) (p : ℤ → Bool) (n : ℕ) (all : List ℤ) → n ≡ length all
    → rings_text false (items_of (map (λ d. until_return n step d d) (filter p all))) ≡ flat_map ring_line (map (λ d. until_return n step d d) (filter p all))
lines_among step p n [] is = refl
lines_among step p n (d ∷ ds) is = lines_of (λ x. until_return n step x x) (begins step n (length ds) is) (filter p (d ∷ ds))

-- the text of the items of an outline is the lines of its rings
pub lines_of_border : (m : PlaneMap) (r : ℕ) → rings_text false (items_of (border m r)) ≡ flat_map ring_line (border m r)
lines_of_border m r = lines_among (outline m r) (begins_ring m r) (length (signed_edges m)) (signed_edges m) refl
