-- The map of whole contents agrees with the code at each position.
use Rattle.std.specs.Prelude.{ℤ, pos, neg_ℤ, not, map, flat_map, unwrap_or, slice_index}
use Rattle.std.proofs.Common.{◌≡◌, ℕ, ◌+◌, zero, suc, ◌*◌, ◌<◌, ◌⊎◌, inl, inr, Bool, true, false, ◌||◌, List, [], ◌∷◌, ◌++◌, length, get_or, refl, ap, sym, ◌∙◌, arith, subst, Some, ◌==◌, IsTrue}
use Rattle.std.proofs.lemmas.Bool.{cases_Bool, and_parts, eqb-true, eq-eqb, or_left, or_right, or_cases}
use Rattle.std.proofs.lemmas.Option.{same_Some}
use Rattle.topo_base.specs.SignedEdge.{edge_of as edge_id, is_forward, same_edge}
use Rattle.plane_model.specs.declared.rows.EdgeRow.{EdgeRow}
use Rattle.plane_model.specs.Sets.{rising, has, has_edge}
use Rattle.plane_model.specs.PlaneMap.{map_of, signed_edges, next as next_edge, turn as turn_edge}
use Rattle.code_laws.specs.Code.{Code, is_tree, mate, positions, after, next, turn}
use Rattle.code_laws.specs.Numbers.{edge_of}
use Rattle.code_laws.specs.Laws.{MateLaws}
use Rattle.code_laws.proofs.Places.{over_other, over_mate}
use Rattle.code_laws.proofs.Edges.{one_edge, edge_there}
use Rattle.id_names.specs.Names.{number_of, is_names}
use Rattle.id_names.proofs.NumberLaws.{number_of-at, names_from_test}
use Rattle.topo_base.specs.declared.id.TheConstants.{LARGEST_ID}
use Rattle.code_laws.proofs.Sound.{sound_parts}
use Rattle.file_laws.specs.Lawful.{is_whole, has_sizes, all_of, size_tests, whole_tests}
use Rattle.file_laws.specs.Contents.{Contents}
use Rattle.file_laws.specs.MapOfFile.{signed_at, is_forward_at, edge_row, rows_of_contents}
use Rattle.file_laws.specs.Agreement.{Agrees}
use Rattle.plane_model.proofs.Sorting.{rising-has}
use Rattle.plane_model.proofs.SetLaws.{same_is, same_self}
use Rattle.rank_select.proofs.Selects.{cases_kind}
use Rattle.file_laws.proofs.Lists.{has-index, index-has, has-positions}
use Rattle.file_laws.proofs.Bridge.{IsSeen, signed, signed-id, has-rising, e_in, law, forward_mate, forward_is, reversed, origins, sides, nexts}

-- the next of the mate is the turn
pub next_mate : (c : Code) (p : ℕ) → MateLaws c p → next c (mate c p) ≡ turn c p
next_mate c p k =
    elim (cases_Bool (is_tree c p)) [
      | inl w ↦ ap (after c) (over_other c false (mate c p) (k.kind ∙ w) ∙ sym (over_mate c true p w))
      | inr f ↦ ap (after c) (over_mate c false (mate c p) (k.kind ∙ f) ∙ k.back ∙ sym (over_other c true p f))
    ]

has-append_left : (ds es : List ℤ) (d : ℤ) → has_edge ds d ≡ true → has_edge (ds ++ es) d ≡ true
has-append_left [] es d h = cc
has-append_left (x ∷ ds) es d h = elim (or_cases (same_edge d x) (has_edge ds d) h) [ inl a ↦ or_left _ _ a | inr b ↦ or_right _ _ (has-append_left ds es d b) ]

has-append_right : (ds es : List ℤ) (d : ℤ) → has_edge es d ≡ true → has_edge (ds ++ es) d ≡ true
has-append_right [] es d h = h
has-append_right (x ∷ ds) es d h = or_right _ _ (has-append_right ds es d h)

rising-member : (x : ℕ) (xs : List ℕ) → has (rising xs) x ≡ true → has xs x ≡ true
rising-member x xs h = sym (rising-has xs x) ∙ h

-- both directions of an id
abbrev both : ℕ → List ℤ
both e = pos e ∷ neg_ℤ (pos e) ∷ []

both_has : (b : Bool) (id : ℕ) → has_edge (both id) (signed b id) ≡ true
both_has true id = or_left _ _ (same_self (pos id))
both_has false id = or_right _ _ (or_left _ _ (same_self (neg_ℤ (pos id))))

has-both : (b : Bool) (id : ℕ) (ids : List ℕ) → has ids id ≡ true → has_edge (flat_map both ids) (signed b id) ≡ true
has-both b id [] h = cc
has-both b id (x ∷ ids) h =
    elim (or_cases (id == x) (has ids id) h) [
      | inl a ↦ has-append_left (both x) (flat_map both ids) (signed b id) (subst (λ y. has_edge (both y) (signed b id) ≡ true) (eqb-true id x a) (both_has b id))
      | inr m ↦ has-append_right (both x) (flat_map both ids) (signed b id) (has-both b id ids m)
    ]

has-map : (ids : List ℕ) (x : ℕ) (row : ℕ → EdgeRow) → ((y : ℕ) → (row y).id ≡ y) → has ids x ≡ true → has (map (λ r. r.id) (map row ids)) x ≡ true
has-map [] x row keeps h = cc
has-map (y ∷ ids) x row keeps h =
    elim (or_cases (x == y) (has ids x) h) [
      | inl a ↦ or_left _ _ (eq-eqb _ _ (eqb-true x y a ∙ sym (keeps y)))
      | inr m ↦ or_right _ _ (has-map ids x row keeps m)
    ]

append-cases : (ds es : List ℤ) (d : ℤ) → has_edge (ds ++ es) d ≡ true → (has_edge ds d ≡ true) ⊎ (has_edge es d ≡ true)
append-cases [] es d h = inr h
append-cases (x ∷ ds) es d h =
    elim (or_cases (same_edge d x) (has_edge (ds ++ es) d) h) [
      | inl a ↦ inl (or_left _ _ a)
      | inr b ↦ elim (append-cases ds es d b) [ inl m ↦ inl (or_right _ _ m) | inr m ↦ inr m ]
    ]

-- an id with a direction
pub record IsOf (ids : List ℕ) (d : ℤ) : Type 0 where
  pub id : ℕ
  pub forward : Bool
  pub among : has ids id ≡ true
  pub is : d ≡ signed forward id

both-of : (id : ℕ) (d : ℤ) → has_edge (both id) d ≡ true → (b : Bool) × (d ≡ signed b id)
both-of id d h =
    elim (or_cases (same_edge d (pos id)) (same_edge d (neg_ℤ (pos id)) || false) h) [
      | inl a ↦ (true, same_is d (pos id) a)
      | inr m ↦ elim (or_cases (same_edge d (neg_ℤ (pos id))) false m) [ inl a ↦ (false, same_is d (neg_ℤ (pos id)) a) | inr n ↦ cc ]
    ]

flat-of : (ids : List ℕ) (d : ℤ) → has_edge (flat_map both ids) d ≡ true → IsOf ids d
flat-of [] d h = cc
flat-of (x ∷ ids) d h =
    elim (append-cases (both x) (flat_map both ids) d h) [
      | inl a ↦ let r = both-of x d a in record { id = x; forward = r.0; among = or_left _ _ (eq-eqb x x refl); is = r.1 }
      | inr b ↦ let r = flat-of ids d b in record { id = r.id; forward = r.forward; among = or_right _ _ r.among; is = r.is }
    ]

map-has : (ids : List ℕ) (x : ℕ) (row : ℕ → EdgeRow) → ((y : ℕ) → (row y).id ≡ y) → has (map (λ r. r.id) (map row ids)) x ≡ true → has ids x ≡ true
map-has [] x row keeps h = cc
map-has (y ∷ ids) x row keeps h =
    elim (or_cases (x == (row y).id) (has (map (λ r. r.id) (map row ids)) x) h) [
      | inl a ↦ or_left _ _ (eq-eqb _ _ (eqb-true _ _ a ∙ keeps y))
      | inr m ↦ or_right _ _ (map-has ids x row keeps m)
    ]

module _ (c : Contents) (w : IsSeen c) where
  turns : (p : ℕ) → p < length c.code.a → turn_edge (map_of (rows_of_contents c)) (signed_at c p) ≡ signed_at c (turn c.code p)
  turns p l =
      let k = law c w p l in
      subst (λ d. next_edge (map_of (rows_of_contents c)) d ≡ signed_at c (turn c.code p)) (reversed c w p l) (nexts c w (mate c.code p) k.within ∙ ap (signed_at c) (next_mate c.code p k))

  id_of_signed : (p : ℕ) → edge_id (signed_at c p) ≡ slice_index c.edges (edge_of c.code p)
  unfolding signed_at
  id_of_signed p = signed-id (is_forward_at c p) (slice_index c.edges (edge_of c.code p))

  one : (p q : ℕ) → p < length c.code.a → q < length c.code.a → signed_at c p ≡ signed_at c q → p ≡ q
  one p q l m same =
      let ids : slice_index c.edges (edge_of c.code p) ≡ slice_index c.edges (edge_of c.code q) = sym (id_of_signed p) ∙ ap edge_id same ∙ id_of_signed q in
      let edges : edge_of c.code p ≡ edge_of c.code q =
      same_Some _ _ (sym (w.back (edge_of c.code p) (e_in c w p l)) ∙ ap (number_of c.edges) ids ∙ w.back (edge_of c.code q) (e_in c w q m)) in
      let forward : is_forward_at c p ≡ is_forward_at c q = sym (forward_is c w p l) ∙ ap is_forward same ∙ forward_is c w q m in
      elim (one_edge c.code w.sound p q l m edges) [
        | inl s ↦ s
        | inr s ↦ absurd (apart (is_forward_at c q) (sym (forward_mate c w q m) ∙ ap (is_forward_at c) (sym s) ∙ forward))
      ]
    where
      apart : (b : Bool) → not b ≡ b → ⊥
      apart true h = cc
      apart false h = cc

  there : (p : ℕ) → p < length c.code.a → has_edge (signed_edges (map_of (rows_of_contents c))) (signed_at c p) ≡ true
  unfolding signed_edges signed_at
  there p l =
      let id = slice_index c.edges (edge_of c.code p) in
      let row : ℕ → EdgeRow = λ id. edge_row c id (unwrap_or (number_of c.edges id) 0) in
      has-both (is_forward_at c p) id (rising (map (λ r. r.id) (map row (rising c.edges))))
      (has-rising id (map (λ r. r.id) (map row (rising c.edges))) (has-map (rising c.edges) id row (λ y. refl) (has-rising id c.edges (has-index c.edges (edge_of c.code p) (e_in c w p l)))))

  signed_is : (p : ℕ) → signed_at c p ≡ signed (is_forward_at c p) (slice_index c.edges (edge_of c.code p))
  unfolding signed_at
  signed_is p = refl

  -- a direction of an edge is that of its first position, or of its second
  of_edge : (b : Bool) (p : ℕ) → p < length c.code.a → (q : ℕ) × (q < length c.code.a) × (signed_at c q ≡ signed b (slice_index c.edges (edge_of c.code p)))
  of_edge b p l =
      elim (cases_kind (is_forward_at c p) b) [
        | inl e ↦ (p, l, signed_is p ∙ ap (λ x. signed x (slice_index c.edges (edge_of c.code p))) (sym e))
        | inr e ↦
            let k = law c w p l in
            (mate c.code p, k.within, signed_is (mate c.code p) ∙ ap (λ x. signed x (slice_index c.edges (edge_of c.code (mate c.code p)))) (forward_mate c w p l ∙ sym e) ∙ ap (λ x. signed b (slice_index c.edges x)) k.edge)
      ]

  every : (d : ℤ) → has_edge (signed_edges (map_of (rows_of_contents c))) d ≡ true → has_edge (map (signed_at c) (positions c.code)) d ≡ true
  unfolding signed_edges
  every d h =
      let row : ℕ → EdgeRow = λ id. edge_row c id (unwrap_or (number_of c.edges id) 0) in
      let r = flat-of (rising (map (λ r. r.id) (map row (rising c.edges)))) d h in
      let m = rising-member r.id c.edges (map-has (rising c.edges) r.id row (λ y. refl) (rising-member r.id (map (λ r. r.id) (map row (rising c.edges))) r.among)) in
      let i = index-has c.edges r.id m in
      let t = edge_there c.code w.sound i.0 (omega (arith, i.1, w.sizes)) in
      let q = of_edge r.forward t.0 t.1 in
      let e : signed_at c q.0 ≡ d = q.2 ∙ ap (λ x. signed r.forward (slice_index c.edges x)) t.3 ∙ ap (signed r.forward) i.2 ∙ sym r.is in
      subst (λ x. has_edge (map (signed_at c) (positions c.code)) x ≡ true) e (has-positions (signed_at c) 0 (length c.code.a) q.0 (omega arith) (omega (arith, q.1)))

  pub agrees : Agrees c (map_of (rows_of_contents c))
  agrees =
      record {
        there = there;
        every = every;
        one = one;
        reversed = reversed c w;
        origins = origins c w;
        sides = sides c w;
        nexts = nexts c w;
        turns = turns;
      }

-- each number is the one that its id has
own_number : (ids : List ℕ) → is_names (LARGEST_ID + 1) ids ≡ true → (x : ℕ) → x < length ids → (0 < slice_index ids x) × (number_of ids (slice_index ids x) ≡ Some x)
own_number ids h x l = let n = names_from_test (LARGEST_ID + 1) ids h in ((n.in_range x l).0, number_of-at ids x (slice_index ids x) n.distinct l refl)

-- test i of some that all hold
pub test_at : (tests : List Bool) (i : ℕ) → all_of tests ≡ true → get_or tests i true ≡ true
test_at [] i h = refl
test_at (b ∷ tests) zero h = (and_parts b (all_of tests) h).0
test_at (b ∷ tests) (suc i) h = test_at tests i (and_parts b (all_of tests) h).1

sizes_at : (c : Contents) → has_sizes c ≡ true → length c.code.a ≡ 2 * length c.edges
unfolding has_sizes
sizes_at c h = eqb-true _ _ (test_at (size_tests c) 0 h)

-- what whole contents have
pub whole_seen : (c : Contents) → is_whole c ≡ true → IsSeen c
unfolding is_whole
whole_seen c h =
    let names = own_number c.edges (test_at (whole_tests c) 3 h) in
    record { sound = sound_parts c.code (test_at (whole_tests c) 1 h); sizes = sizes_at c (test_at (whole_tests c) 0 h); back = λ x l. (names x l).1; least = λ x l. (names x l).0 }

-- the map of whole contents agrees with their code
pub whole_agrees : (c : Contents) → IsTrue (is_whole c) → Agrees c (map_of (rows_of_contents c))
whole_agrees c h = agrees c (whole_seen c h)
