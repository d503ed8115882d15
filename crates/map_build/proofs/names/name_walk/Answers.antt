use Rattle.std.proofs.Common.{refl, ◌≡◌, ◌+◌, ◌-◌, Bool, List, ℕ, ap, ◌∙◌, arith, length}
use Rattle.plane_model.specs.Rows.{rows_of}
use Rattle.code_laws.specs.Code.{Code}
use Rattle.code_laws.specs.Numbers.{edge_of, node_of, ring_of}
use Rattle.code_laws.specs.SeqFault.{is_sound}
use Rattle.code_laws.specs.Tour.{code_of, ring_code, edge_numbers, node_numbers, ring_numbers}
use Rattle.map_build.specs.Tours.{code_of_tour}
use Rattle.map_build.proofs.Naming as naming
use Rattle.map_build.proofs.names.name_walk.Goals as goal

same : {a a2 b b2 : List Bool} {d d2 : List ℕ} → a ≡ a2 → b ≡ b2 → d ≡ d2 → ◌≡◌ {A = Code} (code_of a b d) (code_of a2 b2 d2)
same e f h = λ i. code_of (e i) (f i) (h i)

pub number-requires-clause-sound : goal.number-requires-clause-sound
number-requires-clause-sound c = ap is_sound (same c.deref.ensures.value c.deref-2.ensures.value c.deref-3.ensures.value) ∙ naming.sound (rows_of c.args.tables.now) c.requires.in_range c.requires.consistent c.args.walked.now c.requires.walk

pub overflow_add-node_count : goal.overflow_add-node_count
overflow_add-node_count c =
    let few = naming.few_starts (rows_of c.args.tables.now) c.requires.in_range c.requires.consistent c.args.walked.now c.requires.walk in
    let starts = ap length c.starts.ensures in
    omega (arith, few, starts, c.tree_edges-tree_edges.ensures)

pub overflow_sub-face_count : goal.overflow_sub-face_count
overflow_sub-face_count c =
    let few = naming.tree_edges_few (rows_of c.args.tables.now) c.requires.in_range c.requires.consistent c.args.walked.now c.requires.walk in
    omega (arith, few, c.len.ensures, c.tree_edges-tree_edges.ensures)

pub edge_ids-requires-clause-darts : goal.edge_ids-requires-clause-darts
edge_ids-requires-clause-darts c = naming.all_within (rows_of c.args.tables.now) c.requires.in_range c.requires.consistent c.args.walked.now c.requires.walk c.args.tables.now.edges c.deref-8.result.now refl c.deref-8.ensures.value

pub edge_ids-requires-clause-many : goal.edge_ids-requires-clause-many
edge_ids-requires-clause-many c = naming.as_many (rows_of c.args.tables.now) c.requires.in_range c.requires.consistent c.args.walked.now c.requires.walk (edge_of (code_of_tour c.args.walked.now.tour)) c.deref-8.result.now c.deref-9.result.now c.deref-8.ensures.value (c.deref-9.ensures.value ∙ c.in_ok-numbering.ensures.edge ∙ ap edge_numbers (same c.deref.ensures.value c.deref-2.ensures.value c.deref-3.ensures.value))

pub edge_ids-requires-clause-agree : goal.edge_ids-requires-clause-agree
edge_ids-requires-clause-agree c = naming.edges_agree (rows_of c.args.tables.now) c.requires.in_range c.requires.consistent c.args.walked.now c.requires.walk c.args.tables.now.edges c.deref-8.result.now c.deref-9.result.now refl c.deref-8.ensures.value (c.deref-9.ensures.value ∙ c.in_ok-numbering.ensures.edge ∙ ap edge_numbers (same c.deref.ensures.value c.deref-2.ensures.value c.deref-3.ensures.value))

pub directions-requires-clause-many : goal.directions-requires-clause-many
directions-requires-clause-many c = naming.as_many (rows_of c.args.tables.now) c.requires.in_range c.requires.consistent c.args.walked.now c.requires.walk (edge_of (code_of_tour c.args.walked.now.tour)) c.deref-10.result.now c.deref-12.result.now c.deref-10.ensures.value (c.deref-12.ensures.value ∙ c.in_ok-numbering.ensures.edge ∙ ap edge_numbers (same c.deref.ensures.value c.deref-2.ensures.value c.deref-3.ensures.value))

pub directions-requires-clause-agree : goal.directions-requires-clause-agree
directions-requires-clause-agree c = naming.flags_agree (rows_of c.args.tables.now) c.requires.in_range c.requires.consistent c.args.walked.now c.requires.walk c.deref-10.result.now c.deref-12.result.now c.deref-11.result.now c.len-2.result c.deref-10.ensures.value (c.deref-12.ensures.value ∙ c.in_ok-numbering.ensures.edge ∙ ap edge_numbers (same c.deref.ensures.value c.deref-2.ensures.value c.deref-3.ensures.value)) c.deref-11.ensures.value (omega (arith, c.len-2.ensures))

pub node_ids-requires-clause-darts : goal.node_ids-requires-clause-darts
node_ids-requires-clause-darts c = naming.all_within (rows_of c.args.tables.now) c.requires.in_range c.requires.consistent c.args.walked.now c.requires.walk c.args.tables.now.edges c.deref-4.result.now refl c.deref-4.ensures.value

pub node_ids-requires-clause-many : goal.node_ids-requires-clause-many
node_ids-requires-clause-many c = naming.as_many (rows_of c.args.tables.now) c.requires.in_range c.requires.consistent c.args.walked.now c.requires.walk (node_of (code_of_tour c.args.walked.now.tour)) c.deref-4.result.now c.deref-5.result.now c.deref-4.ensures.value (c.deref-5.ensures.value ∙ c.in_ok-numbering.ensures.node ∙ ap node_numbers (same c.deref.ensures.value c.deref-2.ensures.value c.deref-3.ensures.value))

pub node_ids-requires-clause-agree : goal.node_ids-requires-clause-agree
node_ids-requires-clause-agree c =
    let many = naming.nodes_many (rows_of c.args.tables.now) c.requires.in_range c.requires.consistent c.args.walked.now c.requires.walk in
    let starts = ap length c.starts.ensures in
    naming.nodes_agree (rows_of c.args.tables.now) c.requires.in_range c.requires.consistent c.args.walked.now c.requires.walk c.args.tables.now.edges c.deref-4.result.now c.deref-5.result.now (length c.starts.result.now + c.tree_edges-tree_edges.result) refl c.deref-4.ensures.value (c.deref-5.ensures.value ∙ c.in_ok-numbering.ensures.node ∙ ap node_numbers (same c.deref.ensures.value c.deref-2.ensures.value c.deref-3.ensures.value)) (omega (arith, many, starts, c.tree_edges-tree_edges.ensures))

pub face_ids-requires-clause-darts : goal.face_ids-requires-clause-darts
face_ids-requires-clause-darts c = naming.all_within (rows_of c.args.tables.now) c.requires.in_range c.requires.consistent c.args.walked.now c.requires.walk c.args.tables.now.edges c.deref-6.result.now refl c.deref-6.ensures.value

pub face_ids-requires-clause-many : goal.face_ids-requires-clause-many
face_ids-requires-clause-many c = naming.as_many (rows_of c.args.tables.now) c.requires.in_range c.requires.consistent c.args.walked.now c.requires.walk (λ p. ring_code (ring_of (code_of_tour c.args.walked.now.tour) p)) c.deref-6.result.now c.deref-7.result.now c.deref-6.ensures.value (c.deref-7.ensures.value ∙ c.in_ok-numbering.ensures.ring ∙ ap ring_numbers (same c.deref.ensures.value c.deref-2.ensures.value c.deref-3.ensures.value))

pub face_ids-requires-clause-agree : goal.face_ids-requires-clause-agree
face_ids-requires-clause-agree c =
    let many = naming.faces_many (rows_of c.args.tables.now) c.requires.in_range c.requires.consistent c.args.walked.now c.requires.walk in
    naming.faces_agree (rows_of c.args.tables.now) c.requires.in_range c.requires.consistent c.args.walked.now c.requires.walk c.args.tables.now.edges c.deref-6.result.now c.deref-7.result.now (c.len.result - c.tree_edges-tree_edges.result) refl c.deref-6.ensures.value (c.deref-7.ensures.value ∙ c.in_ok-numbering.ensures.ring ∙ ap ring_numbers (same c.deref.ensures.value c.deref-2.ensures.value c.deref-3.ensures.value)) (omega (arith, many, c.len.ensures, c.tree_edges-tree_edges.ensures))

pub returns-clause-names : goal.returns-clause-names
returns-clause-names c =
    let edges = naming.edges_many (rows_of c.args.tables.now) c.requires.in_range c.requires.consistent c.args.walked.now c.requires.walk in
    let nodes = naming.nodes_many (rows_of c.args.tables.now) c.requires.in_range c.requires.consistent c.args.walked.now c.requires.walk in
    let faces = naming.faces_many (rows_of c.args.tables.now) c.requires.in_range c.requires.consistent c.args.walked.now c.requires.walk in
    let starts = ap length c.starts.ensures in
    let of_edges = c.in_ok-edge_ids.ensures.len in
    let of_flags = c.in_ok-directions.ensures.len in
    let of_nodes = c.in_ok-nodes.ensures.len in
    let of_faces = c.in_ok-faces.ensures.len in
    record {
      edges_len = of_edges ∙ ap length refl ∙ edges;
      edges = naming.edges_named (rows_of c.args.tables.now) c.requires.in_range c.requires.consistent c.args.walked.now c.requires.walk c.args.tables.now.edges c.deref-8.result.now c.deref-9.result.now c.in_ok-edge_ids.field-0.items refl c.deref-8.ensures.value (c.deref-9.ensures.value ∙ c.in_ok-numbering.ensures.edge ∙ ap edge_numbers (same c.deref.ensures.value c.deref-2.ensures.value c.deref-3.ensures.value)) c.in_ok-edge_ids.ensures.ids;
      forward_len = omega (arith, of_flags, c.len-2.ensures, edges);
      forward = naming.flags_named (rows_of c.args.tables.now) c.requires.in_range c.requires.consistent c.args.walked.now c.requires.walk c.deref-10.result.now c.deref-12.result.now c.deref-11.result.now c.in_ok-directions.field-0.items c.deref-10.ensures.value (c.deref-12.ensures.value ∙ c.in_ok-numbering.ensures.edge ∙ ap edge_numbers (same c.deref.ensures.value c.deref-2.ensures.value c.deref-3.ensures.value)) c.deref-11.ensures.value c.in_ok-directions.ensures.forward;
      nodes_len = omega (arith, of_nodes, nodes, starts, c.tree_edges-tree_edges.ensures);
      nodes = naming.nodes_named (rows_of c.args.tables.now) c.requires.in_range c.requires.consistent c.args.walked.now c.requires.walk c.args.tables.now.edges c.deref-4.result.now c.deref-5.result.now c.in_ok-nodes.nodes.items refl c.deref-4.ensures.value (c.deref-5.ensures.value ∙ c.in_ok-numbering.ensures.node ∙ ap node_numbers (same c.deref.ensures.value c.deref-2.ensures.value c.deref-3.ensures.value)) c.in_ok-nodes.ensures.ids;
      faces_len = omega (arith, of_faces, faces, c.len.ensures, c.tree_edges-tree_edges.ensures);
      faces = naming.faces_named (rows_of c.args.tables.now) c.requires.in_range c.requires.consistent c.args.walked.now c.requires.walk c.args.tables.now.edges c.deref-6.result.now c.deref-7.result.now c.in_ok-faces.faces.items refl c.deref-6.ensures.value (c.deref-7.ensures.value ∙ c.in_ok-numbering.ensures.ring ∙ ap ring_numbers (same c.deref.ensures.value c.deref-2.ensures.value c.deref-3.ensures.value)) c.in_ok-faces.ensures.ids;
    }
