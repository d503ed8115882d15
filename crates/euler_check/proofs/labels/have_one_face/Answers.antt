use Rattle.std.proofs.Common.{◌≡◌, ◌*◌, ◌+◌, ◌<◌, ◌≤◌, ◌∙◌, sym, subst, length, arith}
use Rattle.euler_check.proofs.OneFace.{AreFaces, IsAt, faces_known, faces_next, labelled, not_labelled}
use Rattle.euler_check.proofs.labels.have_one_face.Goals as goal
use Rattle.euler_check.proofs.labels.have_one_face.Goals.{in-Some+else-known-face, in_default+in_ok-push}

pub returns-then-known-face : goal.returns-then-known-face
returns-then-known-face c =
    let r = c.args.rotation.now in
    let lt : c.loop-dart.dart < 2 * length r.edges = (let a = c.edges-dart-end.ensures.edges in let b = c.loop-dart-test.true in omega arith) in
    let at = subst (λ xs. IsAt xs c.number.result c.in-Some.known.now) c.deref.ensures.value c.in-Some.ensures.lookup.3 in
    sym (not_labelled r c.edges-dart-end.ensures.rotation c.args.rings.now c.requires c.loop-dart.dart c.number.result c.side-face.result c.in-Some.known.now c.loop-dart.faces.items
    lt c.loop-dart.invariant c.number.ensures at c.side-face.ensures c.if-known-face.true)

pub loop-dart-preserved : goal.loop-dart-preserved
loop-dart-preserved c =
    let r = c.args.rotation.now in
    let is = c.edges-dart-end.ensures.rotation in
    let lt : c.loop-dart.dart < 2 * length r.edges = (let a = c.edges-dart-end.ensures.edges in let b = c.loop-dart-test.true in omega arith) in
    elim c.match-get.branch [
      | in-Some+else-known-face w ↦
          let at = subst (λ xs. IsAt xs c.number.result w.in-Some.known.now) c.deref.ensures.value w.in-Some.ensures.lookup.3 in
          subst (λ v. AreFaces r c.args.rings.now (c.loop-dart.dart + 1) v.items) (sym w.faces-is)
          (faces_known r is c.args.rings.now c.requires c.loop-dart.dart c.number.result w.in-Some.known.now c.loop-dart.faces.items c.loop-dart.invariant c.number.ensures at (w.if-known-face.false ∙ c.side-face.ensures))
      | in_default+in_ok-push w ↦
          let new : length c.loop-dart.faces.items ≤ c.number.result = subst (λ xs. length xs ≤ c.number.result) c.deref.ensures.value w.in_default.ensures.lookup.3 in
          subst (λ v. AreFaces r c.args.rings.now (c.loop-dart.dart + 1) v.items) (sym w.faces-is)
          (subst (AreFaces r c.args.rings.now (c.loop-dart.dart + 1)) (sym w.in_ok-push.ensures.items)
          (faces_next r is c.args.rings.now c.requires c.loop-dart.dart c.number.result c.side-face.result c.loop-dart.faces.items lt c.loop-dart.invariant c.number.ensures new c.side-face.ensures))
    ]

pub returns : goal.returns
returns c =
    let r = c.args.rotation.now in
    let whole : c.loop-dart.dart ≡ 2 * length r.edges = (let a = c.edges-dart-end.ensures.edges in let b = c.loop-dart-test.false in let d = c.loop-dart.auto.dart-end in omega arith) in
    sym (labelled r c.edges-dart-end.ensures.rotation c.args.rings.now c.requires c.loop-dart.faces.items (subst (λ n. AreFaces r c.args.rings.now n c.loop-dart.faces.items) whole c.loop-dart.invariant))
