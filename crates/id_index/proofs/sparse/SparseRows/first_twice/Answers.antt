use Rattle.std.proofs.Common.{◌≡◌, suc, ◌+◌, ◌-◌, ◌<◌, drop, length, Some, refl, sym, ap, ◌∙◌, arith}
use Rattle.std.proofs.lemmas.List.{length-map}
use Rattle.plane_model.specs.Orders.{first_pair}
use Rattle.plane_model.proofs.Pairs.{pair_here, pair_further, pair_none}
use Rattle.id_index.specs.declared.sparse.Entry.{Entry}
use Rattle.id_index.specs.Entries.{ids_of}
use Rattle.id_index.proofs.Sorted.{id_read}
use Rattle.id_index.proofs.sparse.SparseRows.first_twice.Goals as goal

pub loop-place-init : goal.loop-place-init
loop-place-init c = refl

pub returns-then-index-id : goal.returns-then-index-id
returns-then-index-id c =
    let entries = c.args.self.now.entries.items in
    let i = c.loop-place.place in
    let many = length-map entries (λ (e : Entry). e.id) in
    let inside : i < length entries = omega arith in
    let is : i ≡ suc (i - 1) = omega arith in
    let here = id_read entries i c.index.result.now inside c.index.ensures in
    let before = id_read entries (i - 1) c.index-in-loop-place.result.now (omega arith) c.index-in-loop-place.ensures in
    sym (c.loop-place.invariant ∙ pair_here (ids_of entries) (i - 1) i is (omega arith) (sym before ∙ c.if-index-id.true ∙ here) ∙ ap Some (sym here))

pub loop-place-preserved : goal.loop-place-preserved
loop-place-preserved c =
    let entries = c.args.self.now.entries.items in
    let i = c.loop-place.place in
    let many = length-map entries (λ (e : Entry). e.id) in
    let inside : i < length entries = omega arith in
    let is : i ≡ suc (i - 1) = omega arith in
    let on : i ≡ i + 1 - 1 = omega arith in
    let here = id_read entries i c.index.result.now inside c.index.ensures in
    let before = id_read entries (i - 1) c.index-in-loop-place.result.now (omega arith) c.index-in-loop-place.ensures in
    c.loop-place.invariant ∙ pair_further (ids_of entries) (i - 1) i is (omega arith) (λ e. c.if-index-id.false (before ∙ e ∙ sym here)) ∙ ap (λ j. first_pair (drop j (ids_of entries))) on

pub returns : goal.returns
returns c =
    let entries = c.args.self.now.entries.items in
    let i = c.loop-place.place in
    let many = length-map entries (λ (e : Entry). e.id) in
    sym (c.loop-place.invariant ∙ pair_none (ids_of entries) (i - 1) (omega arith))
