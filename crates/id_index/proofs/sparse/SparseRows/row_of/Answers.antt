use Rattle.std.proofs.Common.{◌≡◌, ◌≤◌, ◌<◌, ltb, true, false, rules, sym, subst, ◌∙◌, List, length, get_or}
use Rattle.std.specs.List.Sorted.{IsNonDecreasingBy, IsPartitionPoint}
use Rattle.std.proofs.lemmas.List.Sorted.{IsPartitionPoint-from_clause, IsPartitionedBy-ltb}
use Rattle.id_index.specs.declared.sparse.Entry.{Entry}
use Rattle.id_index.proofs.Sorted.{row_here, row_past, row_missing}
use Rattle.id_index.proofs.sparse.SparseRows.row_of.Goals as goal

pub returns-in_err-entry : goal.returns-in_err-entry
returns-in_err-entry c =
    let entries = c.args.self.now.entries.items in
    let id = c.args.id in
    let place = c.partition_point-place.result in
    let rising : IsNonDecreasingBy (λ (e : Entry). e.id) c.deref.result.now = subst (λ (xs : List Entry). IsNonDecreasingBy (λ (e : Entry). e.id) xs) (sym c.deref.ensures.value) c.args.self.now.rising in
    let point = IsPartitionPoint-from_clause (λ (e : Entry). ltb e.id id) _ _ c.partition_point-place.ensures.partitioned (IsPartitionedBy-ltb (λ (e : Entry). e.id) c.deref.result.now id rising) (λ a r q k. search rules) in
    let here = subst (λ (xs : List Entry). IsPartitionPoint (λ (e : Entry). ltb e.id id ≡ true) (λ (e : Entry). ltb e.id id ≡ false) xs place) c.deref.ensures.value point in
    let bound = subst (λ (xs : List Entry). place ≤ length xs) c.deref.ensures.value c.partition_point-place.ensures.bound in
    let past = subst (λ (xs : List Entry). length xs ≤ place) c.deref-2.ensures.value c.in_err-entry.ensures.lookup.3 in
    c.from_residual.ensures ∙ sym (row_past entries id place c.args.self.now.rising bound here past)

pub returns-else-entry-id : goal.returns-else-entry-id
returns-else-entry-id c =
    let entries = c.args.self.now.entries.items in
    let id = c.args.id in
    let place = c.partition_point-place.result in
    let entry = c.in_ok-entry.entry.now in
    let rising : IsNonDecreasingBy (λ (e : Entry). e.id) c.deref.result.now = subst (λ (xs : List Entry). IsNonDecreasingBy (λ (e : Entry). e.id) xs) (sym c.deref.ensures.value) c.args.self.now.rising in
    let point = IsPartitionPoint-from_clause (λ (e : Entry). ltb e.id id) _ _ c.partition_point-place.ensures.partitioned (IsPartitionedBy-ltb (λ (e : Entry). e.id) c.deref.result.now id rising) (λ a r q k. search rules) in
    let here = subst (λ (xs : List Entry). IsPartitionPoint (λ (e : Entry). ltb e.id id ≡ true) (λ (e : Entry). ltb e.id id ≡ false) xs place) c.deref.ensures.value point in
    let bound = subst (λ (xs : List Entry). place ≤ length xs) c.deref.ensures.value c.partition_point-place.ensures.bound in
    let read = subst (λ (xs : List Entry). entry ≡ get_or xs place entry) c.deref-2.ensures.value c.in_ok-entry.ensures.lookup.1 in
    let inside = subst (λ (xs : List Entry). place < length xs) c.deref-2.ensures.value c.in_ok-entry.ensures.lookup.3.0 in
    sym (row_missing entries id place c.args.self.now.rising bound here entry read c.if-entry-id.false inside)

pub returns-then-entry-id : goal.returns-then-entry-id
returns-then-entry-id c =
    let entries = c.args.self.now.entries.items in
    let id = c.args.id in
    let place = c.partition_point-place.result in
    let entry = c.in_ok-entry.entry.now in
    let rising : IsNonDecreasingBy (λ (e : Entry). e.id) c.deref.result.now = subst (λ (xs : List Entry). IsNonDecreasingBy (λ (e : Entry). e.id) xs) (sym c.deref.ensures.value) c.args.self.now.rising in
    let point = IsPartitionPoint-from_clause (λ (e : Entry). ltb e.id id) _ _ c.partition_point-place.ensures.partitioned (IsPartitionedBy-ltb (λ (e : Entry). e.id) c.deref.result.now id rising) (λ a r q k. search rules) in
    let here = subst (λ (xs : List Entry). IsPartitionPoint (λ (e : Entry). ltb e.id id ≡ true) (λ (e : Entry). ltb e.id id ≡ false) xs place) c.deref.ensures.value point in
    let bound = subst (λ (xs : List Entry). place ≤ length xs) c.deref.ensures.value c.partition_point-place.ensures.bound in
    let read = subst (λ (xs : List Entry). entry ≡ get_or xs place entry) c.deref-2.ensures.value c.in_ok-entry.ensures.lookup.1 in
    let inside = subst (λ (xs : List Entry). place < length xs) c.deref-2.ensures.value c.in_ok-entry.ensures.lookup.3.0 in
    sym (row_here entries id place c.args.self.now.rising bound here entry read c.if-entry-id.true inside)
