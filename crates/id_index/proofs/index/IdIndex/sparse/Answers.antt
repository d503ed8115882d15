use Rattle.std.proofs.Common.{sym, ◌∙◌}
use Rattle.std.proofs.lemmas.List.{length-map}
use Rattle.std.proofs.lemmas.List.Sorted.{length_permutation}
use Rattle.id_index.specs.declared.sparse.Entry.{Entry}
use Rattle.id_index.specs.Entries.{ids_of}
use Rattle.id_index.proofs.Sorted.{twice_kept}
use Rattle.id_index.proofs.index.IdIndex.sparse.Goals as goal

pub returns-clause-index : goal.returns-clause-index
returns-clause-index c =
    let rows = c.in_ok-rows.rows in
    record {
      rows = c.in_ok-rows.ensures.rows;
      repeated = c.first_twice-repeated.ensures ∙ twice_kept c.args.ids.now rows.entries.items c.in_ok-rows.ensures.same rows.rising;
    }

pub returns-clause-many : goal.returns-clause-many
returns-clause-many c =
    let entries = c.in_ok-rows.rows.entries.items in
    sym (length-map entries (λ (e : Entry). e.id)) ∙ length_permutation c.args.ids.now (ids_of entries) c.in_ok-rows.ensures.same
