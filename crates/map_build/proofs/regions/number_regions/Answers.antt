use Rattle.std.proofs.Common.{rules, ap, subst, sym, ◌∙◌}
use Rattle.plane_model.specs.Rows.{rows_of}
use Rattle.plane_model.specs.PlaneMap.{map_of}
use Rattle.plane_model.specs.Faults.{first_fault, region_fault}
use Rattle.rotation_check.specs.Checked.{Names}
use Rattle.region_tree.specs.Parts.{member_places, region_bits, region_ids}
use Rattle.map_build.proofs.Checks.{consistent_whole, names_regions, same_bits, same_ids, same_members, same_tables}
use Rattle.map_build.proofs.regions.number_regions.Goals as goal

pub returns-in_err-parts-clause-refused : goal.returns-in_err-parts-clause-refused
returns-in_err-parts-clause-refused c =
    let t = rows_of c.args.tables.now in
    let same = same_tables t _ _ _ c.deref.ensures.value c.deref-2.ensures.value c.deref-3.ensures.value in
    let named : Names c.in_err-parts.field-0.0 (first_fault t) = names_regions t c.in_err-parts.field-0.0 c.requires.in_range c.requires.consistent (subst (λ u. Names c.in_err-parts.field-0.0 (region_fault u)) same c.in_err-parts.ensures.refused) in
    search rules

pub returns-clause-consistent : goal.returns-clause-consistent
returns-clause-consistent c =
    let t = rows_of c.args.tables.now in
    let same = same_tables t _ _ _ c.deref.ensures.value c.deref-2.ensures.value c.deref-3.ensures.value in
    consistent_whole t c.requires.in_range c.requires.consistent (sym (ap (λ u. region_fault u) same) ∙ c.in_ok-parts.ensures.fine)

pub returns-clause-regions : goal.returns-clause-regions
returns-clause-regions c =
    let t = rows_of c.args.tables.now in
    let same = same_tables t _ _ _ c.deref.ensures.value c.deref-2.ensures.value c.deref-3.ensures.value in
    record {
      bits = c.in_ok-parts.ensures.bits ∙ ap (λ u. region_bits (map_of u)) same ∙ same_bits t;
      ids = c.in_ok-parts.ensures.ids ∙ ap (λ u. region_ids (map_of u)) same ∙ same_ids t;
      members = c.in_ok-parts.ensures.members ∙ ap (λ u. member_places (map_of u)) same ∙ same_members t;
    }
