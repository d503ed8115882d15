-- Which regions the map of contents has: those whose ids are among the contents' own.
use Rattle.std.specs.Prelude.{◌≢◌, slice_index, is_some, option_map, find, unwrap_or, MatchOption}
use Rattle.std.proofs.Common.{◌≡◌, ℕ, ◌<◌, ◌==◌, true, List, length, refl, ap, sym, ◌∙◌, subst, Option, Some, None}
use Rattle.std.proofs.lemmas.Bool.{false_from_ne_true}
use Rattle.plane_model.specs.declared.rows.RegionRow.{RegionRow}
use Rattle.plane_model.specs.Sets.{has, rising}
use Rattle.plane_model.specs.Regions.{is_region}
use Rattle.plane_model.proofs.Sorting.{rising-has}
use Rattle.id_names.specs.Names.{number_of}
use Rattle.file_laws.specs.Contents.{Contents}
use Rattle.file_laws.specs.MapOfFile.{region_row, rows_of_contents}
use Rattle.file_laws.proofs.Lists.{has-index, index-has}
use Rattle.navigate.specs.Bound.{map_with}
use Rattle.navigate.proofs.Facts.{found_test, named_test, some_map}

region_test : (c : Contents) (r : ℕ) → has c.regions r ≡ is_region (map_with c) r
region_test c r =
    sym
    (some_map (λ (x : RegionRow). x.parent) (find (λ x. x.id == r) (rows_of_contents c).regions) ∙ found_test (λ (x : RegionRow). x.id) (λ id. region_row c id (unwrap_or (number_of c.regions id) 0)) (λ x. refl) (rising c.regions) r
    ∙ rising-has c.regions r)

-- a region is found exactly where the map has it
pub region_known : (c : Contents) (ids : List ℕ) (r : ℕ) (o : Option ℕ) → ids ≡ c.regions → MatchOption o ((k : ℕ) → k < length ids → slice_index ids k ≢ r) (λ number. (number < length ids) × (slice_index ids number ≡ r))
    → is_some o ≡ is_region (map_with c) r
region_known c ids r o same found = named_test ids r o found ∙ ap (λ xs. has xs r) same ∙ region_test c r
