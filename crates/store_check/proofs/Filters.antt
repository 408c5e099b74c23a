-- What is found of a filter.
use Rattle.std.proofs.Common.{◌≡◌, List, [], ◌∷◌, ◌++◌, refl, sym, ap, ◌∙◌}
use Rattle.std.specs.Prelude.{Option, Some, None}
use Rattle.byte_fields.specs.Faults.{Fault}
use Rattle.byte_fields.specs.declared.parts.Damage.{Damage}
use Rattle.byte_fields.specs.declared.parts.Row.{Row}
use Rattle.disk_trait.specs.Image.{Image}
use Rattle.filter_api.specs.Spellings.{Spelling}
use Rattle.filter_model.specs.Answers.{first_difference}
use Rattle.filter_model.specs.Leaves.{Filter, Leaf, leaves_of}
use Rattle.map_model.specs.SortedMap.{Bytes}
use Rattle.table_model.specs.Damage.{IsFilterDamage}
use Rattle.table_file.specs.Faults.{filter_fault_of}
use Rattle.table_file.specs.Opened.{IsReadFilter}
use Rattle.image_model.specs.Findings.{Finding, compared, damaged, found_by, leaf_findings, unknown}
use Rattle.store_check.specs.Tables.{AddsOfFilter, leaves_compared}

module _ (spelling : Spelling) (first : Bytes → Fault) (row : Row) (image : Image) (old new : List Finding) where
  pub of_damage : (keys : Option (List Bytes)) (d : Damage) (f : Finding) → IsFilterDamage spelling (filter_fault_of first) row image d → found_by (Some d) ≡ f ∷ [] → new ≡ old ++ f ∷ []
      → AddsOfFilter spelling first row keys image old new
  of_damage keys d f is said added = (found_by (Some d), damaged d is, added ∙ ap (λ (fs : List Finding). old ++ fs) (sym said))

  -- of a sound filter, by the keys that are known
  pub of_sound : (keys : Option (List Bytes)) (f : Filter) (fs : List Finding) → IsReadFilter spelling row image f → fs ≡ leaves_compared row f.leaves keys → new ≡ old ++ fs
      → AddsOfFilter spelling first row keys image old new
  of_sound None f fs is found added = ([], unknown is.sound refl, added ∙ ap (λ (xs : List Finding). old ++ xs) found)
  of_sound (Some known) f fs is found added =
      let theirs = leaves_of row.hash_bits row.real_bits known in (
        leaf_findings row (first_difference is.sound.leaves theirs),
        compared known is.sound refl,
        added ∙ ap (λ (xs : List Finding). old ++ xs) (found ∙ ap (λ (ls : List Leaf). leaf_findings row (first_difference ls theirs)) (sym is.leaves_are)),
      )
