-- What damage a fault of opening says.
use Rattle.std.proofs.Common.{◌≡◌, ◌≢◌, ◌+◌, ℕ, List, length, sym, ap, ap₂, ◌∙◌, refl, subst}
use Rattle.std.specs.Option.{option_or}
use Rattle.std.specs.Prelude.{None, Result, Ok, Err, IfOk, IfErr, MatchResult, ◌==◌, not, drop}
use Rattle.std.proofs.lemmas.Bool.{eqb-true}
use Rattle.byte_fields.specs.Faults.{Fault, fault}
use Rattle.byte_fields.specs.Sums.{fnv_of}
use Rattle.byte_fields.specs.declared.parts.Damage.{Damage}
use Rattle.byte_fields.specs.declared.parts.Damage.TheVariants as damage
use Rattle.byte_fields.specs.declared.parts.Part.TheVariants as part
use Rattle.byte_fields.specs.declared.parts.Row.{Row}
use Rattle.disk_trait.specs.Image.{Image}
use Rattle.filter_api.specs.Spellings.{IsNoSpelling, IsSpelling, Spelling}
use Rattle.filter_api.specs.declared.errors.FilterFault.{FilterFault}
use Rattle.filter_model.specs.Leaves.{Filter, Leaf}
use Rattle.map_model.specs.SortedMap.{Bytes}
use Rattle.block_model.specs.Index.{row_pages}
use Rattle.block_model.specs.IndexReading.{all_ranges_fault, has_ranges_in, head_width_in, index_fault, index_head_fault, index_in, least_in, pages_fault, rows_count_in, rows_end_in, rows_fault, rows_part}
use Rattle.block_model.specs.Order.{is_from}
use Rattle.block_model.specs.Places.{byte_of_page, filter_page}
use Rattle.block_model.proofs.Refusals.{kept, neither, not_false}
use Rattle.table_model.specs.Damage.{HasWidths, IsFilterDamage, filter_part, no_spelling, other_leaves, other_sum, other_widths}
use Rattle.table_file.specs.Faults.{IsDamagedFilter, IsFilterAnswer, IsOtherSum, filter_fault_of}
use Rattle.table_file.specs.Opened.{IsReadFilter}
use Rattle.table_file.specs.declared.fault.TableFault.{TableFault}
use Rattle.table_file.specs.declared.fault.TableFault.TheVariants as table

module _ (spelling : Spelling) (first : Bytes → Fault) (row : Row) (image : Image) (bytes : Bytes) (at : ℕ) (part_is : filter_part row image ≡ bytes)
    (at_is : at ≡ byte_of_page (filter_page row)) where
  pub sum_damage : (t : TableFault) → IsOtherSum part.Filter at row.filter_sum bytes t → IsDamagedFilter spelling first row image t
  sum_damage t is =
      let here : IsFilterDamage spelling (filter_fault_of first) row image (damage.Sum part.Filter (byte_of_page (filter_page row)) row.filter_sum (fnv_of (filter_part row image))) =
      other_sum (λ e. is.other (e ∙ ap fnv_of part_is)) in
      subst (IsDamagedFilter spelling first row image) (sym is.fault_is)
      (subst (λ (d : Damage). IsFilterDamage spelling (filter_fault_of first) row image d)
      (ap₂ (λ (n : ℕ) (b : Bytes). damage.Sum part.Filter n row.filter_sum (fnv_of b)) (sym at_is) part_is) here)

  module _ (same : row.filter_sum ≡ fnv_of bytes) where
    kept_sum : row.filter_sum ≡ fnv_of (filter_part row image)
    kept_sum = same ∙ ap fnv_of (sym part_is)

    pub fault_damage : (f : FilterFault) (t : TableFault) → IsNoSpelling spelling bytes → fault f.place f.rule ≡ first bytes → t ≡ table.Damaged (damage.Shape part.Filter (at + f.place) f.rule)
        → IsDamagedFilter spelling first row image t
    fault_damage f t none is t_is =
        let here : IsFilterDamage spelling (filter_fault_of first) row image
        (damage.Shape part.Filter (byte_of_page (filter_page row) + (first (filter_part row image)).place) (first (filter_part row image)).rule) =
        no_spelling kept_sum (subst (IsNoSpelling spelling) (sym part_is) none) in
        let found : first (filter_part row image) ≡ fault f.place f.rule = ap first part_is ∙ sym is in
        subst (IsDamagedFilter spelling first row image) (sym t_is)
        (subst (λ (d : Damage). IsFilterDamage spelling (filter_fault_of first) row image d)
        (ap₂ (λ (n : ℕ) (x : Fault). damage.Shape part.Filter (n + x.place) x.rule) (sym at_is) found) here)

    pub leaves_damage : (hash_bits real_bits cutoff : ℕ) (leaves : List Leaf) (t : TableFault) → IsSpelling spelling hash_bits real_bits cutoff leaves bytes → length leaves ≢ row.entries
        → t ≡ table.Damaged (damage.Shape part.Filter (at + 12) 11) → IsDamagedFilter spelling first row image t
    leaves_damage hash_bits real_bits cutoff leaves t is many t_is =
        let here : IsFilterDamage spelling (filter_fault_of first) row image (damage.Shape part.Filter (byte_of_page (filter_page row) + 12) 11) =
        other_leaves hash_bits real_bits cutoff leaves kept_sum
        (subst (IsSpelling spelling hash_bits real_bits cutoff leaves) (sym part_is) is) many in
        subst (IsDamagedFilter spelling first row image) (sym t_is)
        (subst (λ (d : Damage). IsFilterDamage spelling (filter_fault_of first) row image d) (ap (λ (n : ℕ). damage.Shape part.Filter (n + 12) 11) (sym at_is)) here)

    pub widths_damage : (hash_bits real_bits cutoff : ℕ) (leaves : List Leaf) (t : TableFault) → IsSpelling spelling hash_bits real_bits cutoff leaves bytes → length leaves ≡ row.entries
        → (HasWidths row hash_bits real_bits → ⊥) → t ≡ table.Damaged (damage.Shape part.Filter (at + 5) 12) → IsDamagedFilter spelling first row image t
    widths_damage hash_bits real_bits cutoff leaves t is many other t_is =
        let here : IsFilterDamage spelling (filter_fault_of first) row image (damage.Shape part.Filter (byte_of_page (filter_page row) + 5) 12) =
        other_widths hash_bits real_bits cutoff leaves kept_sum
        (subst (IsSpelling spelling hash_bits real_bits cutoff leaves) (sym part_is) is) many other in
        subst (IsDamagedFilter spelling first row image) (sym t_is)
        (subst (λ (d : Damage). IsFilterDamage spelling (filter_fault_of first) row image d) (ap (λ (n : ℕ). damage.Shape part.Filter (n + 5) 12) (sym at_is)) here)

-- what a read of the filter answers
module _ (spelling : Spelling) (first : Bytes → Fault) (row : Row) (image : Image) where
  filter_answer : (t : TableFault) → IsDamagedFilter spelling first row image t → IsFilterAnswer spelling first row image t
  filter_answer table.Memory is = tt
  filter_answer (table.Device cause) is = tt
  filter_answer (table.Damaged d) is = is

  filter_read : (f : Filter) (bytes : Bytes) → filter_part row image ≡ bytes → row.filter_sum ≡ fnv_of bytes → IsSpelling spelling f.hash_bits f.real_bits f.cutoff f.leaves bytes
      → length f.leaves ≡ row.entries → HasWidths row f.hash_bits f.real_bits → IsReadFilter spelling row image f
  filter_read f bytes is sum spelled many wide =
      let here : IsSpelling spelling f.hash_bits f.real_bits f.cutoff f.leaves (filter_part row image) = subst (IsSpelling spelling f.hash_bits f.real_bits f.cutoff f.leaves) (sym is) spelled in
      record {
        sound = record {
          sum = sum ∙ ap fnv_of (sym is);
          cutoff = f.cutoff;
          leaves = f.leaves;
          spelled = subst (λ (n : ℕ). IsSpelling spelling n row.real_bits f.cutoff f.leaves (filter_part row image)) wide.hash
              (subst (λ (n : ℕ). IsSpelling spelling f.hash_bits n f.cutoff f.leaves (filter_part row image)) wide.real here);
          many = many;
        };
        leaves_are = refl;
        filter_is = here;
      }

  pub filter_result : {A : Type 0} (seen : A → Filter) (result : Result A TableFault) (bytes : Bytes) → filter_part row image ≡ bytes → IfErr result (IsDamagedFilter spelling first row image)
      → IfOk result (λ _. row.filter_sum ≡ fnv_of bytes) → IfOk result (λ f. IsSpelling spelling (seen f).hash_bits (seen f).real_bits (seen f).cutoff (seen f).leaves bytes)
      → IfOk result (λ f. length (seen f).leaves ≡ row.entries) → IfOk result (λ f. HasWidths row (seen f).hash_bits (seen f).real_bits)
      → MatchResult result (λ f. IsReadFilter spelling row image (seen f)) (IsFilterAnswer spelling first row image)
  filter_result seen (Ok f) bytes is damaged sum spelled many wide = filter_read (seen f) bytes is sum spelled many wide
  filter_result seen (Err t) bytes is damaged sum spelled many wide = filter_answer t damaged

-- the blocks of an index have as many pages as the table
pub pages_kept : (pages : ℕ) (bytes : Bytes) → index_fault pages bytes ≡ None → row_pages (index_in bytes).rows ≡ pages
unfolding index_fault pages_fault
pages_kept pages bytes none =
    let end = rows_end_in bytes in
    let last = pages_fault pages bytes in
    let ranges = all_ranges_fault (has_ranges_in bytes) end (drop end bytes) in
    let rows = rows_fault (rows_count_in bytes) (head_width_in bytes) (is_from (least_in bytes)) (rows_part bytes) in
    let after_head = neither (index_head_fault bytes) (option_or rows (option_or ranges last)) none in
    let left = neither ranges last (neither rows (option_or ranges last) after_head.1).1 in
    eqb-true _ _ (not_false _ (kept (not (row_pages (index_in bytes).rows == pages)) 4 8 None left.1).0)
