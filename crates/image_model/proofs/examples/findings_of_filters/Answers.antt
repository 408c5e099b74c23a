use Rattle.std.proofs.Common.{refl}
use Rattle.std.proofs.lemmas.Bool.{eqb-false}
use Rattle.std.specs.Prelude.{[], ◌∷◌, codes}
use Rattle.block_model.specs.BlockReading.{block_fault_by, block_in_by, entries_fault_by, entries_part_by, entry_fault_by, header_fault_by, tail_fault}
use Rattle.block_model.specs.Formats.{entries_by, key_by, value_by, width_by}
use Rattle.block_model.specs.IndexReading.{all_ranges_fault, all_ranges_in, head_width_in, index_fault, index_head_fault, index_in, last_in, least_in, pages_fault, ranges_fault, row_fault, row_in, row_width_in, rows_end_in, rows_fault, rows_in, rows_width_in}
use Rattle.block_model.specs.Pages.{pages_for}
use Rattle.table_model.specs.Damage.{other_leaves}
use Rattle.image_model.specs.Findings.{compared, damaged, unknown}
use Rattle.image_model.proofs.examples.findings_of_filters.Goals as goal

pub returns-clause-unknown : goal.returns-clause-unknown
unfolding block_fault_by header_fault_by entries_part_by entries_fault_by entry_fault_by entries_by key_by value_by width_by tail_fault block_in_by pages_for index_fault index_head_fault head_width_in least_in rows_fault row_fault row_width_in last_in pages_fault index_in rows_in row_in rows_width_in rows_end_in all_ranges_fault all_ranges_in ranges_fault
returns-clause-unknown c = λ spelling first_fault image sound. unknown sound refl

pub returns-clause-damaged : goal.returns-clause-damaged
unfolding block_fault_by header_fault_by entries_part_by entries_fault_by entry_fault_by entries_by key_by value_by width_by tail_fault block_in_by pages_for index_fault index_head_fault head_width_in least_in rows_fault row_fault row_width_in last_in pages_fault index_in rows_in row_in rows_width_in rows_end_in all_ranges_fault all_ranges_in ranges_fault
returns-clause-damaged c = λ spelling first_fault is. (_, [], damaged _ (other_leaves 0 0 0 _ refl is (eqb-false 3 2 refl)), refl, refl)

pub returns-clause-with_the_count : goal.returns-clause-with_the_count
unfolding block_fault_by header_fault_by entries_part_by entries_fault_by entry_fault_by entries_by key_by value_by width_by tail_fault block_in_by pages_for index_fault index_head_fault head_width_in least_in rows_fault row_fault row_width_in last_in pages_fault index_in rows_in row_in rows_width_in rows_end_in all_ranges_fault all_ranges_in ranges_fault
returns-clause-with_the_count c = λ spelling first_fault is. (_, [], compared (codes "a" ∷ codes "ab" ∷ []) (record { sum = refl; cutoff = 0; leaves = _; spelled = is; many = refl }) refl, refl, refl)
