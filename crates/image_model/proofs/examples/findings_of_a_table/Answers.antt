use Rattle.std.proofs.Common.{refl}
use Rattle.block_model.specs.BlockReading.{block_fault_by, block_in_by, entries_fault_by, entries_part_by, entry_fault_by, header_fault_by, tail_fault}
use Rattle.block_model.specs.Formats.{entries_by, key_by, value_by, width_by}
use Rattle.block_model.specs.IndexReading.{all_ranges_fault, all_ranges_in, head_width_in, index_fault, index_head_fault, index_in, last_in, least_in, pages_fault, ranges_fault, row_fault, row_in, row_width_in, rows_end_in, rows_fault, rows_in, rows_width_in}
use Rattle.block_model.specs.Pages.{pages_for}
use Rattle.image_model.proofs.examples.findings_of_a_table.Goals as goal

pub returns-clause-clean : goal.returns-clause-clean
unfolding block_fault_by header_fault_by entries_part_by entries_fault_by entry_fault_by entries_by key_by value_by width_by tail_fault block_in_by pages_for index_fault index_head_fault head_width_in least_in rows_fault row_fault row_width_in last_in pages_fault index_in rows_in row_in rows_width_in rows_end_in all_ranges_fault all_ranges_in ranges_fault
returns-clause-clean c = refl

pub returns-clause-its_keys : goal.returns-clause-its_keys
unfolding block_fault_by header_fault_by entries_part_by entries_fault_by entry_fault_by entries_by key_by value_by width_by tail_fault block_in_by pages_for index_fault index_head_fault head_width_in least_in rows_fault row_fault row_width_in last_in pages_fault index_in rows_in row_in rows_width_in rows_end_in all_ranges_fault all_ranges_in ranges_fault
returns-clause-its_keys c = refl

pub returns-clause-three_by_the_row : goal.returns-clause-three_by_the_row
unfolding block_fault_by header_fault_by entries_part_by entries_fault_by entry_fault_by entries_by key_by value_by width_by tail_fault block_in_by pages_for index_fault index_head_fault head_width_in least_in rows_fault row_fault row_width_in last_in pages_fault index_in rows_in row_in rows_width_in rows_end_in all_ranges_fault all_ranges_in ranges_fault
returns-clause-three_by_the_row c = refl

pub returns-clause-of_a_damaged_block : goal.returns-clause-of_a_damaged_block
unfolding block_fault_by header_fault_by entries_part_by entries_fault_by entry_fault_by entries_by key_by value_by width_by tail_fault block_in_by pages_for index_fault index_head_fault head_width_in least_in rows_fault row_fault row_width_in last_in pages_fault index_in rows_in row_in rows_width_in rows_end_in all_ranges_fault all_ranges_in ranges_fault
returns-clause-of_a_damaged_block c = refl

pub returns-clause-no_count_then : goal.returns-clause-no_count_then
unfolding block_fault_by header_fault_by entries_part_by entries_fault_by entry_fault_by entries_by key_by value_by width_by tail_fault block_in_by pages_for index_fault index_head_fault head_width_in least_in rows_fault row_fault row_width_in last_in pages_fault index_in rows_in row_in rows_width_in rows_end_in all_ranges_fault all_ranges_in ranges_fault
returns-clause-no_count_then c = refl

pub returns-clause-no_keys_then : goal.returns-clause-no_keys_then
unfolding block_fault_by header_fault_by entries_part_by entries_fault_by entry_fault_by entries_by key_by value_by width_by tail_fault block_in_by pages_for index_fault index_head_fault head_width_in least_in rows_fault row_fault row_width_in last_in pages_fault index_in rows_in row_in rows_width_in rows_end_in all_ranges_fault all_ranges_in ranges_fault
returns-clause-no_keys_then c = refl
