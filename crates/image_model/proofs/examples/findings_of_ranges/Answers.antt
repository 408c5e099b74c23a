use Rattle.std.proofs.Common.{refl}
use Rattle.block_model.specs.IndexReading.{all_ranges_fault, all_ranges_in, head_width_in, index_fault, index_head_fault, index_in, last_in, least_in, pages_fault, ranges_fault, row_fault, row_in, row_width_in, rows_end_in, rows_fault, rows_in, rows_width_in}
use Rattle.image_model.proofs.examples.findings_of_ranges.Goals as goal

pub returns-clause-in_reverse : goal.returns-clause-in_reverse
unfolding index_fault index_head_fault head_width_in least_in rows_fault row_fault row_width_in last_in pages_fault index_in rows_in row_in rows_width_in rows_end_in all_ranges_fault all_ranges_in ranges_fault
returns-clause-in_reverse c = refl

pub returns-clause-in_order : goal.returns-clause-in_order
unfolding index_fault index_head_fault head_width_in least_in rows_fault row_fault row_width_in last_in pages_fault index_in rows_in row_in rows_width_in rows_end_in all_ranges_fault all_ranges_in ranges_fault
returns-clause-in_order c = refl

pub returns-clause-a_damaged_one_between : goal.returns-clause-a_damaged_one_between
unfolding index_fault index_head_fault head_width_in least_in rows_fault row_fault row_width_in last_in pages_fault index_in rows_in row_in rows_width_in rows_end_in all_ranges_fault all_ranges_in ranges_fault
returns-clause-a_damaged_one_between c = refl

pub returns-clause-a_damaged_one_before : goal.returns-clause-a_damaged_one_before
unfolding index_fault index_head_fault head_width_in least_in rows_fault row_fault row_width_in last_in pages_fault index_in rows_in row_in rows_width_in rows_end_in all_ranges_fault all_ranges_in ranges_fault
returns-clause-a_damaged_one_before c = refl
