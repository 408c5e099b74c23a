use Rattle.std.proofs.Common.{refl}
use Rattle.std.proofs.lemmas.Bool.{eqb-false}
use Rattle.table_model.specs.Damage.{other_sum}
use Rattle.image_model.specs.Findings.{damaged}
use Rattle.block_model.specs.IndexReading.{all_ranges_fault, all_ranges_in, head_width_in, index_fault, index_head_fault, index_in, last_in, least_in, pages_fault, ranges_fault, row_fault, row_in, row_width_in, rows_end_in, rows_fault, rows_in, rows_width_in}
use Rattle.image_model.proofs.examples.findings_of_rows.Goals as goal

pub returns : goal.returns
unfolding index_fault index_head_fault head_width_in least_in rows_fault row_fault row_width_in last_in pages_fault index_in rows_in row_in rows_width_in rows_end_in all_ranges_fault all_ranges_in ranges_fault
returns c = λ spelling first_fault. (_, _, damaged _ (other_sum (eqb-false 9 17814397539202711727 refl)), (_, _, damaged _ (other_sum (eqb-false 9 17814397539202711727 refl)), (_, _, damaged _ (other_sum (eqb-false 9 17814397539202711727 refl)), refl, refl), refl), refl)
