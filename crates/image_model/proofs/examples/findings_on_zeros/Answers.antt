use Rattle.std.proofs.Common.{refl}
use Rattle.block_model.specs.BlockReading.{block_fault_by, header_fault_by}
use Rattle.block_model.specs.IndexReading.{index_in, rows_in}
use Rattle.image_model.proofs.examples.findings_on_zeros.Goals as goal

pub returns-clause-a_rule : goal.returns-clause-a_rule
unfolding block_fault_by header_fault_by
returns-clause-a_rule c = refl

pub returns-clause-a_count : goal.returns-clause-a_count
unfolding index_in rows_in
returns-clause-a_count c = refl
