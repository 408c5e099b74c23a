use Rattle.std.proofs.Common.{refl}
use Rattle.block_model.specs.BlockReading.{block_fault_by, block_in_by, entries_fault_by, entries_part_by, entry_fault_by, header_fault_by, tail_fault}
use Rattle.block_model.specs.Formats.{entries_by, key_by, value_by, width_by}
use Rattle.block_model.specs.Pages.{pages_for}
use Rattle.image_model.proofs.examples.findings_of_two_blocks.Goals as goal

pub returns-clause-in_order : goal.returns-clause-in_order
unfolding block_fault_by header_fault_by entries_part_by entries_fault_by entry_fault_by entries_by key_by value_by width_by tail_fault block_in_by pages_for
returns-clause-in_order c = refl

pub returns-clause-changed_over : goal.returns-clause-changed_over
unfolding block_fault_by header_fault_by entries_part_by entries_fault_by entry_fault_by entries_by key_by value_by width_by tail_fault block_in_by pages_for
returns-clause-changed_over c = refl

pub returns-clause-after_damage : goal.returns-clause-after_damage
unfolding block_fault_by header_fault_by entries_part_by entries_fault_by entry_fault_by entries_by key_by value_by width_by tail_fault block_in_by pages_for
returns-clause-after_damage c = refl
