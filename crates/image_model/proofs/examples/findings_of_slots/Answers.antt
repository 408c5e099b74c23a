use Rattle.std.proofs.Common.{refl, arith}
use Rattle.manifest_model.specs.Examples.{formatted}
use Rattle.manifest_model.specs.Reading.{body_damage, early_fault, extents_fault, later_fault, levels_fault, log_area_fault, numbers_fault, prefix_length_in, row_zeros_fault, settings_fault, sum_damage, table_row_fault, table_row_in, table_rows_fault, table_rows_in, version_in, zeros_fault}
use Rattle.manifest_model.specs.Slots.{body_room}
use Rattle.manifest_model.specs.Version.{body_bytes, head_bytes, prefix_bytes, row_bytes}
use Rattle.image_model.specs.Findings.{of_slots}
use Rattle.image_model.specs.Stands.{settings_of}
use Rattle.image_model.proofs.NewStores.{new_store_stands}
use Rattle.image_model.proofs.NoFindings.{of_state}
use Rattle.image_model.proofs.examples.findings_of_slots.Goals as goal

pub returns-clause-of_ones : goal.returns-clause-of_ones
unfolding body_damage early_fault body_room
returns-clause-of_ones c = λ spelling first_fault. of_slots _ refl

pub returns-clause-of_format_9 : goal.returns-clause-of_format_9
unfolding body_damage early_fault body_room
returns-clause-of_format_9 c = λ spelling first_fault. of_slots _ refl

pub returns-clause-of_one_epoch : goal.returns-clause-of_one_epoch
unfolding body_damage early_fault body_room body_bytes prefix_bytes head_bytes row_bytes version_in table_rows_in table_row_in prefix_length_in numbers_fault settings_fault log_area_fault zeros_fault row_zeros_fault table_row_fault table_rows_fault levels_fault extents_fault later_fault sum_damage
returns-clause-of_one_epoch c = λ spelling first_fault. of_slots _ refl

pub returns-clause-of_a_new_store : goal.returns-clause-of_a_new_store
returns-clause-of_a_new_store c = λ spelling first_fault image is.
    of_state spelling first_fault image (_, new_store_stands spelling (settings_of formatted) 512 image (record { hash_bits = omega arith; real_bits = omega arith }) (omega arith) (omega arith) (omega arith) is)
