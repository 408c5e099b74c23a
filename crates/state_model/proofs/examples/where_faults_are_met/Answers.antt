use Rattle.std.proofs.Common.{◌≡◌, inr, [], ◌∷◌, ◌++◌, refl, arith, true, false}
use Rattle.std.specs.Prelude.{Some, None}
use Rattle.block_model.specs.Bodies.{entries_bytes}
use Rattle.block_model.specs.Pages.{block_length, block_pages, blocks_of, data_pages, index_length, pages_for}
use Rattle.entry_model.specs.Entries.{filled, gap, put_entry}
use Rattle.key_base.specs.Limits.{last_epoch}
use Rattle.line_model.specs.Replies.{Done}
use Rattle.state_model.specs.Bounds.{get_bound}
use Rattle.state_model.specs.Examples.{base, key, one_byte, put_one, small_store, two_values}
use Rattle.state_model.specs.Play.{played}
use Rattle.state_model.specs.Steps.{answers}
use Rattle.state_model.specs.Tends.{started}
use Rattle.state_model.proofs.SoundChanges.{new_sound}
use Rattle.state_model.proofs.examples.where_faults_are_met.Goals as goal

pub returns-clause-a_get_reads_a_table : goal.returns-clause-a_get_reads_a_table
unfolding pages_for entries_bytes block_length block_pages blocks_of data_pages index_length filled gap last_epoch
returns-clause-a_get_reads_a_table c = let one : get_bound (played one_byte small_store two_values).1 (key 0x61) ≡ 1 = refl in omega (arith, one)

pub returns-clause-but_not_where_the_memory_has_the_key : goal.returns-clause-but_not_where_the_memory_has_the_key
unfolding pages_for entries_bytes block_length block_pages blocks_of data_pages index_length filled gap last_epoch
returns-clause-but_not_where_the_memory_has_the_key c = λ reads. let none : get_bound (played one_byte small_store (two_values ++ put_one 0x61 ∷ [])).1 (key 0x61) ≡ 0 = refl in omega (arith, none, reads)

pub returns-clause-a_range_of_no_pairs_reads_nothing : goal.returns-clause-a_range_of_no_pairs_reads_nothing
unfolding pages_for entries_bytes block_length block_pages blocks_of data_pages index_length filled gap last_epoch
returns-clause-a_range_of_no_pairs_reads_nothing c = λ reads. omega (arith, reads.0)

pub returns-clause-a_flush_of_nothing_takes_no_memory : goal.returns-clause-a_flush_of_nothing_takes_no_memory
unfolding pages_for entries_bytes block_length block_pages blocks_of data_pages index_length filled gap last_epoch
returns-clause-a_flush_of_nothing_takes_no_memory c = λ some. some refl

pub returns-clause-one_of_an_entry_writes : goal.returns-clause-one_of_an_entry_writes
unfolding pages_for entries_bytes block_length block_pages blocks_of data_pages index_length filled gap last_epoch
returns-clause-one_of_an_entry_writes c = (λ none. let wrong : (put_entry (key 0x61) (1 ∷ []) ∷ []) ≡ [] = none in cc, refl)

pub returns-clause-but_not_at_the_last_epoch : goal.returns-clause-but_not_at_the_last_epoch
unfolding pages_for entries_bytes block_length block_pages blocks_of data_pages index_length filled gap last_epoch
returns-clause-but_not_at_the_last_epoch c = λ writes. let wrong : false ≡ true = writes.1 in cc

pub returns-clause-a_range_has_said_its_first_pairs : goal.returns-clause-a_range_has_said_its_first_pairs
unfolding pages_for entries_bytes block_length block_pages blocks_of data_pages index_length filled gap last_epoch
returns-clause-a_range_has_said_its_first_pairs c = inr (1, omega arith, refl)

pub returns-clause-a_failed_write_leaves_the_store_or_another : goal.returns-clause-a_failed_write_leaves_the_store_or_another
unfolding pages_for entries_bytes block_length block_pages blocks_of data_pages index_length filled gap last_epoch
returns-clause-a_failed_write_leaves_the_store_or_another c = record { settings = refl; pages = refl; no_job = refl; sound = new_sound one_byte base 512 (record { hash_bits = omega arith; real_bits = omega arith }) (omega arith) (omega arith) (omega arith) }

pub returns-clause-but_no_job : goal.returns-clause-but_no_job
unfolding pages_for entries_bytes block_length block_pages blocks_of data_pages index_length filled gap last_epoch
returns-clause-but_no_job c = λ left. let wrong : Some (started (record { inputs = []; output = 1 })) ≡ None = left.no_job in cc

pub returns-clause-a_flush_goes_on : goal.returns-clause-a_flush_goes_on
unfolding pages_for entries_bytes block_length block_pages blocks_of data_pages index_length filled gap last_epoch
returns-clause-a_flush_goes_on c = (Done, [], small_store, small_store, refl, answers, refl, tt, (refl, refl), (refl, refl))
