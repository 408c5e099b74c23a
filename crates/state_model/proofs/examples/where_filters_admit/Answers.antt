use Rattle.std.proofs.Common.{◌≡◌, List, [], ◌∷◌, length, refl, ap, arith}
use Rattle.std.specs.Prelude.{codes}
use Rattle.block_model.specs.Bodies.{entries_bytes}
use Rattle.block_model.specs.Pages.{block_length, block_pages, blocks_of, data_pages, index_length, pages_for}
use Rattle.entry_model.specs.Entries.{filled, gap, put_entry}
use Rattle.range_model.specs.Sources.{Sets}
use Rattle.key_base.specs.Limits.{last_epoch}
use Rattle.state_model.specs.Bounds.{get_bound, seek_bound, tables_between}
use Rattle.state_model.specs.Examples.{aa1_and_ab1, five_and_six_under_one, key, one_byte, small_store}
use Rattle.state_model.specs.Play.{played}
use Rattle.table_model.specs.Tables.{Table}
use Rattle.state_model.proofs.examples.where_filters_admit.Goals as goal

pub returns-clause-a_get_that_the_filter_admits : goal.returns-clause-a_get_that_the_filter_admits
unfolding pages_for entries_bytes block_length block_pages blocks_of data_pages index_length filled gap last_epoch
returns-clause-a_get_that_the_filter_admits c = let one : get_bound (played one_byte small_store aa1_and_ab1).1 (codes "aa9") ≡ 1 = refl in omega (arith, one)

pub returns-clause-not_one_that_it_denies : goal.returns-clause-not_one_that_it_denies
unfolding pages_for entries_bytes block_length block_pages blocks_of data_pages index_length filled gap last_epoch
returns-clause-not_one_that_it_denies c = λ reads. let none : get_bound (played one_byte small_store aa1_and_ab1).1 (codes "ac0") ≡ 0 = refl in omega (arith, none, reads)

pub returns-clause-nor_one_below_all_keys : goal.returns-clause-nor_one_below_all_keys
unfolding pages_for entries_bytes block_length block_pages blocks_of data_pages index_length filled gap last_epoch
returns-clause-nor_one_below_all_keys c = λ reads. let none : get_bound (played one_byte small_store aa1_and_ab1).1 (codes "aa0") ≡ 0 = refl in omega (arith, none, reads)

pub returns-clause-a_seek_that_it_admits : goal.returns-clause-a_seek_that_it_admits
unfolding pages_for entries_bytes block_length block_pages blocks_of data_pages index_length filled gap last_epoch
returns-clause-a_seek_that_it_admits c = let one : seek_bound (played one_byte small_store aa1_and_ab1).1 (codes "aa5") (codes "ab0") ≡ 1 = refl in omega (arith, one)

pub returns-clause-not_a_seek_that_it_denies : goal.returns-clause-not_a_seek_that_it_denies
unfolding pages_for entries_bytes block_length block_pages blocks_of data_pages index_length filled gap last_epoch
returns-clause-not_a_seek_that_it_denies c = λ reads. let none : seek_bound (played one_byte small_store aa1_and_ab1).1 (codes "ac0") (codes "ad0") ≡ 0 = refl in omega (arith, none, reads)

pub returns-clause-an_open_seek : goal.returns-clause-an_open_seek
unfolding pages_for entries_bytes block_length block_pages blocks_of data_pages index_length filled gap last_epoch
returns-clause-an_open_seek c = (λ none. let one : length (played one_byte small_store aa1_and_ab1).1.tables ≡ 1 = refl in let no : length (played one_byte small_store aa1_and_ab1).1.tables ≡ 0 = ap (λ (l : List Table). length l) none in absurd (omega (arith, one, no)))

pub returns-clause-a_range_that_it_admits : goal.returns-clause-a_range_that_it_admits
unfolding pages_for entries_bytes block_length block_pages blocks_of data_pages index_length filled gap last_epoch
returns-clause-a_range_that_it_admits c = let one : tables_between (played one_byte small_store aa1_and_ab1).1 (codes "aa5") (codes "ab0") ≡ 1 = refl in (omega arith, omega (arith, one))

pub returns-clause-not_a_range_that_it_denies : goal.returns-clause-not_a_range_that_it_denies
unfolding pages_for entries_bytes block_length block_pages blocks_of data_pages index_length filled gap last_epoch
returns-clause-not_a_range_that_it_denies c = λ reads. let none : tables_between (played one_byte small_store aa1_and_ab1).1 (codes "ac0") (codes "ad0") ≡ 0 = refl in omega (arith, none, reads.1)

pub returns-clause-a_count_that_it_admits : goal.returns-clause-a_count_that_it_admits
unfolding pages_for entries_bytes block_length block_pages blocks_of data_pages index_length filled gap last_epoch
returns-clause-a_count_that_it_admits c = let one : tables_between (played one_byte small_store aa1_and_ab1).1 (codes "aa5") (codes "ab0") ≡ 1 = refl in omega (arith, one)

pub returns-clause-not_a_count_that_it_denies : goal.returns-clause-not_a_count_that_it_denies
unfolding pages_for entries_bytes block_length block_pages blocks_of data_pages index_length filled gap last_epoch
returns-clause-not_a_count_that_it_denies c = λ reads. let none : tables_between (played one_byte small_store aa1_and_ab1).1 (codes "ac0") (codes "ad0") ≡ 0 = refl in omega (arith, none, reads)

pub returns-clause-a_count_of_more_than_the_memory_answers : goal.returns-clause-a_count_of_more_than_the_memory_answers
unfolding pages_for entries_bytes block_length block_pages blocks_of data_pages index_length filled gap last_epoch
returns-clause-a_count_of_more_than_the_memory_answers c = let two : tables_between (played one_byte small_store five_and_six_under_one).1 (key 1) (key 10) ≡ 2 = refl in omega (arith, two)

pub returns-clause-a_compaction_of_a_table : goal.returns-clause-a_compaction_of_a_table
unfolding pages_for entries_bytes block_length block_pages blocks_of data_pages index_length filled gap last_epoch
returns-clause-a_compaction_of_a_table c = (((λ none. let wrong : (Sets (put_entry (codes "aa1") (1 ∷ [])) ∷ Sets (put_entry (codes "ab1") (2 ∷ [])) ∷ []) ≡ [] = none in cc), (λ last. omega (arith, last))), (λ none. let one : length (played one_byte small_store aa1_and_ab1).1.tables ≡ 1 = refl in let no : length (played one_byte small_store aa1_and_ab1).1.tables ≡ 0 = ap (λ (l : List Table). length l) none in absurd (omega (arith, one, no))))
