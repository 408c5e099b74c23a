use Rattle.std.proofs.Common.{◌≡◌, [], ◌∷◌, refl, arith}
use Rattle.block_model.specs.Bodies.{entries_bytes}
use Rattle.block_model.specs.Pages.{block_length, block_pages, blocks_of, data_pages, index_length, pages_for}
use Rattle.entry_model.specs.Entries.{filled, gap, put_entry}
use Rattle.range_model.specs.Sources.{Sets}
use Rattle.key_base.specs.Limits.{last_epoch}
use Rattle.state_model.specs.Examples.{key}
use Rattle.state_model.proofs.examples.where_something_is_written.Goals as goal

pub returns-clause-a_put : goal.returns-clause-a_put
unfolding pages_for entries_bytes block_length block_pages blocks_of data_pages index_length filled gap last_epoch
returns-clause-a_put c = refl

pub returns-clause-a_del : goal.returns-clause-a_del
unfolding pages_for entries_bytes block_length block_pages blocks_of data_pages index_length filled gap last_epoch
returns-clause-a_del c = refl

pub returns-clause-a_compaction : goal.returns-clause-a_compaction
unfolding pages_for entries_bytes block_length block_pages blocks_of data_pages index_length filled gap last_epoch
returns-clause-a_compaction c = (((λ none. let wrong : (Sets (put_entry (key 0x61) (1 ∷ [])) ∷ []) ≡ [] = none in cc), (λ last. omega (arith, last))), refl)

pub returns-clause-not_one_at_the_last_epoch : goal.returns-clause-not_one_at_the_last_epoch
unfolding pages_for entries_bytes block_length block_pages blocks_of data_pages index_length filled gap last_epoch
returns-clause-not_one_at_the_last_epoch c = λ writes. writes.0.1 refl

pub returns-clause-which_takes_no_memory : goal.returns-clause-which_takes_no_memory
unfolding pages_for entries_bytes block_length block_pages blocks_of data_pages index_length filled gap last_epoch
returns-clause-which_takes_no_memory c = λ takes. takes.1 refl
