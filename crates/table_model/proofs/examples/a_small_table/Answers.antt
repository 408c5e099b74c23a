use Rattle.std.proofs.Common.{refl}
use Rattle.std.proofs.lemmas.Bool.{eqb-false}
use Rattle.block_model.specs.Block.{block_bytes, header_bytes, list_bytes}
use Rattle.block_model.specs.Bodies.{entries_bytes, listed_places}
use Rattle.block_model.specs.Index.{index_bytes, index_head_bytes, index_row_bytes, index_row_of, index_with, ranges_bytes}
use Rattle.block_model.specs.Pages.{block_length, block_pages, blocks_of, data_pages, index_length, padding, pages_for}
use Rattle.table_model.specs.Damage.{other_sum}
use Rattle.table_model.specs.Written.{row_from}
use Rattle.table_model.proofs.examples.a_small_table.Goals as goal

pub returns-clause-another_filter : goal.returns-clause-another_filter
unfolding row_from pages_for block_length block_pages blocks_of data_pages index_length entries_bytes listed_places list_bytes block_bytes header_bytes padding index_with index_row_of ranges_bytes index_bytes index_head_bytes index_row_bytes
returns-clause-another_filter c = λ spelling first_fault. other_sum (eqb-false 12638149817160282822 12638153115695167455 refl)
