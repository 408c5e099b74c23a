use Rattle.std.proofs.Common.{◌≡◌, inr, true, false, [], refl, arith}
use Rattle.block_model.specs.Bodies.{entries_bytes}
use Rattle.block_model.specs.Pages.{block_length, block_pages, blocks_of, data_pages, index_length, pages_for}
use Rattle.entry_model.specs.Entries.{filled, gap}
use Rattle.key_base.specs.Limits.{last_epoch}
use Rattle.state_model.specs.Examples.{cramped}
use Rattle.state_model.specs.Merges.{Plan}
use Rattle.state_model.specs.Tends.{no_room, started}
use Rattle.state_model.proofs.examples.what_a_merge_slice_writes.Goals as goal

pub returns-clause-an_output_that_has_room : goal.returns-clause-an_output_that_has_room
unfolding pages_for entries_bytes block_length block_pages blocks_of data_pages index_length filled gap last_epoch
returns-clause-an_output_that_has_room c = record { room = refl; epoch = λ none last. omega (arith, last) }

pub returns-clause-none_without_room : goal.returns-clause-none_without_room
unfolding pages_for entries_bytes block_length block_pages blocks_of data_pages index_length filled gap last_epoch
returns-clause-none_without_room c = λ may. let wrong : false ≡ true = may.room in cc

pub returns-clause-nor_an_install_at_the_last_epoch : goal.returns-clause-nor_an_install_at_the_last_epoch
unfolding pages_for entries_bytes block_length block_pages blocks_of data_pages index_length filled gap last_epoch
returns-clause-nor_an_install_at_the_last_epoch c = λ may. may.epoch refl refl

pub returns-clause-need_and_gap_are_told : goal.returns-clause-need_and_gap_are_told
unfolding pages_for entries_bytes block_length block_pages blocks_of data_pages index_length filled gap last_epoch
returns-clause-need_and_gap_are_told c =
    let plan : Plan = record { inputs = cramped.tables; output = 1 } in
    let job = started plan in
    no_room job job (record { need = 3; gap = 2 }) (inr (plan, refl, refl, refl))
    (record { inputs = refl; output = refl; to_read = omega arith; more = 0; made = []; placed_so = refl; written = refl }) refl
