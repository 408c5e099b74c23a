use Rattle.std.proofs.Common.{◌∙◌, List, ap}
use Rattle.table_file.specs.BlockRows.{rows_seen}
use Rattle.table_file.specs.Walks.{most_block_pages}
use Rattle.table_file.specs.declared.block_row.BlockRow.{BlockRow}
use Rattle.table_file.proofs.index.BlockIndex.new.Goals as goal

pub invariant_of-result : goal.invariant_of-result
invariant_of-result c =
    (c.requires.sound, c.requires.stand, c.most_pages-most.ensures ∙ ap (λ (rs : List BlockRow). most_block_pages (rows_seen rs)) c.as_slice.ensures.value)
