-- The blocks of a table one of which has the first format, by which the definitions are shown.
use Rattle.std.specs.Prelude.{List, [], ◌∷◌, codes}
use Rattle.map_model.specs.SortedMap.{Bytes}
use Rattle.entry_model.specs.Entries.{Entry, put_entry, del_entry}
use Rattle.block_model.specs.Block.{block_bytes}
use Rattle.block_model.specs.Examples.{a_b}
use Rattle.block_model.specs.OldBlock.{old_block_bytes}

-- b with the value c, and bc, of which nothing is there
abbrev pub b_and_bc : List Entry
b_and_bc = put_entry (codes "b") (codes "c") ∷ del_entry (codes "bc") ∷ []

-- the block of a with b as it was written before, and that of the other two as it is written
abbrev pub of_both_formats : List Bytes
of_both_formats = old_block_bytes (a_b ∷ []) ∷ block_bytes b_and_bc ∷ []
