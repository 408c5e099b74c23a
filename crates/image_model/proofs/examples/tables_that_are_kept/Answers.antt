use Rattle.std.proofs.Common.{◌≡◌, ℕ, List, [], ◌∷◌, arith}
use Rattle.block_model.specs.Index.{IndexRow, index_bytes, index_head_bytes}
use Rattle.disk_trait.specs.Image.{Shows}
use Rattle.map_model.specs.SortedMap.{Bytes}
use Rattle.range_model.specs.Ranges.{DeletedRange}
use Rattle.table_model.specs.Pieces.{index_of_pieces}
use Rattle.image_model.proofs.examples.tables_that_are_kept.Goals as goal

starts : (b : ℕ) (more seen : List ℕ) → 0 ∷ seen ≡ b ∷ more → b ≡ 0
starts b more seen e = cc

-- an index begins with a byte that is not 0
no_index : (at : ℕ) (least : Bytes) (rows : List IndexRow) (ranges : List DeletedRange) → Shows at (index_bytes (record { least = least; rows = rows; ranges = ranges })) (λ place. 0) → ⊥
unfolding index_bytes index_head_bytes
no_index at least rows [] shown = omega (arith, starts 0x53 _ _ shown)
no_index at least rows (range ∷ more) shown = omega (arith, starts 0x53 _ _ shown)

pub returns-clause-none_on_zeros : goal.returns-clause-none_on_zeros
unfolding index_of_pieces
returns-clause-none_on_zeros c = λ spelling t stand. no_index _ _ _ stand.0.1.1.ranges stand.0.1.1.index.shown
