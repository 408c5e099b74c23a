-- The largest block of a table, by its index.
use Rattle.std.proofs.Common.{◌≡◌, ◌≤◌, ◌<◌, ◌*◌, ℕ, zero, suc, List, [], ◌∷◌, length, arith}
use Rattle.std.specs.Prelude.{max}
use Rattle.std.specs.List.{AllByRecursion}
use Rattle.block_model.specs.Index.{IndexRow, IsIndexRow}
use Rattle.table_file.specs.Search.{row_at}
use Rattle.table_file.specs.Walks.{most_block_pages}

pub few_pages_each : (rows : List IndexRow) → AllByRecursion IsIndexRow rows → most_block_pages rows ≤ 257
few_pages_each [] each = omega arith
few_pages_each (row ∷ later) each = omega (arith, each.0.few_pages, few_pages_each later each.1)

-- no block is larger
pub row_within : (rows : List IndexRow) (n : ℕ) → n < length rows → (row_at rows n).pages ≤ most_block_pages rows
row_within [] n lt = absurd (omega (arith, lt))
row_within (row ∷ later) zero lt = omega arith
row_within (row ∷ later) (suc n) lt = omega (arith, row_within later n (omega (arith, lt)))
