-- What a list of ranges shows.
use Rattle.std.specs.Prelude.{ℕ, List}
use Rattle.range_model.specs.Ranges.{DeletedRange}

-- the ranges, and for how many more it has room
pub record RangeList : Type 0 where
  pub ranges : List DeletedRange
  pub spare : ℕ
