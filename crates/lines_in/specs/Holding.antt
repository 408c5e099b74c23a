-- Lines and what is kept of one that has not ended.
use Rattle.std.specs.Prelude.{◌≡◌, ◌<◌, ◌≤◌, ℕ, [], ◌∷◌, ◌++◌, length}
use Rattle.map_model.specs.SortedMap.{Bytes}

abbrev pub with_newline : Bytes → Bytes
with_newline line = line ++ 10 ∷ []

-- what is kept of a line that has not ended, where lines have at most so many bytes: all of it, or, of one that is too long
-- already, too much
pub record PendingLine (most : ℕ) (rest kept : Bytes) : Type 0 where
  pub short : length rest ≤ most → kept ≡ rest
  pub long : most < length rest → most < length kept
