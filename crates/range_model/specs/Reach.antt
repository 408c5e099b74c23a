-- How far up a source goes, by its entries and its ranges.
use Rattle.std.specs.Prelude.{Bool, not, ◌&&◌, List, [], ◌∷◌}
use Rattle.key_base.specs.ByteOrder.{Bytes, is_before}
use Rattle.entry_model.specs.Entries.{last_key}
use Rattle.range_model.specs.Ranges.{DeletedRange}
use Rattle.range_model.specs.Sources.{Source}

-- the end of the last range, no bytes where there is none
abbrev pub reach : List DeletedRange → Bytes
reach [] = []
reach (range ∷ []) = range.hi
reach (range ∷ next ∷ later) = reach (next ∷ later)

-- all that the source speaks of comes before the key; the last range may end at it
abbrev pub lies_below : Source → Bytes → Bool
lies_below s key = is_before (last_key s.entries) key && not (is_before key (reach s.ranges))
