-- Entries that a merge cut into outputs, and ranges that are cut with them.
use Rattle.std.specs.Prelude.{◌≡◌, ◌≢◌, false, List, [], ◌∷◌, flat_map}
use Rattle.std.specs.List.{AllByRecursion}
use Rattle.key_base.specs.ByteOrder.{Bytes, is_before}
use Rattle.entry_model.specs.Entries.{Entry, first_key}
use Rattle.entry_model.specs.Newest.{ComesBefore}
use Rattle.range_model.specs.Ranges.{DeletedRange, ranges_below, ranges_from}
use Rattle.range_model.specs.Sources.{Source}

-- each output has the ranges up to the first key of the next one
abbrev pub with_ranges : List (List Entry) → List DeletedRange → List Source
with_ranges [] ranges = []
with_ranges (output ∷ []) ranges = record { entries = output; ranges = ranges } ∷ []
with_ranges (output ∷ next ∷ more) ranges =
    record { entries = output; ranges = ranges_below ranges (first_key next) } ∷ with_ranges (next ∷ more) (ranges_from ranges (first_key next))

abbrev pub all_entries : List (List Entry) → List Entry
all_entries outputs = flat_map (λ (output : List Entry). output) outputs

-- one or more
abbrev pub HasEntries : List Entry → Type 0
HasEntries output = output ≢ []

-- its key is this one or more
abbrev pub ComesFrom : Bytes → Entry → Type 0
ComesFrom key entry = is_before entry.key key ≡ false

-- the entries were cut into outputs: those of one come before the first key of the next, and all later ones from it on
abbrev pub AreCut : List (List Entry) → Type 0
AreCut [] = Unit {0}
AreCut (output ∷ []) = Unit {0}
AreCut (output ∷ next ∷ more) =
    AllByRecursion (ComesBefore (first_key next)) output
    × AllByRecursion (ComesFrom (first_key next)) (all_entries (next ∷ more))
    × AreCut (next ∷ more)
