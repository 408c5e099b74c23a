-- Laws of ranges that are deleted: of maps, of ranges, of sources, of outputs, and of what is hidden.
use Rattle.std.specs.Prelude.{◌≡◌, ◌≢◌, true, false, not, ◌&&◌, ◌||◌, List, [], ◌∷◌, fold, map, flat_map, None}
use Rattle.std.specs.List.{AllByRecursion}
use Rattle.std.specs.Option.{option_or}
use Rattle.key_base.specs.ByteOrder.{Bytes, is_before}
use Rattle.map_model.specs.SortedMap.{Map, get, Rises}
use Rattle.entry_model.specs.Entries.{Entry, first_key, live}
use Rattle.entry_model.specs.Newest.{KeysRise, newest_entries, lookup}
use Rattle.range_model.specs.Clearing.{lies_within, clear}
use Rattle.range_model.specs.Ranges.{DeletedRange, IsDeletedRange, HasBounds, IsBound, RangesRise, is_covered, covers, with_range, ranges_below, ranges_from}
use Rattle.range_model.specs.Sources.{Change, ClearsKeys, IsSource, Source, Sets, alone, changes_in, cleared, first_said, last_said, says, shown, source_of, with_change}
use Rattle.range_model.specs.Outputs.{AreCut, HasEntries, all_entries, with_ranges}
use Rattle.range_model.specs.Reach.{lies_below}
use Rattle.range_model.specs.ChangedMaps.{map_changed_by, map_of_changes}
use Rattle.range_model.specs.Hiding.{in_sight, oldest_changes, oldest_entries}

-- A clear takes away the keys from lo on and below hi, and leaves every other key as it was. Where lo is not below hi it
-- changes nothing.
pub record ClearLaws : Type 0 where
  pub inside : (map : Map) (lo hi key : Bytes) → lies_within lo hi key ≡ true → get (clear map lo hi) key ≡ None
  pub elsewhere : (map : Map) (lo hi key : Bytes) → lies_within lo hi key ≡ false → get (clear map lo hi) key ≡ get map key
  pub rises : (map : Map) (lo hi : Bytes) → Rises map → Rises (clear map lo hi)
  pub crossed : (map : Map) (lo hi : Bytes) → is_before lo hi ≡ false → clear map lo hi ≡ map

-- ---- ranges

-- ranges with one more cover what they covered and what it covers; they are ranges and rise, with bounds that are keys
pub record WithRangeLaws (ranges : List DeletedRange) (new : DeletedRange) : Type 0 where
  pub covers : (key : Bytes) → covers (with_range ranges new) key ≡ (is_covered new key || covers ranges key)
  pub are : AllByRecursion IsDeletedRange (with_range ranges new)
  pub rise : RangesRise (with_range ranges new)
  pub bounds : AllByRecursion HasBounds ranges → HasBounds new → AllByRecursion HasBounds (with_range ranges new)

abbrev pub OneRangeMore : Type 0
OneRangeMore =
    (ranges : List DeletedRange) (new : DeletedRange) → AllByRecursion IsDeletedRange ranges → RangesRise ranges
    → IsDeletedRange new → WithRangeLaws ranges new

-- what lies below a key covers what they cover below it, and what lies from it on the rest; both are ranges and rise
pub record CutLaws (ranges : List DeletedRange) (at : Bytes) : Type 0 where
  pub below : (key : Bytes) → covers (ranges_below ranges at) key ≡ (covers ranges key && is_before key at)
  pub from : (key : Bytes) → covers (ranges_from ranges at) key ≡ (covers ranges key && not (is_before key at))
  pub are_below : AllByRecursion IsDeletedRange (ranges_below ranges at)
  pub are_from : AllByRecursion IsDeletedRange (ranges_from ranges at)
  pub rise_below : RangesRise (ranges_below ranges at)
  pub rise_from : RangesRise (ranges_from ranges at)
  pub bounds_below : IsBound at → AllByRecursion HasBounds ranges → AllByRecursion HasBounds (ranges_below ranges at)
  pub bounds_from : IsBound at → AllByRecursion HasBounds ranges → AllByRecursion HasBounds (ranges_from ranges at)

abbrev pub RangesAreCut : Type 0
RangesAreCut = (ranges : List DeletedRange) (at : Bytes) → AllByRecursion IsDeletedRange ranges → RangesRise ranges → CutLaws ranges at

-- ---- sources

-- the source that changes make says of each key what the last of them says
abbrev pub SourceSays : Type 0
SourceSays = (changes : List Change) (key : Bytes) → says (source_of changes) key ≡ last_said changes key

-- changes of a sound source give one
abbrev pub SourceIs : Type 0
SourceIs = (start : Source) (changes : List Change) → IsSource start → IsSource (fold with_change start changes)

-- and ranges whose bounds are keys, where they clear such ones
abbrev pub SourceHasBounds : Type 0
SourceHasBounds =
    (start : Source) (changes : List Change) → AllByRecursion HasBounds start.ranges → AllByRecursion ClearsKeys changes
    → AllByRecursion HasBounds (fold with_change start changes).ranges

-- entries alone make their newest ones and no range
abbrev pub SetsAlone : Type 0
SetsAlone = (entries : List Entry) → source_of (map Sets entries) ≡ alone (newest_entries entries)

-- the changes that a sound source is make it again
abbrev pub SourceAgain : Type 0
SourceAgain = (s : Source) → IsSource s → source_of (changes_in s) ≡ s

-- as changes a source says what it says
abbrev pub ChangesSay : Type 0
ChangesSay = (s : Source) (key : Bytes) → IsSource s → last_said (changes_in s) key ≡ says s key

-- the map that changes make has at each key what the last change says that speaks of it
abbrev pub MapSays : Type 0
MapSays = (changes : List Change) (key : Bytes) → get (map_of_changes changes) key ≡ live (last_said changes key)

-- the source of changes, as changes, makes of a map with rising keys what they make of it
abbrev pub SourceKeepsMap : Type 0
SourceKeepsMap =
    (map : Map) (changes : List Change) → Rises map
    → fold map_changed_by map (changes_in (source_of changes)) ≡ fold map_changed_by map changes

-- ---- merges

-- behind the changes of a source the entries are its own, and the older ones that its ranges do not hide
abbrev pub MergeShows : Type 0
MergeShows =
    (start s : Source) (key : Bytes) → IsSource s
    → lookup (fold with_change start (changes_in s)).entries key ≡ shown s key (lookup start.entries key)

-- by rising keys
abbrev pub MergeRises : Type 0
MergeRises = (start : Source) (changes : List Change) → KeysRise start.entries → KeysRise (fold with_change start changes).entries

-- one output or more, each with its part of the ranges, say of each key what all entries with all ranges say
abbrev pub OutputsSay : Type 0
OutputsSay =
    (output : List Entry) (more : List (List Entry)) (ranges : List DeletedRange) (key : Bytes) → AreCut (output ∷ more)
    → first_said (with_ranges (output ∷ more) ranges) key ≡ option_or (lookup (all_entries (output ∷ more)) key) (cleared (covers ranges key))

-- entries by rising keys in outputs of one or more are cut
abbrev pub OutputsAreCut : Type 0
OutputsAreCut = (outputs : List (List Entry)) → AllByRecursion HasEntries outputs → KeysRise (all_entries outputs) → AreCut outputs

-- the outputs of a sound source are sound, each with its part of the ranges
abbrev pub OutputsAre : Type 0
OutputsAre =
    (outputs : List (List Entry)) (ranges : List DeletedRange) → AllByRecursion HasEntries outputs
    → IsSource (record { entries = all_entries outputs; ranges = ranges })
    → AllByRecursion IsSource (with_ranges outputs ranges)

-- and the bounds of their ranges are keys
abbrev pub OutputsHaveBounds : Type 0
OutputsHaveBounds =
    (outputs : List (List Entry)) (ranges : List DeletedRange) → AllByRecursion (λ (output : List Entry). IsBound (first_key output)) outputs
    → AllByRecursion HasBounds ranges → AllByRecursion (λ (s : Source). AllByRecursion HasBounds s.ranges) (with_ranges outputs ranges)

-- each lies below the first key of each later one
abbrev pub LieApart : List Source → Type 0
LieApart [] = Unit {0}
LieApart (s ∷ later) = AllByRecursion (λ (u : Source). lies_below s (first_key u.entries) ≡ true) later × LieApart later

-- so do the outputs of a sound source
abbrev pub OutputsLieApart : Type 0
OutputsLieApart =
    (outputs : List (List Entry)) (ranges : List DeletedRange) → AllByRecursion HasEntries outputs
    → IsSource (record { entries = all_entries outputs; ranges = ranges })
    → LieApart (with_ranges outputs ranges)

-- without ranges they are their entries
abbrev pub NoRanges : Type 0
NoRanges = (outputs : List (List Entry)) → with_ranges outputs [] ≡ map alone outputs

-- ---- reach

-- a sound source says nothing of a key below its first one
abbrev pub NothingBelow : Type 0
NothingBelow = (s : Source) (key : Bytes) → IsSource s → is_before key (first_key s.entries) ≡ true → says s key ≡ None

-- nor of one from a key on below which it lies
abbrev pub NothingFrom : Type 0
NothingFrom = (s : Source) (at key : Bytes) → IsSource s → lies_below s at ≡ true → is_before key at ≡ false → says s key ≡ None

-- and where one with entries says nothing from a key on, it lies below that key
abbrev pub SilentFrom : Type 0
SilentFrom =
    (s : Source) (at : Bytes) → IsSource s → s.entries ≢ [] → ((key : Bytes) → is_before key at ≡ false → says s key ≡ None)
    → lies_below s at ≡ true

-- ---- hiding

-- the rows of some sources that are not hidden are the entries that their changes make
abbrev pub RowsInSight : Type 0
RowsInSight =
    (sources : List Source) → AllByRecursion IsSource sources
    → (source_of (oldest_changes sources)).entries ≡ in_sight sources (newest_entries (oldest_entries sources))

-- what is in sight says of each key what the sources say, tombstones apart; their ranges may begin at no key
abbrev pub PairsInSight : Type 0
PairsInSight =
    (sources : List Source) (key : Bytes) → AllByRecursion (λ (s : Source). KeysRise s.entries) sources
    → live (lookup (in_sight sources (newest_entries (oldest_entries sources))) key) ≡ live (first_said sources key)

-- the ranges of their merge cover what one of theirs covers
abbrev pub RangesTogether : Type 0
RangesTogether =
    (sources : List Source) (key : Bytes)
    → covers (source_of (oldest_changes sources)).ranges key ≡ covers (flat_map (λ (s : Source). s.ranges) sources) key
