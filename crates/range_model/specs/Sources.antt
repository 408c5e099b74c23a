-- Changes in the order of writing, and the source that they make: entries by rising keys, and ranges.
use Rattle.std.specs.Prelude.{◌≢◌, Bool, true, false, not, List, [], ◌∷◌, ◌++◌, fold, map, filter, Option, Some, None, if◌then◌else◌, bytes_eq}
use Rattle.std.specs.List.{AllByRecursion}
use Rattle.std.specs.Option.{option_or}
use Rattle.key_base.specs.ByteOrder.{Bytes, is_before}
use Rattle.entry_model.specs.Entries.{Entry, del_entry}
use Rattle.entry_model.specs.Newest.{with_entry, lookup, KeysRise}
use Rattle.range_model.specs.Ranges.{DeletedRange, IsDeletedRange, RangesRise, HasBounds, is_covered, covers, with_range}

-- an entry is set, or a range is cleared
pub data Change : Type 0 where
  Sets : (entry : Entry) → Change
  Clears : (range : DeletedRange) → Change

pub record Source : Type 0 where
  pub entries : List Entry
  pub ranges : List DeletedRange

-- ---- what changes make

-- the entries outside of a range
abbrev pub entries_outside : List Entry → DeletedRange → List Entry
entries_outside entries range = filter (λ (e : Entry). not (is_covered range e.key)) entries

-- A range takes away the entries that it covers, sets a tombstone at its first key, and joins the ranges.
abbrev pub with_cleared : Source → DeletedRange → Source
with_cleared s range = record { entries = with_entry (entries_outside s.entries range) (del_entry range.lo); ranges = with_range s.ranges range }

-- A range whose bounds are crossed is passed over.
abbrev pub with_change : Source → Change → Source
with_change s (Sets entry) = record { entries = with_entry s.entries entry; ranges = s.ranges }
with_change s (Clears range) = if is_before range.lo range.hi then with_cleared s range else s

abbrev pub empty_source : Source
empty_source = record { entries = []; ranges = [] }

-- entries and no range
abbrev pub alone : List Entry → Source
alone entries = record { entries = entries; ranges = [] }

abbrev pub source_of : List Change → Source
source_of changes = fold with_change empty_source changes

-- the changes that make the source: its ranges, and then its entries
abbrev pub changes_in : Source → List Change
changes_in s = map Clears s.ranges ++ map Sets s.entries

-- ---- what they say of a key

-- a tombstone where a range covers the key
abbrev pub cleared : Bool → Option (Option Bytes)
cleared true = Some None
cleared false = None

-- An entry of a source wins over the ranges of the same source.
abbrev pub says : Source → Bytes → Option (Option Bytes)
says s key = option_or (lookup s.entries key) (cleared (covers s.ranges key))

-- what the first of some sources says that says something of the key: the newest comes first
abbrev pub first_said : List Source → Bytes → Option (Option Bytes)
first_said [] key = None
first_said (source ∷ older) key = option_or (says source key) (first_said older key)

abbrev pub change_says : Change → Bytes → Option (Option Bytes)
change_says (Sets entry) key = if bytes_eq entry.key key then Some entry.value else None
change_says (Clears range) key = cleared (is_covered range key)

-- what the last of some changes says that says something of the key
abbrev pub last_said : List Change → Bytes → Option (Option Bytes)
last_said [] key = None
last_said (change ∷ later) key = option_or (last_said later key) (change_says change key)

-- what a source shows of a key: its own entry, or the older one that no range of it hides
abbrev pub shown : Source → Bytes → Option (Option Bytes) → Option (Option Bytes)
shown s key older = option_or (lookup s.entries key) (if covers s.ranges key then None else older)

-- ---- which are sound

-- the first key of the range is a key of the entries
abbrev pub BeginsAtOne : List Entry → DeletedRange → Type 0
BeginsAtOne entries range = lookup entries range.lo ≢ None

pub record IsSource (s : Source) : Type 0 where
  pub rises : KeysRise s.entries
  pub ranges : AllByRecursion IsDeletedRange s.ranges
  pub apart : RangesRise s.ranges
  pub begin : AllByRecursion (BeginsAtOne s.entries) s.ranges

-- where it clears a range, the bounds of that are keys
abbrev pub ClearsKeys : Change → Type 0
ClearsKeys (Sets entry) = Unit {0}
ClearsKeys (Clears range) = HasBounds range
