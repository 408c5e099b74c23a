-- The newest entry of each key, by rising keys.
use Rattle.std.specs.Prelude.{not, List, [], ◌∷◌, fold, filter, Option, Some, None, if◌then◌else◌, bytes_eq}
use Rattle.std.specs.List.{AllByRecursion}
use Rattle.key_base.specs.ByteOrder.{IsBefore, is_before}
use Rattle.map_model.specs.SortedMap.{Bytes, byte_order, in_place}
use Rattle.entry_model.specs.Entries.{Entry}

-- the entry's key is before the key, or behind it
abbrev pub ComesBefore : Bytes → Entry → Type 0
ComesBefore key entry = IsBefore entry.key key

abbrev pub ComesBehind : Bytes → Entry → Type 0
ComesBehind key entry = IsBefore key entry.key

-- each key is before all that come after it
abbrev pub KeysRise : List Entry → Type 0
KeysRise [] = Unit {0}
KeysRise (entry ∷ later) = AllByRecursion (ComesBehind entry.key) later × KeysRise later

-- the entries with a new one at its key's place, where an older one of that key goes
abbrev pub with_entry : List Entry → Entry → List Entry
with_entry [] new = new ∷ []
with_entry (entry ∷ more) new = in_place (byte_order new.key entry.key) new entry more (with_entry more new)

-- the newest entry of each key, by rising keys, of entries in the order of writing
abbrev pub newest_entries : List Entry → List Entry
newest_entries entries = fold with_entry [] entries

-- what the first entry of the key says, where there is one
abbrev pub lookup : List Entry → Bytes → Option (Option Bytes)
lookup [] key = None
lookup (entry ∷ later) key = if bytes_eq entry.key key then Some entry.value else lookup later key

-- the entries whose keys are this one or more
abbrev pub entries_from : List Entry → Bytes → List Entry
entries_from entries low = filter (λ e. not (is_before e.key low)) entries
