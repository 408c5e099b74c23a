-- Entries of a block of either format that are walked, while the key of each is built in a buffer.
use Rattle.std.specs.Prelude.{◌≡◌, ◌≤◌, ℕ, zero, suc, ◌+◌, ◌-◌, true, List, length, take, drop, Option, Some, None}
use Rattle.std.specs.Option.{option_map}
use Rattle.key_base.specs.ByteOrder.{is_before}
use Rattle.key_base.specs.Limits.{max_key_bytes}
use Rattle.map_model.specs.SortedMap.{Bytes}
use Rattle.entry_model.specs.Entries.{Entry, entry_of}
use Rattle.entry_model.specs.Newest.{entries_from}
use Rattle.block_model.specs.BlockReading.{block_in}
use Rattle.block_model.specs.Formats.{Format, Old, Prefixed, entries_by, key_by, rest_length_in, shared_in, width_by}
use Rattle.block_format.specs.declared.format.BlockFormat.{BlockFormat}
use Rattle.block_format.specs.declared.format.BlockFormat.TheVariants as code
use Rattle.block_format.specs.declared.walk.EntryWalk.{EntryWalk}
use Rattle.block_format.specs.declared.walk.ValuePlace.{ValuePlace}

-- the format that code names
abbrev pub format_of : BlockFormat → Format
format_of code.Old = Old
format_of code.Prefixed = Prefixed

-- An entry that begins some bytes and can be read after a key: it lies in them, it shares no more than that key has, and its own
-- key is not too long and above that one.
pub record IsHere (f : Format) (before rest : Bytes) : Type 0 where
  pub within : width_by f rest ≤ length rest
  pub shared : shared_in f rest ≤ length before
  pub short : shared_in f rest + rest_length_in f rest ≤ max_key_bytes
  pub above : is_before before (key_by f before rest) ≡ true

-- so many entries stand in the bytes one after the other, the first of them after a key
abbrev pub StandBy : Format → ℕ → Bytes → Bytes → Type 0
StandBy f zero before rest = Unit {0}
StandBy f (suc more) before rest = IsHere f before rest × StandBy f more (key_by f before rest) (drop (width_by f rest) rest)

-- ---- a walk: the key before stands in a buffer, the entries in the bytes of a block

abbrev pub part_walked : EntryWalk → Bytes → Bytes
part_walked walk bytes = take (walk.end - walk.at) (drop walk.at bytes)

abbrev pub key_held : EntryWalk → Bytes → Bytes
key_held walk buffer = take walk.key_length buffer

-- the entries that are still to come
abbrev pub walked : EntryWalk → Bytes → Bytes → List Entry
walked walk buffer bytes = entries_by (format_of walk.format) walk.left (key_held walk buffer) (part_walked walk bytes)

-- the entries from a bound on, all where there is none
abbrev pub kept_from : Option Bytes → List Entry → List Entry
kept_from None entries = entries
kept_from (Some low) entries = entries_from entries low

-- so many entries stand there, after the key in the buffer
pub record StandsAfter (walk : EntryWalk) (buffer bytes : Bytes) : Type 0 where
  pub within : walk.at ≤ walk.end
  pub inside : walk.end ≤ length bytes
  pub held : walk.key_length ≤ length buffer
  pub entries : StandBy (format_of walk.format) walk.left (key_held walk buffer) (part_walked walk bytes)

-- A walk over entries of a block, with no key before the first of them: whatever is in a buffer, they stand there, and are all
-- that are not below a bound, or more.
pub record BeginsFor (low : Bytes) (walk : EntryWalk) (bytes : Bytes) : Type 0 where
  pub stands : (buffer : Bytes) → StandsAfter walk buffer bytes
  pub entries : (buffer : Bytes) → entries_from (walked walk buffer bytes) low ≡ entries_from (block_in bytes) low

-- the value that lies at a place of the bytes, none for a tombstone
abbrev pub value_at : Option ValuePlace → Bytes → Option Bytes
value_at place bytes = option_map (λ v. take (v.end - v.at) (drop v.at bytes)) place

-- a value lies in the bytes
abbrev pub LiesIn : Option ValuePlace → Bytes → Type 0
LiesIn None bytes = Unit {0}
LiesIn (Some v) bytes = (v.at ≤ v.end) × (v.end ≤ length bytes)

-- the entry of a block that a cursor has at hand, and those that are still to come
pub record EntriesLeft : Type 0 where
  pub now : Option Entry
  pub later : List Entry

-- the entry that a walk came by last, if it came by one, with its key and its value
unfoldable pub at_hand : Option (Option ValuePlace) → Bytes → Bytes → Option Entry
at_hand place key bytes = option_map (λ v. entry_of key (value_at v bytes)) place
