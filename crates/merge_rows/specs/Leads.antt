-- The lead of a key: its first bytes as one number.
use Rattle.std.specs.Prelude.{ℕ, [], Option, Some, None}
use Rattle.byteorder.specs.Endian.{big_number}
use Rattle.entry_model.specs.Entries.{Entry}
use Rattle.map_model.specs.SortedMap.{Bytes}

-- the first eight bytes, of which the first is the highest; zeros are after a shorter key
unfoldable pub lead_of : Bytes → ℕ
lead_of key = big_number 8 key

-- the key at hand, or none of any byte
abbrev pub key_at_hand : Option Entry → Bytes
key_at_hand None = []
key_at_hand (Some e) = e.key
