-- The replies and their texts.
use Rattle.std.specs.Prelude.{ℕ, [], ◌∷◌, ◌++◌, flat_map, Option, Some, None, codes, decimal}
use Rattle.byteorder.specs.Endian.{big_bytes}
use Rattle.hex.specs.Hex.{encode_lower}
use Rattle.byte_fields.specs.declared.parts.Part.{Part}
use Rattle.byte_fields.specs.declared.parts.Part.TheVariants.{Manifest, Log, Index, Filter, Block}
use Rattle.byte_fields.specs.declared.parts.Damage.{Damage}
use Rattle.byte_fields.specs.declared.parts.Damage.TheVariants.{Sum, Shape}
use Rattle.map_model.specs.SortedMap.{Bytes, Map}

-- A reply; that of a range is a line for each pair, and a last one.
pub data Reply : Type 0 where
  Done : Reply
  Value : (value : Bytes) → Reply
  Missing : Reply
  At : (key : Bytes) → (value : Bytes) → Reply
  Pairs : (found : Map) → (last : Reply) → Reply
  End : (count : ℕ) → Reply
  Counted : (count : ℕ) → Reply
  About : (count : ℕ) → Reply
  Explained : (tables : ℕ) → (admitted : ℕ) → (blocks : ℕ) → Reply
  Bye : Reply
  BadLine : (code : ℕ) → Reply
  LongKey : (size : ℕ) → Reply
  LongValue : (size : ℕ) → Reply
  ManyTables : Reply
  LastEpoch : Reply
  Full : (need : ℕ) → (gap : ℕ) → Reply
  Memory : Reply
  Device : Reply
  Damaged : (damage : Damage) → Reply

-- bytes in lower case hex, no bytes as a dash
abbrev pub word_of : Bytes → Bytes
word_of [] = codes "-"
word_of (b ∷ bytes) = encode_lower (b ∷ bytes)

abbrev pub part_word : Part → Bytes
part_word Manifest = codes "manifest"
part_word Log = codes "log"
part_word Index = codes "index"
part_word Filter = codes "filter"
part_word Block = codes "block"

-- a sum as sixteen hex digits
abbrev pub sum_word : ℕ → Bytes
sum_word sum = encode_lower (big_bytes 8 sum)

abbrev pub at_words : Bytes → Bytes → Bytes
at_words key value = codes "at " ++ word_of key ++ codes " " ++ word_of value

abbrev pub damage_words : Damage → Bytes
damage_words (Sum part at kept seen) =
    codes "damaged " ++ part_word part ++ codes " " ++ decimal at ++ codes " sum " ++ sum_word kept ++ codes " " ++ sum_word seen
damage_words (Shape part at rule) = codes "damaged " ++ part_word part ++ codes " " ++ decimal at ++ codes " rule " ++ decimal rule

-- the lines of a reply, each ended by a newline
abbrev pub text_of : Reply → Bytes
text_of Done = codes "ok" ++ 10 ∷ []
text_of (Value value) = codes "val " ++ word_of value ++ 10 ∷ []
text_of Missing = codes "none" ++ 10 ∷ []
text_of (At key value) = at_words key value ++ 10 ∷ []
text_of (Pairs found last) = flat_map (λ (pair : Bytes × Bytes). at_words pair.0 pair.1 ++ 10 ∷ []) found ++ text_of last
text_of (End count) = codes "end " ++ decimal count ++ 10 ∷ []
text_of (Counted count) = codes "count " ++ decimal count ++ 10 ∷ []
text_of (About count) = codes "about " ++ decimal count ++ 10 ∷ []
text_of (Explained tables admitted blocks) =
    codes "tables " ++ decimal tables ++ codes " admitted " ++ decimal admitted ++ codes " blocks " ++ decimal blocks ++ 10 ∷ []
text_of Bye = codes "bye" ++ 10 ∷ []
text_of (BadLine code) = codes "bad " ++ decimal code ++ 10 ∷ []
text_of (LongKey size) = codes "limit key " ++ decimal size ++ 10 ∷ []
text_of (LongValue size) = codes "limit value " ++ decimal size ++ 10 ∷ []
text_of ManyTables = codes "limit tables" ++ 10 ∷ []
text_of LastEpoch = codes "limit epoch" ++ 10 ∷ []
text_of (Full need gap) = codes "full need " ++ decimal need ++ codes " gap " ++ decimal gap ++ 10 ∷ []
text_of Memory = codes "memory" ++ 10 ∷ []
text_of Device = codes "device" ++ 10 ∷ []
text_of (Damaged damage) = damage_words damage ++ 10 ∷ []

-- what a `get` is answered, and a `seek`
abbrev pub got : Option Bytes → Reply
got (Some value) = Value value
got None = Missing

abbrev pub found : Option (Bytes × Bytes) → Reply
found (Some pair) = At pair.0 pair.1
found None = Missing
