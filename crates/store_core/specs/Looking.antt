-- What a get says by what a store keeps and by an image of its device, table by table: no state is needed.
use Rattle.std.specs.Prelude.{◌≡◌, Option, None}
use Rattle.std.specs.Option.{option_or}
use Rattle.disk_trait.specs.Image.{Image}
use Rattle.entry_model.specs.Entries.{live}
use Rattle.entry_model.specs.Newest.{lookup}
use Rattle.map_model.specs.SortedMap.{Bytes}
use Rattle.store_core.specs.StoreValue.{StoreValue}
use Rattle.store_search.specs.Looking.{AreReadSound, looked_tables}

-- what the store says: its memory, and else its tables
abbrev pub looked : StoreValue → Bytes → Image → Option (Option Bytes)
looked store key image = option_or (lookup store.memory.entries key) (looked_tables store.blocks store.tables key image)

-- What is said of a key, and what was read for it: sound blocks alone, of a key that is not in memory.
pub record SaysLooked (store : StoreValue) (key : Bytes) (image : Image) (said : Option (Option Bytes)) : Type 0 where
  pub said_is : said ≡ looked store key image
  pub sound : lookup store.memory.entries key ≡ None → AreReadSound store.blocks store.tables key image

-- so with the value that a get answers: none where what is said is a tombstone
pub record GivesLooked (store : StoreValue) (key : Bytes) (image : Image) (value : Option Bytes) : Type 0 where
  pub value_is : value ≡ live (looked store key image)
  pub sound : lookup store.memory.entries key ≡ None → AreReadSound store.blocks store.tables key image
