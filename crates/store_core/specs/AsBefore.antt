-- A store that is as it was represents what it did.
use Rattle.std.specs.Prelude.{List}
use Rattle.disk_trait.specs.Image.{Image}
use Rattle.disk_trait.specs.World.{World}
use Rattle.entry_model.specs.Entries.{Entry}
use Rattle.filter_api.specs.Spellings.{Spelling}
use Rattle.state_model.specs.State.{State}
use Rattle.store_core.specs.Refusing.{IsEntryAllowed, IsFlushAllowed}
use Rattle.store_core.specs.Represents.{ReadsAs, Represents}
use Rattle.store_core.specs.Staying.{IsAsItWas}
use Rattle.store_core.specs.StoreValue.{StoreValue}
use Rattle.table_model.specs.Tables.{FilterBytes}

-- A store that is as another one was: then that one is as it is, too. On a device as it is, and on each image, it represents what
-- the other one represented there; and a flush and an entry meet no limit, and no lack of room, where they met none.
pub record RepresentsAsBefore (spelling : Spelling) (filter_bytes : FilterBytes) (before after : StoreValue) (w : World) : Type 0 where
  pub back : IsAsItWas after before
  pub represents : (s : State) → Represents spelling filter_bytes before s w → Represents spelling filter_bytes after s w
  pub reads : (s : State) (image : Image) → ReadsAs spelling filter_bytes before s image → ReadsAs spelling filter_bytes after s image
  pub flush : (entries : List Entry) → IsFlushAllowed filter_bytes before entries → IsFlushAllowed filter_bytes after entries
  pub entry : (e : Entry) → IsEntryAllowed filter_bytes before e → IsEntryAllowed filter_bytes after e
