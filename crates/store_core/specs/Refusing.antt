-- When a limit of tables or of the epoch, lack of room or of memory, refuses a call, by what the store is.
use Rattle.std.specs.Prelude.{◌≡◌, ◌≢◌, ◌⊎◌, ◌<◌, ◌+◌, ℕ, true, List, [], length, Some, if◌then◌else◌}
use Rattle.disk_trait.specs.World.{ReadMoves, World}
use Rattle.entry_model.specs.Entries.{Entry, need}
use Rattle.entry_model.specs.Newest.{with_entry}
use Rattle.extent_model.specs.Gaps.{first_gap}
use Rattle.key_base.specs.Limits.{last_epoch, log_bytes, max_tables}
use Rattle.state_model.specs.Changes.{is_long}
use Rattle.store_core.specs.Flushing.{IsPlanRefusal, need_under}
use Rattle.store_core.specs.Running.{extents_with, outputs_in}
use Rattle.store_core.specs.StoreValue.{StoreValue}
use Rattle.store_core.specs.declared.error.Limit.TheVariants as limit
use Rattle.store_core.specs.declared.error.StoreError.{StoreError}
use Rattle.store_core.specs.declared.error.StoreError.TheVariants as error
use Rattle.table_model.specs.Tables.{FilterBytes}

-- No limit of tables or of the epoch is met, nor lack of room: the tables are fewer than the most, a gap holds the table of these
-- entries, and an epoch is left.
pub record MayBeFlushed (filter_bytes : FilterBytes) (store : StoreValue) (entries : List Entry) : Type 0 where
  pub few : length store.manifest.version.rows < max_tables
  pub page : ℕ
  pub gap : first_gap store.manifest.version.pages (extents_with store.manifest.version (outputs_in store.job)) (need_under filter_bytes store.manifest.version entries) ≡ Some page
  pub epoch : store.manifest.version.epoch < last_epoch

-- There are entries; their table is one too many, or has no gap, or there is a gap and no epoch is left; and no call of the
-- device was made.
pub record IsRefusedFlush (filter_bytes : FilterBytes) (store : StoreValue) (entries : List Entry) (why : StoreError) (old new : World) : Type 0 where
  pub some : entries ≢ []
  pub planned : IsPlanRefusal filter_bytes store.manifest.version (outputs_in store.job) entries why
  pub no_call : ReadMoves 0 old new

-- There are entries, and no call of the device was made, or they may be flushed: memory for the body of the version is wanted
-- last.
abbrev pub IsWantingFlush : FilterBytes → StoreValue → List Entry → World → World → Type 0
IsWantingFlush filter_bytes store entries old new = (entries ≢ []) × (ReadMoves 0 old new ⊎ MayBeFlushed filter_bytes store entries)

-- a limit, lack of room or of memory, refuses a flush of these entries in the store only so
abbrev pub IsFlushDue : FilterBytes → StoreValue → List Entry → World → World → StoreError → Type 0
IsFlushDue filter_bytes store entries old new error.Memory = IsWantingFlush filter_bytes store entries old new
IsFlushDue filter_bytes store entries old new (error.Device cause) = Unit {0}
IsFlushDue filter_bytes store entries old new error.Stopped = Unit {0}
IsFlushDue filter_bytes store entries old new (error.Limit limit) = IsRefusedFlush filter_bytes store entries (error.Limit limit) old new
IsFlushDue filter_bytes store entries old new (error.Full need gap) = IsRefusedFlush filter_bytes store entries (error.Full need gap) old new
IsFlushDue filter_bytes store entries old new (error.Damaged damage) = Unit {0}
IsFlushDue filter_bytes store entries old new error.NotAStore = Unit {0}
IsFlushDue filter_bytes store entries old new error.AlreadyAStore = Unit {0}
IsFlushDue filter_bytes store entries old new (error.BadSettings field) = Unit {0}

-- where there are entries they may be flushed
abbrev pub IsFlushAllowed : FilterBytes → StoreValue → List Entry → Type 0
IsFlushAllowed filter_bytes store entries = entries ≢ [] → MayBeFlushed filter_bytes store entries

-- an entry asks for a flush: its value is long, or its record does not fit the log area
abbrev pub AsksForFlush : StoreValue → Entry → Type 0
AsksForFlush store entry = (is_long entry ≡ true) ⊎ (log_bytes < store.log.filled + need entry)

-- what is flushed then: the memory, before the entry, or with one of a long value over it
abbrev pub flushed_for : StoreValue → Entry → List Entry
flushed_for store entry = if is_long entry then with_entry store.memory.entries entry else store.memory.entries

-- and where an entry asks for a flush
abbrev pub IsEntryAllowed : FilterBytes → StoreValue → Entry → Type 0
IsEntryAllowed filter_bytes store entry = AsksForFlush store entry → IsFlushAllowed filter_bytes store (flushed_for store entry)

-- the flush for an entry
pub record IsRefusedBefore (filter_bytes : FilterBytes) (store : StoreValue) (entry : Entry) (why : StoreError) (old new : World) : Type 0 where
  pub asks : AsksForFlush store entry
  pub flush : IsRefusedFlush filter_bytes store (flushed_for store entry) why old new

-- no call of the device was made, or the entry asks for a flush, and what is flushed then may be
abbrev pub IsWantingBefore : FilterBytes → StoreValue → Entry → World → World → Type 0
IsWantingBefore filter_bytes store entry old new =
    ReadMoves 0 old new ⊎ (AsksForFlush store entry × (flushed_for store entry ≢ []) × MayBeFlushed filter_bytes store (flushed_for store entry))

-- a limit, lack of room or of memory, refuses an entry only so; the limits of a key and of a value are looked at before any call, too
abbrev pub IsWriteDue : FilterBytes → StoreValue → Entry → World → World → StoreError → Type 0
IsWriteDue filter_bytes store entry old new error.Memory = IsWantingBefore filter_bytes store entry old new
IsWriteDue filter_bytes store entry old new (error.Device cause) = Unit {0}
IsWriteDue filter_bytes store entry old new error.Stopped = Unit {0}
IsWriteDue filter_bytes store entry old new (error.Limit (limit.Key size)) = ReadMoves 0 old new
IsWriteDue filter_bytes store entry old new (error.Limit (limit.Value size)) = ReadMoves 0 old new
IsWriteDue filter_bytes store entry old new (error.Limit limit.Tables) = IsRefusedBefore filter_bytes store entry (error.Limit limit.Tables) old new
IsWriteDue filter_bytes store entry old new (error.Limit limit.Epoch) = IsRefusedBefore filter_bytes store entry (error.Limit limit.Epoch) old new
IsWriteDue filter_bytes store entry old new (error.Full need gap) = IsRefusedBefore filter_bytes store entry (error.Full need gap) old new
IsWriteDue filter_bytes store entry old new (error.Damaged damage) = Unit {0}
IsWriteDue filter_bytes store entry old new error.NotAStore = Unit {0}
IsWriteDue filter_bytes store entry old new error.AlreadyAStore = Unit {0}
IsWriteDue filter_bytes store entry old new (error.BadSettings field) = Unit {0}

-- a store that holds something
abbrev pub HoldsSome : StoreValue → Type 0
HoldsSome store = (store.memory.entries ≢ []) ⊎ (store.tables ≢ [])

-- and has an epoch left
abbrev pub MayBeCompacted : StoreValue → Type 0
MayBeCompacted store = HoldsSome store × (store.manifest.version.epoch < last_epoch)

-- A compaction of a store that is not stopped is refused only of one that holds something: by a limit before any call of the device,
-- and else where an epoch is left.
abbrev pub IsCompactDue : StoreValue → World → World → StoreError → Type 0
IsCompactDue store old new error.Memory = MayBeCompacted store
IsCompactDue store old new (error.Device cause) = MayBeCompacted store
IsCompactDue store old new error.Stopped = Unit {0}
IsCompactDue store old new (error.Limit limit) = HoldsSome store × ReadMoves 0 old new
IsCompactDue store old new (error.Full need gap) = MayBeCompacted store
IsCompactDue store old new (error.Damaged damage) = MayBeCompacted store
IsCompactDue store old new error.NotAStore = Unit {0}
IsCompactDue store old new error.AlreadyAStore = Unit {0}
IsCompactDue store old new (error.BadSettings field) = Unit {0}
