-- What a call of the store answers: the step of its state.
use Rattle.std.specs.Prelude.{◌≡◌, ◌≢◌, ◌⊎◌, Bool, true, false, Option, Some, None, Result, Ok, Err, IfErr, IsErr, OnOk, OnErr}
use Rattle.disk_trait.specs.World.{Meanwhile, Rose, World}
use Rattle.disk_trait.specs.declared.fault.Op.{Op}
use Rattle.disk_trait.specs.declared.fault.Op.TheVariants as op
use Rattle.filter_api.specs.Spellings.{Spelling}
use Rattle.image_model.specs.Stands.{StandsForMap}
use Rattle.line_model.specs.Replies.{Reply, Done, Device}
use Rattle.line_model.specs.Replies as reply
use Rattle.line_model.specs.Requests.{Request}
use Rattle.state_model.specs.Causes.{Why, NoMemory, ReadFailed, WriteFailed, DamageMet}
use Rattle.state_model.specs.State.{State}
use Rattle.state_model.specs.Steps.{Step, answer}
use Rattle.state_model.specs.View.{state_map}
use Rattle.store_core.specs.StoreValue.{StoreValue}
use Rattle.store_core.specs.Represents.{Represents}
use Rattle.store_core.specs.declared.error.Limit.{Limit}
use Rattle.store_core.specs.declared.error.Limit.TheVariants as limit
use Rattle.store_core.specs.declared.error.StoreError.{StoreError}
use Rattle.store_core.specs.declared.error.StoreError.TheVariants as error
use Rattle.table_model.specs.Tables.{FilterBytes}

-- ---- as a reply

abbrev pub told_limit : Limit → Reply
told_limit (limit.Key size) = reply.LongKey size
told_limit (limit.Value size) = reply.LongValue size
told_limit limit.Tables = reply.ManyTables
told_limit limit.Epoch = reply.LastEpoch

-- the limit that was broken, and no other refusal
abbrev pub IsLimitOf : Option Reply → StoreError → Type 0
IsLimitOf broken (error.Limit limit) = broken ≡ Some (told_limit limit)
IsLimitOf broken error.Memory = ⊥
IsLimitOf broken (error.Device cause) = ⊥
IsLimitOf broken error.Stopped = ⊥
IsLimitOf broken (error.Full need gap) = ⊥
IsLimitOf broken (error.Damaged damage) = ⊥
IsLimitOf broken error.NotAStore = ⊥
IsLimitOf broken error.AlreadyAStore = ⊥
IsLimitOf broken (error.BadSettings field) = ⊥

-- the reply that tells a refusal; a store that is stopped, and one that is none, are answered no line
abbrev pub told : StoreError → Option Reply
told error.Memory = Some reply.Memory
told (error.Device cause) = Some reply.Device
told error.Stopped = None
told (error.Limit limit) = Some (told_limit limit)
told (error.Full need gap) = Some (reply.Full need gap)
told (error.Damaged damage) = Some (reply.Damaged damage)
told error.NotAStore = None
told error.AlreadyAStore = None
told (error.BadSettings field) = None

-- that a change is done, or why it is refused
abbrev pub told_change : {T : Type 0} → Result T StoreError → Option Reply
told_change (Ok done) = Some reply.Done
told_change (Err why) = told why

-- ---- what stops a store

abbrev pub is_write : Op → Bool
is_write op.Read = false
is_write op.Write = true
is_write op.Sync = true

-- the device failed to write or to sync
abbrev pub stops : StoreError → Bool
stops error.Memory = false
stops (error.Device cause) = is_write cause.op
stops error.Stopped = false
stops (error.Limit limit) = false
stops (error.Full need gap) = false
stops (error.Damaged damage) = false
stops error.NotAStore = false
stops error.AlreadyAStore = false
stops (error.BadSettings field) = false

abbrev pub stopped_by : {T : Type 0} → Result T StoreError → Bool
stopped_by (Ok done) = false
stopped_by (Err why) = stops why

-- ---- causes

-- what the state does not explain: a fault of the device comes only where its count rose, and no damage is met on a device
-- that stands for the state
abbrev pub HasCause : World → World → Why → Type 0
HasCause old new NoMemory = Unit {0}
HasCause old new ReadFailed = Rose old.seen.read_faults new.seen.read_faults
HasCause old new WriteFailed = Rose old.seen.write_faults new.seen.write_faults
HasCause old new (DamageMet damage) = ⊥

-- the call is tried: the store is not stopped, and no limit is broken
abbrev pub IsTried : Bool → Option Reply → Type 0
IsTried stopped broken = (stopped ≡ false) × (broken ≡ None)

-- a limit of the key or the value is the one that is broken; those of tables and of the epoch are met after them
abbrev pub IsLimitAt : Option Reply → Limit → Type 0
IsLimitAt broken (limit.Key size) = broken ≡ Some (reply.LongKey size)
IsLimitAt broken (limit.Value size) = broken ≡ Some (reply.LongValue size)
IsLimitAt broken limit.Tables = broken ≡ None
IsLimitAt broken limit.Epoch = broken ≡ None

-- why an entry is not written, or the memory not flushed, of a store that was stopped or not, where this limit was broken
abbrev pub IsWriteRefusal : Bool → Option Reply → World → World → StoreError → Type 0
IsWriteRefusal stopped broken old new error.Memory = IsTried stopped broken
IsWriteRefusal stopped broken old new (error.Device cause) = IsTried stopped broken × (is_write cause.op ≡ true) × Rose old.seen.write_faults new.seen.write_faults
IsWriteRefusal stopped broken old new error.Stopped = stopped ≡ true
IsWriteRefusal stopped broken old new (error.Limit limit) = (stopped ≡ false) × IsLimitAt broken limit
IsWriteRefusal stopped broken old new (error.Full need gap) = IsTried stopped broken
IsWriteRefusal stopped broken old new (error.Damaged damage) = ⊥
IsWriteRefusal stopped broken old new error.NotAStore = ⊥
IsWriteRefusal stopped broken old new error.AlreadyAStore = ⊥
IsWriteRefusal stopped broken old new (error.BadSettings field) = ⊥

-- a write or a sync failed, and only where the count of such failures rose
abbrev pub IsWriteFailure : World → World → StoreError → Type 0
IsWriteFailure old new error.Memory = ⊥
IsWriteFailure old new (error.Device cause) = (is_write cause.op ≡ true) × Rose old.seen.write_faults new.seen.write_faults
IsWriteFailure old new error.Stopped = ⊥
IsWriteFailure old new (error.Limit limit) = ⊥
IsWriteFailure old new (error.Full need gap) = ⊥
IsWriteFailure old new (error.Damaged damage) = ⊥
IsWriteFailure old new error.NotAStore = ⊥
IsWriteFailure old new error.AlreadyAStore = ⊥
IsWriteFailure old new (error.BadSettings field) = ⊥

-- ---- a change

-- From a state a request is answered so, by one step of it. At each moment meanwhile a crash leaves the map before it or the
-- one after it; where the reply is neither that it is done nor that the device failed, the one before it alone. The store is then
-- that of the state after the step, unless it is stopped.
pub record AnswersRequest (spelling : Spelling) (filter_bytes : FilterBytes) (s : State) (request : Request) (told_as : Option Reply) (store : StoreValue) (old new : World) : Type 0 where
  pub reply : Reply
  pub told_is : told_as ≡ Some reply
  pub after : State
  pub step : Step (HasCause old new) filter_bytes s request reply after
  pub crash : Meanwhile (λ image. StandsForMap spelling (state_map s) image ⊎ StandsForMap spelling (state_map (answer filter_bytes s request).1) image) old new
  pub kept : reply ≢ Done → reply ≢ Device → Meanwhile (StandsForMap spelling (state_map s)) old new
  pub tied : store.stopped ≡ false → Represents spelling filter_bytes store after new

-- What a call makes of the state: at each moment a crash leaves the map of the one or of the other, and where memory was wanted
-- that of the first alone; at Ok the store is that of the second, and where it does not stop the store, that of the first.
pub record MovesTo {T : Type 0} (spelling : Spelling) (filter_bytes : FilterBytes) (from to : State) (result : Result T StoreError) (store : StoreValue) (old new : World) : Type 0 where
  pub meanwhile : Meanwhile (λ image. StandsForMap spelling (state_map from) image ⊎ StandsForMap spelling (state_map to) image) old new
  pub wanted : IfErr result (λ (why : StoreError). why ≡ error.Memory → Meanwhile (StandsForMap spelling (state_map from)) old new)
  pub done : OnOk result (Represents spelling filter_bytes store to new)
  pub refused : OnErr result (store.stopped ≡ false → Represents spelling filter_bytes store from new)

-- memory or the device, and not what the state is
abbrev pub IsFailure : StoreError → Type 0
IsFailure error.Memory = Unit {0}
IsFailure (error.Device cause) = Unit {0}
IsFailure error.Stopped = ⊥
IsFailure (error.Limit limit) = ⊥
IsFailure (error.Full need gap) = ⊥
IsFailure (error.Damaged damage) = ⊥
IsFailure error.NotAStore = ⊥
IsFailure error.AlreadyAStore = ⊥
IsFailure (error.BadSettings field) = ⊥

-- What a change makes of the state, or the reply by which the state refuses it. Done or failed in the device it is the change;
-- where it is refused, by this reply or for lack of memory, the store stays that of the state, and what a crash leaves its map.
pub data WroteEntry {T : Type 0} (spelling : Spelling) (filter_bytes : FilterBytes) (s : State) (change : Result State Reply) (result : Result T StoreError) (store : StoreValue) (old new : World) : Type 0 where
  turns : (to : State) → change ≡ Ok to → IfErr result IsFailure → MovesTo spelling filter_bytes s to result store old new → WroteEntry spelling filter_bytes s change result store old new
  refused : (why : Reply) → change ≡ Err why → IsErr result → (told_change result ≡ Some why) ⊎ (told_change result ≡ Some reply.Memory) → Represents spelling filter_bytes store s new
      → Meanwhile (StandsForMap spelling (state_map s)) old new → WroteEntry spelling filter_bytes s change result store old new
