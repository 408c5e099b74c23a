-- Where a key's newest entry was found, and why none was.
use Rattle.std.specs.Prelude.{◌≡◌, ◌≤◌, ◌+◌, ℕ, Bool, true, false, List, length, IsTrue, IfErr, MatchResult, Option, Some, None, Result}
use Rattle.disk_trait.specs.Image.{Image}
use Rattle.disk_trait.specs.World.{ReadMoves, World}
use Rattle.filter_api.specs.Spellings.{Spelling}
use Rattle.entry_model.specs.Newest.{lookup}
use Rattle.line_model.specs.Limits.{key_limit}
use Rattle.map_model.specs.SortedMap.{Bytes}
use Rattle.state_model.specs.Bounds.{get_bound, unless_found}
use Rattle.state_model.specs.State.{State}
use Rattle.state_model.specs.View.{memory}
use Rattle.store_core.specs.Answers.{told_limit}
use Rattle.store_search.specs.Caching.{LeavesKept, unkept, unkept_named}
use Rattle.store_core.specs.StoreValue.{StoreValue}
use Rattle.store_core.specs.Represents.{Represents}
use Rattle.store_core.specs.declared.error.StoreError.{StoreError}
use Rattle.store_core.specs.declared.error.StoreError.TheVariants as error
use Rattle.store_core.specs.declared.getting.Place.{Place}
use Rattle.store_core.specs.declared.getting.Place.TheVariants as place
use Rattle.table_file.specs.Faults.{IsBlockDamage}
use Rattle.table_file.specs.Opened.{Opened}
use Rattle.table_file.specs.declared.fault.TableFault.TheVariants as table
use Rattle.table_model.specs.Tables.{FilterBytes}
use Rattle.store_search.specs.Searching.{IsFaultIn, IsSpotIn, ReadRose, said_in}

abbrev pub IsPlaceIn : Place → Bytes → Type 0
IsPlaceIn place.Nowhere buffer = Unit {0}
IsPlaceIn place.InMemory buffer = Unit {0}
IsPlaceIn (place.InTable spot) buffer = IsSpotIn spot buffer

-- what is said of the key by the store there
abbrev pub said_at : Place → StoreValue → Bytes → Option (Option Bytes)
said_at place.Nowhere store key = None
said_at place.InMemory store key = lookup store.memory.entries key
said_at (place.InTable spot) store key = said_in (Some spot) store.buffer store.blocks.kept key

-- the blocks that a get reads of a store: those that are searched and not kept
abbrev pub unkept_bound : StoreValue → State → Bytes → ℕ
unkept_bound store s key = unless_found (lookup (memory s) key) (unkept store.blocks key store.tables s.tables)

-- A get leaves the store as it is, but for what was read last and the blocks that are kept, of which none is lost but to one
-- more; and tied to each state that it was tied to.
pub record Asked (spelling : Spelling) (filter_bytes : FilterBytes) (tells : Bool) (before after : StoreValue) (old new : World) : Type 0 where
  pub same : after ≡ record before { buffer = after.buffer; blocks = after.blocks }
  pub kept : LeavesKept before.blocks after.blocks
  pub tied : (s : State) → IsTrue tells → Represents spelling filter_bytes before s old → Represents spelling filter_bytes after s new

-- damage is that of a block which is read for the key, and the image shows it
abbrev pub IsShown : List Opened → Bytes → Image → StoreError → Type 0
IsShown tables key image (error.Damaged damage) = IsFaultIn tables key image (table.Damaged damage)
IsShown tables key image error.Memory = Unit {0}
IsShown tables key image (error.Device cause) = Unit {0}
IsShown tables key image error.Stopped = Unit {0}
IsShown tables key image (error.Limit limit) = Unit {0}
IsShown tables key image (error.Full need gap) = Unit {0}
IsShown tables key image error.NotAStore = Unit {0}
IsShown tables key image error.AlreadyAStore = Unit {0}
IsShown tables key image (error.BadSettings field) = Unit {0}

-- why a get is refused, of a store that was stopped or not
abbrev pub IsGetRefusal : Bool → Bytes → World → World → StoreError → Type 0
IsGetRefusal stopped key old new error.Memory = ⊥
IsGetRefusal stopped key old new (error.Device cause) = (stopped ≡ false) × (key_limit key ≡ None) × ReadRose old new cause
IsGetRefusal stopped key old new error.Stopped = stopped ≡ true
IsGetRefusal stopped key old new (error.Limit limit) = (stopped ≡ false) × (key_limit key ≡ Some (told_limit limit))
IsGetRefusal stopped key old new (error.Full need gap) = ⊥
IsGetRefusal stopped key old new (error.Damaged damage) = (stopped ≡ false) × (key_limit key ≡ None) × IsBlockDamage damage
IsGetRefusal stopped key old new error.NotAStore = ⊥
IsGetRefusal stopped key old new error.AlreadyAStore = ⊥
IsGetRefusal stopped key old new (error.BadSettings field) = ⊥

-- a read failed only where some block may be read
abbrev pub IsMet : ℕ → StoreError → Type 0
IsMet most (error.Device cause) = 1 ≤ most
IsMet most (error.Damaged damage) = Unit {0}
IsMet most error.Memory = Unit {0}
IsMet most error.Stopped = Unit {0}
IsMet most (error.Limit limit) = Unit {0}
IsMet most (error.Full need gap) = Unit {0}
IsMet most error.NotAStore = Unit {0}
IsMet most error.AlreadyAStore = Unit {0}
IsMet most (error.BadSettings field) = Unit {0}

-- what was read is not damaged
abbrev pub IsUndamaged : StoreError → Type 0
IsUndamaged (error.Damaged damage) = ⊥
IsUndamaged error.Memory = Unit {0}
IsUndamaged (error.Device cause) = Unit {0}
IsUndamaged error.Stopped = Unit {0}
IsUndamaged (error.Limit limit) = Unit {0}
IsUndamaged (error.Full need gap) = Unit {0}
IsUndamaged error.NotAStore = Unit {0}
IsUndamaged error.AlreadyAStore = Unit {0}
IsUndamaged (error.BadSettings field) = Unit {0}

-- A get of a key read only what may have the key, and was refused with its cause, or not at all.
pub record GetsKey {T : Type 0} (spelling : Spelling) (filter_bytes : FilterBytes) (tells : Bool) (store : StoreValue) (key : Bytes) (result : Result T StoreError) (before after : World) : Type 0 where
  pub undamaged : (s : State) → IsTrue tells → Represents spelling filter_bytes store s before → IfErr result IsUndamaged
  pub shown : IsTrue tells → IfErr result (IsShown store.tables key before.seen.held)
  pub only_if_read : (s : State) → IsTrue tells → Represents spelling filter_bytes store s before → IfErr result (IsMet (get_bound s key))
  pub refused : MatchResult result (λ _. (store.stopped ≡ false) × (key_limit key ≡ None)) (IsGetRefusal store.stopped key before after)
  pub bounded : (s : State) → IsTrue tells → Represents spelling filter_bytes store s before → after.seen.reads ≤ before.seen.reads + get_bound s key
  -- of those blocks, only the ones that were not kept
  pub unkept : (s : State) → IsTrue tells → Represents spelling filter_bytes store s before → after.seen.reads ≤ before.seen.reads + unkept_bound store s key
  -- a stopped store reads nothing
  pub no_call : store.stopped ≡ true → ReadMoves 0 before after
  pub moves : ReadMoves (length store.tables) before after
  -- whatever the device is, it reads only of tables that name a block for the key which is not kept
  pub named : after.seen.reads ≤ before.seen.reads + unkept_named store.blocks key store.tables
