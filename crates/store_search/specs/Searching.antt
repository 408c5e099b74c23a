-- Where a key was found in tables, what was read for it, and why no block is looked through.
use Rattle.std.specs.Prelude.{◌≡◌, ◌≤◌, ◌<◌, ℕ, true, List, Contains, length, map, take, is_some, Option, Some, None}
use Rattle.block_cache.specs.Kept.{BlockPlace, KeptBlock, kept_of}
use Rattle.block_model.specs.BlockReading.{block_fault, block_in}
use Rattle.disk_trait.specs.Image.{Image}
use Rattle.disk_trait.specs.World.{Rose, World}
use Rattle.disk_trait.specs.declared.fault.DiskFault.{DiskFault}
use Rattle.disk_trait.specs.declared.fault.Op.TheVariants.{Read}
use Rattle.entry_model.specs.Entries.{Entry}
use Rattle.entry_model.specs.Newest.{lookup}
use Rattle.map_model.specs.SortedMap.{Bytes}
use Rattle.store_search.specs.Caching.{Cached, IsFirst, MayKeep, cache_number, past_cache, said_by}
use Rattle.store_search.specs.declared.searching.BlockRead.{BlockRead}
use Rattle.store_search.specs.declared.searching.Spot.{Spot}
use Rattle.store_search.specs.declared.searching.Spot.TheVariants as spot
use Rattle.table_file.specs.Faults.{IsBlockDamage}
use Rattle.table_file.specs.Opened.{Opened}
use Rattle.table_file.specs.Search.{IsGetFault, block_for}
use Rattle.table_file.specs.declared.fault.TableFault.{TableFault}
use Rattle.table_file.specs.declared.fault.TableFault.TheVariants as table
use Rattle.table_model.specs.Tables.{Table}

abbrev pub entries_by_table : List Table → List (List Entry)
entries_by_table tables = map (λ (t : Table). t.entries) tables

-- the first bytes of a buffer are a block that breaks no rule
pub record IsBlockIn (size : ℕ) (buffer : Bytes) : Type 0 where
  pub fits : size ≤ length buffer
  pub whole : block_fault (take size buffer) ≡ None

-- and they have an entry of the key
pub record IsFoundIn (size : ℕ) (buffer key : Bytes) : Type 0 where
  pub block : IsBlockIn size buffer
  pub some : is_some (lookup (block_in (take size buffer)) key) ≡ true

-- the block is kept, the first of all, and has an entry of the key
pub record IsFoundKept (place : BlockPlace) (kept : List KeptBlock) (key : Bytes) : Type 0 where
  pub first : IsFirst place kept
  pub some : is_some (said_by (kept_of place kept) key) ≡ true

abbrev pub IsFoundAt : Spot → Bytes → List KeptBlock → Bytes → Type 0
IsFoundAt (spot.InBuffer size) buffer kept key = IsFoundIn size buffer key
IsFoundAt (spot.InCache number block) buffer kept key = IsFoundKept (number, block) kept key

-- what is said of the key there, where it was found in a table
abbrev pub said_in : Option Spot → Bytes → List KeptBlock → Bytes → Option (Option Bytes)
said_in None buffer kept key = None
said_in (Some (spot.InBuffer size)) buffer kept key = lookup (block_in (take size buffer)) key
said_in (Some (spot.InCache number block)) buffer kept key = said_by (kept_of (number, block) kept) key

abbrev pub IsSpotIn : Spot → Bytes → Type 0
IsSpotIn (spot.InBuffer size) buffer = IsBlockIn size buffer
IsSpotIn (spot.InCache number block) buffer = Unit {0}

-- a block that was read into a buffer breaks no rule, is not kept, and its table is one of that many, if that has a number
pub record IsReadIn (read : BlockRead) (buffer : Bytes) (blocks : Cached) (tables : ℕ) : Type 0 where
  pub block : IsBlockIn read.size buffer
  pub given : read.number < past_cache → read.number < cache_number blocks.first tables
  pub new : kept_of (read.number, read.block) blocks.kept ≡ None

-- where a block was read, it is kept as far as it may be
abbrev pub MayKeepRead : Option BlockRead → Bytes → Cached → Cached → Type 0
MayKeepRead None buffer old new = new ≡ old
MayKeepRead (Some read) buffer old new = MayKeep (read.number, read.block) (take read.size buffer) old new

-- a read failed, and only where the count of such failures rose
abbrev pub ReadRose : World → World → DiskFault → Type 0
ReadRose old new cause = (cause.op ≡ Read) × Rose old.seen.read_faults new.seen.read_faults

-- why a table's block is not looked through: memory is never wanted
abbrev pub IsLookFault : World → World → TableFault → Type 0
IsLookFault old new table.Memory = ⊥
IsLookFault old new (table.Device cause) = ReadRose old new cause
IsLookFault old new (table.Damaged damage) = IsBlockDamage damage

-- the block of a table that is read for a key has this fault: another sum than the index keeps, or where the sum agrees, the
-- first rule that its bytes break
abbrev pub IsBlockFault : Opened → Bytes → Image → TableFault → Type 0
IsBlockFault t key image table.Memory = Unit {0}
IsBlockFault t key image (table.Device cause) = Unit {0}
IsBlockFault t key image (table.Damaged damage) = (n : ℕ) × (block_for t key ≡ Some n) × IsGetFault t n image (table.Damaged damage)

-- that block of one of these tables
abbrev pub IsFaultIn : List Opened → Bytes → Image → TableFault → Type 0
IsFaultIn tables key image table.Memory = Unit {0}
IsFaultIn tables key image (table.Device cause) = Unit {0}
IsFaultIn tables key image (table.Damaged damage) = (t : Opened) × Contains tables t × IsBlockFault t key image (table.Damaged damage)
