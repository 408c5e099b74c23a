-- The blocks that gets keep, and the numbers of tables under which they keep them.
use Rattle.std.specs.Prelude.{◌≡◌, ◌⊎◌, ◌<◌, ◌+◌, ◌-◌, ◌^◌, ℕ, min, List, [], ◌∷◌, length, is_some, if◌then◌else◌, Option, Some, None}
use Rattle.block_cache.specs.Kept.{BlockPlace, KeptBlock, kept_of, with_kept}
use Rattle.block_model.specs.BlockReading.{block_fault, block_in}
use Rattle.entry_model.specs.Entries.{Entry}
use Rattle.entry_model.specs.Newest.{lookup}
use Rattle.map_model.specs.SortedMap.{Bytes}
use Rattle.state_model.specs.Bounds.{unless_found}
use Rattle.table_file.specs.Opened.{Opened}
use Rattle.table_file.specs.Search.{block_for}
use Rattle.table_model.specs.Tables.{Table}

-- the blocks that are kept, and the number of the last table
pub record Cached : Type 0 where
  pub kept : List KeptBlock
  pub first : ℕ

-- no block is kept
abbrev pub none_cached : Cached
none_cached = record { kept = []; first = 0 }

-- the number of tables that are read past the cache
abbrev pub past_cache : ℕ
past_cache = 2 ^ 64 - 1

-- the number of a table after which that many are there: numbers go on from that of the last table, until they run out
abbrev pub cache_number : ℕ → ℕ → ℕ
cache_number first behind = min (first + behind) past_cache

-- a given number of tables are given numbers anew
abbrev pub renumbered : Cached → ℕ → Cached
renumbered blocks tables = record blocks { first = cache_number blocks.first tables }

-- the same blocks are kept, in whatever order
pub record AreSame (old new : Cached) : Type 0 where
  pub first : new.first ≡ old.first
  pub kept : (place : BlockPlace) → kept_of place new.kept ≡ kept_of place old.kept

-- a block more is kept, or where there is no memory, or no number, none
abbrev pub MayKeep : BlockPlace → Bytes → Cached → Cached → Type 0
MayKeep place bytes old new = (new ≡ old) ⊎ ((place.0 < past_cache) × (new ≡ record old { kept = with_kept place bytes old.kept }))

-- What a get leaves of the kept blocks: the same ones, some brought first, and a block more, if any.
pub record LeavesKept (old new : Cached) : Type 0 where
  pub mid : Cached
  pub same : AreSame old mid
  pub more : (new ≡ mid) ⊎ ((place : BlockPlace) × (bytes : Bytes) × MayKeep place bytes mid new)

-- ---- what is so of kept blocks

-- none breaks a rule
abbrev pub AreSound : List KeptBlock → Type 0
AreSound kept = (place : BlockPlace) (bytes : Bytes) → kept_of place kept ≡ Some bytes → block_fault bytes ≡ None

-- each was kept under a number that was given: one below that of the next table, where there are that many
abbrev pub AreNumbered : Cached → ℕ → Type 0
AreNumbered blocks tables = (place : BlockPlace) (bytes : Bytes) → kept_of place blocks.kept ≡ Some bytes → place.0 < cache_number blocks.first tables

-- the bytes say of each key, for which the block number n of the table is read, what is said by these entries
abbrev pub SaysOf : ℕ → Bytes → Opened → List Entry → Type 0
SaysOf n bytes opened entries = (key : Bytes) → block_for opened key ≡ Some n → lookup (block_in bytes) key ≡ lookup entries key

-- they say so of the table with that number
abbrev pub BlockAgrees : ℕ → BlockPlace → Bytes → List Opened → List Table → Type 0
BlockAgrees first place bytes [] tables = Unit {0}
BlockAgrees first place bytes (opened ∷ more) [] = Unit {0}
BlockAgrees first place bytes (opened ∷ more) (t ∷ tables) =
    (cache_number first (length more) ≡ place.0 → SaysOf place.1 bytes opened t.entries) × BlockAgrees first place bytes more tables

-- each kept block says what its table says
abbrev pub CacheAgrees : Cached → List Opened → List Table → Type 0
CacheAgrees blocks opened tables = (place : BlockPlace) (bytes : Bytes) → kept_of place blocks.kept ≡ Some bytes → BlockAgrees blocks.first place bytes opened tables

-- ---- what is said, and read

-- what a kept block says of a key
abbrev pub said_by : Option Bytes → Bytes → Option (Option Bytes)
said_by None key = None
said_by (Some bytes) key = lookup (block_in bytes) key

-- it is the first
abbrev pub IsFirst : BlockPlace → List KeptBlock → Type 0
IsFirst place kept = (bytes : Bytes) × (rest : List KeptBlock) × (kept ≡ (place, bytes) ∷ rest)

-- how often a table with this number is read for a key of this block
abbrev pub reads_for : List KeptBlock → ℕ → Option ℕ → ℕ
reads_for kept number None = 0
reads_for kept number (Some n) = if is_some (kept_of (number, n) kept) then 0 else 1

-- the blocks that tables name for a key and that are not kept: at most one of each table whose filter admits it and whose keys
-- enclose it
abbrev pub unkept_named : Cached → Bytes → List Opened → ℕ
unkept_named blocks key [] = 0
unkept_named blocks key (opened ∷ more) = reads_for blocks.kept (cache_number blocks.first (length more)) (block_for opened key) + unkept_named blocks key more

-- the blocks that are searched for a key, up to that of the first table that has it, and are not kept
abbrev pub unkept : Cached → Bytes → List Opened → List Table → ℕ
unkept blocks key [] tables = 0
unkept blocks key (opened ∷ more) [] = 0
unkept blocks key (opened ∷ more) (t ∷ tables) =
    reads_for blocks.kept (cache_number blocks.first (length more)) (block_for opened key) + unless_found (lookup t.entries key) (unkept blocks key more tables)
