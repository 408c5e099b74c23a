-- What kept blocks and an image of the device say of a key, table by table: no state is needed.
use Rattle.std.specs.Prelude.{◌≡◌, ℕ, List, [], ◌∷◌, length, Option, Some, None}
use Rattle.std.specs.Option.{option_map_or, option_or}
use Rattle.block_cache.specs.Kept.{KeptBlock, kept_of}
use Rattle.block_model.specs.BlockReading.{block_in}
use Rattle.disk_trait.specs.Image.{Image}
use Rattle.entry_model.specs.Newest.{lookup}
use Rattle.map_model.specs.SortedMap.{Bytes}
use Rattle.store_search.specs.Caching.{Cached, cache_number}
use Rattle.table_file.specs.Opened.{Opened}
use Rattle.table_file.specs.Search.{IsSoundBlock, block_for, bytes_at}

-- the bytes of a block: the kept ones, and else those of the image
abbrev pub looked_bytes : List KeptBlock → ℕ → Opened → ℕ → Image → Bytes
looked_bytes kept number t n image = option_map_or (λ bytes. bytes) (kept_of (number, n) kept) (bytes_at t n image)

-- what they say of a key, where a block is named for it
abbrev pub looked_block : List KeptBlock → ℕ → Opened → Bytes → Image → Option ℕ → Option (Option Bytes)
looked_block kept number t key image None = None
looked_block kept number t key image (Some n) = lookup (block_in (looked_bytes kept number t n image)) key

-- what a table with this number says of it
abbrev pub looked_table : List KeptBlock → ℕ → Opened → Bytes → Image → Option (Option Bytes)
looked_table kept number t key image = looked_block kept number t key image (block_for t key)

-- the first of some tables that says something of it, newest first
abbrev pub looked_tables : Cached → List Opened → Bytes → Image → Option (Option Bytes)
looked_tables blocks [] key image = None
looked_tables blocks (t ∷ older) key image = option_or (looked_table blocks.kept (cache_number blocks.first (length older)) t key image) (looked_tables blocks older key image)

-- the block that is read of a table for the key is sound
abbrev pub IsReadSound : List KeptBlock → ℕ → Opened → Bytes → Image → Type 0
IsReadSound kept number t key image = (n : ℕ) → block_for t key ≡ Some n → kept_of (number, n) kept ≡ None → IsSoundBlock t n image

-- each that is read is, up to that of the first table which says something of the key
abbrev pub AreReadSound : Cached → List Opened → Bytes → Image → Type 0
AreReadSound blocks [] key image = Unit {0}
AreReadSound blocks (t ∷ older) key image =
    IsReadSound blocks.kept (cache_number blocks.first (length older)) t key image
    × (looked_table blocks.kept (cache_number blocks.first (length older)) t key image ≡ None → AreReadSound blocks older key image)
