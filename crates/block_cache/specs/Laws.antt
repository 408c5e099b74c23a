-- What may be relied on of the blocks that are kept.
use Rattle.std.specs.Prelude.{◌≡◌, ◌≢◌, ◌≤◌, ◌<◌, ℕ, List, [], length, fold, if◌then◌else◌, Option, Some, None}
use Rattle.block_cache.specs.Kept.{BlockPlace, KeptBlock, most_blocks, is_place, kept_of, brought_first, with_kept}

-- what is asked of a cache
pub data Use : Type 0 where
  Get : (place : BlockPlace) → Use
  Keep : (place : BlockPlace) → (bytes : List ℕ) → Use

abbrev pub after_use : List KeptBlock → Use → List KeptBlock
after_use kept (Get place) = brought_first place kept
after_use kept (Keep place bytes) = with_kept place bytes kept

-- the bytes with which a block was kept last
abbrev pub after_keep : BlockPlace → Option (List ℕ) → Use → Option (List ℕ)
after_keep place last (Get other) = last
after_keep place last (Keep other bytes) = if is_place place other then Some bytes else last

abbrev pub last_kept : BlockPlace → List Use → Option (List ℕ)
last_kept place uses = fold (after_keep place) None uses

-- After whatever uses, a block that is given has the bytes with which it was kept last.
abbrev pub GivenAsKept : Type 0
GivenAsKept = (uses : List Use) (place : BlockPlace) (bytes : List ℕ) → kept_of place (fold after_use [] uses) ≡ Some bytes → last_kept place uses ≡ Some bytes

-- A get changes no block that is kept, and nothing at all where its own is not.
pub record GetLaws : Type 0 where
  pub same : (place other : BlockPlace) (kept : List KeptBlock) → kept_of other (brought_first place kept) ≡ kept_of other kept
  pub missed : (place : BlockPlace) (kept : List KeptBlock) → kept_of place kept ≡ None → brought_first place kept ≡ kept
  pub count : (place : BlockPlace) (kept : List KeptBlock) → length (brought_first place kept) ≡ length kept

-- A keep gives its block, and to no other place; the others stay while there is room; there are never more than may be.
pub record KeepLaws : Type 0 where
  pub here : (place : BlockPlace) (bytes : List ℕ) (kept : List KeptBlock) → kept_of place (with_kept place bytes kept) ≡ Some bytes
  pub elsewhere : (place other : BlockPlace) (bytes found : List ℕ) (kept : List KeptBlock) → other ≢ place → kept_of other (with_kept place bytes kept) ≡ Some found → kept_of other kept ≡ Some found
  pub stays : (place other : BlockPlace) (bytes : List ℕ) (kept : List KeptBlock) → other ≢ place → length kept < most_blocks → kept_of other (with_kept place bytes kept) ≡ kept_of other kept
  pub count : (place : BlockPlace) (bytes : List ℕ) (kept : List KeptBlock) → length (with_kept place bytes kept) ≤ most_blocks
