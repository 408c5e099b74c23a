-- The blocks that are kept, the newest first.
use Rattle.std.specs.Prelude.{ℕ, ◌-◌, ◌==◌, ◌&&◌, Bool, List, ◌∷◌, take, Option}
use Rattle.std.specs.Option.{option_map_or}
use Rattle.std.specs.Map.{lookup, remove_entry}

-- how many blocks are kept at most
abbrev pub most_blocks : ℕ
most_blocks = 64

-- where a block is from: the number of its table, and its own in that table
abbrev pub BlockPlace : Type 0
BlockPlace = ℕ × ℕ

-- a block with its bytes
abbrev pub KeptBlock : Type 0
KeptBlock = BlockPlace × List ℕ

abbrev pub is_place : BlockPlace → BlockPlace → Bool
is_place place other = (place.0 == other.0) && (place.1 == other.1)

-- the bytes of a block, where it is kept
abbrev pub kept_of : BlockPlace → List KeptBlock → Option (List ℕ)
kept_of place kept = lookup (is_place place) kept

-- all but that block
abbrev pub others : BlockPlace → List KeptBlock → List KeptBlock
others place kept = remove_entry (is_place place) kept

-- the block goes first, where it is kept
abbrev pub brought_first : BlockPlace → List KeptBlock → List KeptBlock
brought_first place kept = option_map_or (λ bytes. (place, bytes) ∷ others place kept) (kept_of place kept) kept

-- the block is put first, in the stead of an older one of its place, or of the last where as many others are kept as may be
abbrev pub with_kept : BlockPlace → List ℕ → List KeptBlock → List KeptBlock
with_kept place bytes kept = (place, bytes) ∷ take (most_blocks - 1) (others place kept)
