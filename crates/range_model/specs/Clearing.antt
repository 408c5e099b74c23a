-- The sorted map without the keys from one key on, and before another one.
use Rattle.std.specs.Prelude.{Bool, not, ◌&&◌, filter}
use Rattle.key_base.specs.ByteOrder.{Bytes, is_before}
use Rattle.map_model.specs.SortedMap.{Map}

-- the key is lo or above it, and below hi: no key is where lo is not below hi
abbrev pub lies_within : Bytes → Bytes → Bytes → Bool
lies_within lo hi key = not (is_before key lo) && is_before key hi

-- the map without the keys from lo on and below hi
abbrev pub clear : Map → Bytes → Bytes → Map
clear map lo hi = filter (λ (pair : Bytes × Bytes). not (lies_within lo hi pair.0)) map
