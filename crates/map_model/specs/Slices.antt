-- What is read of a sorted map between two keys.
use Rattle.std.specs.Prelude.{ℕ, Bool, true, not, ◌&&◌, [], ◌∷◌, length, take, filter, Option, Some, None}
pub use Rattle.key_base.specs.ByteOrder.{is_before}
use Rattle.map_model.specs.SortedMap.{Bytes, Map}

-- the key is not above the upper end, where there is one
abbrev pub is_up_to : Option Bytes → Bytes → Bool
is_up_to None key = true
is_up_to (Some hi) key = not (is_before hi key)

-- the key lies between the two, both included
abbrev pub is_between : Bytes → Option Bytes → Bytes → Bool
is_between lo hi key = not (is_before key lo) && is_up_to hi key

-- the pairs whose keys lie there: none where lo is above hi
abbrev pub between : Map → Bytes → Option Bytes → Map
between map lo hi = filter (λ (pair : Bytes × Bytes). is_between lo hi pair.0) map

-- the first n of them
abbrev pub slice : Map → Bytes → Option Bytes → ℕ → Map
slice map lo hi n = take n (between map lo hi)

abbrev pub first_pair : Map → Option (Bytes × Bytes)
first_pair [] = None
first_pair (pair ∷ more) = Some pair

-- the first of them
abbrev pub seek : Map → Bytes → Option Bytes → Option (Bytes × Bytes)
seek map lo hi = first_pair (between map lo hi)

-- how many they are
abbrev pub count : Map → Bytes → Option Bytes → ℕ
count map lo hi = length (between map lo hi)
