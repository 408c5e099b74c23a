-- The bytes of a map: a head, the image of the trie of its keys, where its values begin, the values, and a sum.
use Rattle.std.specs.Prelude.{ℕ, ◌+◌, List, [], ◌∷◌, ◌++◌, map, length, flat_map}
use Rattle.std.specs.List.{concat}
use Rattle.byteorder.specs.Endian.{little_bytes}
use Rattle.byte_fields.specs.Sums.{fnv_of}
use Rattle.filter_model.specs.Image.{image}
use Rattle.map_file_model.specs.Maps.{Bytes, Map, keys_of, slotted, value_of}
use Rattle.whole_keys.specs.Whole.{whole_leaves}

-- SURM, version 1, three zeros, how many pairs, zeros, and the length of the image
abbrev pub body_head : ℕ → ℕ → Bytes
body_head pairs image_bytes =
    (83 ∷ 85 ∷ 82 ∷ 77 ∷ 1 ∷ 0 ∷ 0 ∷ 0 ∷ []) ++ little_bytes 4 pairs ++ (0 ∷ 0 ∷ 0 ∷ 0 ∷ []) ++ little_bytes 8 image_bytes

-- numbers of eight bytes
abbrev pub words : List ℕ → Bytes
words ns = flat_map (little_bytes 8) ns

-- where values end, of which the first begins at a place, and where they begin, and the last one ends
abbrev pub ends_from : ℕ → List Bytes → List ℕ
ends_from place [] = []
ends_from place (value ∷ values) = (place + length value) ∷ ends_from (place + length value) values

abbrev pub offsets_of : List Bytes → List ℕ
offsets_of values = 0 ∷ ends_from 0 values

-- the values in the order of the slots of their keys
abbrev pub slotted_values : Map → List Bytes
slotted_values pairs = map (value_of pairs) (slotted (keys_of pairs))

-- all but the sum
abbrev pub front_of : ℕ → Bytes → List Bytes → Bytes
front_of pairs image values = body_head pairs (length image) ++ (image ++ (words (offsets_of values) ++ concat values))

-- with the sum of all before
abbrev pub summed : Bytes → Bytes
summed front = front ++ little_bytes 8 (fnv_of front)

-- the body of a map, whose trie has so many dense levels
unfoldable pub body_of : ℕ → Map → Bytes
body_of cutoff pairs = summed (front_of (length pairs) (image 0 0 cutoff (whole_leaves (keys_of pairs))) (slotted_values pairs))
