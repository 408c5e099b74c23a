-- Where a static map lies on a device: a gate at byte 0, which is 1 where there is a map, and its body from byte 8 on.
use Rattle.std.specs.Prelude.{◌≡◌, ◌≢◌, ◌⊎◌, ◌+◌, ◌^◌, ℕ, nat_lt, if◌then◌else◌, codes}
use Rattle.byteorder.specs.Endian.{little_number}
use Rattle.disk_trait.specs.Image.{Image, Shows, window}
use Rattle.filter_model.specs.Trie.{cutoff_of, level_labels, level_nodes}
use Rattle.map_file_model.specs.Body.{body_of}
use Rattle.map_file_model.specs.Maps.{keys_of}
use Rattle.map_file_model.specs.Reading.{values_place}
use Rattle.map_model.specs.SortedMap.{Bytes, Map}
use Rattle.whole_keys.specs.Whole.{whole_leaves}

-- the most bytes of a body
abbrev pub max_body_bytes : ℕ
max_body_bytes = 2 ^ 31

-- ---- what is written

-- the levels of its trie that are dense, by the ratio 64
abbrev pub built_cutoff : Map → ℕ
built_cutoff pairs = cutoff_of 64 (level_nodes (whole_leaves (keys_of pairs))) (level_labels (whole_leaves (keys_of pairs)))

abbrev pub built_body : Map → Bytes
built_body pairs = body_of (built_cutoff pairs) pairs

-- the device has the map of these pairs
pub record HasMap (pairs : Map) (image : Image) : Type 0 where
  pub gate : image 0 ≡ 1
  pub body : Shows 8 (built_body pairs) image

-- no map, or all of it
abbrev pub HasNoneOrAll : Map → Image → Type 0
HasNoneOrAll pairs image = (image 0 ≢ 1) ⊎ HasMap pairs image

-- ---- what is read

-- a map is there, whatever its bytes are
pub record IsThere (image : Image) : Type 0 where
  pub gate : image 0 ≡ 1
  pub magic : Shows 8 (codes "SURM") image

-- the bytes of a body up to where its head says that the values begin, of which the last eight are the last offset, and all bytes that
-- this asks for
abbrev pub front_bytes : Image → ℕ
front_bytes image = values_place (window image 8 24)

abbrev pub body_bytes : Image → ℕ
body_bytes image = front_bytes image + little_number 8 (window image (front_bytes image) 8) + 8

-- what is read of it: the head, then as much as it asks for, then all; where more than may be is asked for, what was read before
abbrev pub bytes_read : Image → Bytes
bytes_read image =
    if nat_lt max_body_bytes (front_bytes image) then window image 8 24
    else (if nat_lt max_body_bytes (body_bytes image) then window image 8 (front_bytes image)
    else window image 8 (body_bytes image))
