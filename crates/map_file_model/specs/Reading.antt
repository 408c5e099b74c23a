-- The first rule of the format that a body breaks, and the map that is read of one that breaks none.
use Rattle.std.specs.Prelude.{ℕ, zero, suc, ◌+◌, ◌*◌, ◌==◌, nat_lt, not, ◌||◌, List, [], ◌∷◌, length, take, drop, zip, Option, None}
use Rattle.std.specs.Option.{option_map, option_or}
use Rattle.byteorder.specs.Endian.{little_number}
use Rattle.byte_fields.specs.Faults.{Fault, fault, refuse}
use Rattle.byte_fields.specs.Sums.{fnv_of}
use Rattle.filter_image_model.specs.Header.{leaf_count_in}
use Rattle.filter_image_model.specs.Reading.{bytes_fault, leaves_in, whole_fault}
use Rattle.key_base.specs.KeyLists.{keys_in}
use Rattle.map_file_model.specs.Maps.{Bytes, Map, max_map_pairs, paired, slotted, value_of}
use Rattle.whole_keys.specs.Whole.{stubs}

-- ---- the parts

abbrev pub pair_count_in : Bytes → ℕ
pair_count_in bytes = little_number 4 (drop 8 bytes)

abbrev pub image_length_in : Bytes → ℕ
image_length_in bytes = little_number 8 (drop 16 bytes)

unfoldable pub image_part : Bytes → Bytes
image_part bytes = take (image_length_in bytes) (drop 24 bytes)

-- where the offsets begin, and the values
abbrev pub offsets_place : Bytes → ℕ
offsets_place bytes = 24 + image_length_in bytes

abbrev pub values_place : Bytes → ℕ
values_place bytes = offsets_place bytes + 8 * (pair_count_in bytes + 1)

-- the offset of a slot: where its value begins, from where the values begin; that of the number behind the last slot is
-- where the last value ends
abbrev pub offset_at : Bytes → ℕ → ℕ
offset_at bytes slot = little_number 8 (drop (offsets_place bytes + 8 * slot) bytes)

-- where the sum stands, and where the body ends
abbrev pub sum_place : Bytes → ℕ
sum_place bytes = values_place bytes + offset_at bytes (pair_count_in bytes)

abbrev pub body_end : Bytes → ℕ
body_end bytes = sum_place bytes + 8

-- so many numbers of eight bytes
abbrev pub words_in : ℕ → Bytes → List ℕ
words_in zero bytes = []
words_in (suc n) bytes = little_number 8 bytes ∷ words_in n (drop 8 bytes)

-- all offsets
unfoldable pub offsets_in : Bytes → List ℕ
offsets_in bytes = words_in (suc (pair_count_in bytes)) (drop (offsets_place bytes) bytes)

-- the pieces between places that follow each other
abbrev pub pieces : List ℕ → Bytes → List Bytes
pieces [] bytes = []
pieces (place ∷ ends) bytes = keys_in place ends bytes

-- the values in the order of the slots
unfoldable pub values_in : Bytes → List Bytes
values_in bytes = pieces (offsets_in bytes) (drop (values_place bytes) bytes)

-- ---- 1: fewer bytes than a head has, than the head asks for up to the last offset, and than that offset asks for

unfoldable pub short_fault : Bytes → Option Fault
short_fault bytes =
    refuse (nat_lt (length bytes) 24) (length bytes) 1
    (refuse (nat_lt (length bytes) (values_place bytes)) (length bytes) 1
    (refuse (nat_lt (length bytes) (body_end bytes)) (length bytes) 1
    None))

-- ---- 2: SURM and version 1; 3: a byte that must be 0; 4: how many pairs

unfoldable pub head_fault : Bytes → Option Fault
head_fault bytes =
    option_or (bytes_fault 2 0 (83 ∷ 85 ∷ 82 ∷ 77 ∷ 1 ∷ []) bytes)
    (option_or (bytes_fault 3 5 (0 ∷ 0 ∷ 0 ∷ []) bytes)
    (option_or (bytes_fault 3 12 (0 ∷ 0 ∷ 0 ∷ 0 ∷ []) bytes)
    (refuse ((pair_count_in bytes == 0) || nat_lt max_map_pairs (pair_count_in bytes)) 8 4
    None)))

-- ---- 5: the first rule of whole keys that the image breaks, by its place in the body; 6: leaves that are not as many

-- a fault of bytes that begin at a place, by its place in the whole
abbrev pub fault_behind : ℕ → ℕ → Fault → Fault
fault_behind place rule f = fault (place + f.place) rule

unfoldable pub trie_fault : Bytes → Option Fault
trie_fault bytes =
    option_or (option_map (fault_behind 24 5) (whole_fault (image_part bytes)))
    (refuse (not (leaf_count_in (image_part bytes) == pair_count_in bytes)) 8 6
    None)

-- ---- 7: the first offset is not 0, or one is less than the one before it

abbrev pub falls : ℕ → ℕ → List ℕ → Option Fault
falls place before [] = None
falls place before (offset ∷ offsets) = refuse (nat_lt offset before) place 7 (falls (place + 8) offset offsets)

unfoldable pub offsets_fault : Bytes → Option Fault
offsets_fault bytes =
    refuse (not (offset_at bytes 0 == 0)) (offsets_place bytes) 7 (falls (offsets_place bytes) 0 (offsets_in bytes))

-- ---- 8: more bytes than the last offset asks for; 9: another sum

unfoldable pub end_fault : Bytes → Option Fault
end_fault bytes =
    refuse (nat_lt (body_end bytes) (length bytes)) (body_end bytes) 8
    (refuse (not (little_number 8 (drop (sum_place bytes) bytes) == fnv_of (take (sum_place bytes) bytes))) (sum_place bytes) 9
    None)

-- ---- the rules, in their order

unfoldable pub body_fault : Bytes → Option Fault
body_fault bytes =
    option_or (short_fault bytes)
    (option_or (head_fault bytes)
    (option_or (trie_fault bytes)
    (option_or (offsets_fault bytes)
    (end_fault bytes))))

-- ---- what is read

-- the keys, and each with the value in its slot
unfoldable pub keys_read : Bytes → List Bytes
keys_read bytes = stubs (leaves_in (image_part bytes))

unfoldable pub map_in : Bytes → Map
map_in bytes = paired (value_of (zip (slotted (keys_read bytes)) (values_in bytes))) (keys_read bytes)
