-- The first rule of the format that bytes break, and what is read from bytes that break none.
use Rattle.std.specs.Prelude.{ℕ, suc, ◌+◌, ◌*◌, ◌/◌, ◌%◌, ◌^◌, nat_lt, ◌==◌, Bool, true, false, not, ◌&&◌, ◌||◌, List, [], ◌∷◌, ◌++◌, map, length, filter, slice_index, position, count_by, zip, Option, None}
use Rattle.std.specs.Int.{div_ceil}
use Rattle.std.specs.List.{list_any, range_with_len}
use Rattle.std.specs.Option.{option_map, option_or}
use Rattle.key_base.specs.Limits.{max_key_bytes}
use Rattle.bit_model.specs.Numbers.{number_at}
use Rattle.filter_model.specs.Image.{has_letter}
use Rattle.filter_model.specs.Leaves.{Filter, Leaf}
use Rattle.filter_model.specs.Nodes.{Branch, Node, all}
use Rattle.filter_model.specs.Trie.{END}
use Rattle.trie_model.specs.Letters.{order_of}
use Rattle.byte_fields.specs.Faults.{Fault, fault, refuse}
use Rattle.filter_image_model.specs.Header.{Bytes, hash_bits_in, real_bits_in, cutoff_in, height_in, leaf_count_in, dense_count_in, sparse_count_in, suffix_bits_in, section_bits, section_place, end_place, section}
use Rattle.filter_image_model.specs.Kinds.{Kind, leaves_beside, leaves_under, of_stubs, of_whole_keys}
use Rattle.filter_image_model.specs.Nodes.{dense_in, sparse_in}
use Rattle.filter_image_model.specs.Levels.{are_levels, leaves_behind, leaf_count_of, levels_from, nodes_above, root_leaves}

-- ---- 1 to 4 on the header

-- the first of these bytes that is another one than it must be
abbrev pub bytes_fault : ℕ → ℕ → List ℕ → Bytes → Option Fault
bytes_fault rule place [] bytes = None
bytes_fault rule place (want ∷ more) bytes = refuse (not (slice_index bytes place == want)) place rule (bytes_fault rule (suc place) more bytes)

-- 1: fewer than 40 bytes; 2: SURF and version 1; 3: more bits than these, and a byte that must be 0; 4: height, cutoff, leaves
unfoldable pub image_head_fault : ℕ → ℕ → Bytes → Option Fault
image_head_fault hash_most real_most bytes =
    refuse (nat_lt (length bytes) 40) (length bytes) 1
    (option_or (bytes_fault 2 0 (83 ∷ 85 ∷ 82 ∷ 70 ∷ 1 ∷ []) bytes)
    (refuse (nat_lt hash_most (hash_bits_in bytes)) 5 3
    (refuse (nat_lt real_most (real_bits_in bytes)) 6 3
    (option_or (bytes_fault 3 7 (0 ∷ []) bytes)
    (refuse ((height_in bytes == 0) || nat_lt max_key_bytes (height_in bytes)) 10 4
    (refuse (nat_lt (height_in bytes) (cutoff_in bytes)) 8 4
    (refuse (leaf_count_in bytes == 0) 12 4
    None)))))))

-- ---- 1 and 5 on the whole: fewer bytes than the counts ask for, or more

unfoldable pub length_fault : Bytes → Option Fault
length_fault bytes =
    refuse (nat_lt (length bytes) (end_place bytes)) (length bytes) 1
    (refuse (nat_lt (end_place bytes) (length bytes)) (end_place bytes) 5
    None)

-- ---- 6: a bit behind the last one of a section, in its last byte

abbrev pub has_padding : ℕ → ℕ → Bytes → Bool
has_padding place bits bytes = not (bits % 8 == 0) && not (slice_index bytes (place + bits / 8) / 2 ^ (bits % 8) == 0)

abbrev pub padding_fault : ℕ → List ℕ → Bytes → Option Fault
padding_fault place [] bytes = None
padding_fault place (bits ∷ more) bytes =
    refuse (has_padding place bits bytes) (place + bits / 8) 6 (padding_fault (place + div_ceil bits 8) more bytes)

-- ---- 7: a bit of D-HasChild whose bit of D-Labels is clear

abbrev pub is_stray : Bool × Bool → Bool
is_stray b = not b.0 && b.1

unfoldable pub stray_fault : Bytes → Option Fault
stray_fault bytes = option_map (λ i. fault (section_place 1 bytes + i / 8) 7) (position is_stray (zip (section 0 bytes) (section 1 bytes)))

-- ---- 8: the counts

-- S-LOUDS has another number of set bits than sparse nodes, or begins with 0
abbrev pub begins_clear : List Bool → Bool
begins_clear [] = false
begins_clear (b ∷ bits) = not b

unfoldable pub louds_fault : Bytes → Option Fault
louds_fault bytes =
    refuse (not (count_by (λ b. b) (section 5 bytes) == sparse_count_in bytes) || begins_clear (section 5 bytes)) 8 8 None

-- the levels are not `height` many, or hold other nodes; those below the cutoff hold others than the dense ones; or
-- another number of leaves
unfoldable pub counts_fault : Bytes → List Node → Option Fault
counts_fault bytes ns =
    refuse (not (are_levels (height_in bytes) 1 ns)
    || not (nodes_above (cutoff_in bytes) 1 ns == dense_count_in bytes)
    || not (leaf_count_of ns == leaf_count_in bytes)) 8 8 None

-- ---- 9: the nodes

-- letters rise, END before the bytes
abbrev pub rises : Node → Bool
rises [] = true
rises (b ∷ []) = true
rises (b ∷ c ∷ n) = nat_lt (order_of b.0) (order_of c.0) && rises (c ∷ n)

-- one branch alone, that is a leaf; that is END
abbrev pub is_lone_leaf : Node → Bool
is_lone_leaf [] = false
is_lone_leaf (b ∷ []) = not b.1
is_lone_leaf (b ∷ c ∷ n) = false

abbrev pub is_lone_end : Node → Bool
is_lone_end [] = false
is_lone_end (b ∷ []) = b.0 == END
is_lone_end (b ∷ c ∷ n) = false

-- no branch; labels that do not rise; a mark with a child; END without another branch; one leaf alone, where there are more
abbrev pub is_no_node : ℕ → Node → Bool
is_no_node leaves n =
    (length n == 0) || not (rises n) || list_any (λ (b : Branch). (b.0 == END) && b.1) n || is_lone_end n
    || (is_lone_leaf n && nat_lt 1 leaves)

-- END at the root; a height over 1 where there is one leaf
abbrev pub is_no_root : ℕ → ℕ → List Node → Bool
is_no_root height leaves [] = true
is_no_root height leaves (n ∷ ns) = has_letter n END || (nat_lt 1 height && (leaves == 1))

-- node by node, each of so many bytes of labels
abbrev pub nodes_fault : (Node → ℕ) → ℕ → ℕ → List Node → Option Fault
nodes_fault width leaves place [] = None
nodes_fault width leaves place (n ∷ ns) = refuse (is_no_node leaves n) place 9 (nodes_fault width leaves (place + width n) ns)

unfoldable pub shape_fault : Bool → Bytes → List Node → List Node → Option Fault
shape_fault alone bytes dense sparse =
    refuse (is_no_root (height_in bytes) (leaves_under alone (leaf_count_in bytes)) (dense ++ sparse)) 40 9
    (option_or (nodes_fault (λ n. 32) (leaves_beside alone (leaf_count_in bytes)) 40 dense)
    (nodes_fault length (leaves_beside alone (leaf_count_in bytes)) (section_place 3 bytes) sparse))

-- ---- 10: a leaf that ends and has real bits

-- the letters of the branches that are leaves, by their slots
abbrev pub slot_letters : List Node → List ℕ
slot_letters ns = map (λ (b : Branch). b.0) (filter (λ (b : Branch). not b.1) (all ns))

-- the suffix of a slot
unfoldable pub slot_suffix : Bytes → ℕ → ℕ
slot_suffix bytes slot = number_at (section 6 bytes) (slot * suffix_bits_in bytes) (suffix_bits_in bytes)

unfoldable pub ends_fault : Bytes → ℕ → List ℕ → Option Fault
ends_fault bytes slot [] = None
ends_fault bytes slot (c ∷ cs) =
    refuse ((c == END) && not (slot_suffix bytes slot / 2 ^ hash_bits_in bytes == 0)) (section_place 6 bytes + slot * suffix_bits_in bytes / 8) 10
    (ends_fault bytes (suc slot) cs)

-- ---- the rules, in their order

unfoldable pub nodes_rules : Bool → Bytes → List Node → List Node → Option Fault
nodes_rules alone bytes dense sparse =
    option_or (counts_fault bytes (dense ++ sparse))
    (option_or (shape_fault alone bytes dense sparse)
    (ends_fault bytes 0 (slot_letters (dense ++ sparse))))

unfoldable pub fault_by : Kind → Bytes → Option Fault
fault_by k bytes =
    option_or (image_head_fault k.hash_bits k.real_bits bytes)
    (option_or (length_fault bytes)
    (option_or (padding_fault 40 (section_bits bytes) bytes)
    (option_or (stray_fault bytes)
    (option_or (louds_fault bytes)
    (nodes_rules k.alone bytes (dense_in bytes) (sparse_in bytes))))))

-- those of a filter's image, and those of an image of whole keys
abbrev pub image_fault : Bytes → Option Fault
image_fault bytes = fault_by of_stubs bytes

abbrev pub whole_fault : Bytes → Option Fault
whole_fault bytes = fault_by of_whole_keys bytes

-- ---- what is read

unfoldable pub leaves_in : Bytes → List Leaf
leaves_in bytes =
    root_leaves (leaves_behind (hash_bits_in bytes) (levels_from (height_in bytes) 1 (dense_in bytes ++ sparse_in bytes))
    (map (slot_suffix bytes) (range_with_len 0 (leaf_count_in bytes))))

unfoldable pub image_in : Bytes → Filter
image_in bytes =
    record { hash_bits = hash_bits_in bytes; real_bits = real_bits_in bytes; cutoff = cutoff_in bytes; leaves = leaves_in bytes }
