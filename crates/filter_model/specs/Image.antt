-- The bytes of a filter: a head of eight numbers, and seven sections that spell the trie and the suffixes of its leaves.
use Rattle.std.specs.Prelude.{ℕ, ◌==◌, Bool, true, false, cond, ◌&&◌, ◌||◌, List, [], ◌∷◌, ◌++◌, map, length, take, drop, filter, flat_map}
use Rattle.std.specs.List.{range_with_len}
use Rattle.bit_model.specs.Packed.{packed}
use Rattle.byteorder.specs.Endian.{little_bytes}
use Rattle.filter_model.specs.Strings.{bytes_eq}
use Rattle.filter_model.specs.Leaves.{Leaf}
use Rattle.filter_model.specs.Trie.{END, path, height, nodes_to, slots}
use Rattle.filter_model.specs.Nodes.{Branch, Node, all, trie_of}
use Rattle.filter_model.specs.Suffixes.{leaf_suffix, packed_suffixes}

-- the node has a branch by c
abbrev pub has_letter : Node → ℕ → Bool
has_letter [] c = false
has_letter (b ∷ n) c = (b.0 == c) || has_letter n c

-- and it leads to a node
abbrev pub has_child : Node → ℕ → Bool
has_child [] c = false
has_child (b ∷ n) c = ((b.0 == c) && b.1) || has_child n c

-- a bit for each byte
unfoldable pub row : (ℕ → Bool) → List Bool
row f = map f (range_with_len 0 256)

-- the dense sections: for each node a bit for each byte that is a branch, for each that leads to a node, and for END
abbrev pub dense_labels : List Node → List Bool
dense_labels ns = flat_map (λ (n : Node). row (has_letter n)) ns

abbrev pub dense_children : List Node → List Bool
dense_children ns = flat_map (λ (n : Node). row (has_child n)) ns

abbrev pub dense_ends : List Node → List Bool
dense_ends ns = map (λ (n : Node). has_letter n END) ns

-- END is written as 255
abbrev pub label_of : ℕ → ℕ
label_of c = cond (c == END) 255 c

-- a set bit at the first branch of a node
abbrev pub opening : Node → List Bool
opening [] = []
opening (b ∷ n) = true ∷ map (λ (x : Branch). false) n

-- the sparse sections: for each branch its label, whether it leads to a node, and whether it is the first of its node
abbrev pub sparse_labels : List Node → List ℕ
sparse_labels ns = map (λ (b : Branch). label_of b.0) (all ns)

abbrev pub sparse_children : List Node → List Bool
sparse_children ns = map (λ (b : Branch). b.1) (all ns)

abbrev pub sparse_louds : List Node → List Bool
sparse_louds ns = flat_map opening ns

-- the leaves in the order of their slots
unfoldable pub in_slots : List Leaf → List Leaf
in_slots ls = flat_map (λ (q : List ℕ). filter (λ l. bytes_eq (path l) q) ls) (slots ls)

-- the suffixes in the order of their slots
abbrev pub suffixes : ℕ → ℕ → List Leaf → List Bool
suffixes hash_bits real_bits ls = packed_suffixes hash_bits real_bits (map leaf_suffix (in_slots ls))

-- the head: SURF, version 1, widths, cutoff, height, how many leaves, dense nodes, sparse nodes and sparse labels
abbrev pub image_head : ℕ → ℕ → ℕ → ℕ → ℕ → ℕ → ℕ → ℕ → List ℕ
image_head hash_bits real_bits cutoff height leaves dense sparse labels =
    (83 ∷ 85 ∷ 82 ∷ 70 ∷ 1 ∷ hash_bits ∷ real_bits ∷ 0 ∷ [])
    ++ little_bytes 2 cutoff ++ little_bytes 2 height ++ little_bytes 4 leaves
    ++ little_bytes 8 dense ++ little_bytes 8 sparse ++ little_bytes 8 labels

-- the seven sections
unfoldable pub sections : List Node → List Node → List Bool → List ℕ
sections dense sparse suffix_bits =
    packed 8 (dense_labels dense) ++ packed 8 (dense_children dense) ++ packed 8 (dense_ends dense)
    ++ sparse_labels sparse ++ packed 8 (sparse_children sparse) ++ packed 8 (sparse_louds sparse)
    ++ packed 8 suffix_bits

-- the image of two lists of nodes, whatever they are, and of the bits of the suffixes
abbrev pub nodes_image : ℕ → ℕ → ℕ → ℕ → ℕ → List Node → List Node → List Bool → List ℕ
nodes_image hash_bits real_bits cutoff height leaves dense sparse suffix_bits =
    image_head hash_bits real_bits cutoff height leaves (length dense) (length sparse) (length (all sparse)) ++ sections dense sparse suffix_bits

-- the image of a leaf list whose levels below the cutoff are dense
unfoldable pub image : ℕ → ℕ → ℕ → List Leaf → List ℕ
image hash_bits real_bits cutoff ls =
    let n = length (nodes_to ls cutoff) in
    nodes_image hash_bits real_bits cutoff (height ls) (length ls) (take n (trie_of ls)) (drop n (trie_of ls)) (suffixes hash_bits real_bits ls)
