-- What a trie's parts stand for: two halves of one list of nodes, and the suffixes of the leaves by slot.
use Rattle.std.specs.Prelude.{◌≡◌, ℕ, ◌+◌, ◌*◌, List, ◌++◌, length, map, take, drop}
use Rattle.std.specs.List.{range_with_len}
use Rattle.bit_model.specs.Numbers.{number_at}
use Rattle.filter_api.specs.Spellings.{MayBeTrie}
use Rattle.filter_image_model.specs.Levels.{leaves_behind, levels_from, root_leaves}
use Rattle.filter_model.specs.Image.{suffixes}
use Rattle.filter_model.specs.Leaves.{Filter, Leaf}
use Rattle.filter_model.specs.Nodes.{Node, trie_of}
use Rattle.filter_model.specs.Trie.{height, nodes_to}
use Rattle.suffix_bits.specs.Slots.{SuffixArray, array_bits}
use Rattle.trie_laws.specs.Halves.{second_half}
use Rattle.trie_model.specs.Halves.{Half}

-- the nodes of a trie, cut at a level
abbrev pub upper : ℕ → List Leaf → List Node
upper cutoff ls = take (length (nodes_to ls cutoff)) (trie_of ls)

abbrev pub lower : ℕ → List Leaf → List Node
lower cutoff ls = drop (length (nodes_to ls cutoff)) (trie_of ls)

-- the leaves that a list of nodes and so many suffixes spell
unfoldable pub leaves_by : ℕ → List Node → SuffixArray → List Leaf
leaves_by levels ns array =
    let width = array.hash_bits + array.real_bits in
    root_leaves (leaves_behind array.hash_bits (levels_from levels 1 ns)
    (map (λ slot. number_at (array_bits array) (slot * width) width) (range_with_len 0 (length array.slots))))

-- what the parts stand for, whatever they are
unfoldable pub image_by : ℕ → ℕ → List Node → List Node → SuffixArray → Filter
image_by cutoff levels dense sparse array =
    record { hash_bits = array.hash_bits; real_bits = array.real_bits; cutoff = cutoff; leaves = leaves_by levels (dense ++ sparse) array }

-- the parts are those of this
pub record AreParts (i : Filter) (cutoff levels : ℕ) (dense : List Node) (sparse : Half) (array : SuffixArray) : Type 0 where
  pub may_stand : MayBeTrie i.hash_bits i.real_bits i.cutoff i.leaves
  pub cutoff_is : cutoff ≡ i.cutoff
  pub levels_are : levels ≡ height i.leaves
  pub dense_is : dense ≡ upper i.cutoff i.leaves
  pub sparse_is : sparse ≡ second_half (upper i.cutoff i.leaves) (lower i.cutoff i.leaves)
  pub hash_bits_are : array.hash_bits ≡ i.hash_bits
  pub real_bits_are : array.real_bits ≡ i.real_bits
  pub count_is : length array.slots ≡ length i.leaves
  pub suffixes_are : array_bits array ≡ suffixes i.hash_bits i.real_bits i.leaves
