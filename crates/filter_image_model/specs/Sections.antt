-- What is read of the image of two lists of nodes, whatever they are, and of the bits of the suffixes.
use Rattle.std.specs.Prelude.{◌≡◌, ℕ, ◌*◌, ◌+◌, ◌^◌, ◌<◌, ◌≤◌, Bool, None, List, length}
use Rattle.std.specs.List.{AllByRecursion}
use Rattle.key_base.specs.Limits.{max_hash_bits, max_key_bytes, max_real_bits}
use Rattle.byte_fields.specs.Spelling.{IsBytes}
pub use Rattle.filter_model.specs.Image.{image_head, nodes_image}
unfoldable pub use Rattle.filter_model.specs.Image.{sections}
use Rattle.filter_model.specs.Nodes.{Node, all}
use Rattle.trie_laws.specs.Louds.{IsNode}
use Rattle.filter_image_model.specs.Header.{Bytes, hash_bits_in, real_bits_in, cutoff_in, height_in, leaf_count_in, section_bits, section}
use Rattle.filter_image_model.specs.Nodes.{IsDense, dense_in, sparse_in}
use Rattle.filter_image_model.specs.Reading.{image_head_fault, length_fault, padding_fault, stray_fault, louds_fault}

-- no rule on the bytes alone is broken, up to the part of 8 that S-LOUDS keeps
pub record KeepsBytes (bytes : Bytes) : Type 0 where
  pub bytes_are : IsBytes bytes
  pub header : image_head_fault max_hash_bits max_real_bits bytes ≡ None
  pub lengths : length_fault bytes ≡ None
  pub padding : padding_fault 40 (section_bits bytes) bytes ≡ None
  pub strays : stray_fault bytes ≡ None
  pub louds : louds_fault bytes ≡ None

-- such bytes are the image of the nodes and suffixes that are read
abbrev pub SectionsAreWritten : Type 0
SectionsAreWritten =
    (bytes : Bytes) → KeepsBytes bytes
    → bytes ≡ nodes_image (hash_bits_in bytes) (real_bits_in bytes) (cutoff_in bytes) (height_in bytes) (leaf_count_in bytes) (dense_in bytes) (sparse_in bytes) (section 6 bytes)

-- numbers, nodes and bits that an image has room for
pub record HasRoom (hash_bits real_bits cutoff height leaves : ℕ) (dense sparse : List Node) (suffixes : List Bool) : Type 0 where
  pub hash_width : hash_bits ≤ max_hash_bits
  pub real_width : real_bits ≤ max_real_bits
  pub cutoff_in : cutoff ≤ height
  pub some_height : 0 < height
  pub low : height ≤ max_key_bytes
  pub some_leaves : 0 < leaves
  pub few_leaves : leaves < 2 ^ 32
  pub few_dense : length dense < 2 ^ 64
  pub few_sparse : length sparse < 2 ^ 64
  pub few_labels : length (all sparse) < 2 ^ 64
  pub dense_nodes : AllByRecursion IsDense dense
  pub sparse_nodes : AllByRecursion IsNode sparse
  pub suffix_bits : length suffixes ≡ leaves * (hash_bits + real_bits)

-- what is read of their image
pub record AreReadAgain (hash_bits real_bits cutoff height leaves : ℕ) (dense sparse : List Node) (suffixes : List Bool) (bytes : Bytes) : Type 0 where
  pub hash_is : hash_bits_in bytes ≡ hash_bits
  pub real_is : real_bits_in bytes ≡ real_bits
  pub cutoff_is : cutoff_in bytes ≡ cutoff
  pub height_is : height_in bytes ≡ height
  pub leaves_are : leaf_count_in bytes ≡ leaves
  pub dense_are : dense_in bytes ≡ dense
  pub sparse_are : sparse_in bytes ≡ sparse
  pub suffixes_are : section 6 bytes ≡ suffixes

abbrev pub SectionsAreReadAgain : Type 0
SectionsAreReadAgain =
    (hash_bits real_bits cutoff height leaves : ℕ) (dense sparse : List Node) (suffixes : List Bool) (bytes : Bytes)
    → HasRoom hash_bits real_bits cutoff height leaves dense sparse suffixes
    → bytes ≡ nodes_image hash_bits real_bits cutoff height leaves dense sparse suffixes
    → KeepsBytes bytes × AreReadAgain hash_bits real_bits cutoff height leaves dense sparse suffixes bytes
