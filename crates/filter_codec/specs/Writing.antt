-- The parts of an image as they are written one after the other.
use Rattle.std.specs.Prelude.{◌++◌, List, length}
use Rattle.bit_model.specs.Packed.{packed}
use Rattle.filter_image_model.specs.Header.{Bytes}
use Rattle.filter_model.specs.Leaves.{Filter}
use Rattle.filter_image_model.specs.Sections.{image_head}
use Rattle.filter_model.specs.Image.{dense_children, dense_ends, dense_labels, sparse_children, sparse_labels, sparse_louds}
use Rattle.filter_model.specs.Nodes.{Node, all}
use Rattle.filter_model.specs.Trie.{height}
use Rattle.filter_trie.specs.Parts.{lower, upper}

-- the header of a trie's image
abbrev pub head_of : Filter → Bytes
head_of i =
    image_head i.hash_bits i.real_bits i.cutoff (height i.leaves) (length i.leaves)
    (length (upper i.cutoff i.leaves)) (length (lower i.cutoff i.leaves)) (length (all (lower i.cutoff i.leaves)))

-- the sections of the upper levels, and of the others
abbrev pub dense_part : List Node → Bytes
dense_part dense = packed 8 (dense_labels dense) ++ packed 8 (dense_children dense) ++ packed 8 (dense_ends dense)

abbrev pub sparse_part : List Node → Bytes
sparse_part sparse = sparse_labels sparse ++ packed 8 (sparse_children sparse) ++ packed 8 (sparse_louds sparse)
