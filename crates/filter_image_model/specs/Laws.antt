-- The laws of the reading, of each kind: bytes that break no rule are the image of what is read, and an image breaks none and is
-- read so. The laws of the sections (of bytes and nodes) are halves of both.
use Rattle.std.specs.Prelude.{◌≡◌, ◌⊎◌, ◌++◌, ℕ, List, length, None}
use Rattle.byte_fields.specs.Spelling.{IsBytes}
use Rattle.filter_api.specs.Spellings.{AreAlike, IsSpelling, MayBeTrie}
use Rattle.filter_model.specs.Image.{image, suffixes}
use Rattle.filter_model.specs.Leaves.{Filter, Leaf}
use Rattle.filter_model.specs.Nodes.{trie_of}
use Rattle.filter_model.specs.Trie.{height, nodes_to}
use Rattle.filter_model.specs.Valid.{IsLeafList}
use Rattle.filter_image_model.specs.Header.{Bytes, hash_bits_in, real_bits_in, cutoff_in, height_in, leaf_count_in}
use Rattle.filter_image_model.specs.Kinds.{IsKind, IsOfKind, Kind, of_tries}
use Rattle.filter_image_model.specs.Nodes.{dense_in, sparse_in}
use Rattle.filter_image_model.specs.Reading.{fault_by, image_fault, image_in, leaves_in, whole_fault}

-- ---- of each kind

-- the bytes are the image of these, which the kind takes
pub record IsImageBy (k : Kind) (i : Filter) (bytes : Bytes) : Type 0 where
  pub may_stand : IsOfKind k i.hash_bits i.real_bits i.cutoff i.leaves
  pub bytes_are : bytes ≡ image i.hash_bits i.real_bits i.cutoff i.leaves

abbrev pub ImagesWereWrittenSo : Type 0
ImagesWereWrittenSo = (k : Kind) (bytes : Bytes) → IsKind k → IsBytes bytes → fault_by k bytes ≡ None → IsImageBy k (image_in bytes) bytes

abbrev pub ImagesAreReadAgain : Type 0
ImagesAreReadAgain = (k : Kind) (i : Filter) (bytes : Bytes) → IsKind k → IsImageBy k i bytes → (fault_by k bytes ≡ None) × (image_in bytes ≡ i)

-- of any bytes it can be told whether they are an image of the kind
abbrev pub ImagesAreDecided : Type 0
ImagesAreDecided = (k : Kind) (bytes : Bytes) → IsKind k → IsBytes bytes → ((i : Filter) → IsImageBy k i bytes → ⊥) ⊎ ((i : Filter) × IsImageBy k i bytes)

-- no two leaf lists have one image
abbrev pub ImagesHaveOneList : Type 0
ImagesHaveOneList =
    (i o : Filter) (bytes : Bytes) → IsImageBy of_tries i bytes → IsImageBy of_tries o bytes → AreAlike i.hash_bits i.real_bits i.leaves o.hash_bits o.real_bits o.leaves

-- the bytes are so spelled; that what is read is a list of the kind is the rest of the first law
abbrev pub BytesAreTheImage : Type 0
BytesAreTheImage =
    (k : Kind) (bytes : Bytes) → IsKind k → IsBytes bytes → fault_by k bytes ≡ None
    → bytes ≡ image (hash_bits_in bytes) (real_bits_in bytes) (cutoff_in bytes) (leaves_in bytes)

-- one leaf list has this trie and these suffixes
abbrev pub OneListATrie : Type 0
OneListATrie =
    (hash_bits real_bits : ℕ) (leaves others : List Leaf) → IsLeafList hash_bits real_bits leaves → IsLeafList hash_bits real_bits others
    → trie_of leaves ≡ trie_of others → suffixes hash_bits real_bits leaves ≡ suffixes hash_bits real_bits others → leaves ≡ others

-- the trie of the leaves that are read is the list of nodes that is read
pub record IsReadTrie (bytes : Bytes) : Type 0 where
  pub trie : trie_of (leaves_in bytes) ≡ dense_in bytes ++ sparse_in bytes
  pub height_is : height (leaves_in bytes) ≡ height_in bytes
  pub below : length (nodes_to (leaves_in bytes) (cutoff_in bytes)) ≡ length (dense_in bytes)
  pub count : length (leaves_in bytes) ≡ leaf_count_in bytes

abbrev pub TrieIsRead : Type 0
TrieIsRead = (k : Kind) (bytes : Bytes) → IsKind k → IsBytes bytes → fault_by k bytes ≡ None → IsReadTrie bytes

-- ---- of filters

-- the bytes are the image of these
abbrev pub IsImage : Filter → Bytes → Type 0
IsImage i bytes = IsSpelling image i.hash_bits i.real_bits i.cutoff i.leaves bytes

abbrev pub ImageWasWrittenSo : Type 0
ImageWasWrittenSo = (bytes : Bytes) → IsBytes bytes → image_fault bytes ≡ None → IsImage (image_in bytes) bytes

abbrev pub ImageIsReadAgain : Type 0
ImageIsReadAgain = (i : Filter) (bytes : Bytes) → IsImage i bytes → (image_fault bytes ≡ None) × (image_in bytes ≡ i)

-- ---- of whole keys: leaf lists without bits

-- the bytes are the image of these
pub record IsWholeImage (cutoff : ℕ) (leaves : List Leaf) (bytes : Bytes) : Type 0 where
  pub may_be : MayBeTrie 0 0 cutoff leaves
  pub bytes_are : bytes ≡ image 0 0 cutoff leaves

-- a leaf list without bits, and its cutoff
abbrev pub whole_list : ℕ → List Leaf → Filter
whole_list cutoff leaves = record { hash_bits = 0; real_bits = 0; cutoff = cutoff; leaves = leaves }

abbrev pub WholeImageWasWrittenSo : Type 0
WholeImageWasWrittenSo =
    (bytes : Bytes) → IsBytes bytes → whole_fault bytes ≡ None
    → (image_in bytes ≡ whole_list (cutoff_in bytes) (leaves_in bytes)) × IsWholeImage (cutoff_in bytes) (leaves_in bytes) bytes

abbrev pub WholeImageIsReadAgain : Type 0
WholeImageIsReadAgain =
    (cutoff : ℕ) (leaves : List Leaf) (bytes : Bytes) → IsWholeImage cutoff leaves bytes → (whole_fault bytes ≡ None) × (image_in bytes ≡ whole_list cutoff leaves)

abbrev pub WholeImagesHaveOneList : Type 0
WholeImagesHaveOneList =
    (cutoff other : ℕ) (leaves others : List Leaf) (bytes : Bytes) → IsWholeImage cutoff leaves bytes → IsWholeImage other others bytes → leaves ≡ others

-- of any bytes it can be told whether they are such an image
abbrev pub IsNoWholeImage : Bytes → Type 0
IsNoWholeImage bytes = (cutoff : ℕ) (leaves : List Leaf) → IsWholeImage cutoff leaves bytes → ⊥

abbrev pub WholeImagesAreDecided : Type 0
WholeImagesAreDecided =
    (bytes : Bytes) → IsBytes bytes → IsNoWholeImage bytes ⊎ ((cutoff : ℕ) × (leaves : List Leaf) × IsWholeImage cutoff leaves bytes)
