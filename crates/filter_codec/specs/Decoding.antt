-- What a decoder answers.
use Rattle.std.specs.Prelude.{◌≡◌, ◌≤◌, ℕ, List, Some, None, length}
use Rattle.std.specs.List.{All}
use Rattle.byte_fields.specs.Spelling.{IsBytes}
use Rattle.filter_api.specs.Spellings.{IsNoSpelling}
use Rattle.filter_api.specs.declared.errors.DecodeError.{DecodeError}
use Rattle.filter_api.specs.declared.errors.DecodeError.TheVariants.{Fault, Memory}
use Rattle.filter_api.specs.declared.errors.FilterFault.{FilterFault}
use Rattle.filter_codec.specs.Judging.{seen}
use Rattle.filter_image_model.specs.Header.{Bytes, section_bits}
use Rattle.filter_image_model.specs.Kinds.{Kind}
use Rattle.filter_image_model.specs.Laws.{IsImageBy, IsNoWholeImage}
use Rattle.filter_image_model.specs.Reading.{fault_by, image_fault, image_head_fault, length_fault, padding_fault, stray_fault, whole_fault}
use Rattle.filter_model.specs.Image.{image}
use Rattle.filter_model.specs.Leaves.{Filter}
use Rattle.filter_model.specs.Nodes.{Node}
use Rattle.filter_trie.specs.Parts.{AreParts, image_by}
use Rattle.suffix_bits.specs.Slots.{SuffixArray}
use Rattle.trie_laws.specs.Halves.{second_half}
use Rattle.trie_laws.specs.Nodes.{IsTrieNode}

-- the bytes are no filter's image, and this is the first rule that they break and the place where they do: one of the bytes,
-- or the one behind the last
pub record IsFirstFault (bytes : Bytes) (f : FilterFault) : Type 0 where
  pub no_image : IsNoSpelling image bytes
  pub first : image_fault bytes ≡ Some (seen f)
  pub place : f.place ≤ length bytes

-- why the bytes are refused: their first fault, or want of memory, which says nothing of them
abbrev pub IsCause : Bytes → DecodeError → Type 0
IsCause bytes Memory = Unit {0}
IsCause bytes (Fault f) = IsFirstFault bytes f

-- the same of whole keys
pub record IsFirstWholeFault (bytes : Bytes) (f : FilterFault) : Type 0 where
  pub no_image : IsNoWholeImage bytes
  pub first : whole_fault bytes ≡ Some (seen f)
  pub place : f.place ≤ length bytes

abbrev pub IsWholeCause : Bytes → DecodeError → Type 0
IsWholeCause bytes Memory = Unit {0}
IsWholeCause bytes (Fault f) = IsFirstWholeFault bytes f

-- and of a kind
pub record IsFirstFaultBy (k : Kind) (bytes : Bytes) (f : FilterFault) : Type 0 where
  pub no_image : (i : Filter) → IsImageBy k i bytes → ⊥
  pub first : fault_by k bytes ≡ Some (seen f)
  pub place : f.place ≤ length bytes

abbrev pub IsCauseBy : Kind → Bytes → DecodeError → Type 0
IsCauseBy k bytes Memory = Unit {0}
IsCauseBy k bytes (Fault f) = IsFirstFaultBy k bytes f

-- numbers, nodes and suffixes are those of a trie
pub record AreOfTrie (height cutoff : ℕ) (dense sparse : List Node) (array : SuffixArray) : Type 0 where
  pub nodes : All IsTrieNode sparse
  pub parts : AreParts (image_by cutoff height dense sparse array) cutoff height dense (second_half dense sparse) array

-- the rules 1 to 7 of a kind are kept
pub record KeepsSections (k : Kind) (bytes : Bytes) : Type 0 where
  pub bytes_are : IsBytes bytes
  pub header : image_head_fault k.hash_bits k.real_bits bytes ≡ None
  pub lengths : length_fault bytes ≡ None
  pub padding : padding_fault 40 (section_bits bytes) bytes ≡ None
  pub strays : stray_fault bytes ≡ None
