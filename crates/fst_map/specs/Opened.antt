-- Bytes that were judged, and why bytes are refused.
use Rattle.std.specs.Prelude.{◌≡◌, Option, Some, None}
use Rattle.byte_fields.specs.Faults.{Fault}
use Rattle.byte_fields.specs.Spelling.{IsBytes}
use Rattle.filter_image_model.specs.Reading.{leaves_in}
use Rattle.filter_model.specs.Leaves.{Filter}
use Rattle.fst_map.specs.declared.error.FstError.{FstError}
use Rattle.fst_map.specs.declared.error.FstError.TheVariants as error
use Rattle.map_file_model.specs.Laws.{IsNoBody}
use Rattle.map_file_model.specs.Maps.{Bytes}
use Rattle.map_file_model.specs.Reading.{body_fault, image_part, trie_fault}
use Rattle.map_parts.specs.Parts.{HasParts, parts_in, seen}
use Rattle.map_parts.specs.declared.fault.MapFault.{MapFault}
use Rattle.map_parts.specs.declared.parts.Parts.{Parts}

-- a trie of whole keys: that of the leaves of an image
pub record IsOfImage (bytes : Bytes) (trie : Filter) : Type 0 where
  pub leaves_are : trie.leaves ≡ leaves_in (image_part bytes)
  pub no_bits : trie.real_bits ≡ 0

-- and the image breaks no rule
pub record IsTrieOf (bytes : Bytes) (trie : Filter) : Type 0 where
  pub of_image : IsOfImage bytes trie
  pub no_fault : trie_fault bytes ≡ None

-- bytes that break no rule, their parts and their trie
pub record IsOpened (bytes : Bytes) (parts : Parts) (trie : Filter) : Type 0 where
  pub bytes_are : IsBytes bytes
  pub has : HasParts bytes
  pub parts_are : parts ≡ parts_in bytes
  pub of_image : IsOfImage bytes trie
  pub no_fault : body_fault bytes ≡ None

-- ---- why bytes are refused: a fault, or want of memory, which says nothing of them

-- the fault is the one that some rules find
abbrev pub IsFaultOf : Option Fault → FstError → Type 0
IsFaultOf found error.Memory = Unit {0}
IsFaultOf found (error.Fault f) = found ≡ Some (seen f)

-- the bytes are no body, and this is the first rule that they break, and where
pub record IsFirstFault (bytes : Bytes) (f : MapFault) : Type 0 where
  pub no_body : IsNoBody bytes
  pub first : body_fault bytes ≡ Some (seen f)

abbrev pub IsCause : Bytes → FstError → Type 0
IsCause bytes error.Memory = Unit {0}
IsCause bytes (error.Fault f) = IsFirstFault bytes f
