-- Laws of places: every image has parts, and what holds of them.
use Rattle.std.proofs.Common.{map, refl, ◌∙◌, arith}
use Rattle.std.proofs.lemmas.List.{length-map}
use Rattle.filter_api.specs.Spellings.{MayBeTrie}
use Rattle.filter_model.specs.Leaves.{Filter}
use Rattle.filter_model.specs.Image.{in_slots}
use Rattle.filter_model.specs.Trie.{height}
use Rattle.filter_trie.proofs.Numbers.{number_within}
use Rattle.filter_trie.proofs.Suffixes.{leaf_count}
use Rattle.filter_trie.specs.Laws.{PlacesAreNumbers, PlacesAreWithin}
use Rattle.filter_trie.specs.Parts.{AreParts, lower, upper}
use Rattle.filter_trie.specs.declared.place.Place.TheVariants as place
use Rattle.suffix_bits.specs.Slots.{SuffixArray, leaf_suffix}
use Rattle.trie_laws.specs.Halves.{second_half}
use Rattle.trie_levels.proofs.Totals.{valid_lists_have_tries}

-- the suffixes of an image's leaves
abbrev pub array_of : Filter → SuffixArray
array_of i = record { hash_bits = i.hash_bits; real_bits = i.real_bits; slots = map leaf_suffix (in_slots i.leaves) }

pub parts_of : (i : Filter) → MayBeTrie i.hash_bits i.real_bits i.cutoff i.leaves
    → AreParts i i.cutoff (height i.leaves) (upper i.cutoff i.leaves) (second_half (upper i.cutoff i.leaves) (lower i.cutoff i.leaves)) (array_of i)
parts_of i m = record {
  may_stand = m;
  cutoff_is = refl;
  levels_are = refl;
  dense_is = refl;
  sparse_is = refl;
  hash_bits_are = refl;
  real_bits_are = refl;
  count_is = length-map (in_slots i.leaves) leaf_suffix ∙ leaf_count i.leaves (valid_lists_have_tries i.hash_bits i.real_bits i.leaves m.valid);
  suffixes_are = refl;
}

pub places_are_within : PlacesAreWithin
places_are_within i (place.Dense p) t = omega (arith, t.0)
places_are_within i (place.Sparse p) t = omega (arith, t)

pub places_are_numbers : PlacesAreNumbers
places_are_numbers i p m t = number_within (parts_of i m) p t
