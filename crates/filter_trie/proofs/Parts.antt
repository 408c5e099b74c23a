-- The parts of a leaf list's trie are read as that list.
use Rattle.std.proofs.Common.{◌≡◌, ℕ, ◌+◌, ◌*◌, ◌<◌, Bool, List, ◌++◌, length, map, refl, ap, sym, ◌∙◌}
use Rattle.std.specs.List.{AllByRecursion, range_with_len}
use Rattle.std.proofs.lemmas.List.{take-append-drop}
use Rattle.bit_model.specs.Numbers.{number_at}
use Rattle.filter_image_model.proofs.ImageRead.{trie_read_again}
use Rattle.filter_image_model.proofs.OneImage.{read_as, room}
use Rattle.filter_image_model.proofs.Sizes.{some_height}
use Rattle.filter_image_model.specs.Header.{Bytes}
use Rattle.filter_image_model.specs.Levels.{leaves_behind, levels_from, root_leaves}
use Rattle.filter_image_model.specs.Nodes.{IsDense}
use Rattle.filter_image_model.specs.Reading.{image_in, leaves_in, slot_suffix}
use Rattle.filter_image_model.specs.Sections.{AreReadAgain}
use Rattle.filter_model.specs.Image.{image, suffixes}
use Rattle.filter_model.specs.Leaves.{Filter, Leaf}
use Rattle.filter_model.specs.Nodes.{Node, trie_of}
use Rattle.filter_model.specs.Trie.{height, nodes}
use Rattle.filter_trie.specs.Parts.{AreParts, image_by, leaves_by, lower, upper}
use Rattle.suffix_bits.specs.Slots.{SuffixArray}
use Rattle.trie_laws.proofs.Places.{length-trie_of}
use Rattle.trie_levels.proofs.Totals.{valid_lists_have_tries}
use Rattle.trie_levels.specs.Tries.{HasTrie}
use Rattle.trie_model.specs.Halves.{Half}

-- the leaves of nodes and the bits of suffixes
leaves_from : ℕ → ℕ → ℕ → List Node → List Bool → ℕ → List Leaf
leaves_from hash_bits real_bits levels ns bits count =
    root_leaves (leaves_behind hash_bits (levels_from levels 1 ns) (map (λ slot. number_at bits (slot * (hash_bits + real_bits)) (hash_bits + real_bits)) (range_with_len 0 count)))

read_so : (h r c levels count : ℕ) (ds ss : List Node) (bits : List Bool) (bytes : Bytes) → AreReadAgain h r c levels count ds ss bits bytes → leaves_in bytes ≡ leaves_from h r levels (ds ++ ss) bits count
unfolding leaves_in slot_suffix leaves_from
read_so h r c levels count ds ss bits bytes a =
    λ j. root_leaves (leaves_behind (a.hash_is j) (levels_from (a.height_is j) 1 (a.dense_are j ++ a.sparse_are j))
    (map (λ slot. number_at (a.suffixes_are j) (slot * (a.hash_is j + a.real_is j)) (a.hash_is j + a.real_is j)) (range_with_len 0 (a.leaves_are j))))

module _ {i : Filter} {cutoff levels : ℕ} {dense : List Node} {sparse : Half} {array : SuffixArray} (p : AreParts i cutoff levels dense sparse array) where
  read_back : leaves_from i.hash_bits i.real_bits (height i.leaves) (upper i.cutoff i.leaves ++ lower i.cutoff i.leaves) (suffixes i.hash_bits i.real_bits i.leaves) (length i.leaves) ≡ i.leaves
  unfolding image_in
  read_back =
      let bytes = image i.hash_bits i.real_bits i.cutoff i.leaves in
      sym (read_so i.hash_bits i.real_bits i.cutoff (height i.leaves) (length i.leaves) (upper i.cutoff i.leaves) (lower i.cutoff i.leaves) (suffixes i.hash_bits i.real_bits i.leaves) bytes (read_as i.hash_bits i.real_bits i.cutoff i.leaves bytes p.may_stand refl).1)
      ∙ ap (λ (x : Filter). x.leaves) (trie_read_again i bytes p.may_stand refl)

  leaves_are : leaves_by levels (dense ++ sparse.nodes) array ≡ i.leaves
  unfolding leaves_by leaves_from
  leaves_are =
      (λ j. root_leaves (leaves_behind (p.hash_bits_are j) (levels_from (p.levels_are j) 1 (p.dense_is j ++ ap (λ (h : Half). h.nodes) p.sparse_is j))
      (map (λ slot. number_at (p.suffixes_are j) (slot * (p.hash_bits_are j + p.real_bits_are j)) (p.hash_bits_are j + p.real_bits_are j)) (range_with_len 0 (p.count_is j)))))
      ∙ read_back

  -- **the parts stand for the list that they are of**
  pub stands_for : image_by cutoff levels dense sparse.nodes array ≡ i
  unfolding image_by
  stands_for = λ j. record { hash_bits = p.hash_bits_are j; real_bits = p.real_bits_are j; cutoff = p.cutoff_is j; leaves = leaves_are j }

-- ---- what the parts say of the trie

pub joined : (i : Filter) → upper i.cutoff i.leaves ++ lower i.cutoff i.leaves ≡ trie_of i.leaves
joined i = take-append-drop _ (trie_of i.leaves)

module _ {i : Filter} {cutoff levels : ℕ} {dense : List Node} {sparse : Half} {array : SuffixArray} (p : AreParts i cutoff levels dense sparse array) where
  pub has_trie : HasTrie i.leaves
  has_trie = valid_lists_have_tries i.hash_bits i.real_bits i.leaves p.may_stand.valid

  pub tall : 0 < height i.leaves
  tall = some_height i.hash_bits i.real_bits i.leaves p.may_stand.valid

  pub dense_nodes : AllByRecursion IsDense (upper i.cutoff i.leaves)
  dense_nodes = (room i.hash_bits i.real_bits i.cutoff i.leaves p.may_stand).dense_nodes

pub length-nodes : (i : Filter) → length (upper i.cutoff i.leaves ++ lower i.cutoff i.leaves) ≡ length (nodes i.leaves)
length-nodes i = ap length (joined i) ∙ length-trie_of i.leaves
