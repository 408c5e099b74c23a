-- How long a body's image is at most, and that numbers fit their fields.
use Rattle.std.proofs.Common.{◌≡◌, ◌<◌, ◌≤◌, ◌+◌, ◌*◌, ◌^◌, ℕ, Bool, List, [], ◌∷◌, ◌++◌, length, map, refl, sym, ap, subst, ◌∙◌, arith, length-append}
use Rattle.std.specs.Prelude.{bit_xor}
use Rattle.std.proofs.Math.Nat.{mul-le-mul}
use Rattle.std.proofs.lemmas.List.{length-map, take-append-drop}
use Rattle.std.proofs.lemmas.List.Concat.{flat_map-append}
use Rattle.bit_model.specs.Packed.{packed}
use Rattle.bit_words.proofs.Packing.{length-packed}
use Rattle.byte_fields.specs.Sums.{fnv_after, fnv_of, fnv_step}
use Rattle.filter_model.specs.Image.{dense_children, dense_ends, dense_labels, has_child, has_letter, image, image_head, label_of, sections, sparse_children, sparse_labels, sparse_louds, suffixes}
use Rattle.filter_model.specs.Keys.{IsKeyList}
use Rattle.filter_model.specs.Leaves.{Leaf}
use Rattle.filter_model.specs.Nodes.{Branch, Node, all, trie_of}
use Rattle.filter_model.specs.Trie.{END, height, nodes_to, path}
use Rattle.filter_model.specs.Valid.{IsLeafList}
use Rattle.filter_image_model.proofs.Again.{length-louds, length-rows}
use Rattle.filter_image_model.proofs.ImageWritten.{same_image}
use Rattle.filter_image_model.proofs.OneImage.{dense_of, sparse_of}
use Rattle.filter_image_model.proofs.Paths.{fine_paths, trie_flat}
use Rattle.filter_image_model.proofs.Sizes.{few_letters, few_nodes, low_height, suffixes_counted, total_of}
use Rattle.map_file_model.specs.Maps.{Bytes, max_map_pairs}
use Rattle.whole_keys.specs.Whole.{whole_leaf, whole_leaves}
use Rattle.whole_keys.proofs.Listed.{keys_are_leaf_list}

-- ---- sums fit eight bytes

step_below : (sum byte : ℕ) → fnv_step sum byte < 2 ^ 64
step_below sum byte = let n = bit_xor sum byte * 0x100000001b3 in omega arith

after_below : (bytes : Bytes) (sum : ℕ) → sum < 2 ^ 64 → fnv_after sum bytes < 2 ^ 64
after_below [] sum lt = lt
after_below (b ∷ bytes) sum lt = after_below bytes (fnv_step sum b) (step_below sum b)

pub sum_below : (bytes : Bytes) → fnv_of bytes < 2 ^ 64
sum_below bytes = after_below bytes 0xcbf29ce484222325 (omega arith)

-- ---- the image

-- so many bytes at most, by its nodes, its branches and the bits of its suffixes
sections_fit : (dense sparse : List Node) (bits : List Bool) → length (sections dense sparse bits) ≤ 65 * length dense + 3 * length (all sparse) + length bits + 10
unfolding sections
sections_fit dense sparse bits =
    let a = packed 8 (dense_labels dense) in
    let b = packed 8 (dense_children dense) in
    let c = packed 8 (dense_ends dense) in
    let d = sparse_labels sparse in
    let e = packed 8 (sparse_children sparse) in
    let f = packed 8 (sparse_louds sparse) in
    let g = packed 8 bits in
    let one : length (sections dense sparse bits) ≡ length (a ++ b ++ c ++ d ++ e ++ f) + length g = length-append (a ++ b ++ c ++ d ++ e ++ f) g in
    let two = length-append (a ++ b ++ c ++ d ++ e) f in
    let three = length-append (a ++ b ++ c ++ d) e in
    let four = length-append (a ++ b ++ c) d in
    let five = length-append (a ++ b) c in
    let six = length-append a b in
    let labels = length-packed 8 (dense_labels dense) in
    let label_bits = length-rows has_letter dense in
    let children = length-packed 8 (dense_children dense) in
    let child_bits = length-rows has_child dense in
    let ends = length-packed 8 (dense_ends dense) in
    let end_bits = length-map dense (λ (n : Node). has_letter n END) in
    let sparse_size = length-map (all sparse) (λ (x : Branch). label_of x.0) in
    let sparse_kids = length-packed 8 (sparse_children sparse) in
    let kid_bits = length-map (all sparse) (λ (x : Branch). x.1) in
    let louds = length-packed 8 (sparse_louds sparse) in
    let loud_bits = length-louds sparse in
    let last = length-packed 8 bits in
    omega (arith, one, two, three, four, five, six, labels, label_bits, children, child_bits, ends, end_bits, sparse_size, sparse_kids, kid_bits, louds, loud_bits, last)

head_long : (cutoff height leaves dense sparse labels : ℕ) → length (image_head 0 0 cutoff height leaves dense sparse labels) ≡ 40
head_long cutoff height leaves dense sparse labels = refl

-- nodes and branches: as many as leaves on each level at most
module _ (ls : List Leaf) (v : IsLeafList 0 0 ls) where
  few_of_trie : (length (trie_of ls) ≤ height ls * length ls) × (length (all (trie_of ls)) ≤ height ls * length ls)
  few_of_trie =
      let n = height ls in
      let f = fine_paths 0 0 ls v n (omega arith) in
      let flat_is = trie_flat ls n (omega arith) f in (
        subst (λ (ns : List Node). length ns ≤ n * length ls) (sym flat_is) (few_nodes n (length ls) (map path ls ∷ []) (f, tt) (total_of ls)),
        subst (λ (ns : List Node). length (all ns) ≤ n * length ls) (sym flat_is) (few_letters n (length ls) (map path ls ∷ []) (f, tt) (total_of ls)),
      )

  image_fits : (c : ℕ) → length ls ≤ max_map_pairs → length (image 0 0 c ls) < 2 ^ 64
  image_fits c few =
      let dense = dense_of c ls in
      let sparse = sparse_of c ls in
      let bits = suffixes 0 0 ls in
      let head = image_head 0 0 c (height ls) (length ls) (length dense) (length sparse) (length (all sparse)) in
      let size = ap length (same_image 0 0 c ls) ∙ length-append head (sections dense sparse bits) in
      let most : height ls * length ls ≤ 1024 * 1000000 = mul-le-mul (low_height 0 0 ls v) few in
      let cut = take-append-drop (length (nodes_to ls c)) (trie_of ls) in
      let nodes = sym (ap length cut) ∙ length-append dense sparse in
      let letters = sym (ap (λ (ns : List Node). length (all ns)) cut) ∙ ap length (flat_map-append (λ (x : Node). x) dense sparse) ∙ length-append (all dense) (all sparse) in
      let no_bits : length bits ≡ 0 = suffixes_counted 0 0 ls v ∙ none (length ls) in
      omega (arith, size, head_long c (height ls) (length ls) (length dense) (length sparse) (length (all sparse)), sections_fit dense sparse bits, most, few_of_trie.0, few_of_trie.1, nodes, letters, no_bits)
    where
      none : (n : ℕ) → n * (0 + 0) ≡ 0
      none n = omega arith

pub whole_image_fits : (c : ℕ) (keys : List Bytes) → IsKeyList keys → length keys ≤ max_map_pairs → length (image 0 0 c (whole_leaves keys)) < 2 ^ 64
whole_image_fits c keys h few =
    image_fits (whole_leaves keys) (keys_are_leaf_list keys h) c (omega (arith, few, size))
  where
    size : length (whole_leaves keys) ≡ length keys
    size = length-map keys (whole_leaf keys)
