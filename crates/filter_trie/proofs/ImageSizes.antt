-- How long an image is, and that its sections are few bits.
use Rattle.std.proofs.Common.{◌≡◌, ℕ, ◌+◌, ◌*◌, ◌^◌, ◌<◌, ◌≤◌, Bool, List, [], ◌∷◌, ◌++◌, length, map, sym, ap, ◌∙◌, arith, subst}
use Rattle.std.specs.Int.{div_ceil}
use Rattle.std.proofs.Math.Nat.{mul-le-mul}
use Rattle.std.proofs.lemmas.List.{length-append, length-map, take-append-drop}
use Rattle.std.proofs.lemmas.List.Concat.{flat_map-append}
use Rattle.bit_model.specs.Packed.{packed}
use Rattle.bit_words.proofs.Packing.{length-packed}
use Rattle.filter_api.specs.Spellings.{MayBeTrie}
use Rattle.filter_image_model.proofs.Again.{length-louds, length-rows}
use Rattle.filter_image_model.proofs.ImageWritten.{same_image}
use Rattle.filter_image_model.proofs.Paths.{fine_paths, trie_flat}
use Rattle.filter_image_model.proofs.Sizes.{few_letters, few_nodes, low_height, suffixes_counted, total_of}
use Rattle.filter_image_model.specs.Sections.{image_head, sections}
use Rattle.filter_model.specs.Image.{dense_children, dense_ends, dense_labels, has_child, has_letter, image, label_of, sparse_children, sparse_labels, sparse_louds, suffixes}
use Rattle.filter_model.specs.Leaves.{Filter}
use Rattle.filter_model.specs.Nodes.{Branch, Node, all, trie_of}
use Rattle.filter_model.specs.Trie.{END, height, nodes_to, path}
use Rattle.filter_trie.specs.Parts.{lower, upper}

-- how many bits each section has
pub record HasSections (i : Filter) : Type 0 where
  pub labels : length (dense_labels (upper i.cutoff i.leaves)) ≡ 256 * length (upper i.cutoff i.leaves)
  pub dense_children : length (dense_children (upper i.cutoff i.leaves)) ≡ 256 * length (upper i.cutoff i.leaves)
  pub ends : length (dense_ends (upper i.cutoff i.leaves)) ≡ length (upper i.cutoff i.leaves)
  pub children : length (sparse_children (lower i.cutoff i.leaves)) ≡ length (all (lower i.cutoff i.leaves))
  pub louds : length (sparse_louds (lower i.cutoff i.leaves)) ≡ length (all (lower i.cutoff i.leaves))
  pub suffixes : length (suffixes i.hash_bits i.real_bits i.leaves) ≡ length i.leaves * (i.hash_bits + i.real_bits)
  pub few_dense : length (upper i.cutoff i.leaves) ≤ 2 ^ 42
  pub few_labels : length (all (lower i.cutoff i.leaves)) ≤ 2 ^ 42
  pub few_suffixes : length i.leaves * (i.hash_bits + i.real_bits) ≤ 2 ^ 38

pub has_sections : (i : Filter) → MayBeTrie i.hash_bits i.real_bits i.cutoff i.leaves → HasSections i
has_sections i m =
    let h = i.hash_bits in
    let r = i.real_bits in
    let ls = i.leaves in
    let d = upper i.cutoff ls in
    let s = lower i.cutoff ls in
    let n = height ls in
    let t = length ls in
    let f = fine_paths h r ls m.valid n (omega arith) in
    let flat_is = trie_flat ls n (omega arith) f in
    let few_n : length (trie_of ls) ≤ n * t = subst (λ (ns : List Node). length ns ≤ n * t) (sym flat_is) (few_nodes n t (map path ls ∷ []) (f, tt) (total_of ls)) in
    let few_l : length (all (trie_of ls)) ≤ n * t = subst (λ (ns : List Node). length (all ns) ≤ n * t) (sym flat_is) (few_letters n t (map path ls ∷ []) (f, tt) (total_of ls)) in
    let most : n * t ≤ 1024 * 2 ^ 32 = mul-le-mul (low_height h r ls m.valid) (small_le t m.valid.few) in
    let wide : t * (h + r) ≤ 2 ^ 32 * 64 = mul-le-mul (small_le t m.valid.few) (width h r m.hash_width m.real_width) in
    let cut = take-append-drop (length (nodes_to ls i.cutoff)) (trie_of ls) in
    let parts = ap (length {A = Node}) cut in
    let both = length-append d s in
    let letters_parts = ap (λ (ns : List Node). length (all ns)) cut in
    let letters_both = ap (length {A = Branch}) (flat_map-append (λ (x : Node). x) d s) ∙ length-append (all d) (all s) in
    record {
      labels = length-rows has_letter d;
      dense_children = length-rows has_child d;
      ends = length-map d (λ (x : Node). has_letter x END);
      children = length-map (all s) (λ (b : Branch). b.1);
      louds = length-louds s;
      suffixes = suffixes_counted h r ls m.valid;
      few_dense = omega (arith, few_n, most, parts, both);
      few_labels = omega (arith, few_l, most, letters_parts, letters_both);
      few_suffixes = omega (arith, wide);
    }
  where
    small_le : (a : ℕ) → a < 2 ^ 32 → a ≤ 2 ^ 32
    small_le a lt = omega (arith, lt)

    width : (a b : ℕ) → a ≤ 32 → b ≤ 32 → a + b ≤ 64
    width a b ha hb = omega (arith, ha, hb)

-- by their bits the bytes of all sections
total_bytes : (d l w : ℕ)
    → 40 + (div_ceil (256 * d) 8 + (div_ceil (256 * d) 8 + (div_ceil d 8 + (l + (div_ceil l 8 + (div_ceil l 8 + div_ceil w 8))))))
    ≡ 40 + 64 * d + div_ceil d 8 + l + 2 * div_ceil l 8 + div_ceil w 8
total_bytes d l w = omega arith

seven : (a b c : List ℕ) (d e f g : List ℕ) → length (a ++ b ++ c ++ d ++ e ++ f ++ g) ≡ length a + (length b + (length c + (length d + (length e + (length f + length g)))))
seven a b c d e f g =
    omega (arith, length-append a b, length-append (a ++ b) c, length-append (a ++ b ++ c) d, length-append (a ++ b ++ c ++ d) e, length-append (a ++ b ++ c ++ d ++ e) f, length-append (a ++ b ++ c ++ d ++ e ++ f) g)

bytes_of : (bits : List Bool) (n : ℕ) → length bits ≡ n → length (packed 8 bits) ≡ div_ceil n 8
bytes_of bits n e = length-packed 8 bits ∙ ap (λ k. div_ceil k 8) e

sections_long : (i : Filter) → HasSections i → length (sections (upper i.cutoff i.leaves) (lower i.cutoff i.leaves) (suffixes i.hash_bits i.real_bits i.leaves))
    ≡ div_ceil (256 * length (upper i.cutoff i.leaves)) 8 + (div_ceil (256 * length (upper i.cutoff i.leaves)) 8 + (div_ceil (length (upper i.cutoff i.leaves)) 8
    + (length (all (lower i.cutoff i.leaves)) + (div_ceil (length (all (lower i.cutoff i.leaves))) 8 + (div_ceil (length (all (lower i.cutoff i.leaves))) 8 + div_ceil (length i.leaves * (i.hash_bits + i.real_bits)) 8)))))
unfolding sections
sections_long i k =
    let d = upper i.cutoff i.leaves in
    let s = lower i.cutoff i.leaves in
    seven (packed 8 (dense_labels d)) (packed 8 (dense_children d)) (packed 8 (dense_ends d)) (sparse_labels s) (packed 8 (sparse_children s)) (packed 8 (sparse_louds s)) (packed 8 (suffixes i.hash_bits i.real_bits i.leaves))
    ∙ (λ j. bytes_of (dense_labels d) (256 * length d) k.labels j + (bytes_of (dense_children d) (256 * length d) k.dense_children j + (bytes_of (dense_ends d) (length d) k.ends j
    + (length-map (all s) (λ (b : Branch). label_of b.0) j + (bytes_of (sparse_children s) (length (all s)) k.children j + (bytes_of (sparse_louds s) (length (all s)) k.louds j
    + bytes_of (suffixes i.hash_bits i.real_bits i.leaves) (length i.leaves * (i.hash_bits + i.real_bits)) k.suffixes j))))))

-- how many bytes an image has
pub image_long : (i : Filter) → HasSections i → length (image i.hash_bits i.real_bits i.cutoff i.leaves)
    ≡ 40 + 64 * length (upper i.cutoff i.leaves) + div_ceil (length (upper i.cutoff i.leaves)) 8 + length (all (lower i.cutoff i.leaves)) + 2 * div_ceil (length (all (lower i.cutoff i.leaves))) 8
    + div_ceil (length i.leaves * (i.hash_bits + i.real_bits)) 8
image_long i k =
    let d = upper i.cutoff i.leaves in
    let s = lower i.cutoff i.leaves in
    let x = suffixes i.hash_bits i.real_bits i.leaves in
    let head = image_head i.hash_bits i.real_bits i.cutoff (height i.leaves) (length i.leaves) (length d) (length s) (length (all s)) in
    ap (length {A = ℕ}) (same_image i.hash_bits i.real_bits i.cutoff i.leaves)
    ∙ length-append head (sections d s x)
    ∙ ap (λ n. 40 + n) (sections_long i k)
    ∙ total_bytes (length d) (length (all s)) (length i.leaves * (i.hash_bits + i.real_bits))
