-- Bytes that break no rule are the image of what is read.
use Rattle.std.proofs.Common.{add-one, ◌≡◌, ℕ, zero, suc, ◌+◌, ◌*◌, Bool, List, ◌++◌, length, take, drop, map, refl, sym, ap, ◌∙◌, arith}
use Rattle.std.specs.Prelude.{filter, flat_map}
use Rattle.std.specs.List.{range_with_len}
use Rattle.std.specs.Simd.Lanes.{mask_l}
use Rattle.std.proofs.lemmas.List.{drop-drop, length-drop, length-take-le, take-append-drop, take_at, drop_at, drop_all}
use Rattle.std.proofs.lemmas.List.FromFn.{length-map-range_with_len}
use Rattle.bit_model.specs.Numbers.{bits_of}
use Rattle.bit_words.proofs.Numbers.{bits_back}
use Rattle.bit_words.proofs.Packing.{length-unpacked}
use Rattle.filter_model.specs.Image.{image, in_slots, suffixes}
use Rattle.filter_model.specs.Leaves.{Leaf}
use Rattle.filter_model.specs.Nodes.{trie_of}
use Rattle.filter_model.specs.Strings.{bytes_eq}
use Rattle.filter_model.specs.Suffixes.{Suffix, leaf_suffix, packed_suffixes, suffix_number}
use Rattle.filter_model.specs.Trie.{height, nodes_to, path, slots}
use Rattle.filter_image_model.specs.Header.{Bytes, hash_bits_in, real_bits_in, cutoff_in, height_in, leaf_count_in, suffix_bits_in, section, section_bits}
use Rattle.filter_image_model.specs.Levels.{leaves_behind, leaf_count_of, levels_from}
use Rattle.filter_image_model.specs.Nodes.{dense_in, sparse_in}
use Rattle.filter_image_model.specs.Reading.{leaves_in, slot_suffix}
use Rattle.filter_image_model.specs.Laws.{BytesAreTheImage}
use Rattle.filter_image_model.specs.Sections.{nodes_image}
use Rattle.filter_image_model.proofs.GroupWords.{gather}
use Rattle.filter_image_model.proofs.ImageTrie.{KeepsRules, counts_kept, good_nodes, one_group, one_root, read_trie, rules_kept}
use Rattle.filter_image_model.proofs.LevelsRead.{flat, behind_paths, levelled}
use Rattle.filter_image_model.proofs.Link.{filter-map, flat_map-map, flat_map_agree, map-map, map_of-flat_map}
use Rattle.filter_image_model.proofs.SlotOrder.{all_numbers}
use Rattle.filter_image_model.proofs.Slots.{Entry, entries, entry, number, picks}
use Rattle.filter_image_model.proofs.TrieRead.{length-levels}
use Rattle.filter_image_model.proofs.Written.{sections_written}

-- ---- the bits of the suffixes

picks_are : (h : ℕ) (ls : List Leaf) (q : List ℕ) → map (number h) (filter (λ l. bytes_eq (path l) q) ls) ≡ picks q (entries h ls)
picks_are h ls q =
    sym (ap (map (λ (e : Entry). e.1)) (filter-map (λ (e : Entry). bytes_eq e.0 q) (entry h) ls)
    ∙ map-map (λ (e : Entry). e.1) (entry h) (filter (λ l. bytes_eq (path l) q) ls))

pub suffixes_by_number : (h r : ℕ) (ls : List Leaf) → suffixes h r ls ≡ flat_map (bits_of (h + r)) (flat_map (λ (q : List ℕ). picks q (entries h ls)) (slots ls))
unfolding in_slots packed_suffixes
suffixes_by_number h r ls =
    let ofs : List ℕ → List Leaf = λ q. filter (λ l. bytes_eq (path l) q) ls in
    flat_map-map (λ (s : Suffix). bits_of (h + r) (suffix_number h s)) leaf_suffix (flat_map ofs (slots ls))
    ∙ sym (flat_map-map (bits_of (h + r)) (number h) (flat_map ofs (slots ls)))
    ∙ ap (flat_map (bits_of (h + r))) (map_of-flat_map (number h) ofs (slots ls) ∙ flat_map_agree (λ q. map (number h) (ofs q)) (λ q. picks q (entries h ls)) (picks_are h ls) (slots ls))

-- numbers of so many bits each, cut from a list of bits, spell it
pub bits_cut : (w n a : ℕ) (xs : List Bool) → length xs ≡ (a + n) * w
    → flat_map (bits_of w) (map (λ i. mask_l (take w (drop (i * w) xs))) (range_with_len a n)) ≡ drop (a * w) xs
bits_cut w zero a xs e = sym (drop_all (a * w) xs (omega (arith, e, ap (λ k. k * w) (plus_zero a))))
  where
    plus_zero : (a : ℕ) → a + 0 ≡ a
    plus_zero a = omega arith
bits_cut w (suc n) a xs e =
    let part = take w (drop (a * w) xs) in
    let whole : (a + suc n) * w ≡ a * w + w + n * w = times a n w in
    let size : length part ≡ w = length-take-le w (drop (a * w) xs) (omega (arith, length-drop (a * w) xs, e, whole)) in
    let next : a * w + w ≡ suc a * w = times_suc a w in
    let moved : a + suc n ≡ suc a + n = omega arith in
    ap (λ (b : ℕ). bits_of w (mask_l part) ++ flat_map (bits_of w) (map (λ i. mask_l (take w (drop (i * w) xs))) (range_with_len b n))) (add-one a)
    ∙ (λ j. (ap (λ k. bits_of k (mask_l part)) (sym size) ∙ bits_back part) j ++ bits_cut w n (suc a) xs (e ∙ ap (λ k. k * w) moved) j)
    ∙ ap (λ k. part ++ drop k xs) (sym next) ∙ ap (λ (t : List Bool). part ++ t) (sym (drop-drop w (a * w) xs))
    ∙ take-append-drop w (drop (a * w) xs)
  where
    times : (a n w : ℕ) → (a + suc n) * w ≡ a * w + w + n * w
    times a n w = grind arith

    times_suc : (a w : ℕ) → a * w + w ≡ suc a * w
    times_suc a w = grind arith

pub length_6 : (bytes : Bytes) → length (section 6 bytes) ≡ leaf_count_in bytes * suffix_bits_in bytes
unfolding section section_bits
length_6 bytes = length-unpacked 8 _ _

pub section_bits_are : (bytes : Bytes) → flat_map (bits_of (suffix_bits_in bytes)) (map (slot_suffix bytes) (range_with_len 0 (leaf_count_in bytes))) ≡ section 6 bytes
unfolding slot_suffix
section_bits_are bytes =
    bits_cut (suffix_bits_in bytes) (leaf_count_in bytes) 0 (section 6 bytes) (length_6 bytes ∙ ap (λ k. k * suffix_bits_in bytes) (zero_plus (leaf_count_in bytes)))
    ∙ ap (λ k. drop k (section 6 bytes)) (zero_times (suffix_bits_in bytes))
  where
    zero_plus : (n : ℕ) → n ≡ 0 + n
    zero_plus n = omega arith

    zero_times : (w : ℕ) → 0 * w ≡ 0
    zero_times w = omega arith

numbers_are : {alone : Bool} (bytes : Bytes) → KeepsRules alone bytes → flat_map (λ (q : List ℕ). picks q (entries (hash_bits_in bytes) (leaves_in bytes))) (slots (leaves_in bytes))
    ≡ map (slot_suffix bytes) (range_with_len 0 (leaf_count_in bytes))
unfolding leaves_in
numbers_are bytes k =
    let ns = dense_in bytes ++ sparse_in bytes in
    let c = counts_kept bytes k.counts in
    let l = levelled (height_in bytes) 1 ns c.levels (good_nodes bytes k) in
    let levels = levels_from (height_in bytes) 1 ns in
    let ss = map (slot_suffix bytes) (range_with_len 0 (leaf_count_in bytes)) in
    let exact : length ss ≡ leaf_count_of (flat levels) = length-map-range_with_len (slot_suffix bytes) 0 (leaf_count_in bytes) ∙ sym c.leaves ∙ ap leaf_count_of (sym l.joined) in
    let lss = leaves_behind (hash_bits_in bytes) levels ss in
    let paths_are = behind_paths (hash_bits_in bytes) levels ss (omega (arith, exact)) in
    all_numbers (hash_bits_in bytes) (leaves_in bytes) levels ss l.levels (one_group lss (gather levels) paths_are l.first) (one_root lss (gather levels) paths_are l.first) (omega (arith, exact))
    ((read_trie bytes k).height_is ∙ sym (length-levels (height_in bytes) 1 ns)) exact

pub suffixes_are : {alone : Bool} (bytes : Bytes) → KeepsRules alone bytes → suffixes (hash_bits_in bytes) (real_bits_in bytes) (leaves_in bytes) ≡ section 6 bytes
suffixes_are bytes k =
    suffixes_by_number (hash_bits_in bytes) (real_bits_in bytes) (leaves_in bytes)
    ∙ ap (flat_map (bits_of (suffix_bits_in bytes))) (numbers_are bytes k) ∙ section_bits_are bytes

-- ---- the whole

pub same_image : (h r c : ℕ) (ls : List Leaf) → image h r c ls ≡ nodes_image h r c (height ls) (length ls) (take (length (nodes_to ls c)) (trie_of ls)) (drop (length (nodes_to ls c)) (trie_of ls)) (suffixes h r ls)
unfolding image
same_image h r c ls = refl

pub image_is : {alone : Bool} (bytes : Bytes) → KeepsRules alone bytes → bytes ≡ image (hash_bits_in bytes) (real_bits_in bytes) (cutoff_in bytes) (leaves_in bytes)
image_is bytes k =
    let t = read_trie bytes k in
    let ls = leaves_in bytes in
    let n = length (nodes_to ls (cutoff_in bytes)) in
    let dense : take n (trie_of ls) ≡ dense_in bytes = ap (take n) t.trie ∙ take_at (dense_in bytes) (sparse_in bytes) n (sym t.below) in
    let sparse : drop n (trie_of ls) ≡ sparse_in bytes = ap (drop n) t.trie ∙ drop_at (dense_in bytes) (sparse_in bytes) n (sym t.below) in
    sections_written bytes k.bytes_rules
    ∙ (λ j. nodes_image (hash_bits_in bytes) (real_bits_in bytes) (cutoff_in bytes) (sym t.height_is j) (sym t.count j) (sym dense j) (sym sparse j) (sym (suffixes_are bytes k) j))
    ∙ sym (same_image (hash_bits_in bytes) (real_bits_in bytes) (cutoff_in bytes) ls)

pub image_written : BytesAreTheImage
image_written k bytes kind h e = image_is bytes (rules_kept k bytes kind h e)
