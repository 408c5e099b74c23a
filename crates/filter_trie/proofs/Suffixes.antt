-- The suffix of a slot is that of its leaf.
use Rattle.std.proofs.Common.{◌≡◌, ℕ, zero, suc, ◌+◌, ◌<◌, List, [], ◌∷◌, ◌++◌, length, get_or, take, drop, map, ap, subst, sym, ◌∙◌, arith, Bool, false, mod-eq_of_lt}
use Rattle.std.specs.Prelude.{filter}
use Rattle.std.specs.List.{AllByRecursion}
use Rattle.std.proofs.lemmas.List.{drop-append-le, drop_all, get_or-map, length-map, take-append-le, take_all}
use Rattle.std.specs.Simd.Lanes.{mask_l}
use Rattle.bit_words.proofs.Numbers.{length-bits_of, number_back}
use Rattle.bit_model.specs.Numbers.{bits_of}
use Rattle.filter_image_model.proofs.Lists.{all_filter, all_flat, all_of, by_recursion}
use Rattle.filter_model.specs.Image.{in_slots}
use Rattle.filter_model.specs.Leaves.{Filter, Leaf}
use Rattle.filter_model.specs.Nodes.{Node}
use Rattle.filter_model.specs.Strings.{bytes_eq}
use Rattle.filter_model.specs.Trie.{path, slots}
use Rattle.filter_model.specs.Valid.{IsLeafList}
use Rattle.filter_trie.proofs.Parts.{has_trie}
use Rattle.filter_trie.specs.Parts.{AreParts}
use Rattle.suffix_bits.proofs.Packing.{suffix_in-number, suffix_number-lt}
use Rattle.suffix_bits.specs.Slots.{IsOfWidths, Suffix, SuffixArray, leaf_suffix, packed_suffixes, suffix_in, suffix_number}
use Rattle.trie_laws.proofs.Slots.{leaves_have_slots}
use Rattle.trie_levels.specs.Tries.{HasTrie}
use Rattle.trie_model.specs.Halves.{Half}

of_widths : (h r : ℕ) (ls : List Leaf) → IsLeafList h r ls → AllByRecursion (λ l. IsOfWidths h r (leaf_suffix l)) (in_slots ls)
unfolding in_slots
of_widths h r ls v =
    let P : Leaf → Type 0 = λ l. IsOfWidths h r (leaf_suffix l) in
    let each = by_recursion P ls (λ k d lt. ((v.leaves k d lt).hash_fits, (v.leaves k d lt).real_fits)) in
    all_flat P (λ (q : List ℕ). filter (λ l. bytes_eq (path l) q) ls) (slots ls) (λ q. all_filter P (λ l. bytes_eq (path l) q) ls each)

front : (w : ℕ) (xs rest : List Bool) → length xs ≡ w → take w (xs ++ rest) ≡ xs
front w xs rest e = take-append-le w xs rest (omega (arith, e)) ∙ take_all w xs (omega (arith, e))

behind : (w : ℕ) (xs rest : List Bool) → length xs ≡ w → drop w (xs ++ rest) ≡ rest
behind w xs rest e = drop-append-le w xs rest (omega (arith, e)) ∙ ap (λ (ys : List Bool). ys ++ rest) (drop_all w xs (omega (arith, e)))

-- suffixes that pack to the same bits have the same bits one by one
same_bits : (h r : ℕ) (xs ys : List Suffix) (k : ℕ) → packed_suffixes h r xs ≡ packed_suffixes h r ys → k < length xs → k < length ys
    → bits_of (h + r) (suffix_number h (get_or xs k (0, 0))) ≡ bits_of (h + r) (suffix_number h (get_or ys k (0, 0)))
unfolding packed_suffixes
same_bits h r [] ys k e l m = absurd (omega (arith, l))
same_bits h r (x ∷ xs) [] k e l m = absurd (omega (arith, m))
same_bits h r (x ∷ xs) (y ∷ ys) zero e l m =
    let w = h + r in
    sym (front w (bits_of w (suffix_number h x)) (packed_suffixes h r xs) (length-bits_of w (suffix_number h x))) ∙ ap (take w) e
    ∙ front w (bits_of w (suffix_number h y)) (packed_suffixes h r ys) (length-bits_of w (suffix_number h y))
same_bits h r (x ∷ xs) (y ∷ ys) (suc k) e l m =
    let w = h + r in
    same_bits h r xs ys k
    (sym (behind w (bits_of w (suffix_number h x)) (packed_suffixes h r xs) (length-bits_of w (suffix_number h x))) ∙ ap (drop w) e
    ∙ behind w (bits_of w (suffix_number h y)) (packed_suffixes h r ys) (length-bits_of w (suffix_number h y)))
    (omega (arith, l)) (omega (arith, m))

same_suffix : (h r : ℕ) (s t : Suffix) → IsOfWidths h r s → IsOfWidths h r t → bits_of (h + r) (suffix_number h s) ≡ bits_of (h + r) (suffix_number h t) → s ≡ t
same_suffix h r s t v u e =
    let w = h + r in
    let number : suffix_number h s ≡ suffix_number h t =
    sym (mod-eq_of_lt (suffix_number-lt h r s v)) ∙ sym (number_back w (suffix_number h s)) ∙ ap mask_l e ∙ number_back w (suffix_number h t) ∙ mod-eq_of_lt (suffix_number-lt h r t u) in
    sym (suffix_in-number h r s v) ∙ ap (suffix_in h) number ∙ suffix_in-number h r t u

pub leaf_count : (ls : List Leaf) → HasTrie ls → length (in_slots ls) ≡ length ls
leaf_count ls t = let h = leaves_have_slots ls t in sym (length-map (in_slots ls) path) ∙ ap length h.leaf_of_slot ∙ h.as_many

module _ {i : Filter} {cutoff levels : ℕ} {dense : List Node} {sparse : Half} {array : SuffixArray} (s : AreParts i cutoff levels dense sparse array) where
  pub suffix_is : (slot : ℕ) (got : Suffix) → slot < length i.leaves → got ≡ get_or array.slots slot (0, 0) → IsOfWidths array.hash_bits array.real_bits got
      → got ≡ get_or (map leaf_suffix (in_slots i.leaves)) slot (0, 0)
  suffix_is slot got l e fits =
      let h = i.hash_bits in
      let r = i.real_bits in
      let ys = map leaf_suffix (in_slots i.leaves) in
      let long : length ys ≡ length i.leaves = length-map (in_slots i.leaves) leaf_suffix ∙ leaf_count i.leaves (has_trie s) in
      let packed : packed_suffixes h r array.slots ≡ packed_suffixes h r ys =
      (λ j. packed_suffixes (sym s.hash_bits_are j) (sym s.real_bits_are j) array.slots) ∙ s.suffixes_are in
      let any : Leaf = record { stub = []; ends = false; hash = 0; real = 0 } in
      let own : get_or ys slot (0, 0) ≡ leaf_suffix (get_or (in_slots i.leaves) slot any) = get_or-map leaf_suffix (in_slots i.leaves) slot any (0, 0) (omega (arith, l, leaf_count i.leaves (has_trie s))) in
      let of : IsOfWidths h r (get_or ys slot (0, 0)) =
      subst (IsOfWidths h r) (sym own) (all_of (λ l. IsOfWidths h r (leaf_suffix l)) (in_slots i.leaves) (of_widths h r i.leaves s.may_stand.valid) slot any (omega (arith, l, leaf_count i.leaves (has_trie s)))) in
      let here : IsOfWidths h r got = subst (λ (x : ℕ). IsOfWidths x r got) s.hash_bits_are (subst (λ (x : ℕ). IsOfWidths array.hash_bits x got) s.real_bits_are fits) in
      same_suffix h r got (get_or ys slot (0, 0)) here of
      (ap (λ (x : Suffix). bits_of (h + r) (suffix_number h x)) e ∙ same_bits h r array.slots ys slot packed (omega (arith, l, s.count_is)) (omega (arith, l, long)))
