-- The suffixes of a valid list by its slots: none has real bits beside END, so its image keeps rule 10.
use Rattle.std.proofs.Common.{◌≡◌, ℕ, suc, ◌+◌, ◌-◌, ◌*◌, ◌/◌, ◌^◌, ◌<◌, Bool, true, false, cond, List, [], ◌∷◌, ◌++◌, length, take, drop, map, refl, sym, ap, ◌∙◌, arith, inl, inr}
use Rattle.std.specs.Prelude.{not, ◌&&◌, ◌==◌, filter, flat_map, None}
use Rattle.std.specs.List.{All, AllByRecursion}
use Rattle.std.specs.Simd.Lanes.{mask_l}
use Rattle.std.proofs.Math.Nat.{mod-eq_of_lt}
use Rattle.std.proofs.lemmas.Bool.{cases_Bool, eqb-true}
use Rattle.std.proofs.lemmas.List.{append-nil, drop-drop, drop_at, take_at}
use Rattle.bit_model.specs.Numbers.{bits_of}
use Rattle.bit_words.proofs.Numbers.{length-bits_of, number_back}
use Rattle.filter_model.specs.Leaves.{Leaf}
use Rattle.filter_model.specs.Nodes.{Branch, Node, last_letter, trie_of}
use Rattle.filter_model.specs.Strings.{bytes_eq}
use Rattle.filter_model.specs.Trie.{END, is_node, path, places, slots}
use Rattle.filter_model.specs.Valid.{IsLeaf, IsLeafList}
use Rattle.filter_model.specs.Image.{in_slots, suffixes}
use Rattle.filter_model.specs.Suffixes.{Suffix, leaf_suffix, packed_suffixes, suffix_number}
use Rattle.trie_laws.proofs.Places.{all-trie_of}
use Rattle.trie_laws.proofs.Slots.{leaves_in_slots}
use Rattle.trie_levels.proofs.Totals.{valid_lists_have_tries}
use Rattle.filter_image_model.proofs.Lists.{all_filter, all_flat, never}
use Rattle.filter_image_model.specs.Header.{Bytes, hash_bits_in, section, section_place, suffix_bits_in}
use Rattle.filter_image_model.specs.Reading.{ends_fault, slot_letters, slot_suffix}
use Rattle.filter_image_model.proofs.Link.{filter-map, flat_map-map, map-map}
use Rattle.byte_fields.proofs.FaultLemmas.{passed}
use Rattle.filter_image_model.proofs.SameLeaves.{high_part, number_fits}
use Rattle.filter_image_model.proofs.Slots.{number}

-- ---- the number of one leaf

pub record HasNumber (h w : ℕ) (l : Leaf) : Type 0 where
  pub fits : number h l < 2 ^ w
  pub none : (last_letter (path l) == END) ≡ true → number h l / 2 ^ h ≡ 0

leaf_number : (h r : ℕ) (l : Leaf) → IsLeaf h r l → HasNumber h (h + r) l
unfolding path
leaf_number h r l v = record { fits = number_fits h r l.hash l.real v.hash_fits v.real_fits; none = go l.ends refl }
  where
    go : (t : Bool) → l.ends ≡ t → (last_letter (l.stub ++ cond l.ends (END ∷ []) []) == END) ≡ true → number h l / 2 ^ h ≡ 0
    go true i e = high_part h l.hash l.real v.hash_fits ∙ v.end_without_real i
    go false i e =
        let bare : l.stub ++ cond l.ends (END ∷ []) [] ≡ l.stub = ap (λ (t : Bool). l.stub ++ cond t (END ∷ []) []) i ∙ append-nil l.stub in
        let last : last_letter l.stub ≡ 256 = eqb-true _ _ (sym (ap (λ (x : List ℕ). last_letter x == END) bare) ∙ e) in
        absurd (omega (arith, last, v.stub.bytes (length l.stub - 1)))

leaf_numbers : (h r : ℕ) (ls : List Leaf) → All (IsLeaf h r) ls → AllByRecursion (HasNumber h (h + r)) ls
leaf_numbers h r [] v = tt
leaf_numbers h r (l ∷ ls) v = (leaf_number h r l (v 0 l (omega arith)), leaf_numbers h r ls (λ k d lt. v (suc k) d (omega (arith, lt))))

-- ---- all leaves, by their slots

pub slots_own : (h r : ℕ) (ls : List Leaf) → IsLeafList h r ls → AllByRecursion (HasNumber h (h + r)) (in_slots ls)
unfolding in_slots
slots_own h r ls v =
    let w = leaf_numbers h r ls v.leaves in
    all_flat (HasNumber h (h + r)) (λ (q : List ℕ). filter (λ l. bytes_eq (path l) q) ls) (slots ls) (λ q. all_filter (HasNumber h (h + r)) (λ l. bytes_eq (path l) q) ls w)

pub slot_letters_are : (h r : ℕ) (ls : List Leaf) → IsLeafList h r ls → slot_letters (trie_of ls) ≡ map (λ l. last_letter (path l)) (in_slots ls)
unfolding slots
slot_letters_are h r ls v =
    let as_branch : List ℕ → Branch = λ q. (last_letter q, is_node ls q) in
    ap (λ (n : Node). map (λ (b : Branch). b.0) (filter (λ (b : Branch). not b.1) n)) (all-trie_of ls)
    ∙ ap (map (λ (b : Branch). b.0)) (filter-map (λ (b : Branch). not b.1) as_branch (places ls))
    ∙ map-map (λ (b : Branch). b.0) as_branch (filter (λ q. not (is_node ls q)) (places ls))
    ∙ ap (map last_letter) (sym (leaves_in_slots ls (valid_lists_have_tries h r ls v)))
    ∙ map-map last_letter path (in_slots ls)

pub suffixes_by_slots : (h r : ℕ) (ls : List Leaf) → suffixes h r ls ≡ flat_map (bits_of (h + r)) (map (number h) (in_slots ls))
unfolding packed_suffixes
suffixes_by_slots h r ls =
    flat_map-map (λ (s : Suffix). bits_of (h + r) (suffix_number h s)) leaf_suffix (in_slots ls) ∙ sym (flat_map-map (bits_of (h + r)) (number h) (in_slots ls))

-- ---- rule 10

-- **where the suffixes from a slot on are the numbers of these leaves, none that ends has real bits**
pub ends_none : (bytes : Bytes) (slot : ℕ) (os : List Leaf) → AllByRecursion (HasNumber (hash_bits_in bytes) (suffix_bits_in bytes)) os
    → drop (slot * suffix_bits_in bytes) (section 6 bytes) ≡ flat_map (bits_of (suffix_bits_in bytes)) (map (number (hash_bits_in bytes)) os)
    → ends_fault bytes slot (map (λ l. last_letter (path l)) os) ≡ None
unfolding ends_fault slot_suffix
ends_none bytes slot [] s d = refl
ends_none bytes slot (l ∷ os) s here =
    let w = suffix_bits_in bytes in
    let h = hash_bits_in bytes in
    let n = number h l in
    let c = last_letter (path l) in
    let bits = section 6 bytes in
    let rest = flat_map (bits_of w) (map (number h) os) in
    let size = length-bits_of w n in
    let is : slot_suffix bytes slot ≡ n = ap (λ (xs : List Bool). mask_l (take w xs)) here ∙ ap mask_l (take_at (bits_of w n) rest w size) ∙ number_back w n ∙ mod-eq_of_lt s.0.fits in
    let next : drop (suc slot * w) bits ≡ rest = ap (λ k. drop k bits) (times slot w) ∙ sym (drop-drop w (slot * w) bits) ∙ ap (drop w) here ∙ drop_at (bits_of w n) rest w size in
    let fine : ((c == END) && not (slot_suffix bytes slot / 2 ^ h == 0)) ≡ false = elim (cases_Bool (c == END)) [
      | inl e ↦ ap (λ k. (c == END) && not (k / 2 ^ h == 0)) is ∙ ap (λ k. (c == END) && not (k == 0)) (s.0.none e) ∙ never (c == END)
      | inr e ↦ ap (λ (t : Bool). t && not (slot_suffix bytes slot / 2 ^ h == 0)) e
    ] in
    passed ((c == END) && not (slot_suffix bytes slot / 2 ^ h == 0)) (section_place 6 bytes + slot * w / 8) 10 (ends_fault bytes (suc slot) (map (λ o. last_letter (path o)) os)) fine
    (ends_none bytes (suc slot) os s.1 next)
  where
    times : (n w : ℕ) → suc n * w ≡ n * w + w
    times n w = grind arith
