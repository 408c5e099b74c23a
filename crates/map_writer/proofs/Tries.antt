-- The trie of whole keys, by its parts.
use Rattle.std.proofs.Common.{◌≡◌, ◌<◌, ◌≤◌, ◌*◌, ℕ, zero, suc, cond, Bool, true, false, List, [], ◌∷◌, length, get_or, map, refl, sym, ap, subst, ◌∙◌, arith}
use Rattle.std.proofs.lemmas.List.{get_or-map, length-map, take_all}
use Rattle.std.proofs.lemmas.List.FromFn.{length-map-range_with_len}
use Rattle.bit_model.specs.Numbers.{bits_of, number_at}
use Rattle.filter_image_model.specs.Laws.{whole_list}
use Rattle.filter_model.specs.Image.{in_slots}
use Rattle.filter_model.specs.Keys.{IsKeyList}
use Rattle.filter_model.specs.Leaves.{Leaf}
use Rattle.filter_model.specs.Nodes.{Node}
use Rattle.filter_model.specs.Suffixes.{Suffix, leaf_suffix, packed_suffixes, suffix_in}
use Rattle.filter_model.specs.Trie.{cutoff_from, cutoff_of, height, level_nodes, may_be_dense}
use Rattle.filter_trie.specs.Parts.{AreParts, lower, upper}
use Rattle.map_file_model.specs.Maps.{Bytes}
use Rattle.map_file_model.proofs.Slotted.{tries}
use Rattle.map_writer.specs.Plans.{IsPlanOf}
use Rattle.map_writer.specs.declared.plan.Plan.{Plan}
use Rattle.map_writer.proofs.Sizes.{may_be_trie}
use Rattle.suffix_bits.specs.Slots.{SuffixArray, array_bits, unpacked_suffixes}
use Rattle.trie_build.specs.Building.{AreCutFrom, IsCutFrom}
use Rattle.trie_build.proofs.Whole.{tall_nodes}
use Rattle.trie_laws.specs.Halves.{second_half}
use Rattle.trie_model.specs.Halves.{Half}
use Rattle.whole_keys.specs.Whole.{whole_leaf, whole_leaves}

-- whole keys are cut from themselves
pub are_cut : (keys : List Bytes) → IsKeyList keys → AreCutFrom keys (whole_leaves keys)
are_cut keys k = record { trie = tries keys k; as_many = length-map keys (whole_leaf keys); each = λ i d within. cut i d (omega (arith, within, length-map keys (whole_leaf keys))) }
  where
    cut : (i : ℕ) (d : Leaf) → i < length keys → IsCutFrom (get_or keys i []) (get_or (whole_leaves keys) i d)
    cut i d within =
        subst (IsCutFrom (get_or keys i [])) (sym (get_or-map (whole_leaf keys) keys i [] d within))
        (record { first = sym (take_all (length (get_or keys i [])) (get_or keys i []) (omega arith)); whole = λ e. refl })

-- the rule has no more levels dense than there are
lower_of : (b : Bool) (m k : ℕ) → k ≤ m → cond b (suc m) k ≤ suc m
lower_of true m k h = omega arith
lower_of false m k h = omega (arith, h)

cutoff_low : (n ratio : ℕ) (nodes labels : List ℕ) → cutoff_from n ratio nodes labels ≤ n
cutoff_low zero ratio nodes labels = omega arith
cutoff_low (suc n) ratio nodes labels = lower_of (may_be_dense ratio nodes labels (suc n)) n (cutoff_from n ratio nodes labels) (cutoff_low n ratio nodes labels)

pub counted_low : (ratio : ℕ) (ls : List Leaf) (nodes labels : List ℕ) → nodes ≡ level_nodes ls → cutoff_of ratio nodes labels ≤ height ls
counted_low ratio ls nodes labels e = omega (arith, cutoff_low (length nodes) ratio nodes labels, tall_nodes ls nodes e)

-- no bits are packed to none
none_packed : (ss : List Suffix) → packed_suffixes 0 0 ss ≡ []
unfolding packed_suffixes bits_of
none_packed [] = refl
none_packed (s ∷ ss) = none_packed ss

counted : (bits : List Bool) (n : ℕ) → length (unpacked_suffixes 0 0 bits n) ≡ n
unfolding unpacked_suffixes
counted bits n = length-map-range_with_len (λ (slot : ℕ). suffix_in 0 (number_at bits (0 * slot) 0)) 0 n

pub are_parts : (keys : List Bytes) (plan : Plan) (levels : ℕ) (dense : List Node) (sparse : Half) (array : SuffixArray) → IsPlanOf keys plan → levels ≡ height (whole_leaves keys)
    → dense ≡ upper plan.cutoff (whole_leaves keys) → sparse ≡ second_half (upper plan.cutoff (whole_leaves keys)) (lower plan.cutoff (whole_leaves keys))
    → array ≡ record { hash_bits = 0; real_bits = 0; slots = unpacked_suffixes 0 0 [] (length keys) } → AreParts (whole_list plan.cutoff (whole_leaves keys)) plan.cutoff levels dense sparse array
are_parts keys plan levels dense sparse array p at d s a = record {
  may_stand = may_be_trie keys plan p;
  cutoff_is = refl;
  levels_are = at;
  dense_is = d;
  sparse_is = s;
  hash_bits_are = ap (λ (x : SuffixArray). x.hash_bits) a;
  real_bits_are = ap (λ (x : SuffixArray). x.real_bits) a;
  count_is = ap (λ (x : SuffixArray). length x.slots) a ∙ counted [] (length keys) ∙ sym (length-map keys (whole_leaf keys));
  suffixes_are = ap array_bits a ∙ none_packed (unpacked_suffixes 0 0 [] (length keys)) ∙ sym (none_packed (map leaf_suffix (in_slots (whole_leaves keys))));
}
