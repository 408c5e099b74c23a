-- What a judged body answers, by its trie.
use Rattle.std.proofs.Common.{◌≡◌, ◌<◌, ◌+◌, ◌^◌, ℕ, List, [], false, length, sym, ap, subst, ◌∙◌, arith}
use Rattle.std.specs.Prelude.{Some, None, count_by, slice_index_or}
use Rattle.std.specs.List.{Contains}
use Rattle.std.proofs.lemmas.List.{length-map}
use Rattle.byte_fields.specs.Spelling.{IsBytes}
use Rattle.byte_fields.proofs.FaultLemmas.{neither}
use Rattle.filter_model.proofs.Counts.{count_by-map}
use Rattle.filter_model.specs.Answers.{is_within, tally}
use Rattle.filter_model.specs.Keys.{IsKeyList}
use Rattle.filter_model.specs.Leaves.{Filter, Leaf}
use Rattle.filter_model.specs.Valid.{IsLeafList}
use Rattle.fst_map.specs.Opened.{IsOpened}
use Rattle.fst_map.specs.Slots.{IsSlotOfKey}
use Rattle.map_file_model.proofs.Slotted.{slotted_size}
use Rattle.map_file_model.proofs.Written.{body_written, values_by_slots}
use Rattle.map_file_model.specs.Laws.{HasValuesBySlots, IsBody, cutoff_read}
use Rattle.map_file_model.specs.Maps.{Bytes, get, keys_of, slotted}
use Rattle.map_file_model.specs.Reading.{body_fault, end_fault, head_fault, map_in, offsets_fault, pair_count_in, short_fault, trie_fault, values_in}
use Rattle.map_model.proofs.Between.{counted}
use Rattle.map_model.specs.Slices.{count, is_before}
use Rattle.map_parts.specs.declared.parts.Parts.{Parts}
use Rattle.whole_keys.proofs.Answered.{whole_tally}
use Rattle.whole_keys.proofs.Listed.{keys_are_leaf_list, stubs_are}
use Rattle.whole_keys.specs.Whole.{runs_past, stubs, whole_leaf, whole_leaves}

pub offsets_kept : (bytes : Bytes) → body_fault bytes ≡ None → offsets_fault bytes ≡ None
unfolding body_fault
offsets_kept bytes e =
    let a = neither (short_fault bytes) _ e in
    let b = neither (head_fault bytes) _ a.1 in
    let c = neither (trie_fault bytes) _ b.1 in
    (neither (offsets_fault bytes) (end_fault bytes) c.1).0

module _ (bytes : Bytes) (parts : Parts) (trie : Filter) (o : IsOpened bytes parts trie) where
  body : IsBody (cutoff_read bytes) (map_in bytes) bytes
  body = body_written bytes o.bytes_are o.no_fault

  law : HasValuesBySlots bytes
  law = values_by_slots bytes o.bytes_are o.no_fault

  abbrev keys : List Bytes
  keys = keys_of (map_in bytes)

  pub key_list : IsKeyList keys
  key_list = body.is_map.keys

  trie_is : trie.leaves ≡ whole_leaves keys
  trie_is = o.of_image.leaves_are ∙ law.leaves_are

  pub its_keys : stubs trie.leaves ≡ keys
  its_keys = ap stubs trie_is ∙ stubs_are keys

  pub leaf_list : IsLeafList 0 0 trie.leaves
  leaf_list = subst (IsLeafList 0 0) (sym trie_is) (keys_are_leaf_list keys key_list)

  pub as_many : length trie.leaves ≡ length (map_in bytes)
  as_many = ap length trie_is ∙ length-map keys (whole_leaf keys) ∙ length-map (map_in bytes) (λ (pair : Bytes × Bytes). pair.0)

  -- ---- a key

  low : (slot : ℕ) (key : Bytes) → IsSlotOfKey (stubs trie.leaves) key slot → slot < pair_count_in bytes
  low slot key at = omega (arith, at.within, ap length its_keys, law.as_many, slotted_size keys key_list)

  pub slot_low : (slot : ℕ) (key : Bytes) → IsSlotOfKey (stubs trie.leaves) key slot → slot < parts.pairs
  slot_low slot key at = omega (arith, low slot key at, ap (λ (p : Parts). p.pairs) o.parts_are)

  pub slot_fits : (slot : ℕ) (key : Bytes) → IsSlotOfKey (stubs trie.leaves) key slot → slot < 2 ^ 32
  slot_fits slot key at = omega (arith, at.within, length-map trie.leaves (λ (l : Leaf). l.stub), leaf_list.few)

  pub got : (slot : ℕ) (key : Bytes) → IsSlotOfKey (stubs trie.leaves) key slot → get (map_in bytes) key ≡ Some (slice_index_or (values_in bytes) slot [])
  got slot key at =
      let spelled : slice_index_or (slotted keys) slot [] ≡ key = ap (λ (ks : List Bytes). slice_index_or (slotted ks) slot []) (sym its_keys) ∙ at.is in
      ap (get (map_in bytes)) (sym spelled) ∙ law.here slot (low slot key at)

  pub not_got : (key : Bytes) → (Contains (stubs trie.leaves) key → ⊥) → get (map_in bytes) key ≡ None
  not_got key none = law.elsewhere key (λ c. none (subst (λ (ks : List Bytes). Contains ks key) (sym its_keys) c))

  -- ---- a range

  pub tallied : (lo hi : Bytes) → IsBytes lo → IsBytes hi → is_before hi lo ≡ false
      → tally trie.real_bits trie.leaves lo hi ≡ count (map_in bytes) lo (Some hi) + count_by (runs_past (stubs trie.leaves) lo) (stubs trie.leaves)
  tallied lo hi v w order =
      let met = whole_tally keys lo hi (record { lo_bytes = v; hi_bytes = w; in_order = order }) key_list in
      let true_is = count_by-map (is_within lo hi) (λ (pair : Bytes × Bytes). pair.0) (map_in bytes) ∙ sym (counted (map_in bytes) lo (Some hi)) in
      (λ i. tally (o.of_image.no_bits i) (trie_is i) lo hi) ∙ met
      ∙ (λ i. true_is i + count_by (runs_past (sym its_keys i) lo) (sym its_keys i))
