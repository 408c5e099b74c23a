-- Bytes that break no rule are the body of the map that is read of them.
use Rattle.std.proofs.Common.{◌≡◌, ◌<◌, ◌≤◌, ◌+◌, ◌-◌, ◌*◌, ◌^◌, ℕ, suc, List, [], ◌∷◌, ◌++◌, length, take, drop, get_or, map, slice_range, refl, sym, ap, subst, ◌∙◌, arith}
use Rattle.std.specs.Prelude.{zip, Some}
use Rattle.std.specs.List.{All, AllByRecursion, Contains, concat}
use Rattle.std.proofs.Math.Seq.{take-add}
use Rattle.std.proofs.lemmas.List.{drop-drop, get_or-map, length-drop, length-map, length-take-le, take-append-drop, take_all}
use Rattle.std.proofs.lemmas.List.Elements.{All-map, Contains-get_or}
use Rattle.byteorder.specs.Endian.{little_bytes, little_number}
use Rattle.byte_fields.specs.Spelling.{IsBytes}
use Rattle.byte_fields.specs.Sums.{fnv_of}
use Rattle.byte_fields.proofs.NumberLemmas.{IsBytes-drop, IsBytes-take, number_back, number_below}
use Rattle.filter_image_model.specs.Header.{cutoff_in}
use Rattle.filter_image_model.specs.Kinds.{of_whole_keys}
use Rattle.filter_image_model.specs.Laws.{IsWholeImage}
use Rattle.filter_image_model.specs.Reading.{leaves_in}
use Rattle.filter_image_model.proofs.ImageTrie.{trie_read}
use Rattle.filter_image_model.proofs.Validity.{whole_keys_are_a_kind, whole_was_written_so}
use Rattle.filter_model.specs.Image.{image}
use Rattle.filter_model.specs.Keys.{IsKeyList}
use Rattle.filter_model.specs.Leaves.{Leaf}
use Rattle.filter_model.specs.Trie.{height}
use Rattle.filter_model.specs.Valid.{IsLeafList}
use Rattle.key_base.specs.KeyLists.{AreEnds, keys_in}
use Rattle.map_file_model.specs.Body.{body_head, body_of, ends_from, front_of, offsets_of, slotted_values, summed, words}
use Rattle.map_file_model.specs.Laws.{BodyWasWrittenSo, HasValuesBySlots, IsBody, ValuesStandBySlots}
use Rattle.map_file_model.specs.Maps.{Bytes, IsMap, Map, get, keys_of, paired, slotted, value_bytes, value_of}
use Rattle.map_file_model.specs.Reading.{image_length_in, image_part, keys_read, map_in, offset_at, offsets_in, offsets_place, pair_count_in, sum_place, values_in, values_place, words_in}
use Rattle.map_file_model.proofs.Pairing.{agree, bytes_paired, get_missing, get_paired, keys_paired, length-concat, value_paired, zip_values, zipped_is_bytes}
use Rattle.map_file_model.proofs.Rules.{KeepsRules, rules_kept, wanted}
use Rattle.map_file_model.proofs.Slotted.{slotted_is_key, slotted_once, slotted_size, sums_agree}
use Rattle.map_file_model.proofs.Words.{AreCut, ends_rise, length-pieces, length-words_in, pieces_are_bytes, pieces_back, words_at, words_back}
use Rattle.whole_keys.specs.Laws.{IsWhole}
use Rattle.whole_keys.specs.Whole.{stubs, whole_leaves}
use Rattle.whole_keys.proofs.Listed.{lists_are_whole}

cut : (a b place : ℕ) (bytes : Bytes) → take (a + b) (drop place bytes) ≡ take a (drop place bytes) ++ take b (drop (place + a) bytes)
cut a b place bytes = take-add a b (drop place bytes) ∙ ap (λ (l : Bytes). take a (drop place bytes) ++ take b l) (drop-drop a place bytes)

module _ (bytes : Bytes) (h : IsBytes bytes) (k : KeepsRules bytes) where
  abbrev count : ℕ
  count = pair_count_in bytes

  abbrev part : Bytes
  part = image_part bytes

  abbrev leaves : List Leaf
  leaves = leaves_in (image_part bytes)

  abbrev keys : List Bytes
  keys = stubs (leaves_in (image_part bytes))

  -- ---- the head

  head_is : take 24 bytes ≡ body_head (pair_count_in bytes) (image_length_in bytes)
  head_is =
      let long = k.long in
      let m = wanted 2 0 (83 ∷ 85 ∷ 82 ∷ 77 ∷ 1 ∷ []) bytes k.magic (omega (arith, long)) in
      let z = wanted 3 5 (0 ∷ 0 ∷ 0 ∷ []) bytes k.three_zeros (omega (arith, long)) in
      let y = wanted 3 12 (0 ∷ 0 ∷ 0 ∷ 0 ∷ []) bytes k.four_zeros (omega (arith, long)) in
      let n = number_back 4 (drop 8 bytes) (IsBytes-drop 8 bytes h) (omega (arith, long, length-drop 8 bytes)) in
      let s = number_back 8 (drop 16 bytes) (IsBytes-drop 16 bytes h) (omega (arith, long, length-drop 16 bytes)) in
      cut 5 19 0 bytes
      ∙ ap (λ (t : Bytes). take 5 bytes ++ t)
      (cut 3 16 5 bytes
      ∙ ap (λ (t : Bytes). take 3 (drop 5 bytes) ++ t) (cut 4 12 8 bytes ∙ ap (λ (t : Bytes). take 4 (drop 8 bytes) ++ t) (cut 4 8 12 bytes)))
      ∙ (λ i. m i ++ (z i ++ (sym n i ++ (y i ++ sym s i))))

  -- ---- the image

  part_is_bytes : IsBytes (image_part bytes)
  unfolding image_part
  part_is_bytes = IsBytes-take (image_length_in bytes) (drop 24 bytes) (IsBytes-drop 24 bytes h)

  part_long : length (image_part bytes) ≡ image_length_in bytes
  unfolding image_part
  part_long = length-take-le (image_length_in bytes) (drop 24 bytes) (omega (arith, length-drop 24 bytes, k.values_within))

  image_is : IsWholeImage (cutoff_in part) leaves part
  image_is = (whole_was_written_so part part_is_bytes k.image_kept).1

  listed : IsLeafList 0 0 leaves
  listed = image_is.may_be.valid

  whole : IsWhole leaves
  whole = lists_are_whole leaves listed

  key_count : length keys ≡ count
  key_count = length-map leaves (λ (l : Leaf). l.stub) ∙ (trie_read of_whole_keys part whole_keys_are_a_kind part_is_bytes k.image_kept).count ∙ k.as_many

  -- ---- the offsets

  abbrev start : Bytes
  start = drop (offsets_place bytes) bytes

  abbrev origin : ℕ
  origin = little_number 8 (drop (offsets_place bytes) bytes)

  abbrev ends : List ℕ
  ends = words_in (pair_count_in bytes) (drop 8 (drop (offsets_place bytes) bytes))

  abbrev last : ℕ
  last = offset_at bytes (pair_count_in bytes)

  abbrev area : Bytes
  area = drop (values_place bytes) bytes

  origin_is : origin ≡ 0
  origin_is =
      let there : offsets_place bytes ≡ offsets_place bytes + 8 * 0 = omega arith in ap (λ (p : ℕ). little_number 8 (drop p bytes)) there ∙ k.first

  last_is : get_or (origin ∷ ends) (length ends) 0 ≡ last
  last_is =
      ap (λ (i : ℕ). get_or (origin ∷ ends) i 0) (length-words_in count (drop 8 start)) ∙ words_at (suc count) count start (omega arith)
      ∙ ap (little_number 8) (drop-drop (8 * count) (offsets_place bytes) bytes)

  rising : AreEnds 0 (origin ∷ ends) (get_or (origin ∷ ends) (length ends) 0)
  unfolding offsets_in
  rising = ends_rise (offsets_place bytes) 0 (origin ∷ ends) k.none_falls

  last_within : last ≤ length area
  last_within = omega (arith, length-drop (values_place bytes) bytes, k.ends_there)

  cut_is : AreCut origin last ends area
  cut_is = pieces_back origin last ends area (subst (AreEnds origin ends) last_is rising.1) last_within

  -- ---- the values

  values_are : values_in bytes ≡ keys_in origin ends area
  unfolding values_in offsets_in
  values_are = refl

  joined : concat (values_in bytes) ≡ take last area
  joined =
      let all : last - 0 ≡ last = omega arith in
      ap concat values_are ∙ cut_is.joined ∙ ap (λ (p : ℕ). slice_range area p last) origin_is ∙ ap (λ (m : ℕ). take m area) all

  value_count : length (values_in bytes) ≡ count
  value_count = ap length values_are ∙ length-pieces origin ends area ∙ length-words_in count (drop 8 start)

  offsets_are : offsets_of (values_in bytes) ≡ origin ∷ ends
  offsets_are = (λ i. sym origin_is i ∷ ends_from (sym origin_is i) (values_are i)) ∙ ap (λ (l : List ℕ). origin ∷ l) cut_is.ends_are

  words_are : words (offsets_of (values_in bytes)) ≡ take (8 * (count + 1)) start
  words_are =
      let size : 8 * suc count ≡ 8 * (count + 1) = omega arith in
      ap words offsets_are
      ∙ words_back (suc count) start (IsBytes-drop (offsets_place bytes) bytes h) (omega (arith, length-drop (offsets_place bytes) bytes, k.values_within))
      ∙ ap (λ (m : ℕ). take m start) size

  values_are_bytes : AllByRecursion IsBytes (values_in bytes)
  values_are_bytes = subst (AllByRecursion IsBytes) (sym values_are) (pieces_are_bytes origin ends area (IsBytes-drop (values_place bytes) bytes h))

  -- ---- all before the sum

  front_is : take (sum_place bytes) bytes ≡ front_of count (image_part bytes) (values_in bytes)
  unfolding image_part
  front_is =
      let size = image_length_in bytes in
      let wide = 8 * (count + 1) in
      let place : sum_place bytes ≡ 24 + (size + (wide + last)) = omega arith in
      ap (λ (m : ℕ). take m bytes) place ∙ cut 24 (size + (wide + last)) 0 bytes
      ∙ ap (λ (t : Bytes). take 24 bytes ++ t)
      (cut size (wide + last) 24 bytes ∙ ap (λ (t : Bytes). take size (drop 24 bytes) ++ t) (cut wide last (24 + size) bytes))
      ∙ (λ i. (head_is ∙ ap (body_head count) (sym part_long)) i ++ (image_part bytes ++ (sym words_are i ++ sym joined i)))

  rest_is : drop (sum_place bytes) bytes ≡ little_bytes 8 (fnv_of (take (sum_place bytes) bytes))
  rest_is =
      let rest = drop (sum_place bytes) bytes in
      let long : length rest ≡ 8 = omega (arith, length-drop (sum_place bytes) bytes, k.ends_there) in
      sym (number_back 8 rest (IsBytes-drop (sum_place bytes) bytes h) (omega (arith, long)) ∙ take_all 8 rest (omega (arith, long))) ∙ ap (little_bytes 8) k.sum

  summed_is : bytes ≡ summed (front_of count (image_part bytes) (values_in bytes))
  summed_is = sym (take-append-drop (sum_place bytes) bytes) ∙ ap (λ (l : Bytes). take (sum_place bytes) bytes ++ l) rest_is ∙ ap summed front_is

  -- ---- the map

  abbrev value : Bytes → Bytes
  value = value_of (zip (slotted keys) (values_in bytes))

  map_is : map_in bytes ≡ paired value keys
  unfolding map_in keys_read
  map_is = refl

  keys_are : keys_of (map_in bytes) ≡ keys
  keys_are = ap keys_of map_is ∙ keys_paired value keys

  size_is : length (map_in bytes) ≡ count
  size_is = sym (length-map (map_in bytes) (λ (pair : Bytes × Bytes). pair.0)) ∙ ap length keys_are ∙ key_count

  leaves_are : whole_leaves (keys_of (map_in bytes)) ≡ leaves
  leaves_are = ap whole_leaves keys_are ∙ whole.same

  under_slots : map value (slotted keys) ≡ values_in bytes
  under_slots =
      zip_values (slotted keys) (values_in bytes) (slotted_once keys whole.keys) (slotted_size keys whole.keys ∙ key_count ∙ sym value_count)

  slotted_are : slotted_values (map_in bytes) ≡ values_in bytes
  slotted_are =
      ap slotted_values map_is ∙ ap (λ (ks : List Bytes). map (value_of (paired value keys)) (slotted ks)) (keys_paired value keys)
      ∙ agree (value_of (paired value keys)) value (slotted keys) (λ key c. value_paired value keys key (slotted_is_key keys whole.keys key c))
      ∙ under_slots

  image_of_map : image_part bytes ≡ image 0 0 (cutoff_in (image_part bytes)) (whole_leaves (keys_of (map_in bytes)))
  image_of_map = image_is.bytes_are ∙ ap (image 0 0 (cutoff_in part)) (sym leaves_are)

  body_is : bytes ≡ body_of (cutoff_in (image_part bytes)) (map_in bytes)
  unfolding body_of
  body_is = summed_is ∙ (λ i. summed (front_of (sym size_is i) (image_of_map i) (sym slotted_are i)))

  total : value_bytes (map_in bytes) ≡ length (take last area)
  total =
      ap value_bytes map_is ∙ bytes_paired value keys ∙ sym (sums_agree keys whole.keys (λ (key : Bytes). length (value key)))
      ∙ sym (length-concat value (slotted keys)) ∙ ap (λ (l : List Bytes). length (concat l)) under_slots ∙ ap length joined

  last_fits : last < 2 ^ 64
  last_fits =
      let place = offsets_place bytes + 8 * count in
      number_below 8 (drop place bytes) (IsBytes-drop place bytes h) (omega (arith, length-drop place bytes, k.values_within))

  is_map : IsMap (map_in bytes)
  is_map = record {
    keys = subst IsKeyList (sym keys_are) whole.keys;
    few = omega (arith, size_is, k.few);
    values = subst (All (λ (pair : Bytes × Bytes). IsBytes pair.1)) (sym map_is)
        (All-map (λ (pair : Bytes × Bytes). IsBytes pair.1) (λ (key : Bytes). (key, value key)) keys
        (λ i d l. zipped_is_bytes (slotted keys) (values_in bytes) (get_or keys i d) values_are_bytes));
    short = omega (arith, total, length-take-le last area last_within, last_fits);
  }

  is_body : IsBody (cutoff_in (image_part bytes)) (map_in bytes) bytes
  is_body = record {
    is_map = is_map;
    cutoff_is_low = subst (λ (ls : List Leaf). cutoff_in part ≤ height ls) (sym leaves_are) image_is.may_be.cutoff_in;
    bytes_are = body_is;
  }

  -- ---- a value by its slot

  slots_count : length (slotted keys) ≡ count
  slots_count = slotted_size keys whole.keys ∙ key_count

  value_there : (slot : ℕ) → slot < count → value (get_or (slotted keys) slot []) ≡ get_or (values_in bytes) slot []
  value_there slot lt =
      sym (get_or-map value (slotted keys) slot [] [] (omega (arith, lt, slots_count))) ∙ ap (λ (l : List Bytes). get_or l slot []) under_slots

  here_in : (slot : ℕ) → slot < count → get (map_in bytes) (get_or (slotted keys) slot []) ≡ Some (get_or (values_in bytes) slot [])
  here_in slot lt =
      let key = get_or (slotted keys) slot [] in
      let held = slotted_is_key keys whole.keys key (Contains-get_or (slotted keys) slot [] (omega (arith, lt, slots_count))) in
      ap (λ (m : Map). get m key) map_is ∙ get_paired value keys key held ∙ ap (λ (v : Bytes). Some v) (value_there slot lt)

  by_slots : HasValuesBySlots bytes
  by_slots = record {
    leaves_are = sym leaves_are;
    as_many = ap (λ (ks : List Bytes). length (slotted ks)) keys_are ∙ slots_count;
    here = λ slot lt. ap (λ (ks : List Bytes). get (map_in bytes) (get_or (slotted ks) slot [])) keys_are ∙ here_in slot lt;
    elsewhere = λ key none. ap (λ (m : Map). get m key) map_is ∙ get_missing value keys key (λ c. none (subst (λ (ks : List Bytes). Contains ks key) (sym keys_are) c));
  }

pub body_written : BodyWasWrittenSo
body_written bytes h e = is_body bytes h (rules_kept bytes e)

pub values_by_slots : ValuesStandBySlots
values_by_slots bytes h e = by_slots bytes h (rules_kept bytes e)
