-- The body of a map breaks no rule and is read as that map.
use Rattle.std.proofs.Common.{◌≡◌, ◌<◌, ◌≤◌, ℕ, List, [], ◌∷◌, ◌++◌, length, map, refl, sym, ap, subst, ◌∙◌, arith, lit<}
use Rattle.std.specs.Prelude.{zip, None}
use Rattle.std.specs.List.{AllByRecursion, concat}
use Rattle.std.proofs.lemmas.List.{append-nil, length-map}
use Rattle.byteorder.specs.Endian.{little_bytes, little_number}
use Rattle.byte_fields.specs.Spelling.{IsBytes}
use Rattle.byte_fields.specs.Sums.{fnv_of}
use Rattle.byte_fields.proofs.NumberLemmas.{length-little_bytes, number_again}
use Rattle.filter_api.specs.Spellings.{MayBeTrie}
use Rattle.filter_image_model.specs.Header.{cutoff_in, leaf_count_in}
use Rattle.filter_image_model.specs.Laws.{IsWholeImage, whole_list}
use Rattle.filter_image_model.specs.Reading.{image_in, leaves_in, whole_fault}
use Rattle.filter_image_model.proofs.Again.{little-IsBytes}
use Rattle.filter_image_model.proofs.ImageRead.{whole_read_again}
use Rattle.filter_image_model.proofs.OneImage.{read_as}
use Rattle.filter_model.specs.Image.{image}
use Rattle.filter_model.specs.Leaves.{Filter, Leaf}
use Rattle.filter_model.specs.Trie.{height}
use Rattle.filter_model.proofs.Fronts.{IsBytes-append, IsBytes-cons, IsBytes-nil}
use Rattle.map_file_model.specs.Body.{body_head, body_of, front_of, offsets_of, slotted_values, words}
use Rattle.map_file_model.specs.Laws.{BodyIsReadAgain, IsReadAs}
use Rattle.map_file_model.specs.Maps.{Bytes, IsMap, Map, keys_of, paired, slotted, value_bytes, value_of}
use Rattle.map_file_model.specs.Reading.{keys_read, map_in}
use Rattle.map_file_model.proofs.Framed.{AreRight, HasRoom, framed, joined, no_rule_broken, part_is, values_are}
use Rattle.map_file_model.proofs.Pairing.{agree, bytes_paired, length-concat, paired_again, value_is_bytes, value_paired, zip_paired}
use Rattle.map_file_model.proofs.Sizes.{sum_below, whole_image_fits}
use Rattle.map_file_model.proofs.Slotted.{key_is_slotted, keys_once, slotted_size, sums_agree}
use Rattle.whole_keys.specs.Whole.{stubs, whole_leaf, whole_leaves}
use Rattle.whole_keys.proofs.Listed.{keys_are_leaf_list, stubs_are}

-- ---- bytes

words_are_bytes : (ns : List ℕ) → IsBytes (words ns)
words_are_bytes [] = IsBytes-nil
words_are_bytes (n ∷ ns) = IsBytes-append (little_bytes 8 n) (words ns) (little-IsBytes 8 n) (words_are_bytes ns)

joined_are_bytes : (f : Bytes → Bytes) (keys : List Bytes) → ((k : Bytes) → IsBytes (f k)) → IsBytes (concat (map f keys))
joined_are_bytes f [] h = IsBytes-nil
joined_are_bytes f (k ∷ keys) h = IsBytes-append (f k) (concat (map f keys)) (h k) (joined_are_bytes f keys h)

bytes_from : (xs : Bytes) → AllByRecursion (λ (b : ℕ). b < 256) xs → IsBytes xs
bytes_from [] w = IsBytes-nil
bytes_from (x ∷ xs) w = IsBytes-cons x xs w.0 (bytes_from xs w.1)

head_is_bytes : (n size : ℕ) → IsBytes (body_head n size)
head_is_bytes n size =
    let magic = bytes_from (83 ∷ 85 ∷ 82 ∷ 77 ∷ 1 ∷ 0 ∷ 0 ∷ 0 ∷ []) (lit< tt, (lit< tt, (lit< tt, (lit< tt, (lit< tt, (lit< tt, (lit< tt, (lit< tt, tt)))))))) in
    let zeros = bytes_from (0 ∷ 0 ∷ 0 ∷ 0 ∷ []) (lit< tt, (lit< tt, (lit< tt, (lit< tt, tt)))) in
    let front = (83 ∷ 85 ∷ 82 ∷ 77 ∷ 1 ∷ 0 ∷ 0 ∷ 0 ∷ []) ++ little_bytes 4 n in
    IsBytes-append (front ++ (0 ∷ 0 ∷ 0 ∷ 0 ∷ [])) (little_bytes 8 size)
    (IsBytes-append front (0 ∷ 0 ∷ 0 ∷ 0 ∷ []) (IsBytes-append (83 ∷ 85 ∷ 82 ∷ 77 ∷ 1 ∷ 0 ∷ 0 ∷ 0 ∷ []) (little_bytes 4 n) magic (little-IsBytes 4 n)) zeros)
    (little-IsBytes 8 size)

module _ (cutoff : ℕ) (pairs : Map) (is : IsMap pairs) (low : cutoff ≤ height (whole_leaves (keys_of pairs))) where
  abbrev keys : List Bytes
  keys = keys_of pairs

  abbrev leaves : List Leaf
  leaves = whole_leaves (keys_of pairs)

  abbrev img : Bytes
  img = image 0 0 cutoff (whole_leaves (keys_of pairs))

  abbrev values : List Bytes
  values = slotted_values pairs

  abbrev front : Bytes
  front = front_of (length pairs) (image 0 0 cutoff (whole_leaves (keys_of pairs))) (slotted_values pairs)

  abbrev sum : Bytes
  sum = little_bytes 8 (fnv_of (front_of (length pairs) (image 0 0 cutoff (whole_leaves (keys_of pairs))) (slotted_values pairs)))

  -- ---- the image

  may_be : MayBeTrie 0 0 cutoff leaves
  may_be = record { hash_width = omega arith; real_width = omega arith; cutoff_in = low; valid = keys_are_leaf_list keys is.keys }

  spelled : IsWholeImage cutoff leaves img
  spelled = record { may_be = may_be; bytes_are = refl }

  again : (whole_fault img ≡ None) × (image_in img ≡ whole_list cutoff leaves)
  again = whole_read_again cutoff leaves img spelled

  leaves_read : leaves_in img ≡ leaves
  unfolding image_in
  leaves_read = ap (λ (f : Filter). f.leaves) again.1

  cutoff_again : cutoff_in img ≡ cutoff
  unfolding image_in
  cutoff_again = ap (λ (f : Filter). f.cutoff) again.1

  key_count : length keys ≡ length pairs
  key_count = length-map pairs (λ (pair : Bytes × Bytes). pair.0)

  counted : leaf_count_in img ≡ length pairs
  counted = (read_as 0 0 cutoff leaves img may_be refl).1.leaves_are ∙ length-map keys (whole_leaf keys) ∙ key_count

  img_is_bytes : IsBytes img
  img_is_bytes = (read_as 0 0 cutoff leaves img may_be refl).0.bytes_are

  -- ---- the values

  values_long : length (concat values) ≡ value_bytes pairs
  values_long =
      length-concat (value_of pairs) (slotted keys) ∙ sums_agree keys is.keys (λ (k : Bytes). length (value_of pairs k))
      ∙ sym (bytes_paired (value_of pairs) keys) ∙ ap value_bytes (paired_again pairs (keys_once keys is.keys))

  room : HasRoom (length pairs) img values sum
  room = record {
    few = omega (arith, is.few);
    short = whole_image_fits cutoff keys is.keys (omega (arith, key_count, is.few));
    sized = length-map (slotted keys) (value_of pairs) ∙ slotted_size keys is.keys ∙ key_count;
    fit = omega (arith, values_long, is.short);
    sum_long = length-little_bytes 8 (fnv_of front);
  }

  right : AreRight (length pairs) img values sum
  right = record {
    some = omega (arith, key_count, is.keys.some);
    at_most = is.few;
    image_kept = again.0;
    counted = counted;
    sum_is = ap (little_number 8) (sym (append-nil sum)) ∙ number_again 8 (fnv_of front) [] (sum_below front);
  }

  abbrev whole : Bytes
  whole = framed (length pairs) (image 0 0 cutoff (whole_leaves (keys_of pairs))) (slotted_values pairs) (little_bytes 8 (fnv_of (front_of (length pairs) (image 0 0 cutoff (whole_leaves (keys_of pairs))) (slotted_values pairs))))

  body_is : body_of cutoff pairs ≡ whole
  unfolding body_of
  body_is = sym (joined (length pairs) img values sum)

  whole_is_bytes : IsBytes whole
  whole_is_bytes =
      subst IsBytes (sym (joined (length pairs) img values sum))
      (IsBytes-append front sum
      (IsBytes-append (body_head (length pairs) (length img)) (img ++ (words (offsets_of values) ++ concat values)) (head_is_bytes (length pairs) (length img))
      (IsBytes-append img (words (offsets_of values) ++ concat values) img_is_bytes
      (IsBytes-append (words (offsets_of values)) (concat values) (words_are_bytes (offsets_of values))
      (joined_are_bytes (value_of pairs) (slotted keys) (λ k. value_is_bytes pairs k is.values)))))
      (little-IsBytes 8 (fnv_of front)))

  -- ---- what is read

  keys_are : keys_read whole ≡ keys
  unfolding keys_read
  keys_are = ap (λ (l : Bytes). stubs (leaves_in l)) (part_is (length pairs) img values sum room) ∙ ap stubs leaves_read ∙ stubs_are keys

  map_is : map_in whole ≡ pairs
  unfolding map_in
  map_is =
      (λ i. paired (value_of (zip (slotted (keys_are i)) (values_are (length pairs) img values sum room i))) (keys_are i))
      ∙ ap (λ (zs : Map). paired (value_of zs) keys) (zip_paired (value_of pairs) (slotted keys))
      ∙ agree (λ (k : Bytes). (k, value_of (paired (value_of pairs) (slotted keys)) k)) (λ (k : Bytes). (k, value_of pairs k)) keys
      (λ k c i. (k, value_paired (value_of pairs) (slotted keys) k (key_is_slotted keys is.keys k c) i))
      ∙ paired_again pairs (keys_once keys is.keys)

  read_as_map : IsReadAs cutoff pairs whole
  read_as_map = record {
    bytes_are = whole_is_bytes;
    no_fault = no_rule_broken (length pairs) img values sum room right;
    map_is = map_is;
    cutoff_is = ap cutoff_in (part_is (length pairs) img values sum room) ∙ cutoff_again;
  }

pub body_again : BodyIsReadAgain
body_again cutoff pairs bytes body =
    subst (IsReadAs cutoff pairs) (sym (body.bytes_are ∙ body_is cutoff pairs body.is_map body.cutoff_is_low))
    (read_as_map cutoff pairs body.is_map body.cutoff_is_low)
