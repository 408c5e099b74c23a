-- The pairs of a map whose body has 2^31 bytes at most: a reply may have each of them.
use Rattle.std.proofs.Common.{◌≡◌, ◌≤◌, ◌∙◌, ◌++◌, ℕ, [], ◌∷◌, length, sym, ap, arith, length-append}
use Rattle.std.specs.List.{AllByRecursion, concat}
use Rattle.std.proofs.lemmas.List.Elements.{recursion_from_All}
use Rattle.std.proofs.lemmas.List.Sums.{sum_by-cons}
use Rattle.byteorder.specs.Endian.{little_bytes}
use Rattle.byte_fields.specs.Sums.{fnv_of}
use Rattle.filter_model.specs.Image.{image}
use Rattle.filter_model.specs.Keys.{IsKey}
use Rattle.fst_run.specs.Answering.{MayAnswer}
use Rattle.fst_run.proofs.Walking.{listed_rises}
use Rattle.map_file_model.specs.Body.{body_head, body_of, front_of, offsets_of, slotted_values, words}
use Rattle.map_file_model.specs.Laws.{IsBody}
use Rattle.map_file_model.specs.Maps.{Bytes, IsMap, Map, keys_of, slotted, value_bytes, value_of}
use Rattle.map_file_model.proofs.Pairing.{bytes_paired, length-concat, paired_again}
use Rattle.map_file_model.proofs.Slotted.{keys_once, sums_agree}
use Rattle.whole_keys.specs.Whole.{whole_leaves}

values_long : (pairs : Map) → IsMap pairs → length (concat (slotted_values pairs)) ≡ value_bytes pairs
values_long pairs is =
    length-concat (value_of pairs) (slotted (keys_of pairs)) ∙ sums_agree (keys_of pairs) is.keys (λ (k : Bytes). length (value_of pairs k))
    ∙ sym (bytes_paired (value_of pairs) (keys_of pairs)) ∙ ap value_bytes (paired_again pairs (keys_once (keys_of pairs) is.keys))

-- the values are a part of the body
values_within : (cutoff : ℕ) (pairs : Map) → IsMap pairs → value_bytes pairs ≤ length (body_of cutoff pairs)
unfolding body_of
values_within cutoff pairs is =
    let values = slotted_values pairs in
    let img = image 0 0 cutoff (whole_leaves (keys_of pairs)) in
    let head = body_head (length pairs) (length img) in
    let front = front_of (length pairs) img values in
    omega (
      arith,
      values_long pairs is,
      length-append front (little_bytes 8 (fnv_of front)),
      length-append head (img ++ (words (offsets_of values) ++ concat values)),
      length-append img (words (offsets_of values) ++ concat values),
      length-append (words (offsets_of values)) (concat values),
    )

each_short : (pairs : Map) → AllByRecursion IsKey (keys_of pairs) → value_bytes pairs ≤ 2147483648
    → AllByRecursion (λ (pair : Bytes × Bytes). (length pair.0 ≤ 1024) × (length pair.1 ≤ 2147483648)) pairs
each_short [] keys few = tt
each_short (pair ∷ more) keys few =
    let sum = sum_by-cons (λ (pair : Bytes × Bytes). length pair.1) pair more in
    ((keys.0.short, omega (arith, sum, few)), each_short more keys.1 (omega (arith, sum, few)))

pub may_answer : (cutoff : ℕ) (pairs : Map) (bytes : Bytes) → IsBody cutoff pairs bytes → length bytes ≤ 2147483648 → MayAnswer pairs
may_answer cutoff pairs bytes is few = record {
  rises = listed_rises pairs is.is_map.keys.rising;
  short = each_short pairs (recursion_from_All IsKey (keys_of pairs) is.is_map.keys.each)
      (omega (arith, values_within cutoff pairs is.is_map, ap length is.bytes_are, few));
}
