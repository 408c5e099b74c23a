-- What is written is a body: pairs are a map, and the rule has no more levels dense than there are.
use Rattle.std.proofs.Common.{◌≡◌, ◌<◌, ◌≤◌, ◌+◌, ◌*◌, ℕ, suc, List, [], ◌∷◌, length, refl, sym, subst, arith}
use Rattle.std.specs.Prelude.{zip}
use Rattle.std.specs.List.{All}
use Rattle.std.proofs.lemmas.List.Elements.{All-cons}
use Rattle.std.proofs.lemmas.List.Sums.{sum_by-cons}
use Rattle.byte_fields.specs.Spelling.{IsBytes}
use Rattle.filter_model.specs.Keys.{IsKeyList}
use Rattle.filter_model.specs.Trie.{level_labels, level_nodes}
use Rattle.map_file_model.specs.Maps.{Bytes, IsMap, keys_of, value_bytes}
use Rattle.map_writer.specs.Bodies.{ArePairs, IsBodyBy}
use Rattle.map_writer.proofs.Slots.{keys_are, listed, pairs_long}
use Rattle.map_writer.proofs.Tries.{counted_low}
use Rattle.whole_keys.specs.Whole.{whole_leaves}

values_fit : (keys values : List Bytes) → All (λ v. length v ≤ 65536) values → value_bytes (zip keys values) ≤ 65536 * length (zip keys values)
values_fit [] values h = omega arith
values_fit (k ∷ keys) [] h = omega arith
values_fit (k ∷ keys) (v ∷ values) h =
    let one : length v ≤ 65536 = h 0 [] (omega arith) in
    let more : value_bytes (zip keys values) ≤ 65536 * length (zip keys values) = values_fit keys values (λ i d within. h (suc i) d (omega (arith, within))) in
    let all : value_bytes (zip (k ∷ keys) (v ∷ values)) ≡ length v + value_bytes (zip keys values) = sum_by-cons (λ (pair : Bytes × Bytes). length pair.1) (k, v) (zip keys values) in
    omega (arith, one, more, all)

values_are_bytes : (keys values : List Bytes) → All IsBytes values → All (λ (pair : Bytes × Bytes). IsBytes pair.1) (zip keys values)
values_are_bytes [] values h = λ i d within. absurd (omega (arith, within))
values_are_bytes (k ∷ keys) [] h = λ i d within. absurd (omega (arith, within))
values_are_bytes (k ∷ keys) (v ∷ values) h =
    All-cons (λ (pair : Bytes × Bytes). IsBytes pair.1) (k, v) (zip keys values) (h 0 [] (omega arith)) (values_are_bytes keys values (λ i d within. h (suc i) d (omega (arith, within))))

is_map : (keys values : List Bytes) → ArePairs keys values → 0 < length keys → IsMap (zip keys values)
is_map keys values p some =
    let long = pairs_long keys values p.as_many in
    let k = listed keys values p some in
    record {
      keys = subst IsKeyList (sym (keys_are keys values k p)) k;
      few = omega (arith, long, p.few);
      values = values_are_bytes keys values p.bytes;
      short = omega (arith, long, p.few, values_fit keys values p.short);
    }

pub is_body : (ratio : ℕ) (keys values : List Bytes) → ArePairs keys values → 0 < length keys → IsBodyBy ratio (zip keys values)
is_body ratio keys values p some =
    let ls = whole_leaves (keys_of (zip keys values)) in
    record { is_map = is_map keys values p some; cutoff_is_low = counted_low ratio ls (level_nodes ls) (level_labels ls) refl; bytes_are = refl }
