-- What bytes keep that break no rule.
use Rattle.std.proofs.Common.{◌≡◌, ◌<◌, ◌≤◌, ◌+◌, ◌==◌, ℕ, zero, suc, false, List, [], ◌∷◌, length, take, drop, refl, ap, ◌∙◌, arith}
use Rattle.std.specs.Prelude.{nat_lt, not, ◌||◌, slice_index, Option, Some, None}
use Rattle.std.specs.Option.{option_map}
use Rattle.std.proofs.lemmas.Bool.{eqb-true, ltb-false, or_parts}
use Rattle.byteorder.specs.Endian.{little_number}
use Rattle.byte_fields.specs.Faults.{Fault}
use Rattle.byte_fields.specs.Sums.{fnv_of}
use Rattle.byte_fields.proofs.FaultLemmas.{kept, neither, not_false}
use Rattle.filter_image_model.specs.Header.{leaf_count_in}
use Rattle.filter_image_model.specs.Reading.{bytes_fault, whole_fault}
use Rattle.map_file_model.specs.Maps.{Bytes, max_map_pairs}
use Rattle.map_file_model.specs.Reading.{body_end, body_fault, end_fault, falls, fault_behind, head_fault, image_part, offset_at, offsets_fault, offsets_in, offsets_place, pair_count_in, short_fault, sum_place, trie_fault, values_place}

pub record KeepsRules (bytes : Bytes) : Type 0 where
  pub long : 24 ≤ length bytes
  pub values_within : values_place bytes ≤ length bytes
  pub ends_there : body_end bytes ≡ length bytes
  pub magic : bytes_fault 2 0 (83 ∷ 85 ∷ 82 ∷ 77 ∷ 1 ∷ []) bytes ≡ None
  pub three_zeros : bytes_fault 3 5 (0 ∷ 0 ∷ 0 ∷ []) bytes ≡ None
  pub four_zeros : bytes_fault 3 12 (0 ∷ 0 ∷ 0 ∷ 0 ∷ []) bytes ≡ None
  pub some : 0 < pair_count_in bytes
  pub few : pair_count_in bytes ≤ max_map_pairs
  pub image_kept : whole_fault (image_part bytes) ≡ None
  pub as_many : leaf_count_in (image_part bytes) ≡ pair_count_in bytes
  pub first : offset_at bytes 0 ≡ 0
  pub none_falls : falls (offsets_place bytes) 0 (offsets_in bytes) ≡ None
  pub sum : little_number 8 (drop (sum_place bytes) bytes) ≡ fnv_of (take (sum_place bytes) bytes)

pub unmapped : (f : Fault → Fault) (o : Option Fault) → option_map f o ≡ None → o ≡ None
unmapped f None e = refl
unmapped f (Some x) e = absurd cc

positive : (n : ℕ) → (n == 0) ≡ false → 0 < n
positive zero e = absurd cc
positive (suc n) e = omega arith

pub rules_kept : (bytes : Bytes) → body_fault bytes ≡ None → KeepsRules bytes
unfolding body_fault short_fault head_fault trie_fault offsets_fault end_fault
rules_kept bytes e =
    let a = neither (short_fault bytes) _ e in
    let b = neither (head_fault bytes) _ a.1 in
    let c = neither (trie_fault bytes) _ b.1 in
    let d = neither (offsets_fault bytes) (end_fault bytes) c.1 in
    let s1 = kept (nat_lt (length bytes) 24) _ _ _ a.0 in
    let s2 = kept (nat_lt (length bytes) (values_place bytes)) _ _ _ s1.1 in
    let s3 = kept (nat_lt (length bytes) (body_end bytes)) _ _ _ s2.1 in
    let h1 = neither (bytes_fault 2 0 (83 ∷ 85 ∷ 82 ∷ 77 ∷ 1 ∷ []) bytes) _ b.0 in
    let h2 = neither (bytes_fault 3 5 (0 ∷ 0 ∷ 0 ∷ []) bytes) _ h1.1 in
    let h3 = neither (bytes_fault 3 12 (0 ∷ 0 ∷ 0 ∷ 0 ∷ []) bytes) _ h2.1 in
    let h4 = kept ((pair_count_in bytes == 0) || nat_lt max_map_pairs (pair_count_in bytes)) _ _ _ h3.1 in
    let counted = or_parts (pair_count_in bytes == 0) (nat_lt max_map_pairs (pair_count_in bytes)) h4.0 in
    let t1 = neither (option_map (fault_behind 24 5) (whole_fault (image_part bytes))) _ c.0 in
    let t2 = kept (not (leaf_count_in (image_part bytes) == pair_count_in bytes)) _ _ _ t1.1 in
    let o1 = kept (not (offset_at bytes 0 == 0)) _ _ _ d.0 in
    let e1 = kept (nat_lt (body_end bytes) (length bytes)) _ _ _ d.1 in
    let e2 = kept (not (little_number 8 (drop (sum_place bytes) bytes) == fnv_of (take (sum_place bytes) bytes))) _ _ _ e1.1 in
    record {
      long = ltb-false (length bytes) 24 s1.0;
      values_within = ltb-false (length bytes) (values_place bytes) s2.0;
      ends_there = same (body_end bytes) (length bytes) (ltb-false (length bytes) (body_end bytes) s3.0) (ltb-false (body_end bytes) (length bytes) e1.0);
      magic = h1.0;
      three_zeros = h2.0;
      four_zeros = h3.0;
      some = positive (pair_count_in bytes) counted.0;
      few = ltb-false max_map_pairs (pair_count_in bytes) counted.1;
      image_kept = unmapped (fault_behind 24 5) (whole_fault (image_part bytes)) t1.0;
      as_many = eqb-true (leaf_count_in (image_part bytes)) (pair_count_in bytes) (not_false _ t2.0);
      first = eqb-true (offset_at bytes 0) 0 (not_false _ o1.0);
      none_falls = o1.1;
      sum = eqb-true (little_number 8 (drop (sum_place bytes) bytes)) (fnv_of (take (sum_place bytes) bytes)) (not_false _ e2.0);
    }
  where
    same : (m n : ℕ) → m ≤ n → n ≤ m → m ≡ n
    same m n a b = omega (arith, a, b)

-- ---- bytes that are as they must be

drop_first : (place : ℕ) (bytes : Bytes) → place < length bytes → drop place bytes ≡ slice_index bytes place ∷ drop (suc place) bytes
drop_first place [] lt = absurd (omega (arith, lt))
drop_first zero (b ∷ bytes) lt = refl
drop_first (suc place) (b ∷ bytes) lt = drop_first place bytes (omega (arith, lt))

pub wanted : (rule place : ℕ) (want : List ℕ) (bytes : Bytes) → bytes_fault rule place want bytes ≡ None → place + length want ≤ length bytes
    → take (length want) (drop place bytes) ≡ want
wanted rule place [] bytes e le = refl
wanted rule place (w ∷ more) bytes e le =
    let parts = kept (not (slice_index bytes place == w)) _ _ _ e in
    let here = eqb-true (slice_index bytes place) w (not_false _ parts.0) in
    ap (take (suc (length more))) (drop_first place bytes (omega (arith, le)))
    ∙ (λ i. here i ∷ wanted rule (suc place) more bytes parts.1 (omega (arith, le)) i)
