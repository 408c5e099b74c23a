-- What stands behind the sum of a body is not looked at.
use Rattle.std.proofs.Common.{◌≡◌, ◌<◌, ◌≤◌, ◌+◌, ◌-◌, ◌*◌, ℕ, zero, suc, List, [], ◌∷◌, take, drop, get_or, cond, true, false, refl, ap, ap₂, ◌∙◌, arith}
use Rattle.std.specs.Option.{option_or}
use Rattle.std.specs.Prelude.{◌==◌, slice_index}
use Rattle.std.proofs.lemmas.List.{drop-take, get_or-take, take-take}
use Rattle.byteorder.specs.Endian.{little_from, little_number}
use Rattle.byte_fields.specs.Fields.{numbers_in, total_width}
use Rattle.byte_fields.specs.Sums.{fnv_of}
use Rattle.byte_fields.specs.declared.parts.Row.{Row}
use Rattle.map_model.specs.SortedMap.{Bytes}
use Rattle.filter_api.specs.declared.settings.Settings.{Settings}
use Rattle.manifest_model.specs.Reading.{body_damage, body_format, head_settings, last_zeros_fault, log_area_fault, settings_fault, table_count_in, early_fault, prefix_length_in, kept_sum, later_fault, numbers_fault, of_version, table_row_in, row_of, row_zeros_fault, table_rows_in, seen_sum, sum_damage, version_in, zeros_fault}
use Rattle.manifest_model.specs.Version.{Version, row_widths}

-- ---- numbers

same_from : (w i : ℕ) (xs ys : Bytes) → ((j : ℕ) → j < i + w → get_or xs j 0 ≡ get_or ys j 0) → little_from i w xs ≡ little_from i w ys
same_from zero i xs ys same = refl
same_from (suc w) i xs ys same = ap₂ (λ (a b : ℕ). a + 256 * b) (same i (omega arith)) (same_from w (suc i) xs ys (λ j lt. same j (omega (arith, lt))))

-- so many bytes on, of the first n bytes
rest_of : (n k : ℕ) (bytes : Bytes) → k ≤ n → drop k (take n bytes) ≡ take (n - k) (drop k bytes)
rest_of n k bytes le = ap (λ (m : ℕ). drop k (take m bytes)) (omega (arith, le)) ∙ drop-take k (n - k) bytes

first_number : (w n : ℕ) (bytes : Bytes) → w ≤ n → little_number w (take n bytes) ≡ little_number w bytes
first_number w n bytes le = same_from w 0 (take n bytes) bytes (λ j lt. get_or-take n bytes j 0 (omega (arith, lt, le)))

number_at : (n k w : ℕ) (bytes : Bytes) → k + w ≤ n → little_number w (drop k (take n bytes)) ≡ little_number w (drop k bytes)
number_at n k w bytes le = ap (little_number w) (rest_of n k bytes (omega (arith, le))) ∙ first_number w (n - k) (drop k bytes) (omega (arith, le))

numbers_front : (ws : List ℕ) (n : ℕ) (bytes : Bytes) → total_width ws ≤ n → numbers_in ws (take n bytes) ≡ numbers_in ws bytes
numbers_front [] n bytes le = refl
numbers_front (w ∷ ws) n bytes le =
    ap₂ (λ (x : ℕ) (xs : List ℕ). x ∷ xs) (first_number w n bytes (omega (arith, le)))
    (ap (numbers_in ws) (rest_of n w bytes (omega (arith, le))) ∙ numbers_front ws (n - w) (drop w bytes) (omega (arith, le)))

-- ---- rows

module _ (format : ℕ) (head : Settings) where
  row_front : (n : ℕ) (bytes : Bytes) → 64 ≤ n → table_row_in format head (take n bytes) ≡ table_row_in format head bytes
  unfolding table_row_in
  row_front n bytes le = ap (row_of format head) (numbers_front row_widths n bytes (omega (arith, le)))

  rows_front : (count n : ℕ) (bytes : Bytes) → 64 * count ≤ n → table_rows_in format head count (take n bytes) ≡ table_rows_in format head count bytes
  unfolding table_rows_in
  rows_front zero n bytes le = refl
  rows_front (suc count) n bytes le =
      ap₂ (λ (r : Row) (rs : List Row). r ∷ rs) (row_front n bytes (omega (arith, le)))
      (ap (table_rows_in format head count) (rest_of n 64 bytes (omega (arith, le))) ∙ rows_front count (n - 64) (drop 64 bytes) (omega (arith, le)))

part_front : (n k size : ℕ) (bytes : Bytes) → k + size ≤ n → take size (drop k (take n bytes)) ≡ take size (drop k bytes)
part_front n k size bytes le = ap (take size) (rest_of n k bytes (omega (arith, le))) ∙ take-take size (n - k) (drop k bytes) (omega (arith, le))

last_zeros_front : (format place n : ℕ) (bytes : Bytes) → 64 ≤ n → last_zeros_fault format place (take n bytes) ≡ last_zeros_fault format place bytes
last_zeros_front format place n bytes le = elim (format == 1) as (λ t.
    zeros_fault (place + cond t 56 60) (take (cond t 8 4) (drop (cond t 56 60) (take n bytes))) ≡ zeros_fault (place + cond t 56 60) (take (cond t 8 4) (drop (cond t 56 60) bytes))) [
      | true ↦ ap (zeros_fault (place + 56)) (part_front n 56 8 bytes (omega (arith, le)))
      | false ↦ ap (zeros_fault (place + 60)) (part_front n 60 4 bytes (omega (arith, le)))
    ]

row_zeros_front : (format count place n : ℕ) (bytes : Bytes) → 64 * count ≤ n → row_zeros_fault format count place (take n bytes) ≡ row_zeros_fault format count place bytes
unfolding row_zeros_fault
row_zeros_front format zero place n bytes le = refl
row_zeros_front format (suc count) place n bytes le =
    let a = ap (zeros_fault (place + 1)) (part_front n 1 3 bytes (omega (arith, le))) in
    let b = last_zeros_front format place n bytes (omega (arith, le)) in
    let c = ap (row_zeros_fault format count (place + 64)) (rest_of n 64 bytes (omega (arith, le))) ∙ row_zeros_front format count (place + 64) (n - 64) (drop 64 bytes) (omega (arith, le)) in
    ap₂ option_or a (ap₂ option_or b c)

-- ---- the body

module _ (bytes : Bytes) (n : ℕ) (long : 64 ≤ n) where
  pub count_front : table_count_in (take n bytes) ≡ table_count_in bytes
  count_front = number_at n 6 2 bytes (omega (arith, long))

  format_front : body_format (take n bytes) ≡ body_format bytes
  format_front = number_at n 4 2 bytes (omega (arith, long))

  pub first_front : early_fault (take n bytes) ≡ early_fault bytes
  unfolding early_fault
  first_front =
      let a = first_number 4 n bytes (omega (arith, long)) in
      let b = format_front in
      rw (a, b, count_front) refl

  length_front : prefix_length_in (take n bytes) ≡ prefix_length_in bytes
  unfolding prefix_length_in
  length_front = ap (λ (c : ℕ). 64 + 64 * c) count_front

  byte_front : (k : ℕ) → k < n → slice_index (take n bytes) k ≡ slice_index bytes k
  byte_front k lt = get_or-take n bytes k 0 lt

  numbers_kept : numbers_fault (take n bytes) ≡ numbers_fault bytes
  unfolding numbers_fault
  numbers_kept =
      let a = number_at n 8 8 bytes (omega (arith, long)) in
      let b = number_at n 16 4 bytes (omega (arith, long)) in
      let c = byte_front 20 (omega (arith, long)) in
      let d = byte_front 21 (omega (arith, long)) in
      rw (a, b, c, d) refl

  log_area_front : log_area_fault (take n bytes) ≡ log_area_fault bytes
  unfolding log_area_fault
  log_area_front =
      let a = number_at n 24 4 bytes (omega (arith, long)) in
      let b = number_at n 28 4 bytes (omega (arith, long)) in
      rw (a, b) refl

  settings_front : head_settings (take n bytes) ≡ head_settings bytes
  settings_front =
      let a = byte_front 20 (omega (arith, long)) in
      let b = byte_front 21 (omega (arith, long)) in
      let c = number_at n 22 2 bytes (omega (arith, long)) in
      λ i. record { hash_bits = a i; real_bits = b i; ratio = c i }

module _ (bytes : Bytes) (n : ℕ) (long : prefix_length_in bytes + 8 ≤ n) where
  past_head : 64 + 64 * table_count_in bytes + 8 ≤ n
  unfolding prefix_length_in
  past_head = long

  is_long : 64 ≤ n
  is_long = omega (arith, past_head)

  rows_kept : table_rows_in (body_format (take n bytes)) (head_settings (take n bytes)) (table_count_in (take n bytes)) (drop 64 (take n bytes))
      ≡ table_rows_in (body_format bytes) (head_settings bytes) (table_count_in bytes) (drop 64 bytes)
  rows_kept =
      ap₂ (λ (f : ℕ) (h : Settings). table_rows_in f h (table_count_in (take n bytes)) (drop 64 (take n bytes))) (format_front bytes n is_long) (settings_front bytes n is_long)
      ∙ ap₂ (table_rows_in (body_format bytes) (head_settings bytes)) (count_front bytes n is_long) (rest_of n 64 bytes is_long)
      ∙ rows_front (body_format bytes) (head_settings bytes) (table_count_in bytes) (n - 64) (drop 64 bytes) (omega (arith, past_head))

  version_kept : version_in (take n bytes) ≡ version_in bytes
  unfolding version_in
  version_kept =
      let a = number_at n 8 8 bytes (omega (arith, is_long)) in
      let b = number_at n 16 4 bytes (omega (arith, is_long)) in
      let c = byte_front bytes n is_long 20 (omega (arith, is_long)) in
      let d = byte_front bytes n is_long 21 (omega (arith, is_long)) in
      let e = number_at n 22 2 bytes (omega (arith, is_long)) in
      let f = number_at n 24 4 bytes (omega (arith, is_long)) in
      λ i. record { epoch = a i; pages = b i; hash_bits = c i; real_bits = d i; ratio = e i; log_page = f i; rows = rows_kept i }

  row_zeros_kept : row_zeros_fault (body_format (take n bytes)) (table_count_in (take n bytes)) 64 (drop 64 (take n bytes)) ≡ row_zeros_fault (body_format bytes) (table_count_in bytes) 64 (drop 64 bytes)
  row_zeros_kept =
      ap₂ (λ (f c : ℕ). row_zeros_fault f c 64 (drop 64 (take n bytes))) (format_front bytes n is_long) (count_front bytes n is_long)
      ∙ ap (row_zeros_fault (body_format bytes) (table_count_in bytes) 64) (rest_of n 64 bytes is_long)
      ∙ row_zeros_front (body_format bytes) (table_count_in bytes) 64 (n - 64) (drop 64 bytes) (omega (arith, past_head))

  later_kept : later_fault (take n bytes) ≡ later_fault bytes
  unfolding later_fault
  later_kept =
      let zeros = ap (zeros_fault 32) (part_front n 32 32 bytes (omega (arith, is_long))) in
      let settings = ap (λ (v : Version). settings_fault 64 v.rows) version_kept in
      ap₂ option_or (numbers_kept bytes n is_long)
      (ap₂ option_or settings (ap₂ option_or (log_area_front bytes n is_long) (ap₂ option_or zeros (ap₂ option_or row_zeros_kept (ap of_version version_kept)))))

  kept_kept : kept_sum (take n bytes) ≡ kept_sum bytes
  kept_kept = ap (λ (k : ℕ). little_number 8 (drop k (take n bytes))) (length_front bytes n is_long) ∙ number_at n (prefix_length_in bytes) 8 bytes long

  seen_kept : seen_sum (take n bytes) ≡ seen_sum bytes
  seen_kept = ap (λ (k : ℕ). fnv_of (take k (take n bytes))) (length_front bytes n is_long) ∙ ap fnv_of (take-take (prefix_length_in bytes) n bytes (omega (arith, long)))

  pub damage_front : (slot : ℕ) → body_damage slot (take n bytes) ≡ body_damage slot bytes
  unfolding body_damage sum_damage
  damage_front slot = rw (first_front bytes n is_long, kept_kept, seen_kept, later_kept) refl
