-- The rows of an index are read as they were written, and were written as they are read.
use Rattle.std.proofs.Common.{◌≡◌, ◌≤◌, ◌+◌, ℕ, zero, suc, Bool, true, List, [], ◌∷◌, ◌++◌, length, take, drop, refl, sym, ap, ap₂, ◌∙◌, arith, append_assoc, length-append, length-drop}
use Rattle.std.specs.Prelude.{None, map, flat_map}
use Rattle.std.specs.List.{AllByRecursion}
use Rattle.std.proofs.lemmas.Bool.{ltb-false, le-ltb, or_from, or_parts}
use Rattle.std.proofs.lemmas.List.{drop_at, length-take, take_at}
use Rattle.std.proofs.Math.Seq.{take-add}
use Rattle.byteorder.specs.Endian.{little_bytes}
use Rattle.byte_fields.specs.Spelling.{IsBytes}
use Rattle.byte_fields.proofs.NumberLemmas.{IsBytes-drop, number_again, number_back, number_below}
use Rattle.map_model.specs.SortedMap.{Bytes}
use Rattle.block_model.specs.Index.{IndexRow, IsIndexRow, index_row_bytes}
use Rattle.block_model.specs.IndexReading.{last_in, last_length_in, pages_in, row_fault, row_in, row_width_in, rows_fault, rows_in, rows_width_in, sum_in}
use Rattle.block_model.specs.Order.{Follow}
use Rattle.key_base.specs.ByteOrder.{is_before}
use Rattle.block_model.proofs.OldEntriesRead.{eqb_zero, key_length_kept}
use Rattle.block_model.proofs.OldEntriesWritten.{key_length_sound}
use Rattle.entry_model.proofs.Bodies.{joined}
use Rattle.block_model.proofs.LastBlocks.{positive}
use Rattle.block_model.proofs.Lengths.{length-row}
use Rattle.block_model.proofs.Refusals.{kept, neither, none_of, not_false, not_true, passed}

-- ---- what was written of a row is read

pages_again : (row : IndexRow) (rest : Bytes) → IsIndexRow row → pages_in (index_row_bytes row ++ rest) ≡ row.pages
unfolding index_row_bytes
pages_again row rest is =
    number_again 4 row.pages (little_bytes 8 row.sum ++ (little_bytes 2 (length row.last) ++ (row.last ++ rest))) (omega (arith, is.few_pages))

sum_again : (row : IndexRow) (rest : Bytes) → IsIndexRow row → sum_in (index_row_bytes row ++ rest) ≡ row.sum
unfolding index_row_bytes
sum_again row rest is = number_again 8 row.sum (little_bytes 2 (length row.last) ++ (row.last ++ rest)) is.sum

last_length_again : (row : IndexRow) (rest : Bytes) → IsIndexRow row → last_length_in (index_row_bytes row ++ rest) ≡ length row.last
unfolding index_row_bytes
last_length_again row rest is = number_again 2 (length row.last) (row.last ++ rest) (omega (arith, is.short_key))

width_again : (row : IndexRow) (rest : Bytes) → IsIndexRow row → row_width_in (index_row_bytes row ++ rest) ≡ length (index_row_bytes row)
unfolding row_width_in
width_again row rest is = omega (arith, last_length_again row rest is, length-row row)

behind_row : (row : IndexRow) (rest : Bytes) → drop 14 (index_row_bytes row ++ rest) ≡ row.last ++ rest
unfolding index_row_bytes
behind_row row rest = refl

last_again : (row : IndexRow) (rest : Bytes) → IsIndexRow row → last_in (index_row_bytes row ++ rest) ≡ row.last
unfolding last_in
last_again row rest is =
    ap₂ (λ (n : ℕ) (l : Bytes). take n l) (last_length_again row rest is) (behind_row row rest) ∙ take_at row.last rest (length row.last) refl

row_again : (row : IndexRow) (rest : Bytes) → IsIndexRow row → row_in (index_row_bytes row ++ rest) ≡ row
unfolding row_in
row_again row rest is =
    ap₂ (λ (p s : ℕ). record { pages = p; sum = s; last = last_in (index_row_bytes row ++ rest) }) (pages_again row rest is) (sum_again row rest is)
    ∙ ap (λ (l : Bytes). record { pages = row.pages; sum = row.sum; last = l }) (last_again row rest is)

row_kept : (place : ℕ) (test : Bytes → Bool) (row : IndexRow) (rest : Bytes) → IsIndexRow row → test row.last ≡ true → row_fault place test (index_row_bytes row ++ rest) ≡ None
unfolding row_fault
row_kept place test row rest is passes =
    let bytes = index_row_bytes row ++ rest in
    let long = length-append (index_row_bytes row) rest in
    let n = length-row row in
    let k = last_length_again row rest is in
    let p = pages_again row rest is in
    passed _ _ _ _ (or_from _ _ (le-ltb (length bytes) 14 (omega (arith, long, n))) (le-ltb (length bytes) (row_width_in bytes) (omega (arith, long, width_again row rest is))))
    (passed _ _ _ _ (key_length_kept (last_length_in bytes) (omega (arith, k, is.some_key)) (omega (arith, k, is.short_key)))
    (passed _ _ _ _ (not_true (test (last_in bytes)) (ap test (last_again row rest is) ∙ passes))
    (passed _ _ _ _ (or_from _ _ (eqb_zero (pages_in bytes) (omega (arith, p, is.some_pages))) (le-ltb 257 (pages_in bytes) (omega (arith, p, is.few_pages)))) refl)))

past_row : (row : IndexRow) (rest : Bytes) → IsIndexRow row → drop (row_width_in (index_row_bytes row ++ rest)) (index_row_bytes row ++ rest) ≡ rest
past_row row rest is = drop_at (index_row_bytes row) rest (row_width_in (index_row_bytes row ++ rest)) (sym (width_again row rest is))

-- ---- rows, with anything after them

pub rows_kept : (place : ℕ) (test : Bytes → Bool) (rows : List IndexRow) (tail : Bytes) → AllByRecursion IsIndexRow rows → Follow test (map (λ row. row.last) rows)
    → rows_fault (length rows) place test (flat_map index_row_bytes rows ++ tail) ≡ None
unfolding rows_fault
rows_kept place test [] tail is rises = refl
rows_kept place test (row ∷ rows) tail is rises =
    let rest = flat_map index_row_bytes rows ++ tail in
    let b = index_row_bytes row ++ rest in
    let later = rows_kept (place + row_width_in b) (is_before row.last) rows tail is.1 rises.1 in
    ap (rows_fault (length (row ∷ rows)) place test) (append_assoc (index_row_bytes row) (flat_map index_row_bytes rows) tail)
    ∙ none_of _ _ (row_kept place test row rest is.0 rises.0)
    (ap₂ (λ (k : Bytes) (r : Bytes). rows_fault (length rows) (place + row_width_in b) (is_before k) r) (last_again row rest is.0) (past_row row rest is.0) ∙ later)

pub rows_again : (rows : List IndexRow) (tail : Bytes) → AllByRecursion IsIndexRow rows → rows_in (length rows) (flat_map index_row_bytes rows ++ tail) ≡ rows
unfolding rows_in
rows_again [] tail is = refl
rows_again (row ∷ rows) tail is =
    let rest = flat_map index_row_bytes rows ++ tail in
    ap (rows_in (length (row ∷ rows))) (append_assoc (index_row_bytes row) (flat_map index_row_bytes rows) tail)
    ∙ ap₂ (λ (x : IndexRow) (r : Bytes). x ∷ rows_in (length rows) r) (row_again row rest is.0) (past_row row rest is.0)
    ∙ ap (λ (l : List IndexRow). row ∷ l) (rows_again rows tail is.1)

pub rows_width_again : (rows : List IndexRow) (tail : Bytes) → AllByRecursion IsIndexRow rows
    → rows_width_in (length rows) (flat_map index_row_bytes rows ++ tail) ≡ length (flat_map index_row_bytes rows)
unfolding rows_width_in
rows_width_again [] tail is = refl
rows_width_again (row ∷ rows) tail is =
    let rest = flat_map index_row_bytes rows ++ tail in
    ap (rows_width_in (length (row ∷ rows))) (append_assoc (index_row_bytes row) (flat_map index_row_bytes rows) tail)
    ∙ ap₂ (λ (n : ℕ) (r : Bytes). n + rows_width_in (length rows) r) (width_again row rest is.0) (past_row row rest is.0)
    ∙ ap (λ (n : ℕ). length (index_row_bytes row) + n) (rows_width_again rows tail is.1)
    ∙ sym (length-append (index_row_bytes row) (flat_map index_row_bytes rows))

-- ---- what breaks no rule was written so

parts : (n : ℕ) (l : Bytes) → take 4 l ++ (take 8 (drop 4 l) ++ (take 2 (drop 12 l) ++ take n (drop 14 l))) ≡ take (14 + n) l
parts n l =
    let e : 4 + (8 + (2 + n)) ≡ 14 + n = omega arith in
    ap (λ (x : Bytes). take 4 l ++ (take 8 (drop 4 l) ++ x)) (joined 2 n 12 l)
    ∙ ap (λ (x : Bytes). take 4 l ++ x) (joined 8 (2 + n) 4 l)
    ∙ joined 4 (8 + (2 + n)) 0 l
    ∙ ap (λ (m : ℕ). take m l) e

pub record RowWritten (rest : Bytes) (test : Bytes → Bool) : Type 0 where
  pub within : row_width_in rest ≤ length rest
  pub written : index_row_bytes (row_in rest) ≡ take (row_width_in rest) rest
  pub is : IsIndexRow (row_in rest)
  pub passes : test (last_in rest) ≡ true

row_written : (place : ℕ) (test : Bytes → Bool) (rest : Bytes) → IsBytes rest → row_fault place test rest ≡ None → RowWritten rest test
unfolding row_fault row_in row_width_in last_in index_row_bytes
row_written place test rest bytes none =
    let a = kept _ _ _ _ none in
    let b = kept _ _ _ _ a.1 in
    let c = kept _ _ _ _ b.1 in
    let d = kept _ _ _ _ c.1 in
    let n = last_length_in rest in
    let lengths = or_parts _ _ a.0 in
    let head : 14 ≤ length rest = ltb-false _ _ lengths.0 in
    let within : 14 + n ≤ length rest = ltb-false _ _ lengths.1 in
    let keys = key_length_sound n b.0 in
    let counts = or_parts _ _ d.0 in
    let some = positive (pages_in rest) (sym counts.0) in
    let few = ltb-false _ _ counts.1 in
    let last_long : length (take n (drop 14 rest)) ≡ n = omega (arith, length-take n (drop 14 rest), length-drop 14 rest, within) in
    let four = number_back 4 rest bytes (omega (arith, head)) in
    let eight = number_back 8 (drop 4 rest) (IsBytes-drop 4 rest bytes) (omega (arith, head, length-drop 4 rest)) in
    let two = ap (little_bytes 2) last_long ∙ number_back 2 (drop 12 rest) (IsBytes-drop 12 rest bytes) (omega (arith, head, length-drop 12 rest)) in
    let last = take n (drop 14 rest) in
    let written : index_row_bytes (row_in rest) ≡ take (14 + n) rest =
    ap₂ (λ (p q : Bytes). p ++ (q ++ (little_bytes 2 (length last) ++ last))) four eight
    ∙ ap (λ (p : Bytes). take 4 rest ++ (take 8 (drop 4 rest) ++ (p ++ last))) two
    ∙ parts n rest in
    record {
      within = within;
      written = written;
      is = record {
        some_pages = omega (arith, some);
        few_pages = few;
        sum = number_below 8 (drop 4 rest) (IsBytes-drop 4 rest bytes) (omega (arith, head, length-drop 4 rest));
        some_key = omega (arith, last_long, keys.0);
        short_key = omega (arith, last_long, keys.1);
      };
      passes = not_false _ c.0;
    }

pub record RowsWritten (n : ℕ) (rest : Bytes) (test : Bytes → Bool) : Type 0 where
  pub within : rows_width_in n rest ≤ length rest
  pub written : flat_map index_row_bytes (rows_in n rest) ≡ take (rows_width_in n rest) rest
  pub each : AllByRecursion IsIndexRow (rows_in n rest)
  pub follow : Follow test (map (λ row. row.last) (rows_in n rest))
  pub many : length (rows_in n rest) ≡ n

pub rows_written : (n place : ℕ) (test : Bytes → Bool) (rest : Bytes) → IsBytes rest → rows_fault n place test rest ≡ None → RowsWritten n rest test
unfolding rows_fault rows_in row_in rows_width_in
rows_written zero place test rest bytes none = record { within = omega arith; written = refl; each = tt; follow = tt; many = refl }
rows_written (suc n) place test rest bytes none =
    let both = neither _ _ none in
    let one = row_written place test rest bytes both.0 in
    let w = row_width_in rest in
    let later = rows_written n (place + w) (is_before (last_in rest)) (drop w rest) (IsBytes-drop w rest bytes) both.1 in
    record {
      within = omega (arith, one.within, later.within, length-drop w rest);
      written = ap₂ (λ (a b : Bytes). a ++ b) one.written later.written ∙ sym (take-add w (rows_width_in n (drop w rest)) rest);
      each = (one.is, later.each);
      follow = (one.passes, later.follow);
      many = omega (arith, later.many);
    }
