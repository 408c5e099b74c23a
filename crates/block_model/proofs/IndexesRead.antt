-- Indexes are read as they were written, and were written as they are read.
use Rattle.std.proofs.Common.{◌≡◌, ◌<◌, ◌≤◌, ◌+◌, ◌^◌, ℕ, Bool, true, false, cond, List, [], ◌∷◌, ◌++◌, length, take, drop, refl, sym, ap, ap₂, ◌∙◌, arith, append_assoc, length-append, length-drop}
use Rattle.std.specs.Prelude.{None, ◌==◌, ◌||◌, flat_map}
use Rattle.std.proofs.lemmas.Bool.{eqb-true, eq-eqb, ltb-false, le-ltb, or_from, or_parts}
use Rattle.std.proofs.lemmas.List.{drop-drop, drop_at, length-take, take-append-drop, take_at}
use Rattle.byteorder.specs.Endian.{little_bytes, little_number}
use Rattle.byte_fields.specs.Spelling.{IsBytes}
use Rattle.byte_fields.proofs.NumberLemmas.{IsBytes-drop, number_again, number_back, number_below}
use Rattle.map_model.specs.SortedMap.{Bytes}
use Rattle.range_model.specs.Ranges.{DeletedRange}
use Rattle.block_model.specs.Index.{Index, IndexRow, IsIndex, index_bytes, index_head_bytes, index_magic, index_row_bytes, magic_for, ranges_bytes, ranges_magic, row_pages}
use Rattle.block_model.specs.IndexReading.{all_ranges_fault, all_ranges_in, has_ranges_in, head_width_in, index_fault, index_head_fault, index_in, is_magic, least_in, least_length_in, pages_fault, rows_count_in, rows_end_in, rows_fault, rows_in, rows_part, rows_width_in}
use Rattle.block_model.specs.Laws.{IndexIsReadAgain, IndexWasWrittenSo}
use Rattle.block_model.specs.Order.{is_from}
use Rattle.block_model.proofs.OldEntriesRead.{eqb_zero, key_length_kept}
use Rattle.block_model.proofs.OldEntriesWritten.{key_length_sound}
use Rattle.entry_model.proofs.Bodies.{joined}
use Rattle.block_model.proofs.LastBlocks.{positive}
use Rattle.block_model.proofs.Lengths.{length-head}
use Rattle.block_model.proofs.Refusals.{kept, neither, none_of, not_false, not_true, passed}
use Rattle.block_model.proofs.RangesRead.{all_again, all_kept, all_written}
use Rattle.block_model.proofs.RowsRead.{rows_again, rows_kept, rows_width_again, rows_written}

-- ---- the head, with anything behind it

magic_small : (ranges : List DeletedRange) → magic_for ranges < 2 ^ 32
magic_small [] = omega arith
magic_small (range ∷ later) = omega arith

magic_kept : (ranges : List DeletedRange) → is_magic (magic_for ranges) ≡ true
magic_kept [] = refl
magic_kept (range ∷ later) = refl

magic_again : (index : Index) (rest : Bytes) → little_number 4 (index_head_bytes index ++ rest) ≡ magic_for index.ranges
unfolding index_head_bytes
magic_again index rest =
    number_again 4 (magic_for index.ranges) (little_bytes 4 (length index.rows) ++ (little_bytes 2 (length index.least) ++ (index.least ++ rest))) (omega (arith, magic_small index.ranges))

count_again : (index : Index) (rest : Bytes) → length index.rows < 2 ^ 32 → rows_count_in (index_head_bytes index ++ rest) ≡ length index.rows
unfolding index_head_bytes
count_again index rest few = number_again 4 (length index.rows) (little_bytes 2 (length index.least) ++ (index.least ++ rest)) (omega (arith, few))

least_length_again : (index : Index) (rest : Bytes) → length index.least ≤ 1024 → least_length_in (index_head_bytes index ++ rest) ≡ length index.least
unfolding index_head_bytes
least_length_again index rest short = number_again 2 (length index.least) (index.least ++ rest) (omega (arith, short))

behind_head : (index : Index) (rest : Bytes) → drop 10 (index_head_bytes index ++ rest) ≡ index.least ++ rest
unfolding index_head_bytes
behind_head index rest = refl

least_again : (index : Index) (rest : Bytes) → length index.least ≤ 1024 → least_in (index_head_bytes index ++ rest) ≡ index.least
unfolding least_in
least_again index rest short =
    ap₂ (λ (n : ℕ) (l : Bytes). take n l) (least_length_again index rest short) (behind_head index rest) ∙ take_at index.least rest (length index.least) refl

width_again : (index : Index) (rest : Bytes) → length index.least ≤ 1024 → head_width_in (index_head_bytes index ++ rest) ≡ length (index_head_bytes index)
unfolding head_width_in
width_again index rest short = omega (arith, least_length_again index rest short, length-head index)

past_head : (index : Index) (rest : Bytes) → length index.least ≤ 1024 → drop (head_width_in (index_head_bytes index ++ rest)) (index_head_bytes index ++ rest) ≡ rest
past_head index rest short = drop_at (index_head_bytes index) rest (head_width_in (index_head_bytes index ++ rest)) (sym (width_again index rest short))

head_kept : (pages : ℕ) (index : Index) (rest : Bytes) → IsIndex pages index → index_head_fault (index_head_bytes index ++ rest) ≡ None
unfolding index_head_fault
head_kept pages index rest is =
    let bytes = index_head_bytes index ++ rest in
    let long = length-append (index_head_bytes index) rest in
    let n = length-head index in
    let k = least_length_again index rest is.short_key in
    passed _ _ _ _ (or_from _ _ (le-ltb (length bytes) 10 (omega (arith, long, n))) (le-ltb (length bytes) (head_width_in bytes) (omega (arith, long, width_again index rest is.short_key))))
    (passed _ _ _ _ (not_true _ (ap is_magic (magic_again index rest) ∙ magic_kept index.ranges))
    (passed _ _ _ _ (eqb_zero (rows_count_in bytes) (omega (arith, count_again index rest is.few, is.some)))
    (passed _ _ _ _ (key_length_kept (least_length_in bytes) (omega (arith, k, is.some_key)) (omega (arith, k, is.short_key))) refl)))

-- ---- an index

abbrev behind : Index → Bytes
behind index = flat_map index_row_bytes index.rows ++ ranges_bytes index.ranges

part_again : (pages : ℕ) (index : Index) → IsIndex pages index → rows_part (index_bytes index) ≡ behind index
unfolding index_bytes
part_again pages index is = past_head index (behind index) is.short_key

many_again : (pages : ℕ) (index : Index) → IsIndex pages index → rows_count_in (index_bytes index) ≡ length index.rows
unfolding index_bytes
many_again pages index is = count_again index (behind index) is.few

has_again : (index : Index) → has_ranges_in (index_bytes index) ≡ (magic_for index.ranges == ranges_magic)
unfolding index_bytes
has_again index = ap (λ (n : ℕ). n == ranges_magic) (magic_again index (behind index))

end_again : (pages : ℕ) (index : Index) → IsIndex pages index → length (index_head_bytes index ++ flat_map index_row_bytes index.rows) ≡ rows_end_in (index_bytes index)
unfolding rows_end_in index_bytes
end_again pages index is =
    let widths = ap₂ rows_width_in (many_again pages index is) (part_again pages index is) ∙ rows_width_again index.rows (ranges_bytes index.ranges) is.each in
    omega (arith, length-append (index_head_bytes index) (flat_map index_row_bytes index.rows), width_again index (behind index) is.short_key, widths)

joined_so : (index : Index) → index_bytes index ≡ (index_head_bytes index ++ flat_map index_row_bytes index.rows) ++ ranges_bytes index.ranges
unfolding index_bytes
joined_so index = sym (append_assoc (index_head_bytes index) (flat_map index_row_bytes index.rows) (ranges_bytes index.ranges))

least_so : (pages : ℕ) (index : Index) → IsIndex pages index → least_in (index_bytes index) ≡ index.least
unfolding index_bytes
least_so pages index is = least_again index (behind index) is.short_key

past_rows : (pages : ℕ) (index : Index) → IsIndex pages index → drop (rows_end_in (index_bytes index)) (index_bytes index) ≡ ranges_bytes index.ranges
past_rows pages index is =
    ap (drop (rows_end_in (index_bytes index))) (joined_so index)
    ∙ drop_at (index_head_bytes index ++ flat_map index_row_bytes index.rows) (ranges_bytes index.ranges) (rows_end_in (index_bytes index)) (end_again pages index is)

in_again : (pages : ℕ) (index : Index) → IsIndex pages index → index_in (index_bytes index) ≡ index
unfolding index_in
in_again pages index is =
    let rows = ap₂ rows_in (many_again pages index is) (part_again pages index is) ∙ rows_again index.rows (ranges_bytes index.ranges) is.each in
    let ranges = ap₂ all_ranges_in (has_again index) (past_rows pages index is) ∙ all_again index.ranges is.ranges in
    λ i. record { least = least_so pages index is i; rows = rows i; ranges = ranges i }

rows_so : (pages : ℕ) (index : Index) → IsIndex pages index
    → rows_fault (rows_count_in (index_bytes index)) (head_width_in (index_bytes index)) (is_from (least_in (index_bytes index))) (rows_part (index_bytes index)) ≡ None
rows_so pages index is =
    let w = head_width_in (index_bytes index) in
    ap₂ (λ (n : ℕ) (l : Bytes). rows_fault n w (is_from l) (rows_part (index_bytes index))) (many_again pages index is) (least_so pages index is)
    ∙ ap (rows_fault (length index.rows) w (is_from index.least)) (part_again pages index is)
    ∙ rows_kept w (is_from index.least) index.rows (ranges_bytes index.ranges) is.each is.rising

ranges_so : (pages : ℕ) (index : Index) → IsIndex pages index
    → all_ranges_fault (has_ranges_in (index_bytes index)) (rows_end_in (index_bytes index)) (drop (rows_end_in (index_bytes index)) (index_bytes index)) ≡ None
ranges_so pages index is =
    ap₂ (λ (has : Bool) (l : Bytes). all_ranges_fault has (rows_end_in (index_bytes index)) l) (has_again index) (past_rows pages index is)
    ∙ all_kept (rows_end_in (index_bytes index)) index.ranges is.ranges

pages_kept : (pages : ℕ) (index : Index) → IsIndex pages index → pages_fault pages (index_bytes index) ≡ None
unfolding pages_fault
pages_kept pages index is =
    passed _ _ _ _ (not_true _ (eq-eqb _ _ (ap (λ (i : Index). row_pages i.rows) (in_again pages index is) ∙ is.all_pages))) refl

head_part : (pages : ℕ) (index : Index) → IsIndex pages index → index_head_fault (index_bytes index) ≡ None
unfolding index_bytes
head_part pages index is = head_kept pages index (behind index) is

pub index_again : IndexIsReadAgain
unfolding index_fault
index_again pages index is = (
  none_of _ _ (head_part pages index is) (none_of _ _ (rows_so pages index is) (none_of _ _ (ranges_so pages index is) (pages_kept pages index is))),
  in_again pages index is,
)

-- ---- what breaks no rule was written so

parts : (n : ℕ) (l : Bytes) → take 4 l ++ (take 4 (drop 4 l) ++ (take 2 (drop 8 l) ++ take n (drop 10 l))) ≡ take (10 + n) l
parts n l =
    let e : 4 + (4 + (2 + n)) ≡ 10 + n = omega arith in
    ap (λ (x : Bytes). take 4 l ++ (take 4 (drop 4 l) ++ x)) (joined 2 n 8 l)
    ∙ ap (λ (x : Bytes). take 4 l ++ x) (joined 4 (2 + n) 4 l)
    ∙ joined 4 (4 + (2 + n)) 0 l
    ∙ ap (λ (m : ℕ). take m l) e

record HeadKept (bytes : Bytes) : Type 0 where
  pub within : 10 + least_length_in bytes ≤ length bytes
  pub magic : little_number 4 bytes ≡ cond (has_ranges_in bytes) ranges_magic index_magic
  pub some : 1 ≤ rows_count_in bytes
  pub some_key : 1 ≤ least_length_in bytes
  pub short_key : least_length_in bytes ≤ 1024

first_of : (b : Bool) → (b || false) ≡ true → b ≡ true
first_of true e = refl
first_of false e = absurd cc

magic_is : (n : ℕ) → is_magic n ≡ true → n ≡ cond (n == ranges_magic) ranges_magic index_magic
magic_is n either = elim (n == ranges_magic) as (λ t. (n == ranges_magic) ≡ t → (n == index_magic || t) ≡ true → n ≡ cond t ranges_magic index_magic) [
  | true ↦ λ is e. eqb-true n ranges_magic is
  | false ↦ λ is e. eqb-true n index_magic (first_of (n == index_magic) e)
] refl either

head_was_kept : (bytes : Bytes) → index_head_fault bytes ≡ None → HeadKept bytes
unfolding index_head_fault head_width_in
head_was_kept bytes none =
    let a = kept _ _ _ _ none in
    let b = kept _ _ _ _ a.1 in
    let c = kept _ _ _ _ b.1 in
    let d = kept _ _ _ _ c.1 in
    let lengths = or_parts _ _ a.0 in
    let some = positive (rows_count_in bytes) (sym c.0) in
    let keys = key_length_sound (least_length_in bytes) d.0 in
    record {
      within = ltb-false _ _ lengths.1;
      magic = magic_is _ (not_false _ b.0);
      some = omega (arith, some);
      some_key = keys.0;
      short_key = keys.1;
    }

least_long : (bytes : Bytes) → HeadKept bytes → length (least_in bytes) ≡ least_length_in bytes
unfolding least_in
least_long bytes head =
    omega (arith, length-take (least_length_in bytes) (drop 10 bytes), length-drop 10 bytes, head.within)

head_written : (bytes : Bytes) (rows : List IndexRow) (ranges : List DeletedRange) → IsBytes bytes → HeadKept bytes → length rows ≡ rows_count_in bytes
    → magic_for ranges ≡ cond (has_ranges_in bytes) ranges_magic index_magic
    → index_head_bytes (record { least = least_in bytes; rows = rows; ranges = ranges }) ≡ take (head_width_in bytes) bytes
unfolding index_head_bytes head_width_in least_in
head_written bytes rows ranges is head many magic =
    let n = least_length_in bytes in
    let least = take n (drop 10 bytes) in
    let within = head.within in
    let four = ap (little_bytes 4) (magic ∙ sym head.magic) ∙ number_back 4 bytes is (omega (arith, within)) in
    let count = ap (little_bytes 4) many ∙ number_back 4 (drop 4 bytes) (IsBytes-drop 4 bytes is) (omega (arith, within, length-drop 4 bytes)) in
    let two = ap (little_bytes 2) (least_long bytes head) ∙ number_back 2 (drop 8 bytes) (IsBytes-drop 8 bytes is) (omega (arith, within, length-drop 8 bytes)) in
    ap₂ (λ (p q : Bytes). p ++ (q ++ (little_bytes 2 (length least) ++ least))) four count
    ∙ ap (λ (p : Bytes). take 4 bytes ++ (take 4 (drop 4 bytes) ++ (p ++ least))) two
    ∙ parts n bytes

-- head, rows and ranges are all
three : (m n : ℕ) (bytes : Bytes) → take m bytes ++ (take n (drop m bytes) ++ drop (m + n) bytes) ≡ bytes
three m n bytes =
    ap (λ (l : Bytes). take m bytes ++ (take n (drop m bytes) ++ l)) (sym (drop-drop n m bytes))
    ∙ ap (λ (l : Bytes). take m bytes ++ l) (take-append-drop n (drop m bytes))
    ∙ take-append-drop m bytes

pub index_written : IndexWasWrittenSo
unfolding index_fault index_in index_bytes pages_fault rows_end_in
index_written pages bytes is none =
    let a = neither _ _ none in
    let b = neither _ _ a.1 in
    let c = neither _ _ b.1 in
    let head = head_was_kept bytes a.0 in
    let w = head_width_in bytes in
    let n = rows_count_in bytes in
    let rows = rows_written n w (is_from (least_in bytes)) (rows_part bytes) (IsBytes-drop w bytes is) b.0 in
    let width = rows_width_in n (rows_part bytes) in
    let ranges = all_written (has_ranges_in bytes) (w + width) (drop (w + width) bytes) (IsBytes-drop (w + width) bytes is) c.0 in
    let long = least_long bytes head in
    let sum = kept _ _ _ _ c.1 in
    let count = number_below 4 (drop 4 bytes) (IsBytes-drop 4 bytes is) (omega (arith, head.within, length-drop 4 bytes)) in (
      record {
        some_key = omega (arith, long, head.some_key);
        short_key = omega (arith, long, head.short_key);
        some = omega (arith, rows.many, head.some);
        few = omega (arith, rows.many, count);
        each = rows.each;
        rising = rows.follow;
        all_pages = eqb-true _ _ (not_false _ sum.0);
        ranges = ranges.are;
      },
      ap₂ (λ (p q : Bytes). p ++ q) (head_written bytes (rows_in n (rows_part bytes)) (all_ranges_in (has_ranges_in bytes) (drop (w + width) bytes)) is head rows.many ranges.magic)
          (ap₂ (λ (p q : Bytes). p ++ q) rows.written ranges.written)
          ∙ three w width bytes,
    )
