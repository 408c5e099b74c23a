-- How long the bytes of entries, blocks and indexes are.
use Rattle.std.proofs.Common.{◌≡◌, ◌≤◌, ◌+◌, ◌-◌, ◌*◌, ℕ, List, [], ◌∷◌, ◌++◌, length, refl, arith, length-append}
use Rattle.std.specs.Prelude.{flat_map, map, sum_by, replicate}
use Rattle.std.proofs.lemmas.List.{length-replicate}
use Rattle.std.proofs.lemmas.List.Sums.{sum_by-cons}
use Rattle.byte_fields.specs.Fields.{fields}
use Rattle.entry_model.specs.Entries.{Entry, body, bytes_of}
use Rattle.range_model.specs.Ranges.{DeletedRange}
use Rattle.block_model.specs.Index.{Index, IndexRow, index_bytes, index_head_bytes, index_head_widths, index_row_bytes, index_row_of, index_row_widths, index_with, bound_bytes, magic_for, range_bytes, ranges_bytes}
use Rattle.block_model.specs.Laws.{IndexHasItsLength}
use Rattle.block_model.specs.OldBlock.{old_block_bytes, old_block_length, old_header_bytes}
use Rattle.block_model.specs.Pages.{blocks_of, index_length, index_length_with, last_key, padding, pages_for}

pub length-body : (e : Entry) → length (body e) ≡ 7 + (length e.key + length (bytes_of e.value))
length-body e = omega (arith, length-append e.key (bytes_of e.value))

pub length-header : (block : List Entry) → length (old_header_bytes block) ≡ 8
unfolding old_header_bytes
length-header block = refl

pub in_pages : (n : ℕ) → n ≤ 4096 * pages_for n
unfolding pages_for
in_pages n = omega arith

pub old_fills : (block : List Entry) → length (old_block_bytes block) ≡ 4096 * pages_for (old_block_length block)
unfolding old_block_bytes padding old_block_length
old_fills block =
    let bodies = flat_map body block in
    let n = 8 + length bodies in
    let zeros : List ℕ = replicate (4096 * pages_for n - n) 0 in
    omega (arith, length-append (old_header_bytes block) (bodies ++ zeros), length-append bodies zeros, length-header block, length-replicate {A = ℕ} (4096 * pages_for n - n) 0, in_pages n)

pub length-row : (row : IndexRow) → length (index_row_bytes row) ≡ 14 + length row.last
unfolding index_row_bytes
length-row row = length-append (fields index_row_widths (row.pages ∷ row.sum ∷ length row.last ∷ [])) row.last

pub length-head : (index : Index) → length (index_head_bytes index) ≡ 10 + length index.least
unfolding index_head_bytes
length-head index = length-append (fields index_head_widths (magic_for index.ranges ∷ length index.rows ∷ length index.least ∷ [])) index.least

rows_length : (blocks : List (List Entry)) → length (flat_map index_row_bytes (map index_row_of blocks)) ≡ sum_by (λ block. 14 + length (last_key block)) blocks
unfolding index_row_of
rows_length [] = refl
rows_length (block ∷ more) =
    let row = index_row_of block in
    omega (
      arith,
      length-append (index_row_bytes row) (flat_map index_row_bytes (map index_row_of more)),
      length-row row,
      rows_length more,
      sum_by-cons (λ (b : List Entry). 14 + length (last_key b)) block more,
    )

pub length-range : (range : DeletedRange) → length (range_bytes range) ≡ 4 + length range.lo + length range.hi
unfolding range_bytes
length-range range = omega (arith, length-append range.lo (bound_bytes range.hi))

ranges_length : (ranges : List DeletedRange) → length (flat_map range_bytes ranges) ≡ sum_by (λ range. 4 + length range.lo + length range.hi) ranges
ranges_length [] = refl
ranges_length (range ∷ more) =
    omega (
      arith,
      length-append (range_bytes range) (flat_map range_bytes more),
      length-range range,
      ranges_length more,
      sum_by-cons (λ (r : DeletedRange). 4 + length r.lo + length r.hi) range more,
    )

with_ranges : (entries : List Entry) (ranges : List DeletedRange) → index_length entries + length (ranges_bytes ranges) ≡ index_length_with entries ranges
unfolding ranges_bytes
with_ranges entries [] = omega arith
with_ranges entries (range ∷ more) = omega (arith, ranges_length (range ∷ more))

pub index_long : IndexHasItsLength
unfolding index_bytes index_with index_length
index_long entries ranges =
    let index = index_with entries ranges in
    omega (
      arith,
      length-append (index_head_bytes index) (flat_map index_row_bytes index.rows ++ ranges_bytes ranges),
      length-append (flat_map index_row_bytes index.rows) (ranges_bytes ranges),
      length-head index,
      rows_length (blocks_of entries),
      with_ranges entries ranges,
    )
