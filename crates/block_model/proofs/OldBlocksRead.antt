-- Blocks are read as they were written, and were written as they are read.
use Rattle.std.proofs.Common.{◌≡◌, inl, inr, ◌≤◌, ◌+◌, ◌-◌, ◌*◌, ◌%◌, ℕ, false, List, [], ◌∷◌, ◌++◌, length, take, drop, refl, sym, ap, ap₂, ◌∙◌, arith, append_assoc, length-append}
use Rattle.std.specs.Prelude.{None, ◌==◌, ◌&&◌, ◌||◌, nat_lt, flat_map, slice_index, position}
use Rattle.std.specs.List.{AllByRecursion}
use Rattle.std.specs.Option.{option_map}
use Rattle.std.proofs.lemmas.Bool.{cases_lt, and_left, and_right, eq-eqb, le-ltb, or_from}
use Rattle.std.proofs.lemmas.List.{drop_at, take_at}
use Rattle.byte_fields.proofs.NumberLemmas.{number_again}
use Rattle.map_model.specs.SortedMap.{Bytes}
use Rattle.entry_model.specs.Entries.{Entry, IsLogged, body}
use Rattle.block_model.specs.Block.{IsBlock}
use Rattle.block_model.specs.BlockReading.{count_in, tail_fault, used_in}
use Rattle.block_model.specs.Formats.{Old}
use Rattle.block_model.specs.OldBlock.{old_block_bytes, old_block_length, old_header_bytes}
use Rattle.block_model.specs.OldReading.{old_block_fault, old_block_in, old_entries_fault, old_entries_in, old_entries_part, old_header_fault}
use Rattle.block_model.specs.Order.{is_any}
use Rattle.block_model.specs.Pages.{block_pages, padding, pages_for}
use Rattle.byte_fields.specs.Faults.{fault}
use Rattle.block_model.proofs.Sizes.{bodies_bound}
use Rattle.block_model.proofs.OldEntriesRead.{entries_again, entries_kept, eqb_zero}
use Rattle.block_model.proofs.Lengths.{old_fills, in_pages, length-body, length-header}
use Rattle.block_model.proofs.Refusals.{is_other, none_of, not_true, passed, zeros_kept}

-- ---- what was written is read

alone : (block : List Entry) → AllByRecursion IsLogged block → length block ≤ 1 → old_block_length block ≤ 66575
unfolding old_block_length
alone block each le = omega (arith, bodies_bound block each, le)

length_bound : (block : List Entry) → IsBlock Old block → old_block_length block ≤ 66575
length_bound [] is = alone [] is.each (omega arith)
length_bound (e ∷ []) is = alone (e ∷ []) is.each (omega arith)
length_bound (e ∷ next ∷ more) is = omega (arith, is.small (omega arith))

long_enough : (block : List Entry) → IsBlock Old block → 16 ≤ old_block_length block
unfolding old_block_length
long_enough [] is = absurd (omega (arith, is.some))
long_enough (e ∷ more) is = omega (arith, length-append (body e) (flat_map body more), length-body e, is.each.0.sound.some_key)

used_again : (block : List Entry) → IsBlock Old block → used_in (old_block_bytes block) ≡ old_block_length block
unfolding old_block_bytes old_header_bytes
used_again block is =
    let rest = (length block % 256) ∷ 0 ∷ 0 ∷ 0 ∷ (flat_map body block ++ padding (old_block_length block)) in
    number_again 4 (old_block_length block) rest (omega (arith, length_bound block is))

count_again : (block : List Entry) → IsBlock Old block → count_in (old_block_bytes block) ≡ length block
unfolding old_block_bytes old_header_bytes
count_again block is = let few = is.few in omega (arith, few)

zeros_again : (block : List Entry) → (slice_index (old_block_bytes block) 5 ≡ 0) × (slice_index (old_block_bytes block) 6 ≡ 0) × (slice_index (old_block_bytes block) 7 ≡ 0)
unfolding old_block_bytes old_header_bytes
zeros_again block = (refl, refl, refl)

-- the bytes, parted at the length
parted : (block : List Entry) → old_block_bytes block ≡ (old_header_bytes block ++ flat_map body block) ++ padding (old_block_length block)
unfolding old_block_bytes
parted block = sym (append_assoc (old_header_bytes block) (flat_map body block) (padding (old_block_length block)))

front_long : (block : List Entry) → length (old_header_bytes block ++ flat_map body block) ≡ old_block_length block
unfolding old_block_length
front_long block = omega (arith, length-append (old_header_bytes block) (flat_map body block), length-header block)

part_again : (block : List Entry) → IsBlock Old block → old_entries_part (old_block_bytes block) ≡ flat_map body block
unfolding old_entries_part
part_again block is =
    let front = old_header_bytes block ++ flat_map body block in
    ap₂ (λ (n : ℕ) (l : Bytes). drop 8 (take n l)) (used_again block is) (parted block)
    ∙ ap (drop 8) (take_at front (padding (old_block_length block)) (old_block_length block) (front_long block))
    ∙ drop_at (old_header_bytes block) (flat_map body block) 8 (length-header block)

tail_again : (block : List Entry) → IsBlock Old block → tail_fault (old_block_bytes block) ≡ None
unfolding tail_fault padding
tail_again block is =
    let front = old_header_bytes block ++ flat_map body block in
    let tail : drop (used_in (old_block_bytes block)) (old_block_bytes block) ≡ padding (old_block_length block) =
    ap₂ (λ (n : ℕ) (l : Bytes). drop n l) (used_again block is) (parted block) ∙ drop_at front (padding (old_block_length block)) (old_block_length block) (front_long block) in
    ap (λ (l : Bytes). option_map (λ k. fault (used_in (old_block_bytes block) + k) 8) (position is_other l)) tail
    ∙ ap (option_map (λ k. fault (used_in (old_block_bytes block) + k) 8)) (zeros_kept (4096 * pages_for (old_block_length block) - old_block_length block))

many_kept : (block : List Entry) (n used : ℕ) → IsBlock Old block → n ≡ length block → used ≡ old_block_length block → (n == 0 || (nat_lt 4096 used && nat_lt 1 n)) ≡ false
many_kept block n used is many long =
    or_from (n == 0) (nat_lt 4096 used && nat_lt 1 n) (eqb_zero n (omega (arith, many, is.some)))
    (elim (cases_lt 1 n) [
      | inl lt ↦ and_left (nat_lt 4096 used) (nat_lt 1 n) (le-ltb 4096 used (omega (arith, long, is.small (omega (arith, many, lt)))))
      | inr le ↦ and_right (nat_lt 4096 used) (nat_lt 1 n) (le-ltb 1 n le)
    ])

whole : (b : List Entry) → length (old_block_bytes b) ≡ 4096 * pages_for (old_block_length b)
unfolding block_pages
whole b = old_fills b

header_kept : (block : List Entry) → IsBlock Old block → old_header_fault (old_block_bytes block) ≡ None
unfolding old_header_fault
header_kept block is =
    let bytes = old_block_bytes block in
    let used = used_again block is in
    let long : length bytes ≡ 4096 * pages_for (old_block_length block) = whole block in
    let pages : length bytes ≡ 4096 * pages_for (used_in bytes) = long ∙ ap (λ (n : ℕ). 4096 * pages_for n) (sym used) in
    let enough : old_block_length block ≤ length bytes = omega (arith, long, in_pages (old_block_length block)) in
    let sixteen = long_enough block is in
    let zeros = zeros_again block in
    passed _ _ _ _ (or_from _ _ (or_from _ _ (le-ltb (length bytes) 8 (omega (arith, enough, sixteen))) (le-ltb (used_in bytes) 16 (omega (arith, used, sixteen))))
    (not_true _ (eq-eqb _ _ pages)))
    (passed _ _ _ _ (many_kept block (count_in bytes) (used_in bytes) is (count_again block is) used)
    (passed _ _ _ _ (not_true _ (eq-eqb _ _ zeros.0))
    (passed _ _ _ _ (not_true _ (eq-eqb _ _ zeros.1))
    (passed _ _ _ _ (not_true _ (eq-eqb _ _ zeros.2)) refl))))

pub old_again : (block : List Entry) → IsBlock Old block → (old_block_fault (old_block_bytes block) ≡ None) × (old_block_in (old_block_bytes block) ≡ block)
unfolding old_block_fault old_block_in
old_again block is =
    let bytes = old_block_bytes block in
    let entries : old_entries_fault (count_in bytes) 8 is_any (old_entries_part bytes) ≡ None =
    ap₂ (λ (n : ℕ) (l : Bytes). old_entries_fault n 8 is_any l) (count_again block is) (part_again block is) ∙ entries_kept 8 is_any block is.each is.rising in (
      none_of _ _ (header_kept block is) (none_of _ _ entries (tail_again block is)),
      ap₂ old_entries_in (count_again block is) (part_again block is) ∙ entries_again block is.each,
    )
