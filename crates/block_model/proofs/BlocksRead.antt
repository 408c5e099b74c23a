-- Blocks with shared prefixes are read as they were spelled.
use Rattle.std.proofs.Common.{◌≡◌, inl, inr, ◌<◌, ◌≤◌, ◌+◌, ◌-◌, ◌*◌, ◌%◌, ℕ, true, false, List, [], ◌∷◌, ◌++◌, length, take, drop, refl, sym, ap, ap₂, ◌∙◌, arith, append_assoc, length-append}
use Rattle.std.specs.Prelude.{None, ◌==◌, ◌&&◌, ◌||◌, nat_lt, slice_index, position}
use Rattle.std.specs.List.{AllByRecursion}
use Rattle.std.specs.Option.{option_map}
use Rattle.std.proofs.lemmas.Bool.{cases_lt, and_left, and_right, eq-eqb, le-ltb, or_from}
use Rattle.std.proofs.lemmas.List.{drop_at, take_at, length-replicate}
use Rattle.byte_fields.proofs.NumberLemmas.{number_again}
use Rattle.key_base.specs.ByteOrder.{is_before}
use Rattle.map_model.specs.SortedMap.{Bytes}
use Rattle.entry_model.specs.Entries.{Entry, IsEntry, keys_of}
use Rattle.byte_fields.specs.Faults.{fault}
use Rattle.block_model.specs.Block.{IsBlock, block_bytes, header_bytes, list_bytes}
use Rattle.block_model.specs.BlockReading.{block_fault, block_fault_by, block_in, block_in_by, count_in, entries_fault_by, entries_part_by, header_fault_by, tail_fault, used_in}
use Rattle.block_model.specs.Bodies.{entries_bytes, entry_bytes}
use Rattle.block_model.specs.Formats.{Prefixed, entries_by, format_in, places_length, wants_shared}
use Rattle.block_model.specs.Order.{Follow}
use Rattle.block_model.specs.Pages.{block_length, padding, pages_for}
use Rattle.block_model.proofs.OldEntriesRead.{eqb_zero}
use Rattle.block_model.proofs.Lengths.{in_pages}
use Rattle.block_model.proofs.EntryBodies.{entry_size}
use Rattle.block_model.proofs.EntriesRead.{PlacesFit, entries_again, entries_kept, whole_list_long}
use Rattle.block_model.proofs.Refusals.{is_other, none_of, not_true, passed, zeros_kept}

length-header : (block : List Entry) → length (header_bytes block) ≡ 8
unfolding header_bytes
length-header block = refl

length-list : (block : List Entry) → length (list_bytes block) ≡ places_length (length block)
unfolding list_bytes
length-list block = whole_list_long (8 + places_length (length block)) [] block

-- header, list and entries
abbrev front : List Entry → Bytes
front block = (header_bytes block ++ list_bytes block) ++ entries_bytes 0 [] block

front_long : (block : List Entry) → length (front block) ≡ block_length block
unfolding block_length
front_long block = omega (
  arith,
  length-append (header_bytes block ++ list_bytes block) (entries_bytes 0 [] block),
  length-append (header_bytes block) (list_bytes block),
  length-header block,
  length-list block,
)

parted : (block : List Entry) → block_bytes block ≡ front block ++ padding (block_length block)
unfolding block_bytes
parted block =
    let h = header_bytes block in
    let l = list_bytes block in
    let es = entries_bytes 0 [] block in
    let p = padding (block_length block) in
    sym (append_assoc (h ++ l) es p ∙ append_assoc h l (es ++ p))

pub block_fills : (block : List Entry) → length (block_bytes block) ≡ 4096 * pages_for (block_length block)
unfolding padding
block_fills block =
    let n = block_length block in
    ap length (parted block)
    ∙ omega (arith, length-append (front block) (padding n), front_long block, length-replicate {A = ℕ} (4096 * pages_for n - n) 0, in_pages n)

-- ---- how long such a block can be

body_most : (n : ℕ) (e : Entry) → IsEntry e → length (entry_bytes n e) ≤ 1049609
body_most n e is = omega (arith, entry_size n e, is.short_key, is.short_value)

body_least : (e : Entry) → IsEntry e → 10 ≤ length (entry_bytes 0 e)
body_least e is = omega (arith, entry_size 0 e, is.some_key)

pub most_length : (block : List Entry) → AllByRecursion IsEntry block → 1 ≤ length block → (1 < length block → block_length block ≤ 4096) → block_length block ≤ 1049619
unfolding block_length entries_bytes
most_length [] each some small = absurd (omega (arith, some))
most_length (e ∷ []) each some small =
    let n = wants_shared 0 [] e.key in
    omega (arith, length-append (entry_bytes n e) [], body_most n e each.0)
most_length (e ∷ next ∷ more) each some small = omega (arith, small (omega arith))

pub length_most : (block : List Entry) → IsBlock Prefixed block → block_length block ≤ 1049619
length_most block is = most_length block is.each is.some is.small

pub long_enough : (block : List Entry) → IsBlock Prefixed block → 20 ≤ block_length block
unfolding block_length entries_bytes
long_enough [] is = absurd (omega (arith, is.some))
long_enough (e ∷ more) is =
    omega (arith, length-append (entry_bytes 0 e) (entries_bytes 1 e.key more), body_least e is.each.0)

places_fit : (block : List Entry) → IsBlock Prefixed block → PlacesFit (8 + places_length (length block)) 0 [] block
unfolding block_length
places_fit block is = record {
  first = λ some. omega (arith, is.few);
  others = λ two. let most = is.small (omega (arith, two)) in omega (arith, most);
}

-- ---- what was written is read

used_again : (block : List Entry) → IsBlock Prefixed block → used_in (block_bytes block) ≡ block_length block
unfolding block_bytes header_bytes
used_again block is =
    let rest = (length block % 256) ∷ 2 ∷ 0 ∷ 0 ∷ (list_bytes block ++ (entries_bytes 0 [] block ++ padding (block_length block))) in
    number_again 4 (block_length block) rest (omega (arith, length_most block is))

count_again : (block : List Entry) → IsBlock Prefixed block → count_in (block_bytes block) ≡ length block
unfolding block_bytes header_bytes
count_again block is = let few = is.few in omega (arith, few)

marks_again : (block : List Entry) → (slice_index (block_bytes block) 5 ≡ 2) × (slice_index (block_bytes block) 6 ≡ 0) × (slice_index (block_bytes block) 7 ≡ 0)
unfolding block_bytes header_bytes
marks_again block = (refl, refl, refl)

pub format_again : (block : List Entry) → format_in (block_bytes block) ≡ Prefixed
unfolding block_bytes header_bytes
format_again block = refl

list_again : (block : List Entry) → drop 8 (block_bytes block) ≡ list_bytes block ++ (entries_bytes 0 [] block ++ padding (block_length block))
unfolding block_bytes
list_again block = drop_at (header_bytes block) (list_bytes block ++ (entries_bytes 0 [] block ++ padding (block_length block))) 8 (length-header block)

part_again : (block : List Entry) → IsBlock Prefixed block → entries_part_by Prefixed (block_bytes block) ≡ entries_bytes 0 [] block
unfolding entries_part_by
part_again block is =
    let p = 8 + places_length (length block) in
    let head = header_bytes block ++ list_bytes block in
    let long : length head ≡ p = omega (arith, length-append (header_bytes block) (list_bytes block), length-header block, length-list block) in
    (λ j. drop (8 + places_length (count_again block is j)) (take (used_again block is j) (parted block j)))
    ∙ ap (drop p) (take_at (front block) (padding (block_length block)) (block_length block) (front_long block))
    ∙ drop_at head (entries_bytes 0 [] block) p long

tail_again : (block : List Entry) → IsBlock Prefixed block → tail_fault (block_bytes block) ≡ None
unfolding tail_fault padding
tail_again block is =
    let used = block_length block in
    let bytes = block_bytes block in
    let tail : drop (used_in bytes) bytes ≡ padding used =
    ap₂ (λ (n : ℕ) (l : Bytes). drop n l) (used_again block is) (parted block) ∙ drop_at (front block) (padding used) used (front_long block) in
    ap (λ (l : Bytes). option_map (λ k. fault (used_in bytes + k) 8) (position is_other l)) tail
    ∙ ap (option_map (λ k. fault (used_in bytes + k) 8)) (zeros_kept (4096 * pages_for used - used))

many_kept : (block : List Entry) (n used : ℕ) → IsBlock Prefixed block → n ≡ length block → used ≡ block_length block → (n == 0 || (nat_lt 4096 used && nat_lt 1 n)) ≡ false
many_kept block n used is many long =
    or_from (n == 0) (nat_lt 4096 used && nat_lt 1 n) (eqb_zero n (omega (arith, many, is.some)))
    (elim (cases_lt 1 n) [
      | inl lt ↦ and_left (nat_lt 4096 used) (nat_lt 1 n) (le-ltb 4096 used (omega (arith, long, is.small (omega (arith, many, lt)))))
      | inr le ↦ and_right (nat_lt 4096 used) (nat_lt 1 n) (le-ltb 1 n le)
    ])

list_within : (block : List Entry) → 8 + places_length (length block) ≤ block_length block
unfolding block_length
list_within block = omega arith

header_kept : (block : List Entry) → IsBlock Prefixed block → header_fault_by Prefixed (block_bytes block) ≡ None
unfolding header_fault_by
header_kept block is =
    let bytes = block_bytes block in
    let used = used_again block is in
    let count = count_again block is in
    let long = block_fills block in
    let pages : length bytes ≡ 4096 * pages_for (used_in bytes) = long ∙ ap (λ (n : ℕ). 4096 * pages_for n) (sym used) in
    let enough : block_length block ≤ length bytes = omega (arith, long, in_pages (block_length block)) in
    let twenty = long_enough block is in
    let marks = marks_again block in
    let list : 8 + places_length (count_in bytes) ≡ 8 + places_length (length block) = ap (λ (n : ℕ). 8 + places_length n) count in
    passed _ _ _ _ (or_from _ _ (or_from _ _ (le-ltb (length bytes) 8 (omega (arith, enough, twenty))) (le-ltb (used_in bytes) 20 (omega (arith, used, twenty))))
    (not_true _ (eq-eqb _ _ pages)))
    (passed _ _ _ _ (many_kept block (count_in bytes) (used_in bytes) is count used)
    (passed _ _ _ _ (not_true _ (eq-eqb _ _ marks.0))
    (passed _ _ _ _ (not_true _ (eq-eqb _ _ marks.1))
    (passed _ _ _ _ (not_true _ (eq-eqb _ _ marks.2))
    (passed _ _ _ _ (le-ltb (used_in bytes) (8 + places_length (count_in bytes)) (omega (arith, used, list, list_within block))) refl)))))

-- a key of one byte or more is above no key
pub above_none : (key : Bytes) → 1 ≤ length key → is_before [] key ≡ true
above_none [] some = absurd (omega (arith, some))
above_none (b ∷ key) some = refl

-- so is the first key
first_above : (block : List Entry) → IsBlock Prefixed block → Follow (is_before []) (keys_of block)
first_above [] is = tt
first_above (e ∷ more) is = (above_none e.key is.each.0.some_key, is.rising.1)

pub block_by_again : (block : List Entry) → IsBlock Prefixed block
    → (block_fault_by Prefixed (block_bytes block) ≡ None) × (block_in_by Prefixed (block_bytes block) ≡ block)
unfolding block_fault_by block_in_by list_bytes
block_by_again block is =
    let bytes = block_bytes block in
    let count = count_again block is in
    let part = part_again block is in
    let entries : entries_fault_by Prefixed bytes 0 (count_in bytes) (8 + places_length (count_in bytes)) [] (entries_part_by Prefixed bytes) ≡ None =
    (λ j. entries_fault_by Prefixed bytes 0 (count j) (8 + places_length (count j)) [] (part j))
    ∙ entries_kept bytes 0 (8 + places_length (length block)) [] block (entries_bytes 0 [] block ++ padding (block_length block)) is.each (first_above block is) (places_fit block is) (list_again block) in (
      none_of _ _ (header_kept block is) (none_of _ _ entries (tail_again block is)),
      (λ j. entries_by Prefixed (count j) [] (part j)) ∙ entries_again 0 [] block is.each,
    )

pub block_again : (block : List Entry) → IsBlock Prefixed block
    → (block_fault (block_bytes block) ≡ None) × (block_in (block_bytes block) ≡ block)
block_again block is =
    let both = block_by_again block is in (
      ap (λ f. block_fault_by f (block_bytes block)) (format_again block) ∙ both.0,
      ap (λ f. block_in_by f (block_bytes block)) (format_again block) ∙ both.1,
    )
