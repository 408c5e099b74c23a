-- A block with shared prefixes that breaks no rule was spelled as it is read.
use Rattle.std.proofs.Common.{◌≡◌, ◌≤◌, ◌<◌, ◌+◌, ◌-◌, ◌*◌, ◌%◌, ℕ, List, [], ◌∷◌, ◌++◌, length, take, drop, replicate, refl, sym, ap, ap₂, ◌∙◌, arith, append_assoc, length-drop}
use Rattle.std.specs.Prelude.{None, flat_map, slice_index, position}
use Rattle.std.proofs.lemmas.Bool.{eqb-true, ltb-false, or_parts}
use Rattle.std.proofs.lemmas.List.{length-take, take-append-drop, take-take}
use Rattle.byteorder.specs.Endian.{little_bytes}
use Rattle.byte_fields.specs.Spelling.{IsBytes}
use Rattle.byte_fields.proofs.NumberLemmas.{IsBytes-drop, IsBytes-take}
use Rattle.byte_fields.specs.Faults.{fault}
use Rattle.key_base.specs.ByteOrder.{is_before}
use Rattle.map_model.specs.SortedMap.{Bytes}
use Rattle.entry_model.specs.Entries.{Entry, keys_of}
use Rattle.entry_model.proofs.Bodies.{joined}
use Rattle.block_model.specs.Block.{IsBlock, block_bytes, header_bytes, list_bytes}
use Rattle.block_model.specs.BlockReading.{block_fault_by, block_in_by, count_in, entries_part_by, header_fault_by, tail_fault, used_in}
use Rattle.block_model.specs.Bodies.{listed_places}
use Rattle.block_model.specs.Formats.{Prefixed, entries_by, places_length}
use Rattle.block_model.specs.Order.{Follow, is_any}
use Rattle.block_model.specs.Pages.{block_length, padding, pages_for}
use Rattle.block_model.proofs.OldBlocksWritten.{eight_bytes, small_or, used_within}
use Rattle.block_model.proofs.LastBlocks.{positive}
use Rattle.block_model.proofs.EntriesWritten.{WereSpelled, list_from, were_spelled}
use Rattle.block_model.proofs.Refusals.{is_other, kept, neither, not_false, nowhere, zeros_are}

pub record HeaderHolds (bytes : Bytes) : Type 0 where
  pub eight : 8 ≤ length bytes
  pub twenty : 20 ≤ used_in bytes
  pub pages : length bytes ≡ 4096 * pages_for (used_in bytes)
  pub some : 1 ≤ count_in bytes
  pub small : 1 < count_in bytes → used_in bytes ≤ 4096
  pub five : slice_index bytes 5 ≡ 2
  pub six : slice_index bytes 6 ≡ 0
  pub seven : slice_index bytes 7 ≡ 0
  pub list : 8 + places_length (count_in bytes) ≤ used_in bytes

pub header_holds : (bytes : Bytes) → header_fault_by Prefixed bytes ≡ None → HeaderHolds bytes
unfolding header_fault_by
header_holds bytes none =
    let a = kept _ _ _ _ none in
    let b = kept _ _ _ _ a.1 in
    let c = kept _ _ _ _ b.1 in
    let d = kept _ _ _ _ c.1 in
    let f = kept _ _ _ _ d.1 in
    let g = kept _ _ _ _ f.1 in
    let pages = or_parts _ _ a.0 in
    let lengths = or_parts _ _ pages.0 in
    let many = or_parts _ _ b.0 in
    let some = positive (count_in bytes) (sym many.0) in
    record {
      eight = ltb-false _ _ lengths.0;
      twenty = ltb-false _ _ lengths.1;
      pages = eqb-true _ _ (not_false _ pages.1);
      some = omega (arith, some);
      small = small_or (count_in bytes) (used_in bytes) many.1;
      five = eqb-true _ _ (not_false _ c.0);
      six = eqb-true _ _ (not_false _ d.0);
      seven = eqb-true _ _ (not_false _ f.0);
      list = ltb-false _ _ g.0;
    }

header_written : (bytes : Bytes) (block : List Entry) → IsBytes bytes → HeaderHolds bytes → block_length block ≡ used_in bytes → length block ≡ count_in bytes → header_bytes block ≡ take 8 bytes
unfolding header_bytes
header_written bytes block is head long many =
    ap₂ (λ (n m : ℕ). little_bytes 4 n ++ (m % 256 ∷ 2 ∷ 0 ∷ 0 ∷ [])) long many
    ∙ eight_bytes 2 bytes is head.eight head.five head.six head.seven

part_bytes : (bytes : Bytes) → IsBytes bytes → IsBytes (entries_part_by Prefixed bytes)
unfolding entries_part_by
part_bytes bytes is = IsBytes-drop (8 + places_length (count_in bytes)) (take (used_in bytes) bytes) (IsBytes-take (used_in bytes) bytes is)

part_long : (bytes : Bytes) → HeaderHolds bytes → 8 + places_length (count_in bytes) + length (entries_part_by Prefixed bytes) ≡ used_in bytes
unfolding entries_part_by
part_long bytes head =
    let used = used_in bytes in
    let from = 8 + places_length (count_in bytes) in
    omega (arith, length-drop from (take used bytes), length-take used bytes, head.pages, used_within used, head.list)

tail_written : (bytes : Bytes) → HeaderHolds bytes → tail_fault bytes ≡ None → drop (used_in bytes) bytes ≡ padding (used_in bytes)
unfolding tail_fault padding
tail_written bytes head none =
    let used = used_in bytes in
    let zeros = zeros_are (drop used bytes) (nowhere (λ k. fault (used + k) 8) (position is_other (drop used bytes)) none) in
    let many : length (drop used bytes) ≡ 4096 * pages_for used - used = omega (arith, length-drop used bytes, head.pages) in
    zeros ∙ ap (λ (n : ℕ). replicate n 0) many

pieces : (bytes : Bytes) → HeaderHolds bytes
    → take 8 bytes ++ (take (places_length (count_in bytes)) (drop 8 bytes) ++ (entries_part_by Prefixed bytes ++ drop (used_in bytes) bytes)) ≡ bytes
unfolding entries_part_by
pieces bytes head =
    let used = used_in bytes in
    let p = places_length (count_in bytes) in
    let tail = drop (8 + p) (take used bytes) ++ drop used bytes in
    let front : take (8 + p) bytes ++ drop (8 + p) (take used bytes) ≡ take used bytes =
    ap (λ (l : Bytes). l ++ drop (8 + p) (take used bytes)) (sym (take-take (8 + p) used bytes (omega (arith, head.list)))) ∙ take-append-drop (8 + p) (take used bytes) in
    sym (append_assoc (take 8 bytes) (take p (drop 8 bytes)) tail) ∙ ap (λ (l : Bytes). l ++ tail) (joined 8 p 0 bytes)
    ∙ sym (append_assoc (take (8 + p) bytes) (drop (8 + p) (take used bytes)) (drop used bytes)) ∙ ap (λ (l : Bytes). l ++ drop used bytes) front ∙ take-append-drop used bytes

module _ (bytes : Bytes) (is : IsBytes bytes) (none : block_fault_by Prefixed bytes ≡ None) where
  abbrev count : ℕ
  count = count_in bytes

  abbrev part : Bytes
  part = entries_part_by Prefixed bytes

  abbrev from : ℕ
  from = 8 + places_length count

  abbrev block : List Entry
  block = entries_by Prefixed count [] part

  pub holds : HeaderHolds bytes
  unfolding block_fault_by
  holds = header_holds bytes (neither _ _ none).0

  pub were : WereSpelled bytes 0 count from [] part
  unfolding block_fault_by
  were =
      were_spelled bytes 0 count from [] part is (λ i. omega arith) (part_bytes bytes is)
      (omega (arith, holds.list, holds.pages, used_within (used_in bytes)))
      (neither _ _ (neither _ _ none).1).0

  length_is : block_length block ≡ used_in bytes
  unfolding block_length
  length_is =
      let places : 8 + places_length (length block) ≡ from = ap (λ (n : ℕ). 8 + places_length n) were.many in
      omega (arith, places, ap length were.written, part_long bytes holds)

  all_listed : list_from 0 count ≡ places_length count
  all_listed = omega arith

  list_is : list_bytes block ≡ take (places_length count) (drop 8 bytes)
  unfolding list_bytes
  list_is = ap (λ (n : ℕ). flat_map (little_bytes 2) (listed_places 0 (8 + places_length n) [] block)) were.many ∙ were.list
      ∙ ap (λ (n : ℕ). take n (drop 8 bytes)) all_listed

  spelled : block_bytes block ≡ bytes
  unfolding block_bytes block_fault_by
  spelled =
      let tail = tail_written bytes holds (neither _ _ (neither _ _ none).1).1 in
      (λ j. header_written bytes block is holds length_is were.many j ++ (list_is j ++ (were.written j ++ padding (length_is j))))
      ∙ ap (λ (l : Bytes). take 8 bytes ++ (take (places_length count) (drop 8 bytes) ++ (part ++ l))) (sym tail)
      ∙ pieces bytes holds

  any_follow : (es : List Entry) → Follow (is_before []) (keys_of es) → Follow is_any (keys_of es)
  any_follow [] rises = tt
  any_follow (e ∷ es) rises = (refl, rises.1)

  pub block_written : IsBlock Prefixed (block_in_by Prefixed bytes) × (block_bytes (block_in_by Prefixed bytes) ≡ bytes)
  unfolding block_in_by
  block_written = let low = is 4 in (
    record {
      each = were.each;
      rising = any_follow block were.follow;
      some = omega (arith, were.many, holds.some);
      few = omega (arith, were.many, low);
      small = λ two. let most = holds.small (omega (arith, two, were.many)) in omega (arith, most, length_is);
    },
    spelled,
  )
