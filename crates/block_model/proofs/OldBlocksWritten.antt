-- A block that breaks no rule was written as it is read.
use Rattle.std.proofs.Common.{◌≡◌, inl, inr, ◌<◌, ◌≤◌, ◌+◌, ◌-◌, ◌*◌, ◌%◌, ℕ, zero, suc, false, List, [], ◌∷◌, ◌++◌, length, take, drop, replicate, sym, ap, ap₂, ◌∙◌, arith, append_assoc, length-drop}
use Rattle.std.specs.Prelude.{None, ◌&&◌, nat_lt, flat_map, slice_index, position}
use Rattle.std.proofs.lemmas.Bool.{and_cases, eqb-true, ltb-false, or_parts}
use Rattle.std.proofs.lemmas.List.{length-take, take-append-drop, take-take}
use Rattle.byteorder.specs.Endian.{little_bytes, little_number}
use Rattle.byte_fields.specs.Spelling.{IsBytes}
use Rattle.byte_fields.proofs.NumberLemmas.{IsBytes-drop, number_back}
use Rattle.map_model.specs.SortedMap.{Bytes}
use Rattle.entry_model.specs.Entries.{Entry, body}
use Rattle.block_model.specs.Block.{IsBlock}
use Rattle.block_model.specs.BlockReading.{count_in, tail_fault, used_in}
use Rattle.block_model.specs.Formats.{Old}
use Rattle.block_model.specs.OldBlock.{old_block_bytes, old_block_length, old_header_bytes}
use Rattle.block_model.specs.OldReading.{old_block_fault, old_block_in, old_entries_in, old_entries_part, old_header_fault}
use Rattle.block_model.specs.Order.{is_any}
use Rattle.block_model.specs.Pages.{padding, pages_for}
use Rattle.byte_fields.specs.Faults.{fault}
use Rattle.block_model.proofs.OldEntriesWritten.{entries_written}
use Rattle.block_model.proofs.LastBlocks.{positive}
use Rattle.block_model.proofs.Refusals.{is_other, kept, neither, not_false, nowhere, zeros_are}

-- ---- the header

pub record HeaderKept (bytes : Bytes) : Type 0 where
  pub eight : 8 ≤ length bytes
  pub sixteen : 16 ≤ used_in bytes
  pub pages : length bytes ≡ 4096 * pages_for (used_in bytes)
  pub some : 1 ≤ count_in bytes
  pub small : 1 < count_in bytes → used_in bytes ≤ 4096
  pub five : slice_index bytes 5 ≡ 0
  pub six : slice_index bytes 6 ≡ 0
  pub seven : slice_index bytes 7 ≡ 0

pub small_or : (n used : ℕ) → (nat_lt 4096 used && nat_lt 1 n) ≡ false → 1 < n → used ≤ 4096
small_or n used e lt = elim (and_cases (nat_lt 4096 used) (nat_lt 1 n) e) [
  | inl few ↦ ltb-false 4096 used few
  | inr one ↦ absurd (omega (arith, ltb-false 1 n one, lt))
]

pub header_was_kept : (bytes : Bytes) → old_header_fault bytes ≡ None → HeaderKept bytes
unfolding old_header_fault
header_was_kept bytes none =
    let a = kept _ _ _ _ none in
    let b = kept _ _ _ _ a.1 in
    let c = kept _ _ _ _ b.1 in
    let d = kept _ _ _ _ c.1 in
    let f = kept _ _ _ _ d.1 in
    let pages = or_parts _ _ a.0 in
    let lengths = or_parts _ _ pages.0 in
    let many = or_parts _ _ b.0 in
    let some = positive (count_in bytes) (sym many.0) in
    record {
      eight = ltb-false _ _ lengths.0;
      sixteen = ltb-false _ _ lengths.1;
      pages = eqb-true _ _ (not_false _ pages.1);
      some = omega (arith, some);
      small = small_or (count_in bytes) (used_in bytes) many.1;
      five = eqb-true _ _ (not_false _ c.0);
      six = eqb-true _ _ (not_false _ d.0);
      seven = eqb-true _ _ (not_false _ f.0);
    }

-- the eight bytes of a header are those of its numbers; byte 5 is the format's
pub eight_bytes : (m : ℕ) (bytes : Bytes) → IsBytes bytes → 8 ≤ length bytes → slice_index bytes 5 ≡ m → slice_index bytes 6 ≡ 0 → slice_index bytes 7 ≡ 0
    → little_bytes 4 (little_number 4 bytes) ++ (slice_index bytes 4 % 256 ∷ m ∷ 0 ∷ 0 ∷ []) ≡ take 8 bytes
eight_bytes m [] is le five six seven = absurd (omega (arith, le))
eight_bytes m (a ∷ []) is le five six seven = absurd (omega (arith, le))
eight_bytes m (a ∷ b ∷ []) is le five six seven = absurd (omega (arith, le))
eight_bytes m (a ∷ b ∷ c ∷ []) is le five six seven = absurd (omega (arith, le))
eight_bytes m (a ∷ b ∷ c ∷ d ∷ []) is le five six seven = absurd (omega (arith, le))
eight_bytes m (a ∷ b ∷ c ∷ d ∷ e ∷ []) is le five six seven = absurd (omega (arith, le))
eight_bytes m (a ∷ b ∷ c ∷ d ∷ e ∷ f ∷ []) is le five six seven = absurd (omega (arith, le))
eight_bytes m (a ∷ b ∷ c ∷ d ∷ e ∷ f ∷ g ∷ []) is le five six seven = absurd (omega (arith, le))
eight_bytes m (a ∷ b ∷ c ∷ d ∷ e ∷ f ∷ g ∷ h ∷ more) is le five six seven =
    let four = number_back 4 (a ∷ b ∷ c ∷ d ∷ e ∷ f ∷ g ∷ h ∷ more) is (omega arith) in
    let low = is 4 in
    let count : e % 256 ≡ e = omega (arith, low) in
    ap (λ (l : Bytes). l ++ (e % 256 ∷ m ∷ 0 ∷ 0 ∷ [])) four
    ∙ ap (λ (n : ℕ). a ∷ b ∷ c ∷ d ∷ n ∷ m ∷ 0 ∷ 0 ∷ []) count
    ∙ ap (λ (l : Bytes). a ∷ b ∷ c ∷ d ∷ e ∷ l) (ap₂ (λ (x : ℕ) (l : Bytes). x ∷ l) (sym five) (ap₂ (λ (x y : ℕ). x ∷ y ∷ []) (sym six) (sym seven)))

header_written : (bytes : Bytes) (block : List Entry) → IsBytes bytes → HeaderKept bytes → old_block_length block ≡ used_in bytes → length block ≡ count_in bytes → old_header_bytes block ≡ take 8 bytes
unfolding old_header_bytes
header_written bytes block is head long many =
    ap₂ (λ (n m : ℕ). little_bytes 4 n ++ (m % 256 ∷ 0 ∷ 0 ∷ 0 ∷ [])) long many
    ∙ eight_bytes 0 bytes is head.eight head.five head.six head.seven

-- ---- the block

pub used_within : (n : ℕ) → n ≤ 4096 * pages_for n
unfolding pages_for
used_within n = omega arith

pub IsBytes-take : (n : ℕ) (bytes : Bytes) → IsBytes bytes → IsBytes (take n bytes)
IsBytes-take zero bytes is i = omega arith
IsBytes-take (suc n) [] is i = omega arith
IsBytes-take (suc n) (x ∷ bytes) is zero = is 0
IsBytes-take (suc n) (x ∷ bytes) is (suc i) = IsBytes-take n bytes (λ j. is (suc j)) i

part_bytes : (bytes : Bytes) → IsBytes bytes → IsBytes (old_entries_part bytes)
unfolding old_entries_part
part_bytes bytes is = IsBytes-drop 8 (take (used_in bytes) bytes) (IsBytes-take (used_in bytes) bytes is)

part_long : (bytes : Bytes) → HeaderKept bytes → 8 + length (old_entries_part bytes) ≡ used_in bytes
unfolding old_entries_part
part_long bytes head =
    let used = used_in bytes in
    omega (arith, length-drop 8 (take used bytes), length-take used bytes, head.pages, used_within used, head.sixteen)

tail_written : (bytes : Bytes) → HeaderKept bytes → tail_fault bytes ≡ None → drop (used_in bytes) bytes ≡ padding (used_in bytes)
unfolding tail_fault padding
tail_written bytes head none =
    let used = used_in bytes in
    let zeros = zeros_are (drop used bytes) (nowhere (λ k. fault (used + k) 8) (position is_other (drop used bytes)) none) in
    let many : length (drop used bytes) ≡ 4096 * pages_for used - used = omega (arith, length-drop used bytes, head.pages) in
    zeros ∙ ap (λ (n : ℕ). replicate n 0) many

pieces : (bytes : Bytes) → HeaderKept bytes → take 8 bytes ++ (old_entries_part bytes ++ drop (used_in bytes) bytes) ≡ bytes
unfolding old_entries_part
pieces bytes head =
    let used = used_in bytes in
    let front : take 8 bytes ++ drop 8 (take used bytes) ≡ take used bytes =
    ap (λ (l : Bytes). l ++ drop 8 (take used bytes)) (sym (take-take 8 used bytes (omega (arith, head.sixteen)))) ∙ take-append-drop 8 (take used bytes) in
    sym (append_assoc (take 8 bytes) (drop 8 (take used bytes)) (drop used bytes)) ∙ ap (λ (l : Bytes). l ++ drop used bytes) front ∙ take-append-drop used bytes

together : (bytes : Bytes) (block : List Entry) → IsBytes bytes → HeaderKept bytes → flat_map body block ≡ old_entries_part bytes → length block ≡ count_in bytes
    → tail_fault bytes ≡ None → old_block_bytes block ≡ bytes
unfolding old_block_bytes old_block_length
together bytes block is head written many none =
    let long : 8 + length (flat_map body block) ≡ used_in bytes = omega (arith, ap length written, part_long bytes head) in
    ap₂ (λ (h b : Bytes). h ++ (b ++ padding (8 + length (flat_map body block)))) (header_written bytes block is head long many) written
    ∙ ap (λ (n : ℕ). take 8 bytes ++ (old_entries_part bytes ++ padding n)) long
    ∙ ap (λ (l : Bytes). take 8 bytes ++ (old_entries_part bytes ++ l)) (sym (tail_written bytes head none))
    ∙ pieces bytes head

small_block : (bytes : Bytes) (block : List Entry) → HeaderKept bytes → flat_map body block ≡ old_entries_part bytes → length block ≡ count_in bytes → 1 < length block → old_block_length block ≤ 4096
unfolding old_block_length
small_block bytes block head written many lt =
    let few = head.small (omega (arith, many, lt)) in
    omega (arith, ap length written, part_long bytes head, few)

pub old_written : (bytes : Bytes) → IsBytes bytes → old_block_fault bytes ≡ None → IsBlock Old (old_block_in bytes) × (old_block_bytes (old_block_in bytes) ≡ bytes)
unfolding old_block_fault old_block_in
old_written bytes is none =
    let a = neither _ _ none in
    let b = neither _ _ a.1 in
    let head = header_was_kept bytes a.0 in
    let block = old_entries_in (count_in bytes) (old_entries_part bytes) in
    let were = entries_written (count_in bytes) 8 is_any (old_entries_part bytes) (part_bytes bytes is) b.0 in
    let low = is 4 in (
      record {
        each = were.each;
        rising = were.follow;
        some = omega (arith, were.many, head.some);
        few = omega (arith, were.many, low);
        small = small_block bytes block head were.written were.many;
      },
      together bytes block is head were.written were.many b.1,
    )
