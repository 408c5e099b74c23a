-- Blocks of the old format are judged and read by the format's definitions as by their own.
use Rattle.std.proofs.Common.{◌≡◌, ◌≤◌, ◌+◌, ℕ, zero, suc, Bool, true, false, List, [], ◌∷◌, length, take, drop, refl, sym, ap, ap₂, ◌∙◌, subst, arith, length-drop, length-take-le}
use Rattle.std.specs.Prelude.{Option, None, ◌||◌, nat_lt, not}
use Rattle.std.specs.List.{AllByRecursion}
use Rattle.std.specs.Option.{option_or}
use Rattle.std.proofs.lemmas.Bool.{ltb-false, or_parts}
use Rattle.byte_fields.specs.Faults.{Fault, refuse}
use Rattle.byte_fields.specs.Spelling.{IsBytes}
use Rattle.key_base.specs.ByteOrder.{is_before}
use Rattle.key_base.specs.Limits.{is_no_key_length}
use Rattle.map_model.specs.SortedMap.{Bytes}
use Rattle.entry_model.specs.Entries.{Entry}
use Rattle.entry_model.specs.Reading.{entry_in, key_in, key_length_in, value_length_in, width_in}
use Rattle.block_model.specs.Block.{IsBlock, spelled_by}
use Rattle.block_model.specs.BlockReading.{block_fault_by, block_in_by, count_in, entries_fault_by, entries_part_by, entry_fault_by, header_fault_by, tail_fault}
use Rattle.block_model.specs.FormatLaws.{EitherFillsItsPages, OldIsReadAsBefore}
use Rattle.block_model.specs.Formats.{Format, Old, Prefixed, entries_by, format_in, key_by, value_by, width_by}
use Rattle.block_model.specs.Laws.{BlockIsReadAgain, BlockWasWrittenSo}
use Rattle.block_model.specs.OldBlock.{old_block_bytes, old_header_bytes}
use Rattle.block_model.specs.OldReading.{has_no_kind, old_block_fault, old_block_in, old_entries_fault, old_entries_in, old_entries_part, old_entry_fault, old_header_fault}
use Rattle.block_model.specs.Order.{is_any}
use Rattle.block_model.proofs.OldBlocksRead.{old_again}
use Rattle.block_model.proofs.OldBlocksWritten.{old_written}
use Rattle.block_model.proofs.OldEntriesWritten.{key_length_sound}
use Rattle.block_model.proofs.Lengths.{old_fills}
use Rattle.block_model.proofs.BlocksRead.{above_none, block_again, block_fills}
use Rattle.block_model.proofs.BlocksWritten.{block_written}

-- ---- entries

zero_more : (n : ℕ) → 0 + n ≡ n
zero_more n = omega arith

entry_old : (i place : ℕ) (before rest : Bytes) → entry_fault_by Old i place before rest ≡ old_entry_fault place (is_before before) rest
unfolding entry_fault_by old_entry_fault key_by key_in width_by width_in
entry_old i place before rest =
    ap (λ (n : ℕ). refuse (nat_lt (length rest) 7) place 3 (refuse (has_no_kind rest) place 4 (refuse (is_no_key_length n || nat_lt 65536 (value_length_in rest)) place 5
    (refuse (nat_lt (length rest) (width_in rest)) place 3 (refuse (not (is_before before (key_in rest))) place 6 None)))))
    (zero_more (key_length_in rest))

entries_old : (bytes : Bytes) (i n place : ℕ) (before rest : Bytes) → entries_fault_by Old bytes i n place before rest ≡ old_entries_fault n place (is_before before) rest
unfolding entries_fault_by old_entries_fault key_by key_in width_by width_in
entries_old bytes i zero place before rest = refl
entries_old bytes i (suc n) place before rest =
    ap₂ (λ (a b : Option Fault). option_or a b) (entry_old i place before rest) (entries_old bytes (suc i) n (place + width_in rest) (key_in rest) (drop (width_in rest) rest))

last_of_five : (a b c d : Bool) (place : ℕ) (one other : Option Fault) → (c ≡ false → d ≡ false → one ≡ other)
    → refuse a place 3 (refuse b place 4 (refuse c place 5 (refuse d place 3 one))) ≡ refuse a place 3 (refuse b place 4 (refuse c place 5 (refuse d place 3 other)))
last_of_five true b c d place one other same = refl
last_of_five false true c d place one other same = refl
last_of_five false false true d place one other same = refl
last_of_five false false false true place one other same = refl
last_of_five false false false false place one other same = same refl refl

first_key_above : (rest : Bytes) → 1 ≤ key_length_in rest → width_in rest ≤ length rest → is_before [] (key_in rest) ≡ true
unfolding key_in width_in
first_key_above rest some within =
    let k = key_length_in rest in
    above_none (take k (drop 7 rest)) (omega (arith, some, length-take-le k (drop 7 rest) (omega (arith, within, length-drop 7 rest))))

entry_first : (place : ℕ) (rest : Bytes) → old_entry_fault place (is_before []) rest ≡ old_entry_fault place is_any rest
unfolding old_entry_fault
entry_first place rest = last_of_five _ _ _ _ place _ _ (λ lengths whole.
    ap (λ (t : Bool). refuse (not t) place 6 None) (first_key_above rest (key_length_sound (key_length_in rest) (or_parts _ _ lengths).0).0 (ltb-false _ _ whole)))

entries_first : (n place : ℕ) (rest : Bytes) → old_entries_fault n place (is_before []) rest ≡ old_entries_fault n place is_any rest
unfolding old_entries_fault
entries_first zero place rest = refl
entries_first (suc n) place rest =
    ap (λ (o : Option Fault). option_or o (old_entries_fault n (place + width_in rest) (is_before (key_in rest)) (drop (width_in rest) rest))) (entry_first place rest)

entries_read_old : (n : ℕ) (before rest : Bytes) → entries_by Old n before rest ≡ old_entries_in n rest
unfolding entries_by old_entries_in entry_in key_by key_in value_by width_by width_in
entries_read_old zero before rest = refl
entries_read_old (suc n) before rest = ap (λ (l : List Entry). entry_in rest ∷ l) (entries_read_old n (key_in rest) (drop (width_in rest) rest))

-- ---- blocks

header_old : (bytes : Bytes) → header_fault_by Old bytes ≡ old_header_fault bytes
unfolding header_fault_by old_header_fault
header_old bytes = refl

fault_old : (bytes : Bytes) → block_fault_by Old bytes ≡ old_block_fault bytes
unfolding block_fault_by old_block_fault entries_part_by old_entries_part
fault_old bytes =
    ap₂ (λ (h es : Option Fault). option_or h (option_or es (tail_fault bytes))) (header_old bytes)
    (entries_old bytes 0 (count_in bytes) 8 [] (old_entries_part bytes) ∙ entries_first (count_in bytes) 8 (old_entries_part bytes))

block_old : (bytes : Bytes) → block_in_by Old bytes ≡ old_block_in bytes
unfolding block_in_by old_block_in entries_part_by old_entries_part
block_old bytes = entries_read_old (count_in bytes) [] (old_entries_part bytes)

pub old_as_before : OldIsReadAsBefore
old_as_before bytes old =
    (ap (λ (f : Format). block_fault_by f bytes) old ∙ fault_old bytes, ap (λ (f : Format). block_in_by f bytes) old ∙ block_old bytes)

-- ---- either format

old_format : (block : List Entry) → format_in (old_block_bytes block) ≡ Old
unfolding old_block_bytes old_header_bytes
old_format block = refl

pub either_again : BlockIsReadAgain
either_again Old block is =
    let same = old_as_before (old_block_bytes block) (old_format block) in
    let both = old_again block is in
    (same.0 ∙ both.0, same.1 ∙ both.1)
either_again Prefixed block is = block_again block is

pub either_fills : EitherFillsItsPages
either_fills Old block = old_fills block
either_fills Prefixed block = block_fills block

abbrev was_written : Format → Bytes → Type 0
was_written f bytes = IsBlock f (block_in_by f bytes) × (spelled_by f (block_in_by f bytes) ≡ bytes)

written_by : (f : Format) (bytes : Bytes) → IsBytes bytes → block_fault_by f bytes ≡ None → was_written f bytes
written_by Old bytes is none =
    let both = old_written bytes is (sym (fault_old bytes) ∙ none) in
    (subst (IsBlock Old) (sym (block_old bytes)) both.0, ap old_block_bytes (block_old bytes) ∙ both.1)
written_by Prefixed bytes is none = block_written bytes is none

pub either_written : BlockWasWrittenSo
either_written bytes is none = written_by (format_in bytes) bytes is none
