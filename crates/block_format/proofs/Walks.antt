-- How the rules of the entries go on from one entry to the next.
use Rattle.std.proofs.Common.{◌≡◌, ◌≤◌, ◌<◌, ◌+◌, ◌-◌, ℕ, suc, Bool, true, false, cond, length, take, drop, refl, sym, ap, ap₂, ◌∙◌, arith}
use Rattle.std.specs.Option.{option_or}
use Rattle.std.specs.Prelude.{Option, Some, None, bytes_eq, if◌then◌else◌}
use Rattle.std.proofs.lemmas.List.{drop-take}
use Rattle.std.proofs.lemmas.Bool.{le-ltb, lt-ltb}
use Rattle.map_model.specs.SortedMap.{Bytes}
use Rattle.block_model.specs.BlockReading.{count_in, tail_fault, used_in}
use Rattle.block_model.specs.OldReading.{old_block_fault, old_entries_fault, old_entries_part, old_entry_fault, old_header_fault}
use Rattle.block_model.specs.Order.{is_any}
use Rattle.entry_model.specs.Newest.{lookup}
use Rattle.entry_model.specs.Reading.{entry_in, key_in, width_in}
use Rattle.byte_fields.specs.Faults.{Fault, fault, refuse}
use Rattle.key_base.specs.ByteOrder.{is_before}
use Rattle.block_model.proofs.Refusals.{neither}

module _ (n place : ℕ) (test : Bytes → Bool) (rest : Bytes) (some : 0 < n) where
  one_more : n ≡ suc (n - 1)
  one_more = omega (arith, some)

  pub next_kept : old_entry_fault place test rest ≡ None
      → old_entries_fault n place test rest ≡ old_entries_fault (n - 1) (place + width_in rest) (is_before (key_in rest)) (drop (width_in rest) rest)
  unfolding old_entries_fault
  next_kept none =
      let later = old_entries_fault (n - 1) (place + width_in rest) (is_before (key_in rest)) (drop (width_in rest) rest) in
      ap (λ (k : ℕ). old_entries_fault k place test rest) one_more ∙ ap (λ (f : Option Fault). option_or f later) none

  pub next_broken : (f : Fault) → old_entry_fault place test rest ≡ Some f → old_entries_fault n place test rest ≡ Some f
  unfolding old_entries_fault
  next_broken f broken =
      let later = old_entries_fault (n - 1) (place + width_in rest) (is_before (key_in rest)) (drop (width_in rest) rest) in
      ap (λ (k : ℕ). old_entries_fault k place test rest) one_more ∙ ap (λ (g : Option Fault). option_or g later) broken

pub none_is_left : (place : ℕ) (test : Bytes → Bool) (rest : Bytes) → length rest ≤ 0 → old_entries_fault 0 place test rest ≡ None
unfolding old_entries_fault
none_is_left place test rest none = ap (λ (t : Bool). refuse t place 7 None) (le-ltb 0 (length rest) none)

pub some_are_left : (place : ℕ) (test : Bytes → Bool) (rest : Bytes) → 0 < length rest → old_entries_fault 0 place test rest ≡ Some (fault place 7)
unfolding old_entries_fault
some_are_left place test rest some = ap (λ (t : Bool). refuse t place 7 None) (lt-ltb 0 (length rest) some)

-- ---- the whole block

pub part_is : (bytes : Bytes) (used : ℕ) → 16 ≤ used → used ≡ used_in bytes → take (used - 8) (drop 8 bytes) ≡ old_entries_part bytes
unfolding old_entries_part
part_is bytes used some is =
    let sum : 8 + (used - 8) ≡ used_in bytes = omega (arith, some, is) in
    sym (drop-take 8 (used - 8) bytes) ∙ ap (λ (n : ℕ). drop 8 (take n bytes)) sum

pub no_fault : (bytes : Bytes) (used count : ℕ) → 16 ≤ used → used ≡ used_in bytes → count ≡ count_in bytes
    → old_header_fault bytes ≡ None → old_entries_fault count 8 is_any (take (used - 8) (drop 8 bytes)) ≡ None → tail_fault bytes ≡ None
    → old_block_fault bytes ≡ None
unfolding old_block_fault
no_fault bytes used count some is counted head entries tail =
    let part : old_entries_fault (count_in bytes) 8 is_any (old_entries_part bytes) ≡ None =
    ap₂ (λ (n : ℕ) (l : Bytes). old_entries_fault n 8 is_any l) (sym counted) (sym (part_is bytes used some is)) ∙ entries in
    ap (λ (f : Option Fault). option_or f (option_or (old_entries_fault (count_in bytes) 8 is_any (old_entries_part bytes)) (tail_fault bytes))) head
    ∙ ap (λ (f : Option Fault). option_or f (tail_fault bytes)) part
    ∙ tail

pub entries_broken : (bytes : Bytes) (used count : ℕ) (f : Fault) → 16 ≤ used → used ≡ used_in bytes → count ≡ count_in bytes
    → old_header_fault bytes ≡ None → old_entries_fault count 8 is_any (take (used - 8) (drop 8 bytes)) ≡ Some f
    → old_block_fault bytes ≡ Some f
unfolding old_block_fault
entries_broken bytes used count f some is counted head broken =
    let part : old_entries_fault (count_in bytes) 8 is_any (old_entries_part bytes) ≡ Some f =
    ap₂ (λ (n : ℕ) (l : Bytes). old_entries_fault n 8 is_any l) (sym counted) (sym (part_is bytes used some is)) ∙ broken in
    ap (λ (g : Option Fault). option_or g (option_or (old_entries_fault (count_in bytes) 8 is_any (old_entries_part bytes)) (tail_fault bytes))) head
    ∙ ap (λ (g : Option Fault). option_or g (tail_fault bytes)) part

pub tail_broken : (bytes : Bytes) (used count : ℕ) (f : Fault) → 16 ≤ used → used ≡ used_in bytes → count ≡ count_in bytes
    → old_header_fault bytes ≡ None → old_entries_fault count 8 is_any (take (used - 8) (drop 8 bytes)) ≡ None → tail_fault bytes ≡ Some f
    → old_block_fault bytes ≡ Some f
unfolding old_block_fault
tail_broken bytes used count f some is counted head entries tail =
    let part : old_entries_fault (count_in bytes) 8 is_any (old_entries_part bytes) ≡ None =
    ap₂ (λ (n : ℕ) (l : Bytes). old_entries_fault n 8 is_any l) (sym counted) (sym (part_is bytes used some is)) ∙ entries in
    ap (λ (g : Option Fault). option_or g (option_or (old_entries_fault (count_in bytes) 8 is_any (old_entries_part bytes)) (tail_fault bytes))) head
    ∙ ap (λ (g : Option Fault). option_or g (tail_fault bytes)) part
    ∙ tail

-- of a block that breaks no rule neither its header nor its entries do
pub head_none : (bytes : Bytes) → old_block_fault bytes ≡ None → old_header_fault bytes ≡ None
unfolding old_block_fault
head_none bytes none = (neither (old_header_fault bytes) _ none).0

pub entries_none : (bytes : Bytes) (used count : ℕ) → 16 ≤ used → used ≡ used_in bytes → count ≡ count_in bytes → old_block_fault bytes ≡ None
    → old_entries_fault count 8 is_any (take (used - 8) (drop 8 bytes)) ≡ None
unfolding old_block_fault
entries_none bytes used count some is counted none =
    ap₂ (λ (n : ℕ) (l : Bytes). old_entries_fault n 8 is_any l) counted (part_is bytes used some is)
    ∙ (neither (old_entries_fault (count_in bytes) 8 is_any (old_entries_part bytes)) (tail_fault bytes) (neither (old_header_fault bytes) _ none).1).0
