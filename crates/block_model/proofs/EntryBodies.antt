-- Entries with shared prefixes are read as they were spelled.
use Rattle.std.proofs.Common.{◌≡◌, ◌+◌, ◌-◌, ◌≤◌, ℕ, true, false, cond, ◌++◌, length, take, drop, refl, sym, ap, ap₂, ◌∙◌, arith, append_assoc, length-append, length-drop}
use Rattle.std.specs.Prelude.{Option, Some, None, ◌==◌, ◌&&◌, ◌||◌, nat_lt, not}
use Rattle.std.proofs.lemmas.Bool.{eq-eqb, le-ltb, or_from}
use Rattle.std.proofs.lemmas.List.{take_at, drop_at, drop-drop}
use Rattle.std.proofs.lemmas.List.Sums.{common_prefix_len-le}
use Rattle.byteorder.specs.Endian.{little_bytes}
use Rattle.byte_fields.proofs.NumberLemmas.{number_again}
use Rattle.key_base.specs.ByteOrder.{is_before}
use Rattle.key_base.specs.Prefixes.{alike}
use Rattle.key_base.proofs.Prefixes.{shared_and_rest}
use Rattle.map_model.specs.SortedMap.{Bytes}
use Rattle.entry_model.specs.Entries.{Entry, IsEntry, bytes_of, kind_of}
use Rattle.block_model.specs.BlockReading.{entry_fault_by}
use Rattle.block_model.specs.Bodies.{entry_bytes}
use Rattle.block_model.specs.Formats.{Prefixed, begins_anew, key_by, rest_length_in, shared_in, value_by, value_length_by, wants_shared, width_by}
use Rattle.block_model.proofs.OldEntriesRead.{key_length_kept}
use Rattle.block_model.proofs.Refusals.{not_true, passed}

pub entry_size : (n : ℕ) (e : Entry) → length (entry_bytes n e) ≡ 9 + (length e.key - n) + length (bytes_of e.value)
entry_size n e = omega (arith, length-append (drop n e.key) (bytes_of e.value), length-drop n e.key)

-- how much is shared is at most what both keys have
pub wants_few : (i : ℕ) (before key : Bytes) → (wants_shared i before key ≤ length before) × (wants_shared i before key ≤ length key)
wants_few i before key = elim (begins_anew i) as (λ t. (cond t 0 (alike before key) ≤ length before) × (cond t 0 (alike before key) ≤ length key)) [
  | true ↦ (omega arith, omega arith)
  | false ↦ common_prefix_len-le (λ a b. a == b) before key
]

-- and the key is that and its rest
pub wants_whole : (i : ℕ) (before key : Bytes) → take (wants_shared i before key) before ++ drop (wants_shared i before key) key ≡ key
wants_whole i before key = elim (begins_anew i) as (λ t. take (cond t 0 (alike before key)) before ++ drop (cond t 0 (alike before key)) key ≡ key) [
  | true ↦ refl
  | false ↦ shared_and_rest (alike before key) before key (omega arith)
]

-- what follows the nine first bytes
abbrev behind : ℕ → Entry → Bytes → Bytes
behind n e rest = (drop n e.key ++ bytes_of e.value) ++ rest

module _ (n : ℕ) (e : Entry) (rest : Bytes) (is : IsEntry e) (few : n ≤ length e.key) where
  abbrev pub all : Bytes
  all = entry_bytes n e ++ rest

  pub shared_again : shared_in Prefixed all ≡ n
  shared_again = number_again 2 n (little_bytes 2 (length e.key - n) ++ (little_bytes 4 (length (bytes_of e.value)) ++ behind n e rest)) (omega (arith, few, is.short_key))

  pub rest_length_again : rest_length_in Prefixed all ≡ length e.key - n
  rest_length_again = number_again 2 (length e.key - n) (little_bytes 4 (length (bytes_of e.value)) ++ behind n e rest) (omega (arith, is.short_key))

  pub value_length_is : value_length_by Prefixed all ≡ length (bytes_of e.value)
  value_length_is = number_again 4 (length (bytes_of e.value)) (behind n e rest) (omega (arith, is.short_value))

  pub width_is : width_by Prefixed all ≡ length (entry_bytes n e)
  unfolding width_by
  width_is = omega (arith, rest_length_again, value_length_is, entry_size n e)

  rest_part : take (length e.key - n) (behind n e rest) ≡ drop n e.key
  rest_part = ap (take (length e.key - n)) (append_assoc (drop n e.key) (bytes_of e.value) rest)
      ∙ take_at (drop n e.key) (bytes_of e.value ++ rest) (length e.key - n) (length-drop n e.key)

  pub key_is : (before : Bytes) → take n before ++ drop n e.key ≡ e.key → key_by Prefixed before all ≡ e.key
  unfolding key_by
  key_is before whole =
      ap₂ (λ (m k : ℕ). take m before ++ take k (behind n e rest)) shared_again rest_length_again
      ∙ ap (λ (l : Bytes). take n before ++ l) rest_part ∙ whole

  value_part : take (value_length_by Prefixed all) (drop (9 + rest_length_in Prefixed all) all) ≡ bytes_of e.value
  value_part =
      let k = length e.key - n in
      let v = length (bytes_of e.value) in
      let value = bytes_of e.value in
      let from : drop (9 + k) all ≡ value ++ rest =
      sym (drop-drop k 9 all) ∙ ap (drop k) (append_assoc (drop n e.key) value rest) ∙ drop_at (drop n e.key) (value ++ rest) k (length-drop n e.key) in
      ap₂ (λ (m j : ℕ). take m (drop (9 + j) all)) value_length_is rest_length_again ∙ ap (take v) from ∙ take_at value rest v refl

  value_again : (value : Option Bytes) (bytes : Bytes) → bytes ≡ bytes_of value → cond (kind_of value == 1) (Some bytes) None ≡ value
  value_again (Some value) bytes same = ap Some same
  value_again None bytes same = refl

  pub value_is : value_by Prefixed all ≡ e.value
  unfolding value_by
  value_is = value_again e.value _ value_part

  pub after_it : drop (width_by Prefixed all) all ≡ rest
  after_it = drop_at (entry_bytes n e) rest (width_by Prefixed all) (sym width_is)

kind_kept : (value : Option Bytes) (v : ℕ) → v ≡ length (bytes_of value) → (not (kind_of value == 1) && (not (kind_of value == 2) || nat_lt 0 v)) ≡ false
kind_kept (Some bytes) v e = refl
kind_kept None v e = le-ltb 0 v (omega (arith, e))

-- ---- what was spelled of an entry breaks no rule

pub entry_kept : (i place : ℕ) (before : Bytes) (e : Entry) (rest : Bytes) → IsEntry e → is_before before e.key ≡ true
    → entry_fault_by Prefixed i place before (entry_bytes (wants_shared i before e.key) e ++ rest) ≡ None
unfolding entry_fault_by
entry_kept i place before e rest is rises =
    let n = wants_shared i before e.key in
    let few = (wants_few i before e.key).1 in
    let all = entry_bytes n e ++ rest in
    let s = shared_again n e rest is few in
    let r = rest_length_again n e rest is few in
    let v = value_length_is n e rest is few in
    let key = key_is n e rest is few before (wants_whole i before e.key) in
    let long = length-append (entry_bytes n e) rest in
    let size = entry_size n e in
    let same : shared_in Prefixed all ≡ wants_shared i before (key_by Prefixed before all) = s ∙ sym (ap (wants_shared i before) key) in
    passed _ _ _ _ (le-ltb (length all) 9 (omega (arith, long, size)))
    (passed _ _ _ _ (kind_kept e.value (value_length_by Prefixed all) v)
    (passed _ _ _ _ (or_from _ _ (key_length_kept (shared_in Prefixed all + rest_length_in Prefixed all) (omega (arith, s, r, few, is.some_key)) (omega (arith, s, r, few, is.short_key)))
    (le-ltb 1048576 (value_length_by Prefixed all) (omega (arith, v, is.short_value))))
    (passed _ _ _ _ (le-ltb (length all) (width_by Prefixed all) (omega (arith, long, width_is n e rest is few)))
    (passed _ _ _ _ (not_true _ (eq-eqb _ _ same))
    (passed _ _ _ _ (not_true (is_before before (key_by Prefixed before all)) (ap (is_before before) key ∙ rises)) refl)))))
