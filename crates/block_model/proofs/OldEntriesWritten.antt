-- Entries that break no rule were written as they are read.
use Rattle.std.proofs.Common.{◌≡◌, ◌⊎◌, inl, inr, ◌≤◌, ◌+◌, ℕ, zero, suc, Bool, true, false, ◌++◌, length, take, drop, refl, sym, ap₂, ◌∙◌, arith}
use Rattle.std.specs.Prelude.{None, ◌==◌, ◌&&◌, ◌||◌, nat_lt, not, flat_map}
use Rattle.std.specs.List.{AllByRecursion}
use Rattle.std.proofs.lemmas.Bool.{eqb-true, ltb-false, or_parts}
use Rattle.std.proofs.lemmas.List.{nil_from_length, take-append-drop}
use Rattle.byte_fields.specs.Spelling.{IsBytes}
use Rattle.byte_fields.proofs.NumberLemmas.{IsBytes-drop}
use Rattle.map_model.specs.SortedMap.{Bytes}
use Rattle.entry_model.specs.Entries.{IsLogged, body, keys_of}
use Rattle.entry_model.specs.Reading.{entry_in, key_in, key_length_in, kind_in, value_length_in, width_in}
use Rattle.key_base.specs.Limits.{is_no_key_length}
use Rattle.block_model.specs.OldReading.{old_entries_fault, old_entries_in, old_entry_fault}
use Rattle.block_model.specs.Order.{Follow}
use Rattle.key_base.specs.ByteOrder.{is_before}
use Rattle.block_model.proofs.LastBlocks.{positive}
use Rattle.entry_model.proofs.Bodies.{KeepsLimits, sound_read, body_read}
use Rattle.block_model.proofs.Refusals.{kept, neither, not_false}

-- ---- an entry

pub key_length_sound : (n : ℕ) → is_no_key_length n ≡ false → (1 ≤ n) × (n ≤ 1024)
key_length_sound n e =
    let both = or_parts (n == 0) (nat_lt 1024 n) e in
    let some = positive n (sym both.0) in
    let few = ltb-false 1024 n both.1 in
    (omega (arith, some), omega (arith, few))

-- the kind is a value's, or a tombstone's without one
pub kind_sound : (kind v : ℕ) → (not (kind == 1) && (not (kind == 2) || nat_lt 0 v)) ≡ false → ((kind ≡ 1) ⊎ (kind ≡ 2)) × (kind ≡ 2 → v ≡ 0)
kind_sound kind v ok = elim (kind == 1) as (λ t. (kind == 1) ≡ t → (not t && (not (kind == 2) || nat_lt 0 v)) ≡ false → ((kind ≡ 1) ⊎ (kind ≡ 2)) × (kind ≡ 2 → v ≡ 0)) [
  | true ↦ λ is ok. (inl (eqb-true kind 1 is), λ two. absurd (omega (arith, eqb-true kind 1 is, two)))
  | false ↦ λ is ok.
      let both = or_parts (not (kind == 2)) (nat_lt 0 v) ok in
      (inr (eqb-true kind 2 (not_false (kind == 2) both.0)), λ _. omega (arith, ltb-false 0 v both.1))
] refl ok

pub record WasWritten (rest : Bytes) (test : Bytes → Bool) : Type 0 where
  pub within : width_in rest ≤ length rest
  pub written : body (entry_in rest) ≡ take (width_in rest) rest
  pub is : IsLogged (entry_in rest)
  pub passes : test (key_in rest) ≡ true

pub entry_written : (place : ℕ) (test : Bytes → Bool) (rest : Bytes) → IsBytes rest → old_entry_fault place test rest ≡ None → WasWritten rest test
unfolding old_entry_fault width_in key_in entry_in
entry_written place test rest bytes none =
    let a = kept _ _ _ _ none in
    let b = kept _ _ _ _ a.1 in
    let c = kept _ _ _ _ b.1 in
    let d = kept _ _ _ _ c.1 in
    let f = kept _ _ _ _ d.1 in
    let lengths = or_parts _ _ c.0 in
    let keys = key_length_sound (key_length_in rest) lengths.0 in
    let within : width_in rest ≤ length rest = ltb-false _ _ d.0 in
    let kinds = kind_sound (kind_in rest) (value_length_in rest) b.0 in
    let limits : KeepsLimits rest = record { kind = kinds.0; some_key = keys.0; short_key = keys.1; short_value = ltb-false _ _ lengths.1; no_value = kinds.1; room = within } in
    record { within = within; written = body_read rest bytes limits; is = sound_read rest bytes limits; passes = not_false _ f.0 }

-- ---- entries, one after the other

pub record WereWritten (n : ℕ) (rest : Bytes) (test : Bytes → Bool) : Type 0 where
  pub written : flat_map body (old_entries_in n rest) ≡ rest
  pub each : AllByRecursion IsLogged (old_entries_in n rest)
  pub follow : Follow test (keys_of (old_entries_in n rest))
  pub many : length (old_entries_in n rest) ≡ n

pub entries_written : (n place : ℕ) (test : Bytes → Bool) (rest : Bytes) → IsBytes rest → old_entries_fault n place test rest ≡ None → WereWritten n rest test
unfolding old_entries_fault old_entries_in entry_in
entries_written zero place test rest bytes none =
    let le : length rest ≤ 0 = ltb-false 0 (length rest) (kept (nat_lt 0 (length rest)) place 7 None none).0 in
    record { written = sym (nil_from_length rest (omega (arith, le))); each = tt; follow = tt; many = refl }
entries_written (suc n) place test rest bytes none =
    let both = neither _ _ none in
    let one = entry_written place test rest bytes both.0 in
    let w = width_in rest in
    let later = entries_written n (place + w) (is_before (key_in rest)) (drop w rest) (IsBytes-drop w rest bytes) both.1 in
    record {
      written = ap₂ (λ (a b : Bytes). a ++ b) one.written later.written ∙ take-append-drop w rest;
      each = (one.is, later.each);
      follow = (one.passes, later.follow);
      many = omega (arith, later.many);
    }
