-- Entries are read as they were written, and were written as they are read.
use Rattle.std.proofs.Common.{◌≡◌, ◌≤◌, ◌+◌, ℕ, Bool, true, false, List, [], ◌∷◌, ◌++◌, length, refl, ap, ap₂, ◌∙◌, arith, length-append}
use Rattle.std.specs.Prelude.{Option, Some, None, ◌==◌, ◌&&◌, ◌||◌, nat_lt, not, flat_map}
use Rattle.std.specs.List.{AllByRecursion}
use Rattle.std.proofs.lemmas.Bool.{ne_eqb, le-ltb, or_from}
use Rattle.map_model.specs.SortedMap.{Bytes}
use Rattle.entry_model.specs.Entries.{Entry, IsLogged, body, bytes_of, keys_of, kind_of}
use Rattle.entry_model.specs.Reading.{key_in, key_length_in, value_length_in, width_in}
use Rattle.key_base.specs.Limits.{is_no_key_length}
use Rattle.block_model.specs.OldReading.{old_entries_fault, old_entries_in, old_entry_fault}
use Rattle.block_model.specs.Order.{Follow}
use Rattle.key_base.specs.ByteOrder.{is_before}
use Rattle.entry_model.proofs.Bodies.{body_size, key_length_again, value_length_again, width_again, key_again, entry_again, behind_body}
use Rattle.block_model.proofs.Refusals.{none_of, not_true, passed}

-- ---- what was written of an entry breaks no rule

kind_kept : (value : Option Bytes) (v : ℕ) → v ≡ length (bytes_of value) → (not (kind_of value == 1) && (not (kind_of value == 2) || nat_lt 0 v)) ≡ false
kind_kept (Some bytes) v e = refl
kind_kept None v e = le-ltb 0 v (omega (arith, e))

pub eqb_zero : (n : ℕ) → 1 ≤ n → (n == 0) ≡ false
eqb_zero n le = ne_eqb n 0 (λ e. omega (arith, e, le))

pub key_length_kept : (n : ℕ) → 1 ≤ n → n ≤ 1024 → is_no_key_length n ≡ false
key_length_kept n some few = or_from (n == 0) (nat_lt 1024 n) (eqb_zero n some) (le-ltb 1024 n few)

pub entry_kept : (place : ℕ) (test : Bytes → Bool) (e : Entry) (rest : Bytes) → IsLogged e → test e.key ≡ true → old_entry_fault place test (body e ++ rest) ≡ None
unfolding old_entry_fault
entry_kept place test e rest is passes =
    let k = key_length_again e rest is.sound in
    let v = value_length_again e rest is.sound in
    let long = length-append (body e) rest in
    let n = body_size e in
    passed _ _ _ _ (le-ltb (length (body e ++ rest)) 7 (omega (arith, long, n)))
    (passed _ _ _ _ (kind_kept e.value (value_length_in (body e ++ rest)) v)
    (passed _ _ _ _ (or_from _ _ (key_length_kept (key_length_in (body e ++ rest)) (omega (arith, k, is.sound.some_key)) (omega (arith, k, is.sound.short_key)))
    (le-ltb 65536 (value_length_in (body e ++ rest)) (omega (arith, v, is.short))))
    (passed _ _ _ _ (le-ltb (length (body e ++ rest)) (width_in (body e ++ rest)) (omega (arith, long, width_again e rest is.sound)))
    (passed _ _ _ _ (not_true (test (key_in (body e ++ rest))) (ap test (key_again e rest is.sound) ∙ passes)) refl))))

pub entries_kept : (place : ℕ) (test : Bytes → Bool) (es : List Entry) → AllByRecursion IsLogged es → Follow test (keys_of es)
    → old_entries_fault (length es) place test (flat_map body es) ≡ None
unfolding old_entries_fault
entries_kept place test [] is rises = refl
entries_kept place test (e ∷ es) is rises =
    let rest = flat_map body es in
    let b = body e ++ rest in
    let later = entries_kept (place + width_in b) (is_before e.key) es is.1 rises.1 in
    none_of _ _ (entry_kept place test e rest is.0 rises.0)
    (ap₂ (λ (k : Bytes) (r : Bytes). old_entries_fault (length es) (place + width_in b) (is_before k) r) (key_again e rest is.0.sound) (behind_body e rest is.0.sound) ∙ later)

pub entries_again : (es : List Entry) → AllByRecursion IsLogged es → old_entries_in (length es) (flat_map body es) ≡ es
unfolding old_entries_in
entries_again [] is = refl
entries_again (e ∷ es) is =
    let rest = flat_map body es in
    ap₂ (λ (x : Entry) (r : Bytes). x ∷ old_entries_in (length es) r) (entry_again e rest is.0.sound) (behind_body e rest is.0.sound) ∙ ap (λ (l : List Entry). e ∷ l) (entries_again es is.1)
