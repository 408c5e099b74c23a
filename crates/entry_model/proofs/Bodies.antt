-- A body is read as it was spelled, and what keeps the limits was spelled as it is read.
use Rattle.std.proofs.Common.{◌≡◌, ◌⊎◌, inl, inr, ◌+◌, ◌<◌, ◌≤◌, ℕ, suc, [], ◌∷◌, ◌++◌, cond, length, take, drop, refl, sym, ap, ap₂, ◌∙◌, subst, arith, append_assoc, length-append, length-take-le, length-drop}
use Rattle.std.specs.Prelude.{Option, Some, None, ◌==◌}
use Rattle.std.proofs.lemmas.List.{take_at, drop_at, drop-drop}
use Rattle.std.proofs.Math.Seq.{take-add}
use Rattle.byteorder.specs.Endian.{little_bytes}
use Rattle.key_base.specs.Limits.{max_key_bytes, max_logged_value_bytes}
use Rattle.byte_fields.specs.Spelling.{IsBytes}
use Rattle.byte_fields.proofs.NumberLemmas.{IsBytes-drop, IsBytes-take, number_again, number_back}
use Rattle.map_model.specs.SortedMap.{Bytes}
use Rattle.entry_model.specs.Entries.{Entry, kind_of, bytes_of, body, IsEntry, IsLogged}
use Rattle.entry_model.specs.Reading.{kind_in, key_length_in, value_length_in, width_in, key_in, entry_in}

pub body_size : (entry : Entry) → length (body entry) ≡ 7 + length entry.key + length (bytes_of entry.value)
body_size entry = omega (arith, length-append entry.key (bytes_of entry.value))

-- ---- what was written of an entry is read

-- what follows the seven first bytes
abbrev behind : Entry → Bytes → Bytes
behind e rest = (e.key ++ bytes_of e.value) ++ rest

pub key_length_again : (e : Entry) (rest : Bytes) → IsEntry e → key_length_in (body e ++ rest) ≡ length e.key
key_length_again e rest is = number_again 2 (length e.key) (little_bytes 4 (length (bytes_of e.value)) ++ behind e rest) (omega (arith, is.short_key))

pub value_length_again : (e : Entry) (rest : Bytes) → IsEntry e → value_length_in (body e ++ rest) ≡ length (bytes_of e.value)
value_length_again e rest is = number_again 4 (length (bytes_of e.value)) (behind e rest) (omega (arith, is.short_value))

pub width_again : (e : Entry) (rest : Bytes) → IsEntry e → width_in (body e ++ rest) ≡ length (body e)
unfolding width_in
width_again e rest is = omega (arith, key_length_again e rest is, value_length_again e rest is, body_size e)

key_part : (e : Entry) (rest : Bytes) → take (length e.key) (behind e rest) ≡ e.key
key_part e rest = ap (take (length e.key)) (append_assoc e.key (bytes_of e.value) rest) ∙ take_at e.key (bytes_of e.value ++ rest) (length e.key) refl

pub key_again : (e : Entry) (rest : Bytes) → IsEntry e → key_in (body e ++ rest) ≡ e.key
unfolding key_in
key_again e rest is = ap (λ (n : ℕ). take n (behind e rest)) (key_length_again e rest is) ∙ key_part e rest

pub value_part : (e : Entry) (rest : Bytes) → IsEntry e → take (value_length_in (body e ++ rest)) (drop (7 + key_length_in (body e ++ rest)) (body e ++ rest)) ≡ bytes_of e.value
value_part e rest is =
    let k = length e.key in
    let v = length (bytes_of e.value) in
    let value = bytes_of e.value in
    let from : drop (7 + k) (body e ++ rest) ≡ value ++ rest =
    sym (drop-drop k 7 (body e ++ rest)) ∙ ap (drop k) (append_assoc e.key value rest) ∙ drop_at e.key (value ++ rest) k refl in
    ap₂ (λ (n m : ℕ). take n (drop (7 + m) (body e ++ rest))) (value_length_again e rest is) (key_length_again e rest is)
    ∙ ap (take v) from ∙ take_at value rest v refl

value_again : (key : Bytes) (value : Option Bytes) (n : ℕ) (bytes : Bytes) → bytes ≡ bytes_of value → cond (kind_of value == 1) (Some bytes) None ≡ value
value_again key (Some value) n bytes is = ap Some is
value_again key None n bytes is = refl

pub entry_again : (e : Entry) (rest : Bytes) → IsEntry e → entry_in (body e ++ rest) ≡ e
unfolding entry_in
entry_again e rest is =
    ap₂ (λ (k : Bytes) (v : Option Bytes). record { key = k; value = v }) (key_again e rest is) (value_again e.key e.value 0 _ (value_part e rest is))

pub behind_body : (e : Entry) (rest : Bytes) → IsEntry e → drop (width_in (body e ++ rest)) (body e ++ rest) ≡ rest
behind_body e rest is = drop_at (body e) rest (width_in (body e ++ rest)) (sym (width_again e rest is))

-- ---- as it was read

-- what is read of the bytes is a value or a tombstone, within the limits, and all of it is there
pub record KeepsLimits (bytes : Bytes) : Type 0 where
  pub kind : (kind_in bytes ≡ 1) ⊎ (kind_in bytes ≡ 2)
  pub some_key : 1 ≤ key_length_in bytes
  pub short_key : key_length_in bytes ≤ max_key_bytes
  pub short_value : value_length_in bytes ≤ max_logged_value_bytes
  pub no_value : kind_in bytes ≡ 2 → value_length_in bytes ≡ 0
  pub room : 7 + key_length_in bytes + value_length_in bytes ≤ length bytes

-- the value of an entry of a kind
abbrev pub valued : ℕ → Bytes → Option Bytes
valued kind bytes = cond (kind == 1) (Some bytes) None

-- two pieces of some bytes, one behind the other
pub joined : (m n at : ℕ) (bytes : Bytes) → take m (drop at bytes) ++ take n (drop (at + m) bytes) ≡ take (m + n) (drop at bytes)
joined m n at bytes = ap (λ (l : Bytes). take m (drop at bytes) ++ take n l) (sym (drop-drop m at bytes)) ∙ sym (take-add m n (drop at bytes))

pub kind_again : (kind : ℕ) (bytes : Bytes) → (kind ≡ 1) ⊎ (kind ≡ 2) → kind_of (valued kind bytes) ≡ kind
kind_again kind bytes (inl one) = ap (λ (n : ℕ). kind_of (valued n bytes)) one ∙ sym one
kind_again kind bytes (inr two) = ap (λ (n : ℕ). kind_of (valued n bytes)) two ∙ sym two

pub bytes_again : (kind v : ℕ) (bytes : Bytes) → (kind ≡ 1) ⊎ (kind ≡ 2) → (kind ≡ 2 → v ≡ 0) → bytes_of (valued kind (take v bytes)) ≡ take v bytes
bytes_again kind v bytes (inl one) none = ap (λ (n : ℕ). bytes_of (valued n (take v bytes))) one
bytes_again kind v bytes (inr two) none = ap (λ (n : ℕ). bytes_of (valued n (take v bytes))) two ∙ ap (λ (n : ℕ). take n bytes) (sym (none two))

pub first_again : (n : ℕ) (bytes : Bytes) → 0 < length bytes → kind_in bytes ∷ take n (drop 1 bytes) ≡ take (suc n) bytes
first_again n [] some = absurd (omega arith)
first_again n (b ∷ bytes) some = refl

module _ (bytes : Bytes) (is_bytes : IsBytes bytes) (rules : KeepsLimits bytes) where
  key_size : length (take (key_length_in bytes) (drop 7 bytes)) ≡ key_length_in bytes
  key_size = length-take-le (key_length_in bytes) (drop 7 bytes) (omega (arith, rules.room, length-drop 7 bytes))

  value_is : bytes_of (entry_in bytes).value ≡ take (value_length_in bytes) (drop (7 + key_length_in bytes) bytes)
  unfolding entry_in
  value_is = bytes_again (kind_in bytes) (value_length_in bytes) (drop (7 + key_length_in bytes) bytes) rules.kind rules.no_value

  value_size : length (bytes_of (entry_in bytes).value) ≡ value_length_in bytes
  value_size = ap length value_is ∙ length-take-le (value_length_in bytes) (drop (7 + key_length_in bytes) bytes) (omega (arith, rules.room, length-drop (7 + key_length_in bytes) bytes))

  pub sound_read : IsLogged (entry_in bytes)
  unfolding entry_in key_in
  sound_read = record {
    sound = record {
      some_key = omega (arith, key_size, rules.some_key);
      short_key = omega (arith, key_size, rules.short_key);
      short_value = omega (arith, value_size, rules.short_value);
      key_bytes = IsBytes-take (key_length_in bytes) (drop 7 bytes) (IsBytes-drop 7 bytes is_bytes);
      value_bytes = subst IsBytes (sym value_is) (IsBytes-take (value_length_in bytes) (drop (7 + key_length_in bytes) bytes) (IsBytes-drop (7 + key_length_in bytes) bytes is_bytes));
    };
    short = omega (arith, value_size, rules.short_value);
  }

  pub size_read : length (body (entry_in bytes)) ≡ width_in bytes
  unfolding entry_in key_in width_in
  size_read = omega (arith, body_size (entry_in bytes), key_size, value_size)

  pub body_read : body (entry_in bytes) ≡ take (width_in bytes) bytes
  unfolding entry_in key_in width_in
  body_read =
      let key = key_length_in bytes in
      let value = value_length_in bytes in
      let e = entry_in bytes in
      let kind_is : kind_of e.value ≡ kind_in bytes = kind_again (kind_in bytes) (take value (drop (7 + key) bytes)) rules.kind in
      let key_spelled : little_bytes 2 (length e.key) ≡ take 2 (drop 1 bytes) =
      ap (little_bytes 2) key_size ∙ number_back 2 (drop 1 bytes) (IsBytes-drop 1 bytes is_bytes) (omega (arith, rules.room, length-drop 1 bytes)) in
      let value_spelled : little_bytes 4 (length (bytes_of e.value)) ≡ take 4 (drop 3 bytes) =
      ap (little_bytes 4) value_size ∙ number_back 4 (drop 3 bytes) (IsBytes-drop 3 bytes is_bytes) (omega (arith, rules.room, length-drop 3 bytes)) in
      let all : ℕ = 6 + (key + value) in
      let count : suc (2 + (4 + (key + value))) ≡ width_in bytes = omega arith in
      (λ i. kind_is i ∷ (key_spelled i ++ (value_spelled i ++ (e.key ++ value_is i))))
      ∙ ap (λ (l : Bytes). kind_in bytes ∷ (take 2 (drop 1 bytes) ++ (take 4 (drop 3 bytes) ++ l))) (joined key value 7 bytes)
      ∙ ap (λ (l : Bytes). kind_in bytes ∷ (take 2 (drop 1 bytes) ++ l)) (joined 4 (key + value) 3 bytes)
      ∙ ap (λ (l : Bytes). kind_in bytes ∷ l) (joined 2 (4 + (key + value)) 1 bytes)
      ∙ first_again (2 + (4 + (key + value))) bytes (omega (arith, rules.room))
      ∙ ap (λ (n : ℕ). take n bytes) count
