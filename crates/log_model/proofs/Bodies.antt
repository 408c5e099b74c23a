-- What was spelled breaks no rule and is read again, and what breaks none was spelled as it is read.
use Rattle.std.proofs.Common.{◌≡◌, ◌⊎◌, inl, inr, ◌+◌, ◌<◌, ◌≤◌, ℕ, zero, suc, List, [], ◌∷◌, ◌++◌, Bool, true, false, not, cond, length, take, drop, refl, sym, ap, ap₂, ◌∙◌, subst, arith, length-append, length-take-le, length-drop}
use Rattle.std.specs.Prelude.{Option, Some, None, ◌==◌, ◌&&◌, ◌||◌, nat_lt, nat_le}
use Rattle.std.specs.List.{AllByRecursion}
use Rattle.std.proofs.lemmas.Bool.{cases_eq, eqb-true, eqb-false, eq-eqb, ne_eqb, ltb-false, leb-false, le-ltb, lt-leb, or_parts, and_cases, not-false}
use Rattle.key_base.specs.Limits.{is_no_key_length}
use Rattle.byte_fields.specs.Spelling.{IsBytes}
use Rattle.map_model.specs.SortedMap.{Bytes}
use Rattle.map_model.proofs.Between.{before_less}
use Rattle.key_base.specs.ByteOrder.{is_before}
use Rattle.entry_model.specs.Entries.{Entry, kind_of, bytes_of, body, put_entry, IsLogged}
use Rattle.entry_model.specs.Reading.{kind_in, key_length_in, value_length_in, width_in, key_in, entry_in}
use Rattle.entry_model.proofs.Bodies.{KeepsLimits, body_size, key_length_again, value_length_again, width_again, key_again, value_part, entry_again, sound_read, size_read, body_read}
use Rattle.range_model.specs.Ranges.{DeletedRange, HasBounds, range_of}
use Rattle.range_model.specs.Sources.{Change, ClearsKeys, Sets, Clears}
use Rattle.range_model.proofs.KeyOrders.{is_before_of}
use Rattle.log_model.specs.Changes.{IsLoggedChange, change_body, change_in, range_in, recorded}
use Rattle.log_model.specs.Records.{breaks_a_limit, broken_rule, is_crossed_range, is_no_kind, rule_if}

-- ---- the entry of a change

-- a range's bounds, as key and value of a put
pub bounds_logged : (range : DeletedRange) → HasBounds range → IsLogged (put_entry range.lo range.hi)
bounds_logged range has = record {
  sound = record {
    some_key = has.0.some;
    short_key = has.0.short;
    short_value = omega (arith, has.1.short);
    key_bytes = has.0.bytes;
    value_bytes = has.1.bytes;
  };
  short = omega (arith, has.1.short);
}

pub recorded_logged : (change : Change) → IsLoggedChange change → IsLogged (recorded change)
recorded_logged (Sets entry) is = is
recorded_logged (Clears range) is = bounds_logged range is.1

-- the bounds of the ranges are keys
pub logged_keys : (changes : List Change) → AllByRecursion IsLoggedChange changes → AllByRecursion ClearsKeys changes
logged_keys [] all = tt
logged_keys (Sets entry ∷ later) all = (tt, logged_keys later all.1)
logged_keys (Clears range ∷ later) all = (all.0.1, logged_keys later all.1)

-- the kind alone sets them apart
pub change_size : (change : Change) → length (change_body change) ≡ length (body (recorded change))
change_size (Sets entry) = refl
change_size (Clears range) = refl

-- ---- what was spelled is read

width_of_change : (change : Change) (rest : Bytes) → IsLoggedChange change → width_in (change_body change ++ rest) ≡ length (change_body change)
unfolding width_in
width_of_change (Sets entry) rest is = width_again entry rest is.sound
width_of_change (Clears range) rest is = width_again (put_entry range.lo range.hi) rest (bounds_logged range is.1).sound

-- behind the first seven bytes the first one does not count
same_later : (n a b : ℕ) (xs : Bytes) → drop (7 + n) (a ∷ xs) ≡ drop (7 + n) (b ∷ xs)
same_later n a b xs = let one : 7 + n ≡ suc (6 + n) = omega arith in ap (λ (k : ℕ). drop k (a ∷ xs)) one ∙ sym (ap (λ (k : ℕ). drop k (b ∷ xs)) one)

-- what is read as a range is read as a put of the upper bound at the lower one where the kind is 1
as_put : (xs : Bytes) → range_in (3 ∷ xs) ≡ range_of (key_in (1 ∷ xs)) (take (value_length_in (1 ∷ xs)) (drop (7 + key_length_in (1 ∷ xs)) (1 ∷ xs)))
unfolding range_in key_in
as_put xs = ap (λ (l : Bytes). range_of (key_in (1 ∷ xs)) (take (value_length_in (1 ∷ xs)) l)) (same_later (key_length_in (1 ∷ xs)) 3 1 xs)

range_again : (range : DeletedRange) (rest : Bytes) → HasBounds range → range_in (change_body (Clears range) ++ rest) ≡ range
range_again range rest has =
    let put = put_entry range.lo range.hi in
    let sound = (bounds_logged range has).sound in
    as_put (drop 1 (body put ++ rest)) ∙ ap₂ range_of (key_again put rest sound) (value_part put rest sound)

no_range : (value : Option Bytes) → (kind_of value == 3) ≡ false
no_range (Some value) = refl
no_range None = refl

pub change_again : (change : Change) (rest : Bytes) → IsLoggedChange change → change_in (change_body change ++ rest) ≡ change
change_again (Sets entry) rest is =
    ap (λ (t : Bool). cond t (Clears (range_in (body entry ++ rest))) (Sets (entry_in (body entry ++ rest)))) (no_range entry.value) ∙ ap Sets (entry_again entry rest is.sound)
change_again (Clears range) rest is = ap Clears (range_again range rest is.1)

-- ---- and breaks no rule

passes : (bad : Bool) (rule : ℕ) (later : Option ℕ) → bad ≡ false → rule_if bad rule later ≡ later
passes bad rule later e = ap (λ (t : Bool). rule_if t rule later) e

kind_kept : (value : Option Bytes) → is_no_kind (kind_of value) ≡ false
kind_kept (Some value) = refl
kind_kept None = refl

limits_kept : (value : Option Bytes) (k v : ℕ) → 1 ≤ k → k ≤ 1024 → v ≤ 65536 → v ≡ length (bytes_of value) → breaks_a_limit (kind_of value) k v ≡ false
limits_kept (Some value) k v some short_key short_value is = rw (ne_eqb k 0 (λ e. omega arith), le-ltb 1024 k short_key, le-ltb 65536 v short_value) refl
limits_kept None k v some short_key short_value is = rw (ne_eqb k 0 (λ e. omega arith), le-ltb 1024 k short_key, le-ltb 65536 v short_value, eq-eqb v 0 is) refl

bounds_kept : (k v : ℕ) → 1 ≤ k → k ≤ 1024 → 1 ≤ v → v ≤ 1024 → breaks_a_limit 3 k v ≡ false
bounds_kept k v some_lo short_lo some_hi short_hi =
    rw (ne_eqb k 0 (λ e. omega arith), le-ltb 1024 k short_lo, le-ltb 65536 v (omega arith), ne_eqb v 0 (λ e. omega arith), le-ltb 1024 v short_hi) refl

not_crossed : (value : Option Bytes) (t : Bool) → (kind_of value == 3 && t) ≡ false
not_crossed (Some value) t = refl
not_crossed None t = refl

-- the tests of a body that is there whole
whole_passes : (bytes : Bytes) → 7 ≤ length bytes → is_no_kind (kind_in bytes) ≡ false → breaks_a_limit (kind_in bytes) (key_length_in bytes) (value_length_in bytes) ≡ false
    → width_in bytes < length bytes → (kind_in bytes == 3 && is_crossed_range (range_in bytes)) ≡ false → broken_rule bytes ≡ None
whole_passes bytes head kind limits room crossed =
    passes (nat_lt (length bytes) 7) 1 _ (le-ltb (length bytes) 7 head)
    ∙ passes _ 2 _ kind ∙ passes _ 3 _ limits
    ∙ passes (nat_le (length bytes) (width_in bytes)) 1 _ (lt-leb (length bytes) (width_in bytes) room)
    ∙ passes _ 3 None crossed

pub unbroken : (change : Change) (rest : Bytes) → IsLoggedChange change → 0 < length rest → broken_rule (change_body change ++ rest) ≡ None
unbroken (Sets entry) rest sound some =
    let w = body entry ++ rest in
    let long = length-append (body entry) rest in
    let key = key_length_again entry rest sound.sound in
    let value = value_length_again entry rest sound.sound in
    whole_passes w (omega (arith, long, body_size entry)) (kind_kept entry.value)
    (limits_kept entry.value (key_length_in w) (value_length_in w) (omega (arith, key, sound.sound.some_key)) (omega (arith, key, sound.sound.short_key)) (omega (arith, value, sound.short)) value)
    (omega (arith, width_again entry rest sound.sound, long))
    (not_crossed entry.value (is_crossed_range (range_in w)))
unbroken (Clears range) rest sound some =
    let put = put_entry range.lo range.hi in
    let w = change_body (Clears range) ++ rest in
    let long = length-append (change_body (Clears range)) rest in
    let key = key_length_again put rest (bounds_logged range sound.1).sound in
    let value = value_length_again put rest (bounds_logged range sound.1).sound in
    whole_passes w (omega (arith, long, body_size put, change_size (Clears range))) refl
    (bounds_kept (key_length_in w) (value_length_in w) (omega (arith, key, sound.1.0.some)) (omega (arith, key, sound.1.0.short)) (omega (arith, value, sound.1.1.some)) (omega (arith, value, sound.1.1.short)))
    (omega (arith, width_of_change (Clears range) rest sound, long))
    (ap is_crossed_range (range_again range rest sound.1) ∙ ap not (is_before_of range.lo range.hi sound.0))

-- ---- what breaks none

refused_not : (bad : Bool) (rule : ℕ) (later : Option ℕ) → rule_if bad rule later ≡ None → (bad ≡ false) × (later ≡ None)
refused_not true rule later e = absurd cc
refused_not false rule later e = (refl, e)

-- the tests that it passes
record Passes (bytes : Bytes) : Type 0 where
  kind : is_no_kind (kind_in bytes) ≡ false
  some_key : 1 ≤ key_length_in bytes
  short_key : key_length_in bytes ≤ 1024
  short_value : value_length_in bytes ≤ 65536
  no_value : (kind_in bytes == 2 && not (value_length_in bytes == 0)) ≡ false
  bound : (kind_in bytes == 3 && is_no_key_length (value_length_in bytes)) ≡ false
  room : width_in bytes < length bytes
  crossed : (kind_in bytes == 3 && is_crossed_range (range_in bytes)) ≡ false

key_kept : (k : ℕ) → is_no_key_length k ≡ false → (1 ≤ k) × (k ≤ 1024)
key_kept k e =
    let parts = or_parts (k == 0) (nat_lt 1024 k) e in
    let some : k ≡ 0 → ⊥ = eqb-false k 0 parts.0 in
    (omega arith, ltb-false 1024 k parts.1)

tests : (bytes : Bytes) → broken_rule bytes ≡ None → Passes bytes
tests bytes e =
    let k = key_length_in bytes in
    let v = value_length_in bytes in
    let a = refused_not (nat_lt (length bytes) 7) 1 _ e in
    let b = refused_not (is_no_kind (kind_in bytes)) 2 _ a.1 in
    let c = refused_not (breaks_a_limit (kind_in bytes) k v) 3 _ b.1 in
    let d = refused_not (nat_le (length bytes) (width_in bytes)) 1 _ c.1 in
    let bounds = or_parts (is_no_key_length k || nat_lt 65536 v || (kind_in bytes == 2 && not (v == 0))) (kind_in bytes == 3 && is_no_key_length v) c.0 in
    let limits = or_parts (is_no_key_length k || nat_lt 65536 v) (kind_in bytes == 2 && not (v == 0)) bounds.0 in
    let lengths = or_parts (is_no_key_length k) (nat_lt 65536 v) limits.0 in
    let key = key_kept k lengths.0 in
    record {
      kind = b.0;
      some_key = key.0;
      short_key = key.1;
      short_value = ltb-false 65536 v lengths.1;
      no_value = limits.1;
      bound = bounds.1;
      room = leb-false (length bytes) (width_in bytes) d.0;
      crossed = (refused_not (kind_in bytes == 3 && is_crossed_range (range_in bytes)) 3 None d.1).0;
    }

-- the gate behind the body is there too
pub gate_is_there : (bytes : Bytes) → broken_rule bytes ≡ None → width_in bytes < length bytes
gate_is_there bytes e = (tests bytes e).room

-- of an entry

entry_kind : (kind : ℕ) → is_no_kind kind ≡ false → (kind ≡ 3 → ⊥) → (kind ≡ 1) ⊎ (kind ≡ 2)
entry_kind kind e other = elim (and_cases (not (kind == 1) && not (kind == 2)) (not (kind == 3)) e) [
  | inr third ↦ absurd (other (eqb-true kind 3 (not-false (kind == 3) third)))
  | inl rest ↦ elim (and_cases (not (kind == 1)) (not (kind == 2)) rest) [
    | inl first ↦ inl (eqb-true kind 1 (not-false (kind == 1) first))
    | inr second ↦ inr (eqb-true kind 2 (not-false (kind == 2) second))
  ]
]

none_for : (kind value : ℕ) → (kind == 2 && not (value == 0)) ≡ false → kind ≡ 2 → value ≡ 0
none_for kind value e two = elim (and_cases (kind == 2) (not (value == 0)) e) [
  | inl other ↦ absurd (eqb-false kind 2 other two)
  | inr zero_there ↦ eqb-true value 0 (not-false (value == 0) zero_there)
]

entry_kept : (bytes : Bytes) → Passes bytes → (kind_in bytes ≡ 3 → ⊥) → KeepsLimits bytes
unfolding width_in
entry_kept bytes t other = record {
  kind = entry_kind (kind_in bytes) t.kind other;
  some_key = t.some_key;
  short_key = t.short_key;
  short_value = t.short_value;
  no_value = none_for (kind_in bytes) (value_length_in bytes) t.no_value;
  room = omega (arith, t.room);
}

-- of a range: as a put of its upper bound at its lower one

put_kept : (xs : Bytes) → Passes (3 ∷ xs) → KeepsLimits (1 ∷ xs)
unfolding width_in
put_kept xs t = record {
  kind = inl refl;
  some_key = t.some_key;
  short_key = t.short_key;
  short_value = t.short_value;
  no_value = λ two. absurd (omega (arith, two));
  room = omega (arith, t.room);
}

put_read : (xs : Bytes) → entry_in (1 ∷ xs) ≡ put_entry (range_in (3 ∷ xs)).lo (range_in (3 ∷ xs)).hi
unfolding entry_in
put_read xs = ap (λ (r : DeletedRange). put_entry r.lo r.hi) (sym (as_put xs))

read_bytes : (xs : Bytes) → IsBytes (3 ∷ xs) → IsBytes (1 ∷ xs)
read_bytes xs is zero = omega arith
read_bytes xs is (suc i) = is (suc i)

key_read : (xs : Bytes) → Passes (3 ∷ xs) → length (key_in (1 ∷ xs)) ≡ key_length_in (3 ∷ xs)
unfolding key_in width_in
key_read xs t = length-take-le (key_length_in (1 ∷ xs)) (drop 7 (1 ∷ xs)) (omega (arith, t.room, length-drop 7 (1 ∷ xs)))

-- a change that was read of bytes that break no rule: it is sound, and these bytes spell it
pub record IsRead (bytes : Bytes) : Type 0 where
  pub sound : IsLoggedChange (change_in bytes)
  pub size : length (change_body (change_in bytes)) ≡ width_in bytes
  pub spelled : change_body (change_in bytes) ≡ take (width_in bytes) bytes

range_read : (xs : Bytes) → IsBytes (3 ∷ xs) → Passes (3 ∷ xs) → IsRead (3 ∷ xs)
unfolding width_in
range_read xs is t =
    let range = range_in (3 ∷ xs) in
    let put = read_bytes xs is in
    let kept = put_kept xs t in
    let key = key_kept (value_length_in (3 ∷ xs)) t.bound in
    let logged : IsLogged (put_entry range.lo range.hi) = subst IsLogged (put_read xs) (sound_read (1 ∷ xs) put kept) in
    let size : length (body (put_entry range.lo range.hi)) ≡ width_in (3 ∷ xs) = ap (λ (e : Entry). length (body e)) (sym (put_read xs)) ∙ size_read (1 ∷ xs) put kept in
    let spelled : body (put_entry range.lo range.hi) ≡ take (width_in (3 ∷ xs)) (1 ∷ xs) = ap body (sym (put_read xs)) ∙ body_read (1 ∷ xs) put kept in
    let lo_size : length range.lo ≡ key_length_in (3 ∷ xs) = ap (λ (r : DeletedRange). length r.lo) (as_put xs) ∙ key_read xs t in
    let value : length range.hi ≡ value_length_in (3 ∷ xs) = omega (arith, size, body_size (put_entry range.lo range.hi), lo_size) in
    let one : width_in (3 ∷ xs) ≡ suc (6 + key_length_in (3 ∷ xs) + value_length_in (3 ∷ xs)) = omega arith in
    record {
      sound = (
        before_less range.lo range.hi (not-false (is_before range.lo range.hi) t.crossed),
        (
          record { some = logged.sound.some_key; short = logged.sound.short_key; bytes = logged.sound.key_bytes },
          record { some = omega (arith, value, key.0); short = omega (arith, value, key.1); bytes = logged.sound.value_bytes },
        ),
      );
      size = size;
      spelled = ap (λ (l : Bytes). 3 ∷ drop 1 l) (spelled ∙ ap (λ (n : ℕ). take n (1 ∷ xs)) one) ∙ ap (λ (n : ℕ). take n (3 ∷ xs)) (sym one);
    }

entry_read : (bytes : Bytes) → IsBytes bytes → KeepsLimits bytes → (kind_in bytes ≡ 3 → ⊥) → IsRead bytes
entry_read bytes is kept other =
    let entry : Sets (entry_in bytes) ≡ change_in bytes = sym (ap (λ (t : Bool). cond t (Clears (range_in bytes)) (Sets (entry_in bytes))) (ne_eqb (kind_in bytes) 3 other)) in
    record {
      sound = subst IsLoggedChange entry (sound_read bytes is kept);
      size = ap (λ (c : Change). length (change_body c)) (sym entry) ∙ size_read bytes is kept;
      spelled = ap change_body (sym entry) ∙ body_read bytes is kept;
    }

three_first : (bytes : Bytes) → kind_in bytes ≡ 3 → bytes ≡ 3 ∷ drop 1 bytes
three_first [] three = absurd (omega (arith, three))
three_first (b ∷ xs) three = ap (λ (k : ℕ). k ∷ xs) three

pub read_whole : (bytes : Bytes) → IsBytes bytes → broken_rule bytes ≡ None → IsRead bytes
read_whole bytes is whole = elim (cases_eq (kind_in bytes) 3) [
  | inr other ↦ entry_read bytes is (entry_kept bytes (tests bytes whole) other) other
  | inl three ↦
      let parts = three_first bytes three in
      subst IsRead (sym parts) (range_read (drop 1 bytes) (subst IsBytes parts is) (tests (3 ∷ drop 1 bytes) (ap broken_rule (sym parts) ∙ whole)))
]
