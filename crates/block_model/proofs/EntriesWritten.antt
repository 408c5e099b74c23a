-- Entries with shared prefixes that break no rule were spelled as they are read.
use Rattle.std.proofs.Common.{◌≡◌, ◌⊎◌, ◌≤◌, ◌+◌, ◌-◌, ◌*◌, ◌/◌, ◌%◌, ℕ, zero, suc, true, false, cond, List, [], ◌∷◌, ◌++◌, length, take, drop, refl, sym, ap, ap₂, ◌∙◌, subst, arith, length-append, length-drop, length-take-le}
use Rattle.std.specs.Prelude.{None, ◌==◌, ◌&&◌, nat_lt, not, flat_map}
use Rattle.std.specs.List.{AllByRecursion}
use Rattle.std.proofs.lemmas.Bool.{eqb-true, ltb-false, or_parts}
use Rattle.std.proofs.lemmas.List.{drop_at, nil_from_length, take-append-drop}
use Rattle.byteorder.specs.Endian.{little_bytes, little_number}
use Rattle.byte_fields.specs.Spelling.{IsBytes}
use Rattle.byte_fields.proofs.NumberLemmas.{IsBytes-drop, IsBytes-take, number_back}
use Rattle.key_base.specs.ByteOrder.{is_before}
use Rattle.map_model.specs.SortedMap.{Bytes}
use Rattle.entry_model.specs.Entries.{Entry, IsEntry, bytes_of, entry_of, keys_of, kind_of}
use Rattle.entry_model.specs.Reading.{kind_in}
use Rattle.entry_model.proofs.Bodies.{bytes_again, first_again, joined, kind_again}
use Rattle.block_model.specs.BlockReading.{entries_fault_by, entry_fault_by, is_listed_elsewhere}
use Rattle.block_model.specs.Bodies.{entries_bytes, entry_bytes, listed_places}
use Rattle.block_model.specs.Formats.{Prefixed, begins_anew, entries_by, key_by, listed_in, rest_length_in, shared_in, value_by, value_length_by, wants_shared, width_by}
use Rattle.block_model.specs.Order.{Follow}
use Rattle.block_model.proofs.OldEntriesWritten.{key_length_sound, kind_sound}
use Rattle.block_model.proofs.EntryBodies.{entry_size, wants_few}
use Rattle.block_model.proofs.EntriesRead.{positive, same_list}
use Rattle.block_model.proofs.Refusals.{kept, neither, not_false}

-- the entry that is read
abbrev pub entry_read : Bytes → Bytes → Entry
entry_read before rest = entry_of (key_by Prefixed before rest) (value_by Prefixed rest)

-- ---- what the rules of an entry say

pub record KeepsRules (i : ℕ) (before rest : Bytes) : Type 0 where
  pub kind : (kind_in rest ≡ 1) ⊎ (kind_in rest ≡ 2)
  pub no_value : kind_in rest ≡ 2 → value_length_by Prefixed rest ≡ 0
  pub some_key : 1 ≤ shared_in Prefixed rest + rest_length_in Prefixed rest
  pub short_key : shared_in Prefixed rest + rest_length_in Prefixed rest ≤ 1024
  pub short_value : value_length_by Prefixed rest ≤ 1048576
  pub within : width_by Prefixed rest ≤ length rest
  pub shares : shared_in Prefixed rest ≡ wants_shared i before (key_by Prefixed before rest)
  pub rises : is_before before (key_by Prefixed before rest) ≡ true

pub rules_kept : (i place : ℕ) (before rest : Bytes) → entry_fault_by Prefixed i place before rest ≡ None → KeepsRules i before rest
unfolding entry_fault_by
rules_kept i place before rest none =
    let a = kept _ _ _ _ none in
    let b = kept _ _ _ _ a.1 in
    let c = kept _ _ _ _ b.1 in
    let d = kept _ _ _ _ c.1 in
    let f = kept _ _ _ _ d.1 in
    let g = kept _ _ _ _ f.1 in
    let lengths = or_parts _ _ c.0 in
    let keys = key_length_sound (shared_in Prefixed rest + rest_length_in Prefixed rest) lengths.0 in
    let kinds = kind_sound (kind_in rest) (value_length_by Prefixed rest) b.0 in
    record {
      kind = kinds.0;
      no_value = kinds.1;
      some_key = keys.0;
      short_key = keys.1;
      short_value = ltb-false _ _ lengths.1;
      within = ltb-false _ _ d.0;
      shares = eqb-true _ _ (not_false _ f.0);
      rises = not_false _ g.0;
    }

IsBytes-append : (xs ys : Bytes) → IsBytes xs → IsBytes ys → IsBytes (xs ++ ys)
IsBytes-append [] ys one other i = other i
IsBytes-append (x ∷ xs) ys one other zero = one 0
IsBytes-append (x ∷ xs) ys one other (suc i) = IsBytes-append xs ys (λ j. one (suc j)) other i

-- ---- an entry

module _ (i : ℕ) (before rest : Bytes) (is_bytes : IsBytes rest) (were : IsBytes before) (rules : KeepsRules i before rest) where
  abbrev n : ℕ
  n = shared_in Prefixed rest

  abbrev r : ℕ
  r = rest_length_in Prefixed rest

  abbrev v : ℕ
  v = value_length_by Prefixed rest

  abbrev e : Entry
  e = entry_read before rest

  room : 9 + r + v ≤ length rest
  unfolding width_by
  room = omega (arith, rules.within)

  few : n ≤ length before
  few = let most = (wants_few i before (key_by Prefixed before rest)).0 in omega (arith, most, rules.shares)

  rest_size : length (take r (drop 9 rest)) ≡ r
  rest_size = length-take-le r (drop 9 rest) (omega (arith, room, length-drop 9 rest))

  shared_size : length (take n before) ≡ n
  shared_size = length-take-le n before few

  key_size : length (key_by Prefixed before rest) ≡ n + r
  unfolding key_by
  key_size = omega (arith, length-append (take n before) (take r (drop 9 rest)), shared_size, rest_size)

  key_rest : drop n (key_by Prefixed before rest) ≡ take r (drop 9 rest)
  unfolding key_by
  key_rest = drop_at (take n before) (take r (drop 9 rest)) n shared_size

  value_is : bytes_of (value_by Prefixed rest) ≡ take v (drop (9 + r) rest)
  unfolding value_by
  value_is = bytes_again (kind_in rest) v (drop (9 + r) rest) rules.kind rules.no_value

  value_size : length (bytes_of (value_by Prefixed rest)) ≡ v
  value_size = ap length value_is ∙ length-take-le v (drop (9 + r) rest) (omega (arith, room, length-drop (9 + r) rest))

  pub key_bytes_read : IsBytes (key_by Prefixed before rest)
  unfolding key_by
  key_bytes_read = IsBytes-append (take n before) (take r (drop 9 rest)) (IsBytes-take n before were) (IsBytes-take r (drop 9 rest) (IsBytes-drop 9 rest is_bytes))

  pub sound_by : IsEntry e
  sound_by = record {
    some_key = omega (arith, key_size, rules.some_key);
    short_key = omega (arith, key_size, rules.short_key);
    short_value = omega (arith, value_size, rules.short_value);
    key_bytes = key_bytes_read;
    value_bytes = subst IsBytes (sym value_is) (IsBytes-take v (drop (9 + r) rest) (IsBytes-drop (9 + r) rest is_bytes));
  }

  own_size : length e.key - n ≡ r
  own_size = omega (arith, key_size)

  pub size_by : length (entry_bytes n e) ≡ width_by Prefixed rest
  unfolding width_by
  size_by = omega (arith, entry_size n e, own_size, value_size)

  kind_is : kind_of e.value ≡ kind_in rest
  unfolding value_by
  kind_is = kind_again (kind_in rest) (take v (drop (9 + r) rest)) rules.kind

  pub body_by : entry_bytes n e ≡ take (width_by Prefixed rest) rest
  unfolding width_by
  body_by =
      let shared_spelled : little_bytes 2 n ≡ take 2 (drop 1 rest) =
      number_back 2 (drop 1 rest) (IsBytes-drop 1 rest is_bytes) (omega (arith, room, length-drop 1 rest)) in
      let rest_spelled : little_bytes 2 (length e.key - n) ≡ take 2 (drop 3 rest) =
      ap (little_bytes 2) own_size ∙ number_back 2 (drop 3 rest) (IsBytes-drop 3 rest is_bytes) (omega (arith, room, length-drop 3 rest)) in
      let value_spelled : little_bytes 4 (length (bytes_of e.value)) ≡ take 4 (drop 5 rest) =
      ap (little_bytes 4) value_size ∙ number_back 4 (drop 5 rest) (IsBytes-drop 5 rest is_bytes) (omega (arith, room, length-drop 5 rest)) in
      let count : suc (2 + (2 + (4 + (r + v)))) ≡ width_by Prefixed rest = omega arith in
      (λ j. kind_is j ∷ (shared_spelled j ++ (rest_spelled j ++ (value_spelled j ++ (key_rest j ++ value_is j)))))
      ∙ ap (λ (l : Bytes). kind_in rest ∷ (take 2 (drop 1 rest) ++ (take 2 (drop 3 rest) ++ (take 4 (drop 5 rest) ++ l)))) (joined r v 9 rest)
      ∙ ap (λ (l : Bytes). kind_in rest ∷ (take 2 (drop 1 rest) ++ (take 2 (drop 3 rest) ++ l))) (joined 4 (r + v) 5 rest)
      ∙ ap (λ (l : Bytes). kind_in rest ∷ (take 2 (drop 1 rest) ++ l)) (joined 2 (4 + (r + v)) 3 rest)
      ∙ ap (λ (l : Bytes). kind_in rest ∷ l) (joined 2 (2 + (4 + (r + v))) 1 rest)
      ∙ first_again (2 + (2 + (4 + (r + v)))) rest (omega (arith, room))
      ∙ ap (λ (m : ℕ). take m rest) count

-- ---- the list

-- how many bytes of the list are those of entries from one on to another one
abbrev pub list_from : ℕ → ℕ → ℕ
list_from i n = 2 * ((i + n + 15) / 16) - 2 * ((i + 15) / 16)

-- the place of an entry that is listed is the number in the list
pub not_listed_elsewhere : (bytes : Bytes) (i place : ℕ) → is_listed_elsewhere Prefixed bytes i place ≡ false → begins_anew i ≡ true → listed_in bytes (i / 16) ≡ place
not_listed_elsewhere bytes i place kept anew = elim (begins_anew i) as (λ t. t ≡ true → (t && not (listed_in bytes (i / 16) == place)) ≡ false → listed_in bytes (i / 16) ≡ place) [
  | true ↦ λ is at. eqb-true _ _ (not_false _ at)
  | false ↦ λ is. absurd cc
] anew kept

pub list_written : (bytes : Bytes) (i n place : ℕ) (others : List ℕ) → IsBytes bytes → 8 + 2 * ((i + suc n + 15) / 16) ≤ length bytes → is_listed_elsewhere Prefixed bytes i place ≡ false
    → flat_map (little_bytes 2) others ≡ take (list_from (suc i) n) (drop (8 + 2 * ((suc i + 15) / 16)) bytes)
    → flat_map (little_bytes 2) (cond (begins_anew i) (place ∷ others) others) ≡ take (list_from i (suc n)) (drop (8 + 2 * ((i + 15) / 16)) bytes)
list_written bytes i n place others is long kept later = elim (begins_anew i) as (λ t. begins_anew i ≡ t → flat_map (little_bytes 2) (cond t (place ∷ others) others) ≡ take (list_from i (suc n)) (drop (8 + 2 * ((i + 15) / 16)) bytes)) [
  | true ↦ λ anew.
      let zero_rest : i % 16 ≡ 0 = eqb-true _ _ anew in
      let at = 8 + 2 * ((i + 15) / 16) in
      let number : place ≡ little_number 2 (drop at bytes) =
      sym (not_listed_elsewhere bytes i place kept anew) ∙ ap (λ (m : ℕ). little_number 2 (drop m bytes)) (omega (arith, zero_rest)) in
      let spelled : little_bytes 2 place ≡ take 2 (drop at bytes) =
      ap (little_bytes 2) number ∙ number_back 2 (drop at bytes) (IsBytes-drop at bytes is) (omega (arith, zero_rest, long, length-drop at bytes)) in
      let next : 8 + 2 * ((suc i + 15) / 16) ≡ at + 2 = omega (arith, zero_rest) in
      let all : 2 + list_from (suc i) n ≡ list_from i (suc n) = omega (arith, zero_rest) in
      ap₂ (λ (a b : Bytes). a ++ b) spelled (later ∙ ap (λ (m : ℕ). take (list_from (suc i) n) (drop m bytes)) next)
      ∙ joined 2 (list_from (suc i) n) at bytes ∙ ap (λ (m : ℕ). take m (drop at bytes)) all
  | false ↦ λ anew.
      let some = positive (i % 16) anew in
      let all : list_from (suc i) n ≡ list_from i (suc n) = omega (arith, some) in
      later ∙ ap₂ (λ (m : ℕ) (l : Bytes). take m l) all (sym (same_list bytes i some))
] refl

-- ---- entries, one after the other

pub record WereSpelled (bytes : Bytes) (i n place : ℕ) (before rest : Bytes) : Type 0 where
  pub written : entries_bytes i before (entries_by Prefixed n before rest) ≡ rest
  pub each : AllByRecursion IsEntry (entries_by Prefixed n before rest)
  pub follow : Follow (is_before before) (keys_of (entries_by Prefixed n before rest))
  pub many : length (entries_by Prefixed n before rest) ≡ n
  pub list : flat_map (little_bytes 2) (listed_places i place before (entries_by Prefixed n before rest)) ≡ take (list_from i n) (drop (8 + 2 * ((i + 15) / 16)) bytes)

pub were_spelled : (bytes : Bytes) (i n place : ℕ) (before rest : Bytes) → IsBytes bytes → IsBytes before → IsBytes rest → 8 + 2 * ((i + n + 15) / 16) ≤ length bytes
    → entries_fault_by Prefixed bytes i n place before rest ≡ None → WereSpelled bytes i n place before rest
unfolding entries_fault_by entries_by entries_bytes listed_places
were_spelled bytes i zero place before rest is were parts long none =
    let le : length rest ≤ 0 = ltb-false 0 (length rest) (kept (nat_lt 0 (length rest)) place 7 None none).0 in
    let empty : 0 ≡ list_from i 0 = omega arith in
    record { written = sym (nil_from_length rest (omega (arith, le))); each = tt; follow = tt; many = refl; list = ap (λ (m : ℕ). take m (drop (8 + 2 * ((i + 15) / 16)) bytes)) empty }
were_spelled bytes i (suc n) place before rest is were parts long none =
    let listed = kept _ _ _ _ none in
    let both = neither _ _ listed.1 in
    let rules = rules_kept i place before rest both.0 in
    let key = key_by Prefixed before rest in
    let w = width_by Prefixed rest in
    let e = entry_read before rest in
    let shared = wants_shared i before key in
    let body_is : entry_bytes shared e ≡ take w rest = ap (λ (m : ℕ). entry_bytes m e) (sym rules.shares) ∙ body_by i before rest parts were rules in
    let width : place + w ≡ place + length (entry_bytes shared e) =
    ap (λ (m : ℕ). place + m) (sym (size_by i before rest parts were rules) ∙ ap (λ (m : ℕ). length (entry_bytes m e)) rules.shares) in
    let later = were_spelled bytes (suc i) n (place + w) key (drop w rest) is (key_bytes_read i before rest parts were rules) (IsBytes-drop w rest parts) (omega (arith, long)) both.1 in
    let es = entries_by Prefixed n key (drop w rest) in
    let list = ap (λ (m : ℕ). flat_map (little_bytes 2) (listed_places (suc i) m key es)) (sym width) ∙ later.list in
    record {
      written = ap₂ (λ (a b : Bytes). a ++ b) body_is later.written ∙ take-append-drop w rest;
      each = (sound_by i before rest parts were rules, later.each);
      follow = (rules.rises, later.follow);
      many = omega (arith, later.many);
      list = list_written bytes i n place (listed_places (suc i) (place + length (entry_bytes shared e)) key es) is long listed.0 list;
    }
