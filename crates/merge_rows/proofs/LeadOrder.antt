-- What leads say of keys: a key whose lead is less is before the other one.
use Rattle.std.proofs.Common.{◌≡◌, ◌≢◌, ◌≤◌, ◌<◌, ◌+◌, ◌*◌, ◌^◌, ℕ, zero, suc, [], ◌∷◌, ◌++◌, length, replicate, slice_index, refl, sym, ap, ap₂, ◌∙◌, arith, inl, inr, Bool, true, false, not}
use Rattle.std.specs.Prelude.{Option, Some, None, is_some, nat_eq, nat_lt}
use Rattle.std.specs.Ordering.{nat_cmp, ordering_then}
use Rattle.std.specs.declared.cmp.Ordering.{Ordering}
use Rattle.std.specs.declared.cmp.Ordering.TheVariants.{Less, Equal, Greater}
use Rattle.std.proofs.lemmas.Bool.{cases_order}
use Rattle.std.proofs.lemmas.Bool.Decides.{nat_tests}
use Rattle.std.proofs.Math.Nat.{add-mul, mul-le-mul_right, pow-succ'}
use Rattle.byteorder.specs.Endian.{big_from, big_number}
use Rattle.byteorder.specs.Numbers.{big_from-cons}
use Rattle.byte_fields.specs.Spelling.{IsBytes}
use Rattle.entry_model.specs.Entries.{Entry}
use Rattle.key_base.specs.ByteOrder.{IsBefore, byte_order, is_before}
use Rattle.map_model.specs.SortedMap.{Bytes}
use Rattle.merge_rows.specs.Leads.{key_at_hand, lead_of}
use Rattle.merge_rows.specs.Reads.{is_used_up}
use Rattle.merge_rows.specs.Rows.{KeyFloor, clears}
use Rattle.merge_rows.proofs.Keys.{clears_greater, clears_less, is_before_of, not_before_back}
use Rattle.entry_model.proofs.Newest.{greater_of_less}

big_number-cons : (w a : ℕ) (xs : Bytes) → big_number (suc w) (a ∷ xs) ≡ a * 256 ^ w + big_number w xs
big_number-cons w a xs = ap (λ (r : ℕ). a * 256 ^ w + r) (big_from-cons 0 w a xs)

none_from : (i w : ℕ) → big_from i w [] ≡ 0
none_from i zero = refl
none_from i (suc w) = let later = none_from (suc i) w in omega (arith, later)

-- after a byte, what is below the base adds less than one to the byte
room : (x y p r : ℕ) → x < y → r < p → x * p + r < y * p
room x y p r lower fits =
    let steps : (x + 1) * p ≤ y * p = mul-le-mul_right p (omega (arith, lower)) in
    let parted : (x + 1) * p ≡ x * p + 1 * p = add-mul x 1 p in
    omega (arith, steps, parted, fits)

some_power : (w : ℕ) → 0 < 256 ^ w
some_power zero = omega arith
some_power (suc w) = let later = some_power w in omega (arith, later, pow-succ' 256 w)

number_fits : (w : ℕ) (xs : Bytes) → IsBytes xs → big_number w xs < 256 ^ w
number_fits zero xs h = omega arith
number_fits (suc w) [] h = omega (arith, none_from 0 (suc w), some_power (suc w))
number_fits (suc w) (a ∷ xs) h =
    let later = number_fits w xs (λ i. h (suc i)) in
    omega (arith, big_number-cons w a xs, room a 256 (256 ^ w) (big_number w xs) (h 0) later, pow-succ' 256 w)

less : (a b : ℕ) → a < b → nat_cmp a b ≡ Less
less a b h = grind (arith, nat_tests)

before_behind : (x y : ℕ) (xs ys : Bytes) → x ≡ y → IsBefore xs ys → IsBefore (x ∷ xs) (y ∷ ys)
before_behind x y xs ys same later = grind (arith, nat_tests)

-- where the first bytes make a lesser number, the key is before the other one
number_before : (w : ℕ) (a b : Bytes) → IsBytes a → IsBytes b → big_number w a < big_number w b → IsBefore a b
number_before zero a b ha hb lt = absurd (omega (arith, lt))
number_before (suc w) [] [] ha hb lt = absurd (omega (arith, lt))
number_before (suc w) [] (y ∷ ys) ha hb lt = refl
number_before (suc w) (x ∷ xs) [] ha hb lt = absurd (omega (arith, lt, none_from 0 (suc w)))
number_before (suc w) (x ∷ xs) (y ∷ ys) ha hb lt =
    let p = 256 ^ w in
    let m = big_number w xs in
    let n = big_number w ys in
    let is_m = big_number-cons w x xs in
    let is_n = big_number-cons w y ys in
    elim (cases_order x y) [
      | inl level ↦ let at = ap (λ (k : ℕ). k * p) level in
          before_behind x y xs ys level (number_before w xs ys (λ i. ha (suc i)) (λ i. hb (suc i)) (omega (arith, lt, is_m, is_n, at)))
      | inr (inl lower) ↦ ap (λ (o : Ordering). ordering_then o (byte_order xs ys)) (less x y lower)
      | inr (inr higher) ↦ absurd (omega (arith, lt, is_m, is_n, room y x p n higher (number_fits w ys (λ i. hb (suc i)))))
    ]

-- the key with the lesser lead is before the other one
pub lead_before : (a b : Bytes) → IsBytes a → IsBytes b → lead_of a < lead_of b → IsBefore a b
unfolding lead_of
lead_before a b ha hb lt = number_before 8 a b ha hb lt

same : (a b : ℕ) → a ≡ b → nat_cmp a b ≡ Equal
same a b h = grind (arith, nat_tests)

more : (a b : ℕ) → b < a → nat_cmp a b ≡ Greater
more a b h = grind (arith, nat_tests)

both_longer : (m n : ℕ) → nat_cmp m n ≡ nat_cmp (suc m) (suc n)
both_longer m n = elim (cases_order m n) [
  | inl level ↦ same m n level ∙ sym (same (suc m) (suc n) (omega (arith, level)))
  | inr (inl lower) ↦ less m n lower ∙ sym (less (suc m) (suc n) (omega (arith, lower)))
  | inr (inr higher) ↦ more m n higher ∙ sym (more (suc m) (suc n) (omega (arith, higher)))
]

-- two keys of no more bytes than make the same number differ in their lengths alone
number_alike : (w : ℕ) (a b : Bytes) → IsBytes a → IsBytes b → length a ≤ w → length b ≤ w → big_number w a ≡ big_number w b → byte_order a b ≡ nat_cmp (length a) (length b)
number_alike w [] [] ha hb la lb alike = refl
number_alike w [] (y ∷ ys) ha hb la lb alike = sym (less 0 (length (y ∷ ys)) (omega arith))
number_alike w (x ∷ xs) [] ha hb la lb alike = sym (more (length (x ∷ xs)) 0 (omega arith))
number_alike zero (x ∷ xs) (y ∷ ys) ha hb la lb alike = absurd (omega (arith, la))
number_alike (suc w) (x ∷ xs) (y ∷ ys) ha hb la lb alike =
    let p = 256 ^ w in
    let m = big_number w xs in
    let n = big_number w ys in
    let is_m = big_number-cons w x xs in
    let is_n = big_number-cons w y ys in
    elim (cases_order x y) [
      | inl level ↦ let at = ap (λ (k : ℕ). k * p) level in
          ap (λ (o : Ordering). ordering_then o (byte_order xs ys)) (same x y level)
          ∙ number_alike w xs ys (λ i. ha (suc i)) (λ i. hb (suc i)) (omega (arith, la)) (omega (arith, lb)) (omega (arith, alike, is_m, is_n, at))
          ∙ both_longer (length xs) (length ys)
      | inr (inl lower) ↦ absurd (omega (arith, alike, is_m, is_n, room x y p m lower (number_fits w xs (λ i. ha (suc i)))))
      | inr (inr higher) ↦ absurd (omega (arith, alike, is_m, is_n, room y x p n higher (number_fits w ys (λ i. hb (suc i)))))
    ]

pub lead_alike : (a b : Bytes) → IsBytes a → IsBytes b → length a ≤ 8 → length b ≤ 8 → lead_of a ≡ lead_of b → nat_cmp (length a) (length b) ≡ byte_order a b
unfolding lead_of
lead_alike a b ha hb la lb alike = sym (number_alike 8 a b ha hb la lb alike)

slice_index-zeros : (m i : ℕ) → slice_index (replicate m 0) i ≡ 0
slice_index-zeros zero i = refl
slice_index-zeros (suc m) zero = refl
slice_index-zeros (suc m) (suc i) = slice_index-zeros m i

slice_index-padded : (xs : Bytes) (m i : ℕ) → slice_index (xs ++ replicate m 0) i ≡ slice_index xs i
slice_index-padded [] m i = slice_index-zeros m i
slice_index-padded (x ∷ xs) m zero = refl
slice_index-padded (x ∷ xs) m (suc i) = slice_index-padded xs m i

padded_from : (i w : ℕ) (xs : Bytes) (m : ℕ) → big_from i w (xs ++ replicate m 0) ≡ big_from i w xs
padded_from i zero xs m = refl
padded_from i (suc w) xs m = ap₂ (λ (b later : ℕ). b * 256 ^ w + later) (slice_index-padded xs m i) (padded_from (suc i) w xs m)

-- zeros after a key are no part of it
pub lead_padded : (key : Bytes) (m : ℕ) → big_number 8 (key ++ replicate m 0) ≡ lead_of key
unfolding lead_of
lead_padded key m = padded_from 0 8 key m

pub lead_read : (key : Bytes) → big_number 8 key ≡ lead_of key
unfolding lead_of
lead_read key = refl

pub lead_none : 0 ≡ lead_of []
unfolding lead_of
lead_none = refl

-- where none is at hand
pub lead_ended : (now : Option Entry) → now ≡ None → (0 ≡ lead_of (key_at_hand now)) × IsBytes (key_at_hand now)
lead_ended None none = (lead_none, λ i. omega arith)
lead_ended (Some e) none = absurd cc

lt_is : (m n : ℕ) → m < n → nat_lt m n ≡ true
lt_is m n h = grind (arith, nat_tests)

lt_not : (m n : ℕ) → n ≤ m → nat_lt m n ≡ false
lt_not m n h = grind (arith, nat_tests)

-- ---- where two leads differ

pub lead_decides : (a b : Bytes) (m n : ℕ) → IsBytes a → IsBytes b → m ≡ lead_of a → n ≡ lead_of b → m ≢ n → nat_lt m n ≡ is_before a b
lead_decides a b m n ha hb is_m is_n other = elim (cases_order m n) [
  | inl level ↦ absurd (other level)
  | inr (inl lower) ↦ lt_is m n lower ∙ sym (is_before_of a b (lead_before a b ha hb (omega (arith, lower, is_m, is_n))))
  | inr (inr higher) ↦ lt_not m n (omega (arith, higher)) ∙ sym (not_before_back b a (lead_before b a hb ha (omega (arith, higher, is_m, is_n))))
]

pub lead_clears : (floor : KeyFloor) (key : Bytes) (m n : ℕ) → IsBytes floor.key → IsBytes key → m ≡ lead_of floor.key → n ≡ lead_of key → m ≢ n → nat_lt m n ≡ clears floor key
lead_clears floor key m n hf hk is_m is_n other = elim (cases_order m n) [
  | inl level ↦ absurd (other level)
  | inr (inl lower) ↦ lt_is m n lower ∙ clears_less floor key (lead_before floor.key key hf hk (omega (arith, lower, is_m, is_n)))
  | inr (inr higher) ↦ lt_not m n (omega (arith, higher))
      ∙ clears_greater floor key (greater_of_less key floor.key (lead_before key floor.key hk hf (omega (arith, higher, is_m, is_n))))
]

-- a lead of none is that of no byte, and not above the floor's
pub lead_ready : (floor : KeyFloor) (now : Option Entry) (m n : ℕ) → IsBytes floor.key → IsBytes (key_at_hand now) → m ≡ lead_of floor.key → n ≡ lead_of (key_at_hand now)
    → m ≢ n → nat_lt m n ≡ not (is_used_up floor now)
lead_ready floor None m n hf hk is_m is_n other = lt_not m n (omega (arith, is_n, lead_none))
lead_ready floor (Some e) m n hf hk is_m is_n other = lead_clears floor e.key m n hf hk is_m is_n other ∙ twice (clears floor e.key)
  where
    twice : (b : Bool) → b ≡ not (not b)
    twice true = refl
    twice false = refl

-- a lead above the floor's is that of an entry above the floor
pub lead_clear : (floor : KeyFloor) (now : Option Entry) (m n : ℕ) → IsBytes floor.key → IsBytes (key_at_hand now) → m ≡ lead_of floor.key → n ≡ lead_of (key_at_hand now)
    → nat_lt m n ≡ true → is_used_up floor now ≡ false
lead_clear floor now m n hf hk is_m is_n lt =
    let below : m < n = lt_from m n lt in
    so_not (is_used_up floor now) (sym (lead_ready floor now m n hf hk is_m is_n (λ level. omega (arith, level, below))) ∙ lt)
  where
    lt_from : (a b : ℕ) → nat_lt a b ≡ true → a < b
    lt_from a b h = grind (arith, nat_tests)

    so_not : (b : Bool) → not b ≡ true → b ≡ false
    so_not true h = sym h
    so_not false h = refl

-- a lead above 0 is that of an entry
pub lead_some : (now : Option Entry) (n : ℕ) → n ≡ lead_of (key_at_hand now) → n ≢ 0 → not (nat_eq n 0) ≡ is_some now
lead_some None n is other = absurd (other (is ∙ sym lead_none))
lead_some (Some e) n is other = not_none n other
  where
    not_none : (m : ℕ) → m ≢ 0 → not (nat_eq m 0) ≡ true
    not_none m h = grind (arith, nat_tests)
