-- Bits of one byte string whose bits of another are clear.
use Rattle.std.proofs.Common.{◌≡◌, ℕ, zero, suc, ◌+◌, ◌-◌, ◌*◌, ◌/◌, ◌%◌, ◌<◌, ◌≤◌, ◌∙◌, refl, sym, ap, arith, length, get_or, Bool, false, Option, Some, None, bit_and, min, List, [], ◌∷◌, inl, inr, w8, Fits, cond}
use Rattle.std.specs.Prelude.{◌==◌, ◌&&◌, not, nat_lt, slice_index, position, zip}
use Rattle.std.specs.List.{position_or_len}
use Rattle.std.specs.Int.{bit_at}
use Rattle.std.specs.Option.{option_map}
use Rattle.std.proofs.lemmas.Bool.{cases_Bool, ltb-false, true≢false}
use Rattle.std.proofs.lemmas.List.Quantifiers.{position-Some}
use Rattle.std.proofs.lemmas.Nat.Bits.{bit_at-lt, bit_at-zero, bit_at_and, bit_at_not}
use Rattle.std.proofs.lemmas.Slice.Zip.{get_or-zip, length-zip}
use Rattle.std.specs.Int.Bits.{and_lt}
use Rattle.bit_words.proofs.Numbers.{number_back}
use Rattle.bit_words.proofs.Packing.{get_or-unpacked, length-unpacked}
use Rattle.bit_model.specs.Numbers.{bits_of}
use Rattle.bit_model.specs.Packed.{number_of, packed_bit, unpacked}
use Rattle.byte_fields.specs.Faults.{fault}
use Rattle.filter_codec.specs.Judging.{stray_rule}
use Rattle.filter_image_model.specs.Header.{Bytes}
use Rattle.filter_image_model.specs.Reading.{is_stray}

-- ---- one byte

small : (a b : ℕ) → a < 2 → b < 2 → min b (1 - a) ≡ 0 → (not (a == 1) && (b == 1)) ≡ false
small zero zero h k e = refl
small zero (suc zero) h k e = absurd (omega (arith, e))
small zero (suc (suc b)) h k e = absurd (omega arith)
small (suc zero) b h k e = refl
small (suc (suc a)) b h k e = absurd (omega arith)

large : (a b : ℕ) → a < 2 → b < 2 → (not (a == 1) && (b == 1)) ≡ false → min b (1 - a) ≡ 0
large zero zero h k e = refl
large zero (suc zero) h k e = absurd (true≢false e)
large zero (suc (suc b)) h k e = absurd (omega arith)
large (suc zero) b h k e = omega arith
large (suc (suc a)) b h k e = absurd (omega arith)

bit_of : (c l r : ℕ) → l < 256 → r < 8 → bit_at (bit_and c (255 - l)) r ≡ min (bit_at c r) (1 - bit_at l r)
bit_of c l r h k = bit_at_and c (255 - l) r ∙ ap (min (bit_at c r)) (bit_at_not w8 l r h k)

pub clear_bit : (c l r : ℕ) → l < 256 → r < 8 → bit_and c (255 - l) ≡ 0 → is_stray (bit_at l r == 1, bit_at c r == 1) ≡ false
clear_bit c l r h k e =
    small (bit_at l r) (bit_at c r) (bit_at-lt l r) (bit_at-lt c r) (sym (bit_of c l r h k) ∙ ap (λ x. bit_at x r) e ∙ bit_at-zero r)

-- a byte without bits
zero_bits : (x : ℕ) → x < 256 → ((r : ℕ) → r < 8 → bit_at x r ≡ 0) → x ≡ 0
unfolding bits_of
zero_bits x h e =
    let whole : number_of (bits_of 8 x) ≡ x % 256 = number_back 8 x in
    let none : number_of (bits_of 8 x) ≡ 0 =
    (λ j. number_of ((e 0 (omega arith) j == 1) ∷ (e 1 (omega arith) j == 1) ∷ (e 2 (omega arith) j == 1) ∷ (e 3 (omega arith) j == 1) ∷ (e 4 (omega arith) j == 1) ∷ (e 5 (omega arith) j == 1) ∷ (e 6 (omega arith) j == 1) ∷ (e 7 (omega arith) j == 1) ∷ [])) in
    omega (arith, whole, none)

pub all_clear : (c l : ℕ) → l < 256 → bit_and c (255 - l) < 256 → ((r : ℕ) → r < 8 → is_stray (bit_at l r == 1, bit_at c r == 1) ≡ false) → bit_and c (255 - l) ≡ 0
all_clear c l h k e =
    zero_bits (bit_and c (255 - l)) k (λ r w. bit_of c l r h w ∙ large (bit_at l r) (bit_at c r) (bit_at-lt l r) (bit_at-lt c r) (e r w))

same_both : (n : ℕ) → min n n ≡ n
same_both n = omega arith

-- ---- all bytes

pub bytes_of : (x : List ℕ) → ((i : ℕ) → Fits w8 (get_or x i 0)) → (i : ℕ) → slice_index x i < 256
bytes_of x h i = let fits = h i in omega arith

all_before : {X : Type 0} (p : X → Bool) (xs : List X) (d : X) → length xs ≤ position_or_len p xs → (k : ℕ) → k < length xs → p (get_or xs k d) ≡ false
all_before p [] d h k lt = absurd (omega arith)
all_before p (x ∷ xs) d h k lt =
    let m : position_or_len p (x ∷ xs) ≡ cond (not (p x)) (1 + position_or_len p xs) 0 = refl in
    elim (cases_Bool (p x)) [
      | inl holds ↦
          let none : position_or_len p (x ∷ xs) ≡ 0 = m ∙ ap (λ (t : Bool). cond (not t) (1 + position_or_len p xs) 0) holds in
          absurd (omega (arith, h, none))
      | inr fails ↦
          let more : position_or_len p (x ∷ xs) ≡ 1 + position_or_len p xs = m ∙ ap (λ (t : Bool). cond (not t) (1 + position_or_len p xs) 0) fails in
          at k lt fails (all_before p xs d (omega (arith, h, more)))
    ]
  where
    at : (k : ℕ) → k < length (x ∷ xs) → p x ≡ false → ((i : ℕ) → i < length xs → p (get_or xs i d) ≡ false) → p (get_or (x ∷ xs) k d) ≡ false
    at zero lt e ih = e
    at (suc k) lt e ih = ih k (omega arith)

pub not_found : {X : Type 0} (p : X → Bool) (xs : List X) (d : X) → position p xs ≡ None → (k : ℕ) → k < length xs → p (get_or xs k d) ≡ false
not_found p xs d e =
    elim (cases_Bool (nat_lt (position_or_len p xs) (length xs))) [
      | inl there ↦ absurd (some_none (sym (ap (λ (t : Bool). cond t (Some (position_or_len p xs)) None) there) ∙ e))
      | inr fails ↦ all_before p xs d (ltb-false (position_or_len p xs) (length xs) fails)
    ]
  where
    some_none : {n : ℕ} → Some n ≡ None → ⊥
    some_none e = cc

module _ (labels children : Bytes) (bytes : (i : ℕ) → slice_index labels i < 256) (child_bytes : (i : ℕ) → slice_index children i < 256) (same : length children ≡ length labels) where
  abbrev n : ℕ
  n = 8 * length labels

  abbrev pairs : List (Bool × Bool)
  pairs = zip (unpacked 8 labels n) (unpacked 8 children n)

  abbrev extra : ℕ → ℕ
  extra i = bit_and (slice_index children i) (255 - slice_index labels i)

  size : length pairs ≡ n
  size = length-zip (unpacked 8 labels n) (unpacked 8 children n) ∙ (λ j. min (length-unpacked 8 labels n j) (length-unpacked 8 children n j)) ∙ same_both n

  bits_at : (k : ℕ) → k < n → get_or pairs k (false, false) ≡ (packed_bit 8 labels k, packed_bit 8 children k)
  bits_at k lt =
      get_or-zip (unpacked 8 labels n) (unpacked 8 children n) k (false, false) (omega (arith, length-unpacked 8 labels n)) (omega (arith, length-unpacked 8 children n))
      ∙ (λ j. (get_or-unpacked 8 labels n k false lt j, get_or-unpacked 8 children n k false lt j))

  no_stray : (k : ℕ) → k < n → extra (k / 8) ≡ 0 → is_stray (get_or pairs k (false, false)) ≡ false
  no_stray k lt e = ap is_stray (bits_at k lt) ∙ clear_bit (slice_index children (k / 8)) (slice_index labels (k / 8)) (k % 8) (bytes (k / 8)) (omega arith) e

  pub none_stray : ((k : ℕ) → k < length labels → extra k ≡ 0) → None ≡ stray_rule labels children
  none_stray e = found (position is_stray pairs) refl
    where
      found : (o : Option ℕ) → position is_stray pairs ≡ o → None ≡ stray_rule labels children
      found None q = ap (option_map (λ i. fault (40 + length labels + i / 8) 7)) (sym q)
      found (Some k) q =
          let f = position-Some is_stray pairs k (false, false) q in
          let lt : k < n = omega (arith, f.0, size) in
          absurd (true≢false (sym f.1 ∙ no_stray k lt (e (k / 8) (omega arith))))

  byte_clear : (i : ℕ) → i < length labels → ((k : ℕ) → k / 8 ≡ i → k < n → is_stray (get_or pairs k (false, false)) ≡ false) → extra i ≡ 0
  byte_clear i lt e =
      all_clear (slice_index children i) (slice_index labels i) (bytes i) (and_lt 8 (slice_index children i) (255 - slice_index labels i) (child_bytes i) (omega arith)) (λ r w.
      let k = 8 * i + r in
      let inside : k < n = omega arith in
      let here : k / 8 ≡ i = omega arith in
      let rest : k % 8 ≡ r = omega arith in
      (λ j. is_stray (bit_at (slice_index labels (sym here j)) (sym rest j) == 1, bit_at (slice_index children (sym here j)) (sym rest j) == 1))
      ∙ sym (ap is_stray (bits_at k inside)) ∙ e k here inside)

  pub first_stray : (i : ℕ) → i < length labels → (extra i ≡ 0 → ⊥) → ((k : ℕ) → k < i → extra k ≡ 0) → Some (fault (40 + length labels + i) 7) ≡ stray_rule labels children
  first_stray i lt not_clear before = found (position is_stray pairs) refl
    where
      found : (o : Option ℕ) → position is_stray pairs ≡ o → Some (fault (40 + length labels + i) 7) ≡ stray_rule labels children
      found None q = absurd (not_clear (byte_clear i lt (λ k here inside. not_found is_stray pairs (false, false) q k (omega (arith, size)))))
      found (Some k) q =
          let f = position-Some is_stray pairs k (false, false) q in
          let inside : k < n = omega (arith, f.0, size) in
          let not_before : k / 8 < i → ⊥ = λ b. true≢false (sym f.1 ∙ no_stray k inside (before (k / 8) b)) in
          let not_behind : i < k / 8 → ⊥ = λ b. not_clear (byte_clear i lt (λ m here w. f.2 m (omega (arith, here, b)))) in
          let place : k / 8 ≡ i = omega (arith, not_before, not_behind) in
          ap (λ m. Some (fault (40 + length labels + m) 7)) (sym place) ∙ ap (option_map (λ i. fault (40 + length labels + i / 8) 7)) (sym q)
