-- A number for each key, which rises with the keys: what is left above it bounds how many rows may come.
use Rattle.std.proofs.Common.{◌≡◌, ◌+◌, ◌-◌, ◌*◌, ◌<◌, ◌≤◌, ℕ, zero, suc, [], ◌∷◌, length, refl, sym, ap, subst, Bool, true, false, cond, not, arith}
use Rattle.std.specs.Prelude.{IfSome, Option, Some, None, is_some, min, nat_lt, ◌==◌}
use Rattle.entry_model.specs.Entries.{Entry, IsEntry}
use Rattle.key_base.specs.Limits.{max_key_bytes}
use Rattle.merge_rows.specs.Steps.{RowPasses}
use Rattle.std.proofs.Math.Nat.{mul-le-mul_left}
use Rattle.std.proofs.lemmas.Bool.{eqb-true, false≢true, ltb-true}
use Rattle.std.specs.Ordering.{ordering_then}
use Rattle.std.specs.declared.cmp.Ordering.TheVariants.{Less, Equal, Greater}
use Rattle.byte_fields.specs.Spelling.{IsBytes}
use Rattle.key_base.specs.ByteOrder.{is_before}
use Rattle.map_model.specs.SortedMap.{Bytes, byte_order}
use Rattle.merge_rows.specs.Rows.{KeyFloor, clears}
use Rattle.merge_rows.proofs.Keys.{at_or_after, before_of}

-- more than there are strings of a given number of bytes at most
pub strings : ℕ → ℕ
strings zero = 1
strings (suc n) = strings n * 257

pub rank : ℕ → Bytes → ℕ
rank zero key = 0
rank (suc n) [] = 0
rank (suc n) (b ∷ more) = strings n * (min b 255 + 1) + rank n more

pub some_strings : (n : ℕ) → 1 ≤ strings n
unfolding strings
some_strings zero = let one : 1 ≤ 1 = omega arith in one
some_strings (suc n) = omega (arith, some_strings n)

-- a digit and what is below the next one
below_next : (digit most size rest : ℕ) → digit + 1 ≤ most → rest < size → size * digit + rest < size * most
below_next digit most size rest le lt =
    let product : size * (digit + 1) ≤ size * most = mul-le-mul_left size le in
    omega (arith, product, lt)

pub rank_below : (n : ℕ) (key : Bytes) → rank n key < strings n
unfolding strings rank
rank_below zero key = let one : 0 < 1 = omega arith in one
rank_below (suc n) [] = omega (arith, some_strings n)
rank_below (suc n) (b ∷ more) = below_next (min b 255 + 1) 257 (strings n) (rank n more) (omega arith) (rank_below n more)

above_none : (size digit rest : ℕ) → 1 ≤ size → 0 < size * (digit + 1) + rest
above_none size digit rest some = omega (arith, some)

lesser_digit : (size x y low high : ℕ) → x < y → y ≤ 255 → low < size → size * (min x 255 + 1) + low < size * (min y 255 + 1) + high
lesser_digit size x y low high lt le below =
    let first : min x 255 ≡ x = omega (arith, lt, le) in
    let second : min y 255 ≡ y = omega (arith, le) in
    let product : size * (min x 255 + 1 + 1) ≤ size * (min y 255 + 1) = mul-le-mul_left size (omega (arith, first, second, lt)) in
    omega (arith, product, below)

behind : (b : ℕ) (more : Bytes) → IsBytes (b ∷ more) → IsBytes more
behind b more bytes i = bytes (suc i)

by_digit : (n x y : ℕ) (xs ys : Bytes) (lower : Bool) → nat_lt x y ≡ lower → (same : Bool) → (x == y) ≡ same
    → ordering_then (cond lower Less (cond same Equal Greater)) (byte_order xs ys) ≡ Less → y ≤ 255 → (byte_order xs ys ≡ Less → rank n xs < rank n ys)
    → rank (suc n) (x ∷ xs) < rank (suc n) (y ∷ ys)
unfolding strings rank
by_digit n x y xs ys true is same is_same rest top tails =
    lesser_digit (strings n) x y (rank n xs) (rank n ys) (ltb-true x y is) top (rank_below n xs)
by_digit n x y xs ys false is true is_same rest top tails =
    let equal : x ≡ y = eqb-true x y is_same in
    let digits : strings n * (min x 255 + 1) ≡ strings n * (min y 255 + 1) = ap (λ (b : ℕ). strings n * (min b 255 + 1)) equal in
    omega (arith, digits, tails rest)
by_digit n x y xs ys false is false other rest top tails = absurd cc

-- of two keys the lesser one has the lesser number, where the greater one is a key
pub rank_rises : (n : ℕ) (a b : Bytes) → byte_order a b ≡ Less → length b ≤ n → IsBytes b → rank n a < rank n b
unfolding strings rank
rank_rises n [] [] less le bytes = absurd cc
rank_rises n (x ∷ xs) [] less le bytes = absurd cc
rank_rises zero a (y ∷ ys) less le bytes = absurd (omega (arith, le))
rank_rises (suc n) [] (y ∷ ys) less le bytes = above_none (strings n) (min y 255) (rank n ys) (some_strings n)
rank_rises (suc n) (x ∷ xs) (y ∷ ys) less le bytes =
    by_digit n x y xs ys (nat_lt x y) refl (x == y) refl less (omega (arith, bytes 0)) (λ later. rank_rises n xs ys later (omega (arith, le)) (behind y ys bytes))

-- ---- floors

abbrev pub step_of : Bool → ℕ
step_of true = 1
step_of false = 0

-- the number of a floor, of keys of a given number of bytes at most
abbrev pub height : ℕ → KeyFloor → ℕ
height n floor = rank n floor.key + step_of floor.passed

height_by : (n : ℕ) (low key : Bytes) (passed : Bool) → cond passed (is_before low key) (not (is_before key low)) ≡ true → length key ≤ n → IsBytes key
    → rank n low + step_of passed < rank n key + 1
height_by n low key true clear le bytes = omega (arith, rank_rises n low key (before_of low key clear) le bytes)
height_by n low key false clear le bytes =
    let not_so : is_before key low ≡ false = elim (is_before key low) as (λ t. not t ≡ true → t ≡ false) [ true ↦ λ e. absurd (false≢true e) | false ↦ λ _. refl ] clear in
    at_or_after (rank n low + 0 < rank n key + 1) key low not_so
    (λ same. let equal : rank n key ≡ rank n low = ap (rank n) same in omega (arith, equal))
    (λ after. omega (arith, rank_rises n low key after le bytes))

-- it rises where a key above the floor is passed, and has an end
pub height_rises : (n : ℕ) (old new : KeyFloor) (key : Bytes) → clears old key ≡ true → new ≡ record { key = key; passed = true } → length key ≤ n → IsBytes key → height n old < height n new
height_rises n old new key clear is le bytes =
    subst (λ (f : KeyFloor). height n old < height n f) (sym is) (height_by n old.key key old.passed clear le bytes)

pub height_ends : (n : ℕ) (floor : KeyFloor) → height n floor ≤ strings n
height_ends n floor = let low = rank_below n floor.key in let one : step_of floor.passed ≤ 1 = step_least floor.passed in omega (arith, low, one)
  where
    step_least : (passed : Bool) → step_of passed ≤ 1
    step_least true = omega arith
    step_least false = omega arith

-- what is left above a floor falls with each row
pub falls : (n : ℕ) (now : Option Entry) (old new : KeyFloor) → is_some now ≡ true → RowPasses now old new → IfSome now (λ e. (length e.key ≤ n) × IsBytes e.key)
    → strings n + 1 - height n new < strings n + 1 - height n old
falls n None old new some passes entry = absurd (false≢true some)
falls n (Some row) old new some passes entry =
    let up : height n old < height n new = height_rises n old new row.key passes.0 passes.1 entry.0 entry.1 in
    let end : height n new ≤ strings n = height_ends n new in
    omega (arith, up, end)

pub key_of_entry : (now : Option Entry) → IfSome now IsEntry → IfSome now (λ e. (length e.key ≤ max_key_bytes) × IsBytes e.key)
key_of_entry None entry = tt
key_of_entry (Some row) entry = (entry.short_key, entry.key_bytes)
