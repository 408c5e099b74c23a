-- The pairs of a map between two keys.
use Rattle.std.proofs.Common.{◌≡◌, ◌≢◌, ◌↔◌, ◌≤◌, ℕ, zero, suc, [], ◌∷◌, length, take, refl, sym, ap, ◌∙◌, subst, Bool, true, false, cond, not, ◌&&◌, arith}
use Rattle.std.specs.Prelude.{Option, Some, None, bytes_eq, count_by}
use Rattle.std.specs.List.{All, AllByRecursion}
use Rattle.std.specs.Ordering.{is_lt, ordering_reverse}
use Rattle.std.specs.Cmp.Lexicographic.{nat_list_cmp_total}
use Rattle.std.specs.declared.cmp.Ordering.{Ordering}
use Rattle.std.specs.declared.cmp.Ordering.TheVariants.{Less}
use Rattle.std.proofs.lemmas.List.{take_all, length-take}
use Rattle.std.proofs.lemmas.List.Sums.{length-filter}
use Rattle.std.proofs.lemmas.List.Elements.{All-from_recursion, recursion_from_All}
use Rattle.std.proofs.lemmas.Slice.Eq.{bytes_eq-Decides}
use Rattle.map_model.specs.SortedMap.{Bytes, Map, byte_order, get, Rises}
use Rattle.map_model.proofs.Maps.{other_key, order_same, equal_keys, less_of_greater, by_order}
use Rattle.map_model.specs.Slices.{is_before, is_between, between, slice, first_pair, seek, count}

true-false : true ≡ false → ⊥
true-false e = cc

false-true : false ≡ true → ⊥
false-true e = cc

-- ---- before

pub before_less : (a b : Bytes) → is_before a b ≡ true → byte_order a b ≡ Less
before_less a b h = by_order (λ o. is_lt o ≡ true → o ≡ Less) a b (λ _ _. refl) (λ _ e. absurd (false-true e)) (λ _ e. absurd (false-true e)) h

not_before_itself : (a b : Bytes) → a ≡ b → is_before a b ≡ false
not_before_itself a b e = ap is_lt (order_same a b e)

not_before_less : (a b : Bytes) → byte_order b a ≡ Less → is_before a b ≡ false
not_before_less a b less = ap is_lt (nat_list_cmp_total.antisymm a b ∙ ap ordering_reverse less)

-- where hi is before lo, no key lies between
crossed_key : (lo hi key : Bytes) → is_before hi lo ≡ true → is_between lo (Some hi) key ≡ false
crossed_key lo hi key crossed =
    let less = before_less hi lo crossed in
    by_order (λ o. not (is_lt o) && not (is_before hi key) ≡ false) key lo
    (λ _. refl)
    (λ equal. ap (λ (t : Bool). not t) (subst (λ (k : Bytes). is_before hi k ≡ true) (sym (equal_keys key lo equal)) crossed))
    (λ greater. ap (λ (o : Ordering). not (is_lt o)) (nat_list_cmp_total.trans hi lo key less (less_of_greater key lo greater)))

-- ---- the first pair and those behind it

pub kept : (pair : Bytes × Bytes) (more : Map) (lo : Bytes) (hi : Option Bytes) → is_between lo hi pair.0 ≡ true → between (pair ∷ more) lo hi ≡ pair ∷ between more lo hi
kept pair more lo hi here = ap (λ (t : Bool). cond t (pair ∷ between more lo hi) (between more lo hi)) here

pub left_out : (pair : Bytes × Bytes) (more : Map) (lo : Bytes) (hi : Option Bytes) → is_between lo hi pair.0 ≡ false → between (pair ∷ more) lo hi ≡ between more lo hi
left_out pair more lo hi away = ap (λ (t : Bool). cond t (pair ∷ between more lo hi) (between more lo hi)) away

by_test : (P : Map → Type 0) (pair : Bytes × Bytes) (more : Map) (lo : Bytes) (hi : Option Bytes)
    → (is_between lo hi pair.0 ≡ true → P (pair ∷ between more lo hi)) → (is_between lo hi pair.0 ≡ false → P (between more lo hi)) → P (between (pair ∷ more) lo hi)
by_test P pair more lo hi here away = elim (is_between lo hi pair.0) as (λ t. is_between lo hi pair.0 ≡ t → P (cond t (pair ∷ between more lo hi) (between more lo hi))) [ true ↦ here | false ↦ away ] refl

same_bytes : (a b : Bytes) → bytes_eq a b ≡ true → a ≡ b
same_bytes a b e = (bytes_eq-Decides a b).0 e

-- ---- what lies between, as a map

pub within : (map : Map) (lo : Bytes) (hi : Option Bytes) (key : Bytes) → is_between lo hi key ≡ true → get (between map lo hi) key ≡ get map key
within [] lo hi key inside = refl
within (pair ∷ more) lo hi key inside =
    by_test (λ (m : Map). get m key ≡ get (pair ∷ more) key) pair more lo hi
    (λ here. ap (λ (o : Option Bytes). cond (bytes_eq pair.0 key) (Some pair.1) o) (within more lo hi key inside))
    (λ away. within more lo hi key inside
    ∙ sym (ap (λ (t : Bool). cond t (Some pair.1) (get more key)) (other_key pair.0 key (λ e. absurd (true-false (sym inside ∙ ap (is_between lo hi) (sym e) ∙ away))))))

pub outside : (map : Map) (lo : Bytes) (hi : Option Bytes) (key : Bytes) → is_between lo hi key ≡ false → get (between map lo hi) key ≡ None
outside [] lo hi key apart = refl
outside (pair ∷ more) lo hi key apart =
    by_test (λ (m : Map). get m key ≡ None) pair more lo hi
    (λ here. ap (λ (t : Bool). cond t (Some pair.1) (get (between more lo hi) key)) (other_key pair.0 key (λ e. absurd (true-false (sym here ∙ ap (is_between lo hi) e ∙ apart))))
    ∙ outside more lo hi key apart)
    (λ away. outside more lo hi key apart)

pub short : (map : Map) (lo : Bytes) (hi : Option Bytes) (n : ℕ) → length (slice map lo hi n) ≤ n
short map lo hi n = omega (arith, length-take n (between map lo hi))

pub whole : (map : Map) (lo : Bytes) (hi : Option Bytes) (n : ℕ) → count map lo hi ≤ n → slice map lo hi n ≡ between map lo hi
whole map lo hi n enough = take_all n (between map lo hi) enough

-- ---- order

abbrev IsAfter : Bytes → Map → Type 0
IsAfter key map = AllByRecursion (λ (pair : Bytes × Bytes). byte_order key pair.0 ≡ Less) map

after_more : (a b : Bytes) (map : Map) → byte_order a b ≡ Less → IsAfter b map → IsAfter a map
after_more a b [] less after = tt
after_more a b (pair ∷ more) less after = (nat_list_cmp_total.trans a b pair.0 less after.0, after_more a b more less after.1)

rest_rises : (pair : Bytes × Bytes) (more : Map) → Rises (pair ∷ more) → Rises more
rest_rises pair [] rises = tt
rest_rises pair (next ∷ more) rises = rises.1

rest_after : (pair : Bytes × Bytes) (more : Map) → Rises (pair ∷ more) → IsAfter pair.0 more
rest_after pair [] rises = tt
rest_after pair (next ∷ more) rises = (rises.0, after_more pair.0 next.0 more rises.0 (rest_after next more rises.1))

rises_with : (pair : Bytes × Bytes) (more : Map) → IsAfter pair.0 more → Rises more → Rises (pair ∷ more)
rises_with pair [] after rises = tt
rises_with pair (next ∷ more) after rises = (after.0, rises)

between_after : (key : Bytes) (map : Map) (lo : Bytes) (hi : Option Bytes) → IsAfter key map → IsAfter key (between map lo hi)
between_after key [] lo hi after = tt
between_after key (pair ∷ more) lo hi after =
    by_test (IsAfter key) pair more lo hi (λ here. (after.0, between_after key more lo hi after.1)) (λ away. between_after key more lo hi after.1)

between_rises : (map : Map) (lo : Bytes) (hi : Option Bytes) → Rises map → Rises (between map lo hi)
between_rises [] lo hi rises = tt
between_rises (pair ∷ more) lo hi rises =
    let rest = between_rises more lo hi (rest_rises pair more rises) in
    by_test Rises pair more lo hi
    (λ here. rises_with pair (between more lo hi) (between_after pair.0 more lo hi (rest_after pair more rises)) rest)
    (λ away. rest)

take_after : (key : Bytes) (n : ℕ) (map : Map) → IsAfter key map → IsAfter key (take n map)
take_after key zero map after = tt
take_after key (suc n) [] after = tt
take_after key (suc n) (pair ∷ more) after = (after.0, take_after key n more after.1)

pub take_rises : (n : ℕ) (map : Map) → Rises map → Rises (take n map)
take_rises zero map rises = tt
take_rises (suc n) [] rises = tt
take_rises (suc n) (pair ∷ more) rises =
    rises_with pair (take n more) (take_after pair.0 n more (rest_after pair more rises)) (take_rises n more (rest_rises pair more rises))

pub slice_rises : (map : Map) (lo : Bytes) (hi : Option Bytes) (n : ℕ) → Rises map → Rises (slice map lo hi n)
slice_rises map lo hi n rises = take_rises n (between map lo hi) (between_rises map lo hi rises)

none_crossed : (map : Map) (lo hi : Bytes) → is_before hi lo ≡ true → between map lo (Some hi) ≡ []
none_crossed [] lo hi crossed = refl
none_crossed (pair ∷ more) lo hi crossed = left_out pair more lo (Some hi) (crossed_key lo hi pair.0 crossed) ∙ none_crossed more lo hi crossed

take-nothing : (n : ℕ) → take {A = Bytes × Bytes} n [] ≡ []
take-nothing zero = refl
take-nothing (suc n) = refl

pub slice_crossed : (map : Map) (lo hi : Bytes) (n : ℕ) → is_before hi lo ≡ true → slice map lo (Some hi) n ≡ []
slice_crossed map lo hi n crossed = ap (take n) (none_crossed map lo hi crossed) ∙ take-nothing n

pub count_crossed : (map : Map) (lo hi : Bytes) → is_before hi lo ≡ true → count map lo (Some hi) ≡ 0
count_crossed map lo hi crossed = ap length (none_crossed map lo hi crossed)

-- ---- seek

some-none : (pair : Bytes × Bytes) → Some pair ≡ None → ⊥
some-none pair e = cc

seek_none : (map : Map) (lo : Bytes) (hi : Option Bytes) → seek map lo hi ≡ None → AllByRecursion (λ (pair : Bytes × Bytes). is_between lo hi pair.0 ≡ false) map
seek_none [] lo hi none = tt
seek_none (pair ∷ more) lo hi none =
    by_test (λ (m : Map). first_pair m ≡ None → (is_between lo hi pair.0 ≡ false) × AllByRecursion (λ (other : Bytes × Bytes). is_between lo hi other.0 ≡ false) more) pair more lo hi
    (λ here e. absurd (some-none pair e))
    (λ away e. (away, seek_none more lo hi e))
    none

none_sought : (map : Map) (lo : Bytes) (hi : Option Bytes) → AllByRecursion (λ (pair : Bytes × Bytes). is_between lo hi pair.0 ≡ false) map → seek map lo hi ≡ None
none_sought [] lo hi apart = refl
none_sought (pair ∷ more) lo hi apart = ap first_pair (left_out pair more lo hi apart.0) ∙ none_sought more lo hi apart.1

pub none_exactly : (map : Map) (lo : Bytes) (hi : Option Bytes) → (seek map lo hi ≡ None) ↔ All (λ (pair : Bytes × Bytes). is_between lo hi pair.0 ≡ false) map
none_exactly map lo hi = (
  λ none. All-from_recursion (λ (pair : Bytes × Bytes). is_between lo hi pair.0 ≡ false) map (seek_none map lo hi none),
  λ apart. none_sought map lo hi (recursion_from_All (λ (pair : Bytes × Bytes). is_between lo hi pair.0 ≡ false) map apart),
)

same_pair : (a b : Bytes × Bytes) → Some a ≡ Some b → a ≡ b
same_pair a b e = cc

pub sought_between : (map : Map) (lo : Bytes) (hi : Option Bytes) (pair : Bytes × Bytes) → seek map lo hi ≡ Some pair → is_between lo hi pair.0 ≡ true
sought_between [] lo hi pair found = absurd (some-none pair (sym found))
sought_between (first ∷ more) lo hi pair found =
    by_test (λ (m : Map). first_pair m ≡ Some pair → is_between lo hi pair.0 ≡ true) first more lo hi
    (λ here e. ap (λ (p : Bytes × Bytes). is_between lo hi p.0) (sym (same_pair first pair e)) ∙ here)
    (λ away e. sought_between more lo hi pair e)
    found

none-some : (value : Bytes) → None ≡ Some value → ⊥
none-some value e = cc

-- a key that the map has behind a lesser one is not before it
got_after : (low : Bytes) (map : Map) (key value : Bytes) → IsAfter low map → get map key ≡ Some value → is_before key low ≡ false
got_after low [] key value after got = absurd (none-some value got)
got_after low (pair ∷ more) key value after got =
    elim (bytes_eq pair.0 key) as (λ t. bytes_eq pair.0 key ≡ t → cond t (Some pair.1) (get more key) ≡ Some value → is_before key low ≡ false) [
      | true ↦ λ e _. not_before_less key low (subst (λ (k : Bytes). byte_order low k ≡ Less) (same_bytes pair.0 key e) after.0)
      | false ↦ λ _ g. got_after low more key value after.1 g
    ] refl got

-- so is one of a map that begins with that key
got_from : (first : Bytes × Bytes) (more : Map) (key value : Bytes) → Rises (first ∷ more) → get (first ∷ more) key ≡ Some value → is_before key first.0 ≡ false
got_from first more key value rises got =
    elim (bytes_eq first.0 key) as (λ t. bytes_eq first.0 key ≡ t → cond t (Some first.1) (get more key) ≡ Some value → is_before key first.0 ≡ false) [
      | true ↦ λ e _. not_before_itself key first.0 (sym (same_bytes first.0 key e))
      | false ↦ λ _ g. got_after first.0 more key value (rest_after first more rises) g
    ] refl got

got_behind : (first : Bytes × Bytes) (more : Map) (key value : Bytes) → first.0 ≢ key → get (first ∷ more) key ≡ Some value → get more key ≡ Some value
got_behind first more key value apart got = sym (ap (λ (t : Bool). cond t (Some first.1) (get more key)) (other_key first.0 key apart)) ∙ got

pub sought_least : (map : Map) (lo : Bytes) (hi : Option Bytes) (pair : Bytes × Bytes) (key value : Bytes) → Rises map
    → seek map lo hi ≡ Some pair → get map key ≡ Some value → is_between lo hi key ≡ true → is_before key pair.0 ≡ false
sought_least [] lo hi pair key value rises found got inside = absurd (some-none pair (sym found))
sought_least (first ∷ more) lo hi pair key value rises found got inside =
    by_test (λ (m : Map). first_pair m ≡ Some pair → is_before key pair.0 ≡ false) first more lo hi
    (λ here e. subst (λ (p : Bytes × Bytes). is_before key p.0 ≡ false) (same_pair first pair e) (got_from first more key value rises got))
    (λ away e. sought_least more lo hi pair key value (rest_rises first more rises) e
    (got_behind first more key value (λ same. absurd (true-false (sym inside ∙ ap (is_between lo hi) (sym same) ∙ away))) got) inside)
    found

-- ---- count

pub counted : (map : Map) (lo : Bytes) (hi : Option Bytes) → count map lo hi ≡ count_by (λ (pair : Bytes × Bytes). is_between lo hi pair.0) map
counted map lo hi = length-filter (λ (pair : Bytes × Bytes). is_between lo hi pair.0) map
