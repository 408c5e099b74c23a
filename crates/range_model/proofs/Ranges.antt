-- What ranges cover.
use Rattle.std.proofs.Common.{◌≡◌, List, [], ◌∷◌, refl, sym, ap, ap₂, ◌∙◌, Bool, true, false, cond, not}
use Rattle.std.specs.Prelude.{◌&&◌, ◌||◌}
use Rattle.std.specs.List.{AllByRecursion}
use Rattle.std.proofs.lemmas.Bool.{false≢true}
use Rattle.key_base.specs.ByteOrder.{IsBefore, is_before}
use Rattle.map_model.specs.SortedMap.{Bytes}
use Rattle.range_model.specs.Ranges.{DeletedRange, IsDeletedRange, is_covered, covers, lesser_key, greater_key, joined_range, with_range, ranges_below, ranges_from}
use Rattle.map_model.proofs.Between.{before_less}
use Rattle.range_model.proofs.KeyOrders.{from_before, is_before_of, test_from, test_then}

-- ---- truth values

pub or_again : (x y z : Bool) → ((x || y) || z) ≡ (x || (y || z))
or_again true y z = refl
or_again false y z = refl

pub or_swap : (x y z : Bool) → (x || (y || z)) ≡ (y || (x || z))
or_swap true true z = refl
or_swap true false z = refl
or_swap false true z = refl
or_swap false false z = refl

or_other : (x y : Bool) → (x || y) ≡ (y || x)
or_other true true = refl
or_other true false = refl
or_other false true = refl
or_other false false = refl

-- two stretches of an order that meet or touch are one
one_stretch : (a1 a2 b1 b2 : Bool) → (a1 ≡ true → b1 ≡ true) → (a1 ≡ true → b2 ≡ true) → (a2 ≡ true → b1 ≡ true) → (a2 ≡ true → b2 ≡ true)
    → (not (a1 && a2) && (b1 || b2)) ≡ ((not a2 && b2) || (not a1 && b1))
one_stretch true true b1 b2 p q r s = refl
one_stretch true false b1 b2 p q r s = ap₂ (λ (x y : Bool). x || y) (p refl) (q refl) ∙ sym (ap (λ (x : Bool). x || false) (q refl))
one_stretch false true b1 b2 p q r s = ap (λ (x : Bool). x || b2) (r refl) ∙ sym (r refl)
one_stretch false false b1 b2 p q r s = or_other b1 b2

-- ---- the lesser and the greater of two keys

pub before_lesser : (key x y : Bytes) → is_before key (lesser_key x y) ≡ (is_before key x && is_before key y)
before_lesser key x y = elim (is_before y x) as (λ t. is_before y x ≡ t → is_before key (cond t y x) ≡ (is_before key x && is_before key y)) [
  | true ↦ λ e. elim (is_before key y) as (λ t. is_before key y ≡ t → t ≡ (is_before key x && t)) [
    | true ↦ λ k. sym (ap (λ (t : Bool). t && true) (test_then key y x (before_less y x e) k))
    | false ↦ λ _. elim (is_before key x) as (λ t. false ≡ (t && false)) [ true ↦ refl | false ↦ refl ]
  ] refl
  | false ↦ λ e. elim (is_before key x) as (λ t. is_before key x ≡ t → t ≡ (t && is_before key y)) [
    | true ↦ λ k. sym (test_from key x y e k)
    | false ↦ λ _. refl
  ] refl
] refl

pub before_greater : (key x y : Bytes) → is_before key (greater_key x y) ≡ (is_before key x || is_before key y)
before_greater key x y = elim (is_before x y) as (λ t. is_before x y ≡ t → is_before key (cond t y x) ≡ (is_before key x || is_before key y)) [
  | true ↦ λ e. elim (is_before key x) as (λ t. is_before key x ≡ t → is_before key y ≡ (t || is_before key y)) [
    | true ↦ λ k. test_then key x y (before_less x y e) k
    | false ↦ λ _. refl
  ] refl
  | false ↦ λ e. elim (is_before key y) as (λ t. is_before key y ≡ t → is_before key x ≡ (is_before key x || t)) [
    | true ↦ λ k. let yes = test_from key y x e k in yes ∙ sym (ap (λ (t : Bool). t || true) yes)
    | false ↦ λ _. or_other false (is_before key x)
  ] refl
] refl

lesser_before : (x y high : Bytes) → IsBefore x high → is_before (lesser_key x y) high ≡ true
lesser_before x y high less = elim (is_before y x) as (λ t. is_before y x ≡ t → is_before (cond t y x) high ≡ true) [
  | true ↦ λ e. test_then y x high less e
  | false ↦ λ _. is_before_of x high less
] refl

-- ---- a range more

module _ (one other : DeletedRange) (apart : is_before one.hi other.lo ≡ false) (back : is_before other.hi one.lo ≡ false) (is : IsDeletedRange one) (new : IsDeletedRange other) where
  pub joined_within : (key : Bytes) → is_covered (joined_range one other) key ≡ (is_covered other key || is_covered one key)
  joined_within key =
      ap₂ (λ (x y : Bool). not x && y) (before_lesser key one.lo other.lo) (before_greater key one.hi other.hi)
      ∙ one_stretch (is_before key one.lo) (is_before key other.lo) (is_before key one.hi) (is_before key other.hi)
      (test_then key one.lo one.hi is) (test_from key one.lo other.hi back) (test_from key other.lo one.hi apart) (test_then key other.lo other.hi new)

  pub joined_is : IsDeletedRange (joined_range one other)
  joined_is = before_less (lesser_key one.lo other.lo) (greater_key one.hi other.hi) (before_greater (lesser_key one.lo other.lo) one.hi other.hi
      ∙ ap (λ (t : Bool). t || is_before (lesser_key one.lo other.lo) other.hi) (lesser_before one.lo other.lo one.hi is))

pub covers_with : (ranges : List DeletedRange) (new : DeletedRange) (key : Bytes) → AllByRecursion IsDeletedRange ranges → IsDeletedRange new → covers (with_range ranges new) key ≡ (is_covered new key || covers ranges key)
covers_with [] new key all is = refl
covers_with (range ∷ later) new key all is =
    elim (is_before range.hi new.lo) as (λ t. is_before range.hi new.lo ≡ t → covers (cond t (range ∷ with_range later new) (cond (is_before new.hi range.lo) (new ∷ range ∷ later) (with_range later (joined_range range new)))) key ≡ (is_covered new key || (is_covered range key || covers later key))) [
      | true ↦ λ _. ap (λ (t : Bool). is_covered range key || t) (covers_with later new key all.1 is) ∙ or_swap (is_covered range key) (is_covered new key) (covers later key)
      | false ↦ λ apart. elim (is_before new.hi range.lo) as (λ t. is_before new.hi range.lo ≡ t → covers (cond t (new ∷ range ∷ later) (with_range later (joined_range range new))) key ≡ (is_covered new key || (is_covered range key || covers later key))) [
        | true ↦ λ _. refl
        | false ↦ λ back. covers_with later (joined_range range new) key all.1 (joined_is range new apart back all.0 is)
            ∙ ap (λ (t : Bool). t || covers later key) (joined_within range new apart back all.0 is key)
            ∙ or_again (is_covered new key) (is_covered range key) (covers later key)
      ] refl
    ] refl

pub ranges_with : (ranges : List DeletedRange) (new : DeletedRange) → AllByRecursion IsDeletedRange ranges → IsDeletedRange new → AllByRecursion IsDeletedRange (with_range ranges new)
ranges_with [] new all is = (is, tt)
ranges_with (range ∷ later) new all is =
    elim (is_before range.hi new.lo) as (λ t. is_before range.hi new.lo ≡ t → AllByRecursion IsDeletedRange (cond t (range ∷ with_range later new) (cond (is_before new.hi range.lo) (new ∷ range ∷ later) (with_range later (joined_range range new))))) [
      | true ↦ λ _. (all.0, ranges_with later new all.1 is)
      | false ↦ λ apart. elim (is_before new.hi range.lo) as (λ t. is_before new.hi range.lo ≡ t → AllByRecursion IsDeletedRange (cond t (new ∷ range ∷ later) (with_range later (joined_range range new)))) [
        | true ↦ λ _. (is, all)
        | false ↦ λ back. ranges_with later (joined_range range new) all.1 (joined_is range new apart back all.0 is)
      ] refl
    ] refl

-- ---- below a key, and from it on

and_swap : (x y z : Bool) → (x && (y && z)) ≡ ((x && y) && z)
and_swap true y z = refl
and_swap false y z = refl

below_one : (low high : Bytes) (at key : Bytes) → (not (is_before key low) && is_before key (lesser_key high at)) ≡ ((not (is_before key low) && is_before key high) && is_before key at)
below_one low high at key = ap (λ (t : Bool). not (is_before key low) && t) (before_lesser key high at) ∙ and_swap (not (is_before key low)) (is_before key high) (is_before key at)

-- of a range that begins at a key or behind it nothing lies below the key
none_below : (range : DeletedRange) (at key : Bytes) → is_before range.lo at ≡ false → (is_covered range key && is_before key at) ≡ false
none_below range at key not_so = elim (is_before key range.lo) as (λ t. is_before key range.lo ≡ t → ((not t && is_before key range.hi) && is_before key at) ≡ false) [
  | true ↦ λ _. refl
  | false ↦ λ e. elim (is_before key at) as (λ t. is_before key at ≡ t → (is_before key range.hi && t) ≡ false) [
    | true ↦ λ k. absurd (false≢true (sym not_so ∙ is_before_of range.lo at (from_before range.lo key at e (before_less key at k))))
    | false ↦ λ _. elim (is_before key range.hi) as (λ t. (t && false) ≡ false) [ true ↦ refl | false ↦ refl ]
  ] refl
] refl

and_or : (x y z : Bool) → ((x && z) || (y && z)) ≡ ((x || y) && z)
and_or true true true = refl
and_or true true false = refl
and_or true false true = refl
and_or true false false = refl
and_or false y z = refl

pub covers_below : (ranges : List DeletedRange) (at key : Bytes) → covers (ranges_below ranges at) key ≡ (covers ranges key && is_before key at)
covers_below [] at key = refl
covers_below (range ∷ later) at key =
    elim (is_before range.lo at) as (λ t. is_before range.lo at ≡ t → covers (cond t (record { lo = range.lo; hi = lesser_key range.hi at } ∷ ranges_below later at) (ranges_below later at)) key ≡ ((is_covered range key || covers later key) && is_before key at)) [
      | true ↦ λ _. ap₂ (λ (x y : Bool). x || y) (below_one range.lo range.hi at key) (covers_below later at key) ∙ and_or (is_covered range key) (covers later key) (is_before key at)
      | false ↦ λ e. covers_below later at key ∙ sym (ap (λ (t : Bool). t || (covers later key && is_before key at)) (none_below range at key e))
          ∙ and_or (is_covered range key) (covers later key) (is_before key at)
    ] refl

not_or : (x y z : Bool) → (not (x || y) && z) ≡ ((not x && z) && not y)
not_or true y z = refl
not_or false true true = refl
not_or false true false = refl
not_or false false true = refl
not_or false false false = refl

-- of a range that ends at a key or before it nothing lies from the key on
none_from : (range : DeletedRange) (at key : Bytes) → is_before at range.hi ≡ false → (is_covered range key && not (is_before key at)) ≡ false
none_from range at key not_so = elim (is_before key range.hi) as (λ t. is_before key range.hi ≡ t → ((not (is_before key range.lo) && t) && not (is_before key at)) ≡ false) [
  | true ↦ λ k. ap (λ (t : Bool). (not (is_before key range.lo) && true) && not t) (test_from key range.hi at not_so k) ∙ no (not (is_before key range.lo) && true)
  | false ↦ λ _. ap (λ (t : Bool). t && not (is_before key at)) (no (not (is_before key range.lo)))
] refl
  where
    no : (x : Bool) → (x && false) ≡ false
    no true = refl
    no false = refl

pub covers_from : (ranges : List DeletedRange) (at key : Bytes) → covers (ranges_from ranges at) key ≡ (covers ranges key && not (is_before key at))
covers_from [] at key = refl
covers_from (range ∷ later) at key =
    elim (is_before at range.hi) as (λ t. is_before at range.hi ≡ t → covers (cond t (record { lo = greater_key range.lo at; hi = range.hi } ∷ ranges_from later at) (ranges_from later at)) key ≡ ((is_covered range key || covers later key) && not (is_before key at))) [
      | true ↦ λ _. ap₂ (λ (x y : Bool). x || y) (ap (λ (t : Bool). not t && is_before key range.hi) (before_greater key range.lo at) ∙ not_or (is_before key range.lo) (is_before key at) (is_before key range.hi)) (covers_from later at key)
          ∙ and_or (is_covered range key) (covers later key) (not (is_before key at))
      | false ↦ λ e. covers_from later at key ∙ sym (ap (λ (t : Bool). t || (covers later key && not (is_before key at))) (none_from range at key e))
          ∙ and_or (is_covered range key) (covers later key) (not (is_before key at))
    ] refl
