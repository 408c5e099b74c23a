-- The pairs between two bounds, as a walk from the first of them meets them.
use Rattle.std.proofs.Common.{◌≡◌, ◌≤◌, ◌+◌, ◌-◌, ◌∙◌, refl, sym, ap, arith, ℕ, zero, suc, Bool, true, false, cond, not, ◌&&◌, [], ◌∷◌, drop}
use Rattle.std.specs.Prelude.{Option, Some, None, filter, map}
use Rattle.std.specs.List.{AllPairs, position_from}
use Rattle.std.specs.Cmp.Lexicographic.{nat_list_cmp_total}
use Rattle.std.specs.Ordering.{is_lt}
use Rattle.std.specs.declared.cmp.Ordering.TheVariants.{Less}
use Rattle.filter_model.proofs.Counts.{AllPairs-head, AllPairs-tail}
use Rattle.filter_model.proofs.Pairs.{Contains-first}
use Rattle.map_file_model.specs.Maps.{keys_of}
use Rattle.map_model.proofs.Between.{before_less}
use Rattle.map_model.specs.Slices.{between, is_before, is_up_to}
use Rattle.map_model.specs.SortedMap.{Bytes, Map, Rises, byte_order}

-- ---- keys that rise

pub rest_rises : (pair : Bytes × Bytes) (more : Map) → Rises (pair ∷ more) → Rises more
rest_rises pair [] rises = tt
rest_rises pair (next ∷ more) rises = rises.1

pub drop_rises : (n : ℕ) (map : Map) → Rises map → Rises (drop n map)
drop_rises zero map rises = rises
drop_rises (suc n) [] rises = tt
drop_rises (suc n) (pair ∷ more) rises = drop_rises n more (rest_rises pair more rises)

-- the keys of a list rise
pub listed_rises : (map : Map) → AllPairs (λ a b. is_before a b ≡ true) (keys_of map) → Rises map
listed_rises [] rising = tt
listed_rises (pair ∷ []) rising = tt
listed_rises (pair ∷ next ∷ more) rising = (
  before_less pair.0 next.0 (AllPairs-head (λ a b. is_before a b ≡ true) pair.0 (next.0 ∷ keys_of more) rising next.0 (Contains-first next.0 (keys_of more))),
  listed_rises (next ∷ more) (AllPairs-tail (λ a b. is_before a b ≡ true) pair.0 (next.0 ∷ keys_of more) rising),
)

no_true : (t : Bool) → (t ≡ true → ⊥) → t ≡ false
no_true true never = absurd (never refl)
no_true false never = refl

true_not_false : true ≡ false → ⊥
true_not_false e = cc

-- what comes after a key that is not below a bound is not below it either
not_below : (a b lo : Bytes) → byte_order a b ≡ Less → is_before a lo ≡ false → is_before b lo ≡ false
not_below a b lo less there =
    no_true (is_before b lo) (λ below. true_not_false (sym (ap is_lt (nat_list_cmp_total.trans a b lo less (before_less b lo below))) ∙ there))

-- and after one that is above a bound, above it
above_too : (a b hi : Bytes) → byte_order a b ≡ Less → is_before hi a ≡ true → is_before hi b ≡ true
above_too a b hi less above = ap is_lt (nat_list_cmp_total.trans hi a b (before_less hi a above) less)

-- ---- up to a bound

abbrev pub up_to : Option Bytes → Map → Map
up_to hi map = filter (λ (pair : Bytes × Bytes). is_up_to hi pair.0) map

pub goes : (hi : Option Bytes) (pair : Bytes × Bytes) (more : Map) → is_up_to hi pair.0 ≡ true → up_to hi (pair ∷ more) ≡ pair ∷ up_to hi more
goes hi pair more here = ap (λ (t : Bool). cond t (pair ∷ up_to hi more) (up_to hi more)) here

passes : (hi : Option Bytes) (pair : Bytes × Bytes) (more : Map) → is_up_to hi pair.0 ≡ false → up_to hi (pair ∷ more) ≡ up_to hi more
passes hi pair more away = ap (λ (t : Bool). cond t (pair ∷ up_to hi more) (up_to hi more)) away

not_not : (t : Bool) → not t ≡ false → t ≡ true
not_not true is = refl
not_not false is = absurd cc

-- where a pair is above the bound, so are all after it
pub stops : (hi : Option Bytes) (pair : Bytes × Bytes) (more : Map) → Rises (pair ∷ more) → is_up_to hi pair.0 ≡ false → up_to hi (pair ∷ more) ≡ []
stops None pair more rises away = absurd (true_not_false away)
stops (Some hi) pair [] rises away = passes (Some hi) pair [] away
stops (Some hi) pair (next ∷ more) rises away =
    passes (Some hi) pair (next ∷ more) away
    ∙ stops (Some hi) next more rises.1 (ap not (above_too pair.0 next.0 hi rises.0 (not_not (is_before hi pair.0) away)))

-- ---- from a bound on

-- where the first pair is not below a bound, none is
all_from : (pair : Bytes × Bytes) (more : Map) (lo : Bytes) (hi : Option Bytes) → Rises (pair ∷ more) → is_before pair.0 lo ≡ false → between (pair ∷ more) lo hi ≡ up_to hi (pair ∷ more)
all_from pair [] lo hi rises there = ap (λ (t : Bool). cond (not t && is_up_to hi pair.0) (pair ∷ []) []) there
all_from pair (next ∷ more) lo hi rises there =
    ap (λ (t : Bool). cond (not t && is_up_to hi pair.0) (pair ∷ between (next ∷ more) lo hi) (between (next ∷ more) lo hi)) there
    ∙ ap (λ (rest : Map). cond (is_up_to hi pair.0) (pair ∷ rest) rest) (all_from next more lo hi rises.1 (not_below pair.0 next.0 lo rises.0 there))

pub none_from : (map : Map) (lo : Bytes) (hi : Option Bytes) (i : ℕ) → position_from (λ key. not (is_before key lo)) i (keys_of map) ≡ None → between map lo hi ≡ []
none_from [] lo hi i none = refl
none_from (pair ∷ more) lo hi i none = elim (is_before pair.0 lo) as (λ t. is_before pair.0 lo ≡ t → cond (not t) (Some i) (position_from (λ key. not (is_before key lo)) (i + 1) (keys_of more)) ≡ None → between (pair ∷ more) lo hi ≡ []) [
  | true ↦ λ below rest. ap (λ (t : Bool). cond (not t && is_up_to hi pair.0) (pair ∷ between more lo hi) (between more lo hi)) below ∙ none_from more lo hi (i + 1) rest
  | false ↦ λ there rest. absurd cc
] refl none

-- the pairs from the first one on
pub some_from : (map : Map) (lo : Bytes) (hi : Option Bytes) (i n : ℕ) → Rises map → position_from (λ key. not (is_before key lo)) i (keys_of map) ≡ Some n
    → (i ≤ n) × (between map lo hi ≡ up_to hi (drop (n - i) map))
some_from [] lo hi i n rises found = absurd cc
some_from (pair ∷ more) lo hi i n rises found = elim (is_before pair.0 lo) as (λ t. is_before pair.0 lo ≡ t → cond (not t) (Some i) (position_from (λ key. not (is_before key lo)) (i + 1) (keys_of more)) ≡ Some n → (i ≤ n) × (between (pair ∷ more) lo hi ≡ up_to hi (drop (n - i) (pair ∷ more)))) [
  | true ↦ λ below rest.
      let then = some_from more lo hi (i + 1) n (rest_rises pair more rises) rest in
      let next : n - i ≡ suc (n - (i + 1)) = omega (arith, then.0) in (
        omega (arith, then.0),
        ap (λ (t : Bool). cond (not t && is_up_to hi pair.0) (pair ∷ between more lo hi) (between more lo hi)) below ∙ then.1 ∙ ap (λ (k : ℕ). up_to hi (drop k (pair ∷ more))) (sym next),
      )
  | false ↦ λ there rest.
      let same : i ≡ n = cc in
      let none : n - i ≡ 0 = omega (arith, same) in (
        omega (arith, same),
        all_from pair more lo hi rises there ∙ ap (λ (k : ℕ). up_to hi (drop k (pair ∷ more))) (sym none),
      )
] refl found
