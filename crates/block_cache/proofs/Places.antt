-- Places of blocks, and the list without one of them.
use Rattle.std.proofs.Common.{◌≡◌, ◌≢◌, ℕ, zero, suc, ◌+◌, ◌≤◌, ◌==◌, ◌&&◌, Bool, true, false, cond, List, [], ◌∷◌, length, take, refl, sym, ap, ap₂, arith}
use Rattle.std.specs.Prelude.{Option, Some, None}
use Rattle.std.specs.Map.{lookup, remove_entry}
use Rattle.std.proofs.lemmas.Bool.{eqb-true, eq-eqb}
use Rattle.block_cache.specs.Kept.{BlockPlace, is_place}

pub true-false : true ≡ false → ⊥
true-false e = cc

-- ---- places

pub same_place : (place : BlockPlace) → is_place place place ≡ true
same_place place = ap₂ (λ (s t : Bool). s && t) (eq-eqb place.0 place.0 refl) (eq-eqb place.1 place.1 refl)

both_true : (s t : Bool) → s && t ≡ true → (s ≡ true) × (t ≡ true)
both_true true true e = (refl, refl)
both_true true false e = cc
both_true false t e = cc

pub its_place : (place other : BlockPlace) → is_place place other ≡ true → other ≡ place
its_place place other e =
    let both = both_true (place.0 == other.0) (place.1 == other.1) e in
    ap₂ (λ (t b : ℕ). (t, b)) (sym (eqb-true place.0 other.0 both.0)) (sym (eqb-true place.1 other.1 both.1))

pub other_place : (place other : BlockPlace) → other ≢ place → is_place place other ≡ false
other_place place other apart = elim (is_place place other) as (λ t. is_place place other ≡ t → t ≡ false) [
  | true ↦ λ e. absurd (apart (its_place place other e))
  | false ↦ λ e. refl
] refl

-- ---- without one

module _ {X : Type 0} (test : BlockPlace → Bool) where
  pub removed_none : (es : List (BlockPlace × X)) → lookup test es ≡ None → remove_entry test es ≡ es
  removed_none [] none = refl
  removed_none (e ∷ es) none = elim (test e.0) as (λ t. cond t (Some e.1) (lookup test es) ≡ None → cond t es (e ∷ remove_entry test es) ≡ e ∷ es) [
    | true ↦ λ n. cc
    | false ↦ λ n. ap (λ (l : List (BlockPlace × X)). e ∷ l) (removed_none es n)
  ] none

  pub removed_one : (es : List (BlockPlace × X)) (x : X) → lookup test es ≡ Some x → length (remove_entry test es) + 1 ≡ length es
  removed_one [] x some = cc
  removed_one (e ∷ es) x some = elim (test e.0) as (λ t. cond t (Some e.1) (lookup test es) ≡ Some x → length (cond t es (e ∷ remove_entry test es)) + 1 ≡ length (e ∷ es)) [
    | true ↦ λ s. omega arith
    | false ↦ λ s. omega (arith, removed_one es x s)
  ] some

  pub removed_fewer : (es : List (BlockPlace × X)) → length (remove_entry test es) ≤ length es
  removed_fewer [] = omega arith
  removed_fewer (e ∷ es) = elim (test e.0) as (λ t. length (cond t es (e ∷ remove_entry test es)) ≤ length (e ∷ es)) [
    | true ↦ omega arith
    | false ↦ omega (arith, removed_fewer es)
  ]

  -- no other block is touched
  pub removed_elsewhere : (other : BlockPlace → Bool) → ((place : BlockPlace) → test place ≡ true → other place ≡ false) → (es : List (BlockPlace × X)) → lookup other (remove_entry test es) ≡ lookup other es
  removed_elsewhere other apart [] = refl
  removed_elsewhere other apart (e ∷ es) = elim (test e.0) as (λ t. test e.0 ≡ t → lookup other (cond t es (e ∷ remove_entry test es)) ≡ cond (other e.0) (Some e.1) (lookup other es)) [
    | true ↦ λ passes. sym (ap (λ (t : Bool). cond t (Some e.1) (lookup other es)) (apart e.0 passes))
    | false ↦ λ _. ap (λ (o : Option X). cond (other e.0) (Some e.1) o) (removed_elsewhere other apart es)
  ] refl

  -- what is found of some first ones is found of all
  pub found_among_first : (n : ℕ) (es : List (BlockPlace × X)) (x : X) → lookup test (take n es) ≡ Some x → lookup test es ≡ Some x
  found_among_first zero es x some = cc
  found_among_first (suc n) [] x some = cc
  found_among_first (suc n) (e ∷ es) x some = elim (test e.0) as (λ t. cond t (Some e.1) (lookup test (take n es)) ≡ Some x → cond t (Some e.1) (lookup test es) ≡ Some x) [
    | true ↦ λ s. s
    | false ↦ λ s. found_among_first n es x s
  ] some
