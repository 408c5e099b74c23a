-- Where the paths of two leaves part, and what begins with the first letters of a path.
use Rattle.std.proofs.Common.{◌≡◌, ◌<◌, ◌≤◌, ◌+◌, ◌==◌, ℕ, zero, suc, List, [], ◌∷◌, ◌++◌, Bool, true, cond, length, take, refl, sym, ap, subst, ◌∙◌, arith, inl, inr}
use Rattle.std.proofs.lemmas.Bool.{cases_eq, eqb-true, eq-eqb, and_parts, and_from, false≢true}
use Rattle.byte_fields.specs.Spelling.{IsBytes}
use Rattle.filter_model.specs.Strings.{extends, is_prefix, shared}
use Rattle.filter_model.specs.Trie.{END}
use Rattle.filter_model.proofs.Fronts.{IsBytes-tail}
use Rattle.filter_model.proofs.Order.{Lt}
use Rattle.filter_model.proofs.Shared.{shared-nil, shared-other, shared-same}

-- END where a leaf ends
abbrev pub tail : Bool → List ℕ
tail e = cond e (END ∷ []) []

-- p and q have the first n letters in common, and then each another one
pub record PartAt (p q : List ℕ) (n : ℕ) : Type 0 where
  pub at : shared p q ≡ n
  pub first : n < length p
  pub second : n < length q

-- the paths part where the stubs do, since the one that is a prefix ends
pub paths_part : (x y : List ℕ) (e f : Bool) → Lt x y → IsBytes y → (extends x y ≡ true → e ≡ true) → PartAt (x ++ tail e) (y ++ tail f) (shared x y)
paths_part x [] e f h bytes ends = absurd h
paths_part [] (b ∷ y) e f h bytes ends =
    subst (λ (t : Bool). PartAt (tail t) (b ∷ y ++ tail f) 0) (sym (ends refl))
    (record { at = shared-other END b [] (y ++ tail f) (λ same. omega (arith, bytes 0)); first = omega arith; second = omega arith })
paths_part (a ∷ x) (b ∷ y) e f (inl less) bytes ends =
    let other : a ≡ b → ⊥ = λ same. omega arith in
    let none = shared-other a b x y other in
    record {
      at = shared-other a b (x ++ tail e) (y ++ tail f) other ∙ sym none;
      first = omega (arith, none);
      second = omega (arith, none);
    }
paths_part (a ∷ x) (b ∷ y) e f (inr (same, rest)) bytes ends =
    let later = paths_part x y e f rest (IsBytes-tail b y bytes) (λ k. ends (and_from (a == b) (extends x y) (eq-eqb a b same) k)) in
    let one = shared-same a b x y same in
    record {
      at = shared-same a b (x ++ tail e) (y ++ tail f) same ∙ ap (λ (n : ℕ). 1 + n) later.at ∙ sym one;
      first = omega (arith, one, later.first);
      second = omega (arith, one, later.second);
    }

-- q begins with the letters that it shares with p
pub prefix_of_shared : (n : ℕ) (p q : List ℕ) → n ≤ shared q p → is_prefix (take n p) q ≡ true
prefix_of_shared zero p q h = refl
prefix_of_shared (suc n) [] q h = refl
prefix_of_shared (suc n) (b ∷ p) [] h = absurd (omega arith)
prefix_of_shared (suc n) (b ∷ p) (a ∷ q) h = elim (cases_eq a b) [
  | inl same ↦
      let one = shared-same a b q p same in
      and_from (b == a) (is_prefix (take n p) q) (eq-eqb b a (sym same)) (prefix_of_shared n p q (omega (arith, one)))
  | inr other ↦ absurd (omega (arith, shared-other a b q p other))
]

-- and goes on from them where it is longer
pub extends_of_shared : (n : ℕ) (p q : List ℕ) → n ≤ shared q p → n < length q → extends (take n p) q ≡ true
extends_of_shared zero p [] h l = absurd (omega arith)
extends_of_shared zero p (a ∷ q) h l = refl
extends_of_shared (suc n) [] q h l = absurd (omega (arith, shared-nil q))
extends_of_shared (suc n) (b ∷ p) [] h l = absurd (omega arith)
extends_of_shared (suc n) (b ∷ p) (a ∷ q) h l = elim (cases_eq a b) [
  | inl same ↦
      let one = shared-same a b q p same in
      and_from (b == a) (extends (take n p) q) (eq-eqb b a (sym same)) (extends_of_shared n p q (omega (arith, one)) (omega arith))
  | inr other ↦ absurd (omega (arith, shared-other a b q p other))
]

-- q shares with p the first letters of p that it begins with
pub shared_of_prefix : (n : ℕ) (p q : List ℕ) → n ≤ length p → is_prefix (take n p) q ≡ true → n ≤ shared q p
shared_of_prefix zero p q l e = omega arith
shared_of_prefix (suc n) [] q l e = absurd (omega arith)
shared_of_prefix (suc n) (b ∷ p) [] l e = absurd (false≢true e)
shared_of_prefix (suc n) (b ∷ p) (a ∷ q) l e =
    let parts = and_parts (b == a) (is_prefix (take n p) q) e in
    let rest = shared_of_prefix n p q (omega arith) parts.1 in
    omega (arith, shared-same a b q p (sym (eqb-true b a parts.0)))

-- a prefix is the first letters
pub prefix_is_take : (p q : List ℕ) → is_prefix p q ≡ true → (length p ≤ length q) × (take (length p) q ≡ p)
prefix_is_take [] q e = (omega arith, refl)
prefix_is_take (a ∷ p) [] e = absurd (false≢true e)
prefix_is_take (a ∷ p) (b ∷ q) e =
    let parts = and_parts (a == b) (is_prefix p q) e in
    let rest = prefix_is_take p q parts.1 in
    (omega (arith, rest.0), λ i. sym (eqb-true a b parts.0) i ∷ rest.1 i)
