-- A loop over two lists of leaves that are alike so far.
use Rattle.std.proofs.Common.{◌≡◌, ◌≢◌, ◌<◌, ◌≤◌, ◌+◌, ℕ, zero, suc, refl, Option, Some, None, List, [], ◌∷◌, length, take, sym, ap, ◌∙◌, arith, add-one, subst}
use Rattle.std.specs.Prelude.{slice_get}
use Rattle.filter_model.proofs.Differences.{first_at, no_difference}
use Rattle.filter_model.specs.Answers.{first_difference}
use Rattle.filter_model.specs.Leaves.{Leaf}

-- one place more
pub alike_more : (xs ys : List Leaf) (i : ℕ) → i < length xs → take i xs ≡ take i ys → slice_get xs i ≡ slice_get ys i → (i + 1 ≤ length ys) × (take (i + 1) xs ≡ take (i + 1) ys)
alike_more xs ys i l e s =
    let more = go xs ys i l e s in
    (omega (arith, more.0), subst (λ (k : ℕ). take k xs ≡ take k ys) (sym (add-one i)) more.1)
  where
    go : (xs ys : List Leaf) (i : ℕ) → i < length xs → take i xs ≡ take i ys → slice_get xs i ≡ slice_get ys i → (i < length ys) × (take (suc i) xs ≡ take (suc i) ys)
    go [] ys i l e s = absurd (omega (arith, l))
    go (x ∷ xs) [] zero l e s = absurd (cc)
    go (x ∷ xs) [] (suc i) l e s = absurd (cc)
    go (x ∷ xs) (y ∷ ys) zero l e s = let one : x ≡ y = cc in (omega arith, λ j. one j ∷ [])
    go (x ∷ xs) (y ∷ ys) (suc i) l e s =
        let one : x ≡ y = cc in
        let rest = go xs ys i (omega (arith, l)) (cc) s in
        (omega (arith, rest.0), λ j. one j ∷ rest.1 j)

-- they differ at a place
pub apart_at : (xs ys : List Leaf) (i : ℕ) → i < length xs → i ≤ length ys → take i xs ≡ take i ys → slice_get xs i ≢ slice_get ys i → Some i ≡ first_difference xs ys
apart_at xs ys i l m e s = sym (first_at xs ys i (record { within = omega (arith, l); within_others = m; alike = e; differ = s }))

past : (xs : List Leaf) → slice_get xs (length xs) ≡ None
past [] = refl
past (x ∷ xs) = past xs

within : (xs : List Leaf) (i : ℕ) → i < length xs → slice_get xs i ≡ None → ⊥
within [] i l e = omega (arith, l)
within (x ∷ xs) zero l e = cc
within (x ∷ xs) (suc i) l e = within xs i (omega (arith, l)) e

-- the first list ends there
pub ended_at : (xs ys : List Leaf) (i : ℕ) → i ≡ length xs → length xs < length ys → take i xs ≡ take i ys → Some (length xs) ≡ first_difference xs ys
ended_at xs ys i at l e =
    sym (first_at xs ys (length xs) (record {
      within = omega arith;
      within_others = omega (arith, l);
      alike = subst (λ (k : ℕ). take k xs ≡ take k ys) at e;
      differ = λ s. within ys (length xs) l (sym s ∙ past xs);
    }))

whole : (xs : List Leaf) → take (length xs) xs ≡ xs
whole [] = refl
whole (x ∷ xs) = ap (λ (rest : List Leaf). x ∷ rest) (whole xs)

-- both do
pub ended_both : (xs ys : List Leaf) (i : ℕ) → i ≡ length xs → i ≤ length ys → length ys ≤ length xs → take i xs ≡ take i ys → None ≡ first_difference xs ys
ended_both xs ys i at m n e =
    let other : i ≡ length ys = omega (arith, at, m, n) in
    sym (no_difference xs ys (sym (ap (λ (k : ℕ). take k xs) at ∙ whole xs) ∙ e ∙ ap (λ (k : ℕ). take k ys) other ∙ whole ys))
