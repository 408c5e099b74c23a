-- What all elements of a list have, and what each has with each later one.
use Rattle.std.proofs.Common.{◌≡◌, ℕ, zero, suc, List, [], ◌∷◌, refl, Bool, true, false, cond, arith}
use Rattle.std.specs.Prelude.{filter}
use Rattle.std.specs.List.{AllByRecursion, AllPairs}
use Rattle.std.proofs.lemmas.List.Elements.{recursion_from_All, All-from_recursion}
use Rattle.std.proofs.lemmas.List.Kept.{AllPairs-cons}

-- R holds of each element and each later one
abbrev pub Pairs : {X : Type 0} → (X → X → Type 0) → List X → Type 0
Pairs R [] = Unit {0}
Pairs R (x ∷ more) = AllByRecursion (R x) more × Pairs R more

pub pairs_of : {X : Type 0} (R : X → X → Type 0) (xs : List X) → AllPairs R xs → Pairs R xs
pairs_of R [] pairs = tt
pairs_of R (x ∷ more) pairs = (recursion_from_All (R x) more (λ k d less. pairs 0 (suc k) d (omega arith) (omega arith)), pairs_of R more (λ i j d less within. pairs (suc i) (suc j) d (omega arith) (omega arith)))

pub all_pairs : {X : Type 0} (R : X → X → Type 0) (xs : List X) → Pairs R xs → AllPairs R xs
all_pairs R [] pairs = λ i j d l k. absurd (omega arith)
all_pairs R (x ∷ more) pairs = AllPairs-cons R x more (All-from_recursion (R x) more pairs.0) (all_pairs R more pairs.1)

-- it does not hang on which of the two comes first
abbrev pub Mutual : {X : Type 0} → (X → X → Type 0) → Type 0
Mutual {X} R = (x y : X) → R x y → R y x

pub both : {X : Type 0} (P Q : X → Type 0) (xs : List X) → AllByRecursion P xs → AllByRecursion Q xs → AllByRecursion (λ x. P x × Q x) xs
both P Q [] p q = tt
both P Q (x ∷ more) p q = ((p.0, q.0), both P Q more p.1 q.1)

pub all_kept : {X : Type 0} (P : X → Type 0) (test : X → Bool) (xs : List X) → AllByRecursion P xs → AllByRecursion P (filter test xs)
all_kept P test [] all = tt
all_kept P test (x ∷ more) all = elim (test x) as (λ b. AllByRecursion P (cond b (x ∷ filter test more) (filter test more))) [ true ↦ (all.0, all_kept P test more all.1) | false ↦ all_kept P test more all.1 ]

pub all_pass : {X : Type 0} (test : X → Bool) (xs : List X) → AllByRecursion (λ x. test x ≡ true) (filter test xs)
all_pass test [] = tt
all_pass test (x ∷ more) = elim (test x) as (λ b. test x ≡ b → AllByRecursion (λ y. test y ≡ true) (cond b (x ∷ filter test more) (filter test more))) [ true ↦ λ e. (e, all_pass test more) | false ↦ λ _. all_pass test more ] refl
