-- The summary of pairs that a scan gives one by one.
use Rattle.std.proofs.Common.{◌≡◌, ◌∙◌, ◌+◌, ℕ, zero, suc, Bool, true, false, cond, [], ◌∷◌, refl, ap, arith}
use Rattle.std.specs.Prelude.{Some, None, drop, fold, not, take, ◌&&◌}
use Rattle.load_gen.specs.Summary.{Summary, nothing_live, summary_of, with_pair}
use Rattle.map_model.specs.Slices.{between, first_pair, is_before}
use Rattle.map_model.specs.SortedMap.{Bytes, Map}

-- ---- all pairs lie from the empty key on

none_before : (key : Bytes) → is_before key [] ≡ false
none_before [] = refl
none_before (b ∷ more) = refl

pub all_between : (m : Map) → between m [] None ≡ m
all_between [] = refl
all_between (pair ∷ more) =
    ap (λ (b : Bool). cond (not b && true) (pair ∷ between more [] None) (between more [] None)) (none_before pair.0) ∙ ap (λ (rest : Map). pair ∷ rest) (all_between more)

-- ---- one pair more

some_pair : (p q : Bytes × Bytes) → Some p ≡ Some q → p ≡ q
some_pair p q is = cc

no_pair : (p : Bytes × Bytes) → None ≡ Some p → ⊥
no_pair p is = absurd cc

sum_next : (n : ℕ) (sum : Summary) (m : Map) (pair : Bytes × Bytes) → first_pair (drop n m) ≡ Some pair → fold with_pair sum (take (suc n) m) ≡ with_pair (fold with_pair sum (take n m)) ([], pair.1)
sum_next zero sum [] pair is = absurd (no_pair pair is)
sum_next zero sum (p ∷ more) pair is = ap (λ (q : Bytes × Bytes). with_pair sum ([], q.1)) (some_pair p pair is)
sum_next (suc n) sum [] pair is = absurd (no_pair pair is)
sum_next (suc n) sum (p ∷ more) pair is = sum_next n (with_pair sum p) more pair is

one_more : (n : ℕ) → n + 1 ≡ suc n
one_more n = omega arith

pub summed_next : (n : ℕ) (m : Map) (pair : Bytes × Bytes) → first_pair (drop n m) ≡ Some pair → summary_of (take (n + 1) m) ≡ with_pair (summary_of (take n m)) ([], pair.1)
summed_next n m pair is = ap (λ (k : ℕ). summary_of (take k m)) (one_more n) ∙ sum_next n nothing_live m pair is
