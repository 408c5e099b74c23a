-- From the first leaves that pass to what a list of leaves answers.
use Rattle.std.proofs.Common.{◌≡◌, ℕ, zero, suc, ◌+◌, ◌-◌, ◌<◌, ◌≤◌, Bool, true, false, cond, Some, None, List, [], ◌∷◌, length, get_or, refl, ap, sym, ◌∙◌, arith, inl, inr, nat_lt, le-ltb, lt-ltb}
use Rattle.std.specs.Prelude.{count_by, not, ◌&&◌, ◌||◌}
use Rattle.std.specs.List.{list_any, position_from}
use Rattle.std.proofs.lemmas.Bool.{cases_lt}
use Rattle.std.proofs.lemmas.List.Sums.{sum_by-cons}
use Rattle.filter_iter.specs.Cuts.{FirstPass, has_begun}
use Rattle.filter_model.specs.Answers.{first, is_past, meets, ranged, tally}
use Rattle.filter_model.specs.Leaves.{Leaf}

-- the first k pass, by number
abbrev Pass : {X : Type 0} → (X → Bool) → List X → ℕ → Type 0
Pass {X} test xs k = (i : ℕ) (d : X) → i < length xs → test (get_or xs i d) ≡ nat_lt i k

pub less_up : (i k : ℕ) → nat_lt (suc i) (suc k) ≡ nat_lt i k
less_up i k = elim (cases_lt i k) [
  | inl less ↦ lt-ltb (suc i) (suc k) (omega (arith, less)) ∙ sym (lt-ltb i k less)
  | inr more ↦ le-ltb (suc i) (suc k) (omega (arith, more)) ∙ sym (le-ltb i k more)
]

none_less : (i : ℕ) → nat_lt i 0 ≡ false
none_less i = le-ltb i 0 (omega arith)

some_more : (k : ℕ) → nat_lt 0 (suc k) ≡ true
some_more k = lt-ltb 0 (suc k) (omega arith)

first_fails : {X : Type 0} (test : X → Bool) (xs : List X) (k a : ℕ) → Pass test xs k → k ≤ length xs → position_from (λ x. not (test x)) a xs ≡ cond (nat_lt k (length xs)) (Some (a + k)) None
first_fails test [] k a w l = ap (λ (t : Bool). cond t (Some (a + k)) None) (sym (le-ltb k 0 (omega arith)))
first_fails test (x ∷ xs) zero a w l =
    ap (λ (t : Bool). cond (not t) (Some a) (position_from (λ y. not (test y)) (a + 1) xs)) (w 0 x (omega arith) ∙ none_less 0) ∙ ap (λ (n : ℕ). Some n) (plus a)
    ∙ sym (ap (λ (t : Bool). cond t (Some (a + 0)) None) (some_more (length xs)))
  where
    plus : (n : ℕ) → n ≡ n + 0
    plus n = omega arith
first_fails test (x ∷ xs) (suc k) a w l =
    ap (λ (t : Bool). cond (not t) (Some a) (position_from (λ y. not (test y)) (a + 1) xs)) (w 0 x (omega arith) ∙ some_more k)
    ∙ first_fails test xs k (a + 1) (λ i d m. w (suc i) d (omega (arith, m)) ∙ less_up i k) (omega (arith, l))
    ∙ ap (λ (n : ℕ). cond (nat_lt k (length xs)) (Some n) None) (moved a k)
    ∙ ap (λ (t : Bool). cond t (Some (a + suc k)) None) (sym (less_up k (length xs)))
  where
    moved : (a k : ℕ) → a + 1 + k ≡ a + suc k
    moved a k = omega arith

-- ---- those from number k on and before number u

abbrev Between : {X : Type 0} → (X → Bool) → List X → ℕ → ℕ → Type 0
Between {X} test xs k u = (i : ℕ) (d : X) → i < length xs → test (get_or xs i d) ≡ (nat_lt i u && not (nat_lt i k))

record Told {X : Type 0} (test : X → Bool) (xs : List X) (k u : ℕ) : Type 0 where
  some : list_any test xs ≡ nat_lt k u
  many : count_by test xs ≡ u - k

none_pass : {X : Type 0} (test : X → Bool) (xs : List X) → ((i : ℕ) (d : X) → i < length xs → test (get_or xs i d) ≡ false) → (list_any test xs ≡ false) × (count_by test xs ≡ 0)
none_pass test [] w = (refl, refl)
none_pass test (x ∷ xs) w =
    let ih = none_pass test xs (λ i d m. w (suc i) d (omega (arith, m))) in
    let here = w 0 x (omega arith) in (
      ap (λ (t : Bool). t || list_any test xs) here ∙ ih.0,
      omega (arith, sum_by-cons (λ y. cond (test y) 1 0) x xs, ih.1, ap (λ (t : Bool). cond {A = ℕ} t 1 0) here),
    )

told : {X : Type 0} (test : X → Bool) (xs : List X) (k u : ℕ) → Between test xs k u → u ≤ length xs → Told test xs k u
told test xs k zero w l =
    let none = none_pass test xs (λ i d m. w i d m ∙ ap (λ (t : Bool). t && not (nat_lt i k)) (none_less i)) in
    record { some = none.0 ∙ sym (none_less k); many = omega (arith, none.1) }
told test [] k (suc u) w l = absurd (omega (arith, l))
told test (x ∷ xs) zero (suc u) w l =
    let ih = told test xs zero u (λ i d m. w (suc i) d (omega (arith, m)) ∙ (λ j. less_up i u j && not (none_less (suc i) j)) ∙ ap (λ (t : Bool). nat_lt i u && not t) (sym (none_less i))) (omega (arith, l)) in
    let here : test x ≡ true = w 0 x (omega arith) ∙ (λ j. some_more u j && not (none_less 0 j)) in
    record {
      some = ap (λ (t : Bool). t || list_any test xs) here ∙ sym (some_more u);
      many = omega (arith, sum_by-cons (λ y. cond (test y) 1 0) x xs, ih.many, ap (λ (t : Bool). cond {A = ℕ} t 1 0) here);
    }
told test (x ∷ xs) (suc k) (suc u) w l =
    let ih = told test xs k u (λ i d m. w (suc i) d (omega (arith, m)) ∙ (λ j. less_up i u j && not (less_up i k j))) (omega (arith, l)) in
    let here : test x ≡ false = w 0 x (omega arith) ∙ (λ j. some_more u j && not (some_more k j)) in
    record {
      some = ap (λ (t : Bool). t || list_any test xs) here ∙ ih.some ∙ sym (less_up k u);
      many = omega (arith, sum_by-cons (λ y. cond (test y) 1 0) x xs, ih.many, ap (λ (t : Bool). cond {A = ℕ} t 1 0) here);
    }

-- ---- what a list of leaves answers

pub first_is : (real_bits : ℕ) (ls : List Leaf) (lo : List ℕ) (k : ℕ) → FirstPass (is_past real_bits lo) ls k → first real_bits ls lo ≡ cond (nat_lt k (length ls)) (Some k) None
first_is real_bits ls lo k f = first_fails (is_past real_bits lo) ls k 0 f.pass f.within ∙ ap (λ (n : ℕ). cond (nat_lt k (length ls)) (Some n) None) (zero_plus k)
  where
    zero_plus : (n : ℕ) → 0 + n ≡ n
    zero_plus n = omega arith

meets_between : (real_bits : ℕ) (ls : List Leaf) (lo hi : List ℕ) (k u : ℕ) → FirstPass (is_past real_bits lo) ls k → FirstPass (has_begun real_bits hi) ls u → Between (meets real_bits lo hi) ls k u
meets_between real_bits ls lo hi k u f g i d l = λ j. g.pass i d l j && not (f.pass i d l j)

pub ranged_is : (real_bits : ℕ) (ls : List Leaf) (lo hi : List ℕ) (k u : ℕ) → FirstPass (is_past real_bits lo) ls k → FirstPass (has_begun real_bits hi) ls u → ranged real_bits ls lo hi ≡ nat_lt k u
ranged_is real_bits ls lo hi k u f g = (told (meets real_bits lo hi) ls k u (meets_between real_bits ls lo hi k u f g) g.within).some

pub tally_is : (real_bits : ℕ) (ls : List Leaf) (lo hi : List ℕ) (k u : ℕ) → FirstPass (is_past real_bits lo) ls k → FirstPass (has_begun real_bits hi) ls u → tally real_bits ls lo hi ≡ u - k
tally_is real_bits ls lo hi k u f g = (told (meets real_bits lo hi) ls k u (meets_between real_bits ls lo hi k u f g) g.within).many
