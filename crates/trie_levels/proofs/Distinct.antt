-- Lists without repetition: one that another holds is no longer than it.
use Rattle.std.proofs.Common.{◌≡◌, ◌≤◌, ℕ, suc, List, [], ◌∷◌, ◌++◌, Bool, true, false, ◌||◌, length, length-append, sym, ap, subst, ◌∙◌, arith, inl, inr}
use Rattle.std.specs.List.{AllPairs, Contains}
use Rattle.std.proofs.lemmas.Bool.{or_cases, or_left, or_right, false≢true}
use Rattle.std.proofs.lemmas.List.Elements.{Contains-append_left, Contains-append_right, Contains-append_cases}
use Rattle.filter_model.proofs.Counts.{AllPairs-head, AllPairs-tail}
use Rattle.filter_model.proofs.Pairs.{AllPairs-cons, Contains-cases, Contains-first, Contains-nil}
use Rattle.filter_model.proofs.Stubs.{Contains-more}

abbrev pub Apart : {X : Type 0} → X → X → Type 0
Apart x y = x ≡ y → ⊥

-- a list around one of its elements
record Around {X : Type 0} (ys : List X) (x : X) : Type 0 where
  before : List X
  after : List X
  whole : ys ≡ before ++ x ∷ after

around : {X : Type 0} (ys : List X) (x : X) → Contains ys x → Around ys x
around [] x c = absurd (Contains-nil x c)
around {X} (y ∷ ys) x c = elim (Contains-cases y ys x c) [
  | inl here ↦ record { before = []; after = ys; whole = ap (λ (z : X). z ∷ ys) here }
  | inr there ↦ let r = around ys x there in record { before = y ∷ r.before; after = r.after; whole = ap (λ (l : List X). y ∷ l) r.whole }
]

kept_without : {X : Type 0} (before after : List X) (x y : X) → Contains (before ++ x ∷ after) y → Apart x y → Contains (before ++ after) y
kept_without before after x y c other = elim (Contains-append_cases before (x ∷ after) y c) [
  | inl left ↦ Contains-append_left before after y left
  | inr right ↦ elim (Contains-cases x after y right) [
    | inl here ↦ absurd (other here)
    | inr more ↦ Contains-append_right before after y more
  ]
]

-- each element of xs once, and in ys
pub distinct_le : {X : Type 0} (xs ys : List X) → AllPairs Apart xs → ((x : X) → Contains xs x → Contains ys x) → length xs ≤ length ys
distinct_le [] ys h k = omega arith
distinct_le {X} (x ∷ xs) ys h k =
    let r = around ys x (k x (Contains-first x xs)) in
    let rest = distinct_le xs (r.before ++ r.after) (AllPairs-tail Apart x xs h)
    (λ y c. kept_without r.before r.after x y (subst (λ (l : List X). Contains l y) r.whole (k y (Contains-more x xs y c))) (AllPairs-head Apart x xs h y c)) in
    omega (arith, rest, ap (length {A = X}) r.whole, length-append r.before (x ∷ r.after), length-append r.before r.after)

-- xs holds each string of n letters that passes, once
pub record Lists (n : ℕ) (test : List ℕ → Bool) (xs : List (List ℕ)) : Type 0 where
  pub distinct : AllPairs Apart xs
  pub sound : (q : List ℕ) → Contains xs q → (length q ≡ n) × (test q ≡ true)
  pub complete : (q : List ℕ) → length q ≡ n → test q ≡ true → Contains xs q

-- tests of which the later one passes what the earlier one or a new one does
abbrev pub Widens : (List ℕ → Bool) → (List ℕ → Bool) → (List ℕ → Bool) → Type 0
Widens test more later = (q : List ℕ) → later q ≡ (more q || test q)

older : {n : ℕ} {test later : List ℕ → Bool} (more : List ℕ → Bool) (xs ys : List (List ℕ)) → Lists n test xs → Lists n later ys → Widens test more later
    → (q : List ℕ) → Contains xs q → Contains ys q
older {n} {test} more xs ys old new w q c =
    let s = old.sound q c in new.complete q s.0 (w q ∙ or_right (more q) (test q) s.1)

-- the new test passes nothing new
pub stays : {n : ℕ} {test later : List ℕ → Bool} (more : List ℕ → Bool) (xs ys : List (List ℕ)) → Lists n test xs → Lists n later ys → Widens test more later
    → ((q : List ℕ) → length q ≡ n → more q ≡ true → test q ≡ true) → length ys ≡ length xs
stays {n} {test} more xs ys old new w none =
    let up = distinct_le xs ys old.distinct (older more xs ys old new w) in
    let down = distinct_le ys xs new.distinct (λ q c.
    let s = new.sound q c in
    elim (or_cases (more q) (test q) (sym (w q) ∙ s.1)) [
      | inl passes ↦ old.complete q s.0 (none q s.0 passes)
      | inr passed ↦ old.complete q s.0 passed
    ]) in
    omega arith

-- the new test passes one string more
pub grows : {n : ℕ} {test later : List ℕ → Bool} (more : List ℕ → Bool) (xs ys : List (List ℕ)) (p : List ℕ) → Lists n test xs → Lists n later ys → Widens test more later
    → length p ≡ n → more p ≡ true → test p ≡ false → ((q : List ℕ) → length q ≡ n → more q ≡ true → p ≡ q) → length ys ≡ suc (length xs)
grows {n} {test} more xs ys p old new w long passes fails only =
    let apart = AllPairs-cons Apart p xs (λ q c same. false≢true (sym fails ∙ ap test same ∙ (old.sound q c).1)) old.distinct in
    let up = distinct_le (p ∷ xs) ys apart (λ q c. elim (Contains-cases p xs q c) [
      | inl here ↦ subst (Contains ys) here (new.complete p long (w p ∙ or_left (more p) (test p) passes))
      | inr there ↦ older more xs ys old new w q there
    ]) in
    let down = distinct_le ys (p ∷ xs) new.distinct (λ q c.
    let s = new.sound q c in
    elim (or_cases (more q) (test q) (sym (w q) ∙ s.1)) [
      | inl this ↦ (0, omega arith, only q s.0 this)
      | inr passed ↦ Contains-more p xs q (old.complete q s.0 passed)
    ]) in
    omega arith
