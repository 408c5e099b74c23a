-- The order of byte strings as a relation, by the first bytes.
use Rattle.std.proofs.Common.{◌≡◌, ◌<◌, ℕ, List, [], ◌∷◌, ◌++◌, ◌⊎◌, true, false, refl, sym, ap, ◌∙◌, arith, inl, inr}
use Rattle.std.proofs.lemmas.Bool.{cases_lt, false≢true}
use Rattle.std.proofs.lemmas.Bool.Decides.{nat_tests}
use Rattle.std.specs.declared.cmp.Ordering.TheVariants.{Less, Equal, Greater}
use Rattle.std.specs.Ordering.{nat_cmp, ordering_then, is_lt}
use Rattle.std.specs.Cmp.Lexicographic.{slice_cmp}
use Rattle.filter_model.specs.Strings.{is_before}

pub nat_cmp-less : (a b : ℕ) → a < b → nat_cmp a b ≡ Less
nat_cmp-less a b h = grind (arith, nat_tests)

pub nat_cmp-same : (a b : ℕ) → a ≡ b → nat_cmp a b ≡ Equal
nat_cmp-same a b h = grind (arith, nat_tests)

pub nat_cmp-more : (a b : ℕ) → b < a → nat_cmp a b ≡ Greater
nat_cmp-more a b h = grind (arith, nat_tests)

-- a is less than b, is b, or is more
pub thirds : (a b : ℕ) → (a < b) ⊎ ((a ≡ b) ⊎ (b < a))
thirds a b = elim (cases_lt a b) [
  | inl less ↦ inl less
  | inr not_less ↦ elim (cases_lt b a) [ inl more ↦ inr (inr more) | inr not_more ↦ inr (inl (omega arith)) ]
]

-- x is y or comes before it
abbrev pub Leq : List ℕ → List ℕ → Type 0
Leq [] y = Unit {0}
Leq (a ∷ x) [] = ⊥
Leq (a ∷ x) (b ∷ y) = (a < b) ⊎ ((a ≡ b) × Leq x y)

-- x comes before y
abbrev pub Lt : List ℕ → List ℕ → Type 0
Lt x [] = ⊥
Lt [] (b ∷ y) = Unit {0}
Lt (a ∷ x) (b ∷ y) = (a < b) ⊎ ((a ≡ b) × Lt x y)

then_less : (a b : ℕ) (x y : List ℕ) → a < b → is_before (a ∷ x) (b ∷ y) ≡ true
then_less a b x y h = ap (λ o. is_lt (ordering_then o (slice_cmp nat_cmp x y))) (nat_cmp-less a b h)

then_same : (a b : ℕ) (x y : List ℕ) → a ≡ b → is_before (a ∷ x) (b ∷ y) ≡ is_before x y
then_same a b x y h = ap (λ o. is_lt (ordering_then o (slice_cmp nat_cmp x y))) (nat_cmp-same a b h)

then_more : (a b : ℕ) (x y : List ℕ) → b < a → is_before (a ∷ x) (b ∷ y) ≡ false
then_more a b x y h = ap (λ o. is_lt (ordering_then o (slice_cmp nat_cmp x y))) (nat_cmp-more a b h)

pub Lt-from : (x y : List ℕ) → is_before x y ≡ true → Lt x y
Lt-from [] [] e = absurd (false≢true e)
Lt-from (a ∷ x) [] e = absurd (false≢true e)
Lt-from [] (b ∷ y) e = tt
Lt-from (a ∷ x) (b ∷ y) e = elim (thirds a b) [
  | inl less ↦ inl less
  | inr (inl same) ↦ inr (same, Lt-from x y (sym (then_same a b x y same) ∙ e))
  | inr (inr more) ↦ absurd (false≢true (sym (then_more a b x y more) ∙ e))
]

pub Lt-to : (x y : List ℕ) → Lt x y → is_before x y ≡ true
Lt-to [] [] h = absurd h
Lt-to (a ∷ x) [] h = absurd h
Lt-to [] (b ∷ y) h = refl
Lt-to (a ∷ x) (b ∷ y) (inl less) = then_less a b x y less
Lt-to (a ∷ x) (b ∷ y) (inr (same, rest)) = then_same a b x y same ∙ Lt-to x y rest

pub Leq-from : (x y : List ℕ) → is_before y x ≡ false → Leq x y
Leq-from [] y e = tt
Leq-from (a ∷ x) [] e = absurd (false≢true (sym e))
Leq-from (a ∷ x) (b ∷ y) e = elim (thirds a b) [
  | inl less ↦ inl less
  | inr (inl same) ↦ inr (same, Leq-from x y (sym (then_same b a y x (sym same)) ∙ e))
  | inr (inr more) ↦ absurd (false≢true (sym e ∙ then_less b a y x more))
]

pub Leq-to : (x y : List ℕ) → Leq x y → is_before y x ≡ false
Leq-to [] [] h = refl
Leq-to [] (b ∷ y) h = refl
Leq-to (a ∷ x) [] h = absurd h
Leq-to (a ∷ x) (b ∷ y) (inl less) = then_more b a y x less
Leq-to (a ∷ x) (b ∷ y) (inr (same, rest)) = then_same b a y x (sym same) ∙ Leq-to x y rest

pub Leq-itself : (x : List ℕ) → Leq x x
Leq-itself [] = tt
Leq-itself (a ∷ x) = inr (refl, Leq-itself x)

pub Leq-trans : (x y z : List ℕ) → Leq x y → Leq y z → Leq x z
Leq-trans [] y z h k = tt
Leq-trans (a ∷ x) [] z h k = absurd h
Leq-trans (a ∷ x) (b ∷ y) [] h k = absurd k
Leq-trans (a ∷ x) (b ∷ y) (c ∷ z) (inl h) (inl k) = inl (omega arith)
Leq-trans (a ∷ x) (b ∷ y) (c ∷ z) (inl h) (inr (k, l)) = inl (omega arith)
Leq-trans (a ∷ x) (b ∷ y) (c ∷ z) (inr (h, i)) (inl k) = inl (omega arith)
Leq-trans (a ∷ x) (b ∷ y) (c ∷ z) (inr (h, i)) (inr (k, l)) = inr (h ∙ k, Leq-trans x y z i l)

pub Lt-Leq : (x y : List ℕ) → Lt x y → Leq x y
Lt-Leq [] y h = tt
Lt-Leq (a ∷ x) [] h = absurd h
Lt-Leq (a ∷ x) (b ∷ y) (inl less) = inl less
Lt-Leq (a ∷ x) (b ∷ y) (inr (same, rest)) = inr (same, Lt-Leq x y rest)

-- none comes before another that comes before it
pub Lt-not_back : (x y : List ℕ) → Lt x y → Leq y x → ⊥
Lt-not_back [] [] h k = h
Lt-not_back (a ∷ x) [] h k = h
Lt-not_back [] (b ∷ y) h k = k
Lt-not_back (a ∷ x) (b ∷ y) (inl h) (inl k) = omega arith
Lt-not_back (a ∷ x) (b ∷ y) (inl h) (inr (k, l)) = omega arith
Lt-not_back (a ∷ x) (b ∷ y) (inr (h, i)) (inl k) = omega arith
Lt-not_back (a ∷ x) (b ∷ y) (inr (h, i)) (inr (k, l)) = Lt-not_back x y i l

pub Lt-or-Leq : (x y : List ℕ) → Lt x y ⊎ Leq y x
Lt-or-Leq x [] = inr tt
Lt-or-Leq [] (b ∷ y) = inl tt
Lt-or-Leq (a ∷ x) (b ∷ y) = elim (thirds a b) [
  | inl less ↦ inl (inl less)
  | inr (inl same) ↦ elim (Lt-or-Leq x y) [ inl before ↦ inl (inr (same, before)) | inr after ↦ inr (inr (sym same, after)) ]
  | inr (inr more) ↦ inr (inl more)
]

-- the same bytes in front change nothing
pub Leq-append : (p x y : List ℕ) → Leq x y → Leq (p ++ x) (p ++ y)
Leq-append [] x y h = h
Leq-append (a ∷ p) x y h = inr (refl, Leq-append p x y h)

pub Lt-trans : (x y z : List ℕ) → Lt x y → Lt y z → Lt x z
Lt-trans x y [] h k = k
Lt-trans x [] (c ∷ z) h k = absurd h
Lt-trans [] (b ∷ y) (c ∷ z) h k = tt
Lt-trans (a ∷ x) (b ∷ y) (c ∷ z) (inl h) (inl k) = inl (omega arith)
Lt-trans (a ∷ x) (b ∷ y) (c ∷ z) (inl h) (inr (k, l)) = inl (omega arith)
Lt-trans (a ∷ x) (b ∷ y) (c ∷ z) (inr (h, i)) (inl k) = inl (omega arith)
Lt-trans (a ∷ x) (b ∷ y) (c ∷ z) (inr (h, i)) (inr (k, l)) = inr (h ∙ k, Lt-trans x y z i l)

pub is_before-trans : (x y z : List ℕ) → is_before x y ≡ true → is_before y z ≡ true → is_before x z ≡ true
is_before-trans x y z h k = Lt-to x z (Lt-trans x y z (Lt-from x y h) (Lt-from y z k))
