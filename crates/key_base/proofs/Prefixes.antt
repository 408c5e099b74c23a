-- What two byte strings begin with alike, and how three of them compare.
use Rattle.std.proofs.Common.{◌≡◌, ◌<◌, ◌+◌, ◌==◌, ℕ, zero, suc, [], ◌∷◌, ◌++◌, take, drop, refl, sym, ap, ap₂, ◌∙◌, Bool, true, false, cond, arith, inl, inr}
use Rattle.std.specs.Ordering.{nat_cmp, ordering_then}
use Rattle.std.specs.declared.cmp.Ordering.{Ordering}
use Rattle.std.specs.declared.cmp.Ordering.TheVariants.{Less, Equal, Greater}
use Rattle.std.proofs.lemmas.Bool.{cases_order, true≢false}
use Rattle.std.proofs.lemmas.Bool.Decides.{nat_tests}
use Rattle.key_base.specs.ByteOrder.{Bytes, byte_order}
use Rattle.key_base.specs.Prefixes.{alike, CloserDecides, RestsDecide, SharedAndRest, RestComparesAsKey}

test_same : (a b : ℕ) → a ≡ b → (a == b) ≡ true
test_same a b h = grind (arith, nat_tests)

test_less : (a b : ℕ) → a < b → (a == b) ≡ false
test_less a b h = grind (arith, nat_tests)

test_more : (a b : ℕ) → b < a → (a == b) ≡ false
test_more a b h = grind (arith, nat_tests)

same_of : (a b : ℕ) → (a == b) ≡ true → a ≡ b
same_of a b h = grind (arith, nat_tests)

less : (a b : ℕ) → a < b → nat_cmp a b ≡ Less
less a b h = grind (arith, nat_tests)

same : (a b : ℕ) → a ≡ b → nat_cmp a b ≡ Equal
same a b h = grind (arith, nat_tests)

more : (a b : ℕ) → b < a → nat_cmp a b ≡ Greater
more a b h = grind (arith, nat_tests)

-- first bytes that differ decide, whatever comes after them
other_first : (a c : ℕ) (one other : Ordering) → (a == c) ≡ false → ordering_then (nat_cmp a c) one ≡ ordering_then (nat_cmp a c) other
other_first a c one other h = elim (cases_order a c) [
  | inl level ↦ absurd (true≢false (sym (test_same a c level) ∙ h))
  | inr (inl lower) ↦ ap (λ (o : Ordering). ordering_then o one) (less a c lower) ∙ sym (ap (λ (o : Ordering). ordering_then o other) (less a c lower))
  | inr (inr higher) ↦ ap (λ (o : Ordering). ordering_then o one) (more a c higher) ∙ sym (ap (λ (o : Ordering). ordering_then o other) (more a c higher))
]

-- first bytes that are equal do not
same_first : (a c : ℕ) (later : Ordering) → a ≡ c → ordering_then (nat_cmp a c) later ≡ later
same_first a c later h = ap (λ (o : Ordering). ordering_then o later) (same a c h)

one_more : (a c : ℕ) (xs zs : Bytes) → a ≡ c → alike (a ∷ xs) (c ∷ zs) ≡ 1 + alike xs zs
one_more a c xs zs h = ap (λ (t : Bool). cond t (1 + alike xs zs) 0) (test_same a c h)

none : (a c : ℕ) (xs zs : Bytes) → (a == c) ≡ false → alike (a ∷ xs) (c ∷ zs) ≡ 0
none a c xs zs h = ap (λ (t : Bool). cond t (1 + alike xs zs) 0) h

pub closer_decides : CloserDecides
closer_decides [] y z h = absurd (omega (arith, h))
closer_decides (a ∷ xs) [] z h = absurd (omega (arith, h))
closer_decides (a ∷ xs) (b ∷ ys) [] h = (refl, refl)
closer_decides (a ∷ xs) (b ∷ ys) (c ∷ zs) h = elim (a == b) as (λ t. (a == b) ≡ t → (byte_order (b ∷ ys) (c ∷ zs) ≡ byte_order (a ∷ xs) (c ∷ zs)) × (alike (b ∷ ys) (c ∷ zs) ≡ alike (a ∷ xs) (c ∷ zs))) [
  | true ↦ λ e. let level : a ≡ b = same_of a b e in
      elim (a == c) as (λ t. (a == c) ≡ t → (byte_order (b ∷ ys) (c ∷ zs) ≡ byte_order (a ∷ xs) (c ∷ zs)) × (alike (b ∷ ys) (c ∷ zs) ≡ alike (a ∷ xs) (c ∷ zs))) [
        | true ↦ λ f. let also : a ≡ c = same_of a c f in
            let between : b ≡ c = sym level ∙ also in
            let both = closer_decides xs ys zs (omega (arith, h, one_more a b xs ys level, one_more a c xs zs also)) in (
              same_first b c (byte_order ys zs) between ∙ both.0 ∙ sym (same_first a c (byte_order xs zs) also),
              omega (arith, one_more b c ys zs between, both.1, one_more a c xs zs also),
            )
        | false ↦ λ f. (
          ap (λ (n : ℕ). ordering_then (nat_cmp n c) (byte_order ys zs)) (sym level) ∙ other_first a c (byte_order ys zs) (byte_order xs zs) f,
          none b c ys zs (ap (λ (n : ℕ). n == c) (sym level) ∙ f) ∙ sym (none a c xs zs f),
        )
      ] refl
  | false ↦ λ e. absurd (omega (arith, h, none a b xs ys e))
] refl

pub rests_decide : RestsDecide
rests_decide zero x y z hy hz = (refl, omega arith)
rests_decide (suc n) [] y z hy hz = absurd (omega (arith, hy))
rests_decide (suc n) (a ∷ xs) [] z hy hz = absurd (omega (arith, hy))
rests_decide (suc n) (a ∷ xs) (b ∷ ys) [] hy hz = absurd (omega (arith, hz))
rests_decide (suc n) (a ∷ xs) (b ∷ ys) (c ∷ zs) hy hz = elim (a == b) as (λ t. (a == b) ≡ t → (byte_order (b ∷ ys) (c ∷ zs) ≡ byte_order (drop n ys) (drop n zs)) × (alike (b ∷ ys) (c ∷ zs) ≡ suc n + alike (drop n ys) (drop n zs))) [
  | true ↦ λ e. elim (a == c) as (λ t. (a == c) ≡ t → (byte_order (b ∷ ys) (c ∷ zs) ≡ byte_order (drop n ys) (drop n zs)) × (alike (b ∷ ys) (c ∷ zs) ≡ suc n + alike (drop n ys) (drop n zs))) [
    | true ↦ λ f. let level : a ≡ b = same_of a b e in
        let also : a ≡ c = same_of a c f in
        let between : b ≡ c = sym level ∙ also in
        let both = rests_decide n xs ys zs (omega (arith, hy, one_more a b xs ys level)) (omega (arith, hz, one_more a c xs zs also)) in
        (same_first b c (byte_order ys zs) between ∙ both.0, omega (arith, one_more b c ys zs between, both.1))
    | false ↦ λ f. absurd (omega (arith, hz, none a c xs zs f))
  ] refl
  | false ↦ λ e. absurd (omega (arith, hy, none a b xs ys e))
] refl

pub shared_and_rest : SharedAndRest
shared_and_rest zero before key h = refl
shared_and_rest (suc n) [] key h = absurd (omega (arith, h))
shared_and_rest (suc n) (a ∷ xs) [] h = absurd (omega (arith, h))
shared_and_rest (suc n) (a ∷ xs) (b ∷ ys) h = elim (a == b) as (λ t. (a == b) ≡ t → (a ∷ (take n xs ++ drop n ys)) ≡ (b ∷ ys)) [
  | true ↦ λ e. ap₂ (λ (m : ℕ) (l : Bytes). m ∷ l) (same_of a b e) (shared_and_rest n xs ys (omega (arith, h, one_more a b xs ys (same_of a b e))))
  | false ↦ λ e. absurd (omega (arith, h, none a b xs ys e))
] refl

pub rest_compares : RestComparesAsKey
rest_compares zero before rest h = (refl, omega arith)
rest_compares (suc n) [] rest h = absurd (omega (arith, h))
rest_compares (suc n) (a ∷ xs) rest h =
    let key = take n xs ++ rest in
    let both = rest_compares n xs rest (omega (arith, h)) in
    (same_first a a (byte_order xs key) refl ∙ both.0, omega (arith, one_more a a xs key refl, both.1))
