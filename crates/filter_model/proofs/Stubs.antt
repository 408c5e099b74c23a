-- The leaves of a list of keys.
use Rattle.std.proofs.Common.{◌≡◌, ◌<◌, ◌≤◌, ◌+◌, ◌-◌, ◌*◌, ◌^◌, ◌==◌, ℕ, zero, suc, List, [], ◌∷◌, ◌⊎◌, Bool, true, false, cond, length, take, drop, get_or, map, refl, sym, ap, subst, ◌∙◌, arith, inl, inr, add-one}
use Rattle.std.specs.List.{Contains, list_any}
use Rattle.std.proofs.lemmas.Bool.{cases_lt, cases_Bool, eqb-true, eq-eqb, and_from, or_cases, or_left, or_right, false≢true, false_from_ne_true, cond-true, cond-false}
use Rattle.std.proofs.lemmas.List.{take_all, length-take}
use Rattle.std.proofs.lemmas.Nat.{pow-add}
use native.Mathlib.Nat.{mod-lt, div-lt_iff_lt-mul}
use Rattle.byte_fields.specs.Spelling.{IsBytes}
use Rattle.byte_fields.specs.Sums.{fnv_of}
use Rattle.filter_model.specs.Strings.{is_prefix, extends, bytes_eq, shared, bits}
use Rattle.filter_model.specs.Keys.{IsKey}
use Rattle.filter_model.specs.Leaves.{shared_most, stub_of, ends_of, real_of, hash_bits_of, leaf_of}
use Rattle.filter_model.specs.Answers.{fits, fits_point}
use Rattle.filter_model.specs.Valid.{IsLeaf}
use Rattle.filter_model.specs.Laws.{NoKeyIsDenied}
use Rattle.filter_model.proofs.Order.{Leq, Lt, Lt-not_back, Leq-itself}
use Rattle.filter_model.proofs.Fronts.{IsBytes-nil, IsBytes-cons, IsBytes-tail, IsBytes-drop, prefix_number_below, pow_pos, same-true, same-itself}
use Rattle.filter_model.proofs.Shared.{shared-le, shared_sym, stubs_Lt, extends-itself, extends-prefix, prefix_of_take, stub_in_other, goes_on, is_prefix-take, drop-length-take}

pub Contains-more : {X : Type 0} (y : X) (ys : List X) (x : X) → Contains ys x → Contains (y ∷ ys) x
Contains-more y ys x h = (suc h.0, omega (arith, h.1), h.2)

pub any_at : {X Y : Type 0} (p : Y → Bool) (f : X → Y) (xs : List X) (x : X) → Contains xs x → p (f x) ≡ true → list_any p (map f xs) ≡ true
any_at {X} {Y} p f xs x h e = at xs h.0 h.1 h.2
  where
    at : (xs : List X) (i : ℕ) → i < length xs → get_or xs i x ≡ x → list_any p (map f xs) ≡ true
    at [] i l s = absurd (omega arith)
    at (y ∷ ys) zero l s = or_left (p (f y)) (list_any p (map f ys)) (ap (λ z. p (f z)) s ∙ e)
    at (y ∷ ys) (suc i) l s = or_right (p (f y)) (list_any p (map f ys)) (at ys i (omega arith) s)

-- an element of a list, as what f makes of it passes
pub record Passing {X Y : Type 0} (p : Y → Bool) (f : X → Y) (xs : List X) : Type 0 where
  pub item : X
  pub here : Contains xs item
  pub passes : p (f item) ≡ true

pub passing_from_any : {X Y : Type 0} (p : Y → Bool) (f : X → Y) (xs : List X) → list_any p (map f xs) ≡ true → Passing p f xs
passing_from_any p f [] e = absurd (false≢true e)
passing_from_any p f (x ∷ xs) e = elim (or_cases (p (f x)) (list_any p (map f xs)) e) [
  | inl here ↦ record { item = x; here = (0, omega arith, refl); passes = here }
  | inr there ↦
      let rest = passing_from_any p f xs there in
      record { item = rest.item; here = Contains-more x xs rest.item rest.here; passes = rest.passes }
]

pub same-false : (x y : List ℕ) → (x ≡ y → ⊥) → bytes_eq x y ≡ false
same-false x y ne = false_from_ne_true (bytes_eq x y) (λ e. ne (same-true x y e))

pub shared_most-le : (keys : List (List ℕ)) (k : List ℕ) → shared_most keys k ≤ length k
shared_most-le [] k = omega arith
shared_most-le (x ∷ keys) k = elim (cases_Bool (bytes_eq k x)) [
  | inl e ↦ omega (arith, cond-true (bytes_eq k x) 0 (shared k x) e, shared_most-le keys k)
  | inr e ↦ omega (arith, cond-false (bytes_eq k x) 0 (shared k x) e, shared_most-le keys k, shared-le k x)
]

pub shared_most-ge : (keys : List (List ℕ)) (k x : List ℕ) → Contains keys x → (k ≡ x → ⊥) → shared k x ≤ shared_most keys k
shared_most-ge keys k x h ne = at keys h.0 h.1 h.2
  where
    at : (keys : List (List ℕ)) (i : ℕ) → i < length keys → get_or keys i x ≡ x → shared k x ≤ shared_most keys k
    at [] i l s = absurd (omega arith)
    at (y ∷ keys) zero l s =
        let e : bytes_eq k y ≡ false = ap (bytes_eq k) s ∙ same-false k x ne in
        let e' : shared k y ≡ shared k x = ap (shared k) s in
        omega (arith, cond-false (bytes_eq k y) 0 (shared k y) e)
    at (y ∷ keys) (suc i) l s = let rest = at keys i (omega arith) s in omega arith

-- another key with which k shares as much as with any
pub record Nearest (keys : List (List ℕ)) (k : List ℕ) : Type 0 where
  pub key : List ℕ
  pub here : Contains keys key
  pub other : k ≡ key → ⊥
  pub most : shared k key ≡ shared_most keys k

pub nearest_or_none : (keys : List (List ℕ)) (k : List ℕ) → (shared_most keys k ≡ 0) ⊎ Nearest keys k
nearest_or_none [] k = inl refl
nearest_or_none (x ∷ keys) k =
    let a = cond (bytes_eq k x) 0 (shared k x) in
    let b = shared_most keys k in
    elim (cases_lt b a) [
      | inl first ↦ elim (cases_Bool (bytes_eq k x)) [
        | inl e ↦ absurd (omega (arith, cond-true (bytes_eq k x) 0 (shared k x) e))
        | inr e ↦ inr (record {
          key = x;
          here = (0, omega arith, refl);
          other = λ s. false≢true (sym e ∙ ap (bytes_eq k) (sym s) ∙ same-itself k);
          most = omega (arith, cond-false (bytes_eq k x) 0 (shared k x) e);
        })
      ]
      | inr rest ↦ elim (nearest_or_none keys k) [
        | inl none ↦ inl (omega arith)
        | inr one ↦ inr (record { key = one.key; here = Contains-more x keys one.key one.here; other = one.other; most = omega (arith, one.most) })
      ]
    ]

pub nearest : (keys : List (List ℕ)) (k x : List ℕ) → Contains keys x → (k ≡ x → ⊥) → Nearest keys k
nearest keys k x h ne = elim (nearest_or_none keys k) [
  | inl none ↦ record { key = x; here = h; other = ne; most = omega (arith, shared_most-ge keys k x h ne, none) }
  | inr one ↦ one
]

pub stub_suc : (keys : List (List ℕ)) (k : List ℕ) → stub_of keys k ≡ take (suc (shared_most keys k)) k
stub_suc keys k = ap (λ n. take n k) (add-one (shared_most keys k))

pub ends-length : (keys : List (List ℕ)) (k : List ℕ) → ends_of keys k ≡ true → length k ≡ shared_most keys k
ends-length keys k e = eqb-true (length k) (shared_most keys k) e

-- the stub of a leaf that ends is the key
pub stub-ends : (keys : List (List ℕ)) (k : List ℕ) → ends_of keys k ≡ true → stub_of keys k ≡ k
stub-ends keys k e = take_all (shared_most keys k + 1) k (omega (arith, ends-length keys k e))

-- a key fits its own leaf
pub fits_own : (hash_bits n : ℕ) (keys : List (List ℕ)) (k : List ℕ) → fits n k (leaf_of hash_bits n keys k) ≡ true
fits_own hash_bits n keys k =
    let m = shared_most keys k in
    elim (cases_Bool (ends_of keys k)) [
      | inl e ↦ cond-true (ends_of keys k) (bytes_eq (stub_of keys k) k) _ e ∙ ap (λ (s : List ℕ). bytes_eq s k) (stub-ends keys k e) ∙ same-itself k
      | inr e ↦
          cond-false (ends_of keys k) (bytes_eq (stub_of keys k) k) _ e
          ∙ and_from (is_prefix (stub_of keys k) k) (bits n (drop (length (stub_of keys k)) k) == real_of n keys k) (is_prefix-take (m + 1) k)
          (eq-eqb (bits n (drop (length (stub_of keys k)) k)) (real_of n keys k)
          (ap (bits n) (drop-length-take (m + 1) k) ∙ sym (cond-false (ends_of keys k) 0 (bits n (drop (m + 1) k)) e)))
    ]

pub no_key_is_denied : NoKeyIsDenied
no_key_is_denied hash_bits n keys k h =
    any_at (fits_point hash_bits n k) (leaf_of hash_bits n keys) keys k h
    (and_from (fits n k (leaf_of hash_bits n keys k)) (hash_bits_of hash_bits k == hash_bits_of hash_bits k) (fits_own hash_bits n keys k)
    (eq-eqb (hash_bits_of hash_bits k) (hash_bits_of hash_bits k) refl))

pub IsBytes-take : (n : ℕ) (x : List ℕ) → IsBytes x → IsBytes (take n x)
IsBytes-take zero x h = IsBytes-nil
IsBytes-take (suc n) [] h = h
IsBytes-take (suc n) (a ∷ x) h = IsBytes-cons a (take n x) (h 0) (IsBytes-take n x (IsBytes-tail a x h))

bits_below : (n : ℕ) (x : List ℕ) → n ≤ 32 → IsBytes x → bits n x < 2 ^ n
bits_below n x h k =
    let e : n + (32 - n) ≡ 32 = omega arith in
    let whole : 2 ^ 32 ≡ 2 ^ n * 2 ^ (32 - n) = ap (λ (m : ℕ). 2 ^ m) (sym e) ∙ pow-add 2 n (32 - n) in
    (div-lt_iff_lt-mul (pow_pos 2 (32 - n) (omega arith))).1 (omega (arith, whole, prefix_number_below 4 x k))

real_below : (n : ℕ) (keys : List (List ℕ)) (k : List ℕ) → n ≤ 32 → IsBytes k → real_of n keys k < 2 ^ n
real_below n keys k h i = elim (cases_Bool (ends_of keys k)) [
  | inl e ↦ omega (arith, cond-true (ends_of keys k) 0 (bits n (drop (shared_most keys k + 1) k)) e, pow_pos 2 n (omega arith))
  | inr e ↦ omega (arith, cond-false (ends_of keys k) 0 (bits n (drop (shared_most keys k + 1) k)) e, bits_below n (drop (shared_most keys k + 1) k) h (IsBytes-drop (shared_most keys k + 1) k i))
]

pub leaf_of_key : (hash_bits n : ℕ) (keys : List (List ℕ)) (k : List ℕ) → n ≤ 32 → IsKey k → IsLeaf hash_bits n (leaf_of hash_bits n keys k)
leaf_of_key hash_bits n keys k h key =
    let m = shared_most keys k in
    record {
      stub = record {
        bytes = IsBytes-take (m + 1) k key.bytes;
        filled = omega (arith, length-take (m + 1) k, key.filled);
        short = omega (arith, length-take (m + 1) k, key.short);
      };
      hash_fits = mod-lt (fnv_of k) (pow_pos 2 hash_bits (omega arith));
      real_fits = real_below n keys k h key.bytes;
      end_without_real = λ e. cond-true (ends_of keys k) 0 (bits n (drop (m + 1) k)) e;
    }

pub different : (x y : List ℕ) → Lt x y → x ≡ y → ⊥
different x y h e = Lt-not_back x y h (subst (λ (z : List ℕ). Leq z x) e (Leq-itself x))

-- the stubs of two keys are in the keys' order
pub stubs_rise : (keys : List (List ℕ)) (x y : List ℕ) → Contains keys x → Contains keys y → Lt x y → Lt (stub_of keys x) (stub_of keys y)
stubs_rise keys x y h k lt =
    let ne = different x y lt in
    let up = shared_most-ge keys x y k ne in
    let down = shared_most-ge keys y x h (λ e. ne (sym e)) in
    let step = stubs_Lt x y (shared_most keys x) (shared_most keys y) lt up (omega (arith, down, shared_sym x y)) in
    subst (λ (z : List ℕ). Lt z (stub_of keys y)) (sym (stub_suc keys x)) (subst (Lt (take (suc (shared_most keys x)) x)) (sym (stub_suc keys y)) step)

-- a key whose stub is a proper prefix of another stub ends with it
pub ends_from_extends : (keys : List (List ℕ)) (x y : List ℕ) → Contains keys y → extends (stub_of keys x) (stub_of keys y) ≡ true → ends_of keys x ≡ true
ends_from_extends keys x y k e =
    let ne : x ≡ y → ⊥ = λ s. extends-itself (stub_of keys x) (ap (λ (z : List ℕ). extends (stub_of keys x) (stub_of keys z)) s ∙ e) in
    let begun = prefix_of_take (stub_of keys x) y (shared_most keys y + 1) (extends-prefix (stub_of keys x) (stub_of keys y) e) in
    let begun' = ap (λ (z : List ℕ). is_prefix z y) (sym (stub_suc keys x)) ∙ begun in
    let up = shared_most-ge keys x y k ne in
    let whole = stub_in_other x y (shared_most keys x) ne up begun' in
    eq-eqb (length x) (shared_most keys x) (omega (arith, whole, up, shared_most-le keys x))

pub extends_from_ends : (keys : List (List ℕ)) (x : List ℕ) → Contains keys x → 0 < length x → ends_of keys x ≡ true
    → (y : List ℕ) × (Contains keys y) × (extends (stub_of keys x) (stub_of keys y) ≡ true)
extends_from_ends keys x h filled e = elim (nearest_or_none keys x) [
  | inl none ↦ absurd (omega (arith, ends-length keys x e, none))
  | inr one ↦
      let whole = ends-length keys x e in
      let ne' : one.key ≡ x → ⊥ = λ s. one.other (sym s) in (
        one.key,
        one.here,
        ap (λ (z : List ℕ). extends z (stub_of keys one.key)) (stub-ends keys x e) ∙ ap (extends x) (stub_suc keys one.key)
            ∙ goes_on x one.key (shared_most keys one.key) one.other (omega (arith, one.most, whole))
            (let down = shared_most-ge keys one.key x h ne' in omega (arith, down, shared_sym x one.key, one.most, whole)),
      )
]
