-- Each leaf's node has another branch. A key with END behind it is never a prefix of another such string.
use Rattle.std.proofs.Common.{Bool, cond, false, not, ◌≡◌, ◌<◌, ◌≤◌, ◌+◌, ◌-◌, ◌==◌, ℕ, zero, suc, min, List, [], ◌∷◌, ◌++◌, true, length, take, get_or, map, refl, sym, ap, subst, ◌∙◌, arith, inl, inr, add-one, length-append}
use Rattle.std.specs.List.{Contains, range_with_len}
use Rattle.std.proofs.Math.Seq.{take-suc}
use Rattle.std.proofs.lemmas.Bool.{not_from_false, cases_lt, cases_eq, cases_Bool, eqb-false, eq-eqb, and_from, cond-true, cond-false}
use Rattle.std.proofs.lemmas.List.{append-nil, take_all, take-take, take-append-le, length-take, length-map, get_or-map}
use Rattle.std.proofs.lemmas.List.FromFn.{length-range_with_len, get_or-range_with_len}
use Rattle.byte_fields.specs.Spelling.{IsBytes}
use Rattle.filter_model.specs.Strings.{is_prefix, bytes_eq, shared}
use Rattle.filter_model.specs.Keys.{IsKey}
use Rattle.filter_model.specs.Leaves.{Leaf, shared_most, stub_of, ends_of, leaf_of, leaves_of}
use Rattle.filter_model.specs.Trie.{END, letters, path, parent, is_reached, branches}
use Rattle.filter_model.specs.Valid.{IsCrowded, joins}
use Rattle.filter_model.proofs.Fronts.{IsBytes-tail}
use Rattle.filter_model.proofs.Order.{Leq, Lt, Lt-or-Leq}
use Rattle.filter_model.proofs.Shared.{extends-prefix, goes_on, shared-same, shared-other, shared_sym, differ_after, take-shared}
use Rattle.filter_model.proofs.Stubs.{any_at, different, ends-length, nearest, same-false, shared_most-ge, shared_most-le, stub-ends, stub_suc, stubs_rise}
use Rattle.filter_model.proofs.Counts.{two_kept}

-- a key and END behind it
abbrev pub ended : List ℕ → List ℕ
ended k = k ++ END ∷ []

pub ended-length : (k : List ℕ) → length (ended k) ≡ suc (length k)
ended-length k = let e = length-append k (END ∷ []) in omega arith

-- END is no byte, so two different keys share no more with END behind them
pub shared-ended : (x y : List ℕ) → IsBytes x → IsBytes y → (x ≡ y → ⊥) → shared (ended x) (ended y) ≡ shared x y
shared-ended [] [] h i ne = absurd (ne refl)
shared-ended [] (b ∷ y) h i ne = shared-other END b [] (ended y) (λ e. omega (arith, i 0))
shared-ended (a ∷ x) [] h i ne = shared-other a END (ended x) [] (λ e. omega (arith, h 0))
shared-ended (a ∷ x) (b ∷ y) h i ne = elim (cases_eq a b) [
  | inl e ↦
      shared-same a b (ended x) (ended y) e
      ∙ ap (λ n. 1 + n) (shared-ended x y (IsBytes-tail a x h) (IsBytes-tail b y i) (λ same. ne (λ j. e j ∷ same j)))
      ∙ sym (shared-same a b x y e)
  | inr other ↦ shared-other a b (ended x) (ended y) other ∙ sym (shared-other a b x y other)
]

-- a leaf's path is the key with END behind it, up to the first letter that no other key has there
pub path-leaf : (hash_bits n : ℕ) (keys : List (List ℕ)) (k : List ℕ) → path (leaf_of hash_bits n keys k) ≡ take (suc (shared_most keys k)) (ended k)
unfolding path
path-leaf hash_bits n keys k =
    let m = shared_most keys k in
    elim (cases_Bool (ends_of keys k)) [
      | inl e ↦
          (λ i. stub-ends keys k e i ++ cond-true (ends_of keys k) (END ∷ []) [] e i)
          ∙ sym (take_all (suc m) (ended k) (omega (arith, ended-length k, ends-length keys k e)))
      | inr e ↦
          let ne = eqb-false (length k) m e in
          let le = shared_most-le keys k in
          ap (λ (u : List ℕ). stub_of keys k ++ u) (cond-false (ends_of keys k) (END ∷ []) [] e) ∙ append-nil (stub_of keys k)
          ∙ ap (λ j. take j k) (add-one m) ∙ sym (take-append-le (suc m) k (END ∷ []) (below (length k) m ne le))
    ]
  where
    below : (a m : ℕ) → (a ≡ m → ⊥) → m ≤ a → suc m ≤ a
    below a m ne le = elim (cases_lt m a) [ inl less ↦ omega arith | inr more ↦ absurd (ne (omega arith)) ]

-- a leaf's node is its path without the last letter
pub parent-path : (l : Leaf) → parent l ≡ take (length (path l) - 1) (path l)
unfolding path
parent-path l = go l.ends l.stub
  where
    whole : (x : List ℕ) → take (length (x ++ 256 ∷ []) - 1) (x ++ 256 ∷ []) ≡ x
    whole [] = refl
    whole (a ∷ []) = refl
    whole (a ∷ b ∷ x) = (λ i. take (less i) (a ∷ b ∷ x ++ 256 ∷ [])) ∙ (λ i. a ∷ whole (b ∷ x) i)
      where
        less : length (a ∷ b ∷ x ++ 256 ∷ []) - 1 ≡ suc (length (b ∷ x ++ 256 ∷ []) - 1)
        less = omega arith

    go : (e : Bool) (x : List ℕ) → cond e x (take (length x - 1) x) ≡ take (length (x ++ cond e (END ∷ []) []) - 1) (x ++ cond e (END ∷ []) [])
    go true x = sym (whole x)
    go false x = ap (λ (y : List ℕ). take (length y - 1) y) (sym (append-nil x))

pub parent-leaf : (hash_bits n : ℕ) (keys : List (List ℕ)) (k : List ℕ) → parent (leaf_of hash_bits n keys k) ≡ take (shared_most keys k) (ended k)
parent-leaf hash_bits n keys k =
    let m = shared_most keys k in
    let whole = path-leaf hash_bits n keys k in
    let long : length (path (leaf_of hash_bits n keys k)) ≡ suc m =
    ap (length {A = ℕ}) whole ∙ length-take (suc m) (ended k) ∙ lesser (suc m) (length (ended k)) (omega (arith, ended-length k, shared_most-le keys k)) in
    parent-path (leaf_of hash_bits n keys k) ∙ (λ i. take (long i - 1) (whole i)) ∙ take_front m (ended k)
  where
    lesser : (a b : ℕ) → a ≤ b → min a b ≡ a
    lesser a b h = omega arith

    take_front : (m : ℕ) (x : List ℕ) → take (suc m - 1) (take (suc m) x) ≡ take m x
    take_front m x = let e : suc m - 1 ≡ m = omega arith in ap (λ j. take j (take (suc m) x)) e ∙ take-take m (suc m) x (omega arith)

pub is_prefix-takes : (m n : ℕ) (x : List ℕ) → m ≤ n → is_prefix (take m x) (take n x) ≡ true
is_prefix-takes zero n x h = refl
is_prefix-takes (suc m) zero x h = absurd (omega arith)
is_prefix-takes (suc m) (suc n) [] h = refl
is_prefix-takes (suc m) (suc n) (a ∷ x) h = and_from (a == a) (is_prefix (take m x) (take n x)) (eq-eqb a a refl) (is_prefix-takes m n x (omega arith))

-- the first letters of a key with END behind it, no more than its path has, are reached
pub reached-key : (hash_bits n : ℕ) (keys : List (List ℕ)) (k : List ℕ) (m : ℕ) → Contains keys k → m ≤ shared_most keys k
    → is_reached (leaves_of hash_bits n keys) (take (suc m) (ended k)) ≡ true
unfolding is_reached
reached-key hash_bits n keys k m h le =
    any_at (λ l. is_prefix (take (suc m) (ended k)) (path l)) (leaf_of hash_bits n keys) keys k h
    (ap (is_prefix (take (suc m) (ended k))) (path-leaf hash_bits n keys k) ∙ is_prefix-takes (suc m) (suc (shared_most keys k)) (ended k) (omega arith))

-- a letter stands among the letters
record HasPlace (c : ℕ) : Type 0 where
  at : ℕ
  within : at < length letters
  is : get_or letters at 0 ≡ c

place : (c : ℕ) → c ≤ 256 → HasPlace c
unfolding letters
place c h = elim (cases_lt c 256) [
  | inl byte ↦ record { at = suc c; within = long c byte; is = get_or-range_with_len 0 256 c 0 byte ∙ plain c }
  | inr no_byte ↦ record { at = 0; within = long_at_all; is = omega arith }
]
  where
    plain : (c : ℕ) → 0 + c ≡ c
    plain c = omega arith

    long : (c : ℕ) → c < 256 → suc c < suc (length (range_with_len 0 256))
    long c h = omega (arith, length-range_with_len 0 256)

    long_at_all : 0 < suc (length (range_with_len 0 256))
    long_at_all = omega arith

-- a node that two letters lead on from has two branches
pub two_branches : (ls : List Leaf) (p : List ℕ) (c d : ℕ) → c ≤ 256 → d ≤ 256 → (c ≡ d → ⊥) → is_reached ls (p ++ c ∷ []) ≡ true → is_reached ls (p ++ d ∷ []) ≡ true
    → 2 ≤ length (branches ls p)
unfolding branches
two_branches ls p c d h k ne e f =
    let i = place c h in
    let j = place d k in
    elim (cases_lt i.at j.at) [
      | inl before ↦ two_kept (is_reached ls) (map (λ c. p ++ c ∷ []) letters) i.at j.at [] before (inside j.at j.within) (found c i.at i.within i.is e) (found d j.at j.within j.is f)
      | inr not_before ↦
          let before : j.at < i.at = apart i.at j.at not_before (λ s. ne (sym i.is ∙ ap (λ a. get_or letters a 0) s ∙ j.is)) in
          two_kept (is_reached ls) (map (λ c. p ++ c ∷ []) letters) j.at i.at [] before (inside i.at i.within) (found d j.at j.within j.is f) (found c i.at i.within i.is e)
    ]
  where
    apart : (a b : ℕ) → b ≤ a → (a ≡ b → ⊥) → b < a
    apart a b le ne = elim (cases_lt b a) [ inl less ↦ less | inr more ↦ absurd (ne (omega arith)) ]

    inside : (a : ℕ) → a < length letters → a < length (map (λ c. p ++ c ∷ []) letters)
    inside a l = omega (arith, length-map letters (λ c. p ++ c ∷ []))

    found : (c a : ℕ) → a < length letters → get_or letters a 0 ≡ c → is_reached ls (p ++ c ∷ []) ≡ true → is_reached ls (get_or (map (λ c. p ++ c ∷ []) letters) a []) ≡ true
    found c a l s e = ap (is_reached ls) (get_or-map (λ c. p ++ c ∷ []) letters a 0 [] l ∙ ap (λ z. p ++ z ∷ []) s) ∙ e

letter_small : (k : List ℕ) (i : ℕ) → IsBytes k → get_or (ended k) i 0 ≤ 256
letter_small [] zero h = omega arith
letter_small [] (suc i) h = omega arith
letter_small (a ∷ k) zero h = omega (arith, h 0)
letter_small (a ∷ k) (suc i) h = letter_small k i (IsBytes-tail a k h)

-- the node of a leaf has two branches or more, where there is another key
pub two_at_node : (hash_bits n : ℕ) (keys : List (List ℕ)) (k x : List ℕ) → ((y : List ℕ) → Contains keys y → IsKey y) → Contains keys k → Contains keys x → (k ≡ x → ⊥)
    → 2 ≤ length (branches (leaves_of hash_bits n keys) (parent (leaf_of hash_bits n keys k)))
two_at_node hash_bits n keys k x each h i ne =
    let m = shared_most keys k in
    let ls = leaves_of hash_bits n keys in
    let near = nearest keys k x i ne in
    let y = near.key in
    let ne' : y ≡ k → ⊥ = λ s. near.other (sym s) in
    let k_bytes = (each k h).bytes in
    let y_bytes = (each y near.here).bytes in
    let up = shared_most-ge keys y k h ne' in
    let m_is : shared (ended k) (ended y) ≡ m = shared-ended k y k_bytes y_bytes near.other ∙ near.most in
    let k_long : m < length (ended k) = omega (arith, ended-length k, shared_most-le keys k) in
    let y_long : m < length (ended y) = omega (arith, ended-length y, up, shared_sym y k, near.most, shared_most-le keys y) in
    let c = get_or (ended k) m 0 in
    let d = get_or (ended y) m 0 in
    let apart : c ≡ d → ⊥ = λ s. differ_after (ended k) (ended y) 0 (omega (arith, m_is, k_long)) (omega (arith, m_is, y_long)) (rw m_is s) in
    let k_step : take (suc m) (ended k) ≡ take m (ended k) ++ c ∷ [] = take-suc (ended k) m 0 k_long in
    let alike : take m (ended y) ≡ take m (ended k) = subst (λ j. take j (ended y) ≡ take j (ended k)) m_is (sym (take-shared (ended k) (ended y))) in
    let y_step : take (suc m) (ended y) ≡ take m (ended k) ++ d ∷ [] = take-suc (ended y) m 0 y_long ∙ ap (λ (u : List ℕ). u ++ d ∷ []) alike in
    let own = ap (is_reached ls) (sym k_step) ∙ reached-key hash_bits n keys k m h (omega arith) in
    let others = ap (is_reached ls) (sym y_step) ∙ reached-key hash_bits n keys y m near.here (omega (arith, up, shared_sym y k, near.most)) in
    let two = two_branches ls (take m (ended k)) c d (letter_small k m k_bytes) (letter_small y m y_bytes) apart own others in
    subst (λ (p : List ℕ). 2 ≤ length (branches ls p)) (sym (parent-leaf hash_bits n keys k)) two

Leq-cases : (x y : List ℕ) → Leq x y → (x ≡ y → ⊥) → Lt x y
Leq-cases [] [] h ne = ne refl
Leq-cases [] (b ∷ y) h ne = tt
Leq-cases (a ∷ x) [] h ne = h
Leq-cases (a ∷ x) (b ∷ y) (inl less) ne = inl less
Leq-cases (a ∷ x) (b ∷ y) (inr (e, h)) ne = inr (e, Leq-cases x y h (λ s. ne (λ i. e i ∷ s i)))

-- two keys have two stubs
stubs_differ : (keys : List (List ℕ)) (x y : List ℕ) → Contains keys x → Contains keys y → (x ≡ y → ⊥) → bytes_eq (stub_of keys y) (stub_of keys x) ≡ false
stubs_differ keys x y h i ne = elim (Lt-or-Leq x y) [
  | inl before ↦ same-false (stub_of keys y) (stub_of keys x) (λ e. different (stub_of keys x) (stub_of keys y) (stubs_rise keys x y h i before) (sym e))
  | inr after ↦ same-false (stub_of keys y) (stub_of keys x) (different (stub_of keys y) (stub_of keys x) (stubs_rise keys y x i h (Leq-cases y x after (λ e. ne (sym e)))))
]

-- another stub goes on from the node of a leaf, where there is another key
pub crowded : (hash_bits n : ℕ) (keys : List (List ℕ)) (k x : List ℕ) → Contains keys k → Contains keys x → (k ≡ x → ⊥)
    → IsCrowded (leaves_of hash_bits n keys) (leaf_of hash_bits n keys k)
crowded hash_bits n keys k x h i ne =
    let m = shared_most keys k in
    let near = nearest keys k x i ne in
    let y = near.key in
    let l = leaf_of hash_bits n keys k in
    let ne' : y ≡ k → ⊥ = λ s. near.other (sym s) in
    let up = shared_most-ge keys y k h ne' in
    let turned = shared_sym y k in
    let begun : is_prefix (parent l) (stub_of keys y) ≡ true = elim (cases_Bool (ends_of keys k)) [
      | inl e ↦
          let whole = ends-length keys k e in
          ap (λ (p : List ℕ). is_prefix p (stub_of keys y)) (cond-true (ends_of keys k) (stub_of keys k) (take (length (stub_of keys k) - 1) (stub_of keys k)) e ∙ stub-ends keys k e)
          ∙ ap (is_prefix k) (stub_suc keys y)
          ∙ extends-prefix k (take (suc (shared_most keys y)) y) (goes_on k y (shared_most keys y) near.other (omega (arith, near.most, whole)) (omega (arith, up, turned, near.most, whole)))
      | inr e ↦
          let inner = ended_before k m (eqb-false (length k) m e) (shared_most-le keys k) in
          let size : length (stub_of keys k) ≡ m + 1 = length-take (m + 1) k ∙ lesser (m + 1) (length k) inner in
          let front : take (length (stub_of keys k) - 1) (stub_of keys k) ≡ take m y =
          (λ j. take (size j - 1) (stub_of keys k)) ∙ ap (λ j. take j (stub_of keys k)) (less_one m) ∙ take-take m (m + 1) k (omega arith)
          ∙ subst (λ j. take j k ≡ take j y) near.most (take-shared k y) in
          ap (λ (p : List ℕ). is_prefix p (stub_of keys y)) (cond-false (ends_of keys k) (stub_of keys k) (take (length (stub_of keys k) - 1) (stub_of keys k)) e ∙ front)
          ∙ is_prefix-takes m (shared_most keys y + 1) y (omega (arith, up, turned, near.most))
    ] in
    any_at (joins l) (leaf_of hash_bits n keys) keys y near.here
    (and_from (is_prefix (parent l) (stub_of keys y)) (not (bytes_eq (stub_of keys y) (stub_of keys k))) begun
    (not_from_false (bytes_eq (stub_of keys y) (stub_of keys k)) (stubs_differ keys k y h near.here near.other)))
  where
    lesser : (a b : ℕ) → a ≤ b → min a b ≡ a
    lesser a b h = omega arith

    less_one : (m : ℕ) → m + 1 - 1 ≡ m
    less_one m = omega arith

    ended_before : (k : List ℕ) (m : ℕ) → (length k ≡ m → ⊥) → m ≤ length k → m + 1 ≤ length k
    ended_before k m ne le = elim (cases_lt m (length k)) [ inl less ↦ omega arith | inr more ↦ absurd (ne (omega arith)) ]
