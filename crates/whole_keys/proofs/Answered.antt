-- What the leaves of whole keys answer.
use Rattle.std.proofs.Common.{◌≡◌, ◌<◌, ◌≤◌, ◌+◌, ◌-◌, ◌/◌, ◌^◌, ◌==◌, ℕ, List, [], ◌∷◌, ◌++◌, Bool, true, false, not, cond, ◌&&◌, ◌||◌, length, drop, get_or, map, refl, sym, ap, subst, ◌∙◌, arith, inl, inr}
use Rattle.std.specs.Prelude.{count_by}
use Rattle.std.specs.List.{All, AllPairs, Contains, list_any}
use Rattle.std.proofs.Math.Nat.{div-eq_of_lt}
use Rattle.std.proofs.lemmas.Bool.{and_parts, cases_Bool, cond-false, cond-true, eq-eqb, eqb-true, false_from_ne_true, false≢true, not-true, true_from_ne_false}
use Rattle.std.proofs.lemmas.List.{append-nil}
use Rattle.std.proofs.lemmas.List.Elements.{All-contains, Contains-get_or}
use native.Mathlib.Nat.{mod-lt}
use Rattle.byte_fields.specs.Spelling.{IsBytes}
use Rattle.byte_fields.specs.Sums.{fnv_of}
use Rattle.filter_model.specs.Answers.{begins, fits, fits_point, is_past, is_within, meets, tally, true_count}
use Rattle.filter_model.specs.Keys.{IsKey, IsKeyList}
use Rattle.filter_model.specs.Laws.{AreBounds}
use Rattle.filter_model.specs.Leaves.{Leaf, hash_bits_of}
use Rattle.filter_model.specs.Strings.{bits, bytes_eq, extends, is_before, is_prefix, prefix_number, shortest}
use Rattle.filter_model.proofs.Counts.{count_by-cons, count_by-map, count_one}
use Rattle.filter_model.proofs.Fits.{fits_between, not_past}
use Rattle.filter_model.proofs.Fronts.{IsBytes-drop, pow_pos, prefix_number_below, same-itself, same-true}
use Rattle.filter_model.proofs.LeastStrings.{any_here}
use Rattle.filter_model.proofs.Order.{Leq, Leq-from, Leq-itself, Leq-to, Leq-trans, Lt, Lt-Leq, Lt-from, Lt-not_back, Lt-or-Leq, Lt-to}
use Rattle.filter_model.proofs.Pairs.{Contains-first}
use Rattle.filter_model.proofs.Shared.{extends-prefix, is_prefix_Leq, prefixes_of_one}
use Rattle.filter_model.proofs.Stubs.{Contains-more}
use Rattle.whole_keys.specs.Laws.{OneIsRunPast, WholeFits, WholeMeets, WholePast, WholeTally}
use Rattle.whole_keys.specs.Whole.{runs_past, whole_leaf, whole_leaves}
use Rattle.whole_keys.proofs.Listed.{leaf_of_key}

-- ---- a string begins with a key where it is the key, or goes on from it

prefix_is : (k x : List ℕ) → is_prefix k x ≡ (bytes_eq k x || extends k x)
prefix_is [] [] = refl
prefix_is [] (b ∷ x) = refl
prefix_is (a ∷ k) [] = refl
prefix_is (a ∷ k) (b ∷ x) = elim (a == b) as (λ t. (t && is_prefix k x) ≡ ((t && bytes_eq k x) || (t && extends k x))) [
  | true ↦ prefix_is k x
  | false ↦ refl
]

no_bits : (x : List ℕ) → IsBytes x → bits 0 x ≡ 0
no_bits x h = div-eq_of_lt (prefix_number_below 4 x h)

and_true : (t : Bool) → (t && true) ≡ t
and_true true = refl
and_true false = refl

or_false : (t : Bool) → (t || false) ≡ t
or_false true = refl
or_false false = refl

pub fits_is : (keys : List (List ℕ)) (x k : List ℕ) → IsBytes x → fits 0 x (whole_leaf keys k) ≡ (bytes_eq k x || runs_past keys x k)
fits_is keys x k h = go (list_any (extends k) keys)
  where
    rest : (bits 0 (drop (length k) x) == 0) ≡ true
    rest = eq-eqb _ 0 (no_bits (drop (length k) x) (IsBytes-drop (length k) x h))

    go : (t : Bool) → cond t (bytes_eq k x) (is_prefix k x && (bits 0 (drop (length k) x) == 0)) ≡ (bytes_eq k x || (not t && extends k x))
    go true = sym (or_false (bytes_eq k x))
    go false = ap (λ (b : Bool). is_prefix k x && b) rest ∙ and_true (is_prefix k x) ∙ prefix_is k x

no_hash : (x : List ℕ) → (hash_bits_of 0 x == 0) ≡ true
no_hash x =
    let one : 2 ^ 0 ≡ 1 = refl in eq-eqb (hash_bits_of 0 x) 0 (omega (arith, one, mod-lt (fnv_of x) (pow_pos 2 0 (omega arith))))

pub whole_fits : WholeFits
whole_fits keys x k h =
    ap (λ (b : Bool). fits 0 x (whole_leaf keys k) && b) (no_hash x) ∙ and_true (fits 0 x (whole_leaf keys k)) ∙ fits_is keys x k h

-- ---- bounds

fits_itself : (keys : List (List ℕ)) (k : List ℕ) → IsBytes k → fits 0 k (whole_leaf keys k) ≡ true
fits_itself keys k h = fits_is keys k k h ∙ ap (λ (b : Bool). b || runs_past keys k k) (same-itself k)

pub begins_is : (keys : List (List ℕ)) (k : List ℕ) → begins 0 (whole_leaf keys k) ≡ k
begins_is keys k = go (list_any (extends k) keys)
  where
    go : (t : Bool) → k ++ cond t [] (shortest 4 0) ≡ k
    go true = append-nil k
    go false = append-nil k

-- a string runs past a key only where it goes on from it, and then comes after it
past_is_after : (keys : List (List ℕ)) (x k : List ℕ) → runs_past keys x k ≡ true → extends k x ≡ true
past_is_after keys x k e = (and_parts (not (list_any (extends k) keys)) (extends k x) e).1

extends_Lt : (k x : List ℕ) → extends k x ≡ true → Lt k x
extends_Lt [] [] e = absurd (false≢true e)
extends_Lt [] (b ∷ x) e = tt
extends_Lt (a ∷ k) [] e = absurd (false≢true e)
extends_Lt (a ∷ k) (b ∷ x) e =
    let parts = and_parts (a == b) (extends k x) e in inr (eqb-true a b parts.0, extends_Lt k x parts.1)

same_not_extends : (k x : List ℕ) → bytes_eq k x ≡ true → extends k x ≡ false
same_not_extends [] [] e = refl
same_not_extends [] (b ∷ x) e = absurd (false≢true e)
same_not_extends (a ∷ k) [] e = absurd (false≢true e)
same_not_extends (a ∷ k) (b ∷ x) e =
    let parts = and_parts (a == b) (bytes_eq k x) e in ap (λ (t : Bool). t && extends k x) parts.0 ∙ same_not_extends k x parts.1

pub whole_past : WholePast
whole_past keys lo k h key =
    let l = whole_leaf keys k in
    elim (Lt-or-Leq k lo) [
      | inr from ↦
          not_past 0 lo k l h key.bytes from (fits_itself keys k key.bytes) ∙ sym (ap (λ (t : Bool). t && not (runs_past keys lo k)) (Leq-to lo k from))
      | inl below ↦
          let before = Lt-to k lo below in
          let other : bytes_eq k lo ≡ false = false_from_ne_true (bytes_eq k lo) (λ e. apart below e) in
          let fit : fits 0 lo l ≡ runs_past keys lo k = fits_is keys lo k h ∙ ap (λ (t : Bool). t || runs_past keys lo k) other in
          elim (cases_Bool (runs_past keys lo k)) [
            | inl runs ↦
                not_past 0 lo lo l h h (Leq-itself lo) (fit ∙ runs)
                ∙ sym (ap (λ (t : Bool). is_before k lo && not t) runs ∙ ap (λ (t : Bool). t && false) before)
            | inr stays ↦
                true_from_ne_false (is_past 0 lo l) (λ e.
                false≢true (sym stays ∙ sym fit ∙ fits_between 0 0 lo l (omega arith) (leaf_of_key keys k key) h (least below) e))
                ∙ sym (ap (λ (t : Bool). is_before k lo && not t) stays ∙ ap (λ (t : Bool). t && true) before)
          ]
    ]
  where
    least : Lt k lo → Leq (begins 0 (whole_leaf keys k)) lo
    least below = subst (λ (y : List ℕ). Leq y lo) (sym (begins_is keys k)) (Lt-Leq k lo below)

    apart : Lt k lo → bytes_eq k lo ≡ true → ⊥
    apart below e = Lt-not_back k lo below (subst (λ (y : List ℕ). Leq lo y) (sym (same-true k lo e)) (Leq-itself lo))

bounded : (above below runs : Bool) → (runs ≡ true → above ≡ false) → (not above && not (below && not runs)) ≡ ((not below && not above) || runs)
bounded true true true h = absurd (false≢true (sym (h refl)))
bounded true false true h = absurd (false≢true (sym (h refl)))
bounded true true false h = refl
bounded true false false h = refl
bounded false true true h = refl
bounded false false true h = refl
bounded false true false h = refl
bounded false false false h = refl

pub whole_meets : WholeMeets
whole_meets keys lo hi k bounds key =
    ap (λ (y : List ℕ). not (is_before hi y) && not (is_past 0 lo (whole_leaf keys k))) (begins_is keys k)
    ∙ ap (λ (t : Bool). not (is_before hi k) && not t) (whole_past keys lo k bounds.lo_bytes key)
    ∙ bounded (is_before hi k) (is_before k lo) (runs_past keys lo k) (λ runs.
    Leq-to k hi (Leq-trans k lo hi (is_prefix_Leq k lo (extends-prefix k lo (past_is_after keys lo k runs))) (Leq-from lo hi bounds.in_order)))

-- ---- counts

pub one_is_run_past : OneIsRunPast
one_is_run_past keys x h = count_one (runs_past keys x) keys (λ i j d before within past_a past_b.
    let a = get_or keys i d in
    let b = get_or keys j d in
    let begun_a = extends-prefix a x (past_is_after keys x a past_a) in
    let begun_b = extends-prefix b x (past_is_after keys x b past_b) in
    let on = prefixes_of_one a b x begun_a begun_b (Lt-from a b (h.rising i j d before within)) in
    let some = any_here (extends a) keys b (Contains-get_or keys j d within) on in
    let none = not-true (list_any (extends a) keys) (and_parts (not (list_any (extends a) keys)) (extends a x) past_a).0 in
    false≢true (sym none ∙ some))

-- where one of two tests passes, and never both, their counts add up
count_either : {X : Type 0} (p a b : X → Bool) (xs : List X) → ((x : X) → Contains xs x → p x ≡ (a x || b x)) → ((x : X) → a x ≡ true → b x ≡ false)
    → count_by p xs ≡ count_by a xs + count_by b xs
count_either p a b [] h k = refl
count_either p a b (x ∷ xs) h k =
    let rest = count_either p a b xs (λ y c. h y (Contains-more x xs y c)) k in
    omega (arith, count_by-cons p x xs, count_by-cons a x xs, count_by-cons b x xs, rest, one (p x) (a x) (b x) (h x (Contains-first x xs)) (k x))
  where
    one : (t s r : Bool) → t ≡ (s || r) → (s ≡ true → r ≡ false) → cond {A = ℕ} t 1 0 ≡ cond {A = ℕ} s 1 0 + cond {A = ℕ} r 1 0
    one t true true e f = absurd (false≢true (sym (f refl)))
    one t true false e f = ap (λ (u : Bool). cond {A = ℕ} u 1 0) e
    one t false true e f = ap (λ (u : Bool). cond {A = ℕ} u 1 0) e
    one t false false e f = ap (λ (u : Bool). cond {A = ℕ} u 1 0) e

-- a key that is run past is below the bound
outside : (keys : List (List ℕ)) (lo hi k : List ℕ) → is_within lo hi k ≡ true → runs_past keys lo k ≡ false
outside keys lo hi k e = false_from_ne_true (runs_past keys lo k) (λ runs.
    let from = not-true (is_before k lo) (and_parts (not (is_before k lo)) (not (is_before hi k)) e).0 in
    false≢true (sym from ∙ Lt-to k lo (extends_Lt k lo (past_is_after keys lo k runs))))

pub whole_tally : WholeTally
whole_tally keys lo hi bounds h =
    count_by-map (meets 0 lo hi) (whole_leaf keys) keys
    ∙ count_either (λ k. meets 0 lo hi (whole_leaf keys k)) (is_within lo hi) (runs_past keys lo) keys
    (λ k c. whole_meets keys lo hi k bounds (All-contains IsKey keys k h.each c)) (outside keys lo hi)
