-- The span of a whole key, and those behind it.
use Rattle.std.proofs.Common.{◌≡◌, ◌<◌, ◌≤◌, ◌+◌, ◌==◌, ℕ, List, [], ◌∷◌, ◌++◌, Bool, true, false, cond, length, drop, get_or, refl, sym, ap, subst, ◌∙◌, arith, inl, inr, add-one, length-append}
use Rattle.std.specs.Prelude.{nat_lt}
use Rattle.std.specs.List.{list_any}
use Rattle.std.proofs.lemmas.Bool.{and_from, and_parts, cases_Bool, cases_eq, cases_lt, cond-false, cond-true, eq-eqb, eqb-true, false_from_ne_true, false≢true, le-ltb, lt-ltb}
use Rattle.std.proofs.lemmas.List.{append_assoc, drop_all, drop_more, get_or-map, length-map}
use Rattle.std.proofs.lemmas.List.Elements.{Contains-get_or}
use Rattle.filter_model.specs.Keys.{IsKeyList}
use Rattle.filter_model.specs.Leaves.{Leaf}
use Rattle.filter_model.specs.Strings.{extends, shared}
use Rattle.filter_model.specs.Trie.{END, path}
use Rattle.filter_model.proofs.LeastStrings.{any_here, any_place}
use Rattle.filter_model.proofs.Order.{Leq, Leq-itself, Lt, Lt-from, Lt-not_back, thirds}
use Rattle.filter_model.proofs.Shared.{extends-itself, extends-prefix, is_prefix_Leq, shared-le, shared-other, shared-same, shared_outer}
use Rattle.key_spans.specs.WholeSpans.{last_span, span_at, span_before}
use Rattle.trie_levels.specs.declared.spans.Span.{Span}
use Rattle.trie_levels.specs.Spans.{closes, spans_from}
use Rattle.whole_keys.specs.Whole.{whole_leaf, whole_leaves}

-- ---- a string goes on from another where they share all of it

all_shared : (x y : List ℕ) → extends x y ≡ true → shared x y ≡ length x
all_shared [] y e = refl
all_shared (a ∷ x) [] e = absurd (false≢true e)
all_shared (a ∷ x) (b ∷ y) e =
    let parts = and_parts (a == b) (extends x y) e in omega (arith, shared-same a b x y (eqb-true a b parts.0), all_shared x y parts.1)

goes_on : (x y : List ℕ) → (x ≡ y → ⊥) → shared x y ≡ length x → extends x y ≡ true
goes_on [] [] other e = absurd (other refl)
goes_on [] (b ∷ y) other e = refl
goes_on (a ∷ x) [] other e = absurd (omega (arith, e))
goes_on (a ∷ x) (b ∷ y) other e = elim (cases_eq a b) [
  | inl same ↦
      and_from (a == b) (extends x y) (eq-eqb a b same)
      (goes_on x y (λ alike. other (λ i. same i ∷ alike i)) (omega (arith, e, shared-same a b x y same)))
  | inr apart ↦ absurd (omega (arith, e, shared-other a b x y apart))
]

abbrev at : List (List ℕ) → ℕ → List ℕ
at keys i = get_or keys i []

module _ (keys : List (List ℕ)) (h : IsKeyList keys) where
  rises : (i j : ℕ) → i < j → j < length keys → Lt (at keys i) (at keys j)
  rises i j before within = Lt-from (at keys i) (at keys j) (h.rising i j [] before within)

  -- what goes on from a key comes after it
  after : (i j : ℕ) → i < length keys → j < length keys → extends (at keys i) (at keys j) ≡ true → i < j
  after i j i_in j_in e = elim (thirds i j) [
    | inl before ↦ before
    | inr (inl same) ↦ absurd (extends-itself (at keys i) (ap (λ (k : ℕ). extends (at keys i) (at keys k)) same ∙ e))
    | inr (inr later) ↦ absurd (Lt-not_back (at keys j) (at keys i) (rises j i later i_in) (is_prefix_Leq (at keys i) (at keys j) (extends-prefix (at keys i) (at keys j) e)))
  ]

  -- where a key goes on from another, so does the next one
  next_shares : (i j : ℕ) → i < j → j < length keys → extends (at keys i) (at keys j) ≡ true → shared (at keys i) (at keys (i + 1)) ≡ length (at keys i)
  next_shares i j before within e = elim (cases_lt (i + 1) j) [
    | inl more ↦
        let outer = shared_outer (at keys i) (at keys (i + 1)) (at keys j) (rises i (i + 1) (omega arith) (omega (arith, more, within))) (rises (i + 1) j more within) in
        omega (arith, outer.0, all_shared (at keys i) (at keys j) e, shared-le (at keys i) (at keys (i + 1)))
    | inr next ↦
        let same : j ≡ i + 1 = omega (arith, before, next) in
        ap (λ (k : ℕ). shared (at keys i) (at keys k)) (sym same) ∙ all_shared (at keys i) (at keys j) e
  ]

  ends_before : (i : ℕ) → i + 1 < length keys → list_any (extends (at keys i)) keys ≡ (shared (at keys i) (at keys (i + 1)) == length (at keys i))
  ends_before i within = elim (cases_Bool (list_any (extends (at keys i)) keys)) [
    | inl e ↦
        let some = any_place (extends (at keys i)) keys e in
        let on = some.2 [] in
        e ∙ sym (eq-eqb (shared (at keys i) (at keys (i + 1))) (length (at keys i)) (next_shares i some.0 (after i some.0 (omega (arith, within)) some.1 on) some.1 on))
    | inr e ↦
        e ∙ sym (false_from_ne_true (shared (at keys i) (at keys (i + 1)) == length (at keys i)) (λ same.
        let lt = rises i (i + 1) (omega arith) within in
        let on = goes_on (at keys i) (at keys (i + 1)) (λ alike. Lt-not_back (at keys i) (at keys (i + 1)) lt (subst (λ (x : List ℕ). Leq x (at keys i)) alike (Leq-itself (at keys i))))
        (eqb-true (shared (at keys i) (at keys (i + 1))) (length (at keys i)) same) in
        false≢true (sym e ∙ any_here (extends (at keys i)) keys (at keys (i + 1)) (Contains-get_or keys (i + 1) [] within) on)))
  ]

  -- from the last key none goes on
  last_open : (i : ℕ) → i < length keys → length keys ≤ i + 1 → list_any (extends (at keys i)) keys ≡ false
  last_open i within last = false_from_ne_true (list_any (extends (at keys i)) keys) (λ e.
      let some = any_place (extends (at keys i)) keys e in
      let later = after i some.0 within some.1 (some.2 []) in
      omega (arith, later, some.1, last))

  -- ---- the span of a key

  letters_of : (k : List ℕ) (t : Bool) → length (k ++ cond t (END ∷ []) []) ≡ length k + cond {A = ℕ} t 1 0
  letters_of k true = length-append k (END ∷ [])
  letters_of k false = length-append k []

  path_long : (i : ℕ) → length (path (whole_leaf keys (at keys i))) ≡ length (at keys i) + cond {A = ℕ} (list_any (extends (at keys i)) keys) 1 0
  unfolding path
  path_long i = letters_of (at keys i) (list_any (extends (at keys i)) keys)

  leaf_at : (i : ℕ) (d : Leaf) → i < length keys → get_or (whole_leaves keys) i d ≡ whole_leaf keys (at keys i)
  leaf_at i d within = get_or-map (whole_leaf keys) keys i [] d within

  span_is : (i : ℕ) → i < length keys
      → record { leaf = i; closes = closes (whole_leaf keys (at keys i)) (drop (i + 1) (whole_leaves keys)); len = length (path (whole_leaf keys (at keys i))) } ≡ span_at keys i
  span_is i within =
      let ls = whole_leaves keys in
      let l = whole_leaf keys (at keys i) in
      let long = length-map keys (whole_leaf keys) in
      let k = at keys i in
      let next = at keys (i + 1) in
      elim (cases_lt (i + 1) (length keys)) [
        | inl more ↦
            let closed : closes l (drop (i + 1) ls) ≡ shared k next + 1 =
            ap (closes l) (drop_more ls (i + 1) l (omega (arith, more, long))) ∙ ap (λ (m : Leaf). shared k m.stub + 1) (leaf_at (i + 1) l more) in
            let size : length (path l) ≡ length k + cond {A = ℕ} (shared k next == length k) 1 0 =
            path_long i ∙ ap (λ (t : Bool). length k + cond {A = ℕ} t 1 0) (ends_before i more) in
            (λ j. record { leaf = i; closes = closed j; len = size j })
            ∙ sym (cond-true (nat_lt (i + 1) (length keys)) (span_before i k next) (last_span i k) (lt-ltb (i + 1) (length keys) more))
        | inr last ↦
            let closed : closes l (drop (i + 1) ls) ≡ 0 = ap (closes l) (drop_all (i + 1) ls (omega (arith, last, long))) in
            let all : length k + 0 ≡ length k = omega arith in
            let size : length (path l) ≡ length k = path_long i ∙ ap (λ (t : Bool). length k + cond {A = ℕ} t 1 0) (last_open i within last) ∙ all in
            (λ j. record { leaf = i; closes = closed j; len = size j })
            ∙ sym (cond-false (nat_lt (i + 1) (length keys)) (span_before i k next) (last_span i k) (le-ltb (i + 1) (length keys) last))
      ]

  pub span_next : (i : ℕ) → i < length keys → spans_from i (drop i (whole_leaves keys)) ≡ span_at keys i ∷ spans_from (i + 1) (drop (i + 1) (whole_leaves keys))
  span_next i within =
      let ls = whole_leaves keys in
      let l = whole_leaf keys (at keys i) in
      let long = length-map keys (whole_leaf keys) in
      ap (spans_from i) (drop_more ls i l (omega (arith, within, long)) ∙ ap (λ (m : Leaf). m ∷ drop (i + 1) ls) (leaf_at i l within))
      ∙ (λ j. span_is i within j ∷ spans_from (sym (add-one i) j) (drop (i + 1) ls))

pub spans_more : (spans total rest next : List Span) (s : Span) → spans ++ rest ≡ total → rest ≡ s ∷ next → (spans ++ s ∷ []) ++ next ≡ total
spans_more spans total rest next s e f = append_assoc spans (s ∷ []) next ∙ ap (λ (r : List Span). spans ++ r) (sym f) ∙ e
