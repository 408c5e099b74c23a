-- The first key that is not below a bound, by the first leaf that is not past it.
use Rattle.std.proofs.Common.{◌≡◌, ◌<◌, ◌≤◌, ◌+◌, ℕ, zero, suc, List, [], ◌∷◌, Bool, true, false, not, ◌&&◌, ◌||◌, Option, Some, None, length, get_or, refl, sym, ap, subst, ◌∙◌, arith, inl, inr}
use Rattle.std.specs.List.{list_any, position_from}
use Rattle.std.proofs.lemmas.Bool.{and_parts, cases_Bool, cases_lt, cond-false, cond-true, false≢true, not-true}
use Rattle.std.proofs.lemmas.List.{get_or-map, get_or_default, length-map}
use Rattle.std.proofs.lemmas.List.Elements.{All-contains, Contains-get_or}
use Rattle.byte_fields.specs.Spelling.{IsBytes}
use Rattle.filter_model.proofs.Fits.{not_past}
use Rattle.filter_model.proofs.LeastStrings.{any_here}
use Rattle.filter_model.proofs.Order.{Leq-to, Lt-Leq, Lt-or-Leq}
use Rattle.filter_model.specs.Answers.{first, fits, is_past}
use Rattle.filter_model.specs.Keys.{IsKey, IsKeyList}
use Rattle.filter_model.specs.Leaves.{Leaf}
use Rattle.filter_model.specs.Strings.{bytes_eq, extends, is_before}
use Rattle.filter_model.specs.Valid.{IsLeafList}
use Rattle.fst_map.specs.Places.{first_key}
use Rattle.map_file_model.specs.Maps.{Bytes}
use Rattle.whole_keys.proofs.Answered.{fits_is, whole_past}
use Rattle.whole_keys.proofs.Listed.{lists_are_whole}
use Rattle.whole_keys.specs.Laws.{IsWhole}
use Rattle.whole_keys.specs.Whole.{runs_past, stubs, whole_leaf, whole_leaves}

-- ---- the first element that passes

-- the element at place n passes, and none before it
record FirstAt {X : Type 0} (test : X → Bool) (xs : List X) (n : ℕ) : Type 0 where
  within : n < length xs
  here : (d : X) → test (get_or xs n d) ≡ true
  before : (i : ℕ) (d : X) → i < n → test (get_or xs i d) ≡ false

fail_before : {X : Type 0} (test : X → Bool) (x : X) (xs : List X) (k : ℕ) → test x ≡ false → ((i : ℕ) (d : X) → i < k → test (get_or xs i d) ≡ false)
    → (i : ℕ) (d : X) → i < suc k → test (get_or (x ∷ xs) i d) ≡ false
fail_before test x xs k here rest zero d l = here
fail_before test x xs k here rest (suc i) d l = rest i d (omega (arith, l))

first_at : {X : Type 0} (test : X → Bool) (xs : List X) (a m : ℕ) → Some m ≡ position_from test a xs → (k : ℕ) × (a + k ≡ m) × FirstAt test xs k
first_at test [] a m e = absurd (cc)
first_at test (x ∷ xs) a m e = elim (cases_Bool (test x)) [
  | inl passes ↦
      let is : a ≡ m = let s = e ∙ cond-true (test x) (Some a) (position_from test (a + 1) xs) passes in cc in
      (0, omega (arith, is), record { within = omega arith; here = λ d. passes; before = λ i d l. absurd (omega (arith, l)) })
  | inr fails ↦
      let rest = first_at test xs (a + 1) m (e ∙ cond-false (test x) (Some a) (position_from test (a + 1) xs) fails) in (
        suc rest.0,
        omega (arith, rest.1),
        record {
          within = omega (arith, rest.2.within);
          here = rest.2.here;
          before = fail_before test x xs rest.0 fails rest.2.before;
        },
      )
]

none_at : {X : Type 0} (test : X → Bool) (xs : List X) (a : ℕ) → None ≡ position_from test a xs → (i : ℕ) (d : X) → i < length xs → test (get_or xs i d) ≡ false
none_at test [] a e i d l = absurd (omega (arith, l))
none_at test (x ∷ xs) a e i d l = elim (cases_Bool (test x)) [
  | inl passes ↦ absurd (let s = e ∙ cond-true (test x) (Some a) (position_from test (a + 1) xs) passes in cc)
  | inr fails ↦
      fail_before test x xs (length xs) fails (none_at test xs (a + 1) (e ∙ cond-false (test x) (Some a) (position_from test (a + 1) xs) fails)) i d l
]

at_first : {X : Type 0} (test : X → Bool) (xs : List X) (a n : ℕ) → FirstAt test xs n → Some (a + n) ≡ position_from test a xs
at_first test [] a n at = absurd (omega (arith, at.within))
at_first test (x ∷ xs) a zero at =
    let same : a + 0 ≡ a = omega arith in ap (λ (m : ℕ). Some m) same ∙ sym (cond-true (test x) (Some a) (position_from test (a + 1) xs) (at.here x))
at_first {X} test (x ∷ xs) a (suc n) at =
    let same : a + suc n ≡ a + 1 + n = omega arith in
    let rest : FirstAt test xs n = record { within = omega (arith, at.within); here = λ d. at.here d; before = λ i d l. at.before (suc i) d (omega (arith, l)) } in
    ap (λ (m : ℕ). Some m) same ∙ at_first test xs (a + 1) n rest ∙ sym (cond-false (test x) (Some a) (position_from test (a + 1) xs) (at.before 0 x (omega arith)))

from_first : {X : Type 0} (test : X → Bool) (xs : List X) (n : ℕ) → FirstAt test xs n → Some n ≡ position_from test 0 xs
from_first test xs n at = let same : n ≡ 0 + n = omega arith in ap (λ (m : ℕ). Some m) same ∙ at_first test xs 0 n at

at_none : {X : Type 0} (test : X → Bool) (xs : List X) (a : ℕ) → ((i : ℕ) (d : X) → i < length xs → test (get_or xs i d) ≡ false) → None ≡ position_from test a xs
at_none test [] a h = refl
at_none test (x ∷ xs) a h =
    at_none test xs (a + 1) (λ i d l. h (suc i) d (omega (arith, l))) ∙ sym (cond-false (test x) (Some a) (position_from test (a + 1) xs) (h 0 x (omega arith)))

-- ---- tests

not_false : (t : Bool) → not t ≡ false → t ≡ true
not_false true e = refl
not_false false e = absurd (false≢true (sym e))

false_not : (t : Bool) → t ≡ true → not t ≡ false
false_not t e = ap not e

false_is : (t : Bool) → t ≡ false → not t ≡ true
false_is t e = ap not e

kept_by : (t r : Bool) → t ≡ true → (t && not r) ≡ false → r ≡ true
kept_by t true e f = refl
kept_by t false e f = absurd (false≢true (sym f ∙ ap (λ (b : Bool). b && true) e))

or_right : (t r : Bool) → r ≡ true → (t || r) ≡ true
or_right true r e = refl
or_right false r e = e

-- ---- keys

module _ (keys : List Bytes) (lo : Bytes) (h : IsKeyList keys) (w : IsBytes lo) where
  key_at : (i : ℕ) → i < length keys → IsKey (get_or keys i [])
  key_at i l = All-contains IsKey keys (get_or keys i []) h.each (Contains-get_or keys i [] l)

  size : length (whole_leaves keys) ≡ length keys
  size = length-map keys (whole_leaf keys)

  abbrev is_open : Leaf → Bool
  is_open l = not (is_past 0 lo l)

  of_leaf : (i : ℕ) (d : Leaf) → i < length keys → is_past 0 lo (get_or (whole_leaves keys) i d) ≡ (is_before (get_or keys i []) lo && not (runs_past keys lo (get_or keys i [])))
  of_leaf i d l = ap (is_past 0 lo) (get_or-map (whole_leaf keys) keys i [] d l) ∙ whole_past keys lo (get_or keys i []) w (key_at i l)

  -- a key that lo runs past is the last one below lo
  none_between : (i j : ℕ) → runs_past keys lo (get_or keys i []) ≡ true → i < j → j < length keys → is_before (get_or keys j []) lo ≡ false
  none_between i j runs before within = elim (Lt-or-Leq y lo) [
    | inr from ↦ Leq-to lo y from
    | inl below ↦
        let fit : fits 0 lo (whole_leaf keys x) ≡ true = fits_is keys lo x w ∙ or_right (bytes_eq x lo) (runs_past keys lo x) runs in
        let open_at : is_past 0 y (whole_leaf keys x) ≡ false = not_past 0 y lo (whole_leaf keys x) (key_at j within).bytes w (Lt-Leq y lo below) fit in
        let less : is_before x y ≡ true = h.rising i j [] before within in
        let runs_y = kept_by (is_before x y) (runs_past keys y x) less (sym (whole_past keys y x (key_at j within).bytes (key_at i (omega (arith, before, within)))) ∙ open_at) in
        let on = and_parts (not (list_any (extends x) keys)) (extends x y) runs_y in
        absurd (false≢true (sym (not-true (list_any (extends x) keys) on.0) ∙ any_here (extends x) keys y (Contains-get_or keys j [] within) on.1))
  ]
    where
      x : Bytes
      x = get_or keys i []

      y : Bytes
      y = get_or keys j []

  abbrev from_lo : Bytes → Bool
  from_lo key = not (is_before key lo)

  from_at : (i : ℕ) (d : Bytes) (t : Bool) → i < length keys → is_before (get_or keys i []) lo ≡ t → from_lo (get_or keys i d) ≡ not t
  from_at i d t l e = ap from_lo (get_or_default keys i d [] l) ∙ ap not e

  opened : (n : ℕ) → Some n ≡ first 0 (whole_leaves keys) lo → FirstAt is_open (whole_leaves keys) n
  opened n e = let at = first_at is_open (whole_leaves keys) 0 n e in subst (FirstAt is_open (whole_leaves keys)) (omega (arith, at.1)) at.2

  -- the keys of leaves that are past lo are below it
  past_below : (i : ℕ) (d : Leaf) → i < length keys → is_open (get_or (whole_leaves keys) i d) ≡ false → is_before (get_or keys i []) lo ≡ true
  past_below i d l shut =
      (and_parts (is_before (get_or keys i []) lo) (not (runs_past keys lo (get_or keys i [])))
      (sym (of_leaf i d l) ∙ not_false (is_past 0 lo (get_or (whole_leaves keys) i d)) shut)).0

  -- ---- from the first leaf that is not past lo

  module _ (n : ℕ) (e : Some n ≡ first 0 (whole_leaves keys) lo) where
    within : n < length keys
    within = omega (arith, (opened n e).within, size)

    pub first_low : n < length (whole_leaves keys)
    first_low = (opened n e).within

    front : (i : ℕ) → i < n → is_before (get_or keys i []) lo ≡ true
    front i l = past_below i (whole_leaf keys []) (omega (arith, l, within)) ((opened n e).before i (whole_leaf keys []) l)

    here_is : is_before (get_or keys n []) lo ≡ false → Some n ≡ first_key keys lo
    here_is above = from_first from_lo keys n (record {
      within = within;
      here = λ d. from_at n d false within above;
      before = λ i d l. from_at i d true (omega (arith, l, within)) (front i l);
    })

    run_past : is_before (get_or keys n []) lo ≡ true → runs_past keys lo (get_or keys n []) ≡ true
    run_past below =
        kept_by (is_before (get_or keys n []) lo) (runs_past keys lo (get_or keys n [])) below
        (sym (of_leaf n (whole_leaf keys []) within) ∙ not-true (is_past 0 lo (get_or (whole_leaves keys) n (whole_leaf keys []))) ((opened n e).here (whole_leaf keys [])))

    up_to : (i : ℕ) → i < n + 1 → is_before (get_or keys n []) lo ≡ true → is_before (get_or keys i []) lo ≡ true
    up_to i l below = elim (cases_lt i n) [
      | inl less ↦ front i less
      | inr more ↦ let same : n ≡ i = omega (arith, l, more) in subst (λ (j : ℕ). is_before (get_or keys j []) lo ≡ true) same below
    ]

    next_is : is_before (get_or keys n []) lo ≡ true → n + 1 < length keys → Some (n + 1) ≡ first_key keys lo
    next_is below more = from_first from_lo keys (n + 1) (record {
      within = more;
      here = λ d. from_at (n + 1) d false more (none_between n (n + 1) (run_past below) (omega arith) more);
      before = λ i d l. from_at i d true (omega (arith, l, more)) (up_to i l below);
    })

    none_is : is_before (get_or keys n []) lo ≡ true → length keys ≤ n + 1 → None ≡ first_key keys lo
    none_is below last = at_none from_lo keys 0 (λ i d l. from_at i d true l (up_to i (omega (arith, l, last)) below))

  all_below : None ≡ first 0 (whole_leaves keys) lo → None ≡ first_key keys lo
  all_below e =
      at_none from_lo keys 0 (λ i d l. from_at i d true l
      (past_below i (whole_leaf keys []) l (none_at is_open (whole_leaves keys) 0 e i (whole_leaf keys []) (omega (arith, l, size)))))

-- ---- of any leaf list without bits

module _ (ls : List Leaf) (lo : Bytes) (v : IsLeafList 0 0 ls) (w : IsBytes lo) where
  whole : IsWhole ls
  whole = lists_are_whole ls v

  of_whole : (o : Option ℕ) → o ≡ first 0 ls lo → o ≡ first 0 (whole_leaves (stubs ls)) lo
  of_whole o e = e ∙ ap (λ (l : List Leaf). first 0 l lo) (sym whole.same)

  pub first_within : (n : ℕ) → Some n ≡ first 0 ls lo → n < length ls
  first_within n e =
      subst (λ (l : List Leaf). n < length l) whole.same (first_low (stubs ls) lo whole.keys w n (of_whole (Some n) e))

  pub first_here : (n : ℕ) → Some n ≡ first 0 ls lo → is_before (get_or (stubs ls) n []) lo ≡ false → Some n ≡ first_key (stubs ls) lo
  first_here n e = here_is (stubs ls) lo whole.keys w n (of_whole (Some n) e)

  pub first_next : (n : ℕ) → Some n ≡ first 0 ls lo → is_before (get_or (stubs ls) n []) lo ≡ true → n + 1 < length (stubs ls) → Some (n + 1) ≡ first_key (stubs ls) lo
  first_next n e = next_is (stubs ls) lo whole.keys w n (of_whole (Some n) e)

  pub first_nowhere : (n : ℕ) → Some n ≡ first 0 ls lo → is_before (get_or (stubs ls) n []) lo ≡ true → length (stubs ls) ≤ n + 1 → None ≡ first_key (stubs ls) lo
  first_nowhere n e = none_is (stubs ls) lo whole.keys w n (of_whole (Some n) e)

  pub first_missing : None ≡ first 0 ls lo → None ≡ first_key (stubs ls) lo
  first_missing e = all_below (stubs ls) lo whole.keys w (of_whole None e)
