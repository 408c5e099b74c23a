-- The first leaf that is not past a string, against the keys and against ranges.
use Rattle.std.proofs.Common.{◌≡◌, ◌<◌, ◌≤◌, ◌+◌, ℕ, zero, suc, List, [], ◌∷◌, ◌⊎◌, Bool, true, false, not, Option, Some, None, length, get_or, refl, sym, ap, subst, ◌∙◌, arith, inl, inr}
use Rattle.std.specs.Prelude.{count_by}
use Rattle.std.specs.List.{Contains, position_from}
use Rattle.std.proofs.lemmas.Bool.{cases_Bool, and_parts, and_from, not_from_false, not-true, cond-true, cond-false, false≢true}
use Rattle.std.proofs.lemmas.List.{get_or_default, length-map, get_or-map}
use Rattle.std.proofs.lemmas.List.Elements.{Contains-get_or}
use Rattle.byte_fields.specs.Spelling.{IsBytes}
use Rattle.filter_model.specs.Strings.{is_before}
use Rattle.filter_model.specs.Keys.{IsKeyList}
use Rattle.filter_model.specs.Leaves.{Leaf, leaf_of, leaves_of}
use Rattle.filter_model.specs.Answers.{begins, first, fits, is_past, meets, ranged}
use Rattle.filter_model.specs.Laws.{NothingBeforeFirst, RangedByFirst, SeeksAreNear}
use Rattle.filter_model.proofs.Order.{thirds, Leq, Leq-from, Leq-to, Leq-itself, Leq-trans, Lt, Lt-from, Lt-to, Lt-Leq, Lt-or-Leq}
use Rattle.filter_model.proofs.Fits.{begins_least, not_past, fits_between}
use Rattle.filter_model.proofs.Stubs.{fits_own, leaf_of_key}
use Rattle.filter_model.proofs.Counts.{count_by-cons, count_none, one_at_most, one_if}
use Rattle.filter_model.proofs.Validity.{key_of, leaves_are_valid}
use Rattle.filter_model.proofs.Tallies.{fit_one}
use Rattle.filter_model.proofs.LeastStrings.{any_here, any_place, begins_rise}

-- the element at place n is the first that passes
record FirstAt {X : Type 0} (test : X → Bool) (xs : List X) (n : ℕ) : Type 0 where
  within : n < length xs
  here : (d : X) → test (get_or xs n d) ≡ true
  before : (i : ℕ) (d : X) → i < n → test (get_or xs i d) ≡ false

fail_before : {X : Type 0} (test : X → Bool) (x : X) (xs : List X) (k : ℕ) → test x ≡ false → ((i : ℕ) (d : X) → i < k → test (get_or xs i d) ≡ false)
    → (i : ℕ) (d : X) → i < suc k → test (get_or (x ∷ xs) i d) ≡ false
fail_before test x xs k here rest zero d l = here
fail_before test x xs k here rest (suc i) d l = rest i d (omega arith)

first_at : {X : Type 0} (test : X → Bool) (xs : List X) (a m : ℕ) → position_from test a xs ≡ Some m → (k : ℕ) × (a + k ≡ m) × FirstAt test xs k
first_at test [] a m e = absurd (cc)
first_at test (x ∷ xs) a m e = elim (cases_Bool (test x)) [
  | inl passes ↦
      let is : a ≡ m = let s = sym (cond-true (test x) (Some a) (position_from test (a + 1) xs) passes) ∙ e in cc in
      (0, omega arith, record { within = omega arith; here = λ d. passes; before = λ i d l. absurd (omega arith) })
  | inr fails ↦
      let rest = first_at test xs (a + 1) m (sym (cond-false (test x) (Some a) (position_from test (a + 1) xs) fails) ∙ e) in (
        suc rest.0,
        omega (arith, rest.1),
        record {
          within = omega (arith, rest.2.within);
          here = rest.2.here;
          before = fail_before test x xs rest.0 fails rest.2.before;
        },
      )
]

none_passes : {X : Type 0} (test : X → Bool) (xs : List X) (a : ℕ) → position_from test a xs ≡ None → (i : ℕ) (d : X) → i < length xs → test (get_or xs i d) ≡ false
none_passes test [] a e i d l = absurd (omega arith)
none_passes test (x ∷ xs) a e i d l = elim (cases_Bool (test x)) [
  | inl passes ↦ absurd (let s = sym (cond-true (test x) (Some a) (position_from test (a + 1) xs) passes) ∙ e in cc)
  | inr fails ↦
      fail_before test x xs (length xs) fails (none_passes test xs (a + 1) (sym (cond-false (test x) (Some a) (position_from test (a + 1) xs) fails) ∙ e)) i d l
]

count_front : {X : Type 0} (test : X → Bool) (xs : List X) (n : ℕ) → n < length xs → ((i : ℕ) (d : X) → i < n → test (get_or xs i d) ≡ true)
    → ((i : ℕ) (d : X) → n < i → i < length xs → test (get_or xs i d) ≡ false) → (n ≤ count_by test xs) × (count_by test xs ≤ n + 1)
count_front test [] n l front rest = absurd (omega arith)
count_front {X} test (x ∷ xs) zero l front rest =
    let none = count_none test xs (λ x c. subst (λ (y : X). test y ≡ false) c.2 (rest (suc c.0) x (omega arith) (omega (arith, c.1)))) in
    (omega arith, omega (arith, count_by-cons test x xs, none, one_at_most (test x)))
count_front test (x ∷ xs) (suc n) l front rest =
    let more = count_front test xs n (omega arith) (λ i d m. front (suc i) d (omega arith)) (λ i d m k. rest (suc i) d (omega arith) (omega arith)) in
    let one = one_if (test x) (front 0 x (omega arith)) in
    (omega (arith, count_by-cons test x xs, one, more.0), omega (arith, count_by-cons test x xs, one, more.1))

count_all : {X : Type 0} (test : X → Bool) (xs : List X) → ((i : ℕ) (d : X) → i < length xs → test (get_or xs i d) ≡ true) → count_by test xs ≡ length xs
count_all test [] all = refl
count_all test (x ∷ xs) all =
    let one = one_if (test x) (all 0 x (omega arith)) in
    omega (arith, count_by-cons test x xs, one, count_all test xs (λ i d l. all (suc i) d (omega arith)))

shut_from_test : (b : Bool) → not b ≡ false → b ≡ true
shut_from_test true e = refl
shut_from_test false e = absurd (false≢true (sym e))

abbrev is_open : ℕ → List ℕ → Leaf → Bool
is_open n lo l = not (is_past n lo l)

first_open : (n : ℕ) (ls : List Leaf) (lo : List ℕ) (m : ℕ) → first n ls lo ≡ Some m → FirstAt (is_open n lo) ls m
first_open n ls lo m e = let at = first_at (is_open n lo) ls 0 m e in subst (FirstAt (is_open n lo) ls) (omega (arith, at.1)) at.2

module _ (hash_bits n : ℕ) (keys : List (List ℕ)) (lo : List ℕ) (nh : n ≤ 32) (list : IsKeyList keys) (bytes : IsBytes lo) where
  abbrev leaf : List ℕ → Leaf
  leaf k = leaf_of hash_bits n keys k

  abbrev leaves : List Leaf
  leaves = leaves_of hash_bits n keys

  at_key : (i : ℕ) (d : Leaf) → i < length keys → get_or leaves i d ≡ leaf (get_or keys i [])
  at_key i d l = get_or-map leaf keys i [] d l

  size : length leaves ≡ length keys
  size = length-map keys leaf

  own_least : (k : List ℕ) → Contains keys k → Leq (begins n (leaf k)) k
  own_least k c = begins_least n k (leaf k) (key_of keys list k c).bytes (fits_own hash_bits n keys k)

  -- a key whose leaf is past lo is below it
  past_below : (k : List ℕ) → Contains keys k → is_past n lo (leaf k) ≡ true → is_before k lo ≡ true
  past_below k c past = elim (Lt-or-Leq k lo) [
    | inl before ↦ Lt-to k lo before
    | inr after ↦ absurd (false≢true (sym (not_past n lo k (leaf k) bytes (key_of keys list k c).bytes after (fits_own hash_bits n keys k)) ∙ past))
  ]

  module _ (m : ℕ) (at : FirstAt (is_open n lo) leaves m) where
    -- the keys before the first leaf that is not past lo are below it
    front_below : (i : ℕ) (d : List ℕ) → i < m → is_before (get_or keys i d) lo ≡ true
    front_below i d l =
        let within : i < length keys = omega (arith, at.within, size) in
        let past = shut_from_test (is_past n lo (leaf (get_or keys i []))) (ap (is_open n lo) (sym (at_key i (leaf []) within)) ∙ at.before i (leaf []) l) in
        subst (λ (k : List ℕ). is_before k lo ≡ true) (get_or_default keys i [] d within)
        (past_below (get_or keys i []) (Contains-get_or keys i [] within) past)

    open_here : is_past n lo (leaf (get_or keys m [])) ≡ false
    open_here = not-true (is_past n lo (leaf (get_or keys m []))) (ap (is_open n lo) (sym (at_key m (leaf []) (omega (arith, at.within, size)))) ∙ at.here (leaf []))

    -- those after it are not: a key between its least string and lo would fit two leaves
    rest_not_below : (j : ℕ) (d : List ℕ) → m < j → j < length keys → is_before (get_or keys j d) lo ≡ false
    rest_not_below j d before within =
        subst (λ (k : List ℕ). is_before k lo ≡ false) (get_or_default keys j [] d within) (elim (Lt-or-Leq y lo) [
          | inr after ↦ Leq-to lo y after
          | inl below ↦ absurd (two below)
        ])
      where
        x : List ℕ
        x = get_or keys m []

        y : List ℕ
        y = get_or keys j []

        two : Lt y lo → ⊥
        two below =
            let x_in = Contains-get_or keys m [] (omega arith) in
            let y_in = Contains-get_or keys j [] within in
            let y_bytes = (key_of keys list y y_in).bytes in
            let one = leaf_of_key hash_bits n keys x nh (key_of keys list x x_in) in
            let y_from = Leq-trans (begins n (leaf x)) x y (own_least x x_in) (Lt-Leq x y (Lt-from x y (list.rising m j [] before within))) in
            let y_to = Lt-Leq y lo below in
            let lo_fits = fits_between hash_bits n lo (leaf x) nh one bytes (Leq-trans (begins n (leaf x)) y lo y_from y_to) open_here in
            let y_fits = fits_between hash_bits n y (leaf x) nh one y_bytes y_from (not_past n y lo (leaf x) y_bytes bytes y_to lo_fits) in
            fit_one hash_bits n leaves y (leaves_are_valid hash_bits n keys nh list) m j (leaf []) before (omega (arith, size))
            (ap (fits n y) (at_key m (leaf []) (omega arith)) ∙ y_fits) (ap (fits n y) (at_key j (leaf []) within) ∙ fits_own hash_bits n keys y)

pub seeks_are_near : SeeksAreNear
seeks_are_near hash_bits n keys lo nh list bytes = record {
  some = λ m e.
      let at = first_open n (leaves_of hash_bits n keys) lo m e in
      count_front (λ k. is_before k lo) keys m (omega (arith, at.within, size hash_bits n keys lo nh list bytes))
      (front_below hash_bits n keys lo nh list bytes m at) (rest_not_below hash_bits n keys lo nh list bytes m at);
  none = λ e. count_all (λ k. is_before k lo) keys (λ i d l.
      let f = leaf_of hash_bits n keys in
      let open_nowhere = none_passes (is_open n lo) (leaves_of hash_bits n keys) 0 e i (f []) (omega (arith, length-map keys f)) in
      past_below hash_bits n keys lo nh list bytes (get_or keys i d) (Contains-get_or keys i d l)
      (shut_from_test (is_past n lo (f (get_or keys i d))) (ap (is_open n lo) (sym (get_or-map f keys i d (f []) l)) ∙ open_nowhere)));
}

pub nothing_before_first : NothingBeforeFirst
nothing_before_first hash_bits n keys lo k m l nh list bytes e c above =
    let f = leaf_of hash_bits n keys in
    let at = first_open n (leaves_of hash_bits n keys) lo m e in
    let m_in : m < length keys = omega (arith, at.within, length-map keys f) in
    let x = get_or keys m k in
    let least = own_least hash_bits n keys lo nh list bytes x (Contains-get_or keys m k m_in) in
    let x_to : Leq x k = elim (thirds c.0 m) [
      | inl front ↦ absurd (false≢true (sym above ∙ subst (λ (y : List ℕ). is_before y lo ≡ true) c.2 (front_below hash_bits n keys lo nh list bytes m at c.0 k front)))
      | inr (inl here) ↦ subst (Leq x) (ap (λ i. get_or keys i k) (sym here) ∙ c.2) (Leq-itself x)
      | inr (inr after) ↦ subst (Leq x) c.2 (Lt-Leq x (get_or keys c.0 k) (Lt-from x (get_or keys c.0 k) (list.rising m c.0 k after c.1)))
    ] in
    ap (λ (o : Leaf). is_before k (begins n o)) (get_or-map f keys m k l m_in) ∙ Leq-to (begins n (f x)) k (Leq-trans (begins n (f x)) x k least x_to)

pub ranged_by_first : RangedByFirst
ranged_by_first hash_bits n ls lo hi d nh valid = (to, from)
  where
    some_or_none : (o : Option ℕ) → (o ≡ None) ⊎ ((m : ℕ) × (o ≡ Some m))
    some_or_none None = inl refl
    some_or_none (Some m) = inr (m, refl)

    to : ranged n ls lo hi ≡ true → (m : ℕ) × (first n ls lo ≡ Some m) × (is_before hi (begins n (get_or ls m d)) ≡ false)
    to some =
        let met = any_place (meets n lo hi) ls some in
        let l = get_or ls met.0 d in
        let parts = and_parts (not (is_before hi (begins n l))) (not (is_past n lo l)) (met.2 d) in
        let upper = not-true (is_before hi (begins n l)) parts.0 in
        elim (some_or_none (first n ls lo)) [
          | inl none ↦ absurd (false≢true (sym (none_passes (is_open n lo) ls 0 none met.0 d met.1) ∙ parts.1))
          | inr (m, e) ↦ (
            m,
            e,
            elim (thirds met.0 m) [
              | inl front ↦ absurd (false≢true (sym ((first_open n ls lo m e).before met.0 d front) ∙ parts.1))
              | inr (inl here) ↦ subst (λ i. is_before hi (begins n (get_or ls i d)) ≡ false) here upper
              | inr (inr after) ↦
                  let rise = begins_rise hash_bits n ls valid m met.0 d after met.1 in
                  Leq-to (begins n (get_or ls m d)) hi (Leq-trans (begins n (get_or ls m d)) (begins n l) hi (Lt-Leq (begins n (get_or ls m d)) (begins n l) rise) (Leq-from (begins n l) hi upper))
            ],
          )
        ]

    from : ((m : ℕ) × (first n ls lo ≡ Some m) × (is_before hi (begins n (get_or ls m d)) ≡ false)) → ranged n ls lo hi ≡ true
    from (m, e, upper) =
        let at = first_open n ls lo m e in
        let l = get_or ls m d in
        any_here (meets n lo hi) ls l (Contains-get_or ls m d at.within)
        (and_from (not (is_before hi (begins n l))) (not (is_past n lo l)) (not_from_false (is_before hi (begins n l)) upper) (at.here d))
