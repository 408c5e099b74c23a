-- Waking keys against the keys of a table, and against ranges.
use Rattle.std.proofs.Common.{◌≡◌, ◌∙◌, ◌<◌, ◌+◌, ◌≤◌, ℕ, zero, suc, List, [], ◌∷◌, ◌⊎◌, Bool, true, false, not, ◌&&◌, cond, length, refl, sym, ap, subst, inl, inr, arith}
use Rattle.std.specs.Prelude.{Option, Some, None, count_by}
use Rattle.std.specs.Option.{option_map}
use Rattle.std.specs.List.{Contains, position_from}
use Rattle.std.proofs.lemmas.Bool.{cases_Bool, cond-true, cond-false, false≢true}
use Rattle.filter_model.specs.Answers.{first}
use Rattle.filter_model.specs.Leaves.{Leaf, leaves_of}
use Rattle.filter_model.specs.Strings.{is_before}
use Rattle.filter_model.proofs.Counts.{count_by-cons, one_at_most}
use Rattle.filter_model.proofs.Order.{Leq-from, Leq-to, Leq-trans, Lt-to, Lt-or-Leq}
use Rattle.filter_model.proofs.Seeks.{nothing_before_first, ranged_by_first, seeks_are_near}
use Rattle.filter_model.proofs.Tallies.{no_held_range_is_denied}
use Rattle.filter_model.proofs.Validity.{leaves_are_valid}
use Rattle.waking_keys.specs.Laws.{NothingBeforeWaking, NothingWithoutWaking, WakingIsAdmitted}
use Rattle.waking_keys.specs.Waking.{begins_at, greater, no_leaf, waking_key}

-- ---- the cases of the definition

-- the first leaf that is not past the bound has a number in the list
pub first_within : {X : Type 0} (test : X → Bool) (xs : List X) (a m : ℕ) → position_from test a xs ≡ Some m → m < a + length xs
first_within test [] a m e = absurd cc
first_within test (x ∷ xs) a m e = elim (cases_Bool (test x)) [
  | inl passes ↦ let is : a ≡ m = let s = sym (cond-true (test x) (Some a) (position_from test (a + 1) xs) passes) ∙ e in cc in omega (arith, is)
  | inr fails ↦ omega (arith, first_within test xs (a + 1) m (sym (cond-false (test x) (Some a) (position_from test (a + 1) xs) fails) ∙ e))
]

module _ (n : ℕ) (leaves : List Leaf) (least greatest lo : List ℕ) where
  abbrev found : Option ℕ → Option (List ℕ)
  found o = option_map (λ (m : ℕ). greater least (begins_at n leaves m)) o

  abbrev from_least : Option (List ℕ)
  from_least = cond (is_before least lo) (found (first n leaves lo)) (Some least)

  pub wakes_behind : is_before greatest lo ≡ true → waking_key n leaves least greatest lo ≡ None
  wakes_behind behind = cond-true (is_before greatest lo) None from_least behind

  pub wakes_from : is_before greatest lo ≡ false → waking_key n leaves least greatest lo ≡ from_least
  wakes_from within = cond-false (is_before greatest lo) None from_least within

  pub wakes_at_least : is_before greatest lo ≡ false → is_before least lo ≡ false → waking_key n leaves least greatest lo ≡ Some least
  wakes_at_least within above = wakes_from within ∙ cond-false (is_before least lo) (found (first n leaves lo)) (Some least) above

  pub wakes_at_leaf : is_before greatest lo ≡ false → is_before least lo ≡ true → waking_key n leaves least greatest lo ≡ found (first n leaves lo)
  wakes_at_leaf within below = wakes_from within ∙ cond-true (is_before least lo) (found (first n leaves lo)) (Some least) below

  -- where there is one, it is the least key, or the greater of that and of a leaf's least string
  pub wakes_so : (waking : List ℕ) → waking_key n leaves least greatest lo ≡ Some waking
      → ((is_before least lo ≡ false) × (least ≡ waking)) ⊎ ((m : ℕ) × (first n leaves lo ≡ Some m) × (greater least (begins_at n leaves m) ≡ waking))
  wakes_so waking is = elim (cases_Bool (is_before greatest lo)) [
    | inl behind ↦ absurd (let none : None ≡ Some waking = sym (wakes_behind behind) ∙ is in cc)
    | inr within ↦ elim (cases_Bool (is_before least lo)) [
      | inl below ↦ of_leaf (first n leaves lo) refl (sym (wakes_at_leaf within below) ∙ is)
      | inr above ↦ inl (above, let same : Some least ≡ Some waking = sym (wakes_at_least within above) ∙ is in cc)
    ]
  ]
    where
      of_leaf : (o : Option ℕ) → first n leaves lo ≡ o → found o ≡ Some waking
          → ((is_before least lo ≡ false) × (least ≡ waking)) ⊎ ((m : ℕ) × (first n leaves lo ≡ Some m) × (greater least (begins_at n leaves m) ≡ waking))
      of_leaf None at none = absurd (let no : None ≡ Some waking = none in cc)
      of_leaf (Some m) at some = inr (m, at, let same : Some (greater least (begins_at n leaves m)) ≡ Some waking = some in cc)

  -- where there is none, the bound is above the greatest key, or no leaf is not past it
  pub sleeps_so : waking_key n leaves least greatest lo ≡ None → (is_before greatest lo ≡ true) ⊎ (first n leaves lo ≡ None)
  sleeps_so is = elim (cases_Bool (is_before greatest lo)) [
    | inl behind ↦ inl behind
    | inr within ↦ elim (cases_Bool (is_before least lo)) [
      | inl below ↦ inr (no_leaf_found (first n leaves lo) (sym (wakes_at_leaf within below) ∙ is))
      | inr above ↦ absurd (let no : Some least ≡ None = sym (wakes_at_least within above) ∙ is in cc)
    ]
  ]
    where
      no_leaf_found : (o : Option ℕ) → found o ≡ None → o ≡ None
      no_leaf_found None none = refl
      no_leaf_found (Some m) some = absurd (let no : Some (greater least (begins_at n leaves m)) ≡ None = some in cc)

-- what is not below both of two keys is not below the greater one
pub not_below_greater : (k a b : List ℕ) → is_before k a ≡ false → is_before k b ≡ false → is_before k (greater a b) ≡ false
not_below_greater k a b one two = elim (cases_Bool (is_before a b)) [
  | inl less ↦ ap (is_before k) (cond-true (is_before a b) b a less) ∙ two
  | inr more ↦ ap (is_before k) (cond-false (is_before a b) b a more) ∙ one
]

-- and what is not below the greater one is not below the second
pub not_below_second : (k a b : List ℕ) → is_before k (greater a b) ≡ false → is_before k b ≡ false
not_below_second k a b above = elim (cases_Bool (is_before a b)) [
  | inl less ↦ ap (is_before k) (sym (cond-true (is_before a b) b a less)) ∙ above
  | inr more ↦ Leq-to b k (Leq-trans b a k (Leq-from b a more) (Leq-from a k (ap (is_before k) (sym (cond-false (is_before a b) b a more)) ∙ above)))
]

-- no more are counted than there are, and where all are, each passes
fewer : (test : List ℕ → Bool) (keys : List (List ℕ)) → count_by test keys ≤ length keys
fewer test [] = omega arith
fewer test (x ∷ keys) = let cons = count_by-cons test x keys in let one = one_at_most (test x) in let rest = fewer test keys in omega (arith, cons, one, rest)

all_counted : (test : List ℕ → Bool) (keys : List (List ℕ)) (k : List ℕ) → count_by test keys ≡ length keys → Contains keys k → test k ≡ true
all_counted test [] k all there = absurd (let none : there.0 < 0 = there.1 in omega (arith, none))
all_counted test (x ∷ keys) k all (zero, lt, is) = subst (λ (y : List ℕ). test y ≡ true) is (elim (cases_Bool (test x)) [
  | inl passes ↦ passes
  | inr fails ↦ absurd (let cons = count_by-cons test x keys in let some = fewer test keys in let none = cond-false {A = ℕ} (test x) 1 0 fails in omega (arith, all, cons, some, none))
])
all_counted test (x ∷ keys) k all (suc i, lt, is) =
    all_counted test keys k (let cons = count_by-cons test x keys in let one = one_at_most (test x) in let some = fewer test keys in omega (arith, all, cons, one, some)) (i, omega (arith, lt), is)

-- ---- the laws

pub nothing_before_waking : NothingBeforeWaking
nothing_before_waking hash_bits n keys least greatest lo k waking few list ends bytes is there from = elim (wakes_so n (leaves_of hash_bits n keys) least greatest lo waking is) [
  | inl (above, same) ↦ ap (is_before k) (sym same) ∙ ends.none_below k there
  | inr (m, at, same) ↦ ap (is_before k) (sym same) ∙ not_below_greater k least (begins_at n (leaves_of hash_bits n keys) m) (ends.none_below k there)
      (nothing_before_first hash_bits n keys lo k m no_leaf few list bytes at there from)
]

pub nothing_without_waking : NothingWithoutWaking
nothing_without_waking hash_bits n keys least greatest lo k few list ends bytes is there = elim (sleeps_so n (leaves_of hash_bits n keys) least greatest lo is) [
  | inl behind ↦ elim (Lt-or-Leq k lo) [
    | inl below ↦ Lt-to k lo below
    | inr above ↦ absurd (false≢true (sym (Leq-to lo greatest (Leq-trans lo k greatest above (Leq-from k greatest (ends.none_above k there)))) ∙ behind))
  ]
  | inr none ↦ all_counted (λ (x : List ℕ). is_before x lo) keys k ((seeks_are_near hash_bits n keys lo few list bytes).none none) there
]

pub waking_is_admitted : WakingIsAdmitted
waking_is_admitted hash_bits n keys least greatest lo hi waking few list ends lo_bytes hi_bytes is upper above = elim (wakes_so n (leaves_of hash_bits n keys) least greatest lo waking is) [
  | inl (from, same) ↦ no_held_range_is_denied hash_bits n keys lo hi least list (record { lo_bytes = lo_bytes; hi_bytes = hi_bytes; in_order = upper }) ends.there
      (and_so (is_before least lo) (is_before hi least) from (ap (is_before hi) same ∙ above))
  | inr (m, at, same) ↦ (ranged_by_first hash_bits n (leaves_of hash_bits n keys) lo hi no_leaf few (leaves_are_valid hash_bits n keys few list)).1
      (m, at, not_below_second hi least (begins_at n (leaves_of hash_bits n keys) m) (ap (is_before hi) same ∙ above))
]
  where
    and_so : (a b : Bool) → a ≡ false → b ≡ false → (not a && not b) ≡ true
    and_so false false one two = refl
    and_so true b one two = absurd (false≢true (sym one))
    and_so false true one two = absurd (false≢true (sym two))
