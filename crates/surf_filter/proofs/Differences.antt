-- The leaves of two tries, one after the other, and the leaf from which a cursor goes over all.
use Rattle.std.proofs.Common.{◌≡◌, ◌≢◌, ◌<◌, ◌≤◌, ◌+◌, ℕ, zero, suc, Bool, true, false, cond, Option, Some, None, List, [], ◌∷◌, ◌++◌, length, take, drop, refl, ap, subst, sym, ◌∙◌, arith, inl, inr, nat_lt}
use Rattle.std.specs.Prelude.{◌==◌, ◌&&◌, ◌||◌, ◌↔◌, IfSome, IsTrue, bytes_eq, min, not, slice_get}
use Rattle.std.specs.List.{position_from}
use Rattle.std.proofs.lemmas.Bool.{cases_Bool, cases_lt, cond-false, cond-true, le-ltb, not_from_false}
use Rattle.std.proofs.lemmas.List.{take_more_same}
use Rattle.std.proofs.lemmas.Option.{slice_get-get_or, slice_get_past}
use Rattle.std.proofs.Math.Nat.{min-eq_left, min-eq_right, min-le_left, min-le_right}
use Rattle.std.proofs.Math.Seq.{drop-nil, take-append_seam, take-length}
use Rattle.filter_iter.specs.Cursors.{Standing, moved}
use Rattle.filter_model.proofs.Differences.{first_at, no_difference}
use Rattle.filter_model.proofs.Fronts.{same-itself, same-true}
use Rattle.filter_model.specs.Answers.{first, first_difference, is_past}
use Rattle.filter_model.specs.Leaves.{Filter, Leaf}
use Rattle.filter_model.specs.Strings.{bits, is_before, prefix_number}
use Rattle.surf_filter.proofs.Points.{no_bits}
use Rattle.trie_laws.proofs.Paths.{any_leaf}

-- ---- no leaf is past the empty string

before_none : (x : List ℕ) → is_before x [] ≡ false
before_none [] = refl
before_none (a ∷ x) = refl

no_number : (n : ℕ) → prefix_number n [] ≡ 0
no_number zero = refl
no_number (suc n) = refl

none_past : (n : ℕ) (l : Leaf) → is_past n [] l ≡ false
none_past n l = elim (cases_Bool l.ends) [
  | inl e ↦ cond-true l.ends (is_before l.stub []) _ e ∙ before_none l.stub
  | inr e ↦ cond-false l.ends (is_before l.stub []) _ e ∙ (λ j. nat_lt stub (no_number (length l.stub) j) || ((stub == no_number (length l.stub) j) && nat_lt l.real (none j))) ∙ nothing stub
]
  where
    stub : ℕ
    stub = prefix_number (length l.stub) l.stub

    none : bits n (drop (length l.stub) []) ≡ 0
    none = ap (bits n) (drop-nil {A = ℕ} (length l.stub)) ∙ no_bits n

    nothing : (k : ℕ) → (nat_lt k 0 || ((k == 0) && nat_lt l.real 0)) ≡ false
    nothing k = (λ j. le-ltb k 0 (omega arith) j || ((k == 0) && le-ltb l.real 0 (omega arith) j)) ∙ and_none (k == 0)
      where
        and_none : (b : Bool) → (b && false) ≡ false
        and_none true = refl
        and_none false = refl

-- so the first leaf is the first one that is not
pub first_of_all : (n : ℕ) (ls : List Leaf) → 0 < length ls → first n ls [] ≡ Some 0
first_of_all n [] h = absurd (omega (arith, h))
first_of_all n (l ∷ ls) h = cond-true (not (is_past n [] l)) (Some 0) (position_from (λ o. not (is_past n [] o)) 1 ls) (not_from_false (is_past n [] l) (none_past n l))

-- so it is where a cursor starts
pub never_none : (n : ℕ) (ls : List Leaf) → 0 < length ls → None ≡ first n ls [] → ⊥
never_none n ls h e = go (e ∙ first_of_all n ls h)
  where
    go : {k : ℕ} → None ≡ Some k → ⊥
    go f = cc

pub starts_at : (n : ℕ) (ls : List Leaf) (k : ℕ) → 0 < length ls → Some k ≡ first n ls [] → k ≡ 0
starts_at n ls k h e = go (e ∙ first_of_all n ls h)
  where
    go : Some k ≡ Some 0 → k ≡ 0
    go f = cc

-- ---- what cursors say

-- a cursor that was at leaf n, where there is one, and goes on
pub goes_on : (s new : Standing) (i : Filter) (n : ℕ) (b : Bool) → s.image ≡ i → (n < length i.leaves → s.leaf ≡ n) → new ≡ moved s (s.leaf + cond b 1 0) → IsTrue b ↔ (s.leaf + 1 < length s.image.leaves)
    → (new.image ≡ i) × (n + 1 < length i.leaves → new.leaf ≡ n + 1)
goes_on s new i n b same at e more = (
  ap (λ (t : Standing). t.image) e ∙ same,
  λ l.
      let here : s.leaf ≡ n = at (omega (arith, l)) in
      let yes : b ≡ true = more.1 (subst (λ (f : Filter). s.leaf + 1 < length f.leaves) (sym same) (omega (arith, here, l))) in
      ap (λ (t : Standing). t.leaf) e ∙ (λ j. here j + cond (yes j) 1 0),
)

-- the stubs that two of them write
pub one_stub : (o p : Option Leaf) (out old other_out other_old : List ℕ) (n m : ℕ) (b : Bool) → IfSome o (λ l. out ≡ l.stub ++ drop n old) → IfSome o (λ l. n ≡ length l.stub)
    → IfSome p (λ l. other_out ≡ l.stub ++ drop m other_old) → IfSome p (λ l. m ≡ length l.stub) → b ≡ bytes_eq (take n out) (take m other_out)
    → IfSome o (λ l. IfSome p (λ q. IsTrue b ↔ (l.stub ≡ q.stub)))
one_stub None p out old other_out other_old n m b s c t d e = tt
one_stub (Some l) None out old other_out other_old n m b s c t d e = tt
one_stub (Some l) (Some q) out old other_out other_old n m b s c t d e =
    let is : b ≡ bytes_eq l.stub q.stub = e ∙ (λ j. bytes_eq (taken out l.stub (drop n old) n s c j) (taken other_out q.stub (drop m other_old) m t d j)) in
    (λ y. same-true l.stub q.stub (sym is ∙ y), λ same. is ∙ ap (λ (x : List ℕ). bytes_eq x q.stub) same ∙ same-itself q.stub)
  where
    taken : (out stub rest : List ℕ) (n : ℕ) → out ≡ stub ++ rest → n ≡ length stub → take n out ≡ stub
    taken out stub rest n s c = (λ j. take (c j) (s j)) ∙ take-append_seam stub rest

-- ---- two lists that are alike up to a number

module _ (xs ys : List Leaf) (n p q both : ℕ) (many : p ≡ length xs) (others : q ≡ length ys) (is : both ≡ min p q) (l : n ≤ both) (e : take n xs ≡ take n ys) where
  here : n < both → n < length xs
  here m = omega (arith, m, is, many, min-le_left p q)

  there : n < both → n < length ys
  there m = omega (arith, m, is, others, min-le_right p q)

  -- they have the same leaf there too
  pub alike_more : n < both → slice_get xs n ≡ slice_get ys n → take (n + 1) xs ≡ take (n + 1) ys
  alike_more m s = take_more_same xs ys n any_leaf (here m) (there m) e (go (sym (slice_get-get_or xs n any_leaf (here m)) ∙ s ∙ slice_get-get_or ys n any_leaf (there m)))
    where
      go : {a b : Leaf} → Some a ≡ Some b → a ≡ b
      go f = cc

  -- they do not
  pub apart_at : slice_get xs n ≢ slice_get ys n → Some n ≡ first_difference xs ys
  apart_at s =
      sym (first_at xs ys n (record {
        within = omega (arith, l, is, many, min-le_left p q);
        within_others = omega (arith, l, is, others, min-le_right p q);
        alike = e;
        differ = s;
      }))

  -- one of them ends there
  pub one_ends : both ≤ n → length xs ≢ length ys → Some both ≡ first_difference xs ys
  one_ends out unlike = ap (λ (k : ℕ). Some k) at ∙ elim (cases_lt p q) [
    | inl less ↦
        let own : n ≡ length xs = sym at ∙ is ∙ min-eq_left (omega (arith, less)) ∙ many in
        apart_at (λ s. none_some (sym (slice_get_past xs n (omega (arith, own))) ∙ s ∙ slice_get-get_or ys n any_leaf (omega (arith, own, less, many, others))))
    | inr more ↦
        let other : n ≡ length ys = sym at ∙ is ∙ min-eq_right more ∙ others in
        apart_at (λ s. none_some (sym (slice_get_past ys n (omega (arith, other))) ∙ sym s ∙ slice_get-get_or xs n any_leaf (omega (arith, other, more, unlike, many, others))))
  ]
    where
      at : both ≡ n
      at = omega (arith, l, out)

      none_some : {a : Leaf} → None ≡ Some a → ⊥
      none_some f = cc

  -- both do
  pub both_end : both ≤ n → length xs ≡ length ys → None ≡ first_difference xs ys
  both_end out same =
      let at : n ≡ length xs = omega (arith, l, out, many, is ∙ min-eq_left (omega (arith, same, many, others))) in
      sym (no_difference xs ys (sym (ap (λ (k : ℕ). take k xs) at ∙ take-length xs) ∙ e ∙ ap (λ (k : ℕ). take k ys) (at ∙ same) ∙ take-length ys))

-- what two cursors at leaf n say of their leaves is of the lists' own
pub of_lists : (s t : Standing) (i o : Filter) (n p q both : ℕ) → p ≡ length i.leaves → q ≡ length o.leaves → both ≡ min p q → n < both
    → s.image ≡ i → (n < length i.leaves → s.leaf ≡ n) → t.image ≡ o → (n < length o.leaves → t.leaf ≡ n)
    → (slice_get s.image.leaves s.leaf ≡ slice_get t.image.leaves t.leaf) ↔ (slice_get i.leaves n ≡ slice_get o.leaves n)
of_lists s t i o n p q both many others is l same at same_other at_other =
    let own : slice_get s.image.leaves s.leaf ≡ slice_get i.leaves n = λ j. slice_get (same j).leaves (at (omega (arith, l, is, many, min-le_left p q)) j) in
    let other : slice_get t.image.leaves t.leaf ≡ slice_get o.leaves n = λ j. slice_get (same_other j).leaves (at_other (omega (arith, l, is, others, min-le_right p q)) j) in
    (λ e. sym own ∙ e ∙ other, λ e. own ∙ e ∙ sym other)
