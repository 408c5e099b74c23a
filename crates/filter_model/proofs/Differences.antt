-- The first difference of two lists of leaves.
use Rattle.std.proofs.Common.{◌≡◌, ◌+◌, ◌==◌, ◌&&◌, ℕ, zero, suc, Bool, true, false, cond, Option, Some, None, List, [], ◌∷◌, length, take, refl, sym, ap, subst, ◌∙◌, arith}
use Rattle.std.specs.Bool.{beq}
use Rattle.std.specs.List.{common_prefix_len}
use Rattle.std.specs.Prelude.{slice_get}
use Rattle.std.proofs.lemmas.Bool.{and_from, and_parts, cond-true, eq-eqb, eqb-true, false≢true}
use Rattle.std.proofs.lemmas.List.Sums.{common_prefix_len-le}
use Rattle.filter_model.specs.Answers.{first_difference, is_same}
use Rattle.filter_model.specs.Laws.{DifferFirstAt, FirstDifferenceIsExact}
use Rattle.filter_model.specs.Leaves.{Leaf}
use Rattle.filter_model.specs.Strings.{bytes_eq}
use Rattle.filter_model.proofs.Fronts.{same-itself, same-true}

beq-true : (x y : Bool) → beq x y ≡ true → x ≡ y
beq-true true true e = refl
beq-true false false e = refl
beq-true true false e = absurd (false≢true e)
beq-true false true e = absurd (false≢true e)

beq-itself : (x : Bool) → beq x x ≡ true
beq-itself true = refl
beq-itself false = refl

pub one_leaf : (l m : Leaf) → is_same l m ≡ true → l ≡ m
one_leaf l m e =
    let first = and_parts (bytes_eq l.stub m.stub) (beq l.ends m.ends && ((l.hash == m.hash) && (l.real == m.real))) e in
    let second = and_parts (beq l.ends m.ends) ((l.hash == m.hash) && (l.real == m.real)) first.1 in
    let third = and_parts (l.hash == m.hash) (l.real == m.real) second.1 in
    λ j. record {
      stub = same-true l.stub m.stub first.0 j;
      ends = beq-true l.ends m.ends second.0 j;
      hash = eqb-true l.hash m.hash third.0 j;
      real = eqb-true l.real m.real third.1 j;
    }

pub leaf_itself : (l : Leaf) → is_same l l ≡ true
leaf_itself l =
    and_from (bytes_eq l.stub l.stub) (beq l.ends l.ends && ((l.hash == l.hash) && (l.real == l.real))) (same-itself l.stub)
    (and_from (beq l.ends l.ends) ((l.hash == l.hash) && (l.real == l.real)) (beq-itself l.ends)
    (and_from (l.hash == l.hash) (l.real == l.real) (eq-eqb l.hash l.hash refl) (eq-eqb l.real l.real refl)))

one_more : (k : ℕ) → suc k ≡ 1 + k
one_more k = omega arith

abbrev alike : List Leaf → List Leaf → ℕ
alike ls ms = common_prefix_len is_same ls ms

taken : (ls ms : List Leaf) → take (alike ls ms) ls ≡ take (alike ls ms) ms
taken [] ms = refl
taken (l ∷ ls) [] = refl
taken (l ∷ ls) (m ∷ ms) = go (is_same l m) refl (taken ls ms)
  where
    go : (b : Bool) → is_same l m ≡ b → take (alike ls ms) ls ≡ take (alike ls ms) ms → take (cond b (1 + alike ls ms) 0) (l ∷ ls) ≡ take (cond b (1 + alike ls ms) 0) (m ∷ ms)
    go false e rest = refl
    go true e rest = subst (λ (k : ℕ). take k (l ∷ ls) ≡ take k (m ∷ ms)) (one_more (alike ls ms)) (λ j. one_leaf l m e j ∷ rest j)

-- where the two go on alike behind that, both have ended
both_end : (ls ms : List Leaf) → slice_get ls (alike ls ms) ≡ slice_get ms (alike ls ms) → (alike ls ms ≡ length ls) × (alike ls ms ≡ length ms)
both_end [] [] e = (refl, refl)
both_end [] (m ∷ ms) e = absurd (cc)
both_end (l ∷ ls) [] e = absurd (cc)
both_end (l ∷ ls) (m ∷ ms) e = go (is_same l m) refl (both_end ls ms) e
  where
    go :
        (b : Bool) → is_same l m ≡ b → (slice_get ls (alike ls ms) ≡ slice_get ms (alike ls ms) → (alike ls ms ≡ length ls) × (alike ls ms ≡ length ms))
        → slice_get (l ∷ ls) (cond b (1 + alike ls ms) 0) ≡ slice_get (m ∷ ms) (cond b (1 + alike ls ms) 0)
        → (cond b (1 + alike ls ms) 0 ≡ length (l ∷ ls)) × (cond b (1 + alike ls ms) 0 ≡ length (m ∷ ms))
    go true s more f =
        let rest = more (subst (λ (k : ℕ). slice_get (l ∷ ls) k ≡ slice_get (m ∷ ms) k) (sym (one_more (alike ls ms))) f) in
        (omega (arith, rest.0), omega (arith, rest.1))
    go false s more f =
        let one : l ≡ m = cc in
        absurd (false≢true (sym s ∙ ap (is_same l) (sym one) ∙ leaf_itself l))

alike_itself : (ls : List Leaf) → alike ls ls ≡ length ls
alike_itself [] = refl
alike_itself (l ∷ ls) = cond-true (is_same l l) (1 + alike ls ls) 0 (leaf_itself l) ∙ omega (arith, alike_itself ls)

alike_at : (ls ms : List Leaf) (n : ℕ) → DifferFirstAt ls ms n → alike ls ms ≡ n
alike_at [] ms n d = omega (arith, d.within)
alike_at (l ∷ ls) [] n d = omega (arith, d.within_others)
alike_at (l ∷ ls) (m ∷ ms) zero d = go (is_same l m) refl
  where
    go : (b : Bool) → is_same l m ≡ b → cond b (1 + alike ls ms) 0 ≡ 0
    go true e = absurd (d.differ (ap (λ (x : Leaf). Some x) (one_leaf l m e)))
    go false e = refl
alike_at (l ∷ ls) (m ∷ ms) (suc n) d =
    let head : l ≡ m = cc in
    let rest : take n ls ≡ take n ms = cc in
    let later : DifferFirstAt ls ms n = record { within = omega (arith, d.within); within_others = omega (arith, d.within_others); alike = rest; differ = d.differ } in
    cond-true (is_same l m) (1 + alike ls ms) 0 (ap (is_same l) (sym head) ∙ leaf_itself l) ∙ omega (arith, alike_at ls ms n later)

past_end : {X : Type 0} (xs : List X) (n : ℕ) → n ≡ length xs → slice_get xs n ≡ None
past_end [] zero e = refl
past_end [] (suc n) e = refl
past_end (x ∷ xs) zero e = absurd (omega (arith, e))
past_end (x ∷ xs) (suc n) e = past_end xs n (omega (arith, e))

-- the answer of so many that are alike
abbrev answer : ℕ → ℕ → ℕ → Option ℕ
answer n many others = cond ((n == many) && (n == others)) None (Some n)

pub no_difference : (ls ms : List Leaf) → ls ≡ ms → first_difference ls ms ≡ None
no_difference ls ms e =
    let plain : first_difference ls ls ≡ None =
    cond-true ((alike ls ls == length ls) && (alike ls ls == length ls)) None (Some (alike ls ls))
    (and_from (alike ls ls == length ls) (alike ls ls == length ls) (eq-eqb (alike ls ls) (length ls) (alike_itself ls)) (eq-eqb (alike ls ls) (length ls) (alike_itself ls))) in
    ap (first_difference ls) (sym e) ∙ plain

pub first_at : (ls ms : List Leaf) (n : ℕ) → DifferFirstAt ls ms n → first_difference ls ms ≡ Some n
first_at ls ms n d = ap (λ (k : ℕ). answer k (length ls) (length ms)) (alike_at ls ms n d) ∙ go ((n == length ls) && (n == length ms)) refl
  where
    go : (b : Bool) → ((n == length ls) && (n == length ms)) ≡ b → cond b None (Some n) ≡ Some n
    go false e = refl
    go true e =
        let ends = and_parts (n == length ls) (n == length ms) e in
        absurd (d.differ (past_end ls n (eqb-true n (length ls) ends.0) ∙ sym (past_end ms n (eqb-true n (length ms) ends.1))))

whole : (ls : List Leaf) → take (length ls) ls ≡ ls
whole [] = refl
whole (l ∷ ls) = ap (λ (rest : List Leaf). l ∷ rest) (whole ls)

pub one_list : (ls ms : List Leaf) → first_difference ls ms ≡ None → ls ≡ ms
one_list ls ms e = go ((alike ls ms == length ls) && (alike ls ms == length ms)) refl e
  where
    go : (b : Bool) → ((alike ls ms == length ls) && (alike ls ms == length ms)) ≡ b → cond b None (Some (alike ls ms)) ≡ None → ls ≡ ms
    go false h f = absurd (cc)
    go true h f =
        let ends = and_parts (alike ls ms == length ls) (alike ls ms == length ms) h in
        sym (ap (λ (k : ℕ). take k ls) (eqb-true (alike ls ms) (length ls) ends.0) ∙ whole ls)
        ∙ taken ls ms ∙ ap (λ (k : ℕ). take k ms) (eqb-true (alike ls ms) (length ms) ends.1) ∙ whole ms

pub differ_at : (ls ms : List Leaf) (n : ℕ) → first_difference ls ms ≡ Some n → DifferFirstAt ls ms n
differ_at ls ms n e = go ((alike ls ms == length ls) && (alike ls ms == length ms)) refl e
  where
    here : ((alike ls ms == length ls) && (alike ls ms == length ms)) ≡ false → DifferFirstAt ls ms (alike ls ms)
    here off =
        let most = common_prefix_len-le is_same ls ms in
        record {
          within = most.0;
          within_others = most.1;
          alike = taken ls ms;
          differ = λ s.
              let ends = both_end ls ms s in
              false≢true (sym off ∙ and_from (alike ls ms == length ls) (alike ls ms == length ms) (eq-eqb (alike ls ms) (length ls) ends.0) (eq-eqb (alike ls ms) (length ms) ends.1));
        }

    go : (b : Bool) → ((alike ls ms == length ls) && (alike ls ms == length ms)) ≡ b → cond b None (Some (alike ls ms)) ≡ Some n → DifferFirstAt ls ms n
    go true h f = absurd (cc)
    go false h f = let same : alike ls ms ≡ n = cc in subst (DifferFirstAt ls ms) same (here h)

pub first_difference_is_exact : FirstDifferenceIsExact
first_difference_is_exact ls ms = ((one_list ls ms, no_difference ls ms), λ n. (differ_at ls ms n, first_at ls ms n))
