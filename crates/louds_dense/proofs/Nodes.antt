-- One dense node: the bits of its bytes, and how they count its branches.
use Rattle.std.proofs.Common.{add-one, ◌≡◌, ℕ, zero, suc, ◌+◌, ◌<◌, ◌≤◌, ◌==◌, Bool, true, false, cond, List, [], ◌∷◌, length, get_or, take, map, refl, ap, subst, sym, ◌∙◌, arith, inl, inr, nat_lt, lt-ltb, le-ltb}
use Rattle.std.specs.Prelude.{count_by, ◌&&◌, ◌||◌}
use Rattle.std.specs.List.{range_with_len}
use Rattle.std.proofs.lemmas.Bool.{cases_Bool, eqb-true, eqb-false, eq-eqb, false≢true, ne_eqb}
use Rattle.std.proofs.lemmas.List.Sums.{sum_by-cons}
use Rattle.filter_image_model.proofs.DenseNodes.{no_child, no_letter}
use Rattle.filter_image_model.proofs.RisingBytes.{RisingBytes}
use Rattle.filter_model.specs.Image.{has_child, has_letter}
use Rattle.filter_model.specs.Nodes.{Branch, Node}

pub count-cons : {X : Type 0} (test : X → Bool) (x : X) (xs : List X) → count_by test (x ∷ xs) ≡ cond (test x) 1 0 + count_by test xs
count-cons test x xs = sum_by-cons (λ y. cond (test y) 1 0) x xs

pub count_in : {X : Type 0} (test : X → Bool) (x : X) (xs : List X) → test x ≡ true → count_by test (x ∷ xs) ≡ suc (count_by test xs)
count_in test x xs e = count-cons test x xs ∙ ap (λ (t : Bool). cond {A = ℕ} t 1 0 + count_by test xs) e ∙ omega arith

pub count_out : {X : Type 0} (test : X → Bool) (x : X) (xs : List X) → test x ≡ false → count_by test (x ∷ xs) ≡ count_by test xs
count_out test x xs e = count-cons test x xs ∙ ap (λ (t : Bool). cond {A = ℕ} t 1 0 + count_by test xs) e ∙ omega arith

-- ---- bits of the bytes from d on

abbrev pub letter_bits : Node → ℕ → ℕ → List Bool
letter_bits m d k = map (has_letter m) (range_with_len d k)

abbrev pub child_bits : Node → ℕ → ℕ → List Bool
child_bits m d k = map (has_child m) (range_with_len d k)

abbrev pub set_in : List Bool → ℕ
set_in bits = count_by (λ (bit : Bool). bit) bits

next_range : {X : Type 0} (f : ℕ → X) (d k : ℕ) → map f (range_with_len d (suc k)) ≡ f d ∷ map f (range_with_len (suc d) k)
next_range f d k = ap (λ (x : ℕ). f d ∷ map f (range_with_len x k)) (add-one d)

-- the first bit is set, or clear
set_next : (f : ℕ → Bool) (d k : ℕ) → f d ≡ true → set_in (map f (range_with_len d (suc k))) ≡ suc (set_in (map f (range_with_len (suc d) k)))
set_next f d k on = ap set_in (next_range f d k) ∙ count_in (λ (bit : Bool). bit) (f d) (map f (range_with_len (suc d) k)) on

clear_next : (f : ℕ → Bool) (d k : ℕ) → f d ≡ false → set_in (map f (range_with_len d (suc k))) ≡ set_in (map f (range_with_len (suc d) k))
clear_next f d k off = ap set_in (next_range f d k) ∙ count_out (λ (bit : Bool). bit) (f d) (map f (range_with_len (suc d) k)) off

none_set : (f : ℕ → Bool) (d k : ℕ) → ((c : ℕ) → f c ≡ false) → set_in (map f (range_with_len d k)) ≡ 0
none_set f d zero off = refl
none_set f d (suc k) off = clear_next f d k (off d) ∙ none_set f (suc d) k off

pub same_bits : (f g : ℕ → Bool) (d k : ℕ) → ((c : ℕ) → d ≤ c → c < d + k → f c ≡ g c) → map f (range_with_len d k) ≡ map g (range_with_len d k)
same_bits f g d zero e = refl
same_bits f g d (suc k) e =
    next_range f d k
    ∙ (λ j. e d (omega arith) (omega arith) j ∷ same_bits f g (suc d) k (λ c le lt. e c (omega (arith, le)) (omega (arith, lt))) j)
    ∙ sym (next_range g d k)

-- a branch says nothing of other letters
pub other_letter : (b : Branch) (m : Node) (c : ℕ) → (b.0 ≡ c → ⊥) → has_letter (b ∷ m) c ≡ has_letter m c
other_letter b m c ne = ap (λ (t : Bool). t || has_letter m c) (ne_eqb b.0 c ne)

pub other_child : (b : Branch) (m : Node) (c : ℕ) → (b.0 ≡ c → ⊥) → has_child (b ∷ m) c ≡ has_child m c
other_child b m c ne = ap (λ (t : Bool). (t && b.1) || has_child m c) (ne_eqb b.0 c ne)

or_false : (x : Bool) → (x || false) ≡ x
or_false true = refl
or_false false = refl

own_letter : (b : Branch) (m : Node) → has_letter (b ∷ m) b.0 ≡ true
own_letter b m = ap (λ (t : Bool). t || has_letter m b.0) (eq-eqb b.0 b.0 refl)

own_child : (b : Branch) (m : Node) → RisingBytes (suc b.0) m → has_child (b ∷ m) b.0 ≡ b.1
own_child b m w =
    ap (λ (t : Bool). (t && b.1) || has_child m b.0) (eq-eqb b.0 b.0 refl)
    ∙ ap (λ (t : Bool). b.1 || t) (no_child b.0 (suc b.0) m w (omega arith)) ∙ or_false b.1

abbrev pub below : ℕ → Node → ℕ
below c m = count_by (λ (b : Branch). nat_lt b.0 c) m

below_none : (d : ℕ) (m : Node) → RisingBytes d m → below d m ≡ 0
below_none d [] w = refl
below_none d (b ∷ m) w =
    count_out (λ (x : Branch). nat_lt x.0 d) b m (le-ltb b.0 d w.0)
    ∙ below_under d (suc b.0) m w.2 (omega (arith, w.0))
  where
    below_under : (c d : ℕ) (m : Node) → RisingBytes d m → c ≤ d → below c m ≡ 0
    below_under c d [] w l = refl
    below_under c d (b ∷ m) w l =
        count_out (λ (x : Branch). nat_lt x.0 c) b m (le-ltb b.0 c (omega (arith, l, w.0)))
        ∙ below_under c (suc b.0) m w.2 (omega (arith, l, w.0))

-- the set bits of k bytes count the branches by these bytes, and those that lead to a node
pub record AreCounted (d k : ℕ) (m : Node) : Type 0 where
  pub letters : set_in (letter_bits m d k) ≡ count_by (λ (b : Branch). nat_lt b.0 (d + k)) m
  pub children : set_in (child_bits m d k) ≡ count_by (λ (b : Branch). b.1) (take (set_in (letter_bits m d k)) m)
  pub within : set_in (letter_bits m d k) ≤ length m

pub counted : (d k : ℕ) (m : Node) → RisingBytes d m → AreCounted d k m
counted d zero m w = record { letters = sym (ap (λ (c : ℕ). below c m) (omega arith) ∙ below_none d m w); children = refl; within = omega arith }
counted d (suc k) [] w =
    let off : set_in (letter_bits [] d (suc k)) ≡ 0 = none_set (has_letter []) d (suc k) (λ c. refl) in
    record {
      letters = off;
      children = none_set (has_child []) d (suc k) (λ c. refl) ∙ ap (λ (q : ℕ). count_by (λ (b : Branch). b.1) (take q [])) (sym off);
      within = omega (arith, off);
    }
counted d (suc k) (b ∷ m) w = elim (cases_Bool (b.0 == d)) [
  | inl same ↦
      let is : b.0 ≡ d = eqb-true b.0 d same in
      let up : RisingBytes (suc d) m = subst (λ c. RisingBytes (suc c) m) is w.2 in
      let r = counted (suc d) k m up in
      let letter : has_letter (b ∷ m) d ≡ true = ap (has_letter (b ∷ m)) (sym is) ∙ own_letter b m in
      let child : has_child (b ∷ m) d ≡ b.1 = ap (has_child (b ∷ m)) (sym is) ∙ own_child b m w.2 in
      let rest_l : letter_bits (b ∷ m) (suc d) k ≡ letter_bits m (suc d) k = same_bits (has_letter (b ∷ m)) (has_letter m) (suc d) k (λ c le lt. other_letter b m c (λ e. omega (arith, le, is, e))) in
      let rest_c : child_bits (b ∷ m) (suc d) k ≡ child_bits m (suc d) k = same_bits (has_child (b ∷ m)) (has_child m) (suc d) k (λ c le lt. other_child b m c (λ e. omega (arith, le, is, e))) in
      let set : set_in (letter_bits (b ∷ m) d (suc k)) ≡ suc (set_in (letter_bits m (suc d) k)) =
      set_next (has_letter (b ∷ m)) d k letter ∙ ap (λ (bits : List Bool). suc (set_in bits)) rest_l in
      let less : nat_lt b.0 (d + suc k) ≡ true = lt-ltb b.0 (d + suc k) (omega (arith, is)) in
      record {
        letters =
            set ∙ ap suc (r.letters ∙ ap (λ (c : ℕ). below c m) (omega arith))
            ∙ sym (count_in (λ (x : Branch). nat_lt x.0 (d + suc k)) b m less);
        children =
            ap set_in (next_range (has_child (b ∷ m)) d k)
            ∙ count-cons (λ (bit : Bool). bit) (has_child (b ∷ m) d) (child_bits (b ∷ m) (suc d) k)
            ∙ (λ j. cond {A = ℕ} (child j) 1 0 + set_in (rest_c j)) ∙ ap (λ (q : ℕ). cond {A = ℕ} b.1 1 0 + q) r.children
            ∙ sym (ap (λ (q : ℕ). count_by (λ (x : Branch). x.1) (take q (b ∷ m))) set ∙ count-cons (λ (x : Branch). x.1) b (take (set_in (letter_bits m (suc d) k)) m));
        within = omega (arith, set, r.within);
      }
  | inr other ↦
      let ne = eqb-false b.0 d other in
      let up : RisingBytes (suc d) (b ∷ m) = (omega (arith, w.0, ne), w.1, w.2) in
      let r = counted (suc d) k (b ∷ m) up in
      let letter : has_letter (b ∷ m) d ≡ false = no_letter d (suc d) (b ∷ m) up (omega arith) in
      let child : has_child (b ∷ m) d ≡ false = no_child d (suc d) (b ∷ m) up (omega arith) in
      let set : set_in (letter_bits (b ∷ m) d (suc k)) ≡ set_in (letter_bits (b ∷ m) (suc d) k) =
      clear_next (has_letter (b ∷ m)) d k letter in
      record {
        letters = set ∙ r.letters ∙ ap (λ (c : ℕ). below c (b ∷ m)) (omega arith);
        children =
            clear_next (has_child (b ∷ m)) d k child ∙ r.children
            ∙ ap (λ (q : ℕ). count_by (λ (x : Branch). x.1) (take q (b ∷ m))) (sym set);
        within = omega (arith, set, r.within);
      }
]

-- the branch by byte d + k has as many branches before it as bits are set before its own
pub record IsCountedBranch (d k : ℕ) (m : Node) : Type 0 where
  pub inside : set_in (letter_bits m d k) < length m
  pub is : get_or m (set_in (letter_bits m d k)) (0, false) ≡ (d + k, has_child m (d + k))

pub branch_is : (d k : ℕ) (m : Node) → RisingBytes d m → has_letter m (d + k) ≡ true → IsCountedBranch d k m
branch_is d zero [] w on = absurd (false≢true on)
branch_is d (suc k) [] w on = absurd (false≢true on)
branch_is d zero (b ∷ m) w on = elim (cases_Bool (b.0 == d)) [
  | inl same ↦
      let is : b.0 ≡ d + 0 = omega (arith, eqb-true b.0 d same) in
      record { inside = omega arith; is = (λ j. (is j, (sym (own_child b m w.2) ∙ ap (has_child (b ∷ m)) is) j)) }
  | inr other ↦
      let ne = eqb-false b.0 d other in
      let up : RisingBytes (suc d) (b ∷ m) = (omega (arith, w.0, ne), w.1, w.2) in
      absurd (false≢true (sym (no_letter (d + 0) (suc d) (b ∷ m) up (omega arith)) ∙ on))
]
branch_is d (suc k) (b ∷ m) w on =
    let next : d + suc k ≡ suc d + k = omega arith in
    elim (cases_Bool (b.0 == d)) [
      | inl same ↦
          let is : b.0 ≡ d = eqb-true b.0 d same in
          let up : RisingBytes (suc d) m = subst (λ c. RisingBytes (suc c) m) is w.2 in
          let letter : has_letter (b ∷ m) d ≡ true = ap (has_letter (b ∷ m)) (sym is) ∙ own_letter b m in
          let apart : b.0 ≡ suc d + k → ⊥ = (λ e. omega (arith, is, e)) in
          let rest_l : letter_bits (b ∷ m) (suc d) k ≡ letter_bits m (suc d) k = same_bits (has_letter (b ∷ m)) (has_letter m) (suc d) k (λ c le lt. other_letter b m c (λ e. omega (arith, le, is, e))) in
          let set : set_in (letter_bits (b ∷ m) d (suc k)) ≡ suc (set_in (letter_bits m (suc d) k)) =
          set_next (has_letter (b ∷ m)) d k letter ∙ ap (λ (bits : List Bool). suc (set_in bits)) rest_l in
          let r = branch_is (suc d) k m up (sym (other_letter b m (suc d + k) apart) ∙ ap (has_letter (b ∷ m)) (sym next) ∙ on) in
          record {
            inside = omega (arith, set, r.inside);
            is =
                ap (λ (q : ℕ). get_or (b ∷ m) q (0, false)) set ∙ r.is
                ∙ (λ j. (sym next j, (sym (other_child b m (suc d + k) apart) ∙ ap (has_child (b ∷ m)) (sym next)) j));
          }
      | inr other ↦
          let ne = eqb-false b.0 d other in
          let up : RisingBytes (suc d) (b ∷ m) = (omega (arith, w.0, ne), w.1, w.2) in
          let letter : has_letter (b ∷ m) d ≡ false = no_letter d (suc d) (b ∷ m) up (omega arith) in
          let set : set_in (letter_bits (b ∷ m) d (suc k)) ≡ set_in (letter_bits (b ∷ m) (suc d) k) =
          clear_next (has_letter (b ∷ m)) d k letter in
          let r = branch_is (suc d) k (b ∷ m) up (ap (has_letter (b ∷ m)) (sym next) ∙ on) in
          record {
            inside = omega (arith, set, r.inside);
            is = ap (λ (q : ℕ). get_or (b ∷ m) q (0, false)) set ∙ r.is ∙ (λ j. (sym next j, ap (has_child (b ∷ m)) (sym next) j));
          }
    ]

-- from the first byte on
zero_plus : (c : ℕ) → 0 + c ≡ c
zero_plus c = omega arith

pub letters_first : (c : ℕ) (m : Node) → RisingBytes 0 m → set_in (letter_bits m 0 c) ≡ below c m
letters_first c m w = (counted 0 c m w).letters ∙ ap (λ (x : ℕ). below x m) (zero_plus c)

pub branch_first : (c : ℕ) (m : Node) → RisingBytes 0 m → has_letter m c ≡ true → (set_in (letter_bits m 0 c) < length m) × (get_or m (set_in (letter_bits m 0 c)) (0, false) ≡ (c, has_child m c))
branch_first c m w on =
    let r = branch_is 0 c m w (ap (has_letter m) (zero_plus c) ∙ on) in
    (r.inside, r.is ∙ ap (λ (x : ℕ). (x, has_child m x)) (zero_plus c))
