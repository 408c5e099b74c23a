-- Groups of strings: what stands behind a prefix, and what comes before a string.
use Rattle.std.proofs.Common.{◌≡◌, ℕ, zero, suc, ◌+◌, ◌<◌, ◌≤◌, ◌⊎◌, Bool, true, false, cond, List, [], ◌∷◌, ◌++◌, length, get_or, refl, ap, sym, ◌∙◌, arith, inl, inr, eqb, nat_lt, ltb, le-ltb, lt-ltb}
use Rattle.std.specs.List.{AllByRecursion}
use Rattle.std.proofs.lemmas.Bool.{and_parts, cases_Bool, cases_lt, eq-eqb, eqb-true, false_from_ne_true, false≢true, ltb-true, ne_eqb, true≢false}
use Rattle.filter_image_model.proofs.GroupWords.{Group, Sorted, goes_on, is_cons}
use Rattle.filter_image_model.proofs.Lists.{all_of}
use Rattle.filter_image_model.proofs.Sorted.{sorted_tails}
use Rattle.filter_model.specs.Strings.{is_prefix}
use Rattle.filter_model.specs.Trie.{END}
use Rattle.trie_model.specs.Letters.{comes_before, order_of}
use Rattle.trie_model.specs.Rests.{ahead, rests, start, tails}

-- ---- one string

plain_group : (g : Group) → Sorted g → is_cons g ≡ true → goes_on g ≡ false → g ≡ [] ∷ []
plain_group [] s i e = absurd (false≢true i)
plain_group ([] ∷ []) s i e = refl
plain_group ([] ∷ y ∷ g) s i e = absurd (false≢true s.0.0)
plain_group ((a ∷ x) ∷ g) s i e = absurd (true≢false e)

sorted_rests : (p : List ℕ) (g : Group) → Sorted g → Sorted (rests p g)
sorted_rests [] g s = s
sorted_rests (c ∷ p) g s = sorted_rests p (tails c g) (sorted_tails c g s)

-- where some string begins with q and none goes on from it, it is one string
pub one_string : (q : List ℕ) (g : Group) → Sorted g → is_cons (rests q g) ≡ true → goes_on (rests q g) ≡ false → rests q g ≡ [] ∷ []
one_string q g s some off = plain_group (rests q g) (sorted_rests q g s) some off

-- ---- further letters

pub rests-append : (p q : List ℕ) (g : Group) → rests (p ++ q) g ≡ rests q (rests p g)
rests-append [] q g = refl
rests-append (c ∷ p) q g = rests-append p q (tails c g)

pub start-append : (p q : List ℕ) (g : Group) → start (p ++ q) g ≡ start p g + start q (rests p g)
start-append [] q g = omega arith
start-append (c ∷ p) q g = let ih = start-append p q (tails c g) in omega (arith, ih)

-- where none goes on, none comes before what follows
none_on : (q : List ℕ) (g : Group) → goes_on g ≡ false → start q g ≡ 0
none_on [] g e = refl
none_on (c ∷ q) g e = let gone = no_tails c g e in omega (arith, no_ahead c g e, ap (start q) gone, none_on q [] refl)
  where
    no_ahead : (c : ℕ) (g : Group) → goes_on g ≡ false → ahead c g ≡ 0
    no_ahead c [] e = refl
    no_ahead c ([] ∷ g) e = no_ahead c g e
    no_ahead c ((a ∷ x) ∷ g) e = absurd (true≢false e)

    no_tails : (c : ℕ) (g : Group) → goes_on g ≡ false → tails c g ≡ []
    no_tails c [] e = refl
    no_tails c ([] ∷ g) e = no_tails c g e
    no_tails c ((a ∷ x) ∷ g) e = absurd (true≢false e)

pub start_ends : (p q : List ℕ) (g : Group) → goes_on (rests p g) ≡ false → start (p ++ q) g ≡ start p g
start_ends p q g e = omega (arith, start-append p q g, none_on q (rests p g) e)

-- ---- the key order, letter by letter

split_before : (a b : ℕ) (x y : List ℕ) → comes_before (a ∷ x) (b ∷ y) ≡ true → (order_of a < order_of b) ⊎ ((a ≡ b) × (comes_before x y ≡ true))
split_before a b x y e = go (eqb a b) refl e
  where
    go : (t : Bool) → eqb a b ≡ t → cond t (comes_before x y) (ltb (order_of a) (order_of b)) ≡ true → (order_of a < order_of b) ⊎ ((a ≡ b) × (comes_before x y ≡ true))
    go true i h = inr (eqb-true a b i, h)
    go false i h = inl (ltb-true (order_of a) (order_of b) h)

pub before_less : (a b : ℕ) (x y : List ℕ) → order_of a < order_of b → comes_before (a ∷ x) (b ∷ y) ≡ true
before_less a b x y l =
    ap (λ (t : Bool). cond t (comes_before x y) (ltb (order_of a) (order_of b))) (ne_eqb a b (λ e. omega (arith, l, ap order_of e)))
    ∙ lt-ltb (order_of a) (order_of b) l

pub before_same : (a b : ℕ) (x y : List ℕ) → a ≡ b → comes_before (a ∷ x) (b ∷ y) ≡ comes_before x y
before_same a b x y e = ap (λ (t : Bool). cond t (comes_before x y) (ltb (order_of a) (order_of b))) (eq-eqb a b e)

pub before_nil : (x : List ℕ) → comes_before x [] ≡ false
before_nil [] = refl
before_nil (a ∷ x) = refl

pub before_trans : (x y z : List ℕ) → comes_before x y ≡ true → comes_before y z ≡ true → comes_before x z ≡ true
before_trans [] y z h k = absurd (false≢true h)
before_trans (a ∷ x) [] z h k = absurd (false≢true h)
before_trans (a ∷ x) (b ∷ y) [] h k = absurd (false≢true k)
before_trans (a ∷ x) (b ∷ y) (c ∷ z) h k = elim (split_before a b x y h) [
  | inl less ↦ elim (split_before b c y z k) [
    | inl more ↦ before_less a c x z (omega (arith, less, more))
    | inr same ↦ before_less a c x z (omega (arith, less, ap order_of same.0))
  ]
  | inr same ↦ elim (split_before b c y z k) [
    | inl more ↦ before_less a c x z (omega (arith, more, ap order_of same.0))
    | inr other ↦ before_same a c x z (same.0 ∙ other.0) ∙ before_trans x y z same.1 other.1
  ]
]

-- ---- how many come before a string

start_none : (p : List ℕ) → start p [] ≡ 0
start_none [] = refl
start_none (c ∷ p) = omega (arith, start_none p)

pub start-cons : (p x : List ℕ) (g : Group) → start p (x ∷ g) ≡ cond (comes_before x p) 1 0 + start p g
start-cons [] x g = ap (λ (t : Bool). cond {A = ℕ} t 1 0 + 0) (sym (before_nil x))
start-cons (c ∷ p) [] g = omega arith
start-cons (c ∷ p) (a ∷ x) g = go (eqb a c) refl (start-cons p x (tails c g))
  where
    go : (t : Bool) → eqb a c ≡ t → start p (x ∷ tails c g) ≡ cond (comes_before x p) 1 0 + start p (tails c g)
        → (cond (ltb (order_of a) (order_of c)) 1 0 + ahead c g) + start p (cond t (x ∷ tails c g) (tails c g)) ≡ cond (cond t (comes_before x p) (ltb (order_of a) (order_of c))) 1 0 + (ahead c g + start p (tails c g))
    go true e ih =
        let level : ltb (order_of a) (order_of c) ≡ false = le-ltb (order_of a) (order_of c) (omega (arith, ap order_of (eqb-true a c e))) in
        omega (arith, ih, ap (λ (t : Bool). cond {A = ℕ} t 1 0) level)
    go false e ih = omega arith

start_of_none : (x p : List ℕ) (g : Group) → AllByRecursion (λ y. comes_before x y ≡ true) g → comes_before x p ≡ false → start p g ≡ 0
start_of_none x p [] w e = start_none p
start_of_none x p (y ∷ g) w e =
    let off : comes_before y p ≡ false = false_from_ne_true (comes_before y p) (λ h. false≢true (sym e ∙ before_trans x y p w.0 h)) in
    omega (arith, start-cons p y g, start_of_none x p g w.1 e, ap (λ (t : Bool). cond {A = ℕ} t 1 0) off)

-- of a sorted list the first ones come before a string, and no others
pub before_at : (p : List ℕ) (g : Group) (i : ℕ) → Sorted g → i < length g → comes_before (get_or g i []) p ≡ nat_lt i (start p g)
before_at p [] i s l = absurd (omega (arith, l))
before_at p (x ∷ g) i s l = elim (cases_Bool (comes_before x p)) [
  | inl on ↦
      let more : start p (x ∷ g) ≡ suc (start p g) = omega (arith, start-cons p x g, ap (λ (t : Bool). cond {A = ℕ} t 1 0) on) in
      first i l on (λ j m. before_at p g j s.1 m) ∙ ap (nat_lt i) (sym more)
  | inr off ↦
      let none : start p (x ∷ g) ≡ 0 = omega (arith, start-cons p x g, ap (λ (t : Bool). cond {A = ℕ} t 1 0) off, start_of_none x p g s.0 off) in
      others i l off ∙ sym (le-ltb i (start p (x ∷ g)) (omega (arith, none)))
]
  where
    up : (i k : ℕ) → nat_lt i k ≡ nat_lt (suc i) (suc k)
    up i k = elim (cases_lt i k) [
      | inl less ↦ lt-ltb i k less ∙ sym (lt-ltb (suc i) (suc k) (omega (arith, less)))
      | inr more ↦ le-ltb i k more ∙ sym (le-ltb (suc i) (suc k) (omega (arith, more)))
    ]

    first : (i : ℕ) → i < suc (length g) → comes_before x p ≡ true → ((j : ℕ) → j < length g → comes_before (get_or g j []) p ≡ nat_lt j (start p g)) → comes_before (get_or (x ∷ g) i []) p ≡ nat_lt i (suc (start p g))
    first zero l on ih = on ∙ sym (lt-ltb 0 (suc (start p g)) (omega arith))
    first (suc i) l on ih = ih i (omega (arith, l)) ∙ up i (start p g)

    others : (i : ℕ) → i < suc (length g) → comes_before x p ≡ false → comes_before (get_or (x ∷ g) i []) p ≡ false
    others zero l off = off
    others (suc i) l off =
        false_from_ne_true (comes_before (get_or g i []) p)
        (λ h. false≢true (sym off ∙ before_trans x (get_or g i []) p (all_of (λ y. comes_before x y ≡ true) g s.0 i [] (omega (arith, l))) h))

pub start_within : (p : List ℕ) (g : Group) → start p g ≤ length g
start_within p [] = omega (arith, start_none p)
start_within p (x ∷ g) = omega (arith, start-cons p x g, start_within p g, at_most_one (comes_before x p))
  where
    at_most_one : (b : Bool) → cond {A = ℕ} b 1 0 ≤ 1
    at_most_one true = omega arith
    at_most_one false = omega arith

-- ---- a string that a bound reaches

-- what comes before it comes before the bound
before_reached : (y q x : List ℕ) → comes_before y q ≡ true → is_prefix q (x ++ END ∷ []) ≡ true → comes_before y x ≡ true
before_reached y [] x h e = absurd (false≢true (sym (before_nil y) ∙ h))
before_reached [] (b ∷ q) x h e = absurd (false≢true h)
before_reached (a ∷ y) (b ∷ q) [] h e =
    let parts = and_parts (eqb b END) (is_prefix q []) e in
    elim (split_before a b y q h) [
      | inl less ↦ absurd (omega (arith, less, ap order_of (eqb-true b END parts.0)))
      | inr same ↦ absurd (nothing q parts.1 same.1)
    ]
  where
    nothing : (q : List ℕ) → is_prefix q [] ≡ true → comes_before y q ≡ true → ⊥
    nothing [] e h = false≢true (sym (before_nil y) ∙ h)
    nothing (c ∷ q) e h = false≢true e
before_reached (a ∷ y) (b ∷ q) (c ∷ x) h e =
    let parts = and_parts (eqb b c) (is_prefix q (x ++ END ∷ [])) e in
    let is = eqb-true b c parts.0 in
    elim (split_before a b y q h) [
      | inl less ↦ before_less a c y x (omega (arith, less, ap order_of is))
      | inr same ↦ before_same a c y x (same.0 ∙ is) ∙ before_reached y q x same.1 parts.1
    ]

-- and it does not itself
pub reached_not_before : (q x : List ℕ) → is_prefix q (x ++ END ∷ []) ≡ true → comes_before q x ≡ false
reached_not_before [] x e = refl
reached_not_before (b ∷ q) [] e = refl
reached_not_before (b ∷ q) (c ∷ x) e =
    let parts = and_parts (eqb b c) (is_prefix q (x ++ END ∷ [])) e in
    before_same b c q x (eqb-true b c parts.0) ∙ reached_not_before q x parts.1

sorted_at : (g : Group) (i j : ℕ) → Sorted g → i < j → j < length g → comes_before (get_or g i []) (get_or g j []) ≡ true
sorted_at [] i j s up l = absurd (omega (arith, l))
sorted_at (x ∷ g) i zero s up l = absurd (omega (arith, up))
sorted_at (x ∷ g) zero (suc j) s up l = all_of (λ y. comes_before x y ≡ true) g s.0 j [] (omega (arith, l))
sorted_at (x ∷ g) (suc i) (suc j) s up l = sorted_at g i j s.1 (omega (arith, up)) (omega (arith, l))

-- so its number is how many come before the bound
pub reached_number : (x : List ℕ) (g : Group) (i : ℕ) → Sorted g → i < length g → is_prefix (get_or g i []) (x ++ END ∷ []) ≡ true → start x g ≡ i
reached_number x g i s l e = elim (cases_lt i (start x g)) [
  | inl behind ↦ absurd (true≢false (sym (lt-ltb i (start x g) behind) ∙ sym (before_at x g i s l) ∙ reached_not_before (get_or g i []) x e))
  | inr up ↦ elim (cases_lt (start x g) i) [
    | inr same ↦ omega (arith, up, same)
    | inl less ↦
        let j = start x g in
        absurd (false≢true (sym (le-ltb j (start x g) (omega arith)) ∙ sym (before_at x g j s (omega (arith, less, l))) ∙ before_reached (get_or g j []) (get_or g i []) x (sorted_at g j i s less l) e))
  ]
]
