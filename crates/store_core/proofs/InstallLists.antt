-- Tables that are put into their places, and those that stay.
use Rattle.std.proofs.Common.{◌≡◌, ◌≢◌, ◌+◌, ◌<◌, ◌≤◌, ◌++◌, ℕ, Bool, true, false, cond, List, [], ◌∷◌, length, fold, map, refl, sym, ap₂, subst, arith}
use Rattle.std.specs.Prelude.{◌==◌, ◌&&◌, ◌||◌, nat_lt}
use Rattle.std.specs.List.{AllByRecursion, list_any}
use Rattle.std.proofs.lemmas.Bool.{ne_eqb}
use Rattle.block_model.proofs.Bounds.{weaker}
use Rattle.extent_model.proofs.Lists.{Mutual, Pairs}
use Rattle.table_file.specs.Opened.{Opened}
use Rattle.store_core.specs.Install.{goes_before, others_in, put_in}

-- ---- one that is put in

-- after the others that it does not go before
pub put_behind : (new t : Opened) (more : List Opened) → goes_before new t ≡ false → put_in (t ∷ more) new ≡ t ∷ put_in more new
put_behind new t more off = elim (goes_before new t) as (λ b. b ≡ false → cond b (new ∷ t ∷ more) (t ∷ put_in more new) ≡ t ∷ put_in more new) [ true ↦ λ never. absurd cc | false ↦ λ _. refl ] off

pub put_here : (new t : Opened) (more : List Opened) → goes_before new t ≡ true → put_in (t ∷ more) new ≡ new ∷ t ∷ more
put_here new t more on = elim (goes_before new t) as (λ b. b ≡ true → cond b (new ∷ t ∷ more) (t ∷ put_in more new) ≡ new ∷ t ∷ more) [ true ↦ λ _. refl | false ↦ λ never. absurd cc ] on

pub put_all : (P : Opened → Type 0) (new : Opened) (tables : List Opened) → P new → AllByRecursion P tables → AllByRecursion P (put_in tables new)
put_all P new [] here all = (here, tt)
put_all P new (t ∷ more) here all = elim (goes_before new t) as (λ b. AllByRecursion P (cond b (new ∷ t ∷ more) (t ∷ put_in more new))) [
  | true ↦ (here, all)
  | false ↦ (all.0, put_all P new more here all.1)
]

put_pairs : (R : Opened → Opened → Type 0) → Mutual R → (new : Opened) (tables : List Opened) → AllByRecursion (R new) tables → Pairs R tables → Pairs R (put_in tables new)
put_pairs R flip new [] apart pairs = (tt, tt)
put_pairs R flip new (t ∷ more) apart pairs = elim (goes_before new t) as (λ b. Pairs R (cond b (new ∷ t ∷ more) (t ∷ put_in more new))) [
  | true ↦ (apart, pairs)
  | false ↦ (put_all (R t) new more (flip new t apart.0) pairs.0, put_pairs R flip new more apart.1 pairs.1)
]

-- ---- levels do not fall

abbrev pub IsUpTo : Opened → Opened → Type 0
IsUpTo t u = t.row.level ≤ u.row.level

up_to : (a b : ℕ) (before : Bool) → (nat_lt a b || ((a == b) && before)) ≡ true → a ≤ b
up_to a b before on = grind arith

down_to : (a b : ℕ) (before : Bool) → (nat_lt a b || ((a == b) && before)) ≡ false → b ≤ a
down_to a b before off = grind arith

then_up : (a b c : ℕ) → a ≤ b → b ≤ c → a ≤ c
then_up a b c first second = omega (arith, first, second)

put_levels : (new : Opened) (tables : List Opened) → Pairs IsUpTo tables → Pairs IsUpTo (put_in tables new)
put_levels new [] levels = (tt, tt)
put_levels new (t ∷ more) levels = elim (goes_before new t) as (λ b. goes_before new t ≡ b → Pairs IsUpTo (cond b (new ∷ t ∷ more) (t ∷ put_in more new))) [
  | true ↦ λ on. let low = up_to new.row.level t.row.level _ on in ((low, weaker (IsUpTo t) (IsUpTo new) (λ u up. then_up new.row.level t.row.level u.row.level low up) more levels.0), levels)
  | false ↦ λ off. (put_all (IsUpTo t) new more (down_to new.row.level t.row.level _ off) levels.0, put_levels new more levels.1)
] refl

put_length : (new : Opened) (tables : List Opened) → length (put_in tables new) ≡ length tables + 1
put_length new [] = omega arith
put_length new (t ∷ more) = elim (goes_before new t) as (λ b. length (cond b (new ∷ t ∷ more) (t ∷ put_in more new)) ≡ length (t ∷ more) + 1) [ true ↦ omega arith | false ↦ omega (arith, put_length new more) ]

-- ---- one after the other

pub fold_all : (P : Opened → Type 0) (made tables : List Opened) → AllByRecursion P made → AllByRecursion P tables → AllByRecursion P (fold put_in tables made)
fold_all P [] tables new all = all
fold_all P (w ∷ made) tables new all = fold_all P made (put_in tables w) new.1 (put_all P w tables new.0 all)

pub fold_pairs : (R : Opened → Opened → Type 0) → Mutual R → (made tables : List Opened) → Pairs R made → AllByRecursion (λ (t : Opened). AllByRecursion (λ (w : Opened). R w t) made) tables → Pairs R tables
    → Pairs R (fold put_in tables made)
fold_pairs R flip [] tables own apart pairs = pairs
fold_pairs R flip (w ∷ made) tables own apart pairs =
    let here = weaker (λ (t : Opened). AllByRecursion (λ (v : Opened). R v t) (w ∷ made)) (R w) (λ t all. all.0) tables apart in
    let later = weaker (λ (t : Opened). AllByRecursion (λ (v : Opened). R v t) (w ∷ made)) (λ (t : Opened). AllByRecursion (λ (v : Opened). R v t) made) (λ t all. all.1) tables apart in
    fold_pairs R flip made (put_in tables w) own.1 (put_all (λ (t : Opened). AllByRecursion (λ (v : Opened). R v t) made) w tables (weaker (R w) (λ v. R v w) (λ v r. flip w v r) made own.0) later)
    (put_pairs R flip w tables here pairs)

pub fold_levels : (made tables : List Opened) → Pairs IsUpTo tables → Pairs IsUpTo (fold put_in tables made)
fold_levels [] tables levels = levels
fold_levels (w ∷ made) tables levels = fold_levels made (put_in tables w) (put_levels w tables levels)

pub fold_length : (made tables : List Opened) → length (fold put_in tables made) ≡ length tables + length made
fold_length [] tables = omega arith
fold_length (w ∷ made) tables = omega (arith, put_length w tables, fold_length made (put_in tables w))

-- ---- those that stay

pub others_all : {A : Type 0} (P : A → Type 0) (which : List ℕ) (xs : List A) → AllByRecursion P xs → AllByRecursion P (others_in which xs)
others_all P which [] all = tt
others_all P which (x ∷ later) all = elim (list_any (λ (n : ℕ). n == length later) which) as (λ b. AllByRecursion P (cond b (others_in which later) (x ∷ others_in which later))) [
  | true ↦ others_all P which later all.1
  | false ↦ (all.0, others_all P which later all.1)
]

pub others_pairs : {A : Type 0} (R : A → A → Type 0) (which : List ℕ) (xs : List A) → Pairs R xs → Pairs R (others_in which xs)
others_pairs R which [] pairs = tt
others_pairs R which (x ∷ later) pairs = elim (list_any (λ (n : ℕ). n == length later) which) as (λ b. Pairs R (cond b (others_in which later) (x ∷ others_in which later))) [
  | true ↦ others_pairs R which later pairs.1
  | false ↦ (others_all (R x) which later pairs.0, others_pairs R which later pairs.1)
]

-- ---- how many stay

-- no more where one number is added
others_fewer : {A : Type 0} (n : ℕ) (which : List ℕ) (xs : List A) → length (others_in (n ∷ which) xs) ≤ length (others_in which xs)
others_fewer n which [] = omega arith
others_fewer n which (x ∷ later) =
    let rest = others_fewer n which later in
    elim (n == length later) as (λ b. length (cond (b || list_any (λ (k : ℕ). k == length later) which) (others_in (n ∷ which) later) (x ∷ others_in (n ∷ which) later))
    ≤ length (cond (list_any (λ (k : ℕ). k == length later) which) (others_in which later) (x ∷ others_in which later))) [
      | true ↦ elim (list_any (λ (k : ℕ). k == length later) which) as (λ c. length (others_in (n ∷ which) later) ≤ length (cond c (others_in which later) (x ∷ others_in which later))) [
        | true ↦ rest
        | false ↦ omega (arith, rest)
      ]
      | false ↦ elim (list_any (λ (k : ℕ). k == length later) which) as (λ c. length (cond c (others_in (n ∷ which) later) (x ∷ others_in (n ∷ which) later)) ≤ length (cond c (others_in which later) (x ∷ others_in which later))) [
        | true ↦ rest
        | false ↦ omega (arith, rest)
      ]
    ]

-- and one fewer where it is new, and that of an element
others_one_fewer : {A : Type 0} (n : ℕ) (which : List ℕ) (xs : List A) → n < length xs → list_any (λ (k : ℕ). k == n) which ≡ false
    → length (others_in (n ∷ which) xs) + 1 ≤ length (others_in which xs)
others_one_fewer n which [] less new = absurd (omega (arith, less))
others_one_fewer n which (x ∷ later) less new = elim (n == length later) as (λ b. (n == length later) ≡ b → length (cond (b || list_any (λ (k : ℕ). k == length later) which) (others_in (n ∷ which) later) (x ∷ others_in (n ∷ which) later)) + 1
    ≤ length (cond (list_any (λ (k : ℕ). k == length later) which) (others_in which later) (x ∷ others_in which later))) [
      | true ↦ λ on.
          let same : n ≡ length later = grind arith in
          let off : list_any (λ (k : ℕ). k == length later) which ≡ false = subst (λ (m : ℕ). list_any (λ (k : ℕ). k == m) which ≡ false) same new in
          subst (λ (c : Bool). length (others_in (n ∷ which) later) + 1 ≤ length (cond c (others_in which later) (x ∷ others_in which later))) (sym off) (omega (arith, others_fewer n which later))
      | false ↦ λ off.
          let before : n < length later = grind arith in
          let rest = others_one_fewer n which later before new in
          elim (list_any (λ (k : ℕ). k == length later) which) as (λ c. length (cond c (others_in (n ∷ which) later) (x ∷ others_in (n ∷ which) later)) + 1 ≤ length (cond c (others_in which later) (x ∷ others_in which later))) [
            | true ↦ rest
            | false ↦ omega (arith, rest)
          ]
    ] refl

not_any : (n : ℕ) (which : List ℕ) → AllByRecursion (λ (k : ℕ). n ≢ k) which → list_any (λ (k : ℕ). k == n) which ≡ false
not_any n [] other = refl
not_any n (k ∷ which) other = ap₂ (λ (a b : Bool). a || b) (ne_eqb k n (λ same. other.0 (sym same))) (not_any n which other.1)

pub others_few : {A : Type 0} (which : List ℕ) (xs : List A) → Pairs (λ (m n : ℕ). m ≢ n) which → AllByRecursion (λ (n : ℕ). n < length xs) which
    → length (others_in which xs) + length which ≤ length xs
others_few [] xs apart there = omega (arith, none_out xs)
  where
    none_out : {A : Type 0} (xs : List A) → length (others_in [] xs) ≤ length xs
    none_out [] = omega arith
    none_out (x ∷ later) = omega (arith, none_out later)
others_few (n ∷ which) xs apart there =
    omega (arith, others_one_fewer n which xs there.0 (not_any n which apart.0), others_few which xs apart.1 there.1)

-- ---- what is so of what is seen of each

pub all_seen : {A B : Type 0} (P : B → Type 0) (f : A → B) (xs : List A) → AllByRecursion (λ (x : A). P (f x)) xs → AllByRecursion P (map f xs)
all_seen P f [] all = tt
all_seen P f (x ∷ xs) all = (all.0, all_seen P f xs all.1)

pub all_of_seen : {A B : Type 0} (P : B → Type 0) (f : A → B) (xs : List A) → AllByRecursion P (map f xs) → AllByRecursion (λ (x : A). P (f x)) xs
all_of_seen P f [] all = tt
all_of_seen P f (x ∷ xs) all = (all.0, all_of_seen P f xs all.1)

pub pairs_seen : {A B : Type 0} (R : B → B → Type 0) (f : A → B) (xs : List A) → Pairs (λ (x y : A). R (f x) (f y)) xs → Pairs R (map f xs)
pairs_seen R f [] pairs = tt
pairs_seen R f (x ∷ xs) pairs = (all_seen (R (f x)) f xs pairs.0, pairs_seen R f xs pairs.1)

pub pairs_of_seen : {A B : Type 0} (R : B → B → Type 0) (f : A → B) (xs : List A) → Pairs R (map f xs) → Pairs (λ (x y : A). R (f x) (f y)) xs
pairs_of_seen R f [] pairs = tt
pairs_of_seen R f (x ∷ xs) pairs = (all_of_seen (R (f x)) f xs pairs.0, pairs_of_seen R f xs pairs.1)

-- of two lists together
pub all_first : {A : Type 0} (P : A → Type 0) (xs ys : List A) → AllByRecursion P (xs ++ ys) → AllByRecursion P xs
all_first P [] ys all = tt
all_first P (x ∷ xs) ys all = (all.0, all_first P xs ys all.1)

pub all_second : {A : Type 0} (P : A → Type 0) (xs ys : List A) → AllByRecursion P (xs ++ ys) → AllByRecursion P ys
all_second P [] ys all = all
all_second P (x ∷ xs) ys all = all_second P xs ys all.1

pub pairs_first : {A : Type 0} (R : A → A → Type 0) (xs ys : List A) → Pairs R (xs ++ ys) → Pairs R xs
pairs_first R [] ys pairs = tt
pairs_first R (x ∷ xs) ys pairs = (all_first (R x) xs ys pairs.0, pairs_first R xs ys pairs.1)

pub pairs_second : {A : Type 0} (R : A → A → Type 0) (xs ys : List A) → Pairs R (xs ++ ys) → Pairs R ys
pairs_second R [] ys pairs = pairs
pairs_second R (x ∷ xs) ys pairs = pairs_second R xs ys pairs.1

-- each of the second with each of the first
pub pairs_between : {A : Type 0} (R : A → A → Type 0) → Mutual R → (xs ys : List A) → Pairs R (xs ++ ys) → AllByRecursion (λ (x : A). AllByRecursion (λ (y : A). R y x) ys) xs
pairs_between R flip [] ys pairs = tt
pairs_between R flip (x ∷ xs) ys pairs = (weaker (R x) (λ y. R y x) (λ y r. flip x y r) ys (all_second (R x) xs ys pairs.0), pairs_between R flip xs ys pairs.1)
