-- Tables in their order, parted by levels, and what is left of them without some.
use Rattle.std.proofs.Common.{◌≡◌, inl, inr, ℕ, zero, suc, ◌≤◌, ◌<◌, ◌+◌, List, [], ◌∷◌, ◌++◌, length, refl, sym, ap, ◌∙◌, subst, Bool, true, false, cond, arith}
use Rattle.std.specs.Prelude.{nat_le, nat_lt, not, ◌==◌, filter, drop}
use Rattle.std.specs.List.{AllByRecursion}
use Rattle.block_model.proofs.Bounds.{weaker}
use Rattle.extent_model.proofs.Lists.{Pairs, all_kept}
use Rattle.table_model.specs.Tables.{Table}
use Rattle.state_model.specs.Merges.{on_level}
use Rattle.state_model.specs.Sound.{StandsBefore}
use Rattle.state_model.proofs.Levels.{Levels, deeper}

pub keep_all : {X : Type 0} (test : X → Bool) (xs : List X) → AllByRecursion (λ x. test x ≡ true) xs → filter test xs ≡ xs
keep_all test [] all = refl
keep_all test (x ∷ more) all = ap (λ (b : Bool). cond b (x ∷ filter test more) (filter test more)) all.0 ∙ ap (λ l. x ∷ l) (keep_all test more all.1)

pub keep_none : {X : Type 0} (test : X → Bool) (xs : List X) → AllByRecursion (λ x. test x ≡ false) xs → filter test xs ≡ []
keep_none test [] all = refl
keep_none test (x ∷ more) all = ap (λ (b : Bool). cond b (x ∷ filter test more) (filter test more)) all.0 ∙ keep_none test more all.1

pub keep_same : {X : Type 0} (p q : X → Bool) (xs : List X) → AllByRecursion (λ x. p x ≡ q x) xs → filter p xs ≡ filter q xs
keep_same p q [] all = refl
keep_same p q (x ∷ more) all = ap (λ (b : Bool). cond b (x ∷ filter p more) (filter p more)) all.0
    ∙ ap (λ l. cond (q x) (x ∷ l) l) (keep_same p q more all.1)

pub pairs_kept : {X : Type 0} (R : X → X → Type 0) (test : X → Bool) (xs : List X) → Pairs R xs → Pairs R (filter test xs)
pairs_kept R test [] pairs = tt
pairs_kept R test (x ∷ more) pairs = elim (test x) as (λ b. Pairs R (cond b (x ∷ filter test more) (filter test more))) [
  | true ↦ (all_kept (R x) test more pairs.0, pairs_kept R test more pairs.1)
  | false ↦ pairs_kept R test more pairs.1
]

pub pairs_front : {X : Type 0} (R : X → X → Type 0) (xs ys : List X) → Pairs R (xs ++ ys) → Pairs R xs
pairs_front R [] ys pairs = tt
pairs_front R (x ∷ xs) ys pairs = (all_front (R x) xs ys pairs.0, pairs_front R xs ys pairs.1)
  where
    all_front : {X : Type 0} (P : X → Type 0) (xs ys : List X) → AllByRecursion P (xs ++ ys) → AllByRecursion P xs
    all_front P [] ys all = tt
    all_front P (x ∷ xs) ys all = (all.0, all_front P xs ys all.1)

-- ---- levels

level_before : (t u : Table) → StandsBefore t u → t.level ≤ u.level
level_before t u (inl less) = omega arith
level_before t u (inr same) = let e : t.level ≡ u.level = same.0 in omega arith

levels_from : (low : ℕ) (tables : List Table) → AllByRecursion (λ (t : Table). low ≤ t.level) tables → Pairs StandsBefore tables → Levels low tables
levels_from low [] all order = tt
levels_from low (t ∷ more) all order = (all.0, levels_from t.level more (weaker (StandsBefore t) (λ (u : Table). t.level ≤ u.level) (level_before t) more order.0) order.1)

pub levels_of : (tables : List Table) → Pairs StandsBefore tables → Levels 0 tables
levels_of [] order = tt
levels_of (t ∷ more) order = (omega arith, levels_from t.level more (weaker (StandsBefore t) (λ (u : Table). t.level ≤ u.level) (level_before t) more order.0) order.1)

levels_all : (low : ℕ) (tables : List Table) → Levels low tables → AllByRecursion (λ (t : Table). low ≤ t.level) tables
levels_all low [] rise = tt
levels_all low (t ∷ more) rise = let here : low ≤ t.level = rise.0 in
    (here, weaker (λ (u : Table). t.level ≤ u.level) (λ (u : Table). low ≤ u.level) (λ u from. let f : t.level ≤ u.level = from in omega arith) more (levels_all t.level more rise.1))

abbrev pub above : ℕ → List Table → List Table
above level tables = filter (λ (t : Table). nat_lt t.level level) tables

slide : (t : Table) (xs ys : List Table) → xs ≡ [] → t ∷ (xs ++ ys) ≡ xs ++ (t ∷ ys)
slide t xs ys e = subst (λ (l : List Table). t ∷ (l ++ ys) ≡ l ++ (t ∷ ys)) (sym e) refl

none_above : (level low : ℕ) (tables : List Table) → Levels low tables → level ≤ low → above level tables ≡ []
none_above level low tables rise from = keep_none (λ (t : Table). nat_lt t.level level) tables
    (weaker (λ (t : Table). low ≤ t.level) (λ (t : Table). nat_lt t.level level ≡ false) (λ t here. let h : low ≤ t.level = here in grind arith) tables (levels_all low tables rise))

none_on : (level low : ℕ) (tables : List Table) → Levels low tables → level < low → on_level level tables ≡ []
none_on level low tables rise from = keep_none (λ (t : Table). t.level == level) tables
    (weaker (λ (t : Table). low ≤ t.level) (λ (t : Table). (t.level == level) ≡ false) (λ t here. let h : low ≤ t.level = here in grind arith) tables (levels_all low tables rise))

abbrev Parts : ℕ → Table → List Table → Bool → Bool → Bool → Bool → Type 0
Parts a t more b1 b2 b3 b4 = t ∷ more ≡ cond b1 (t ∷ above a more) (above a more) ++ (cond b2 (t ∷ on_level a more) (on_level a more)
    ++ (cond b3 (t ∷ on_level (a + 1) more) (on_level (a + 1) more) ++ cond (not b4) (t ∷ deeper (a + 1) more) (deeper (a + 1) more)))

by_tests : (a : ℕ) (t : Table) (more : List Table) (b1 b2 b3 b4 : Bool) → nat_lt t.level a ≡ b1 → (t.level == a) ≡ b2 → (t.level == (a + 1)) ≡ b3 → nat_le t.level (a + 1) ≡ b4
    → Parts a t more b1 b2 b3 b4 → Parts a t more (nat_lt t.level a) (t.level == a) (t.level == (a + 1)) (nat_le t.level (a + 1))
by_tests a t more b1 b2 b3 b4 e1 e2 e3 e4 parts =
    subst (λ (b : Bool). Parts a t more (nat_lt t.level a) (t.level == a) (t.level == (a + 1)) b) (sym e4)
    (subst (λ (b : Bool). Parts a t more (nat_lt t.level a) (t.level == a) b b4) (sym e3)
    (subst (λ (b : Bool). Parts a t more (nat_lt t.level a) b b3 b4) (sym e2)
    (subst (λ (b : Bool). Parts a t more b b2 b3 b4) (sym e1) parts)))

data Place (a l : ℕ) : Type 0 where
  lower : l < a → Place a l
  on : l ≡ a → Place a l
  next : l ≡ a + 1 → Place a l
  beyond : a + 1 < l → Place a l

place_of : (a l : ℕ) → Place a l
place_of a l = elim (nat_lt l a) as (λ b. nat_lt l a ≡ b → Place a l) [
  | true ↦ λ e. lower (grind arith)
  | false ↦ λ e1. elim (l == a) as (λ b. (l == a) ≡ b → Place a l) [
    | true ↦ λ e. on (grind arith)
    | false ↦ λ e2. elim (l == (a + 1)) as (λ b. (l == (a + 1)) ≡ b → Place a l) [
      | true ↦ λ e. next (grind arith)
      | false ↦ λ e3. beyond (grind arith)
    ] refl
  ] refl
] refl

-- in their order: those of lesser levels, those of the two, and those deeper
pub parted : (a low : ℕ) (tables : List Table) → Levels low tables → tables ≡ above a tables ++ (on_level a tables ++ (on_level (a + 1) tables ++ deeper (a + 1) tables))
parted a low [] rise = refl
parted a low (t ∷ more) rise =
    let rest = ap (λ (l : List Table). t ∷ l) (parted a t.level more rise.1) in
    let b = above a more in let x0 = on_level a more in let x1 = on_level (a + 1) more in let d = deeper (a + 1) more in
    elim (place_of a t.level) [
      | lower less ↦ by_tests a t more true false false true (grind arith) (grind arith) (grind arith) (grind arith) rest
      | on same ↦ by_tests a t more false true false true (grind arith) (grind arith) (grind arith) (grind arith)
          (rest ∙ slide t b (x0 ++ (x1 ++ d)) (none_above a t.level more rise.1 (omega arith)))
      | next same ↦ by_tests a t more false false true true (grind arith) (grind arith) (grind arith) (grind arith)
          (rest ∙ slide t b (x0 ++ (x1 ++ d)) (none_above a t.level more rise.1 (omega arith))
          ∙ ap (λ (l : List Table). b ++ l) (slide t x0 (x1 ++ d) (none_on a t.level more rise.1 (omega arith))))
      | beyond more_than ↦ by_tests a t more false false false false (grind arith) (grind arith) (grind arith) (grind arith)
          (rest ∙ slide t b (x0 ++ (x1 ++ d)) (none_above a t.level more rise.1 (omega arith))
          ∙ ap (λ (l : List Table). b ++ l) (slide t x0 (x1 ++ d) (none_on a t.level more rise.1 (omega arith))
          ∙ ap (λ (l : List Table). x0 ++ l) (slide t x1 d (none_on (a + 1) t.level more rise.1 (omega arith)))))
    ]

-- the first few tables of level 0 aside, the others are what they were
pub dropped : (low few : ℕ) (tables : List Table) → Levels low tables → few ≤ length (on_level 0 tables)
    → (on_level 0 (drop few tables) ≡ drop few (on_level 0 tables)) × ((level : ℕ) → 1 ≤ level → on_level level (drop few tables) ≡ on_level level tables)
dropped low zero tables rise within = (refl, λ level some. refl)
dropped low (suc few) [] rise within = (refl, λ level some. refl)
dropped low (suc few) (t ∷ more) rise within = elim (t.level == 0) as (λ b. (t.level == 0) ≡ b → suc few ≤ length (cond b (t ∷ on_level 0 more) (on_level 0 more))
    → (on_level 0 (drop few more) ≡ drop (suc few) (cond b (t ∷ on_level 0 more) (on_level 0 more))) × ((level : ℕ) → 1 ≤ level → on_level level (drop few more) ≡ on_level level (t ∷ more))) [
      | true ↦ λ e enough. let rest = dropped t.level few more rise.1 (omega arith) in (
        rest.0,
        λ level some. let zero_level : t.level ≡ 0 = grind arith in let off : (t.level == level) ≡ false = grind arith in
            rest.1 level some ∙ sym (ap (λ (b : Bool). cond b (t ∷ on_level level more) (on_level level more)) off),
      )
      | false ↦ λ e enough. let none = none_on 0 t.level more rise.1 (grind arith) in
          let short : suc few ≤ 0 = subst (λ (l : List Table). suc few ≤ length l) none enough in absurd (omega arith)
    ] refl within
