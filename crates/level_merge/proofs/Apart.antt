-- What is chosen among the outlines of open tables names each of them once.
use Rattle.std.proofs.Common.{◌≡◌, ◌≢◌, ℕ, zero, suc, ◌<◌, ◌+◌, ◌∙◌, List, [], ◌∷◌, ◌++◌, length, map, sym, ap, subst, Bool, true, false, cond, arith}
use Rattle.std.specs.Prelude.{Some, nat_le, filter, take, ◌==◌}
use Rattle.std.specs.List.{AllByRecursion, AllPairs}
use Rattle.extent_model.proofs.Lists.{Pairs, all_kept, all_pairs, all_pass}
use Rattle.level_merge.specs.Outlines.{by_numbers, outline, outline_of, outlines, table_number}
use Rattle.level_merge.proofs.Outlines.{IsNumbered, all_numbered, all_taken}
use Rattle.state_model.specs.Merges.{Plan, choose, first_over, is_over, reaches_into, on_level, plan_of}
use Rattle.table_file.specs.Opened.{Opened}
use Rattle.table_model.specs.Tables.{Table}

-- the numbers differ
abbrev Differ : Table → Table → Type 0
Differ t u = table_number t ≢ table_number u

all_with : {X : Type 0} (P Q R : X → Type 0) (xs : List X) → ((x : X) → P x → Q x → R x) → AllByRecursion P xs → AllByRecursion Q xs → AllByRecursion R xs
all_with P Q R [] f p q = tt
all_with P Q R (x ∷ more) f p q = (f x p.0 q.0, all_with P Q R more f p.1 q.1)

all_of : {X : Type 0} (P Q : X → Type 0) (xs : List X) → ((x : X) → P x → Q x) → AllByRecursion P xs → AllByRecursion Q xs
all_of P Q xs f p = all_with P P Q xs (λ x p q. f x p) p p

all_joined : {X : Type 0} (P : X → Type 0) (xs ys : List X) → AllByRecursion P xs → AllByRecursion P ys → AllByRecursion P (xs ++ ys)
all_joined P [] ys p q = q
all_joined P (x ∷ xs) ys p q = (p.0, all_joined P xs ys p.1 q)

pairs_joined : {X : Type 0} (R : X → X → Type 0) (xs ys : List X) → Pairs R xs → Pairs R ys → AllByRecursion (λ x. AllByRecursion (R x) ys) xs → Pairs R (xs ++ ys)
pairs_joined R [] ys p q across = q
pairs_joined R (x ∷ xs) ys p q across = (all_joined (R x) xs ys p.0 across.0, pairs_joined R xs ys p.1 q across.1)

pairs_kept : {X : Type 0} (R : X → X → Type 0) (test : X → Bool) (xs : List X) → Pairs R xs → Pairs R (filter test xs)
pairs_kept R test [] p = tt
pairs_kept R test (x ∷ more) p = elim (test x) as (λ b. Pairs R (cond b (x ∷ filter test more) (filter test more))) [
  | true ↦ (all_kept (R x) test more p.0, pairs_kept R test more p.1)
  | false ↦ pairs_kept R test more p.1
]

pairs_taken : {X : Type 0} (R : X → X → Type 0) (n : ℕ) (xs : List X) → Pairs R xs → Pairs R (take n xs)
pairs_taken R zero xs p = tt
pairs_taken R (suc n) [] p = tt
pairs_taken R (suc n) (x ∷ more) p = (all_taken (R x) n more p.0, pairs_taken R n more p.1)

numbers_all : (t : Table) (us : List Table) → AllByRecursion (Differ t) us → AllByRecursion (λ n. table_number t ≢ n) (map table_number us)
numbers_all t [] all = tt
numbers_all t (u ∷ us) all = (all.0, numbers_all t us all.1)

numbers_differ : (ts : List Table) → Pairs Differ ts → Pairs (λ m n. m ≢ n) (map table_number ts)
numbers_differ [] p = tt
numbers_differ (t ∷ ts) p = (numbers_all t ts p.0, numbers_differ ts p.1)

-- ---- outlines

less_differs : (m n : ℕ) → n < m → m ≢ n
less_differs m n less same = absurd (omega (arith, less, same))

outlines_differ : (ts : List Opened) → Pairs Differ (outlines ts)
outlines_differ [] = tt
outlines_differ (t ∷ later) = (
  all_of (IsNumbered later) (Differ (outline (length later) t)) (outlines later) (λ u is. less_differs (length later) (table_number u) is.0) (all_numbered later),
  outlines_differ later,
)

-- on a level, and numbered
abbrev IsOn : List Opened → ℕ → Table → Type 0
IsOn ts level t = IsNumbered ts t × (t.level ≡ level)

level_of : (t : Table) (level : ℕ) → (t.level == level) ≡ true → t.level ≡ level
level_of t level e = grind arith

all_on : (ts : List Opened) (level : ℕ) → AllByRecursion (IsOn ts level) (on_level level (outlines ts))
all_on ts level =
    all_with (IsNumbered ts) (λ (t : Table). (t.level == level) ≡ true) (IsOn ts level) (on_level level (outlines ts)) (λ t is e. (is, level_of t level e))
    (all_kept (IsNumbered ts) (λ (t : Table). t.level == level) (outlines ts) (all_numbered ts)) (all_pass (λ (t : Table). t.level == level) (outlines ts))

-- of different levels
levels_differ : (ts : List Opened) (a b : ℕ) (t u : Table) → a ≢ b → IsOn ts a t → IsOn ts b u → Differ t u
levels_differ ts a b t u other is at same =
    let one : t ≡ u = sym is.0.1 ∙ ap (outline_of ts) same ∙ at.0.1 in
    absurd (other (sym is.1 ∙ ap (λ (x : Table). x.level) one ∙ at.1))

-- some of a level, and what they meet on another one
plan_apart : (ts : List Opened) (tables : List Table) (a b : ℕ) → a ≢ b → Pairs Differ tables → AllByRecursion (IsOn ts a) tables → Pairs Differ (plan_of (outlines ts) tables b).inputs
plan_apart ts tables a b other pairs on =
    let met = filter (reaches_into tables) (on_level b (outlines ts)) in
    let there = all_kept (IsOn ts b) (reaches_into tables) (on_level b (outlines ts)) (all_on ts b) in
    pairs_joined Differ tables met pairs (pairs_kept Differ (reaches_into tables) (on_level b (outlines ts)) (pairs_kept Differ (λ (t : Table). t.level == b) (outlines ts) (outlines_differ ts)))
    (all_of (IsOn ts a) (λ t. AllByRecursion (Differ t) met) tables (λ t is. all_of (IsOn ts b) (Differ t) met (λ u at. levels_differ ts a b t u other is at) there) on)

one_plan : (p q : Plan) → Some p ≡ Some q → p ≡ q
one_plan p q e = cc

next_differs : (level : ℕ) → level ≢ level + 1
next_differs level same = absurd (omega (arith, same))

over_apart : (ts : List Opened) (levels : List ℕ) (plan : Plan) → first_over (outlines ts) levels ≡ Some plan → Pairs Differ plan.inputs
over_apart ts [] plan e = absurd cc
over_apart ts (level ∷ more) plan e =
    let all = outlines ts in
    let here = plan_of all (take 1 (on_level level all)) (level + 1) in
    elim (is_over all level) as (λ b. cond b (Some here) (first_over all more) ≡ Some plan → Pairs Differ plan.inputs) [
      | true ↦ λ e.
          subst (λ (p : Plan). Pairs Differ p.inputs) (one_plan here plan e)
          (plan_apart ts (take 1 (on_level level all)) level (level + 1) (next_differs level)
          (pairs_taken Differ 1 (on_level level all) (pairs_kept Differ (λ (t : Table). t.level == level) all (outlines_differ ts)))
          (all_taken (IsOn ts level) 1 (on_level level all) (all_on ts level)))
      | false ↦ λ e. over_apart ts more plan e
    ] e

inputs_apart : (ts : List Opened) (plan : Plan) → choose (outlines ts) ≡ Some plan → Pairs Differ plan.inputs
inputs_apart ts plan e =
    let all = outlines ts in
    let here = plan_of all (on_level 0 all) 1 in
    elim (nat_le 4 (length (on_level 0 all))) as (λ b. cond b (Some here) (first_over all (1 ∷ 2 ∷ 3 ∷ 4 ∷ 5 ∷ [])) ≡ Some plan → Pairs Differ plan.inputs) [
      | true ↦ λ e.
          subst (λ (p : Plan). Pairs Differ p.inputs) (one_plan here plan e)
          (plan_apart ts (on_level 0 all) 0 1 (next_differs 0) (pairs_kept Differ (λ (t : Table). t.level == 0) all (outlines_differ ts)) (all_on ts 0))
      | false ↦ λ e. over_apart ts (1 ∷ 2 ∷ 3 ∷ 4 ∷ 5 ∷ []) plan e
    ] e

pub chosen_apart : (ts : List Opened) (plan : Plan) → choose (outlines ts) ≡ Some plan → AllPairs (λ m n. m ≢ n) (by_numbers plan).inputs
chosen_apart ts plan e = all_pairs (λ (m n : ℕ). m ≢ n) (map table_number plan.inputs) (numbers_differ plan.inputs (inputs_apart ts plan e))
