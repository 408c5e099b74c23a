-- What is chosen is some of the tables, in their order.
use Rattle.std.proofs.Common.{◌≡◌, inl, inr, ℕ, zero, suc, ◌≤◌, ◌<◌, ◌+◌, List, [], ◌∷◌, ◌++◌, length, refl, sym, subst, Bool, true, false, cond, arith}
use Rattle.std.specs.Prelude.{Some, nat_le, nat_lt, filter, take, drop}
use Rattle.std.specs.List.{AllByRecursion, AllPairs, sum_by}
use Rattle.std.proofs.lemmas.List.{length-append}
use Rattle.extent_model.proofs.Lists.{Pairs, pairs_of}
use Rattle.state_model.specs.State.{State, Job}
use Rattle.table_model.specs.Tables.{FilterBytes, Table}
use Rattle.state_model.specs.Merges.{Plan, plan_of, on_level, reaches_into, level_limit, is_over, first_over, choose}
use Rattle.state_model.specs.Sound.{IsSound, StandsBefore, MayRun, IsJob, plan_of_job}
use Rattle.state_model.specs.Laws.{AreSomeOf}
use Rattle.state_model.proofs.Levels.{deeper}
use Rattle.state_model.proofs.Orders.{pairs_drop}
use Rattle.state_model.proofs.Parts.{above, levels_of, parted}
use Rattle.state_model.proofs.SoundInstalls.{chosen_deep}

-- ---- parts

part_of_more : (xs : List Table) (u : Table) (all : List Table) → AreSomeOf xs all → AreSomeOf xs (u ∷ all)
part_of_more [] u all part = tt
part_of_more (x ∷ xs) u all part = inr part

part_behind : (xs front all : List Table) → AreSomeOf xs all → AreSomeOf xs (front ++ all)
part_behind xs [] all part = part
part_behind xs (u ∷ front) all part = part_of_more xs u (front ++ all) (part_behind xs front all part)

part_none : (all : List Table) → AreSomeOf [] all
part_none all = tt

part_join : (xs ys all others : List Table) → AreSomeOf xs all → AreSomeOf ys others → AreSomeOf (xs ++ ys) (all ++ others)
part_join [] ys all others part other = part_behind ys all others other
part_join (x ∷ xs) ys [] others part other = absurd part
part_join (x ∷ xs) ys (u ∷ all) others (inl (same, rest)) other = inl (same, part_join xs ys all others rest other)
part_join (x ∷ xs) ys (u ∷ all) others (inr rest) other = inr (part_join (x ∷ xs) ys all others rest other)

part_kept : (test : Table → Bool) (all : List Table) → AreSomeOf (filter test all) all
part_kept test [] = tt
part_kept test (t ∷ more) = elim (test t) as (λ b. AreSomeOf (cond b (t ∷ filter test more) (filter test more)) (t ∷ more)) [
  | true ↦ inl (refl, part_kept test more)
  | false ↦ part_of_more (filter test more) t more (part_kept test more)
]

part_first : (n : ℕ) (all : List Table) → AreSomeOf (take n all) all
part_first zero all = tt
part_first (suc n) [] = tt
part_first (suc n) (t ∷ more) = inl (refl, part_first n more)

part_front : (xs all others : List Table) → AreSomeOf xs all → AreSomeOf xs (all ++ others)
part_front [] all others part = tt
part_front (x ∷ xs) [] others part = absurd part
part_front (x ∷ xs) (u ∷ all) others (inl (same, rest)) = inl (same, part_front xs all others rest)
part_front (x ∷ xs) (u ∷ all) others (inr rest) = inr (part_front (x ∷ xs) all others rest)

part_of_rest : (n : ℕ) (xs all : List Table) → AreSomeOf xs (drop n all) → AreSomeOf xs all
part_of_rest zero xs all part = part
part_of_rest (suc n) xs [] part = part
part_of_rest (suc n) xs (u ∷ all) part = part_of_more xs u all (part_of_rest n xs all part)

-- ---- what is chosen

-- some tables of a level, and those of the next that they reach
level_part : (a : ℕ) (all tables : List Table) → Pairs StandsBefore all → AreSomeOf tables (on_level a all) → AreSomeOf (plan_of all tables (a + 1)).inputs all
level_part a all tables order part =
    let reached = filter (reaches_into tables) (on_level (a + 1) all) in
    let two = part_join tables (reached ++ []) (on_level a all) (on_level (a + 1) all ++ deeper (a + 1) all) part
    (part_join reached [] (on_level (a + 1) all) (deeper (a + 1) all) (part_kept (reaches_into tables) (on_level (a + 1) all)) (part_none (deeper (a + 1) all))) in
    subst (λ (l : List Table). AreSomeOf (tables ++ l) all) (Rattle.std.proofs.lemmas.List.append-nil reached)
    (subst (AreSomeOf (tables ++ (reached ++ []))) (sym (parted a 0 all (levels_of all order)))
    (part_behind (tables ++ (reached ++ [])) (above a all) (on_level a all ++ (on_level (a + 1) all ++ deeper (a + 1) all)) two))

-- what a plan of all tables has, whichever level it comes from
abbrev EachChoice : (List Table → Plan → Type 0) → List Table → Type 0
EachChoice P all = ((1 ≤ length (on_level 0 all)) → P all (plan_of all (on_level 0 all) 1)) × ((level : ℕ) → 1 ≤ level → level ≤ 5 → is_over all level ≡ true → P all (plan_of all (take 1 (on_level level all)) (level + 1)))

over_has : (P : List Table → Plan → Type 0) (all : List Table) (levels : List ℕ) (plan : Plan) → EachChoice P all → AllByRecursion (λ level. (1 ≤ level) × (level ≤ 5)) levels → first_over all levels ≡ Some plan → P all plan
over_has P all [] plan has within e = absurd cc
over_has P all (level ∷ more) plan has within e = elim (is_over all level) as (λ b. is_over all level ≡ b → cond b (Some (plan_of all (take 1 (on_level level all)) (level + 1))) (first_over all more) ≡ Some plan → P all plan) [
  | true ↦ λ over e. let same : plan_of all (take 1 (on_level level all)) (level + 1) ≡ plan = cc in subst (P all) same (has.1 level within.0.0 within.0.1 over)
  | false ↦ λ _ e. over_has P all more plan has within.1 e
] refl e

four_some : (n : ℕ) → nat_le 4 n ≡ true → 1 ≤ n
four_some n e = grind arith

choice_has : (P : List Table → Plan → Type 0) (all : List Table) (plan : Plan) → EachChoice P all → choose all ≡ Some plan → P all plan
choice_has P all plan has e = elim (nat_le 4 (length (on_level 0 all))) as (λ b. nat_le 4 (length (on_level 0 all)) ≡ b
    → cond b (Some (plan_of all (on_level 0 all) 1)) (first_over all (1 ∷ 2 ∷ 3 ∷ 4 ∷ 5 ∷ [])) ≡ Some plan → P all plan) [
      | true ↦ λ four e. let same : plan_of all (on_level 0 all) 1 ≡ plan = cc in subst (P all) same (has.0 (four_some (length (on_level 0 all)) four))
      | false ↦ λ _ e. over_has P all (1 ∷ 2 ∷ 3 ∷ 4 ∷ 5 ∷ []) plan has
          ((omega arith, omega arith), ((omega arith, omega arith), ((omega arith, omega arith), ((omega arith, omega arith), ((omega arith, omega arith), tt))))) e
    ] refl e

-- a level that has pages has tables
over_some : (limit : ℕ) (tables : List Table) → nat_lt limit (sum_by (λ (t : Table). t.pages) tables) ≡ true → 1 ≤ length (take 1 tables)
over_some limit [] e = absurd (bad limit e)
  where
    bad : (limit : ℕ) → nat_lt limit 0 ≡ true → ⊥
    bad limit e = absurd (omega (arith, lt_of limit 0 e))
      where
        lt_of : (m n : ℕ) → nat_lt m n ≡ true → m < n
        lt_of m n e = grind arith
over_some limit (t ∷ more) e = omega arith

pub chosen_some : (tables : List Table) (plan : Plan) → choose tables ≡ Some plan → 1 ≤ length plan.inputs
chosen_some all plan e = choice_has (λ _ plan. 1 ≤ length plan.inputs) all plan (
  λ some. omega (arith, some, length-append (on_level 0 all) (filter (reaches_into (on_level 0 all)) (on_level 1 all))),
  λ level low high over. let one = take 1 (on_level level all) in
      omega (arith, over_some (level_limit level) (on_level level all) over, length-append one (filter (reaches_into one) (on_level (level + 1) all))),
) e

pub chosen_output : (tables : List Table) (plan : Plan) → choose tables ≡ Some plan → (1 ≤ plan.output) × (plan.output ≤ 6)
chosen_output all plan e = (choice_has (λ _ plan. 1 ≤ plan.output) all plan (λ _. omega arith, λ level low high over. omega arith) e, chosen_deep all plan e)

whole_part : (all : List Table) → AreSomeOf all all
whole_part [] = tt
whole_part (t ∷ more) = inl (refl, whole_part more)

part_of_choice : (all : List Table) (plan : Plan) → Pairs StandsBefore all → choose all ≡ Some plan → AreSomeOf plan.inputs all
part_of_choice all plan order e = choice_has (λ all plan. AreSomeOf plan.inputs all) all plan (
  λ some. level_part 0 all (on_level 0 all) order (whole_part (on_level 0 all)),
  λ level low high over. level_part level all (take 1 (on_level level all)) order (part_first 1 (on_level level all)),
) e

pub chosen_part : (tables : List Table) (plan : Plan) → AllPairs StandsBefore tables → choose tables ≡ Some plan → AreSomeOf plan.inputs tables
chosen_part all plan order e = part_of_choice all plan (pairs_of StandsBefore all order) e

pub job_part : (filter_bytes : FilterBytes) (s : State) (job : Job) → IsSound filter_bytes s → s.job ≡ Some job → AreSomeOf job.inputs s.tables
job_part filter_bytes s job sound runs =
    let is : IsJob filter_bytes s.settings s.tables job = subst (MayRun filter_bytes s.settings s.tables) runs sound.job in
    part_of_rest is.flushes job.inputs s.tables
    (part_of_choice (drop is.flushes s.tables) (plan_of_job job) (pairs_drop StandsBefore is.flushes s.tables (pairs_of StandsBefore s.tables sound.order)) is.chosen)
