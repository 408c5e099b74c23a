use Rattle.std.proofs.Common.{◌≡◌, ◌≤◌, ◌+◌, ◌-◌, ℕ, zero, suc, List, [], ◌∷◌, drop, false, cond, refl, sym, ap, ◌∙◌, arith}
use Rattle.std.specs.List.{sum_by}
use Rattle.std.specs.Prelude.{Some, nat_lt, take}
use Rattle.level_merge.specs.Outlines.{outlines}
use Rattle.state_model.specs.Merges.{first_over, is_over, on_level, plan_of}
use Rattle.table_model.specs.Tables.{Table}
use Rattle.level_merge.proofs.choosing.level_over.Goals as goal

abbrev levels : List ℕ
levels = 1 ∷ 2 ∷ 3 ∷ 4 ∷ 5 ∷ []

next_level : (level : ℕ) → 1 ≤ level → level ≤ 5 → drop (level - 1) levels ≡ level ∷ drop (level + 1 - 1) levels
next_level zero low high = absurd (omega arith)
next_level (suc zero) low high = refl
next_level (suc (suc zero)) low high = refl
next_level (suc (suc (suc zero))) low high = refl
next_level (suc (suc (suc (suc zero)))) low high = refl
next_level (suc (suc (suc (suc (suc zero))))) low high = refl
next_level (suc (suc (suc (suc (suc (suc level)))))) low high = absurd (omega arith)

passed : (ts : List Table) (level : ℕ) → 1 ≤ level → level ≤ 5 → is_over ts level ≡ false → first_over ts (drop (level - 1) levels) ≡ first_over ts (drop (level + 1 - 1) levels)
passed ts level low high not_over =
    ap (first_over ts) (next_level level low high)
    ∙ ap (λ b. cond b (Some (plan_of ts (take 1 (on_level level ts)) (level + 1))) (first_over ts (drop (level + 1 - 1) levels))) not_over

pub loop-level-preserved : goal.loop-level-preserved
loop-level-preserved g c =
    let low : 1 ≤ c.loop-level.level = omega arith in
    let high : c.loop-level.level ≤ 5 = omega arith in
    let over : is_over (outlines c.args.tables.now) c.loop-level.level ≡ false =
    ap (λ n. nat_lt n (sum_by (λ (t : Table). t.pages) (on_level c.loop-level.level (outlines c.args.tables.now)))) (sym c.level_limit.ensures.limit)
    ∙ sym c.is_over.ensures ∙ c.if-is_over.false in
    sym (passed (outlines c.args.tables.now) c.loop-level.level low high over) ∙ c.loop-level.invariant
