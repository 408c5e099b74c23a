use Rattle.std.proofs.Common.{◌≡◌, ◌-◌, ◌+◌, ◌++◌, ℕ, List, [], ◌∷◌, length, map, drop, ap, ◌∙◌}
use Rattle.level_merge.specs.Outlines.{table_number, outlines}
use Rattle.level_merge.proofs.Outlines.{kept_more, level_kept, level_passed, passed_more}
use Rattle.state_model.specs.Merges.{on_level}
use Rattle.table_file.specs.Opened.{Opened}
use Rattle.level_merge.proofs.choosing.numbers_on.Goals.{then-row-level+in_ok-push, else-row-level}
use Rattle.level_merge.proofs.choosing.numbers_on.Goals as goal

-- the numbers so far, and those of what is left
abbrev with_rest : ℕ → List Opened → ℕ → List ℕ → List ℕ
with_rest level tables place which = which ++ map table_number (on_level level (outlines (drop place tables)))

pub loop-place-preserved : goal.loop-place-preserved
loop-place-preserved g c =
    let tables = c.args.tables.now in
    let place = c.loop-place.place in
    let level = c.args.level in
    let which = c.loop-place.which.items in
    let t = c.index-tables-place.result in
    let number = length tables - 1 - place in
    elim c.if-row-level.branch [
      | then-row-level+in_ok-push w ↦
          let same : t.row.level ≡ level = cc in
          let pushed : c.if-row-level.which.items ≡ which ++ number ∷ [] =
          ap (λ v. v.items) w.which-is ∙ w.in_ok-push.ensures.items ∙ ap (λ n. which ++ n ∷ []) w.number_at.ensures in
          ap (with_rest level tables (place + 1)) pushed
          ∙ kept_more (on_level level) tables place t which c.loop-place-test.true c.index-tables-place.is (level_kept level number t same)
          ∙ c.loop-place.invariant
      | else-row-level w ↦
          let other : t.row.level ≡ level → ⊥ = λ e. w.if-row-level.false (ap (λ r. r.level) c.row.ensures.row ∙ e) in
          ap (λ v. with_rest level tables (place + 1) v.items) w.which-is
          ∙ ap (λ l. which ++ map table_number l) (passed_more (on_level level) tables place t c.loop-place-test.true c.index-tables-place.is (level_passed level number t other))
          ∙ c.loop-place.invariant
    ]
