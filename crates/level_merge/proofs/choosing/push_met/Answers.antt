use Rattle.std.proofs.Common.{◌≡◌, ◌-◌, ◌+◌, ◌++◌, ℕ, List, [], ◌∷◌, length, map, drop, true, false, cond, sym, ap, ◌∙◌}
use Rattle.std.specs.Prelude.{filter}
use Rattle.map_model.specs.SortedMap.{Bytes}
use Rattle.level_merge.specs.Outlines.{table_number, outline, outlines, overlaps}
use Rattle.level_merge.proofs.Outlines.{kept_more, level_kept, level_passed, passed_more}
use Rattle.state_model.specs.Merges.{on_level}
use Rattle.table_file.specs.Opened.{Opened}
use Rattle.table_model.specs.Tables.{Table}
use Rattle.level_merge.proofs.choosing.push_met.Goals.{then-row-level+then-overlaps+in_ok-push, else-row-level, else-row-level-via-then-row-level+else-overlaps, else-row-level-via-else-row-level}
use Rattle.level_merge.proofs.choosing.push_met.Goals as goal

-- the tables of the level that are met
abbrev met : ℕ → Bytes → Bytes → List Table → List Table
met level lo hi tables = filter (overlaps lo hi) (on_level level tables)

met_kept : (level : ℕ) (lo hi : Bytes) (number : ℕ) (t : Opened) → t.row.level ≡ level → overlaps lo hi (outline 0 t) ≡ true → (more : List Table)
    → met level lo hi (outline number t ∷ more) ≡ outline number t ∷ met level lo hi more
met_kept level lo hi number t same meets more =
    ap (filter (overlaps lo hi)) (level_kept level number t same more) ∙ ap (λ b. cond b (outline number t ∷ met level lo hi more) (met level lo hi more)) meets

met_passed : (level : ℕ) (lo hi : Bytes) (number : ℕ) (t : Opened) → t.row.level ≡ level → overlaps lo hi (outline 0 t) ≡ false → (more : List Table)
    → met level lo hi (outline number t ∷ more) ≡ met level lo hi more
met_passed level lo hi number t same meets more =
    ap (filter (overlaps lo hi)) (level_kept level number t same more) ∙ ap (λ b. cond b (outline number t ∷ met level lo hi more) (met level lo hi more)) meets

met_other : (level : ℕ) (lo hi : Bytes) (number : ℕ) (t : Opened) → (t.row.level ≡ level → ⊥) → (more : List Table) → met level lo hi (outline number t ∷ more) ≡ met level lo hi more
met_other level lo hi number t other more = ap (filter (overlaps lo hi)) (level_passed level number t other more)

-- the numbers so far, and those of what is left
abbrev with_rest : ℕ → Bytes → Bytes → List Opened → ℕ → List ℕ → List ℕ
with_rest level lo hi tables place which = which ++ map table_number (met level lo hi (outlines (drop place tables)))

pub loop-place-preserved : goal.loop-place-preserved
loop-place-preserved g c =
    let tables = c.args.tables.now in
    let place = c.loop-place.place in
    let level = c.args.level in
    let lo = c.args.lo.now in
    let hi = c.args.hi.now in
    let which = c.loop-place.which.items in
    let t = c.index-tables-place.result in
    let number = length tables - 1 - place in
    elim c.if-row-level.branch [
      | then-row-level+then-overlaps+in_ok-push w ↦
          let same : t.row.level ≡ level = cc in
          let meets : overlaps lo hi (outline 0 t) ≡ true = sym w.overlaps.ensures ∙ w.if-overlaps.true in
          let pushed : c.if-row-level.which.items ≡ which ++ number ∷ [] =
          ap (λ v. v.items) w.which-is ∙ w.in_ok-push.ensures.items ∙ ap (λ n. which ++ n ∷ []) w.number_at.ensures in
          ap (with_rest level lo hi tables (place + 1)) pushed
          ∙ kept_more (met level lo hi) tables place t which c.loop-place-test.true c.index-tables-place.is (met_kept level lo hi number t same meets)
          ∙ c.loop-place.invariant
      | else-row-level w ↦
          let step : ((more : List Table) → met level lo hi (outline number t ∷ more) ≡ met level lo hi more) = elim w.else-row-level.branch [
            | else-row-level-via-then-row-level+else-overlaps v ↦
                let same : t.row.level ≡ level = cc in
                met_passed level lo hi number t same (sym v.overlaps.ensures ∙ v.if-overlaps.false)
            | else-row-level-via-else-row-level v ↦ met_other level lo hi number t (λ e. v.if-row-level.false (ap (λ r. r.level) c.row.ensures.row ∙ e))
          ] in
          ap (λ v. with_rest level lo hi tables (place + 1) v.items) w.which-is
          ∙ ap (λ l. which ++ map table_number l) (passed_more (met level lo hi) tables place t c.loop-place-test.true c.index-tables-place.is step)
          ∙ c.loop-place.invariant
    ]
