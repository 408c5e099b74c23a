use Rattle.std.proofs.Common.{◌≡◌, ◌++◌, List, refl, sym, ap, ◌∙◌, subst, arith}
use Rattle.std.specs.Prelude.{None}
use Rattle.std.specs.Option.{option_map}
use Rattle.image_model.specs.Findings.{Finding}
use Rattle.store_check.specs.Checks.{CheckOfVersion, VersionLeft}
use Rattle.store_check.specs.Orders.{range_of_index, with_row}
use Rattle.store_check.specs.declared.stage.Stage.{Stage}
use Rattle.store_check.specs.declared.stage.Stage.TheVariants as stage
use Rattle.store_check.proofs.Parts.{few_rows, moved, row_of, row_was_left, row_was_seen, rows_left_over, sound_either}
use Rattle.store_check.proofs.check.Check.look_at_row.Goals as goal

pub returns-in_default-clause-same : goal.returns-in_default-clause-same
returns-in_default-clause-same g c later tells is left =
    let f = g.F.RangeFilter in
    let old = c.args.self.now in
    let held = (g.D.Disk.world c.args.disk.now).seen.held in
    let past : row_of old.version old.order ≡ None = sym c.row_at_hand.ensures.row ∙ c.in_default.is in
    let before = subst (λ (s : Stage). CheckOfVersion held old.order s old.version) c.requires.stage is in (
      left.0,
      subst (λ (s : Stage). VersionLeft f.spelling f.first_fault held old.order s old.version left.0) (sym c.requires.stage)
          (rows_left_over f.spelling f.first_fault held old.order old.version left.0 past before left.1),
      left.2,
    )

pub add-requires : goal.add-requires
add-requires g c =
    let old = c.args.self.now in
    few_rows old.version old.order c.in-Some.row (sym c.row_at_hand.ensures.row ∙ c.in-Some.is) old.sound

pub invariant_of-self-2 : goal.invariant_of-self-2
invariant_of-self-2 g c =
    let old = c.args.self.now in
    record {
      placed = omega arith;
      sound = sound_either c.add.result old.version old.order c.add.new.self c.in-Some.row c.in_ok-index.index (sym c.row_at_hand.ensures.row ∙ c.in-Some.is) old.sound c.add.ensures.added c.add.ensures.same;
    }

pub returns-clause-of : goal.returns-clause-of
returns-clause-of g c tells is =
    let f = g.F.RangeFilter in
    let old = c.args.self.now in
    let held = (g.D.Disk.world c.args.disk.now).seen.held in
    let index = c.in_ok-index.index in
    let before = subst (λ (s : Stage). CheckOfVersion held old.order s old.version) c.requires.stage is in
    moved (CheckOfVersion held) (with_row (option_map range_of_index index) old.order) c.add.new.self stage.Rows old.stage old.version old.version c.in_ok-add.ensures.added c.requires.stage refl
    (row_was_seen f.spelling f.first_fault held old.order c.in-Some.row index old.version (sym c.row_at_hand.ensures.row ∙ c.in-Some.is) (c.in_ok-index.ensures.index tells) before)

pub returns-clause-same : goal.returns-clause-same
returns-clause-same g c later tells is left =
    let f = g.F.RangeFilter in
    let old = c.args.self.now in
    let held = (g.D.Disk.world c.args.disk.now).seen.held in
    let index = c.in_ok-index.index in
    let after = with_row (option_map range_of_index index) old.order in
    let there = moved (λ o s v. VersionLeft f.spelling f.first_fault held o s v left.0) c.add.new.self after old.stage stage.Rows old.version old.version (sym c.in_ok-add.ensures.added) (sym c.requires.stage) refl left.1 in (
      later,
      subst (λ (s : Stage). VersionLeft f.spelling f.first_fault held old.order s old.version later) (sym c.requires.stage)
          (row_was_left f.spelling f.first_fault held old.order c.in-Some.row index old.version c.table_findings.new.found.items left.0 later (sym c.row_at_hand.ensures.row ∙ c.in-Some.is) (c.in_ok-index.ensures.found tells) there left.2),
      sym (ap (λ (fs : List Finding). fs ++ later) c.requires.none),
    )
